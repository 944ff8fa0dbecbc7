-- Slots for guests: which are visited, and which end.
use Rattle.std.specs.Prelude.{◌≡◌, ◌≢◌, ◌∷◌, [], ℕ, Bool, true, false, List, Option, Some, None, IfSome, is_none, is_some, not, ◌&&◌, ◌||◌, if◌then◌else◌}
use Rattle.std.specs.List.{AllByRecursion, list_all, list_any}
use Rattle.registry_server.specs.declared.connection.Visit.{Visit}
use Rattle.registry_server.specs.declared.connection.Visit.TheVariants.{Again, Rests, Over}
use Rattle.registry_service.specs.Turns.{Answering}
use Rattle.registry_guests.specs.Guests.{HasNoMessage, IsOver, IsWithin, OpenGuest, Visits, first_guest, is_late, must_wait}
use Rattle.registry_guests.specs.Controls as controls
use Rattle.registry_guests.specs.declared.control.Control.{Control}
use Rattle.registry_guests.specs.declared.guest_pool.GuestSlot.{GuestSlot}

-- as many guests as are there at once
abbrev pub slot_count : ℕ
slot_count = 8

abbrev pub slot : {S : Type 0} → Option (OpenGuest S) → Bool → GuestSlot S
slot guest is_ready = record { guest = guest; is_ready = is_ready }

-- nobody is there
abbrev pub free : {S : Type 0} → GuestSlot S
free = slot None false

abbrev pub is_free : {S : Type 0} → GuestSlot S → Bool
is_free s = is_none s.guest

-- somebody is there who is to be visited
abbrev pub is_due : {S : Type 0} → GuestSlot S → Bool
is_due s = s.is_ready && is_some s.guest

-- nobody is in any slot
abbrev pub is_empty : {S : Type 0} → List (GuestSlot S) → Bool
is_empty slots = list_all is_free slots

-- Somebody can go on at once: the connection that came to hold or stop the server, or a guest while
-- nobody holds it.
abbrev pub can_go_on : {S : Type 0} → Control S → List (GuestSlot S) → Bool
can_go_on control slots = controls.is_due control || (not (controls.holds control) && list_any is_due slots)

-- no more is held of a guest than a message may have, if one is there
abbrev pub IsWithinAt : {S : Type 0} → GuestSlot S → Type 0
IsWithinAt s = IfSome s.guest IsWithin

-- a new guest, who is to be visited
abbrev pub new_at : {S : Type 0} → ℕ → S → GuestSlot S
new_at now socket = slot (Some (first_guest socket now)) true

-- it is to be visited
abbrev pub woken : {S : Type 0} → GuestSlot S → GuestSlot S
woken s = slot s.guest true

-- a guest ends when its time is up
abbrev pub in_time : {S : Type 0} → ℕ → Option (OpenGuest S) → Option (OpenGuest S)
in_time now None = None
in_time now (Some g) = if is_late g now then None else Some g

abbrev pub kept_at : {S : Type 0} → ℕ → GuestSlot S → GuestSlot S
kept_at now s = slot (in_time now s.guest) s.is_ready

-- what is in a slot after a visit with this end
abbrev pub after_visit : {S : Type 0} → Visit → OpenGuest S → GuestSlot S
after_visit Again g = slot (Some g) true
after_visit Rests g = slot (Some g) false
after_visit Over g = slot None false

module _ {S : Type 0} (received sent : S → Option (List ℕ)) (has_none is_full is_ended is_broken : S → Bool) {D : Type 0} (answers : Answering D) where
  -- A guest was visited: it goes on at once, rests, or is over. It goes on or rests only where no more
  -- of its message is held than one may have; and rests only where its socket gives nothing of it, and
  -- what came is no message yet, or takes nothing of its answer.
  pub record VisitsOne (most : ℕ) (old : OpenGuest S) (new : GuestSlot S) (M N : D) (readings readings2 : Option (List ℕ)) : Type 0 where
    pub guest : OpenGuest S
    pub visits : Visits received sent has_none answers most old guest M N readings readings2
    pub visit : Visit
    pub slot_after : new ≡ after_visit visit guest
    pub within : visit ≢ Over → IsWithin old → IsWithin guest
    pub waits : visit ≡ Rests → must_wait has_none is_full guest ≡ true
    pub no_message : visit ≡ Rests → HasNoMessage guest
    pub over : visit ≡ Over → IsOver is_ended is_broken guest

  -- nobody was visited, and the slot is as this one
  pub record VisitsNone (old new : GuestSlot S) (M N : D) (readings readings2 : Option (List ℕ)) : Type 0 where
    pub slot_after : new ≡ old
    pub service : N ≡ M
    pub unasked : readings2 ≡ readings

  -- in a slot that is to be visited, with this guest, if one is there
  abbrev pub VisitsThere : ℕ → Option (OpenGuest S) → GuestSlot S → D → D → Option (List ℕ) → Option (List ℕ) → Type 0
  VisitsThere most None new M N readings readings2 = VisitsNone (slot None false) new M N readings readings2
  VisitsThere most (Some g) new M N readings readings2 = VisitsOne most g new M N readings readings2

  abbrev pub VisitsIf : Bool → ℕ → GuestSlot S → GuestSlot S → D → D → Option (List ℕ) → Option (List ℕ) → Type 0
  VisitsIf true most old new M N readings readings2 = VisitsThere most old.guest new M N readings readings2
  VisitsIf false most old new M N readings readings2 = VisitsNone old new M N readings readings2

module _ {S : Type 0} (received sent : S → Option (List ℕ)) (has_none is_full is_ended is_broken : S → Bool) {D : Type 0} (answers : Answering D) (over : D → Bool) where
  -- a slot is visited where it is to be, unless the service is over
  abbrev pub VisitsAt : ℕ → GuestSlot S → GuestSlot S → D → D → Option (List ℕ) → Option (List ℕ) → Type 0
  VisitsAt most old new M N readings readings2 =
      VisitsIf received sent has_none is_full is_ended is_broken answers (old.is_ready && not (over M)) most old new M N readings readings2

  -- Each guest that is to be visited is visited once, in the order of the slots, and no other is.
  -- After the visit in which the service is over, none is visited. At most this many bytes are
  -- received from each.
  abbrev pub VisitsAll : ℕ → List (GuestSlot S) → List (GuestSlot S) → D → D → Option (List ℕ) → Option (List ℕ) → Type 0
  VisitsAll most [] [] M N readings readings2 = (N ≡ M) × (readings2 ≡ readings)
  VisitsAll most (p ∷ slots) (q ∷ slots2) M N readings readings2 =
      (between : D) × (readings1 : Option (List ℕ)) × VisitsAt most p q M between readings readings1
      × VisitsAll most slots slots2 between N readings1 readings2
  VisitsAll most [] (q ∷ slots2) M N readings readings2 = ⊥
  VisitsAll most (p ∷ slots) [] M N readings readings2 = ⊥

  -- where no more is held of each guest than a message may have, that stays so
  abbrev pub StayWithin : Type 0
  StayWithin = (most : ℕ) (slots slots2 : List (GuestSlot S)) (M N : D) (readings readings2 : Option (List ℕ)) → VisitsAll most slots slots2 M N readings readings2
      → AllByRecursion IsWithinAt slots → AllByRecursion IsWithinAt slots2

  -- the guests in these slots are visited
  abbrev pub VisitsSlots : ℕ → List (GuestSlot S) → D → D → Option (List ℕ) → Option (List ℕ) → Type 0
  VisitsSlots most slots M N readings readings2 = (slots2 : List (GuestSlot S)) × VisitsAll most slots slots2 M N readings readings2
