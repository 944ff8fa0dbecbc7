-- What the steps of a visit of a guest come to.
use Rattle.std.proofs.Common.{◌≡◌, ◌<◌, ◌≤◌, ◌++◌, ◌∷◌, ◌==◌, ◌∙◌, [], ℕ, Bool, true, List, Option, None, Some, length, take, drop, refl, ap, sym, subst, inl, inr, arith, append-nil, length-append}
use Rattle.std.proofs.lemmas.Bool.Decides.{nat_tests}
use Rattle.std.proofs.lemmas.List.{length-take, take-append-drop}
use Rattle.std.specs.Io.KnownBytes.{append_known}
use Rattle.registry_server.specs.Sockets.{moved}
use Rattle.registry_server.specs.declared.socket.Flow.{Flow}
use Rattle.registry_server.specs.declared.socket.Flow.TheVariants.{Moved, Waits, Ended, Broken}
use Rattle.registry_service.specs.Turns.{Answering}
use Rattle.registry_guests.specs.Guests.{Receives, IsDue, OpenGuest, SendsDue, Visits, VisitsIn}
use Rattle.registry_guests.specs.Outputs.{Output, sent_as}

-- nothing more is known of the same bytes
none-added : (known : Option (List ℕ)) → known ≡ append_known known []
none-added None = refl
none-added (Some xs) = ap (λ (l : List ℕ). Some l) (sym (append-nil xs))

-- no byte is left
pub none-left : (l : List ℕ) → (length l == 0) ≡ true → l ≡ []
none-left [] is = refl
none-left (x ∷ xs) is = absurd (grind (arith, nat_tests, is))

few-taken : (count : ℕ) (bytes before : List ℕ) → length bytes ≡ length before → length (take count bytes) ≤ length before
few-taken count bytes before same = omega (arith, length-take count bytes, same)

few-moved : (flow : Flow) (bytes before : List ℕ) → length bytes ≡ length before → length (moved flow bytes) ≤ length before
few-moved (Moved count) bytes before same = few-taken count bytes before same
few-moved Waits bytes before same = omega arith
few-moved Ended bytes before same = omega arith
few-moved Broken bytes before same = omega arith

-- more is held where bytes came
pub more-held : (held got : List ℕ) → 0 < length got → length held < length (held ++ got)
more-held held got some = omega (arith, length-append held got, some)

module _ {S : Type 0} (received sent : S → Option (List ℕ)) where
  -- bytes came
  pub receives-moved : (most : ℕ) (flow : Flow) (bytes before : List ℕ) (old new : S) (held held2 : List ℕ) → length bytes ≡ length before → most ≡ length before
      → received new ≡ append_known (received old) (moved flow bytes) → sent new ≡ sent old → held2 ≡ held ++ moved flow bytes → Receives received sent most old new held held2
  receives-moved most flow bytes before old new held held2 len is gave unsent keeps = record {
    got = moved flow bytes;
    few = subst (λ (m : ℕ). length (moved flow bytes) ≤ m) (sym is) (few-moved flow bytes before len);
    gave = gave;
    unsent = unsent;
    keeps = keeps;
  }

  -- the socket took bytes, or none

  pub sends-count : (count : ℕ) (bytes due left : List ℕ) (old new : S) → bytes ≡ due → sent new ≡ append_known (sent old) (take count bytes) → received new ≡ received old
      → left ≡ drop count due → SendsDue received sent old new due left
  sends-count count bytes due left old new is took unread rest = record {
    put = take count due;
    took = took ∙ ap (λ (b : List ℕ). append_known (sent old) (take count b)) is;
    unread = unread;
    parts = sym (take-append-drop count due) ∙ ap (λ (l : List ℕ). take count due ++ l) (sym rest);
  }

  pub sends-none : (due : List ℕ) (old new : S) → sent new ≡ append_known (sent old) [] → received new ≡ received old → SendsDue received sent old new due due
  sends-none due old new took unread = record { put = []; took = took; unread = unread; parts = refl }

module _ {S : Type 0} (received sent : S → Option (List ℕ)) (has_none : S → Bool) {D : Type 0} (answers : Answering D) where
  visits-in : (most : ℕ) (old new : OpenGuest S) (M N : D) (r r2 : Option (List ℕ)) (left : Option (List ℕ)) → old.left ≡ left → VisitsIn received sent has_none answers most left old new M N r r2
      → new.until ≡ old.until → Visits received sent has_none answers most old new M N r r2
  visits-in most old new M N r r2 left is does same = record {
    does = subst (λ (l : Option (List ℕ)). VisitsIn received sent has_none answers most l old new M N r r2) (sym is) does;
    until = same;
  }

  -- some more of its answer was sent
  pub visits-sent : (most : ℕ) (old new : OpenGuest S) (M : D) (r : Option (List ℕ)) (due left : List ℕ) → old.left ≡ Some due → SendsDue received sent old.socket new.socket due left
      → new.left ≡ Some left → new.held ≡ old.held → new.until ≡ old.until → Visits received sent has_none answers most old new M M r r
  visits-sent most old new M r due left is sends begun held same =
      visits-in most old new M M r r (Some due) is (record { left = left; sends = sends; begun = begun; held = held; service = refl; unasked = refl }) same

  -- more of its message came, or none
  pub visits-received : (most : ℕ) (old new : OpenGuest S) (M N : D) (r r2 : Option (List ℕ)) → old.left ≡ None → Receives received sent most old.socket new.socket old.held new.held
      → new.left ≡ None → N ≡ M → r2 ≡ r → new.until ≡ old.until → Visits received sent has_none answers most old new M N r r2
  visits-received most old new M N r r2 is receives unanswered service unasked same =
      visits-in most old new M N r r2 None is (inl (record { receives = receives; unanswered = unanswered; service = service; unasked = unasked })) same

  -- its answer was begun
  pub visits-begun : (most : ℕ) (old new : OpenGuest S) (M N : D) (r r2 : Option (List ℕ)) (between : S) (gathered : List ℕ) (output : Output) (left : List ℕ) → old.left ≡ None
      → Receives received sent most old.socket between old.held gathered → IsDue received sent has_none answers old.held gathered between output M N r r2
      → SendsDue received sent between new.socket (sent_as output) left
      → new.left ≡ Some left → new.held ≡ old.held → new.until ≡ old.until → Visits received sent has_none answers most old new M N r r2
  visits-begun most old new M N r r2 between gathered output left is receives due sends begun held same =
      visits-in most old new M N r r2 None is
      (inr (record { between = between; gathered = gathered; receives = receives; output = output; due = due; left = left; sends = sends; begun = begun; held = held })) same
