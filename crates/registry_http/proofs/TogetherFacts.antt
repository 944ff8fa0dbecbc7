-- Commands that are answered together are answered one after another.
use Rattle.std.proofs.Common.{◌≡◌, ◌⊎◌, ◌∙◌, ◌≤◌, ◌<◌, ◌+◌, ◌++◌, ℕ, take, Bool, true, false, List, [], ◌∷◌, Ok, Err, IsTrue, arith, refl, inl, inr, sym, ap, subst, length, true≢false}
use Rattle.std.proofs.Math.ListN.{set}
use Rattle.std.proofs.lemmas.Bool.{cases_Bool, false≢true}
use Rattle.std.proofs.lemmas.List.{take_more_set}
use Rattle.std.specs.List.{AllByRecursion}
use Rattle.std.specs.Prelude.{IfErr}
use Rattle.sqlite.proofs.StateLemmas.{survives_then, survives_weaker}
use Rattle.sqlite.specs.Held.{Held, state}
use Rattle.sqlite.specs.State.{State as Shown, HasCleanDisk, Survives}
use Rattle.sqlite_trees.specs.Tree.{Trees}
use Rattle.sqlite_trees.specs.declared.store.Store.{Ghosts}
use Rattle.registry_names.specs.declared.stop.Fault.{Fault}
use Rattle.registry_names.specs.declared.stop.Fault.TheVariants.{Database, Memory}
use Rattle.registry_rules.specs.Actions.{is_command}
use Rattle.registry_rules.specs.declared.reply.Reply.{Reply}
use Rattle.registry_rules.specs.declared.request.Request.{Request}
use Rattle.registry_laws_history.specs.Runs.{Outcome}
use Rattle.registry_desk.specs.Lives.{AskedInTurn}
use Rattle.registry_desk.specs.Promises.{Applied, KeepsStored, StaysSure, WasOpen}
use Rattle.registry_desk.specs.Resting.{HoldsAsWritten}
use Rattle.registry_desk.specs.Together.{AnsweredTogether, AreReplies, LeavesTogether, MeetFault, Point, at_rest, shown_at}
use Rattle.registry_service.specs.Turns.{AnswersEach, exchanges}
use Rattle.registry_http.proofs.FaultFacts.{never-enters, told-applies, unchanged-applies}
use Rattle.registry_http.proofs.LookFacts.{IsLookedAt, Leaves, ends-later, looked-applies, looked-sure, looked-survives, looked-written, not-lost}
use Rattle.registry_http.specs.Services.{EachEndsByFault, EachEndsIfShut, EndsBy, EndsByFault, EndsShut, Serving, applied, failed, serving, shown}

-- ---- one fault for all

-- this fault for each of them
abbrev all_met : Fault → List Request → List Outcome
all_met fault [] = []
all_met fault (r ∷ rs) = Err fault ∷ all_met fault rs

met-more : (fault : Fault) (os : List Outcome) → MeetFault fault os → MeetFault fault (os ++ Err fault ∷ [])
met-more fault [] met = (refl, tt)
met-more fault (o ∷ os) met = (met.0, met-more fault os met.1)

-- the next of them is told it, too
pub told-next : (fault : Fault) (os : List Outcome) (i : ℕ) → i < length os → MeetFault fault (take i os) → MeetFault fault (take (i + 1) (set os i (Err fault)))
told-next fault os i below met = subst (MeetFault fault) (sym (take_more_set os i (Err fault) below)) (met-more fault (take i os) met)

met-all : (fault : Fault) (rs : List Request) (os : List Outcome) → length os ≡ length rs → MeetFault fault os → os ≡ all_met fault rs
met-all fault [] [] many met = refl
met-all fault (r ∷ rs) (o ∷ os) many met = ap (λ (p : Outcome). p ∷ os) met.0 ∙ ap (λ (ps : List Outcome). Err fault ∷ ps) (met-all fault rs os (omega (arith, many)) met.1)
met-all fault [] (o ∷ os) many met = absurd (omega (arith, many))
met-all fault (r ∷ rs) [] many met = absurd (omega (arith, many))

-- ---- what faults that changed nothing leave

record Unchanged (old new : Shown) : Type 0 where
  opened : WasOpen old new
  stored : KeepsStored old new
  written : HoldsAsWritten new
  durable : StaysSure new
  closes : Survives old new (λ _. Unit {0})

after-fault : (old new : Shown) (r : Request) (fault : Fault) → Applied old new r (Err fault) → Unchanged old new
after-fault old new r fault a = record {
  opened = a.opened;
  stored = λ clean on. a.unchanged clean on (never-enters r fault);
  written = a.written;
  durable = a.durable;
  closes = a.survives.closes;
}

after-both : (old mid new : Shown) → Unchanged old mid → Unchanged mid new → Unchanged old new
after-both old mid new one two =
    let was : HasCleanDisk new → HasCleanDisk mid = λ clean. omega (arith, two.closes.clean, clean) in
    record {
      opened = λ clean on. one.opened (was clean) (two.opened clean on);
      stored = λ clean on. two.stored clean on ∙ one.stored (was clean) (two.opened clean on);
      written = two.written;
      durable = two.durable;
      closes = survives_then old mid new _ _ _ (λ _ _ any. any) (λ _ _ any. any) one.closes two.closes;
    }

survives-same : (s : Shown) → Survives s s (λ _. Unit {0})
survives-same s = record { clean = omega arith; shield = λ h. h; counts = omega arith; limit = refl; closes = λ _ on. inl on; crash = λ _ db may. inl may }

-- a fault after which the registry is open, and no transaction is begun
open-applies : (old new : Shown) (r : Request) (fault : Fault) → IsTrue new.is_open → Unchanged old new → Applied old new r (Err fault)
open-applies old new r fault on same =
    unchanged-applies old new r fault same.opened same.stored same.written same.durable
    (record { closes = same.closes; shut = λ _ off. absurd (not-lost new.is_open off on); lost = λ _ gone. absurd (not-lost new.is_open gone.0 on) })

module _ {S : Type 0} (store : Ghosts S) where
  -- ---- asked in turn

  abbrev served_at : Point S → Bool → Serving S
  served_at p was = record { registry = p.conn; is_over = was; counts = p.counts }

  asked-each : (p q : Point S) (was : Bool) (rs : List Request) (os : List Outcome) → AskedInTurn (shown_at store) rs os p q → AnswersEach (applied (shown store)) (served_at p was) (exchanges rs os) (served_at q was)
  asked-each p q was [] [] same = ap (λ (it : Point S). served_at it was) same
  asked-each p q was (r ∷ rs) (o ∷ os) (next, a, rest) = (served_at next was, a, asked-each next q was rs os rest)
  asked-each p q was [] (o ∷ os) none = absurd none
  asked-each p q was (r ∷ rs) [] none = absurd none

  -- where all met a fault, nothing was changed
  faults-left : (p q : Point S) (r : Request) (rs : List Request) (fault : Fault) → AskedInTurn (shown_at store) (r ∷ rs) (all_met fault (r ∷ rs)) p q → Unchanged (shown_at store p) (shown_at store q)
  faults-left p q r [] fault (next, a, same) =
      subst (λ (it : Point S). Unchanged (shown_at store p) (shown_at store it)) (sym same) (after-fault (shown_at store p) (shown_at store next) r fault a)
  faults-left p q r (t ∷ rs) fault (next, a, rest) =
      after-both (shown_at store p) (shown_at store next) (shown_at store q) (after-fault (shown_at store p) (shown_at store next) r fault a) (faults-left next q t rs fault rest)

  -- ---- a look at the registry after that

  module _ (mid new : Held S) (was is : Bool) (met told : Fault) (look : IsLookedAt (state store mid) (state store new)) where
    abbrev ToldEach : Serving S → List Request → Type 0
    ToldEach first rs = AnswersEach (applied (shown store)) first (exchanges rs (all_met told rs)) (serving new is)

    -- the disk had shut it
    shut-each : (state store mid).is_open ≡ false → (p : Point S) (r : Request) (rs : List Request) → AskedInTurn (shown_at store) (r ∷ rs) (all_met met (r ∷ rs)) p (at_rest mid) → ToldEach (served_at p was) (r ∷ rs)
    shut-each off p r [] (next, a, same) =
        let last = subst (λ (it : Point S). Applied (shown_at store p) (shown_at store it) r (Err met)) (sym same) a in (
          serving new is,
          looked-applies (state store mid) (state store new) look (shown_at store p) r met told (λ clean db may. last.survives.shut clean off db may) last,
          refl,
        )
    shut-each off p r (t ∷ rs) (next, a, rest) = (served_at next was, told-applies (shown_at store p) (shown_at store next) r met told a, shut-each off next t rs rest)

    -- it was open: after the first of them it is as it was
    still-each : IsTrue (state store mid).is_open → Unchanged (state store mid) (state store mid) → (r : Request) (rs : List Request) → ToldEach (serving mid was) (r ∷ rs)
    still-each on same r [] = (
      serving new is,
      looked-applies (state store mid) (state store new) look (state store mid) r told told (λ clean db may. inl may) (open-applies (state store mid) (state store mid) r told on same),
      refl,
    )
    still-each on same r (t ∷ rs) = (serving mid was, open-applies (state store mid) (state store mid) r told on same, still-each on same t rs)

    module _ (old : Held S) where
      -- a command that was asked alone leaves what it makes
      alone-leaves : (r : Request) → is_command r.what ≡ true → Survives (state store old) (state store mid) (LeavesTogether (r ∷ []) (state store old)) → Leaves (state store old) (state store mid) r
      alone-leaves r command survives clean db may = elim (survives.crash clean db may) [
        | inl earlier ↦ inl earlier
        | inr made ↦ inr (inl (record {
          was_open = made.was_open;
          form = made.form;
          query = λ asks. absurd (true≢false (sym command ∙ asks));
          settled = λ needs. made.settled (needs, tt);
        }))
      ]

      open-each : IsTrue (state store mid).is_open → (r : Request) (rs : List Request) → is_command r.what ≡ true → Survives (state store old) (state store mid) (LeavesTogether (r ∷ rs) (state store old)) → Unchanged (state store old) (state store mid)
          → ToldEach (serving old was) (r ∷ rs)
      open-each on r [] command survives same = (
        serving new is,
        looked-applies (state store mid) (state store new) look (state store old) r told told (alone-leaves r command survives) (open-applies (state store old) (state store mid) r told on same),
        refl,
      )
      open-each on r (t ∷ rs) command survives same = (
        serving mid was,
        open-applies (state store old) (state store mid) r told on same,
        still-each on (record { opened = λ _ still. still; stored = λ _ _. refl; written = same.written; durable = same.durable; closes = survives-same (state store mid) }) t rs,
      )

      -- either way
      met-each : (r : Request) (rs : List Request) → is_command r.what ≡ true → Survives (state store old) (state store mid) (LeavesTogether (r ∷ rs) (state store old))
          → AskedInTurn (shown_at store) (r ∷ rs) (all_met met (r ∷ rs)) (at_rest old) (at_rest mid) → ToldEach (serving old was) (r ∷ rs)
      met-each r rs command survives asked = elim (cases_Bool (state store mid).is_open) [
        | inl on ↦ open-each on r rs command survives (faults-left (at_rest old) (at_rest mid) r rs met asked)
        | inr off ↦ shut-each off (at_rest old) r rs asked
      ]

  -- ---- what all are told

  failed-met : (os : List Outcome) → failed os ≡ true → AreReplies os ⊎ ((fault : Fault) × MeetFault fault os) → (fault : Fault) × MeetFault fault os
  failed-met os bad (inr met) = met
  failed-met (Ok reply ∷ os) bad (inl replies) = absurd (false≢true bad)
  failed-met (Err fault ∷ os) bad (inl replies) = absurd replies
  failed-met [] bad (inl replies) = absurd (false≢true bad)

  pub told-each : (old mid new : Held S) (was is : Bool) (rs : List Request) (os ps : List Outcome) (told : Fault) → IsLookedAt (state store mid) (state store new) → AllByRecursion (λ (r : Request). is_command r.what ≡ true) rs
      → AnsweredTogether store old mid rs os → failed os ≡ true → length os ≡ length rs → length ps ≡ length os → MeetFault told ps → AnswersEach (applied (shown store)) (serving old was) (exchanges rs ps) (serving new is)
  told-each old mid new was is [] [] ps told look commands it bad many as_many met = absurd (false≢true bad)
  told-each old mid new was is [] (o ∷ os) ps told look commands it bad many as_many met = absurd (omega (arith, many))
  told-each old mid new was is (r ∷ rs) os ps told look commands it bad many as_many met =
      let fault = failed-met os bad it.one in
      let asked = subst (λ (qs : List Outcome). AskedInTurn (shown_at store) (r ∷ rs) qs (at_rest old) (at_rest mid)) (met-all fault.0 (r ∷ rs) os many fault.1) it.in_turn in
      subst (λ (qs : List Outcome). AnswersEach (applied (shown store)) (serving old was) (exchanges (r ∷ rs) qs) (serving new is)) (sym (met-all told (r ∷ rs) ps (as_many ∙ many) met))
      (met-each mid new was is fault.0 told look old r rs commands.0 it.survives asked)

  -- where the tables didn't fail, no look is needed
  pub answered-each : (old new : Held S) (was : Bool) (rs : List Request) (os : List Outcome) → AnsweredTogether store old new rs os → AnswersEach (applied (shown store)) (serving old was) (exchanges rs os) (serving new was)
  answered-each old new was rs os it = asked-each (at_rest old) (at_rest new) was rs os it.in_turn

  -- ---- how it ends

  replies-shut : (new : Serving S) (os : List Outcome) → AreReplies os → EachEndsIfShut store new os
  replies-shut new [] replies = tt
  replies-shut new (Ok reply ∷ os) replies = (tt, replies-shut new os replies)
  replies-shut new (Err fault ∷ os) replies = absurd replies

  pub told-shut : (new : Serving S) (told : Fault) (os : List Outcome) → MeetFault told os → EndsShut (shown store new) new.is_over told → EachEndsIfShut store new os
  told-shut new told [] met ends = tt
  told-shut new told (o ∷ os) met ends = (subst (λ (p : Outcome). IfErr p (EndsShut (shown store new) new.is_over)) (sym met.0) ends, told-shut new told os met.1 ends)

  pub answered-shut : (new : Serving S) (os : List Outcome) → failed os ≡ false → AreReplies os ⊎ ((fault : Fault) × MeetFault fault os) → EachEndsIfShut store new os
  answered-shut new os good (inl replies) = replies-shut new os replies
  answered-shut new [] good (inr (fault, met)) = tt
  answered-shut new (Ok reply ∷ os) good (inr (fault, met)) = cc
  answered-shut new (Err Database ∷ os) good (inr (fault, met)) = absurd (true≢false good)
  answered-shut new (Err Memory ∷ os) good (inr (fault, met)) = told-shut new fault (Err Memory ∷ os) met (λ clean is off. cc)

  pub told-ends : (old new : Serving S) (told : Fault) (os : List Outcome) → MeetFault told os → EndsBy (shown store old) (shown store new) old.is_over new.is_over told → EachEndsByFault store old new os
  told-ends old new told [] met ends = tt
  told-ends old new told (o ∷ os) met ends = (subst (λ (p : Outcome). EndsByFault store old new p) (sym met.0) ends, told-ends old new told os met.1 ends)

  pub answered-ends : (old new : Serving S) (os : List Outcome) → new.is_over ≡ old.is_over → EachEndsByFault store old new os
  answered-ends old new [] same = tt
  answered-ends old new (Ok reply ∷ os) same = (same, answered-ends old new os same)
  answered-ends old new (Err fault ∷ os) same = ((λ over. inl (sym same ∙ over)), answered-ends old new os same)
