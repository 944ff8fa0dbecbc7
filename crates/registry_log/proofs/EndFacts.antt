-- A look-up before requests: what a crash leaves, and how the service ends.
use Rattle.std.proofs.Common.{◌≡◌, ◌∙◌, ◌∷◌, ◌≤◌, [], Bool, List, Ok, Err, ap, arith, inl, refl, subst, sym}
use Rattle.sqlite.proofs.StateLemmas.{survives_then}
use Rattle.sqlite.specs.State.{State as Shown, HasCleanDisk, Survives}
use Rattle.sqlite_trees.specs.Tree.{Trees}
use Rattle.sqlite_trees.specs.declared.store.Store.{Ghosts}
use Rattle.registry_rules.specs.declared.request.Request.{Request}
use Rattle.registry_tables.specs.Contents.{Contents}
use Rattle.registry_tables.specs.Effects.{stored}
use Rattle.registry_laws_history.specs.Runs.{Outcome}
use Rattle.registry_desk.specs.Promises.{NeedsForEach}
use Rattle.registry_desk.specs.Together.{LeavesTogether, all_settled}
use Rattle.registry_http.specs.Services.{EachEndsByFault, EndsBy, EndsByFault, Serving, shown}
use Rattle.registry_http.proofs.LookFacts.{ends-later}
use Rattle.registry_log.specs.LookUps.{LooksUp}

-- it ends by the same fault, as seen from before the look-up
pub sought-ends : {S : Type 0} (store : Ghosts S) (old mid new : Serving S) (o : Outcome) → mid.is_over ≡ old.is_over → (shown store old).faults ≤ (shown store mid).faults
    → EndsByFault store mid new o → EndsByFault store old new o
sought-ends store old mid new (Ok reply) same grow ends = ends ∙ same
sought-ends store old mid new (Err fault) same grow ends =
    subst (λ (was : Bool). EndsBy (shown store old) (shown store new) was new.is_over fault) same
    (ends-later (shown store old) (shown store mid) (shown store new) mid.is_over new.is_over fault grow ends)

-- so it does for commands that are asked together
pub each-sought-ends : {S : Type 0} (store : Ghosts S) (old mid new : Serving S) (os : List Outcome) → mid.is_over ≡ old.is_over → (shown store old).faults ≤ (shown store mid).faults
    → EachEndsByFault store mid new os → EachEndsByFault store old new os
each-sought-ends store old mid new [] same grow ends = tt
each-sought-ends store old mid new (o ∷ os) same grow ends = (sought-ends store old mid new o same grow ends.0, each-sought-ends store old mid new os same grow ends.1)

-- ---- what is stored

pub survives-same : (s : Shown) (P : Trees → Type 0) → Survives s s P
survives-same s P = record { clean = omega arith; shield = λ h. h; counts = omega arith; limit = refl; closes = λ _ on. inl on; crash = λ _ db left. inl left }

-- nothing was looked up
pub looks-same : (s : Shown) → LooksUp s s
looks-same s = record { opened = λ clean on. on; stored = λ clean on. refl; survives = survives-same s (λ db. ⊥) }

module _ (old mid new : Shown) (look : LooksUp old mid) where
  -- one look-up after another
  pub looks-then : LooksUp mid new → LooksUp old new
  looks-then next =
      let were : HasCleanDisk new → HasCleanDisk mid = λ clean. omega (arith, next.survives.clean, clean) in
      record {
        opened = λ clean on. look.opened (were clean) (next.opened clean on);
        stored = λ clean on. next.stored clean on ∙ look.stored (were clean) (next.opened clean on);
        survives = survives_then old mid new _ _ (λ db. ⊥) (λ _ _ none. none) (λ _ _ none. none) look.survives next.survives;
      }

  -- what a crash leaves of commands that are answered together after it, it leaves without it
  pub sought-together : (rs : List Request) → Survives mid new (LeavesTogether rs mid) → Survives old new (LeavesTogether rs old)
  sought-together rs survives = survives_then old mid new _ _ (LeavesTogether rs old) (λ _ _ none. absurd none)
      (λ clean db made.
      let were : HasCleanDisk mid = omega (arith, survives.clean, clean) in
      let same : stored mid ≡ stored old = look.stored were made.was_open in
      record {
        was_open = look.opened were made.was_open;
        form = made.form;
        settled = λ needs. made.settled (subst (λ (c : Contents). NeedsForEach rs c) (sym same) needs) ∙ ap (all_settled rs) same;
      })
      look.survives survives
