-- A fault that changed nothing: all that is promised of the request.
use Rattle.std.proofs.Common.{◌≡◌, ◌&&◌, ◌∙◌, Bool, true, false, Err, IsTrue, refl, sym, ap, subst}
use Rattle.std.specs.Prelude.{if◌then◌else◌}
use Rattle.sqlite.specs.State.{State as Shown, HasCleanDisk}
use Rattle.registry_names.specs.Texts.{Text}
use Rattle.registry_names.specs.declared.stop.Fault.{Fault}
use Rattle.registry_rules.specs.Actions.{is_command}
use Rattle.registry_rules.specs.Effects.{step}
use Rattle.registry_rules.specs.Kept.{IsKept}
use Rattle.registry_rules.specs.State.{State}
use Rattle.registry_rules.specs.declared.request.Request.{Request}
use Rattle.registry_tables.specs.Archives.{HoldsArchives}
use Rattle.registry_tables.specs.Contents.{Contents, registry_of}
use Rattle.registry_tables.specs.Effects.{registry_in}
use Rattle.registry_tables.specs.Needs.{HoldsNeeds}
use Rattle.registry_laws_history.proofs.RunFacts.{apply_says}
use Rattle.registry_laws_history.specs.History.{after}
use Rattle.registry_laws_history.specs.Runs.{enters, next}
use Rattle.registry_laws_hidden.proofs.UnheardFacts.{without_twice}
use Rattle.registry_laws_hidden.specs.Without.{state_without}
use Rattle.registry_desk.specs.Promises.{Applied, HoldsReferences, KeepsStored, LeavesTheRest, StaysSure, SurvivesInTurn, WasOpen}
use Rattle.registry_desk.specs.Resting.{HoldsAsWritten, next_stored, stepped}

-- ---- a fault makes no step

never : (b : Bool) → (b && false) ≡ false
never true = refl
never false = refl

pub never-enters : (r : Request) (fault : Fault) → enters r (Err fault) ≡ false
never-enters r fault = never (is_command r.what)

state-stays : (S : State) (r : Request) (fault : Fault) → S ≡ next S r (Err fault)
state-stays S r fault = sym (ap (λ (b : Bool). if b then step S r else S) (never-enters r fault))

stored-stays : (c : Contents) (r : Request) (fault : Fault) → c ≡ next_stored r (Err fault) c
stored-stays c r fault = sym (ap (λ (b : Bool). if b then stepped r c else c) (never-enters r fault))

-- so the rest is as it would be without the package
rest-stays : (S T : State) (r : Request) (fault : Fault) (p : Text) → T ≡ S → LeavesTheRest S r (Err fault) p T
rest-stays S T r fault p same =
    ap (λ (U : State). state_without U p) same ∙ sym (without_twice S p) ∙ ap (λ (U : State). state_without U p) (state-stays (state_without S p) r fault)

-- ---- all that is promised

pub unchanged-applies : (old new : Shown) (r : Request) (fault : Fault) → WasOpen old new → KeepsStored old new → HoldsAsWritten new → StaysSure new → SurvivesInTurn old new r → Applied old new r (Err fault)
unchanged-applies old new r fault opened keeps written sure survives =
    let still : HasCleanDisk new → IsTrue new.is_open → registry_in new ≡ registry_in old = λ clean on. ap registry_of (keeps clean on) in
    let moves : HasCleanDisk new → IsTrue new.is_open → registry_in new ≡ next (registry_in old) r (Err fault) = λ clean on. still clean on ∙ state-stays (registry_in old) r fault in
    record {
      answer = λ sound clean. tt;
      served = λ clean. tt;
      opened = opened;
      unchanged = λ clean on none. keeps clean on;
      step = λ sound clean on. keeps clean on ∙ stored-stays _ r fault;
      moves = λ sound clean on. moves clean on;
      history = λ sound clean on h legal is. apply_says h (registry_in old) (registry_in new) r (Err fault) tt (moves clean on) legal is;
      hidden = λ sound clean h legal is p stranger quiet. (tt, λ on. rest-stays (after h) (registry_in new) r fault p (still clean on ∙ is));
      written = written;
      needs = λ sound clean on holds. subst HoldsNeeds (sym (keeps clean on)) holds;
      refers = λ sound clean on holds. subst HoldsReferences (sym (keeps clean on)) holds;
      archives = λ sound clean on holds. subst HoldsArchives (sym (keeps clean on)) holds;
      form = λ sound clean on kept. subst (λ (c : Contents). IsKept (registry_of c)) (sym (keeps clean on)) kept;
      survives = survives;
      durable = sure;
    }

-- another fault may be told
pub told-applies : (old new : Shown) (r : Request) (met told : Fault) → Applied old new r (Err met) → Applied old new r (Err told)
told-applies old new r met told a =
    unchanged-applies old new r told a.opened (λ clean on. a.unchanged clean on (never-enters r met)) a.written a.durable a.survives
