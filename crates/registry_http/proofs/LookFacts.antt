-- A look at a registry after a fault leaves all that is promised of the request.
use Rattle.std.proofs.Common.{◌≡◌, ◌⊎◌, ◌∙◌, ◌≤◌, Bool, true, false, Err, IsTrue, arith, inl, inr, sym, subst, true≢false}
use Rattle.sqlite.proofs.StateLemmas.{survives_then}
use Rattle.sqlite.specs.State.{State as Shown, HasCleanDisk, Survives}
use Rattle.sqlite_trees.specs.Tree.{Trees}
use Rattle.registry_names.specs.declared.stop.Fault.{Fault}
use Rattle.registry_rules.specs.declared.request.Request.{Request}
use Rattle.registry_desk.specs.Promises.{Applied, KeepsStored, LeavesLater, LeavesOne, StaysSure, SurvivesInTurn, SurvivesOne, WasOpen}
use Rattle.registry_desk.specs.Resting.{HoldsAsWritten, IsAsWritten, IsRegistryOf}
use Rattle.registry_http.proofs.FaultFacts.{never-enters, unchanged-applies}
use Rattle.registry_http.specs.Services.{EndsBy}

-- more faults since a request's end are more since its begin
pub ends-later : (old mid new : Shown) (was is_now : Bool) (f : Fault) → old.faults ≤ mid.faults → EndsBy mid new was is_now f → EndsBy old new was is_now f
ends-later old mid new was is_now f grow ends over = elim (ends over) [
  | inl before ↦ inl before
  | inr why ↦ inr (
    why.0,
    λ clean. elim (why.1 clean) [
      | inl shut ↦ inl shut
      | inr more ↦ inr (omega (arith, grow, more))
    ],
  )
]

-- ---- a look

-- nothing that is stored was changed, and no transaction is begun
pub record IsLookedAt (mid new : Shown) : Type 0 where
  pub opened : WasOpen mid new
  pub stored : KeepsStored mid new
  pub survives : Survives mid new (λ _. ⊥)
  pub idle : new.in_transaction ≡ false

-- what a crash may leave of a request, whether the registry is open or shut after it
abbrev pub Leaves : Shown → Shown → Request → Type 0
Leaves old new r = HasCleanDisk new → (db : Trees) → new.may_leave db → old.may_leave db ⊎ (LeavesOne r old db ⊎ LeavesLater r old db)

-- so `apply` promises it
pub leaves-alone : (old new : Shown) (r : Request) → SurvivesOne old new r → Leaves old new r
leaves-alone old new r alone clean db may = elim (alone.crash clean db may) [
  | inl was ↦ inl was
  | inr made ↦ inr (inl made)
]

pub not-lost : (b : Bool) → b ≡ false → IsTrue b → ⊥
not-lost b idle begun = absurd (true≢false (sym begun ∙ idle))

module _ (mid new : Shown) (look : IsLookedAt mid new) where
  was-clean : HasCleanDisk new → HasCleanDisk mid
  was-clean clean = omega (arith, look.survives.clean, clean)

  left-before : HasCleanDisk new → (db : Trees) → new.may_leave db → mid.may_leave db
  left-before clean db may = elim (look.survives.crash clean db may) [
    | inl was ↦ was
    | inr none ↦ absurd none
  ]

  pub looked-written : HoldsAsWritten mid → HoldsAsWritten new
  looked-written written clean on = subst IsAsWritten (sym (look.stored clean on)) (written (was-clean clean) (look.opened clean on))

  pub looked-sure : StaysSure mid → StaysSure new
  looked-sure sure clean on db may = subst (IsRegistryOf db) (sym (look.stored clean on)) (sure (was-clean clean) (look.opened clean on) db (left-before clean db may))

  -- what a crash may leave of a request that was asked before the look
  pub looked-survives : (old : Shown) (r : Request) → Survives old mid (λ _. Unit {0}) → Leaves old mid r → SurvivesInTurn old new r
  looked-survives old r closes left = record {
    closes = survives_then old mid new _ _ _ (λ _ _ any. any) (λ _ _ none. absurd none) closes look.survives;
    shut = λ clean off db may. left (was-clean clean) db (left-before clean db may);
    lost = λ clean lost. absurd (not-lost new.in_transaction look.idle lost.1);
  }

  -- all that is promised of it, where another fault is told
  pub looked-applies : (old : Shown) (r : Request) (met told : Fault) → Leaves old mid r → Applied old mid r (Err met) → Applied old new r (Err told)
  looked-applies old r met told left a =
      unchanged-applies old new r told (λ clean on. a.opened (was-clean clean) (look.opened clean on))
      (λ clean on. look.stored clean on ∙ a.unchanged (was-clean clean) (look.opened clean on) (never-enters r met)) (looked-written a.written) (looked-sure a.durable)
      (looked-survives old r a.survives.closes left)
