-- A transaction that is begun finds the tables in form, and what is committed stays where it is rolled
-- back.
use Rattle.std.proofs.Common.{◌∙◌, inl, inr, refl, true}
use Rattle.sqlite.specs.Held.{Held, state}
use Rattle.sqlite.specs.State.{State as Shown, HasCleanDisk, IsRolledBack, KeepsCommit, Survives}
use Rattle.sqlite_trees.specs.Tree.{Trees}
use Rattle.sqlite_trees.specs.declared.store.Store.{Ghosts}
use Rattle.registry_rows.specs.Ready.{Ready}
use Rattle.registry_tables.specs.Schema.{schema}
use Rattle.registry_files.specs.Copies.{StaysCommitted}

pub begun_in_form : {S : Type 0} (store : Ghosts S) (h : Held S) → Ready schema (state store h) → Ready schema (state store (record h { in_transaction = true }))
begun_in_form store h ready clean on = let it = ready clean on in record { schema_is = it.schema_is; sound = it.sound; rowids = it.rowids }

left_before : (old new : Shown) → Survives old new (λ _. ⊥) → HasCleanDisk new → (db : Trees) → new.may_leave db → old.may_leave db
left_before old new survives clean db may = elim (survives.crash clean db may) [
  | inl it ↦ it
  | inr none ↦ absurd none
]

-- what a transaction wrote is gone once it is rolled back, and what was committed before stays
pub rolled_stays : (old begun mid new : Shown) → (HasCleanDisk begun → HasCleanDisk old) → KeepsCommit old begun → ((db : Trees) → begun.may_leave db → old.may_leave db)
    → (HasCleanDisk mid → HasCleanDisk begun) → (HasCleanDisk mid → KeepsCommit begun mid) → Survives begun mid (λ _. ⊥)
    → (HasCleanDisk new → HasCleanDisk mid) → (HasCleanDisk new → IsRolledBack mid new) → Survives mid new (λ _. ⊥) → StaysCommitted old new
rolled_stays old begun mid new first begins before second keeps asked third back ended = record {
  clean = λ clean. first (second (third clean));
  committed = λ clean.
      let were = third clean in
      let undone = back clean in
      let kept = keeps were in
      record {
        was_open = λ on. begins.was_open (kept.was_open (undone.was_open on));
        committed = λ on.
            let middle = undone.was_open on in
            (undone.undone on).1 ∙ kept.committed middle ∙ begins.committed (kept.was_open middle);
      };
  crash = λ clean db may. before db (left_before begun mid asked (third clean) db (left_before mid new ended clean db may));
}

pub stays_still : (s : Shown) → StaysCommitted s s
stays_still s = record { clean = λ clean. clean; committed = λ clean. record { was_open = λ on. on; committed = λ on. refl }; crash = λ clean db may. may }
