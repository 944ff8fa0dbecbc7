use Rattle.std.proofs.Common.{◌≡◌, ◌∙◌, arith, rules, sym, subst, true}
use Rattle.std.specs.List.{AllByRecursion}
use Rattle.sqlite.specs.Effect.{Database}
use Rattle.sqlite.specs.Held.{state}
use Rattle.sqlite.specs.State.{State as Shown, HasCleanDisk, IsRolledBack, KeepsCommit}
use Rattle.sqlite_schema.specs.declared.schema.Schema.{Schema}
use Rattle.registry_rows.specs.Ready.{Ready}
use Rattle.registry_rows.specs.Rows.{HasRowids}
use Rattle.registry_tables.specs.Effects.{InForm}
use Rattle.registry_tables.specs.Schema.{schema}
use Rattle.registry_desk.specs.Adopted.{CanBeAdopted}
use Rattle.registry_desk.specs.Resting.{Rests}
use Rattle.registry_tests_stops.proofs.checks.problems_of.Goals as goal

pub check-requires : goal.check-requires
check-requires g c =
    let old = c.args.connection.now in
    let ready : Ready schema (state g.S.Store (record old { in_transaction = true })) =
    λ clean on. let is = c.requires.rests.in_form clean on in record { schema_is = is.schema_is; sound = is.sound; rowids = is.rowids } in
    let begun : InForm g.S.Store c.transaction-tx.result = rw c.transaction-tx.ensures.begun ready in
    record { in_form = begun }

-- what was committed is seen again, and its rowids rise
rises_again : (old mid new : Shown) → Rests old → (HasCleanDisk new → HasCleanDisk old × KeepsCommit old mid × IsRolledBack mid new) → CanBeAdopted new
rises_again old mid new rests back clean on =
    let b = back clean in
    let was_open = b.2.was_open on in
    let is_open = b.1.was_open was_open in
    let same : new.now ≡ old.now = (b.2.undone on).0 ∙ b.1.committed was_open ∙ sym (rests.settled b.0 is_open) in
    let it = rests.in_form b.0 is_open in
    subst (λ (d : Database). AllByRecursion (λ t. HasRowids (d.trees t.tree)) d.schema.tables) (sym same)
    (subst (λ (k : Schema). AllByRecursion (λ t. HasRowids (old.now.trees t.tree)) k.tables) (sym it.schema_is) it.rowids)

pub returns : goal.returns
returns g c =
    let old = state g.S.Store c.args.connection.now in
    let mid = state g.S.Store c.check.new.tx.conn.now in
    let new = state g.S.Store c.drop-tx.new.self.0 in
    let rises : CanBeAdopted new = rises_again old mid new c.requires.rests (λ clean.
    let were : HasCleanDisk mid = omega (arith, c.drop-tx.ensures.survives.clean, clean) in
    let kept = rw c.transaction-tx.ensures.begun at c.check.ensures.stays.committed were in
    (omega (arith, (rw c.transaction-tx.ensures.begun at c.check.ensures.stays.survives).clean, were), record { was_open = kept.was_open; committed = kept.committed }, c.drop-tx.ensures.undone clean)) in
    let same : c.drop-tx.new.self.0 ≡ c.connection-1.given.0 = search rules in
    record { rises = subst (λ h. CanBeAdopted (state g.S.Store h)) same rises }
