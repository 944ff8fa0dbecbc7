use Rattle.std.proofs.Common.{◌≡◌, arith, refl, rules, subst, sym}
use Rattle.std.proofs.lemmas.Result.{IfOk-weaker}
use Rattle.sqlite.specs.Held.{state}
use Rattle.sqlite.specs.State.{HasCleanDisk, KeepsCommit}
use Rattle.sqlite_trees.specs.Tree.{Trees}
use Rattle.registry_check.specs.Right.{AreProblems, TellsRight}
use Rattle.registry_tables.specs.Effects.{InForm}
use Rattle.registry_files.specs.Copies.{StaysCommitted}
use Rattle.registry_files.proofs.CheckFacts.{begun_in_form, rolled_stays}
use Rattle.registry_files.proofs.checking.problems_of.Goals as goal

pub check-problems-requires : goal.check-problems-requires
check-problems-requires g c =
    let begun : InForm g.S.Store c.transaction-tx.result = rw c.transaction-tx.ensures.begun (begun_in_form g.S.Store c.args.conn.now c.requires.ready) in
    record { in_form = begun }

pub returns-clause-told : goal.returns-clause-told
returns-clause-told g c clean =
    let old = state g.S.Store c.args.conn.now in
    let begun = state g.S.Store c.transaction-tx.result.conn.now in
    let mid = state g.S.Store c.check-problems.new.tx.conn.now in
    let seen : begun.now.trees ≡ old.now.trees = rw c.transaction-tx.ensures.begun refl in
    let same : c.rollback.new.self.0 ≡ c.conn-1.given.0 = search rules in
    let after : HasCleanDisk (state g.S.Store c.rollback.new.self.0) = subst (λ h. HasCleanDisk (state g.S.Store h)) (sym same) clean in
    let were : HasCleanDisk mid = omega (arith, c.rollback.ensures.survives.clean, after) in
    IfOk-weaker c.check-problems.result _ _ (λ found h. subst (λ (d : Trees). AreProblems found.items d) seen h.1) (c.check-problems.ensures.loads were)

pub returns-clause-right : goal.returns-clause-right
returns-clause-right g c clean =
    let old = state g.S.Store c.args.conn.now in
    let begun = state g.S.Store c.transaction-tx.result.conn.now in
    let mid = state g.S.Store c.check-problems.new.tx.conn.now in
    let seen : begun.now.trees ≡ old.now.trees = rw c.transaction-tx.ensures.begun refl in
    let same : c.rollback.new.self.0 ≡ c.conn-1.given.0 = search rules in
    let after : HasCleanDisk (state g.S.Store c.rollback.new.self.0) = subst (λ h. HasCleanDisk (state g.S.Store h)) (sym same) clean in
    let were : HasCleanDisk mid = omega (arith, c.rollback.ensures.survives.clean, after) in
    IfOk-weaker c.check-problems.result _ _ (λ found h. subst (λ (d : Trees). TellsRight found.items d) seen h.1) (c.check-problems.ensures.met were)

pub returns-clause-still : goal.returns-clause-still
returns-clause-still g c =
    let old = state g.S.Store c.args.conn.now in
    let begun = state g.S.Store c.transaction-tx.result.conn.now in
    let mid = state g.S.Store c.check-problems.new.tx.conn.now in
    let new = state g.S.Store c.rollback.new.self.0 in
    let first : HasCleanDisk begun → HasCleanDisk old = rw c.transaction-tx.ensures.begun (λ clean. clean) in
    let begins : KeepsCommit old begun = rw c.transaction-tx.ensures.begun (record { was_open = λ on. on; committed = λ on. refl }) in
    let before : (db : Trees) → begun.may_leave db → old.may_leave db = rw c.transaction-tx.ensures.begun (λ db may. may) in
    let stays = c.check-problems.ensures.stays in
    let second : HasCleanDisk mid → HasCleanDisk begun = λ clean. omega (arith, stays.survives.clean, clean) in
    let third : HasCleanDisk new → HasCleanDisk mid = λ clean. omega (arith, c.rollback.ensures.survives.clean, clean) in
    let same : c.rollback.new.self.0 ≡ c.conn-1.given.0 = search rules in
    subst (λ h. StaysCommitted old (state g.S.Store h)) same (rolled_stays old begun mid new first begins before second stays.committed stays.survives third c.rollback.ensures.undone c.rollback.ensures.survives)
