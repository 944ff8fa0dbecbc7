use Rattle.std.proofs.Common.{◌≡◌, ◌∙◌, ap, arith, refl, rules, subst, sym, OnOk}
use Rattle.sqlite.specs.Effect.{Database}
use Rattle.sqlite.specs.Held.{state}
use Rattle.sqlite.specs.State.{HasCleanDisk}
use Rattle.registry_rows.proofs.QuietFacts.{on_answer}
use Rattle.registry_tables.specs.Creation.{creation}
use Rattle.registry_tables.specs.Fresh.{schema_after}
use Rattle.registry_migration.specs.Older.{schema_of}
use Rattle.registry_migration.proofs.OlderFacts.{count_within, empty_begun, made_by}
use Rattle.registry_migration.proofs.older.make_tables.Goals as goal

pub make_first-requires : goal.make_first-requires
unfolding creation
make_first-requires g c =
    let many = count_within c.args.older in
    record {
      texts = refl;
      some = omega (arith, many.0, c.count_of.ensures);
      few = omega (arith, many.1, c.count_of.ensures);
      none = rw c.transaction-tx.ensures.begun (empty_begun g.S.Store c.args.conn.now c.requires.empty);
    }

pub returns : goal.returns
returns g c clean =
    let mid = state g.S.Store c.make_first.new.tx.conn.now in
    let new = state g.S.Store c.commit.new.tx.0 in
    let same : c.commit.new.tx.0 ≡ c.conn-2-1.given.0 = search rules in
    let last : HasCleanDisk new = subst (λ h. HasCleanDisk (state g.S.Store h)) (sym same) clean in
    let made = c.in_ok-make_first.ensures.made (omega (arith, c.commit.ensures.survives.clean, last)) in
    let left : OnOk c.commit.result (new.now.schema ≡ schema_of c.args.older) =
    on_answer c.commit.result (λ done. ap (λ (d : Database). d.schema) done.1.now_is ∙ made.ready.schema_is ∙ ap schema_after c.count_of.ensures ∙ made_by c.args.older) (c.commit.ensures.ok last) in
    subst (λ h. OnOk c.commit.result ((state g.S.Store h).now.schema ≡ schema_of c.args.older)) same left
