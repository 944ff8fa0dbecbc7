use Rattle.std.proofs.Common.{◌≡◌, arith, rules, subst, true}
use Rattle.sqlite.specs.Held.{state}
use Rattle.sqlite.specs.State.{HasCleanDisk}
use Rattle.registry_rows.specs.Ready.{Ready}
use Rattle.registry_rows.specs.Tables.{no_tables}
use Rattle.registry_tables.specs.Effects.{HasNoTables}
use Rattle.registry_tests_tables.proofs.WalkFacts.{committed_awaits}
use Rattle.registry_tests_tables.specs.Resting.{AwaitsWalk}
use Rattle.registry_tests_tables.proofs.WholeFacts.{holds_leaves, whole_form}
use Rattle.registry_tests_tables.proofs.tests.tables.walks.put.Goals as goal

pub all_answer-requires : goal.all_answer-requires
all_answer-requires g c = record {
  whole = holds_leaves g.S.Store c.create.new.tx _ (λ clean.
      let old = c.args.conn.now in
      let none : Ready no_tables (state g.S.Store (record old { in_transaction = true })) = λ _ alive. record { schema_is = c.requires.empty.2; sound = (c.requires.empty.1 alive).0; rowids = tt } in
      let begun : HasNoTables g.S.Store c.transaction-tx.result = rw c.transaction-tx.ensures.begun none in
      c.in_ok-create.ensures.made begun clean);
}

pub returns-in-Ok : goal.returns-in-Ok
returns-in-Ok g c = record {
  awaits =
      let mid = state g.S.Store c.all_answer.new.tx.conn.now in
      let new = state g.S.Store c.commit.new.tx.0 in
      let whole : AwaitsWalk new = committed_awaits mid new (whole_form g.S.Store c.all_answer.new.tx c.all_answer.new.tx c.all_answer.ensures.whole)
      (λ clean. let were : HasCleanDisk mid = omega (arith, c.commit.ensures.survives.clean, clean) in were) (λ clean. c.in-Ok.ensures.ok clean) in
      let same : c.commit.new.tx.0 ≡ c.conn-2-1.given.0 = search rules in
      subst (λ h. AwaitsWalk (state g.S.Store h)) same whole;
}
