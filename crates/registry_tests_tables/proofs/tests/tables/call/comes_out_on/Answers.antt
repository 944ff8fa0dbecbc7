use Rattle.std.proofs.Common.{true}
use Rattle.sqlite.specs.Held.{state}
use Rattle.registry_rows.specs.Tables.{no_tables}
use Rattle.registry_rows.specs.Ready.{Ready}
use Rattle.registry_tables.specs.Effects.{HasNoTables}
use Rattle.registry_tests_tables.proofs.WholeFacts.{holds_leaves}
use Rattle.registry_tests_tables.proofs.tests.tables.call.comes_out_on.Goals as goal

pub comes_out_inside-requires : goal.comes_out_inside-requires
comes_out_inside-requires g c = record {
  whole = holds_leaves g.S.Store c.create.new.tx _ (λ clean.
      let old = c.args.conn.now in
      let none : Ready no_tables (state g.S.Store (record old { in_transaction = true })) = λ _ alive. record { schema_is = c.requires.empty.2; sound = (c.requires.empty.1 alive).0; rowids = tt } in
      let begun : HasNoTables g.S.Store c.transaction-tx.result = rw c.transaction-tx.ensures.begun none in
      c.in_ok-create.ensures.made begun clean);
}
