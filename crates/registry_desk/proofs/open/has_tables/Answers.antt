use Rattle.registry_desk.proofs.Words.{◌∙◌, sym, IfOk-weaker, state}
use Rattle.registry_desk.proofs.OpenedFacts.{as_ready}
use Rattle.registry_desk.proofs.open.has_tables.Goals as goal

pub returns-clause-ready : goal.returns-clause-ready
returns-clause-ready g c =
    IfOk-weaker c.has_our_tables.result _ _ (λ ours told has. as_ready _ (state g.S.Store c.args.conn.now) c.requires.rises c.schema.ensures.live (sym c.schema.ensures.value ∙ told.0 has)) c.has_our_tables.ensures
