use Rattle.registry_tables.proofs.Words.{◌∙◌, ap, list_any, IfOk-weaker}
use Rattle.registry_tables.specs.Dependents.{binds_one}
use Rattle.registry_tables.proofs.InsideFacts.{finds_of}
use Rattle.registry_tables.proofs.dependents.dependent_binds.Goals as goal

pub returns : goal.returns
returns g c = finds_of g.S.Store c.args.tx.now c.load_ranges.new.tx c.in_ok-texts.texts c.any_text_binds.result c.in_ok-texts.ensures (λ _ told.
    IfOk-weaker c.any_text_binds.result _ _ (λ _ is. is ∙ ap (list_any (binds_one c.args.versions.now)) c.deref.ensures.value ∙ told (binds_one c.args.versions.now)) c.any_text_binds.ensures)
