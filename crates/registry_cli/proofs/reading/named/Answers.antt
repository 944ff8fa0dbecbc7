use Rattle.std.proofs.Common.{◌∙◌, ◌++◌, ◌∷◌, [], ap₂, sym}
use Rattle.clap.specs.Matches.{found_of}
use Rattle.clap.specs.Walk.{rows_of}
use Rattle.registry_cli.specs.Lines.{value_in}
use Rattle.registry_cli.proofs.RowFacts.{values_more}
use Rattle.registry_cli.proofs.reading.named.Goals as goal

pub loop-parameter-preserved : goal.loop-parameter-preserved
loop-parameter-preserved c = c.in_ok-push_text-2.ensures
    ∙ ap₂ (λ values value. values ++ value ∷ []) c.loop-parameter.invariant c.value.ensures
    ∙ sym (values_more (value_in (rows_of (found_of c.args.matches.now))) c.args.name.now c.args.parameters.now c.loop-parameter.parameter-index _ c.loop-parameter-test.true)
