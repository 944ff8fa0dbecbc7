use Rattle.std.proofs.Common.{◌≡◌, ◌∙◌, ap, map, subst, List, [], false, true}
use Rattle.std.specs.Prelude.{IfErr, IfOk}
use Rattle.clap.specs.Faults.{fault_of}
use Rattle.clap.specs.Takes.{takes}
use Rattle.clap.specs.Walk.{Text}
use Rattle.registry_cli.specs.Lines.{has_both, line_of}
use Rattle.registry_cli.specs.Subcommands.{registry}
use Rattle.registry_cli.specs.Usages.{IsMemoryOrBoth}
use Rattle.registry_cli.proofs.reading.line.Goals as goal

pub returns : goal.returns
returns c =
    let result = c.line_in_texts.result in
    let arguments_are : map (λ s. s.now) c.as_slice.result.now ≡ c.args.arguments.now = ap (map (λ s. s.now)) c.as_slice.ensures.value ∙ c.in_ok-texts.ensures in
    record {
      ok = subst (λ (a : List Text). IfOk result (λ l. (l ≡ line_of a) × (has_both a ≡ false))) arguments_are c.line_in_texts.ensures.ok;
      whole = c.line_in_texts.ensures.whole;
      faultless = subst (λ (a : List Text). IfOk result (λ _. fault_of registry a ≡ [])) arguments_are c.line_in_texts.ensures.faultless;
      err = subst (λ (a : List Text). IfErr result (λ u. takes registry a ≡ true → IsMemoryOrBoth u (has_both a))) arguments_are c.line_in_texts.ensures.err;
    }
