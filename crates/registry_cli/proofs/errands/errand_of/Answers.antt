use Rattle.std.proofs.Common.{◌≡◌, ◌≢◌, ◌∙◌, ap, map, subst, List, [], None, false, true}
use Rattle.std.specs.Prelude.{IfErr, IfOk, IfSome, MatchResult}
use Rattle.clap.specs.Faults.{fault_of}
use Rattle.clap.specs.Simple.{matches_of}
use Rattle.clap.specs.Takes.{takes}
use Rattle.clap.specs.Walk.{Text}
use Rattle.registry_cli.specs.Errands.{errand_of, admin_command}
use Rattle.registry_cli.specs.Lines.{are_both_in}
use Rattle.registry_cli.specs.Subcommands.{registry}
use Rattle.registry_cli.specs.Usages.{IsMemoryOrBoth}
use Rattle.registry_cli.specs.declared.usage.Usage.TheVariants.{Memory}
use Rattle.registry_cli.proofs.errands.errand_of.Goals as goal

pub returns : goal.returns
returns c =
    let result = c.errand_in_texts.result in
    let arguments_are : map (λ s. s.now) c.as_slice.result.now ≡ c.args.arguments.now = ap (map (λ s. s.now)) c.as_slice.ensures.value ∙ c.in_ok-texts.ensures in
    record {
      ok = subst (λ (a : List Text). IfOk result (λ found. IfSome found (λ _. found ≡ errand_of a))) arguments_are c.errand_in_texts.ensures.ok;
      one = subst (λ (a : List Text). IfOk result (λ found. IfSome found (λ _. are_both_in (matches_of admin_command a) ≡ false))) arguments_are c.errand_in_texts.ensures.one;
      faultless = subst (λ (a : List Text). IfOk result (λ found. IfSome found (λ _. fault_of admin_command a ≡ []))) arguments_are c.errand_in_texts.ensures.faultless;
      line = subst (λ (a : List Text). fault_of registry a ≡ [] → MatchResult result (λ found. found ≡ None) (λ u. u ≡ Memory)) arguments_are c.errand_in_texts.ensures.line;
      named = subst (λ (a : List Text). fault_of registry a ≢ [] → takes admin_command a ≡ true → IfOk result (λ found. found ≡ errand_of a)) arguments_are c.errand_in_texts.ensures.named;
      err = subst (λ (a : List Text). IfErr result (λ u. takes admin_command a ≡ true → IsMemoryOrBoth u (are_both_in (matches_of admin_command a)))) arguments_are c.errand_in_texts.ensures.err;
    }
