use Rattle.std.proofs.Common.{◌≡◌, ◌∙◌, ap, ap₂, false, map, subst, sym, true, List, []}
use Rattle.std.proofs.lemmas.Result.{IfErr-weaker}
use Rattle.std.specs.Prelude.{IsErrAnd}
use Rattle.clap.specs.Faults.{fault_of, is_simple_and_free}
use Rattle.clap.specs.Matches.{found_of}
use Rattle.clap.specs.Simple.{App, app_of, is_simple, matches_of, subcommand_of, subcommand_rows_of}
use Rattle.clap.specs.Takes.{takes}
use Rattle.clap.specs.Walk.{Row, rows_of}
use Rattle.registry_cli.proofs.ErrandFacts.{found_anyway, found_is, found_none, found_ok, found_one, memory_finds, when_taken}
use Rattle.registry_cli.specs.Errands.{errand_in, errand_of, admin_command}
use Rattle.registry_cli.specs.Lines.{are_both_in}
use Rattle.registry_cli.specs.Usages.{IsMemoryOrBoth}
use Rattle.registry_cli.specs.declared.usage.Usage.TheVariants as usage
use Rattle.registry_cli.proofs.errands.read.Goals as goal

pub returns-in-Ok : goal.returns-in-Ok
returns-in-Ok c =
    let app_is : app_of c.in_ok-admin_command.field-0 ≡ admin_command = c.in_ok-admin_command.ensures.app in
    let words = map (λ s. s.now) c.args.texts.now in
    let has = c.in-Ok.ensures.matches (ap is_simple app_is) in
    let rows_are : rows_of (found_of c.in-Ok.matches) ≡ matches_of admin_command words = has.0 ∙ ap (λ (a : App). matches_of a words) app_is in
    let called_is : subcommand_rows_of c.in-Ok.matches ≡ subcommand_of admin_command words = has.1 ∙ ap (λ (a : App). subcommand_of a words) app_is in
    let faultless : fault_of admin_command words ≡ [] = sym (ap (λ (a : App). fault_of a words) app_is) ∙ c.in-Ok.ensures.kinds (ap is_simple_and_free app_is) in
    let result = c.errand_in.result in
    let is = c.errand_in.ensures.ok in
    record {
      ok = found_ok result _ (errand_of words) _ (are_both_in (matches_of admin_command words)) is (ap₂ errand_in rows_are called_is);
      one = found_one result _ (errand_of words) _ (are_both_in (matches_of admin_command words)) is (ap are_both_in rows_are);
      faultless = found_anyway result (fault_of admin_command words ≡ []) faultless;
      named = λ taken. found_is result _ (errand_of words) _ (are_both_in (matches_of admin_command words)) is (ap₂ errand_in rows_are called_is);
      err = IfErr-weaker result _ _ (λ u h taken. subst (λ (rows : List Row). IsMemoryOrBoth u (are_both_in rows)) rows_are h) c.errand_in.ensures.err;
    }

pub returns-in-Err : goal.returns-in-Err
returns-in-Err c =
    let app_is : app_of c.in_ok-admin_command.field-0 ≡ admin_command = c.in_ok-admin_command.ensures.app in
    let words = map (λ s. s.now) c.args.texts.now in
    let result = c.unread.result in
    let memory : takes admin_command words ≡ true → IsErrAnd result (λ u. u ≡ usage.Memory) = λ taken. c.unread.ensures.memory (c.in-Err.ensures.passes (ap (λ (a : App). takes a words) app_is ∙ taken)) in
    record {
      ok = found_none result (λ found. found ≡ errand_of words) c.unread.ensures.none;
      one = found_none result (λ _. are_both_in (matches_of admin_command words) ≡ false) c.unread.ensures.none;
      faultless = found_none result (λ _. fault_of admin_command words ≡ []) c.unread.ensures.none;
      named = λ taken. memory_finds result (λ found. found ≡ errand_of words) (memory taken);
      err = when_taken result _ (are_both_in (matches_of admin_command words)) memory;
    }
