use Rattle.std.proofs.Common.{◌≡◌, ◌∙◌, ap, ap₂, inl, is_some, map, subst, sym, true, List}
use Rattle.std.proofs.lemmas.Result.{IfErr-weaker, IfOk-weaker}
use Rattle.clap.specs.Faults.{fault_of, is_simple_and_free}
use Rattle.clap.specs.Matches.{found_of}
use Rattle.clap.specs.Simple.{App, app_of, is_simple, matches_of, subcommand_of, subcommand_rows_of}
use Rattle.clap.specs.Takes.{takes}
use Rattle.clap.specs.Walk.{Row, Text, rows_of}
use Rattle.registry_cli.proofs.WholeFacts.{used_is, whole_of}
use Rattle.registry_cli.specs.Lines.{IsWhole, are_both_in, line_in}
use Rattle.registry_cli.specs.declared.meaning.Line.{Line}
use Rattle.registry_cli.specs.Subcommands.{registry}
use Rattle.registry_cli.specs.Usages.{IsMemoryOrBoth}
use Rattle.registry_cli.proofs.reading.line_in_texts.Goals as goal

pub returns-in-Ok : goal.returns-in-Ok
returns-in-Ok c =
    let app_is : app_of c.in_ok-registry.field-0 ≡ registry = c.in_ok-registry.ensures.app in
    let words = map (λ s. s.now) c.args.texts.now in
    let has = c.in-Ok.ensures.matches (ap is_simple app_is) in
    let rows_are : rows_of (found_of c.in-Ok.matches) ≡ matches_of registry words = has.0 ∙ ap (λ (a : App). matches_of a words) app_is in
    let found_is : subcommand_rows_of c.in-Ok.matches ≡ subcommand_of registry words = has.1 ∙ ap (λ (a : App). subcommand_of a words) app_is in
    let parsed = c.in-Ok.ensures.parsed in
    let checked = (parsed.parsed (parsed.from.globals ∙ c.in_ok-registry.ensures.no_globals)).checked in
    let used = checked.subcommand (parsed.from.needs_subcommand ∙ ap (λ (a : App). a.top.subcommand_required) app_is) in
    let given : is_some (subcommand_rows_of c.in-Ok.matches) ≡ true = used_is _ used in
    record {
      ok = IfOk-weaker c.line_in.result _ _ (λ l h. (h.0 ∙ ap₂ line_in rows_are found_is, sym (ap are_both_in rows_are) ∙ h.1)) c.line_in.ensures.ok;
      whole = IfOk-weaker c.line_in.result _ _ (λ l h. subst (λ (what : List Text). IsWhole what) (sym (ap (λ (l : Line). l.what) (h.0 ∙ ap₂ line_in rows_are found_is))) (whole_of words (ap is_some (sym found_is) ∙ given))) c.line_in.ensures.ok;
      faultless = IfOk-weaker c.line_in.result _ _ (λ l h. sym (ap (λ (a : App). fault_of a words) app_is) ∙ c.in-Ok.ensures.kinds (ap is_simple_and_free app_is)) c.line_in.ensures.ok;
      err = IfErr-weaker c.line_in.result _ _ (λ u h taken. subst (λ (rows : List Row). IsMemoryOrBoth u (are_both_in rows)) rows_are h) c.line_in.ensures.err;
    }

pub returns-in-Err-clause-err : goal.returns-in-Err-clause-err
returns-in-Err-clause-err c =
    let app_is : app_of c.in_ok-registry.field-0 ≡ registry = c.in_ok-registry.ensures.app in
    let words = map (λ s. s.now) c.args.texts.now in
    λ taken. inl (c.said.ensures (c.in-Err.ensures.passes (ap (λ (a : App). takes a words) app_is ∙ taken)))
