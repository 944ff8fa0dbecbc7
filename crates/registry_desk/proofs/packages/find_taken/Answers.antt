use Rattle.registry_desk.proofs.Words.{◌∙◌, ap, ap₂, is_some, sym, text_of_version, is_live, is_spent, registry_of}
use Rattle.registry_desk.proofs.InsideFacts.{both, found, found_known}
use Rattle.registry_rules.specs.Withdrawals.{gone_since}
use Rattle.registry_desk.proofs.TakenFacts.{none_withdrawn}
use Rattle.registry_desk.proofs.packages.find_taken.Goals as goal

pub returns : goal.returns
returns g c = found
    (found_known (found_known (both (found_known c.in_ok-version_lives.ensures c.in_ok-latest_stands.ensures) c.in_ok-last_withdrawal.ensures) c.in_ok-version_spent.ensures) c.in_ok-gone_since.ensures)
    (λ d it.
    let S = registry_of d in
    let name = c.name-name.ensures.value in
    let version = c.text-version.ensures.text ∙ ap text_of_version c.version.ensures.value in
    let is_any = c.is_some.ensures ∙ ap is_some it.0.0.1 in
    record {
      version_lives = it.0.0.0.0 ∙ ap₂ (is_live S) name version;
      version_spent = it.0.1 (λ none. none_withdrawn S c.name-name.result.now c.text-version.result.now (sym is_any ∙ none)) ∙ ap₂ (is_spent S) name version;
      latest_stands = it.0.0.0.1;
      gone_since = it.1 it.0.0.1 ∙ ap (gone_since S) name;
    })
