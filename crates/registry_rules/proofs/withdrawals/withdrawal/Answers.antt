use Rattle.std.proofs.Common.{◌∙◌, ap, sym, map}
use Rattle.registry_names.specs.Versions.{text_of_version}
use Rattle.registry_rules.specs.Changes.{change_of}
use Rattle.registry_rules.specs.Effects as effects
use Rattle.registry_rules.proofs.ListedFacts.{pushed}
use Rattle.registry_rules.proofs.withdrawals.withdrawal.Goals as goal

pub returns : goal.returns
returns c =
    let p = c.args.name.now in
    pushed change_of _ _ _ _ c.in_ok-push.ensures.items (c.in_ok-changes.ensures ∙ ap (λ o. map (effects.freed p o) c.args.tags.now) c.greatest_other-other.ensures)
    ∙ ap (λ o. effects.withdrawal c.args.now.now p (text_of_version c.args.version.now) o (map text_of_version c.args.live.now) c.args.tags.now) (sym c.in-Some.is)
