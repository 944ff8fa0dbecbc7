use Rattle.std.proofs.Common.{◌==◌, length, ap, ◌∙◌}
use Rattle.registry_ranges.proofs.binding.is_release.Goals as goal

pub returns : goal.returns
returns c = c.is_empty.ensures ∙ ap (λ v. length v.pre == 0) c.as_semver.ensures.parts
