use Rattle.registry_names.specs.VersionOrderLaws.{precedence_total, same_version_decides}
use Rattle.registry_names.proofs.VersionOrderFacts.{precedence_below, below_release, precedence_tells}
use Rattle.registry_names.proofs.laws.versions_are_ordered.Goals as goal

pub returns-clause-total : goal.returns-clause-total
returns-clause-total c = precedence_total

pub returns-clause-below : goal.returns-clause-below
returns-clause-below c = precedence_below

pub returns-clause-release : goal.returns-clause-release
returns-clause-release c = below_release

pub returns-clause-ties : goal.returns-clause-ties
returns-clause-ties c = precedence_tells

pub returns-clause-same : goal.returns-clause-same
returns-clause-same c = same_version_decides
