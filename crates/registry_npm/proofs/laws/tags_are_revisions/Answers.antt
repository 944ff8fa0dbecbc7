use Rattle.registry_npm.proofs.LabelFacts.{tags_are_revisions}
use Rattle.registry_npm.proofs.TagFacts.{shown-tagged}
use Rattle.registry_npm.proofs.laws.tags_are_revisions.Goals as goal

pub returns-clause-turns : goal.returns-clause-turns
returns-clause-turns c = tags_are_revisions

pub returns-clause-states : goal.returns-clause-states
returns-clause-states c = shown-tagged
