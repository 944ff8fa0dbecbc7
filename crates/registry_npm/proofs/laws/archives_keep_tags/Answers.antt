use Rattle.registry_npm.proofs.LabelFacts.{archives_keep_tags, content_tags_are_tags}
use Rattle.registry_npm.proofs.laws.archives_keep_tags.Goals as goal

pub returns-clause-same : goal.returns-clause-same
returns-clause-same c = archives_keep_tags

pub returns-clause-form : goal.returns-clause-form
returns-clause-form c = content_tags_are_tags
