use Rattle.registry_cache.proofs.CacheFacts.{large_leaves_others, others_leave_large}
use Rattle.registry_cache.proofs.laws.large_texts_are_kept_apart.Goals as goal

pub returns-clause-others : goal.returns-clause-others
returns-clause-others c = large_leaves_others

pub returns-clause-large : goal.returns-clause-large
returns-clause-large c = others_leave_large
