use Rattle.registry_names.proofs.PartFacts.{at-part, any-part, part_rises, part_is}
use Rattle.registry_names.proofs.laws.parts_answer.Goals as goal

pub returns-clause-part : goal.returns-clause-part
returns-clause-part g c = λ cmp same key. at-part key

pub returns-clause-members : goal.returns-clause-members
returns-clause-members g c = λ cmp same key. any-part key

pub returns-clause-rise : goal.returns-clause-rise
returns-clause-rise g c = λ cmp same key. part_rises cmp

pub returns-clause-told : goal.returns-clause-told
returns-clause-told g c = λ cmp same key. part_is key
