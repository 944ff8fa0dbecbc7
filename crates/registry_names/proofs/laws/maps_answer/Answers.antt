use Rattle.registry_names.proofs.MapFacts.{at-empty, at-put, at-erase, at-keep, at-revise, same_map}
use Rattle.registry_names.proofs.laws.maps_answer.Goals as goal

pub returns-clause-empty : goal.returns-clause-empty
returns-clause-empty g c = λ cmp same key. at-empty key

pub returns-clause-put : goal.returns-clause-put
returns-clause-put g c = λ cmp same key. at-put key

pub returns-clause-erase : goal.returns-clause-erase
returns-clause-erase g c = λ cmp same key. at-erase key

pub returns-clause-keep : goal.returns-clause-keep
returns-clause-keep g c = λ cmp same key. at-keep key

pub returns-clause-revise : goal.returns-clause-revise
returns-clause-revise g c = λ cmp same key. at-revise key

pub returns-clause-same : goal.returns-clause-same
returns-clause-same g c = λ cmp same key. same_map key
