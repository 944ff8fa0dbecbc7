use Rattle.registry_names.proofs.MapFacts.{at-rows, at-entries}
use Rattle.registry_names.proofs.ChangeFacts.{rows_push, rows_keep, rows_revise}
use Rattle.registry_names.proofs.EntryFacts.{entries_rise, entries_are}
use Rattle.registry_names.proofs.laws.rows_give_maps.Goals as goal

pub returns-clause-rows : goal.returns-clause-rows
returns-clause-rows g c = λ cmp same key. at-rows key

pub returns-clause-push : goal.returns-clause-push
returns-clause-push g c = λ cmp same key. rows_push key

pub returns-clause-keep : goal.returns-clause-keep
returns-clause-keep g c = λ cmp same key. rows_keep key

pub returns-clause-revise : goal.returns-clause-revise
returns-clause-revise g c = λ cmp same key. rows_revise key

pub returns-clause-entries : goal.returns-clause-entries
returns-clause-entries g c = λ cmp same key. at-entries key

pub returns-clause-rise : goal.returns-clause-rise
returns-clause-rise g c = λ cmp same key m. entries_rise m

pub returns-clause-told : goal.returns-clause-told
returns-clause-told g c = λ cmp same key. entries_are key
