use Rattle.registry_tables.proofs.Words.{◌≡◌, false, take, list_any}
use Rattle.registry_tables.specs.Dependents.{binds_one}
use Rattle.registry_tables.proofs.dependents.any_text_binds.Given as goal

-- none of the texts so far binds one of the versions
abbrev pub invariant-loop-text : goal.invariant-loop-text
invariant-loop-text l = list_any (binds_one l.versions) (take l.text-index l.texts) ≡ false
