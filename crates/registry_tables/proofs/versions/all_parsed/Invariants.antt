use Rattle.registry_tables.proofs.Words.{◌≡◌, map, take, text_of_version}
use Rattle.registry_tables.proofs.versions.all_parsed.Given as goal

-- the texts so far are read
abbrev pub invariant-loop-text : goal.invariant-loop-text
invariant-loop-text l = map text_of_version l.versions.items ≡ take l.text-index l.texts
