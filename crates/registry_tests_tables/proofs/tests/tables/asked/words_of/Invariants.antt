use denote.Text.{Utf8}
use denote.Shadow.{shadow}
use Rattle.registry_tests_tables.proofs.tests.tables.asked.words_of.Given as goal

-- the last word is a text
abbrev pub invariant-loop-place : goal.invariant-loop-place
invariant-loop-place l = shadow (Utf8 l.last)
