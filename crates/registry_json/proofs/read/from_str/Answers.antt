use Rattle.std.proofs.Common.{◌≡◌, ℕ, ◌<◌, List, [], ◌∷◌, length, arith, rules}
use Rattle.json.specs.Lex.{lex, punctuate, tokens}
use Rattle.json.specs.Json.{value}
use Rattle.registry_json.proofs.ReadingFacts.{whole_read}
use Rattle.serde_json.proofs.Nesting.{depth-read}
use Rattle.registry_json.proofs.read.from_str.Goals as goal

some_text : (text : List ℕ) → 0 < length (tokens text) → 0 < length text
unfolding lex punctuate
some_text [] h = h
some_text (x ∷ xs) h = omega arith

pub returns-in_err-value-clause-memory : goal.returns-in_err-value-clause-memory
returns-in_err-value-clause-memory c full = some_text c.args.text.now (rw c.in_ok-reader.ensures.ok at (c.read.ensures.memory (grind arith)))

pub returns-clause-nests : goal.returns-clause-nests
returns-clause-nests c =
    let none : c.read.new.reader ≡ [] = search rules in
    depth-read c.args.text.now _ (whole_read (value 127 (tokens c.args.text.now)) _ (rw (c.in_ok-reader.ensures.ok, none) at c.in_ok-value.ensures.ok))
