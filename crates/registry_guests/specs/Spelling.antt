-- What a message is, and the one spelling of each.
use Rattle.std.specs.Prelude.{ℕ, ◌<◌, ◌^◌, List, ◌++◌, length, map}
use Rattle.std.specs.List.{flat_map, AllByRecursion}
use Rattle.std.specs.Int.{w32, w64, to_be_bytes}
use Rattle.std.specs.Global.{Vec}
use Rattle.registry_guests.specs.declared.reading.CommandMessage.{CommandMessage}

-- words without where they lie in memory
abbrev pub words : List (Vec ℕ) → List (List ℕ)
words ws = map (λ w. w.items) ws

-- the words of a message, and its body
abbrev pub view : CommandMessage → List (List ℕ) × List ℕ
view m = (words m.arguments.items, m.body.now)

-- four bytes of length, and that many bytes
abbrev pub word : List ℕ → List ℕ
word bytes = to_be_bytes w32 (length bytes) ++ bytes

-- eight bytes of length, and that many bytes
abbrev pub long_word : List ℕ → List ℕ
long_word bytes = to_be_bytes w64 (length bytes) ++ bytes

-- how many words there are, each word, and what follows them
abbrev pub spelled : List (List ℕ) → List ℕ → List ℕ
spelled ws rest = to_be_bytes w32 (length ws) ++ (flat_map word ws ++ rest)

-- a message: its words, and then its body
abbrev pub spelling : List (List ℕ) → List ℕ → List ℕ
spelling ws body = spelled ws (long_word body)

-- the words that have a spelling
abbrev pub AreWords : List (List ℕ) → Type 0
AreWords ws = (length ws < 2 ^ 32) × AllByRecursion (λ w. length w < 2 ^ 32) ws
