use Rattle.std.proofs.Common.{◌≡◌, ◌<◌, ℕ, IsUtf8, get_or, take, []}
use Rattle.registry_guests.specs.Spelling.{words as words_in}
use Rattle.registry_guests.proofs.turning.texts.Given as goal

abbrev pub invariant-loop-word : goal.invariant-loop-word
invariant-loop-word l = record {
  texts : l.texts.items ≡ take l.word-index (words_in l.words);
  utf8 : (i : ℕ) → i < l.word-index → IsUtf8 (get_or (words_in l.words) i []);
}
