-- The texts of dist-tags: none of them could be read as a range of versions.
use Rattle.std.specs.Prelude.{◌≡◌, true, false, List, ℕ}
use Rattle.registry_names.specs.Tags.{is_tag}
use Rattle.registry_ranges.specs.Grammar.{IsRangeText}

-- the characters and the length of a tag, and no range
abbrev pub IsTag : List ℕ → Type 0
IsTag text = (is_tag text ≡ true) × ¬ (IsRangeText text)

-- neither the characters and the length of a tag, nor a range
abbrev pub IsNeither : List ℕ → Type 0
IsNeither text = (is_tag text ≡ false) × ¬ (IsRangeText text)
