-- Texts as lists of bytes, their order, and the test whether two of them are the same.
use Rattle.std.specs.Prelude.{ℕ, Bool, List, bytes_eq}
use Rattle.std.specs.Ordering.{nat_cmp}
use Rattle.std.specs.declared.cmp.Ordering.{Ordering}
use Rattle.std.specs.Cmp.Lexicographic.{slice_cmp}

abbrev pub Text : Type 0
Text = List ℕ

-- by bytes, as Rust orders texts
abbrev pub text_cmp : Text → Text → Ordering
text_cmp = slice_cmp nat_cmp

-- whether two texts are the same, as Rust's `==` answers. What is stored or commanded comes first,
-- and what is asked second
unfoldable pub is : Text → Text → Bool
is a b = bytes_eq a b
