-- The definitions at small keys.
use Rattle.std.proofs.Common.{◌≡◌, List, [], ◌∷◌, pos, true, false, codes, refl}
use Rattle.sqlite.specs.declared.types.Value.TheVariants.{Null, Int, Text as Stored}
use Rattle.sqlite_value.specs.Order.{Row}
use Rattle.registry_names.specs.Texts.{Text, is}
use Rattle.registry_laws_sql.specs.Places.{picked, are_places, columns_at, texts_at}
use Rattle.registry_laws_sql.specs.Joins.{Side, given, first, second, joins, are_sides}

-- ---- places

first_and_last : (a b c : Text) → picked 2 1 (0, 2) (a, (b, c)) ≡ (a, c)
first_and_last a b c = refl

backwards : (a b c : Text) → picked 2 1 (2, 0) (a, (b, c)) ≡ (c, a)
backwards a b c = refl

the_second : (a b c d : Text) → picked 3 0 1 (a, (b, (c, d))) ≡ b
the_second a b c d = refl

the_whole_key : (a b : Text) → picked 1 1 (0, 1) (a, b) ≡ (a, b)
the_whole_key a b = refl

one_place_twice : (a b : Text) → picked 1 1 (1, 1) (a, b) ≡ (b, b)
one_place_twice a b = refl

all_are_places : are_places 2 2 (0, (1, 2)) ≡ true
all_are_places = refl

beyond_the_key : are_places 2 1 (0, 3) ≡ false
beyond_the_key = refl

one_text_has_one_place : are_places 0 0 1 ≡ false
one_text_has_one_place = refl

after_the_rowid : columns_at 1 (0, 2) ≡ 1 ∷ 3 ∷ []
after_the_rowid = refl

in_a_row : (a b c : Text) → texts_at 1 (0, 2) (Null ∷ Stored a ∷ Stored b ∷ Stored c ∷ []) ≡ (a, c)
in_a_row a b c = refl

-- ---- joins

abbrev sides : List (Side × Side)
sides = (first 1, given 0) ∷ (second 0, first 0) ∷ []

abbrev lab : Text
lab = codes "lab"

abbrev asked : Row
asked = Stored (codes "ann") ∷ []

they_join : joins 1 1 asked sides (lab, codes "ann") (lab, codes "kit") ≡ true
unfolding is
they_join = refl

of_another_user : joins 1 1 asked sides (lab, codes "bob") (lab, codes "kit") ≡ false
unfolding is
of_another_user = refl

of_another_organisation : joins 1 1 asked sides (lab, codes "ann") (codes "labs", codes "kit") ≡ false
unfolding is
of_another_organisation = refl

nothing_compared : (k l : Text) → joins 0 0 [] [] k l ≡ true
nothing_compared k l = refl

a_missing_parameter : are_sides 1 1 [] sides ≡ false
a_missing_parameter = refl

a_number_is_no_text : are_sides 1 1 (Int (pos 1) ∷ []) sides ≡ false
a_number_is_no_text = refl
