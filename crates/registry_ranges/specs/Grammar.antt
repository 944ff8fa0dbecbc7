-- The grammar of ranges, after the "Range Grammar" of node-semver's README. Each form is a tree, a
-- printer from the tree to its text, and a fact that says which trees are valid.
use Rattle.std.specs.Prelude.{◌≡◌, ◌≤◌, ℕ, ◌+◌, Bool, true, false, ◌||◌, ◌==◌, List, [], ◌∷◌, ◌++◌, replicate, codes}
use Rattle.std.specs.Fmt.{decimal}
use Rattle.semver.specs.Identifiers.{marked}
use Rattle.semver.specs.Grammar.{is_pre_release, is_build}
use Rattle.registry_names.specs.Versions.{greatest_number}
use Rattle.registry_ranges.specs.declared.component.Component.{Component}
use Rattle.registry_ranges.specs.declared.component.Component.TheVariants.{Wildcard, Number}
use Rattle.registry_ranges.specs.declared.simple.Operator.{Operator}
use Rattle.registry_ranges.specs.declared.simple.Operator.TheVariants.{Bare, Less, Greater, LessEq, GreaterEq, Equal, Tilde, TildeGreater, Caret}

-- the characters x, X and *
abbrev pub is_wildcard : ℕ → Bool
is_wildcard b = b == 120 || b == 88 || b == 42

-- xr ::= 'x' | 'X' | '*' | nr, where nr is a number with no leading zero, of at most 2^53 - 1
abbrev pub print_component : Component → List ℕ
print_component (Wildcard b) = b ∷ []
print_component (Number n) = decimal n

abbrev pub IsComponent : Component → Type 0
IsComponent (Wildcard b) = is_wildcard b ≡ true
IsComponent (Number n) = n ≤ greatest_number

-- partial ::= xr ( '.' xr ( '.' xr qualifier? )? )?
-- The texts of pre and build are empty where they are left out.
pub data Partial : Type 0 where
  one : Component → Partial
  two : Component → Component → Partial
  three : Component → Component → Component → List ℕ → List ℕ → Partial

abbrev pub print_partial : Partial → List ℕ
print_partial (one a) = print_component a
print_partial (two a b) = print_component a ++ 46 ∷ print_component b
print_partial (three a b c pre build) = print_component a ++ 46 ∷ (print_component b ++ 46 ∷ (print_component c ++ (marked 45 pre ++ marked 43 build)))

abbrev pub IsPartial : Partial → Type 0
IsPartial (one a) = IsComponent a
IsPartial (two a b) = IsComponent a × IsComponent b
IsPartial (three a b c pre build) = IsComponent a × IsComponent b × IsComponent c × (is_pre_release pre ≡ true) × (is_build build ≡ true)

-- one v may come before a partial
abbrev pub print_v : Bool → List ℕ
print_v true = 118 ∷ []
print_v false = []

abbrev pub spaces : ℕ → List ℕ
spaces n = replicate n 32

-- the bytes of an operator
abbrev pub print_operator : Operator → List ℕ
print_operator Bare = []
print_operator Less = codes "<"
print_operator Greater = codes ">"
print_operator LessEq = codes "<="
print_operator GreaterEq = codes ">="
print_operator Equal = codes "="
print_operator Tilde = codes "~"
print_operator TildeGreater = codes "~>"
print_operator Caret = codes "^"

-- simple ::= primitive | partial | tilde | caret, with spaces after an operator
pub record Simple : Type 0 where
  pub operator : Operator
  pub gap : ℕ
  pub v : Bool
  pub partial : Partial

abbrev pub print_simple : Simple → List ℕ
print_simple s = print_operator s.operator ++ (spaces s.gap ++ (print_v s.v ++ print_partial s.partial))

-- a bare partial has no spaces of its own
abbrev pub IsSimple : Simple → Type 0
IsSimple s = IsPartial s.partial × (s.operator ≡ Bare → s.gap ≡ 0)

-- hyphen ::= partial ' - ' partial
pub record Hyphen : Type 0 where
  pub low_v : Bool
  pub low : Partial
  pub before : ℕ
  pub after : ℕ
  pub high_v : Bool
  pub high : Partial

-- range ::= hyphen | simple ( ' ' simple )* | ''
-- Each simple but the first has one space and then some more in front of it.
pub data Range : Type 0 where
  empty : Range
  between : Hyphen → Range
  simples : Simple → List (ℕ × Simple) → Range

abbrev pub print_more : List (ℕ × Simple) → List ℕ
print_more [] = []
print_more ((gap, s) ∷ rest) = spaces (gap + 1) ++ (print_simple s ++ print_more rest)

abbrev pub print_range : Range → List ℕ
print_range empty = []
print_range (between h) = print_v h.low_v ++ (print_partial h.low ++ (spaces (h.before + 1) ++ 45 ∷ (spaces (h.after + 1) ++ (print_v h.high_v ++ print_partial h.high))))
print_range (simples first more) = print_simple first ++ print_more more

abbrev pub AreSimples : List (ℕ × Simple) → Type 0
AreSimples [] = Unit {0}
AreSimples ((gap, s) ∷ rest) = IsSimple s × AreSimples rest

abbrev pub IsRange : Range → Type 0
IsRange empty = Unit {0}
IsRange (between h) = IsPartial h.low × IsPartial h.high
IsRange (simples first more) = IsSimple first × AreSimples more

-- range-set ::= range ( '||' range )*, with spaces round each range
pub record Spaced : Type 0 where
  pub before : ℕ
  pub range : Range
  pub after : ℕ

abbrev pub print_spaced : Spaced → List ℕ
print_spaced s = spaces s.before ++ (print_range s.range ++ spaces s.after)

abbrev pub print_others : List Spaced → List ℕ
print_others [] = []
print_others (s ∷ rest) = 124 ∷ 124 ∷ (print_spaced s ++ print_others rest)

pub record RangeSet : Type 0 where
  pub first : Spaced
  pub others : List Spaced

abbrev pub print_set : RangeSet → List ℕ
print_set t = print_spaced t.first ++ print_others t.others

abbrev pub AreRanges : List Spaced → Type 0
AreRanges [] = Unit {0}
AreRanges (s ∷ rest) = IsRange s.range × AreRanges rest

abbrev pub IsSet : RangeSet → Type 0
IsSet t = IsRange t.first.range × AreRanges t.others

-- the text is a range set
abbrev pub IsRangeText : List ℕ → Type 0
IsRangeText text = (t : RangeSet) × IsSet t × (text ≡ print_set t)
