-- What the words of this crate promise: the laws that the functions of `src/laws.rt` ensure.
use Rattle.std.specs.Prelude.{◌≡◌, ◌≢◌, ◌↔◌, Bool, true, cond, List, [], ◌∷◌, ◌++◌, map, filter, is_some, Some, None, option_map}
use Rattle.std.specs.declared.cmp.Ordering.{Ordering}
use Rattle.std.specs.declared.cmp.Ordering.TheVariants.{Less, Equal}
use Rattle.registry_names.specs.Texts.{Text, is}
use Rattle.registry_names.specs.Keys.{IsKey, by_first}
use Rattle.registry_names.specs.Maps.{MapBy, empty, at, put, erase, keep, entries, revise, rows, part, first_at, rises, among, keys}
use Rattle.registry_names.specs.Versions.{VersionParts, IsVersionOf, precedence}
use Rattle.registry_names.specs.VersionOrder.{IsBelow, release_of, same_version}
use Rattle.registry_names.specs.Precedence.{IsSemVer, text_precedence, version_in}
use Rattle.registry_names.specs.Greatest.{IsGreatest, greatest}

-- a law under every order and test that make keys of K
abbrev pub UnderKeys : (K : Type 0) → ((K → K → Ordering) → (K → K → Bool) → Type 0) → Type 0
UnderKeys K law = (cmp : K → K → Ordering) (same : K → K → Bool) → IsKey cmp same → law cmp same

module _ (X : Type 0) {K : Type 0} (cmp : K → K → Ordering) (same : K → K → Bool) where
  -- ---- what a map answers after each change

  abbrev pub EmptyAnswers : Type 0
  EmptyAnswers = (k : K) → at (empty {X = X} {cmp = cmp}) k ≡ None

  abbrev pub PutAnswers : Type 0
  PutAnswers = (m : MapBy cmp X) (q : K) (x : X) (k : K) → at (put m q x) k ≡ cond (same q k) (Some x) (at m k)

  abbrev pub EraseAnswers : Type 0
  EraseAnswers = (m : MapBy cmp X) (q k : K) → at (erase m q) k ≡ cond (same q k) None (at m k)

  abbrev pub KeepAnswers : Type 0
  KeepAnswers = (m : MapBy cmp X) (test : K → Bool) (k : K) → at (keep m test) k ≡ cond (test k) (at m k) None

  abbrev pub ReviseAnswers : Type 0
  ReviseAnswers = (m : MapBy cmp X) (f : K → X → X) (k : K) → at (revise m f) k ≡ option_map (f k) (at m k)

  -- maps that answer alike are equal
  abbrev pub AnswersTell : Type 0
  AnswersTell = (m n : MapBy cmp X) → ((k : K) → at m k ≡ at n k) → m ≡ n

  -- ---- the rows that give a map

  abbrev pub RowsAnswer : Type 0
  RowsAnswer = (es : List (K × X)) (k : K) → at (rows cmp es) k ≡ first_at same es k

  -- one more row, whose key is new, is a put
  abbrev pub RowsPush : Type 0
  RowsPush = (es : List (K × X)) (q : K) (x : X) → at (rows cmp es) q ≡ None → rows cmp (es ++ (q, x) ∷ []) ≡ put (rows cmp es) q x

  -- rows chosen by a test of their keys give the entries that the test keeps
  abbrev pub RowsKeep : Type 0
  RowsKeep = (es : List (K × X)) (test : K → Bool) → rows cmp (filter (λ (e : K × X). test e.0) es) ≡ keep (rows cmp es) test

  -- rows with changed values give the revised map
  abbrev pub RowsRevise : Type 0
  RowsRevise = (es : List (K × X)) (f : K → X → X) → rows cmp (map (λ (e : K × X). (e.0, f e.0 e.1)) es) ≡ revise (rows cmp es) f

  -- ---- the entries of a map

  abbrev pub EntriesAnswer : Type 0
  EntriesAnswer = (m : MapBy cmp X) (k : K) → at m k ≡ first_at same (entries m) k

  abbrev pub EntriesRise : Type 0
  EntriesRise = (m : MapBy cmp X) → rises cmp (entries m) ≡ true

  -- rows that rise, and have at each key what the map has, are its entries
  abbrev pub EntriesTold : Type 0
  EntriesTold = (m : MapBy cmp X) (es : List (K × X)) → rises cmp es ≡ true → ((k : K) → first_at same es k ≡ at m k) → entries m ≡ es

  -- ---- the part of a map under a first text, where K is the rest of a key

  abbrev pub PartAnswers : Type 0
  PartAnswers = (m : MapBy (by_first cmp) X) (p : Text) (k : K) → first_at same (part cmp m p) k ≡ at m (p, k)

  abbrev pub PartMembers : Type 0
  PartMembers = (m : MapBy (by_first cmp) X) (p : Text) (k : K) → among same (keys (part cmp m p)) k ≡ is_some (at m (p, k))

  abbrev pub PartRises : Type 0
  PartRises = (m : MapBy (by_first cmp) X) (p : Text) → rises cmp (part cmp m p) ≡ true

  -- rows that rise, and have at each rest what the map has, are the part
  abbrev pub PartTold : Type 0
  PartTold = (m : MapBy (by_first cmp) X) (p : Text) (es : List (K × X)) → rises cmp es ≡ true → ((k : K) → first_at same es k ≡ at m (p, k)) → part cmp m p ≡ es

-- ---- versions

-- precedence puts one version below another exactly where it is below
abbrev pub VersionsBelow : Type 0
VersionsBelow = (a b : VersionParts) → (precedence a b ≡ Less) ↔ IsBelow a b

-- a version with a prerelease is below the release of its numbers
abbrev pub ReleaseAbove : Type 0
ReleaseAbove = (v : VersionParts) → v.pre ≢ [] → precedence v (release_of v) ≡ Less

-- versions of the same precedence are equal
abbrev pub VersionsTie : Type 0
VersionsTie = (a b : VersionParts) → (precedence a b ≡ Equal) ↔ (a ≡ b)

-- the test holds exactly of equal versions
abbrev pub SameVersions : Type 0
SameVersions = (a b : VersionParts) → (same_version a b ≡ true) ↔ (a ≡ b)

-- ---- precedence of texts

-- texts of the same precedence are equal
abbrev pub PrecedenceTells : Type 0
PrecedenceTells = (a b : Text) → text_precedence a b ≡ Equal → a ≡ b

-- the parts of a text that is a version are its own
abbrev pub VersionsAreRead : Type 0
VersionsAreRead = (t : Text) (v : VersionParts) → IsVersionOf t v → version_in t ≡ Some v

-- the precedence of two versions is SemVer's
abbrev pub PrecedenceOfVersions : Type 0
PrecedenceOfVersions = (a b : Text) (x y : VersionParts) → IsVersionOf a x → IsVersionOf b y → text_precedence a b ≡ precedence x y

-- a text that isn't a version by SemVer is below each version
abbrev pub OthersBelow : Type 0
OthersBelow = (a b : Text) (y : VersionParts) → ¬ (IsSemVer a) → IsVersionOf b y → text_precedence a b ≡ Less

-- ---- the greatest

abbrev pub GreatestIs : Type 0
GreatestIs = (vs : List Text) (m : Text) → (greatest vs ≡ Some m) ↔ IsGreatest m vs

abbrev pub GreatestStands : Type 0
GreatestStands = (vs : List Text) → (greatest vs ≡ None) ↔ (vs ≡ [])

-- lists with the same members have the same greatest
abbrev pub GreatestOfMembers : Type 0
GreatestOfMembers = (xs ys : List Text) → ((v : Text) → among is xs v ≡ among is ys v) → greatest xs ≡ greatest ys
