-- What the words of a cache promise: the laws that the functions of `src/laws.rt` ensure.
use Rattle.std.specs.Prelude.{◌≡◌, ◌≤◌, ◌<◌, ℕ, ◌+◌, false, cond, [], ◌∷◌, ◌++◌, Some, None, MatchBool}
use Rattle.registry_names.specs.Texts.{Text, is}
use Rattle.registry_names.specs.Maps.{first_at}
use Rattle.registry_cache.specs.Caches.{Entries, Cache, cache, cost, texts, kept, size, prefix, is_large, forgotten, asked, with_text, with_room}

-- ---- what is kept under each name

abbrev pub NewKeepsNothing : Type 0
NewKeepsNothing = (limit : ℕ) (name : Text) → kept (cache [] None limit) name ≡ None

abbrev pub AskedKeepsAll : Type 0
AskedKeepsAll = (s : Cache) (name other : Text) → kept (asked s name) other ≡ kept s other

abbrev pub ForgottenAlone : Type 0
ForgottenAlone = (s : Cache) (name other : Text)
    → kept (forgotten s name) other ≡ cond (is name other) None (kept s other)

-- a text is kept, however many bytes it has
abbrev pub PutIsKept : Type 0
PutIsKept = (s : Cache) (name text : Text) → kept (with_text s name text) name ≡ Some text

-- under the name nothing is kept but the text, and under another name nothing but what was kept
-- there
abbrev pub PutKeepsRight : Type 0
PutKeepsRight = (s : Cache) (name text other found : Text)
    → kept (with_text s name text) other ≡ Some found
    → MatchBool (is name other) (found ≡ text) (kept s other ≡ Some found)

abbrev pub RoomKeepsRight : Type 0
RoomKeepsRight = (s : Cache) (name text other found : Text)
    → kept (with_room s name text) other ≡ Some found
    → MatchBool (is name other) ⊥ (kept s other ≡ Some found)

-- ---- no name is kept twice

abbrev pub AreOnce : Entries → Type 0
AreOnce [] = Unit {0}
AreOnce (e ∷ es) = (first_at is es e.0 ≡ None) × AreOnce es

abbrev pub NewKeepsOnce : Type 0
NewKeepsOnce = (limit : ℕ) → AreOnce (texts (cache [] None limit))

abbrev pub KeepsNamesUnique : (Cache → Cache) → Type 0
KeepsNamesUnique change = (s : Cache) → AreOnce (texts s) → AreOnce (texts (change s))

abbrev pub AskedKeepsOnce : Type 0
AskedKeepsOnce = (name : Text) → KeepsNamesUnique (λ s. asked s name)

abbrev pub ForgottenKeepsOnce : Type 0
ForgottenKeepsOnce = (name : Text) → KeepsNamesUnique (λ s. forgotten s name)

abbrev pub PutKeepsOnce : Type 0
PutKeepsOnce = (name text : Text) → KeepsNamesUnique (λ s. with_text s name text)

abbrev pub RoomKeepsOnce : Type 0
RoomKeepsOnce = (name text : Text) → KeepsNamesUnique (λ s. with_room s name text)

-- ---- a text that alone takes more than the limit

-- it lets none of the others go but what was kept under its name, and the one that was large before
abbrev pub LargeLeavesOthers : Type 0
LargeLeavesOthers = (s : Cache) (name text other : Text)
    → s.limit < cost (name, text) → is name other ≡ false → is_large s other ≡ false
    → kept (with_text s name text) other ≡ kept s other

-- the others don't let it go: it goes with its name
abbrev pub OthersLeaveLarge : Type 0
OthersLeaveLarge = (s : Cache) (name text : Text)
    → cost (name, text) ≤ s.limit → (with_text s name text).large ≡ (forgotten s name).large

-- ---- the longest prefix

-- the rest follows, and where it is some, its first entry has no room
pub record IsLongest (room : ℕ) (es : Entries) : Type 0 where
  pub room_enough : size (prefix room es) ≤ room
  pub begins : (rest : Entries) × (es ≡ prefix room es ++ rest)
  pub longest : (e : Text × Text) (rest : Entries)
      → es ≡ prefix room es ++ e ∷ rest → room < size (prefix room es) + cost e

abbrev pub PrefixesAreLongest : Type 0
PrefixesAreLongest = (room : ℕ) (es : Entries) → IsLongest room es

-- where there is room for all, all stay
abbrev pub AllStay : Type 0
AllStay = (room : ℕ) (es : Entries) → size es ≤ room → prefix room es ≡ es
