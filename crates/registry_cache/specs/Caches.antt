-- What a cache of texts keeps.
use Rattle.std.specs.Prelude.{◌≡◌, Bool, false, ℕ, ◌+◌, ◌-◌, nat_le, not, List, [], ◌∷◌, ◌++◌, length, filter, Option, Some, None, if◌then◌else◌, refl}
use Rattle.std.specs.Option.{option_map_or, option_to_list}
use Rattle.std.specs.Coded.{Coded, code_by, coded×, coded_list, coded_option, coded_ℕ}
use Rattle.registry_names.specs.Texts.{Text, is}
use Rattle.registry_names.specs.Maps.{first_at}

-- names with their texts
abbrev pub Entries : Type 0
Entries = List (Text × Text)

-- Each name with its text, the latest asked first, and how many bytes these may take together. Beside
-- them one text that alone takes more, with its name
pub record Cache : Type 0 where
  pub entries : Entries
  pub large : Option (Text × Text)
  pub limit : ℕ

abbrev pub cache : Entries → Option (Text × Text) → ℕ → Cache
cache es large limit = record { entries = es; large = large; limit = limit }

abbrev pub coded_entry : Coded (Text × Text)
coded_entry = coded× (coded_list coded_ℕ) (coded_list coded_ℕ)

-- a cache is kept as its fields, one beside the other
abbrev pub cache_code : Coded Cache
cache_code = code_by (Entries × (Option (Text × Text) × ℕ))
    (coded× (coded_list coded_entry) (coded× (coded_option coded_entry) coded_ℕ))
    (λ s. (s.entries, (s.large, s.limit))) (λ p. cache p.0 p.1.0 p.1.1) (λ _. refl)

-- what an entry takes in memory beside its bytes and those of its name
abbrev pub entry_cost : ℕ
entry_cost = 256

-- what an entry takes of the limit
abbrev pub cost : Text × Text → ℕ
cost e = entry_cost + (length e.0 + length e.1)

-- what all these take together
abbrev pub size : Entries → ℕ
size [] = 0
size (e ∷ es) = cost e + size es

-- without what is under the name
abbrev pub entries_without : Text → Entries → Entries
entries_without name es = filter (λ e. not (is e.0 name)) es

-- the longest prefix that takes no more than this
abbrev pub prefix : ℕ → Entries → Entries
prefix room [] = []
prefix room (e ∷ es) = if nat_le (cost e) room then e ∷ prefix (room - cost e) es else []

-- the text, where the test passes its name
abbrev pub passed : (Text → Bool) → Option (Text × Text) → Option (Text × Text)
passed test None = None
passed test (Some e) = if test e.0 then Some e else None

module _ (s : Cache) where
  -- all texts, the large one first
  abbrev pub texts : Entries
  texts = option_to_list s.large ++ s.entries

  -- the bytes of the large text, if there is one
  abbrev pub large_size : ℕ
  large_size = option_map_or (λ e. length e.1) s.large 0

  -- what is kept under the names that the test passes, in the same order, and nothing else
  abbrev pub kept_where : (Text → Bool) → Cache
  kept_where test = cache (filter (λ e. test e.0) s.entries) (passed test s.large) s.limit

  -- whether the large text has this name
  abbrev pub is_large : Text → Bool
  is_large name = option_map_or (λ e. is name e.0) s.large false

  -- nothing is kept under the name of the large text, and all else as it was
  abbrev pub without_large : Cache
  without_large = kept_where (λ q. not (is_large q))

module _ (s : Cache) (name : Text) where
  -- the text that is kept under the name
  abbrev pub kept : Option Text
  kept = first_at is (texts s) name

  -- nothing is kept under the name, and all else as it was
  abbrev pub forgotten : Cache
  forgotten = kept_where s (λ q. not (is q name))

  -- The same is kept. The name with its text is now the first of the entries, if it is among them
  abbrev pub asked : Cache
  asked = cache
      (option_map_or (λ text. (name, text) ∷ entries_without name s.entries) (first_at is s.entries name)
      s.entries) s.large s.limit

  module _ (text : Text) where
    -- a text within the limit: of the others, from the latest asked on, as long as they fit beside
    -- it, and the large one
    abbrev pub beside : Cache
    beside = cache (prefix (s.limit - cost (name, text)) forgotten.entries) forgotten.large s.limit

    -- What stays of the others where the text comes. A large text takes the place of the large one,
    -- and no other goes
    abbrev pub with_room : Cache
    with_room = if nat_le (cost (name, text)) s.limit then beside else without_large forgotten

    -- the text is kept under the name with those of the others, as the latest asked or as the large
    -- one
    abbrev pub with_text : Cache
    with_text = if nat_le (cost (name, text)) s.limit
        then cache ((name, text) ∷ beside.entries) beside.large s.limit
        else cache (without_large forgotten).entries (Some (name, text)) s.limit

-- what is kept is right: of each name and its text R holds
pub record AreRight (R : Text → Text → Type 0) (s : Cache) : Type 0 where
  pub right : (name text : Text) → kept s name ≡ Some text → R name text
