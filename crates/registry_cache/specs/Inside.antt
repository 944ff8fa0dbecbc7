-- What the fields of a cache are to a contract.
use Rattle.std.specs.Prelude.{◌≡◌, ◌-◌, ◌^◌, ◌≤◌, ℕ, List, map}
use Rattle.registry_names.specs.Texts.{Text}
use Rattle.registry_cache.specs.Caches.{Entries, size}

-- the entries, with the bytes of their names and of what is kept
abbrev pub named : {S V : Type 0} → (S → Text) → (V → Text) → List (S × V) → Entries
named name bytes es = map (λ e. (name e.0, bytes e.1)) es

-- What all that is kept takes, but for the large one, is counted and is little enough. It alone makes
-- what is kept go, and no number of entries does
pub record IsCounted (es : Entries) (count limit cap : ℕ) : Type 0 where
  pub counted : count ≡ size es
  pub limited : count ≤ limit
  pub unbounded : cap ≡ 2 ^ 64 - 1
