-- What a list of bytes spells: requests, one after the other, and an end.
use Rattle.std.specs.Prelude.{◌≡◌, ◌<◌, ◌≤◌, ◌⊎◌, ◌+◌, ℕ, List, [], ◌∷◌, ◌++◌, length, drop, Ok, Err}
use Rattle.httparse.specs.Grammar.{RequestHead, ReadsRequest, HasNoRequest, MayBecomeRequest, print_request}
use Rattle.registry_names.specs.Bodies.{body_limit}
use Rattle.registry_names.specs.declared.refusal.Refusal.{Refusal}
use Rattle.registry_names.specs.declared.refusal.Refusal.TheVariants.{BadBody}
use Rattle.registry_wire.specs.Fields.{body_len, fields_of}
use Rattle.registry_wire.specs.Asked.{wanted_of}
use Rattle.registry_wire.specs.declared.wanted.Wanted.{Wanted}
use Rattle.registry_wire.specs.declared.first.Ending.{Ending}
use Rattle.registry_wire.specs.declared.first.Ending.TheVariants.{Closed, BadInput}
use Rattle.registry_wire.specs.declared.first.First.{First}
use Rattle.registry_wire.specs.declared.first.First.TheVariants as first

-- the most bytes of a head, its blank line included, and its most fields
abbrev pub head_limit : ℕ
head_limit = 16384

abbrev pub field_limit : ℕ
field_limit = 64

-- the bytes are the head h, and then rest
pub record HasHead (bytes : List ℕ) (h : RequestHead) (rest : List ℕ) : Type 0 where
  pub reads : ReadsRequest bytes h rest
  pub fields : length h.fields ≤ field_limit
  pub fits : length (print_request h) ≤ head_limit

-- whatever follows, they don't begin with a head
abbrev pub NeverHasHead : List ℕ → Type 0
NeverHasHead bytes = (more : List ℕ) (h : RequestHead) (rest : List ℕ) → ¬ (HasHead (bytes ++ more) h rest)

-- ---- the first request

-- the bytes are the whole request w, and then rest
pub record HasRequest (bytes : List ℕ) (w : Wanted) (rest : List ℕ) : Type 0 where
  pub head : RequestHead
  pub begins : HasHead bytes head (w.body ++ rest)
  pub len : body_len (fields_of head) ≡ Ok (length w.body)
  pub asked : w ≡ wanted_of head w.body

-- they begin with a head by which the request is refused
pub record IsRefused (bytes : List ℕ) (r : Refusal) : Type 0 where
  pub head : RequestHead
  pub after : List ℕ
  pub begins : HasHead bytes head after
  pub len : body_len (fields_of head) ≡ Err r

-- they begin with what isn't a request, whatever follows
abbrev pub IsBad : List ℕ → Refusal → Type 0
IsBad bytes r = IsRefused bytes r ⊎ ((r ≡ BadBody) × NeverHasHead bytes)

-- no head has come, and one may come
pub record LacksHead (bytes : List ℕ) : Type 0 where
  pub none : HasNoRequest bytes
  pub may_come : MayBecomeRequest bytes
  pub short : length bytes < head_limit

-- a head has come, and not its whole body
pub record LacksBody (bytes : List ℕ) : Type 0 where
  pub head : RequestHead
  pub after : List ℕ
  pub size : ℕ
  pub begins : HasHead bytes head after
  pub len : body_len (fields_of head) ≡ Ok size
  pub short : length after < size

abbrev pub IsUnfinished : List ℕ → Type 0
IsUnfinished bytes = LacksHead bytes ⊎ LacksBody bytes

-- what the bytes that have come say of the first request
abbrev pub Says : List ℕ → First → Type 0
Says bytes (first.Whole w used) = HasRequest bytes w (drop used bytes) × (used ≤ length bytes)
Says bytes first.Unfinished = IsUnfinished bytes
Says bytes (first.Bad r) = IsBad bytes r

-- the most bytes of a request
abbrev pub request_limit : ℕ
request_limit = head_limit + body_limit

-- ---- all the bytes of a connection

-- These are the last bytes: there are none, or they begin with what isn't a request, or with one
-- that is cut.
abbrev pub EndsWith : List ℕ → Ending → Type 0
EndsWith bytes Closed = bytes ≡ []
EndsWith bytes (BadInput r) = IsBad bytes r ⊎ ((r ≡ BadBody) × (0 < length bytes) × IsUnfinished bytes)

-- These are all, and they spell these requests, one after the other, and end so.
abbrev pub Spells : List ℕ → List Wanted → Ending → Type 0
Spells bytes [] e = EndsWith bytes e
Spells bytes (w ∷ ws) e = (rest : List ℕ) × HasRequest bytes w rest × Spells rest ws e
