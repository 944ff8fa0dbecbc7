-- Byte streams. Contracts see the bytes, where they are known, how many calls failed, and
-- whether the bytes are no longer known.
use Rattle.std.specs.Prelude.{◌≡◌, ℕ, zero, suc, ◌-◌, ◌+◌, ◌^◌, ◌<◌, ◌≤◌, min, Bool, false, List, length, take, Result, Ok, Err, Option, IfSome}
use Rattle.std.specs.Io.KnownBytes.{Appends, Consumes}

-- the greatest count of failures, at which every call fails
abbrev pub full_count : ℕ
full_count = 2 ^ 64 - 1

-- the count after one more failure: the greatest stays
abbrev pub raised : ℕ → ℕ
raised n = min (n + 1) full_count

-- the count after some more failures
abbrev pub raised_by : ℕ → ℕ → ℕ
raised_by zero n = n
raised_by (suc k) n = raised (raised_by k n)

-- the count rose by at least one failure number and at most the other
abbrev pub RisesBetween : ℕ → ℕ → ℕ → ℕ → Type 0
RisesBetween least most old new = (k : ℕ) × (least ≤ k) × (k ≤ most) × (new ≡ raised_by k old)

-- the count after a call
abbrev pub failures_after : {A E : Type 0} → Result A E → ℕ → ℕ
failures_after (Ok x) n = n
failures_after (Err e) n = raised n

-- Over some calls the stream took bs, after the bytes that were known before, unless they are no
-- longer known.
pub record Writes (old new : Option (List ℕ)) (unknown : Bool) (bs : List ℕ) : Type 0 where
  pub told : unknown ≡ false → Appends old new bs

-- It took a prefix of the text, and not all of it.
pub record WritesPrefix (old new : Option (List ℕ)) (unknown : Bool) (text : List ℕ) : Type 0 where
  pub count : ℕ
  pub is_less : count < length text
  pub wrote : Writes old new unknown (take count text)

-- Over some calls the stream gave bs, the first of the bytes that were known before, unless they
-- are no longer known.
pub record Reads (old new : Option (List ℕ)) (unknown : Bool) (bs : List ℕ) : Type 0 where
  pub told : unknown ≡ false → Consumes old new bs

-- It gave some of the first bytes that were known before, no more than a limit.
pub record ReadsUpTo (limit : ℕ) (old new : Option (List ℕ)) (unknown : Bool) : Type 0 where
  pub given : List ℕ
  pub is_within : length given ≤ limit
  pub read : Reads old new unknown given

-- Unless the bytes are no longer known, these are the first of the bytes that were known before, up
-- to a limit.
abbrev pub AreFirst : ℕ → Option (List ℕ) → Bool → List ℕ → Type 0
AreFirst limit old unknown bs = unknown ≡ false → IfSome old (λ left. bs ≡ take limit left)
