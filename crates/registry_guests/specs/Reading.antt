-- Reading from left to right.
use Rattle.std.specs.Prelude.{◌≡◌, ℕ, zero, suc, List, [], ◌∷◌, length, take, drop, Result, Ok, Err, ◌==◌, nat_lt, not, if◌then◌else◌}
use Rattle.std.specs.Int.{Width, w32, w64, byte_len, from_be_bytes}
use Rattle.registry_guests.specs.declared.fault.Malformed.{Malformed}
use Rattle.registry_guests.specs.declared.fault.ReadError.{ReadError}
use Rattle.registry_guests.specs.declared.fault.ReadError.TheVariants as errors

infixl 10 ◌>>=◌
abbrev pub ◌>>=◌ : {A B : Type 0} → Result A Malformed → (A → Result B Malformed) → Result B Malformed
(Ok x) >>= f = f x
(Err e) >>= f = Err e

abbrev pub malformed : Malformed
malformed = record {}

-- What a function returned, seen through `view`, is what reading gives, unless memory ran out.
abbrev pub Fails : {Y : Type 0} → ReadError → Result Y Malformed → Type 0
Fails errors.Memory read = Unit {0}
Fails (errors.Malformed f) read = read ≡ Err f

abbrev pub Gives : {X Y : Type 0} → (X → Y) → Result X ReadError → Result Y Malformed → Type 0
Gives view (Ok x) read = read ≡ Ok (view x)
Gives view (Err e) read = Fails e read

-- A field is a value and the bytes after it.
abbrev pub number_at : Width → List ℕ → Result (ℕ × List ℕ) Malformed
number_at w bytes = if nat_lt (length bytes) (byte_len w) then Err malformed else Ok (from_be_bytes w (take (byte_len w) bytes), drop (byte_len w) bytes)

unfoldable pub word_at : List ℕ → Result (List ℕ × List ℕ) Malformed
word_at bytes = do
  n ← number_at w32 bytes
  if nat_lt (length n.1) n.0 then Err malformed else Ok (take n.0 n.1, drop n.0 n.1)

unfoldable pub words_at : ℕ → List ℕ → Result (List (List ℕ) × List ℕ) Malformed
words_at zero bytes = Ok ([], bytes)
words_at (suc n) bytes = do
  first ← word_at bytes
  others ← words_at n first.1
  Ok (first.0 ∷ others.0, others.1)

-- the words, and what follows them
unfoldable pub all_of : List ℕ → Result (List (List ℕ) × List ℕ) Malformed
all_of bytes = do
  n ← number_at w32 bytes
  words_at n.0 n.1

-- the body, which nothing follows
unfoldable pub body_at : List ℕ → Result (List ℕ) Malformed
body_at bytes = do
  n ← number_at w64 bytes
  if not (length n.1 == n.0) then Err malformed else Ok n.1

-- a whole message
unfoldable pub whole_of : List ℕ → Result (List (List ℕ) × List ℕ) Malformed
whole_of bytes = do
  x ← all_of bytes
  body ← body_at x.1
  Ok (x.0, body)
