-- What the fields of a head say.
use Rattle.std.specs.Prelude.{ℕ, ◌==◌, ◌&&◌, ◌||◌, not, Bool, List, [], ◌∷◌, length, map, filter, if◌then◌else◌, nat_lt, nat_le, codes, Result, Ok, Err, bytes_eq}
use Rattle.std.specs.List.{list_all, list_any, slice_split}
use Rattle.std.specs.Char.{to_ascii_lowercase, is_ascii_digit}
use Rattle.std.specs.Str.Parse.{digits_value}
use Rattle.httparse.specs.Grammar.{RequestHead, trim_ows}
use Rattle.httparse.specs.Spans.{name_and_value}
use Rattle.registry_names.specs.Bodies.{body_limit}
use Rattle.registry_names.specs.declared.refusal.Refusal.{Refusal}
use Rattle.registry_names.specs.declared.refusal.Refusal.TheVariants.{BadBody, TooLarge}

-- the names and the values of the fields, in their order; a value has no white space around it
abbrev pub Fields : Type 0
Fields = List (List ℕ × List ℕ)

abbrev pub fields_of : RequestHead → Fields
fields_of h = map name_and_value h.fields

-- the same text except for the case of ASCII letters
unfoldable pub is_same : List ℕ → List ℕ → Bool
is_same a b = bytes_eq (map to_ascii_lowercase a) (map to_ascii_lowercase b)

-- the values of the fields of this name
abbrev pub values : List ℕ → Fields → List (List ℕ)
values name fs = map (λ f. f.1) (filter (λ f. is_same f.0 name) fs)

-- what the fields of a name say: there is none, or one with this value, or there are more
pub data Said : Type 0 where
  absent : Said
  once : List ℕ → Said
  repeated : Said

abbrev pub said_by : List (List ℕ) → Said
said_by [] = absent
said_by (v ∷ []) = once v
said_by (v ∷ w ∷ vs) = repeated

abbrev pub said : List ℕ → Fields → Said
said name fs = said_by (values name fs)

-- ---- the length of the body

-- the field says that the body isn't sent as it is
abbrev pub codes_body : List ℕ × List ℕ → Bool
codes_body f = is_same f.0 (codes "transfer-encoding") || (is_same f.0 (codes "content-encoding") && not (bytes_eq f.1 (codes "identity")))

-- digits, at least one
abbrev pub is_number : List ℕ → Bool
is_number text = nat_lt 0 (length text) && list_all is_ascii_digit text

abbrev pub within_limit : ℕ → Result ℕ Refusal
within_limit n = if nat_le n body_limit then Ok n else Err TooLarge

-- the length that the digits write, however many they are
abbrev pub written_len : List ℕ → Result ℕ Refusal
written_len text = if is_number text then within_limit (digits_value 10 text) else Err BadBody

-- the length that `content-length` says, or 0 where there is no such field; there is at most one
abbrev pub said_len : Said → Result ℕ Refusal
said_len absent = Ok 0
said_len (once text) = written_len text
said_len repeated = Err BadBody

-- the length of the body, or why the request is refused
abbrev pub body_len : Fields → Result ℕ Refusal
body_len fs = if list_any codes_body fs then Err BadBody else said_len (said (codes "content-length") fs)

-- ---- the end of the connection

-- a value is a list of items between commas
abbrev pub is_close : List ℕ → Bool
is_close item = is_same (trim_ows item) (codes "close")

abbrev pub lists_close : List ℕ → Bool
lists_close value = list_any is_close (slice_split (λ b. b == 44) value)

-- the field asks that the connection ends
abbrev pub asks_to_close : List ℕ × List ℕ → Bool
asks_to_close f = is_same f.0 (codes "connection") && lists_close f.1
