-- The places of a head that is cut, each by what can follow there.
use Rattle.std.specs.Prelude.{◌≡◌, ◌≤◌, ◌+◌, ℕ, List, [], ◌∷◌, ◌++◌, length, drop, All, codes}
use Rattle.httparse.specs.Ascii.{carriage_return, colon, digit_zero, line_feed, space}
use Rattle.httparse.specs.Grammar.{AllPass, Field, IsField, IsToken, LineEnd, ReadsRequest, RequestHead, is_token_byte, is_uri_byte, is_value_byte, print_blank, print_end, print_section}
use Rattle.registry_wire.specs.declared.place.Place.{Place}
use Rattle.registry_wire.specs.declared.place.Place.TheVariants.{Blank, BlankReturn, Method, Target, Version, Minor, Return, Line, LastReturn, Name, Value}

-- the bytes are a head
abbrev pub IsHead : List ℕ → Type 0
IsHead bytes = (h : RequestHead) × ReadsRequest bytes h []

-- whatever follows of this form, the bytes are a head then
abbrev pub Expects : (List ℕ → Type 0) → List ℕ → Type 0
Expects Follows bytes = (text : List ℕ) → Follows text → IsHead (bytes ++ text)

-- ---- what can follow, from the end of a head to its beginning

-- fields, and the empty line that ends a head
pub record AreLines (text : List ℕ) : Type 0 where
  pub fields : List Field
  pub last : LineEnd
  pub each : All IsField fields
  pub is : text ≡ print_section fields last

-- the line feed of a line
pub record IsLineFeed (text : List ℕ) : Type 0 where
  pub after : List ℕ
  pub is : text ≡ line_feed ∷ after
  pub lines : AreLines after

-- the end of a line
pub record IsLineEnd (text : List ℕ) : Type 0 where
  pub end : LineEnd
  pub after : List ℕ
  pub is : text ≡ print_end end ++ after
  pub lines : AreLines after

-- the rest of a field's value
pub record IsValueRest (text : List ℕ) : Type 0 where
  pub raw : List ℕ
  pub after : List ℕ
  pub passes : AllPass is_value_byte raw
  pub is : text ≡ raw ++ after
  pub ends : IsLineEnd after

-- the rest of a field's name, and its value
pub record IsNameRest (text : List ℕ) : Type 0 where
  pub name : List ℕ
  pub after : List ℕ
  pub passes : AllPass is_token_byte name
  pub is : text ≡ name ++ colon ∷ after
  pub value : IsValueRest after

-- the version up to its last digit
abbrev pub version_text : List ℕ
version_text = codes "HTTP/1."

-- the rest of a version of which this many bytes have come
pub record IsVersionRest (count : ℕ) (text : List ℕ) : Type 0 where
  pub minor : ℕ
  pub after : List ℕ
  pub small : minor ≤ 1
  pub is : text ≡ drop count version_text ++ (digit_zero + minor) ∷ after
  pub ends : IsLineEnd after

-- ---- what has come of a request line

-- empty lines
pub record AreBlank (bytes : List ℕ) : Type 0 where
  pub ends : List LineEnd
  pub is : bytes ≡ print_blank ends

-- and a CR
pub record AreBlankReturn (bytes : List ℕ) : Type 0 where
  pub ends : List LineEnd
  pub is : bytes ≡ print_blank ends ++ carriage_return ∷ []

-- and a method, or its first bytes
pub record EndInMethod (bytes : List ℕ) : Type 0 where
  pub ends : List LineEnd
  pub method : List ℕ
  pub token : IsToken method
  pub is : bytes ≡ print_blank ends ++ method

-- and a space and the first bytes of a target, from this one on
pub record EndInTarget (start : ℕ) (bytes : List ℕ) : Type 0 where
  pub ends : List LineEnd
  pub method : List ℕ
  pub target : List ℕ
  pub token : IsToken method
  pub passes : AllPass is_uri_byte target
  pub is : bytes ≡ (print_blank ends ++ (method ++ space ∷ [])) ++ target
  pub starts : start ≡ length (print_blank ends ++ (method ++ space ∷ []))

-- ---- the places

-- the bytes are a head that is cut at this place
abbrev pub IsAt : Place → List ℕ → Type 0
IsAt Blank bytes = AreBlank bytes
IsAt BlankReturn bytes = AreBlankReturn bytes
IsAt Method bytes = EndInMethod bytes
IsAt (Target start) bytes = EndInTarget start bytes
IsAt (Version count) bytes = Expects (IsVersionRest count) bytes
IsAt Minor bytes = Expects IsLineEnd bytes
IsAt Return bytes = Expects IsLineFeed bytes
IsAt Line bytes = Expects AreLines bytes
IsAt LastReturn bytes = Expects (λ text. text ≡ line_feed ∷ []) bytes
IsAt Name bytes = Expects IsNameRest bytes
IsAt Value bytes = Expects IsValueRest bytes

-- with one byte more a head that is cut at a place is cut at the next
pub record Leads (place : Place) (byte : ℕ) (next : Place) : Type 0 where
  pub leads : (bytes : List ℕ) → IsAt place bytes → IsAt next (bytes ++ byte ∷ [])
