-- Entity tags (RFC 9110, 8.8.3), and the tags that the value of `if-none-match` names (13.1.2).
use Rattle.std.specs.Prelude.{◌≡◌, ◌⊎◌, ◌==◌, ◌&&◌, ◌||◌, ℕ, Bool, true, List, [], ◌∷◌, ◌++◌, length, codes, nat_le, nat_lt, Option, Some, None, if◌then◌else◌}
use Rattle.std.specs.List.{list_all}
use Rattle.registry_wire.specs.declared.wanted.FieldValue.{FieldValue}
use Rattle.registry_wire.specs.declared.wanted.FieldValue.TheVariants.{Absent, Once, Repeated}

-- ---- one tag

-- etagc = %x21 / %x23-7E / obs-text, obs-text = %x80-FF
abbrev pub is_etagc : ℕ → Bool
is_etagc b = (b == 33) || ((nat_le 35 b && nat_le b 126) || nat_le 128 b)

-- the opaque text of a tag, without its quotes: *etagc
abbrev pub is_opaque : List ℕ → Bool
is_opaque text = list_all is_etagc text

-- the most bytes of a tag that is sent
abbrev pub tag_limit : ℕ
tag_limit = 64

-- a tag that is sent has an opaque text of 1 to 64 bytes
abbrev pub is_tag : List ℕ → Bool
is_tag text = (nat_lt 0 (length text) && nat_le (length text) tag_limit) && is_opaque text

abbrev pub tag_of : List ℕ → Option (List ℕ)
tag_of text = if is_tag text then Some text else None

-- ---- lists of tags

-- OWS = *( SP / HTAB )
abbrev pub is_blank : ℕ → Bool
is_blank b = (b == 32) || (b == 9)

abbrev pub quote : ℕ
quote = 34

abbrev pub comma : ℕ
comma = 44

-- [ entity-tag ], entity-tag = [ weak ] opaque-tag, weak = %s"W/"
pub data Element : Type 0 where
  nothing : Element
  strong : List ℕ → Element
  weak : List ℕ → Element

-- opaque-tag = DQUOTE *etagc DQUOTE
abbrev pub quoted : List ℕ → List ℕ
quoted opaque = quote ∷ (opaque ++ quote ∷ [])

abbrev pub element_text : Element → List ℕ
element_text nothing = []
element_text (strong opaque) = quoted opaque
element_text (weak opaque) = codes "W/" ++ quoted opaque

abbrev pub is_element : Element → Bool
is_element nothing = true
is_element (strong opaque) = is_opaque opaque
is_element (weak opaque) = is_opaque opaque

-- the tags are equivalent by the weak comparison (8.8.3.2): their opaque texts are the same,
-- whether they are weak or not
abbrev pub Matches : List ℕ → Element → Type 0
Matches tag nothing = ⊥
Matches tag (strong opaque) = opaque ≡ tag
Matches tag (weak opaque) = opaque ≡ tag

-- OWS [ entity-tag ] OWS
pub record Item : Type 0 where
  pub before : List ℕ
  pub element : Element
  pub after : List ℕ

abbrev pub item_text : Item → List ℕ
item_text i = i.before ++ element_text i.element ++ i.after

abbrev pub is_item : Item → Bool
is_item i = list_all is_blank i.before && (is_element i.element && list_all is_blank i.after)

-- #entity-tag: items between commas
abbrev pub items_text : Item → List Item → List ℕ
items_text i [] = item_text i
items_text i (j ∷ js) = item_text i ++ comma ∷ items_text j js

abbrev pub SomeMatches : List ℕ → List Item → Type 0
SomeMatches tag [] = ⊥
SomeMatches tag (i ∷ is) = Matches tag i.element ⊎ SomeMatches tag is

-- The value of `if-none-match` names this tag: If-None-Match = "*" / #entity-tag, where
-- #entity-tag = [ entity-tag ] *( OWS "," OWS [ entity-tag ] ) (5.6.1.2). A value has no white space
-- around it (5.5), so a list of tags is one of items.
pub data Names (value tag : List ℕ) : Type 0 where
  any : value ≡ codes "*" → Names value tag
  listed : (i : Item) (is : List Item) → list_all is_item (i ∷ is) ≡ true → value ≡ items_text i is → SomeMatches tag (i ∷ is) → Names value tag

-- the fields of a request name it; more than one count as none
abbrev pub NamesTag : FieldValue → List ℕ → Type 0
NamesTag Absent tag = ⊥
NamesTag (Once value) tag = Names value tag
NamesTag Repeated tag = ⊥
