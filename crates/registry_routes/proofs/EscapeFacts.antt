-- The slash of a name that is escaped, and one that isn't.
use Rattle.std.proofs.Common.{◌≡◌, ℕ, ◌==◌, ◌++◌, List, [], ◌∷◌, length, Some, None, Option, Bool, true, false, refl, sym, ap, ◌∙◌, inl, inr, arith, length-append}
use Rattle.std.specs.Prelude.{◌&&◌, ◌||◌, not, bytes_eq, codes, option_map}
use Rattle.std.specs.List.{list_all}
use Rattle.std.proofs.lemmas.Bool.{cases_Bool}
use Rattle.std.specs.Char.{is_digit}
use Rattle.percent_encoding.specs.Percent.{is_escape, percent_decode}
use Rattle.registry_names.specs.declared.method.Method.{Method}
use Rattle.registry_routes.proofs.LawFacts.{and-left, and-right, same-text, begins, row_begins, table-begins}
use Rattle.registry_routes.specs.Laws.{IsEscapedSlash, NamesAlike, RoutesAlike, EscapesAreSlashes, begins_with_name}
use Rattle.registry_routes.specs.Paths.{begins_with_at, has_escaped_slash, is_escaped_slash, is_scope}
use Rattle.registry_routes.specs.Pieces.{Piece, literal, name, value, file, is_dash}
use Rattle.registry_routes.specs.Routes.{Route, Values, before, is_same, joined, or_later, route_in, route_of, values_in, values_of_row}
use Rattle.registry_routes.specs.Table.{Row, table}
use Rattle.registry_routes.specs.declared.endpoint.Endpoint.{Endpoint}

abbrev Text : Type 0
Text = List ℕ

-- ---- decoding

and-false : (a : Bool) → (a && false) ≡ false
and-false true = refl
and-false false = refl

or-true : (a b : Bool) → b ≡ true → (a || b) ≡ true
or-true true b e = refl
or-true false b e = e

decode-slash : (t : Text) → percent_decode (47 ∷ t) ≡ 47 ∷ percent_decode t
unfolding percent_decode
decode-slash [] = refl
decode-slash (a ∷ []) = refl
decode-slash (a ∷ b ∷ t) = refl

-- a byte before an escape, or before a slash, is no escape with it
decode-one_slash : (b : ℕ) (t : Text) → percent_decode (b ∷ 47 ∷ t) ≡ b ∷ percent_decode (47 ∷ t)
unfolding percent_decode
decode-one_slash b [] = refl
decode-one_slash b (c ∷ t) = elim (cases_Bool (b == 37)) [
  | inl hit ↦ rw hit refl
  | inr miss ↦ rw miss refl
]

decode-one_escape : (b c d : ℕ) (t : Text) → percent_decode (b ∷ 37 ∷ c ∷ d ∷ t) ≡ b ∷ percent_decode (37 ∷ c ∷ d ∷ t)
unfolding percent_decode
decode-one_escape b c d t = elim (cases_Bool (b == 37)) [
  | inl hit ↦ rw hit refl
  | inr miss ↦ rw miss refl
]

no-escape : (b c d : ℕ) (t : Text) → is_escape b c d ≡ false → percent_decode (b ∷ c ∷ d ∷ t) ≡ b ∷ percent_decode (c ∷ d ∷ t)
unfolding percent_decode
no-escape b c d t e = rw e refl

-- one escape more or less in front
same-more : (b c d : ℕ) (x y : Text) → percent_decode x ≡ percent_decode y → percent_decode (c ∷ d ∷ x) ≡ percent_decode (c ∷ d ∷ y)
    → percent_decode (b ∷ c ∷ d ∷ x) ≡ percent_decode (b ∷ c ∷ d ∷ y)
unfolding percent_decode
same-more b c d x y e f = elim (cases_Bool (is_escape b c d)) [
  | inl hit ↦ rw (hit, e) refl
  | inr miss ↦ rw miss (ap (λ (l : Text). b ∷ l) f)
]

escape-of_slash : (b c : ℕ) → is_escape b c 47 ≡ false
escape-of_slash b c = and-false (b == 37 && is_digit c 16)

escape-of_percent : (b c : ℕ) → is_escape b c 37 ≡ false
escape-of_percent b c = and-false (b == 37 && is_digit c 16)

-- an escape of a slash, whatever comes before it, is decoded as the slash is
decode-behind : (s t : Text) (f : ℕ) → percent_decode (37 ∷ 50 ∷ f ∷ t) ≡ percent_decode (47 ∷ t) → percent_decode (s ++ 37 ∷ 50 ∷ f ∷ t) ≡ percent_decode (s ++ 47 ∷ t)
decode-behind [] t f e = e
decode-behind (b ∷ []) t f e = decode-one_escape b 50 f t ∙ ap (λ (l : Text). b ∷ l) e ∙ sym (decode-one_slash b t)
decode-behind (b ∷ c ∷ []) t f e =
    no-escape b c 37 (50 ∷ f ∷ t) (escape-of_percent b c)
    ∙ ap (λ (l : Text). b ∷ l) (decode-behind (c ∷ []) t f e)
    ∙ sym (no-escape b c 47 t (escape-of_slash b c))
decode-behind (b ∷ c ∷ d ∷ s) t f e = same-more b c d (s ++ 37 ∷ 50 ∷ f ∷ t) (s ++ 47 ∷ t) (decode-behind s t f e) (decode-behind (c ∷ d ∷ s) t f e)

decode-lower : (t : Text) → percent_decode (37 ∷ 50 ∷ 102 ∷ t) ≡ 47 ∷ percent_decode t
unfolding percent_decode
decode-lower t = refl

decode-upper : (t : Text) → percent_decode (37 ∷ 50 ∷ 70 ∷ t) ≡ 47 ∷ percent_decode t
unfolding percent_decode
decode-upper t = refl

decode-joined : (s e t : Text) → IsEscapedSlash e → percent_decode (joined s t) ≡ percent_decode (s ++ (e ++ t))
decode-joined s e t (inl lower) = rw lower (sym (decode-behind s t 102 (decode-lower t ∙ sym (decode-slash t))))
decode-joined s e t (inr upper) = rw upper (sym (decode-behind s t 70 (decode-upper t ∙ sym (decode-slash t))))

-- ---- the segment of a name with its slash escaped

has-escaped : (s e t : Text) → IsEscapedSlash e → has_escaped_slash (s ++ (e ++ t)) ≡ true
has-escaped [] e t (inl lower) = rw lower refl
has-escaped [] e t (inr upper) = rw upper refl
has-escaped (b ∷ s) e t escaped = or-true (is_escaped_slash (b ∷ (s ++ (e ++ t)))) (has_escaped_slash (s ++ (e ++ t))) (has-escaped s e t escaped)

escaped-no_scope : (s e t : Text) → IsEscapedSlash e → is_scope (s ++ (e ++ t)) ≡ false
escaped-no_scope s e t escaped = rw (has-escaped s e t escaped) (and-false (begins_with_at (s ++ (e ++ t))))

scope-no_dash : (s : Text) → is_scope s ≡ true → is_dash s ≡ false
scope-no_dash s scope = elim (cases_Bool (is_dash s)) [
  | inl y ↦
      let bad : is_scope (codes "-") ≡ true = rw (same-text s (codes "-") y) at scope in
      cc bad
  | inr n ↦ n
]

escape-length : (e : Text) → IsEscapedSlash e → length e ≡ 3
escape-length e (inl lower) = ap length lower
escape-length e (inr upper) = ap length upper

escaped-no_dash : (s e t : Text) → IsEscapedSlash e → is_dash (s ++ (e ++ t)) ≡ false
escaped-no_dash s e t escaped = elim (cases_Bool (is_dash (s ++ (e ++ t)))) [
  | inl y ↦
      let three : length e ≡ 3 = escape-length e escaped in
      let one : length (s ++ (e ++ t)) ≡ 1 = ap length (same-text (s ++ (e ++ t)) (codes "-") y) in
      absurd (omega (arith, three, one, length-append s (e ++ t), length-append e t))
  | inr n ↦ n
]

-- ---- rows

-- both values, alike, or none
abbrev ValuesAlike : Option Values → Option Values → Type 0
ValuesAlike None None = Unit {0}
ValuesAlike (Some v) (Some w) = NamesAlike v w
ValuesAlike None (Some w) = ⊥
ValuesAlike (Some v) None = ⊥

before-alike : (v w : Text) (o : Option Values) → percent_decode v ≡ percent_decode w → ValuesAlike (option_map (before v) o) (option_map (before w) o)
before-alike v w None e = tt
before-alike v w (Some vs) e = (e, refl, refl)

-- two first segments, the first of which is a scope with its part after it
record Alike (s t x : Text) : Type 0 where
  pub scope : is_scope s ≡ true
  pub no_dash : is_dash s ≡ false
  pub no_scope : is_scope x ≡ false
  pub no_dash_either : is_dash x ≡ false
  pub decoded : percent_decode (joined s t) ≡ percent_decode x

names-alike : (ps : List Piece) (s t x : Text) (others : List Text) → Alike s t x → ValuesAlike (values_in (name ∷ ps) (s ∷ t ∷ others)) (values_in (name ∷ ps) (x ∷ others))
names-alike ps s t x [] a = rw (a.no_dash, a.no_dash_either, a.scope) (before-alike (joined s t) x (values_in ps []) a.decoded)
names-alike ps s t x (u ∷ us) a = rw (a.no_dash, a.no_dash_either, a.scope, a.no_scope) (before-alike (joined s t) x (values_in ps (u ∷ us)) a.decoded)

no-literal : (u s : Text) (ps : List Piece) (others : List Text) → is_dash u ≡ true → is_dash s ≡ false → values_in (literal u ∷ ps) (s ∷ others) ≡ None
no-literal u s ps others d n =
    let miss : bytes_eq s u ≡ false = rw (same-text u (codes "-") d) n in
    rw miss refl

nothing-alike : (o p : Option Values) → o ≡ None → p ≡ None → ValuesAlike o p
nothing-alike o p e f = rw (e, f) tt

pieces-alike : (ps : List Piece) (b : Bool) (s t x : Text) (others : List Text) → begins ps b ≡ true → Alike s t x → ValuesAlike (values_in ps (s ∷ t ∷ others)) (values_in ps (x ∷ others))
pieces-alike [] b s t x others e a = cc e
pieces-alike (literal u ∷ ps) b s t x others e a =
    let d = and-left (is_dash u) (not b) e in
    nothing-alike _ _ (no-literal u s ps (t ∷ others) d a.no_dash) (no-literal u x ps others d a.no_dash_either)
pieces-alike (name ∷ ps) b s t x others e a = names-alike ps s t x others a
pieces-alike (value ∷ ps) b s t x others e a = cc e
pieces-alike (file ∷ ps) b s t x others e a = cc e

row-alike : (r : Row) (m : Method) (s t x : Text) (others : List Text) → row_begins r ≡ true → Alike s t x → ValuesAlike (values_of_row r m (s ∷ t ∷ others)) (values_of_row r m (x ∷ others))
row-alike r m s t x others e a = elim (cases_Bool (is_same r.method m)) [
  | inl y ↦ rw y (pieces-alike r.pieces (begins_with_name r.endpoint) s t x others e a)
  | inr n ↦ rw n tt
]

first-alike : (endpoint : Endpoint) (o p : Option Values) (later other : Option Route) → ValuesAlike o p → RoutesAlike later other → RoutesAlike (or_later endpoint o later) (or_later endpoint p other)
first-alike endpoint None None later other a b = b
first-alike endpoint None (Some w) later other a b = absurd a
first-alike endpoint (Some v) None later other a b = absurd a
first-alike endpoint (Some v) (Some w) later other a b = (refl, a)

rows-alike : (rows : List Row) (m : Method) (s t x : Text) (others : List Text) → list_all row_begins rows ≡ true → Alike s t x → RoutesAlike (route_in rows m (s ∷ t ∷ others)) (route_in rows m (x ∷ others))
rows-alike [] m s t x others e a = tt
rows-alike (r ∷ rows) m s t x others e a =
    first-alike r.endpoint (values_of_row r m (s ∷ t ∷ others)) (values_of_row r m (x ∷ others)) (route_in rows m (s ∷ t ∷ others)) (route_in rows m (x ∷ others))
    (row-alike r m s t x others (and-left (row_begins r) (list_all row_begins rows) e) a)
    (rows-alike rows m s t x others (and-right (row_begins r) (list_all row_begins rows) e) a)

pub escapes : EscapesAreSlashes
unfolding route_of
escapes m target other s e t others scope escaped one two =
    let a : Alike s t (s ++ (e ++ t)) = record {
      scope = scope;
      no_dash = scope-no_dash s scope;
      no_scope = escaped-no_scope s e t escaped;
      no_dash_either = escaped-no_dash s e t escaped;
      decoded = decode-joined s e t escaped;
    } in
    rw (one, two) (rows-alike table m s t (s ++ (e ++ t)) others table-begins a)
