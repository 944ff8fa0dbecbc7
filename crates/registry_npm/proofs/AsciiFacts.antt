-- Names are UTF-8, since their characters are of ASCII.
use Rattle.std.proofs.Common.{◌≡◌, ◌<◌, ◌≤◌, ◌++◌, ◌∷◌, [], ℕ, zero, suc, ◌∙◌, Bool, true, false, Some, None, arith, refl, sym, subst, inl, inr, slice_index, IsUtf8}
use Rattle.std.specs.List.{list_all}
use Rattle.std.proofs.lemmas.Bool.{and_parts, cases_lt, false≢true, le-leb, lt-leb, ne_eqb}
use Rattle.std.proofs.lemmas.Str.{IsUtf8-append, IsUtf8-from_ascii}
use Rattle.registry_names.specs.Idents.{is_ident, is_ident_char}
use Rattle.registry_names.specs.Names.{IsName, is_name_char}
use Rattle.registry_names.specs.Texts.{Text}

-- a character of this kind is of ASCII
abbrev IsLow : (ℕ → Bool) → Type 0
IsLow kind = (c : ℕ) → kind c ≡ true → c < 128

high-no_ident : (c : ℕ) → 128 ≤ c → is_ident_char c ≡ false
high-no_ident c high = rw (le-leb 97 c (omega (arith, high)), lt-leb c 122 (omega (arith, high)), le-leb 48 c (omega (arith, high)), lt-leb c 57 (omega (arith, high)), ne_eqb c 45 (λ e. omega (arith, high, e)), ne_eqb c 95 (λ e. omega (arith, high, e))) refl

high-no_name : (c : ℕ) → 128 ≤ c → is_name_char c ≡ false
high-no_name c high = rw (high-no_ident c high, ne_eqb c 46 (λ e. omega (arith, high, e))) refl

low-by : (kind : ℕ → Bool) → ((c : ℕ) → 128 ≤ c → kind c ≡ false) → IsLow kind
low-by kind high c h = elim (cases_lt c 128) [
  | inl low ↦ low
  | inr not ↦ absurd (false≢true (sym (high c not) ∙ h))
]

all-low : (kind : ℕ → Bool) → IsLow kind → (t : Text) → list_all kind t ≡ true → (i : ℕ) → slice_index t i < 128
all-low kind low [] h zero = (omega arith)
all-low kind low [] h (suc i) = (omega arith)
all-low kind low (c ∷ t) h zero = low c (and_parts (kind c) (list_all kind t) h).0
all-low kind low (c ∷ t) h (suc i) = all-low kind low t (and_parts (kind c) (list_all kind t) h).1 i

all-utf8 : (kind : ℕ → Bool) → IsLow kind → (t : Text) → list_all kind t ≡ true → IsUtf8 t
all-utf8 kind low t h = IsUtf8-from_ascii t (all-low kind low t h)

pub ident-utf8 : (t : Text) → is_ident t ≡ true → IsUtf8 t
ident-utf8 t h = all-utf8 is_ident_char (low-by is_ident_char high-no_ident) t (and_parts _ _ h).1

part-utf8 : (t : Text) → list_all is_name_char t ≡ true → IsUtf8 t
part-utf8 t h = all-utf8 is_name_char (low-by is_name_char high-no_name) t h

one-low : (c : ℕ) → c < 128 → (i : ℕ) → slice_index (c ∷ []) i < 128
one-low c low zero = low
one-low c low (suc zero) = (omega arith)
one-low c low (suc (suc i)) = (omega arith)

-- a character of ASCII before a text
before-utf8 : (c : ℕ) (t : Text) → c < 128 → IsUtf8 t → IsUtf8 (c ∷ t)
before-utf8 c t low h = IsUtf8-append (c ∷ []) t (IsUtf8-from_ascii (c ∷ []) (one-low c low)) h

pub name-utf8 : (t : Text) → IsName t → IsUtf8 t
name-utf8 t (None, (p, h)) = subst IsUtf8 (sym h.0) (part-utf8 p (and_parts _ _ (and_parts _ _ (and_parts _ _ h.1).0).0).1)
name-utf8 t (Some s, (p, h)) = subst IsUtf8 (sym h.0)
    (before-utf8 64 (s ++ 47 ∷ p) (omega arith) (IsUtf8-append s (47 ∷ p) (ident-utf8 s h.1) (before-utf8 47 p (omega arith) (part-utf8 p (and_parts _ _ (and_parts _ _ (and_parts _ _ h.2).0).0).1))))
