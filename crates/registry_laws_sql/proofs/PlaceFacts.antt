-- WHERE and foreign keys test the texts of a key at their places.
use Rattle.std.proofs.Common.{◌≡◌, ℕ, zero, suc, ◌+◌, [], ◌∷◌, append-nil, true, false, ◌&&◌, refl, sym, ap, ap₂, subst, ◌∙◌, true≢false, drop, arith}
use Rattle.std.proofs.lemmas.Bool.{and_parts}
use Rattle.sqlite.specs.declared.types.Value.{Value}
use Rattle.sqlite.specs.declared.types.Value.TheVariants.{Text, Null}
use Rattle.sqlite_value.specs.Order.{Row, column}
use Rattle.sqlite_value.specs.Keys.{plain, first_key}
use Rattle.sqlite_value.specs.declared.keys.Collation.TheVariants.{Binary}
use Rattle.sqlite_sql.specs.declared.ops.BinaryOp.TheVariants.{Compare}
use Rattle.sqlite_sql.specs.declared.ops.CompareOp.TheVariants.{Eq}
use Rattle.sqlite_sql.specs.Ops.{binary, is_true}
use Rattle.sqlite_schema.specs.Rules.{agree, has_null}
use Rattle.registry_names.specs.Texts.{Text as Name}
use Rattle.registry_rows.specs.Columns.{text_in}
use Rattle.registry_rows.specs.TextKeys.{Texts, texts_are, texts_from, texts_row, places_from}
use Rattle.registry_rows.specs.Statements.{is_wanted}
use Rattle.registry_rows.proofs.TextKeyFacts.{HasTexts, AreGiven, given, one_test, and_true}
use Rattle.registry_laws_sql.specs.Places.{Places, text_of, picked, is_place, are_places, columns_at, texts_at, by_places}

-- ---- the columns of the places

-- they hold texts
abbrev pub HasTextsAt : (rest : ℕ) → Places rest → Row → Type 0
HasTextsAt zero at r = column r (suc at) ≡ Text (text_in (column r (suc at)))
HasTextsAt (suc rest) at r = (column r (suc at.0) ≡ Text (text_in (column r (suc at.0)))) × HasTextsAt rest at.1 r

pub text_there : (more at n : ℕ) (vs : Row) → is_place more at ≡ true → text_in (column vs (at + n)) ≡ text_of more at (texts_from more n vs)
text_there zero zero n vs h = let e : 0 + n ≡ n = omega arith in ap (λ i. text_in (column vs i)) e
text_there zero (suc at) n vs h = absurd (true≢false (sym h))
text_there (suc more) zero n vs h = let e : 0 + n ≡ n = omega arith in ap (λ i. text_in (column vs i)) e
text_there (suc more) (suc at) n vs h = let e : suc at + n ≡ at + suc n = omega arith in ap (λ i. text_in (column vs i)) e ∙ text_there more at (suc n) vs h

pub has_text : (more at n : ℕ) (vs : Row) → HasTexts more n vs → is_place more at ≡ true → column vs (at + n) ≡ Text (text_in (column vs (at + n)))
has_text zero zero n vs t h = let e : 0 + n ≡ n = omega arith in subst (λ i. column vs i ≡ Text (text_in (column vs i))) (sym e) t
has_text zero (suc at) n vs t h = absurd (true≢false (sym h))
has_text (suc more) zero n vs t h = let e : 0 + n ≡ n = omega arith in subst (λ i. column vs i ≡ Text (text_in (column vs i))) (sym e) t.0
has_text (suc more) (suc at) n vs t h = let e : suc at + n ≡ at + suc n = omega arith in subst (λ i. column vs i ≡ Text (text_in (column vs i))) (sym e) (has_text more at (suc n) vs t.1 h)

-- a row without its rowid has its columns a place before
pub column_before : (r : Row) (at : ℕ) → column r (suc at) ≡ column (drop 1 r) (at + 0)
column_before [] at = refl
column_before (id ∷ vs) at = let e : at ≡ at + 0 = omega arith in ap (column vs) e

pub texts_picked : (more rest : ℕ) (places : Places rest) → are_places more rest places ≡ true → (r : Row) → texts_at rest places r ≡ picked more rest places (texts_from more 0 (drop 1 r))
texts_picked more zero at h r = ap text_in (column_before r at) ∙ text_there more at 0 (drop 1 r) h
texts_picked more (suc rest) at h r =
    let both = and_parts _ _ h in
    ap₂ (λ (a : Name) (b : Texts rest). (a, b)) (ap text_in (column_before r at.0) ∙ text_there more at.0 0 (drop 1 r) both.0) (texts_picked more rest at.1 both.1 r)

pub typed_at : (more rest : ℕ) (places : Places rest) → are_places more rest places ≡ true → (r : Row) → HasTexts more 0 (drop 1 r) → HasTextsAt rest places r
typed_at more zero at h r t = subst (λ v. v ≡ Text (text_in v)) (sym (column_before r at)) (has_text more at 0 (drop 1 r) t h)
typed_at more (suc rest) at h r t =
    let both = and_parts _ _ h in
    (subst (λ v. v ≡ Text (text_in v)) (sym (column_before r at.0)) (has_text more at.0 0 (drop 1 r) t both.0), typed_at more rest at.1 both.1 r t)

-- ---- WHERE

tests_from : (rest from : ℕ) (places : Places rest) (q : Texts rest) (params r : Row) → HasTextsAt rest places r → AreGiven rest from q params
    → is_wanted (by_places rest places from) params r ≡ texts_are rest q (texts_at rest places r)
tests_from zero from at q params r h g = and_true _ ∙ one_test (column r (suc at)) (column params from) _ q h g
tests_from (suc rest) from at q params r h g =
    ap₂ (λ a b. a && b) (one_test (column r (suc at.0)) (column params from) _ q.0 h.0 g.0) (tests_from rest (suc from) at.1 q.1 params r h.1 g.1)

pub tests_places : (rest : ℕ) (places : Places rest) (q : Texts rest) (r : Row) → HasTextsAt rest places r → is_wanted (by_places rest places 0) (texts_row rest q) r ≡ texts_are rest q (texts_at rest places r)
tests_places rest places q r h = tests_from rest 0 places q (texts_row rest q) r h (subst (AreGiven rest 0 q) (append-nil (texts_row rest q)) (given rest q []))

-- ---- foreign keys

pub agree_texts : (rest : ℕ) (ps qs : Places rest) (a b : Row) → HasTextsAt rest ps a → HasTextsAt rest qs b → agree plain (columns_at rest ps) a (columns_at rest qs) b ≡ texts_are rest (texts_at rest qs b) (texts_at rest ps a)
unfolding first_key
agree_texts zero p q a b ha hb = and_true _ ∙ one_test (column a (suc p)) (column b (suc q)) _ _ ha hb
agree_texts (suc rest) p q a b ha hb =
    ap₂ (λ x y. x && y) (one_test (column a (suc p.0)) (column b (suc q.0)) _ _ ha.0 hb.0) (agree_texts rest p.1 q.1 a b ha.1 hb.1)

not_null : (v : Value) (t : Name) → v ≡ Text t → is_true (binary (Compare Eq Binary) v Null) ≡ false
unfolding binary
not_null v t e = subst (λ x. is_true (binary (Compare Eq Binary) x Null) ≡ false) (sym e) refl

-- a row without columns agrees with none
pub agree_none : (rest : ℕ) (ps : Places rest) (a : Row) → HasTextsAt rest ps a → agree plain (columns_at rest ps) a (columns_at rest ps) [] ≡ false
unfolding first_key
agree_none zero p a h = ap (λ b. b && true) (not_null (column a (suc p)) _ h)
agree_none (suc rest) p a h = ap (λ b. b && agree plain (columns_at rest p.1) a (columns_at rest p.1) []) (not_null (column a (suc p.0)) _ h.0)

pub no_null : (rest : ℕ) (ps : Places rest) (a : Row) → HasTextsAt rest ps a → has_null (columns_at rest ps) a ≡ false
no_null zero p a h = rw h refl
no_null (suc rest) p a h = rw h.0 (no_null rest p.1 a h.1)

-- ---- the whole key

abbrev pub firsts : (more at : ℕ) → Places more
firsts zero at = at
firsts (suc more) at = (at, firsts more (suc at))

pub columns_firsts : (more at : ℕ) → columns_at more (firsts more at) ≡ places_from more (suc at)
columns_firsts zero at = refl
columns_firsts (suc more) at = ap (λ l. suc at ∷ l) (columns_firsts more (suc at))

text_before : (r : Row) (at : ℕ) → column r (suc at) ≡ column (drop 1 r) at
text_before [] at = refl
text_before (id ∷ vs) at = refl

pub texts_firsts : (more at : ℕ) (r : Row) → texts_at more (firsts more at) r ≡ texts_from more at (drop 1 r)
texts_firsts zero at r = ap text_in (text_before r at)
texts_firsts (suc more) at r = ap₂ (λ (a : Name) (b : Texts more). (a, b)) (ap text_in (text_before r at)) (texts_firsts more (suc at) r)

pub typed_firsts : (more at : ℕ) (r : Row) → HasTexts more at (drop 1 r) → HasTextsAt more (firsts more at) r
typed_firsts zero at [] h = h
typed_firsts zero at (id ∷ vs) h = h
typed_firsts (suc more) at [] h = (h.0, typed_firsts more (suc at) [] h.1)
typed_firsts (suc more) at (id ∷ vs) h = (h.0, typed_firsts more (suc at) (id ∷ vs) h.1)
