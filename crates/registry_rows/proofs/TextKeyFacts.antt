-- Keys of texts in SQL: WHERE tests them, ORDER BY compares them, and a unique index distinguishes
-- them.
use Rattle.std.proofs.Common.{◌≡◌, ℕ, zero, suc, List, [], ◌∷◌, ◌++◌, map, Bool, true, false, ◌&&◌, refl, sym, ap, ap₂, subst₂, ◌∙◌, true≢false, Ordering, Less, Equal, Greater, drop, IsTrue}
use Rattle.std.specs.Ordering.{ordering_then}
use Rattle.std.proofs.lemmas.Bool.{and_parts, and_from}
use Rattle.sqlite.specs.declared.types.Value.{Value}
use Rattle.sqlite.specs.declared.types.Value.TheVariants.{Text}
use Rattle.sqlite_value.specs.Order.{Row, column, value_cmp}
use Rattle.sqlite_value.specs.declared.keys.Key.{Key}
use Rattle.sqlite_value.specs.declared.keys.Collation.TheVariants.{Binary}
use Rattle.sqlite_value.specs.Keys.{plain, first_key}
use Rattle.sqlite_value.proofs.OrderLemmas.{value_cmp-Text}
use Rattle.sqlite_trees.specs.Tree.{rowid}
use Rattle.sqlite_trees.specs.View.{is_int}
use Rattle.sqlite_sql.specs.declared.ops.BinaryOp.TheVariants.{Compare}
use Rattle.sqlite_sql.specs.declared.ops.CompareOp.TheVariants.{Eq}
use Rattle.sqlite_sql.specs.Ops.{binary, is_true}
use Rattle.sqlite_sql.specs.Term.{eval_all}
use Rattle.sqlite_sql.specs.Query.{key_cmp}
use Rattle.sqlite_schema.specs.declared.schema.Kind.{Kind}
use Rattle.sqlite_schema.specs.declared.schema.Kind.TheVariants as kind
use Rattle.sqlite_schema.specs.declared.schema.Column.{Column}
use Rattle.sqlite_schema.specs.Rules.{agree}
use Rattle.registry_names.specs.Texts.{Text as Name, text_cmp, is}
use Rattle.registry_names.specs.Keys.{IsKey, by_first}
use Rattle.registry_names.proofs.KeyFacts.{text_key, same_true, first_key as with_first}
use Rattle.registry_rows.specs.Columns.{text_in, AreOf, IsOf}
use Rattle.registry_rows.specs.TextKeys.{Texts, texts_cmp, texts_are, texts_from, texts_row, places_from, is_text, begin_with_texts}
use Rattle.registry_rows.specs.Statements.{by_texts, in_order, is_wanted}
use Rattle.registry_rows.proofs.TypeFacts.{text_test, text_same}

-- texts are a key, however many
pub texts_key : (more : ℕ) → IsKey (texts_cmp more) (texts_are more)
texts_key zero = text_key
texts_key (suc more) = with_first (texts_key more)

-- a row with a rowid is the rowid and its columns
pub row_parts : (r : Row) → IsTrue (is_int (rowid r)) → (id : Value) × (r ≡ id ∷ drop 1 r)
row_parts [] h = absurd (true≢false (sym h))
row_parts (id ∷ vs) h = (id, refl)

-- ---- the columns that hold a key

abbrev pub HasTexts : (more at : ℕ) → Row → Type 0
HasTexts zero at vs = column vs at ≡ Text (text_in (column vs at))
HasTexts (suc more) at vs = (column vs at ≡ Text (text_in (column vs at))) × HasTexts more (suc at) vs

later_texts : (more at : ℕ) (v : Value) (vs : Row) → HasTexts more at vs → HasTexts more (suc at) (v ∷ vs)
later_texts zero at v vs h = h
later_texts (suc more) at v vs h = (h.0, later_texts more (suc at) v vs h.1)

text_of : (k : Kind) (v : Value) → is_text k ≡ true → IsOf k v → v ≡ Text (text_in v)
text_of kind.Text v t h = h.1 ∙ ap (λ w. Text (text_in w)) (sym h.1)
text_of _ v t h = absurd (true≢false (sym t))

pub has_texts : (more : ℕ) (cs : List Column) (vs : Row) → begin_with_texts more cs ≡ true → AreOf cs vs → HasTexts more 0 vs
has_texts more [] vs t h = absurd (true≢false (sym t))
has_texts zero (c ∷ cs) [] t h = absurd h
has_texts (suc more) (c ∷ cs) [] t h = absurd h
has_texts zero (c ∷ cs) (v ∷ vs) t h = text_of c.kind v t h.0
has_texts (suc more) (c ∷ cs) (v ∷ vs) t h = let both = and_parts _ _ t in (text_of c.kind v both.0 h.0, later_texts more 0 v vs (has_texts more cs vs both.1 h.1))

-- ---- WHERE

-- the parameters from this place on are the key
abbrev pub AreGiven : (more from : ℕ) → Texts more → Row → Type 0
AreGiven zero from q params = column params from ≡ Text q
AreGiven (suc more) from q params = (column params from ≡ Text q.0) × AreGiven more (suc from) q.1 params

given_later : (more from : ℕ) (q : Texts more) (v : Value) (params : Row) → AreGiven more from q params → AreGiven more (suc from) q (v ∷ params)
given_later zero from q v params h = h
given_later (suc more) from q v params h = (h.0, given_later more (suc from) q.1 v params h.1)

pub given : (more : ℕ) (q : Texts more) (rest : Row) → AreGiven more 0 q (texts_row more q ++ rest)
given zero q rest = refl
given (suc more) q rest = (refl, given_later more 0 q.1 (Text q.0) _ (given more q.1 rest))

pub one_test : (v w : Value) (a t : Name) → v ≡ Text a → w ≡ Text t → is_true (binary (Compare Eq Binary) v w) ≡ is t a
one_test v w a t e f = subst₂ (λ x y. is_true (binary (Compare Eq Binary) x y) ≡ is t a) (sym e) (sym f) (text_test a t)

pub and_true : (b : Bool) → (b && true) ≡ b
and_true true = refl
and_true false = refl

tests : (more at from : ℕ) (q : Texts more) (params : Row) (id : Value) (vs : Row) → HasTexts more at vs → AreGiven more from q params
    → is_wanted (by_texts more (suc at) from) params (id ∷ vs) ≡ texts_are more q (texts_from more at vs)
tests zero at from q params id vs h g = and_true _ ∙ one_test (column vs at) (column params from) _ q h g
tests (suc more) at from q params id vs h g =
    ap₂ (λ a b. a && b) (one_test (column vs at) (column params from) _ q.0 h.0 g.0) (tests more (suc at) (suc from) q.1 params id vs h.1 g.1)

-- WHERE on the first columns is the test of their key
pub tests_key : (more : ℕ) (q : Texts more) (rest : Row) (id : Value) (vs : Row) → HasTexts more 0 vs
    → is_wanted (by_texts more 1 0) (texts_row more q ++ rest) (id ∷ vs) ≡ texts_are more q (texts_from more 0 vs)
tests_key more q rest id vs h = tests more 0 0 q (texts_row more q ++ rest) id vs h (given more q rest)

-- ---- a unique index

pub keys_agree : (more at : ℕ) (x y : Value) (a b : Row) → HasTexts more at a → HasTexts more at b → texts_from more at a ≡ texts_from more at b
    → agree plain (places_from more (suc at)) (x ∷ a) (places_from more (suc at)) (y ∷ b) ≡ true
unfolding first_key
keys_agree zero at x y a b ha hb e =
    and_from _ _ (subst₂ (λ u v. is_true (binary (Compare Eq Binary) u v) ≡ true) (sym (ha ∙ ap Text e)) (sym hb) (text_same (text_in (column b at)))) refl
keys_agree (suc more) at x y a b ha hb e =
    and_from _ _ (subst₂ (λ u v. is_true (binary (Compare Eq Binary) u v) ≡ true) (sym (ha.0 ∙ ap (λ (q : Texts (suc more)). Text q.0) e)) (sym hb.0) (text_same (text_in (column b at))))
    (keys_agree more (suc at) x y a b ha.1 hb.1 (ap (λ (q : Texts (suc more)). q.1) e))

told : (v w : Value) (a t : Name) → v ≡ Text a → w ≡ Text t → is_true (binary (Compare Eq Binary) v w) ≡ true → a ≡ t
told v w a t e f h = sym (same_true text_key t a (sym (one_test v w a t e f) ∙ h))

-- rows that agree in it have the same key
pub agreed_keys : (more at : ℕ) (x y : Value) (a b : Row) → HasTexts more at a → HasTexts more at b → agree plain (places_from more (suc at)) (x ∷ a) (places_from more (suc at)) (y ∷ b) ≡ true
    → texts_from more at a ≡ texts_from more at b
unfolding first_key
agreed_keys zero at x y a b ha hb h = told (column a at) (column b at) _ _ ha hb (and_parts _ _ h).0
agreed_keys (suc more) at x y a b ha hb h =
    let both = and_parts _ _ h in ap₂ (λ (t : Name) (q : Texts more). (t, q)) (told (column a at) (column b at) _ _ ha.0 hb.0 both.0) (agreed_keys more (suc at) x y a b ha.1 hb.1 both.1)

-- ---- ORDER BY

later_keys : (at : ℕ) (ks : List Key) (u w : Value) (x y : Row) → key_cmp (suc at) ks (u ∷ x) (w ∷ y) ≡ key_cmp at ks x y
later_keys at [] u w x y = refl
later_keys at (k ∷ ks) u w x y = ap (ordering_then _) (later_keys (suc at) ks u w x y)

text_order : (v w : Value) (s t : Name) → v ≡ Text s → w ≡ Text t → value_cmp v w ≡ text_cmp s t
text_order v w s t e f = subst₂ (λ x y. value_cmp x y ≡ text_cmp s t) (sym e) (sym f) (value_cmp-Text s t)

pub then_equal : (o : Ordering) → ordering_then o Equal ≡ o
then_equal Less = refl
then_equal Equal = refl
then_equal Greater = refl

-- by what ORDER BY compares a row
abbrev pub sort_row : (more at : ℕ) → Row → Row → Row
sort_row more at params r = eval_all (map (λ k. k.0) (in_order more at)) (params ∷ r ∷ [])

abbrev pub sort_keys : (more at : ℕ) → List Key
sort_keys more at = map (λ k. k.1) (in_order more at)

pub orders_keys : (more at : ℕ) (params : Row) (x y : Value) (a b : Row) → HasTexts more at a → HasTexts more at b
    → key_cmp 0 (sort_keys more (suc at)) (sort_row more (suc at) params (x ∷ a)) (sort_row more (suc at) params (y ∷ b)) ≡ texts_cmp more (texts_from more at a) (texts_from more at b)
unfolding by_first
orders_keys zero at params x y a b ha hb = then_equal _ ∙ text_order (column a at) (column b at) _ _ ha hb
orders_keys (suc more) at params x y a b ha hb =
    ap₂ ordering_then (text_order (column a at) (column b at) _ _ ha.0 hb.0)
    (later_keys 0 (sort_keys more (suc (suc at))) _ _ _ _ ∙ orders_keys more (suc at) params x y a b ha.1 hb.1)
