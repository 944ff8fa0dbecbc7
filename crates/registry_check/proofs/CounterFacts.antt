-- What the rows of sqlite_sequence say of the numbers of archives.
use Rattle.std.proofs.Common.{◌≡◌, ◌∙◌, ◌==◌, ℕ, ℤ, pos, Bool, true, false, cond, List, [], ◌∷◌, find, length, map, Option, None, Some, option_map, arith, ne_eqb, refl, sym, ap, ap₂, codes}
use Rattle.std.specs.Ordering.{is_eq}
use Rattle.sqlite.specs.declared.types.Value.{Value}
use Rattle.sqlite.specs.declared.types.Value.TheVariants.{Null, Int, Real, Text, Blob}
use Rattle.sqlite.specs.Listing.{understood}
use Rattle.sqlite.specs.State.{State as Shown, HasCleanDisk}
use Rattle.sqlite_sql.specs.Ops.{unary}
use Rattle.sqlite_sql.specs.Term.{Term, col}
use Rattle.sqlite_tied.specs.Compute.{everything}
use Rattle.sqlite_value.specs.Order.{Row, column, value_cmp}
use Rattle.sqlite_value.proofs.OrderLemmas.{value_cmp-Text, value_cmp-apart}
use Rattle.registry_names.proofs.TextFacts.{is_tie}
use Rattle.registry_rows.specs.Counting.{count_value, counted, has_name, other_counts}
use Rattle.registry_rows.specs.KeyKinds.{numbers}
use Rattle.registry_rows.specs.Ready.{Queried, Reads, Ready}
use Rattle.registry_rows.specs.Statements.{MeansQuery, select_where}
use Rattle.registry_tables.specs.Effects.{stored}
use Rattle.registry_tables.specs.Schema as table
use Rattle.registry_tables.specs.Schema.{schema}
use Rattle.registry_check.specs.Counter.{are_alone, count_in_row, count_of, count_spelled, counted_in, counter_among, counter_in, is_archives, whole}
use Rattle.registry_check.proofs.NumberedFacts.{numbered, select_rows}

-- ---- the query

abbrev counts_text : List ℕ
counts_text = codes "SELECT rowid, name, seq FROM sqlite_sequence ORDER BY rowid"

abbrev counts_columns : List Term
counts_columns = col 1 0 ∷ col 1 1 ∷ col 1 2 ∷ []

counts_means : MeansQuery schema counts_text (select_where table.counters counts_columns [] numbers.order (codes "rowid" ∷ codes "name" ∷ codes "seq" ∷ []))
unfolding understood everything
counts_means = ((refl, (refl, refl)), refl)

-- ---- its rows

abbrev entry : Row → ℤ × (Bool × Option ℤ)
entry = numbered count_in_row

abbrev name : List ℕ
name = table.archives.name

-- only a text is a name
name_is : (v : Value) → is_archives v ≡ is_eq (value_cmp v (Text name))
name_is Null = sym (ap is_eq (value_cmp-apart Null (Text name) (λ e. absurd (omega (arith, e)))))
name_is (Int n) = sym (ap is_eq (value_cmp-apart (Int n) (Text name) (λ e. absurd (omega (arith, e)))))
name_is (Real x) = sym (ap is_eq (value_cmp-apart (Real x) (Text name) (λ e. absurd (omega (arith, e)))))
name_is (Text t) = is_tie t name ∙ ap is_eq (sym (value_cmp-Text t name))
name_is (Blob b) = sym (ap is_eq (value_cmp-apart (Blob b) (Text name) (λ e. absurd (omega (arith, e)))))

named : (r : Row) → (entry r).1.0 ≡ has_name name r
named [] = name_is Null
named (id ∷ vs) = name_is (column vs 0)

counts : (r : Row) → (entry r).1.1 ≡ whole (column r 2)
counts [] = refl
counts (id ∷ vs) = refl

some_left : (b : Bool) (r s : Row) (rs ss : List Row) → (length (cond b (r ∷ rs) (s ∷ ss)) == 0) ≡ false
some_left true r s rs ss = ne_eqb _ 0 (omega arith)
some_left false r s rs ss = ne_eqb _ 0 (omega arith)

only_left : (b : Bool) (r : Row) → (length (cond b [] (r ∷ [])) == 0) ≡ b
only_left true r = refl
only_left false r = ne_eqb 1 0 (omega arith)

alone_is : (rows : List Row) → are_alone (map entry rows) ≡ (length (other_counts name rows) == 0)
alone_is [] = refl
alone_is (r ∷ []) = named r ∙ sym (only_left (has_name name r) r)
alone_is (r ∷ s ∷ rows) = sym (some_left (has_name name r) s r rows (other_counts name (s ∷ rows)))

abbrev count_among : Option (ℤ × (Bool × Option ℤ)) → Option ℤ
count_among o = counted_in (option_map (λ (e : ℤ × (Bool × Option ℤ)). e.1.1) o)

one_more : (r : Row) (o : Option (ℤ × (Bool × Option ℤ))) (p : Option Row) → count_among o ≡ count_of (option_map (λ (x : Row). column x 2) p) → (b : Bool)
    → count_among (cond b (Some (entry r)) o) ≡ count_of (option_map (λ (x : Row). column x 2) (cond b (Some r) p))
one_more r o p next true = counts r
one_more r o p next false = next

count_is : (rows : List Row) → count_among (find (λ (e : ℤ × (Bool × Option ℤ)). e.1.0) (map entry rows)) ≡ count_of (count_value name rows)
count_is [] = refl
count_is (r ∷ rows) =
    ap (λ b. count_among (cond b (Some (entry r)) (find (λ (e : ℤ × (Bool × Option ℤ)). e.1.0) (map entry rows)))) (named r)
    ∙ one_more r (find (λ (e : ℤ × (Bool × Option ℤ)). e.1.0) (map entry rows)) (find (has_name name) rows) (count_is rows) (has_name name r)

pub counts_listed : (old new : Shown) (rows : List Row) → Ready schema old → Queried counts_text [] old new rows → HasCleanDisk new → Reads schema old new × (map count_spelled rows ≡ map entry (old.now.trees table.counters.tree))
counts_listed = select_rows count_in_row schema 16 table.counters refl counts_text counts_columns _ counts_means count_spelled (λ id vs. refl)

pub counter_told : (s : Shown) → counter_among (map entry (s.now.trees table.counters.tree)) ≡ counter_in (stored s)
counter_told s = ap₂ (λ (a : Bool) (b : Option ℤ). (a, b)) (alone_is (s.now.trees table.counters.tree)) (count_is (s.now.trees table.counters.tree))

-- ---- the count

-- a whole number is counted as it is
pub counted_whole : (o : Option Value) (n : ℤ) → count_of o ≡ Some n → counted o ≡ n
unfolding unary
counted_whole None n e = inside e
  where
    inside : Some (pos 0) ≡ Some n → pos 0 ≡ n
    inside i = cc
counted_whole (Some (Int m)) n e = inside e
  where
    inside : Some m ≡ Some n → m ≡ n
    inside i = cc
counted_whole (Some Null) n e = absurd cc
counted_whole (Some (Real x)) n e = absurd cc
counted_whole (Some (Text t)) n e = absurd cc
counted_whole (Some (Blob b)) n e = absurd cc
