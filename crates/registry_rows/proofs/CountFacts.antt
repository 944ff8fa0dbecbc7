-- AUTOINCREMENT: the number that a new row gets, and the row of sqlite_sequence that counts it.
use Rattle.std.proofs.Common.{◌≡◌, ◌⊎◌, ◌==◌, ◌/◌, inl, inr, ℕ, ℤ, pos, ◌+ℤ◌, ◌<ℤ◌, ◌≤ℤ◌, List, [], ◌∷◌, length, map, find, fold, drop, slice_get, Bool, true, false, not, cond, Some, None, Option, option_map, Ok, Result, OnOk, refl, sym, ap, ap₂, subst, subst₂, ◌∙◌, append-nil, IsTrue, Ordering, Less, Equal, Greater, is_lt, is_eq, true≢false, arith}
use Rattle.std.specs.Prelude.{option_and_then, unwrap_or}
use Rattle.std.specs.Int.{int_max}
use Rattle.std.specs.List.{AllByRecursion}
use Rattle.std.specs.Ordering.{int_cmp, match_ordering, ordering_reverse}
use Rattle.std.specs.FinMap.Entries.{below_all}
use Rattle.std.proofs.lemmas.Bool.{and_parts, and_from, or_parts, not-true}
use Rattle.std.proofs.lemmas.Bool.Decides.{nat_tests}
use Rattle.std.proofs.lemmas.Cmp.{tied_itself}
use Rattle.std.proofs.lemmas.Int.{ints}
use Rattle.sqlite.specs.declared.types.Value.{Value}
use Rattle.sqlite.specs.declared.types.Value.TheVariants.{Null, Int, Real, Text, Blob}
use Rattle.sqlite_value.specs.Order.{Row, column, value_cmp}
use Rattle.sqlite_value.proofs.OrderLemmas.{value_cmp_total, value_cmp-Int}
use Rattle.sqlite_trees.specs.Tree.{Trees, rowid, has_rowid, put_row, without_rowid}
use Rattle.sqlite_trees.specs.View.{is_int}
use Rattle.sqlite_trees.specs.declared.store.Shape.TheVariants as shape
use Rattle.sqlite_trees.proofs.TreeLemmas.{IsShaped-put_row, IsShaped-filter}
use Rattle.sqlite_sql.specs.Term.{Term, lit, eval_all}
use Rattle.sqlite_schema.specs.declared.schema.Column.{Column}
use Rattle.sqlite_schema.specs.declared.schema.Schema.{Schema}
use Rattle.sqlite_schema.specs.declared.schema.Table.{Table}
use Rattle.sqlite_schema.specs.declared.schema.Reference.{Reference}
use Rattle.sqlite_schema.specs.declared.schema.Keys.TheVariants.{Enforced}
use Rattle.sqlite_rules.specs.declared.error.Rowids.TheVariants.{Above}
use Rattle.sqlite_schema.specs.declared.schema.Kind.TheVariants.{Integer}
use Rattle.sqlite_rules.specs.Cast.{cast}
use Rattle.sqlite_rules.specs.Edit.{Edit, edit_of, id_in, next_rowid, at_least, is_taken, taken_by}
use Rattle.sqlite_rules.proofs.TableLemmas.{int_is}
use Rattle.sqlite_rules.specs.Lists.{Has}
use Rattle.sqlite_rules.proofs.ListLemmas.{all_has, all_from, has_found, has_filtered, has_got}
use Rattle.sqlite.specs.Effect.{Database, value_rows}
use Rattle.sqlite.specs.Rows as rows
use Rattle.sqlite.specs.Rows.{Then, Gives, Written, Edited, sequence, counting, count_of, higher, last_id}
use Rattle.sqlite.specs.declared.error.Error.{Error}
use Rattle.sqlite.specs.State.{State, HasCleanDisk, Executes}
use Rattle.sqlite.proofs.Callers.{one_step}
use Rattle.registry_names.specs.Maps.{at, put, entries, rises}
use Rattle.registry_names.proofs.MapFacts.{at-entries}
use Rattle.registry_names.proofs.EntryFacts.{entries_rise, entries-rows}
use Rattle.registry_rows.specs.Columns.{are_exact, int_in, id_name}
use Rattle.registry_rows.specs.Tables.{numbered_table, sequence_table}
use Rattle.registry_rows.specs.KeyKinds.{NumberMap, numbers, map_by}
use Rattle.registry_rows.specs.Rows.{HasRowids}
use Rattle.registry_rows.specs.Statements.{Means, KeepsOthers, Adds, ignores_updates, insert_values}
use Rattle.registry_rows.specs.Ready.{Ready, Executed, IsNumbered}
use Rattle.registry_rows.specs.Counting.{has_name, count_value, counted, count_in, other_counts, last_number, next_number, IsCounted, TakesNext, IsNew}
use Rattle.registry_rows.proofs.WriteFacts.{written_as, written_sound, went, same_value}
use Rattle.registry_rows.proofs.CastFacts.{cast_null, cast_int, cast_exact}
use Rattle.registry_rows.proofs.ActionFacts.{no_works, quiet_updates}
use Rattle.registry_rows.proofs.InsertFacts.{put_one, others_kept}
use Rattle.registry_rows.proofs.OneRowFacts.{table_rowids}
use Rattle.registry_rows.proofs.ChangeFacts.{inserted}
use Rattle.registry_rows.proofs.ReadyFacts.{inside, rowids_after, one_row}
use Rattle.registry_rows.proofs.OrderFacts.{found_has}
use Rattle.registry_rows.proofs.KeyedFacts.{others_as, after, number_key, number_is, numbers_once, by_number_given}
use Rattle.registry_rows.proofs.ListingFacts.{first_risen}

-- ---- the next number

-- a value is read as a number alike in both crates
same_number : (v : Value) → id_in v ≡ int_in v
same_number Null = refl
same_number (Int n) = refl
same_number (Real x) = refl
same_number (Text t) = refl
same_number (Blob b) = refl

module _ {X : Type 0} (value : Row → X) where
  abbrev entry : Row → ℤ × X
  entry r = (numbers.of_row r, value (drop 1 r))

  below_rows : (r : Row) (rs : List Row) → IsTrue (is_int (rowid r)) → AllByRecursion (λ x. value_cmp (rowid r) (rowid x) ≡ Less) rs → AllByRecursion (λ x. IsTrue (is_int (rowid x))) rs
      → below_all int_cmp (numbers.of_row r) (map entry rs) ≡ true
  below_rows r [] int low ints = refl
  below_rows r (x ∷ rs) int low ints =
      let less : int_cmp (numbers.of_row r) (numbers.of_row x) ≡ Less =
      sym (value_cmp-Int (numbers.of_row r) (numbers.of_row x)) ∙ ap₂ value_cmp (sym (number_is (rowid r) int)) (sym (number_is (rowid x) ints.0)) ∙ low.0 in
      and_from _ _ (ap is_lt less) (below_rows r rs int low.1 ints.1)

  rows_rise : (rs : List Row) → HasRowids rs → rises int_cmp (map entry rs) ≡ true
  rows_rise [] ids = refl
  rows_rise (r ∷ rs) ids = and_from _ _ (below_rows r rs ids.1.0 ids.0.0 ids.1.1) (rows_rise rs (ids.0.1, ids.1.1))

  one_after : (a : ℤ) (rs : List Row) → fold (λ _ r. id_in (rowid r) +ℤ pos 1) (a +ℤ pos 1) rs ≡ fold (λ _ (e : ℤ × X). e.0) a (map entry rs) +ℤ pos 1
  one_after a [] = refl
  one_after a (r ∷ rs) = ap (λ n. fold (λ _ x. id_in (rowid x) +ℤ pos 1) (n +ℤ pos 1) rs) (same_number (rowid r)) ∙ one_after (numbers.of_row r) rs

  -- the rowid after the last is one above the greatest key
  next_is : (rs : List Row) → HasRowids rs → next_rowid rs ≡ last_number (map_by numbers value rs) +ℤ pos 1
  next_is rs ids = one_after (pos 0) rs ∙ ap (λ es. fold (λ _ (e : ℤ × X). e.0) (pos 0) es +ℤ pos 1) (sym (entries-rows number_key (map entry rs) (rows_rise rs ids)))

higher_is : (count last : ℤ) → at_least (Above count) (last +ℤ pos 1) ≡ int_max count last +ℤ pos 1
higher_is count last = grind (arith, ints, nat_tests)

pub number_given : {X : Type 0} (value : Row → X) (count : ℤ) (rs : List Row) → HasRowids rs → at_least (Above count) (next_rowid rs) ≡ next_number count (map_by numbers value rs)
number_given value count rs ids = ap (at_least (Above count)) (next_is value rs ids) ∙ higher_is count (last_number (map_by numbers value rs))

-- ---- it is new

above_count : (count last : ℤ) → count <ℤ (int_max count last +ℤ pos 1)
above_count count last = grind (arith, ints, nat_tests)

above_last : (count last : ℤ) → last <ℤ (int_max count last +ℤ pos 1)
above_last count last = grind (arith, ints, nat_tests)

above_given : (count next : ℤ) → count <ℤ at_least (Above count) next
above_given count next = grind (arith, ints, nat_tests)

count_low : (count n : ℤ) → count <ℤ n → is_lt (int_cmp count n) ≡ true
count_low count n h = grind (arith, ints, nat_tests)

before : (k l : ℤ) → is_lt (int_cmp k l) ≡ true → k <ℤ l
before k l h = grind (arith, ints, nat_tests)

kept_max : (count last : ℤ) → last ≤ℤ count → int_max count last ≡ count
kept_max count last h = grind (arith, ints, nat_tests)

-- each key of entries that rise is at most the last
module _ {X : Type 0} where
  up_to_last : (a : ℤ) (es : List (ℤ × X)) → below_all int_cmp a es ≡ true → rises int_cmp es ≡ true → a ≤ℤ fold (λ _ (e : ℤ × X). e.0) a es
  up_to_last a [] low up = omega (arith, ints)
  up_to_last a (e ∷ es) low up =
      let first = before a e.0 (and_parts (is_lt (int_cmp a e.0)) _ low).0 in
      let both = and_parts (below_all int_cmp e.0 es) (rises int_cmp es) up in
      let later = up_to_last e.0 es both.0 both.1 in
      omega (arith, ints, first, later)

  each_up_to_last : (a : ℤ) (es : List (ℤ × X)) (k : ℤ) (x : X) → rises int_cmp es ≡ true → Has es (k, x) → k ≤ℤ fold (λ _ (e : ℤ × X). e.0) a es
  each_up_to_last a [] k x up h = absurd h
  each_up_to_last a (e ∷ es) k x up (inl is) =
      let both = and_parts (below_all int_cmp e.0 es) (rises int_cmp es) up in
      subst (λ (d : ℤ × X). d.0 ≤ℤ fold (λ _ (e : ℤ × X). e.0) e.0 es) (sym is) (up_to_last e.0 es both.0 both.1)
  each_up_to_last a (e ∷ es) k x up (inr later) = each_up_to_last e.0 es k x (and_parts (below_all int_cmp e.0 es) (rises int_cmp es) up).1 later

  keys_up_to_last : (m : NumberMap X) (k : ℤ) (x : X) → at m k ≡ Some x → k ≤ℤ last_number m
  keys_up_to_last m k x e = each_up_to_last (pos 0) (entries m) k x (entries_rise m) (found_has number_key k x (entries m) (sym (at-entries number_key m k) ∙ e))

  none_at : (m : NumberMap X) (n : ℤ) → ((k : ℤ) (x : X) → at m k ≡ Some x → k <ℤ n) → (o : Option X) → at m n ≡ o → o ≡ None
  none_at m n above None e = refl
  none_at m n above (Some x) e = let low = above n x e in absurd (omega (arith, ints, low))

  pub next_is_new : (count : ℤ) (m : NumberMap X) → IsNew count m (next_number count m)
  next_is_new count m =
      let above = λ (k : ℤ) (x : X) (e : at m k ≡ Some x).
      let low = keys_up_to_last m k x e in
      let high = above_last count (last_number m) in
      let lower : k <ℤ next_number count m = omega (arith, ints, low, high) in lower in
      record { counted = above_count count (last_number m); above = above; free = none_at m (next_number count m) above (at m (next_number count m)) refl }

  -- the last number is a key, where there is one
  last_has : (a : ℤ) (es : List (ℤ × X)) → (fold (λ _ (e : ℤ × X). e.0) a es ≡ a) ⊎ ((x : X) × Has es (fold (λ _ (e : ℤ × X). e.0) a es, x))
  last_has a [] = inl refl
  last_has a (e ∷ es) = elim (last_has e.0 es) [
    | inl is ↦ inr (e.1, inl (ap (λ n. (n, e.1)) is))
    | inr there ↦ inr (there.0, inr there.1)
  ]

  last_within : (count : ℤ) (m : NumberMap X) → ((k : ℤ) (x : X) → at m k ≡ Some x → k ≤ℤ count) → pos 0 ≤ℤ count → last_number m ≤ℤ count
  last_within count m within some = elim (last_has (pos 0) (entries m)) [
    | inl is ↦ subst (λ n. n ≤ℤ count) (sym is) some
    | inr there ↦ within (last_number m) there.0 (at-entries number_key m (last_number m) ∙ first_risen number_key (last_number m) there.0 (entries m) (entries_rise m) there.1)
  ]

  pub next_is_after : (count : ℤ) (m : NumberMap X) → ((k : ℤ) (x : X) → at m k ≡ Some x → k ≤ℤ count) → pos 0 ≤ℤ count → next_number count m ≡ count +ℤ pos 1
  next_is_after count m within some = ap (λ n. n +ℤ pos 1) (kept_max count (last_number m) (last_within count m within some))

-- ---- the row of sqlite_sequence

-- the row that counts this many for a table of this name
abbrev counter_row : ℤ → List ℕ → ℤ → Row
counter_row id name n = Int id ∷ Text name ∷ Int n ∷ []

names_itself : (id : ℤ) (name : List ℕ) (n : ℤ) → has_name name (counter_row id name n) ≡ true
names_itself id name n = ap is_eq (tied_itself value_cmp_total (Text name))

-- a count is read alike in both crates
same_count : (c : Option Row) → count_of c ≡ counted (option_map (λ (r : Row). column r 2) c)
same_count None = refl
same_count (Some r) = refl

-- where none is of the name, all are others
all_others : (name : List ℕ) (table : List Row) → find (has_name name) table ≡ None → other_counts name table ≡ table
all_others name [] none = refl
all_others name (r ∷ table) none = go (has_name name r) refl none (all_others name table)
  where
    go : (b : Bool) → has_name name r ≡ b → cond b (Some r) (find (has_name name) table) ≡ None → (find (has_name name) table ≡ None → other_counts name table ≡ table)
        → cond b table (r ∷ other_counts name table) ≡ r ∷ table
    go true is none later = absurd cc
    go false is none later = ap (λ (rs : List Row). r ∷ rs) (later none)

-- a row more of the name leaves the others
others_added : (name : List ℕ) (new : Row) → has_name name new ≡ true → (table : List Row) → is_taken table new ≡ false → find (has_name name) table ≡ None
    → other_counts name (put_row new table) ≡ other_counts name table
others_added name new pass [] free none = ap (λ b. cond b [] (new ∷ [])) pass
others_added name new pass (r ∷ table) free none =
    let parts = or_parts _ _ free in
    go (value_cmp (rowid r) (rowid new)) refl parts.0 (has_name name r) refl none (others_added name new pass table parts.1)
  where
    rest : List Row
    rest = other_counts name table

    go : (o : Ordering) → value_cmp (rowid r) (rowid new) ≡ o → is_eq o ≡ false → (b : Bool) → has_name name r ≡ b → cond b (Some r) (find (has_name name) table) ≡ None
        → (find (has_name name) table ≡ None → other_counts name (put_row new table) ≡ other_counts name table)
        → other_counts name (match_ordering o (r ∷ put_row new table) (new ∷ table) (new ∷ r ∷ table)) ≡ cond b table (r ∷ other_counts name table)
    go o tie other true is none later = absurd cc
    go Less tie other false is none later = ap (λ b. cond b (put_row new table) (r ∷ other_counts name (put_row new table))) is ∙ ap (λ (rs : List Row). r ∷ rs) (later none)
    go Equal tie other false is none later = absurd (true≢false other)
    go Greater tie other false is none later = ap (λ b. cond b (r ∷ table) (new ∷ other_counts name (r ∷ table))) pass ∙ ap (λ (rs : List Row). r ∷ rs) (sym (all_others name table none))

-- a row more, where none was of its name
found_added : (p : Row → Bool) (new : Row) → p new ≡ true → (table : List Row) → find p table ≡ None → find p (put_row new table) ≡ Some new
found_added p new pass [] none = ap (λ b. cond b (Some new) None) pass
found_added p new pass (r ∷ table) none = go (p r) refl none (found_added p new pass table)
  where
    go : (b : Bool) → p r ≡ b → cond b (Some r) (find p table) ≡ None → (find p table ≡ None → find p (put_row new table) ≡ Some new) → find p (put_row new (r ∷ table)) ≡ Some new
    go true is none later = absurd cc
    go false is none later = elim (value_cmp (rowid r) (rowid new)) as (λ o. find p (match_ordering o (r ∷ put_row new table) (new ∷ table) (new ∷ r ∷ table)) ≡ Some new) [
      | Less ↦ ap (λ b. cond b (Some r) (find p (put_row new table))) is ∙ later none
      | Equal ↦ ap (λ b. cond b (Some new) (find p table)) pass
      | Greater ↦ ap (λ b. cond b (Some new) (find p (r ∷ table))) pass
    ]

-- a row in place of the first of its name
module _ (p : Row → Bool) (new : Row) (pass : p new ≡ true) where
  -- it comes before rows that are above it
  found_before : (table : List Row) → AllByRecursion (λ x. value_cmp (rowid new) (rowid x) ≡ Less) table → find p (put_row new table) ≡ Some new
  found_before [] low = ap (λ b. cond b (Some new) None) pass
  found_before (r ∷ table) low =
      ap (λ o. find p (match_ordering o (r ∷ put_row new table) (new ∷ table) (new ∷ r ∷ table))) (value_cmp_total.antisymm (rowid r) (rowid new) ∙ ap ordering_reverse low.0)
      ∙ ap (λ b. cond b (Some new) (find p (r ∷ table))) pass

  module _ (id : ℤ) (keyed : rowid new ≡ Int id) where
    left_low : (r : Row) (table : List Row) → rowid r ≡ Int id → AllByRecursion (λ x. value_cmp (rowid r) (rowid x) ≡ Less) table → AllByRecursion (λ x. value_cmp (rowid new) (rowid x) ≡ Less) (without_rowid id table)
    left_low r table is low = all_from _ (without_rowid id table) (λ x h. ap (λ v. value_cmp v (rowid x)) (keyed ∙ sym is) ∙ all_has (λ x. value_cmp (rowid r) (rowid x) ≡ Less) table x low (has_filtered (λ r. not (has_rowid id r)) table x h).0)

    pub found_replaced : (table : List Row) → HasRowids table → (c : Row) → find p table ≡ Some c → rowid c ≡ Int id → find p (put_row new (without_rowid id table)) ≡ Some new
    found_replaced [] ids c found is = absurd cc
    found_replaced (r ∷ table) ids c found is = go (p r) refl found (λ e. found_replaced table (ids.0.1, ids.1.1) c e is)
      where
        here : has_rowid id r ≡ true → AllByRecursion (λ x. value_cmp (rowid new) (rowid x) ≡ Less) (without_rowid id table) → find p (put_row new (without_rowid id (r ∷ table))) ≡ Some new
        here tied low = ap (λ b. find p (put_row new (cond (not b) (r ∷ without_rowid id table) (without_rowid id table)))) tied ∙ found_before (without_rowid id table) low

        later : value_cmp (rowid r) (Int id) ≡ Less → p r ≡ false → find p (put_row new (without_rowid id table)) ≡ Some new → find p (put_row new (without_rowid id (r ∷ table))) ≡ Some new
        later less out more =
            ap (λ o. find p (put_row new (cond (not (is_eq o)) (r ∷ without_rowid id table) (without_rowid id table)))) less
            ∙ ap (λ o. find p (match_ordering o (r ∷ put_row new (without_rowid id table)) (new ∷ without_rowid id table) (new ∷ r ∷ without_rowid id table))) (ap (value_cmp (rowid r)) keyed ∙ less)
            ∙ ap (λ b. cond b (Some r) (find p (put_row new (without_rowid id table)))) out ∙ more

        go : (b : Bool) → p r ≡ b → cond b (Some r) (find p table) ≡ Some c → (find p table ≡ Some c → find p (put_row new (without_rowid id table)) ≡ Some new) → find p (put_row new (without_rowid id (r ∷ table))) ≡ Some new
        go true on e more =
            let same : r ≡ c = cc in
            let own : rowid r ≡ Int id = ap rowid same ∙ is in
            here (ap (λ v. is_eq (value_cmp v (Int id))) own ∙ ap is_eq (tied_itself value_cmp_total (Int id))) (left_low r table own ids.0.0)
        go false out e more =
            let there = has_found p table c e in
            later (ap (value_cmp (rowid r)) (sym is) ∙ all_has (λ x. value_cmp (rowid r) (rowid x) ≡ Less) table c ids.0.0 there.0) out (more e)

-- it leaves the others
module _ (name : List ℕ) (new : Row) (pass : has_name name new ≡ true) (id : ℤ) (keyed : rowid new ≡ Int id) where
  -- before rows that are above it
  others_before : (table : List Row) → AllByRecursion (λ x. value_cmp (rowid new) (rowid x) ≡ Less) table → other_counts name (put_row new table) ≡ table
  others_before [] low = ap (λ b. cond b [] (new ∷ [])) pass
  others_before (r ∷ table) low =
      ap (λ o. other_counts name (match_ordering o (r ∷ put_row new table) (new ∷ table) (new ∷ r ∷ table))) (value_cmp_total.antisymm (rowid r) (rowid new) ∙ ap ordering_reverse low.0)
      ∙ ap (λ b. cond b (r ∷ table) (new ∷ other_counts name (r ∷ table))) pass

  -- none of the rows above a rowid has it
  all_left : (table : List Row) → AllByRecursion (λ x. value_cmp (Int id) (rowid x) ≡ Less) table → without_rowid id table ≡ table
  all_left [] low = refl
  all_left (r ∷ table) low =
      ap (λ o. cond (not (is_eq o)) (r ∷ without_rowid id table) (without_rowid id table)) (value_cmp_total.antisymm (rowid r) (Int id) ∙ ap ordering_reverse low.0)
      ∙ ap (λ (rs : List Row). r ∷ rs) (all_left table low.1)

  others_replaced : (table : List Row) → HasRowids table → (c : Row) → find (has_name name) table ≡ Some c → rowid c ≡ Int id → other_counts name (put_row new (without_rowid id table)) ≡ other_counts name table
  others_replaced [] ids c found is = absurd cc
  others_replaced (r ∷ table) ids c found is = go (has_name name r) refl found (λ e. others_replaced table (ids.0.1, ids.1.1) c e is)
    where
      here : rowid r ≡ Int id → other_counts name (put_row new (without_rowid id (r ∷ table))) ≡ table
      here own =
          let low = subst (λ v. AllByRecursion (λ x. value_cmp v (rowid x) ≡ Less) table) own ids.0.0 in
          ap (λ b. other_counts name (put_row new (cond (not b) (r ∷ without_rowid id table) (without_rowid id table)))) (ap (λ v. is_eq (value_cmp v (Int id))) own ∙ ap is_eq (tied_itself value_cmp_total (Int id)))
          ∙ ap (λ (rs : List Row). other_counts name (put_row new rs)) (all_left table low)
          ∙ others_before table (subst (λ v. AllByRecursion (λ x. value_cmp v (rowid x) ≡ Less) table) (sym keyed) low)

      later : value_cmp (rowid r) (Int id) ≡ Less → has_name name r ≡ false → other_counts name (put_row new (without_rowid id table)) ≡ other_counts name table
          → other_counts name (put_row new (without_rowid id (r ∷ table))) ≡ r ∷ other_counts name table
      later less out more =
          ap (λ o. other_counts name (put_row new (cond (not (is_eq o)) (r ∷ without_rowid id table) (without_rowid id table)))) less
          ∙ ap (λ o. other_counts name (match_ordering o (r ∷ put_row new (without_rowid id table)) (new ∷ without_rowid id table) (new ∷ r ∷ without_rowid id table))) (ap (value_cmp (rowid r)) keyed ∙ less)
          ∙ ap (λ b. cond b (put_row new (without_rowid id table)) (r ∷ other_counts name (put_row new (without_rowid id table)))) out ∙ ap (λ (rs : List Row). r ∷ rs) more

      go : (b : Bool) → has_name name r ≡ b → cond b (Some r) (find (has_name name) table) ≡ Some c
          → (find (has_name name) table ≡ Some c → other_counts name (put_row new (without_rowid id table)) ≡ other_counts name table)
          → other_counts name (put_row new (without_rowid id (r ∷ table))) ≡ cond b table (r ∷ other_counts name table)
      go true on e more = let same : r ≡ c = cc in here (ap rowid same ∙ is)
      go false out e more =
          let there = has_found (has_name name) table c e in
          later (ap (value_cmp (rowid r)) (sym is) ∙ all_has (λ x. value_cmp (rowid r) (rowid x) ≡ Less) table c ids.0.0 there.0) out (more e)

-- the edit that counts
counted_by : (schema : Schema) (table : Table) (counters : ℕ) → ignores_updates schema ≡ true → (mid next : Trees) (n : ℤ) → HasRowids (mid counters) → (c : Option Row) → find (has_name table.name) (mid counters) ≡ c
    → Edited schema Enforced mid (counting mid table (sequence_table counters) n c) (Ok next)
    → KeepsOthers schema counters mid next × (count_value table.name (next counters) ≡ Some (Int n)) × (other_counts table.name (next counters) ≡ other_counts table.name (mid counters)) × HasRowids (next counters)
counted_by schema table counters quiet mid next n ids None none h =
    let did = one_step schema Enforced mid next (counting mid table (sequence_table counters) n None) (no_works schema Enforced 0 counters (counting mid table (sequence_table counters) n None).news) h in
    let e = rw cast_null at did in
    let id = next_rowid (mid counters) in
    let new = counter_row id table.name n in (
      others_kept schema counters mid next e.tables,
      ap (count_value table.name) e.rows ∙ ap (option_map (λ (r : Row). column r 2)) (found_added (has_name table.name) new (names_itself id table.name n) (mid counters) none),
      ap (other_counts table.name) e.rows ∙ others_added table.name new (names_itself id table.name n) (mid counters) (not-true _ (and_parts _ _ e.fresh).0) none,
      subst HasRowids (sym e.rows) (IsShaped-put_row new (mid counters) refl ids),
    )
counted_by schema table counters quiet mid next n ids (Some c) found h =
    let edit = counting mid table (sequence_table counters) n (Some c) in
    let did = one_step schema Enforced mid next edit (quiet_updates schema (sequence_table counters) quiet (taken_by mid edit) _ []) h in
    let there = has_found (has_name table.name) (mid counters) c found in
    let id = id_in (rowid c) in
    let own : rowid c ≡ Int id = int_is (rowid c) (all_has _ (mid counters) c ids.1 there.0) in
    let new = counter_row id table.name n in
    let row : cast Integer (rowid c) ∷ Text table.name ∷ Int n ∷ [] ≡ new = ap (λ (v : Value). v ∷ Text table.name ∷ Int n ∷ []) (ap (cast Integer) own ∙ cast_int id) in
    let rows : next counters ≡ put_row new (without_rowid id (mid counters)) = did.rows ∙ ap (λ r. put_row r (without_rowid id (mid counters))) row in (
      others_kept schema counters mid next did.tables,
      ap (count_value table.name) rows ∙ ap (option_map (λ (r : Row). column r 2)) (found_replaced (has_name table.name) new (names_itself id table.name n) id refl (mid counters) ids c found own),
      ap (other_counts table.name) rows ∙ others_replaced table.name new (names_itself id table.name n) id refl (mid counters) ids c found own,
      subst HasRowids (sym rows) (IsShaped-put_row new (without_rowid id (mid counters)) refl (IsShaped-filter shape.Table (λ r. not (has_rowid id r)) (mid counters) ids)),
    )

-- ---- INSERT INTO t (every column but the id) VALUES (..)

has_sequence : (schema : Schema) (table : Table) → sequence schema ≡ Some table → Has schema.tables table
has_sequence schema table is = go _ is
  where
    go : (o : Option ℕ) → option_and_then (slice_get schema.tables) o ≡ Some table → Has schema.tables table
    go None e = absurd cc
    go (Some at) e = has_got schema.tables at table e

module _ (schema : Schema) (at : ℕ) (name : List ℕ) (tree : ℕ) (id : List ℕ) (columns : List Column) (references : List Reference) (counters : ℕ)
    (found : slice_get schema.tables at ≡ Some (numbered_table true name tree id columns references)) (sequence_is : sequence schema ≡ Some (sequence_table counters)) (apart : (tree == counters) ≡ false) (quiet : ignores_updates schema ≡ true) where
  abbrev table : Table
  table = numbered_table true name tree id columns references

  abbrev task : Option ℕ → Row → rows.Task
  task limit params = record { limit = limit; keys = Enforced; schema = schema; table = table; params = params }

  -- the number that the row gets
  abbrev pub given_number : Trees → ℤ
  given_number db = at_least (Above (count_in name (db counters))) (next_rowid (db tree))

  -- the row is added, and then counted
  pub record AddsCounted (values : Row) (n : ℤ) (old new : Trees) : Type 0 where
    pub mid : Trees
    pub adds : Adds schema tree (Int n ∷ Null ∷ values) old mid
    pub others : KeepsOthers schema counters mid new
    pub counts : count_value name (new counters) ≡ Some (Int n)
    pub rest : other_counts name (new counters) ≡ other_counts name (mid counters)
    pub rowids : HasRowids (new counters)

  abbrev edit_with : Trees → ℤ → List Row → Edit
  edit_with db count sources = edit_of db table [] (Above count) 0 sources

  -- what is done once the row and the count are known
  abbrev Goes : Option ℕ → Row → Trees → Option Row → List Row → Written → Type 0
  Goes limit params db c sources w =
      Then (Edited schema Enforced db (edit_with db (count_of c) sources)) (λ mid. Then (rows.Counts (task limit params) mid c (fold higher (count_of c) (edit_with db (count_of c) sources).news)) (λ next.
      Gives (record { trees = next; rows = (edit_with db (count_of c) sources).news; last = last_id (edit_with db (count_of c) sources).news }))) (Ok w)

  -- the edit of the one row
  news_are : (db : Trees) (count : ℤ) (values : Row) → are_exact columns values ≡ true → (edit_with db count ((Null ∷ Null ∷ values) ∷ [])).news ≡ (Int (at_least (Above count) (next_rowid (db tree))) ∷ Null ∷ values) ∷ []
  news_are db count values exact = rw (cast_null, cast_exact columns values exact) refl

  added : (db mid : Trees) (count : ℤ) (values : Row) → are_exact columns values ≡ true → Edited schema Enforced db (edit_with db count ((Null ∷ Null ∷ values) ∷ [])) (Ok mid)
      → Adds schema tree (Int (at_least (Above count) (next_rowid (db tree))) ∷ Null ∷ values) db mid
  added db mid count values exact h =
      let did = one_step schema Enforced db mid (edit_with db count ((Null ∷ Null ∷ values) ∷ [])) (no_works schema Enforced 0 tree (edit_with db count ((Null ∷ Null ∷ values) ∷ [])).news) h in
      let e = rw (cast_null, cast_exact columns values exact) at did in
      put_one schema table (Null ∷ values) (at_least (Above count) (next_rowid (db tree))) db mid (not-true _ (and_parts _ _ e.fresh).0) e.rows (others_kept schema tree db mid e.tables)

  -- the count that was there, and the edit that counts
  counter_is : (limit : Option ℕ) (params : Row) (db : Trees) (c : Option Row) → rows.CounterIn (task limit params) db (sequence schema) (Ok c) → find (has_name name) (db counters) ≡ c
  counter_is limit params db c h = sym (same_value (subst (λ o. rows.CounterIn (task limit params) db o (Ok c)) sequence_is h))

  count_edited : (limit : Option ℕ) (params : Row) (mid next : Trees) (c : Option Row) (n : ℤ) → is_lt (int_cmp (count_of c) n) ≡ true → rows.Counts (task limit params) mid c n (Ok next)
      → Edited schema Enforced mid (counting mid table (sequence_table counters) n c) (Ok next)
  count_edited limit params mid next c n low h = subst (λ o. rows.CountsIn (task limit params) mid c n o (Ok next)) sequence_is (rw low at h)

  goes : (limit : Option ℕ) (params : Row) (db : Trees) (values : Row) (w : Written) → are_exact columns values ≡ true → HasRowids (db counters) → (c : Option Row) → find (has_name name) (db counters) ≡ c
      → Goes limit params db c ((Null ∷ Null ∷ values) ∷ []) w → AddsCounted values (at_least (Above (count_of c)) (next_rowid (db tree))) db w.trees × (w.last ≡ Some (at_least (Above (count_of c)) (next_rowid (db tree))))
  goes limit params db values w exact ids c stood h =
      let n = at_least (Above (count_of c)) (next_rowid (db tree)) in
      let edit = edit_with db (count_of c) ((Null ∷ Null ∷ values) ∷ []) in
      let written = went h in
      let adds = added db written.0 (count_of c) values exact written.1 in
      let news = news_are db (count_of c) values exact in
      let counted = went written.2 in
      let low : is_lt (int_cmp (count_of c) n) ≡ true = count_low (count_of c) n (above_given (count_of c) (next_rowid (db tree))) in
      let top : fold higher (count_of c) edit.news ≡ n = ap (fold higher (count_of c)) news ∙ ap (λ b. cond b n (count_of c)) low in
      let counts = subst (λ k. rows.Counts (task limit params) written.0 c k (Ok counted.0)) top counted.1 in
      let edited = count_edited limit params written.0 counted.0 c n low counts in
      let same : written.0 counters ≡ db counters = all_has (λ (t : Table). (tree == t.tree) ≡ false → written.0 t.tree ≡ db t.tree) schema.tables (sequence_table counters) adds.others (has_sequence schema (sequence_table counters) sequence_is) apart in
      let it = counted_by schema table counters quiet written.0 counted.0 n (subst HasRowids (sym same) ids) c (ap (find (has_name name)) same ∙ stood) edited in
      let wrote = same_value counted.2 in (
        subst (AddsCounted values n db) (sym (ap (λ (x : Written). x.trees) wrote)) (record { mid = written.0; adds = adds; others = it.0; counts = it.1; rest = it.2; rowids = it.3 }),
        ap (λ (x : Written). x.last) wrote ∙ ap last_id news,
      )

  pub inserts_counted : (sql : List ℕ) (cells : List Term) (params : Row) (old new : State) → old.now.schema ≡ schema → Means schema sql (insert_values at (lit Null ∷ cells)) → are_exact columns (eval_all cells (params ∷ [])) ≡ true
      → HasRowids (old.now.trees counters) → (count : ℕ) → Executes sql params old new (Ok count)
      → (new.now.schema ≡ schema) × AddsCounted (eval_all cells (params ∷ [])) (given_number old.now.trees) old.now.trees new.now.trees × (new.last_rowid ≡ given_number old.now.trees)
  inserts_counted sql cells params old new has means exact ids n h =
      let values = eval_all cells (params ∷ []) in
      let w = written_as schema at table found sql params old new has _ means.0 means.1 n h refl in
      let given = went w.1 in
      let counter = went given.2 in
      let stood = counter_is old.step_limit params old.now.trees counter.0 counter.1 in
      let source : given.0 ≡ (Null ∷ Null ∷ values) ∷ [] = given.1.1 ∙ ap (λ p. value_rows p (length (lit Null ∷ lit Null ∷ cells)) (length (lit Null ∷ lit Null ∷ cells) / length (lit Null ∷ lit Null ∷ cells)) (lit Null ∷ lit Null ∷ cells)) (append-nil params)
      ∙ one_row params (lit Null) (lit Null ∷ cells) in
      let it = goes old.step_limit params old.now.trees values w.0 exact ids counter.0 stood (subst (λ sources. Goes old.step_limit params old.now.trees counter.0 sources w.0) source counter.2) in
      let count : count_of counter.0 ≡ count_in name (old.now.trees counters) = same_count counter.0 ∙ ap (λ c. counted (option_map (λ (r : Row). column r 2) c)) (sym stood) in
      let same : at_least (Above (count_of counter.0)) (next_rowid (old.now.trees tree)) ≡ given_number old.now.trees = ap (λ c. at_least (Above c) (next_rowid (old.now.trees tree))) count in (
        ap (λ (d : Database). d.schema) w.2,
        subst₂ (λ n db. AddsCounted values n old.now.trees db) same (sym (ap (λ (d : Database). d.trees) w.2)) it.0,
        w.3 ∙ ap (λ l. unwrap_or l old.last_rowid) it.1 ∙ same,
      )

-- an INSERT that is answered gives the row the next number
module _ {C X : Type 0} {schema : Schema} {contents : Trees → C} {place : ℕ} {table : Table} {value : Row → X} {change : C → NumberMap X → C} (t : IsNumbered schema contents place table value change)
    {counters : ℕ} {count : C → ℤ → C} (i : IsCounted schema contents table counters count) where
  pub insert_numbers : (sql : List ℕ) (cells : List Term) → Means schema sql (insert_values place (lit Null ∷ cells)) → (params : Row) → are_exact (drop 1 table.columns) (eval_all cells (params ∷ [])) ≡ true
      → (old new : State) (r : Result ℕ Error) → Ready schema old → Executed sql params old new r → HasCleanDisk new
      → OnOk r (TakesNext schema contents table value change counters count (eval_all cells (params ∷ [])) old new)
  insert_numbers sql cells means params exact old new r form call clean = inside _ schema sql params old new r form call clean (λ n ready ran on.
      let values = eval_all cells (params ∷ []) in
      let shape : table ≡ numbered_table true table.name table.tree (id_name table.columns) (drop 1 table.columns) table.references = t.shape ∙ ap (λ b. numbered_table b table.name table.tree (id_name table.columns) (drop 1 table.columns) table.references) i.counts in
      let own = table_rowids schema old place table ready t.found in
      let ids = all_has (λ (u : Table). HasRowids (old.now.trees u.tree)) schema.tables (sequence_table counters) ready.rowids (has_sequence schema (sequence_table counters) i.sequence_is) in
      let made = inserts_counted schema place table.name table.tree (id_name table.columns) (drop 1 table.columns) table.references counters (t.found ∙ ap (λ (u : Table). Some u) shape) i.sequence_is i.apart i.quiet sql cells params old new ready.schema_is means exact ids n ran in
      let number = number_given value (count_in table.name (old.now.trees counters)) (old.now.trees table.tree) own in
      let it = made.1 in
      let row = Int (at_least (Above (count_in table.name (old.now.trees counters))) (next_rowid (old.now.trees table.tree))) ∷ Null ∷ values in
      let between : map_by numbers value (it.mid table.tree) ≡ put (map_by numbers value (old.now.trees table.tree)) (numbers.of_row row) (value (Null ∷ values)) =
      inserted numbers number_key value schema table.tree row old.now.trees it.mid (numbers_once (old.now.trees table.tree) own) (numbers_once (it.mid table.tree) (it.adds.rowids own)) it.adds in
      record {
        leaves = record {
          holds = others_as schema counters it.mid new.now.trees it.others contents t.depends ∙ i.counting it.mid (new.now.trees counters) _ it.counts it.rest
              ∙ ap (λ c. count c (at_least (Above (count_in table.name (old.now.trees counters))) (next_rowid (old.now.trees table.tree)))) (after (by_number_given t) old.now.trees it.mid _ it.adds.others between)
              ∙ ap (λ k. count (change (contents old.now.trees) (put (map_by numbers value (old.now.trees table.tree)) k (value (Null ∷ values)))) k) number;
          ready = record {
            schema_is = made.0;
            sound = written_sound schema place sql params old new ready.schema_is _ means.0 means.1 n ran refl;
            rowids = rowids_after schema counters it.mid new.now.trees it.others (λ _. it.rowids) (rowids_after schema table.tree old.now.trees it.mid it.adds.others it.adds.rowids ready.rowids);
          };
          mode = on;
        };
        answered = made.2 ∙ number;
      })
