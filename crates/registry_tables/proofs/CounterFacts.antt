-- The rows in which SQLite counts, and what their names show.
use Rattle.std.specs.Prelude.{codes}
use Rattle.registry_tables.proofs.Words.{is_eq, ◌≡◌, ◌==◌, inl, inr, Bool, true, false, cond, List, [], ◌∷◌, filter, length, arith, ne_eqb, refl, sym, ap, ◌∙◌, length-map, Stored, Row, column}
use Rattle.registry_tables.proofs.Words.{value_cmp, col, Has, State, HasCleanDisk, has_name, other_counts, Ready, Reads, Queried, MeansQuery, Selects, Finds, select_where, query_reads, finds, stored}
use Rattle.registry_tables.proofs.Words.{counts_query, is_name_of_archives, name_archives_alone, schema}
use Rattle.std.proofs.lemmas.List.Sorted.{length_permutation}
use Rattle.sqlite.specs.Listing.{understood}
use Rattle.sqlite_tied.specs.Compute.{everything}
use Rattle.registry_rows.specs.Statements.{shown_by}
use Rattle.registry_rows.proofs.LookUpFacts.{all_pass}
use Rattle.registry_tables.specs.Schema as table

pub counts_means : MeansQuery schema counts_query (select_where table.counters (col 1 1 ∷ []) [] [] (codes "name" ∷ []))
unfolding understood everything
counts_means = ((refl, (refl, refl)), refl)

-- each row is shown
as_many : (counters rows : List Row) → Selects [] (col 1 1 ∷ []) [] [] counters rows → length rows ≡ length counters
as_many counters rows s =
    ap length s.shown ∙ length-map s.ordered (λ (o : Row × Row). o.1)
    ∙ length_permutation _ _ s.same
    ∙ length-map (filter (λ (r : Row). true) counters) (λ (r : Row). ([], shown_by (col 1 1 ∷ []) [] r))
    ∙ ap length (all_pass counters)

some_left : (b : Bool) (r s : Row) (rs ss : List Row) → (length (cond b (r ∷ rs) (s ∷ ss)) == 0) ≡ false
some_left true r s rs ss = ne_eqb _ 0 (omega arith)
some_left false r s rs ss = ne_eqb _ 0 (omega arith)

only_left : (b : Bool) (r : Row) → (length (cond b [] (r ∷ [])) == 0) ≡ b
only_left true r = refl
only_left false r = ne_eqb 1 0 (omega arith)

one_named : (r x : Row) (rows : List Row) → Has (x ∷ []) (column r 1 ∷ []) → is_name_of_archives x ≡ has_name table.archives.name r
one_named r x rows (inl is) = ap (λ (y : Row). is_eq (value_cmp (column y 0) (Stored table.archives.name))) (sym is)
one_named r x rows (inr none) = absurd none

-- the names are those of the archives alone exactly where there is no other row
named_alone : (counters rows : List Row) → length rows ≡ length counters → Finds [] (col 1 1 ∷ []) [] counters rows
    → name_archives_alone rows ≡ (length (other_counts table.archives.name counters) == 0)
named_alone [] [] many found = refl
named_alone [] (x ∷ rows) many found = absurd (omega (arith, many))
named_alone (r ∷ []) [] many found = absurd (omega (arith, many))
named_alone (r ∷ []) (x ∷ []) many found = one_named r x [] (found.complete r (inl refl) refl) ∙ sym (only_left (has_name table.archives.name r) r)
named_alone (r ∷ []) (x ∷ y ∷ rows) many found = absurd (omega (arith, many))
named_alone (r ∷ s ∷ counters) [] many found = absurd (omega (arith, many))
named_alone (r ∷ s ∷ counters) (x ∷ []) many found = absurd (omega (arith, many))
named_alone (r ∷ s ∷ counters) (x ∷ y ∷ rows) many found = sym (some_left (has_name table.archives.name r) s r counters (other_counts table.archives.name (s ∷ counters)))

pub counts_told : (old new : State) (rows : List Row) → Ready schema old → Queried counts_query [] old new rows → HasCleanDisk new
    → Reads schema old new × (name_archives_alone rows ≡ (length (stored old).counters == 0))
counts_told old new rows form call clean =
    let it = query_reads schema counts_query table.counters.tree [] (col 1 1 ∷ []) [] (codes "name" ∷ []) counts_means [] old new rows (form (omega (arith, call.survives.clean, clean))) (call.shown clean) in
    let counters = old.now.trees table.counters.tree in
    (it.0, named_alone counters rows (as_many counters rows it.2) (finds [] (col 1 1 ∷ []) [] [] counters rows it.2))
