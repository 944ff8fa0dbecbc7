-- What a walk has left.
use Rattle.registry_tables.proofs.Words.{◌≡◌, ◌≤◌, ◌∙◌, ℕ, ◌+◌, List, [], ◌∷◌, ◌++◌, map, length, drop, refl, sym, ap, IsTrue, arith, false, inl, Some, None, Result, Ok, Err, IfOk, OnErr, map-append}
use Rattle.registry_tables.proofs.Words.{drop_all, length-append, length-map, Database, HasCleanDisk, IsUnchanged, Survives, CommitsShowing, Stored, Ghosts, of, seen, Text, Ready, contents, live_of}
use Rattle.registry_tables.proofs.Words.{schema, document, row_entry, row_spelled, walk_text, documents_of, row_of_entry, rows_after, Begins, IsAt, IsGoing, IsLeftAlone, Steps, shown_by}
use Rattle.std.proofs.Math.Logic.{∥∥₁_elim, ∥∥₁_map}
use Rattle.std.proofs.lemmas.List.{append_assoc}
use lib.Seq.{drop_at}
use base.Stored.{Coded-set}
use Rattle.std.specs.Coded.{coded×, coded_ℕ, coded_list}
use Rattle.sqlite.specs.Given.{HasBegun, IsRefused}
use Rattle.sqlite.specs.Held.{Held, state}
use Rattle.sqlite.specs.declared.error.Error.{Error}
use Rattle.sqlite.specs.declared.rows.stream.Rows.{Rows}
use Rattle.registry_packument.specs.declared.packument.VersionRow.{VersionRow}
use Rattle.registry_tables.specs.declared.walk.stage.Stage.TheVariants.{Goes, Over}
use Rattle.registry_tables.proofs.WalkFacts.{begun_walk, commits_nothing, left_by, ready_still, refused_leaves, walked_first, shown_all}

entries_set : IsSet (List (Text × (Text × Text)))
entries_set = Coded-set (coded_list (coded× (coded_list coded_ℕ) (coded× (coded_list coded_ℕ) (coded_list coded_ℕ))))

-- what lives where nothing has changed
same_documents : (p : Text) (d e : Database) → e ≡ d → map (seen document) (of (live_of (contents e.trees)) p) ≡ map (seen document) (of (live_of (contents d.trees)) p)
same_documents p d e same = ap (λ (d : Database). map (seen document) (of (live_of (contents d.trees)) p)) same

-- a walk begins before the first version
starts : {S : Type 0} (g : Ghosts S) (p : Text) (old new : Held S) → Ready schema (state g old) → (HasCleanDisk (state g old) → IsTrue (state g old).is_open)
    → Survives (state g old) (state g new) (CommitsShowing walk_text (Stored p ∷ []) (state g old)) → (HasCleanDisk (state g new) → HasBegun g walk_text (Stored p ∷ []) old new)
    → IsGoing g p new 0
starts g p old new form unshut s begun =
    let mild = commits_nothing p (state g old) (state g new) form unshut s in
    record {
      form = λ clean. ready_still (state g old) (state g new) form mild (begun_walk g p old new form unshut s (begun clean) clean).1 clean;
      unshut = λ clean. (begun_walk g p old new form unshut s (begun clean) clean).1.0.is_open;
      walked = λ clean. ([], (begun_walk g p old new form unshut s (begun clean) clean).0, refl);
    }

-- ---- the rows that are asked for

module _ {S : Type 0} (g : Ghosts S) (p : Text) (old : Held S) (form : Ready schema (state g old)) (unshut : HasCleanDisk (state g old) → IsTrue (state g old).is_open) where
  -- what the query of a walk says of its answer
  abbrev pub IsAsked : Rows S g → Type 0
  IsAsked rows =
      Survives (state g old) (shown_by g rows) (CommitsShowing walk_text (Stored p ∷ []) (state g old)) × (old.in_transaction ≡ false → rows.conn.now.in_transaction ≡ false)
      × (HasCleanDisk (shown_by g rows) → HasBegun g walk_text (Stored p ∷ []) old rows.conn.now)

  pub asked_left : (rows : Rows S g) → IsAsked rows → IsLeftAlone (state g old) (shown_by g rows)
  asked_left rows it =
      left_by (state g old) (shown_by g rows) (commits_nothing p (state g old) (shown_by g rows) form unshut it.0) it.1
      (λ clean. inl (begun_walk g p old rows.conn.now form unshut it.0 (it.2 clean) clean).1)

  pub asked_same : (rows : Rows S g) → IsAsked rows → HasCleanDisk (shown_by g rows) → IsUnchanged (state g old) (shown_by g rows)
  asked_same rows it clean = (begun_walk g p old rows.conn.now form unshut it.0 (it.2 clean) clean).1

  pub asked_begins : (rows : Rows S g) → IsAsked rows → Begins g p rows
  asked_begins rows it = starts g p old rows.conn.now form unshut it.0 it.2

  -- where none are given, the connection is left alone
  pub refused_alone : (r : Result (Rows S g) Error) (new : Held S) → OnErr r (IsRefused g walk_text (Stored p ∷ []) old r new) → OnErr r (IsLeftAlone (state g old) (state g new))
  refused_alone (Ok rows) new it = tt
  refused_alone (Err e) new it = refused_leaves p (state g old) (state g new) e form unshut it.survives it.mode it.err

  pub is_asked : (r : Result (Rows S g) Error) → IfOk r (λ rows. Survives (state g old) (shown_by g rows) (CommitsShowing walk_text (Stored p ∷ []) (state g old)))
      → IfOk r (λ rows. old.in_transaction ≡ false → rows.conn.now.in_transaction ≡ false) → IfOk r (λ rows. HasCleanDisk (shown_by g rows) → HasBegun g walk_text (Stored p ∷ []) old rows.conn.now)
      → IfOk r IsAsked
  is_asked (Ok rows) survives mode begun = (survives, mode, begun)
  is_asked (Err e) survives mode begun = tt

module _ {S : Type 0} (g : Ghosts S) (p : Text) (old new : Held S) (n : ℕ) where
  -- what is left of a walk that has gone on
  on_some : (v : VersionRow) → IsGoing g p old n → IsUnchanged (state g old) (state g new) → Survives (state g old) (state g new) (λ _. ⊥) → Steps g old new (Some v) → HasCleanDisk (state g new)
      → drop n (documents_of (state g old) p) ≡ row_entry v ∷ drop (n + 1) (documents_of (state g new) p)
  on_some v it same s steps clean =
      let was = it.walked (omega (arith, s.clean, clean)) in
      let went = steps p was.0 was.1 in
      let front = walked_first g p new (was.0 ++ went.0 ∷ []) (ready_still (state g old) (state g new) it.form s same) same.0.is_open clean went.1 in
      let here = same_documents p (state g old).now (state g new).now same.0.now_is in
      let parts = sym (append_assoc (map row_spelled was.0) (row_spelled went.0 ∷ []) front.0) ∙ ap (λ l. l ++ front.0) (sym (map-append row_spelled was.0 (went.0 ∷ []))) ∙ front.1 in
      let left = drop_at (map row_spelled was.0) (row_spelled went.0 ∷ front.0) n (length-map was.0 row_spelled ∙ was.2) in
      let rest = drop_at (map row_spelled (was.0 ++ went.0 ∷ [])) front.0 (n + 1) (length-map (was.0 ++ went.0 ∷ []) row_spelled ∙ length-append was.0 (went.0 ∷ []) ∙ ap (λ k. k + 1) was.2) in
      ap (drop n) (sym here ∙ sym parts) ∙ left ∙ ap (λ x. x ∷ front.0) (sym went.2) ∙ ap (λ l. row_entry v ∷ l) (sym rest ∙ ap (drop (n + 1)) front.1)

  on_none : IsGoing g p old n → IsUnchanged (state g old) (state g new) → Survives (state g old) (state g new) (λ _. ⊥) → Steps g old new None → HasCleanDisk (state g new)
      → length (documents_of (state g new) p) ≤ n
  on_none it same s steps clean =
      let was = it.walked (omega (arith, s.clean, clean)) in
      let all = shown_all p (state g old) (state g new) was.0 it.form s (steps p was.0 was.1) clean in
      let here = same_documents p (state g old).now (state g new).now same.0.now_is in
      omega (arith, ap length (here ∙ sym all), length-map was.0 row_spelled, was.2)

  -- one version is given, and the others are left
  pub some_given : (v : VersionRow) → ∥ IsAt g p old n Goes ∥₁ → IsUnchanged (state g old) (state g new) → Survives (state g old) (state g new) (λ _. ⊥) → Steps g old new (Some v) → HasCleanDisk (state g new)
      → rows_after (state g old) p n ≡ v ∷ rows_after (state g new) p (n + 1)
  some_given v at same s steps clean = ap (map row_of_entry) (∥∥₁_elim at (entries_set _ _) (λ it. on_some v it same s steps clean))

  -- none is left
  pub none_given : ∥ IsAt g p old n Goes ∥₁ → IsUnchanged (state g old) (state g new) → Survives (state g old) (state g new) (λ _. ⊥) → Steps g old new None → HasCleanDisk (state g new)
      → (rows_after (state g old) p n ≡ []) × (rows_after (state g new) p n ≡ [])
  none_given at same s steps clean =
      let none = ∥∥₁_elim at (entries_set _ _) (λ it. drop_all n _ (on_none it same s steps clean)) in
      let here = same_documents p (state g old).now (state g new).now same.0.now_is in
      (ap (λ es. map row_of_entry (drop n es)) (sym here) ∙ ap (map row_of_entry) none, ap (map row_of_entry) none)

  pub goes_on : (v : VersionRow) → ∥ IsAt g p old n Goes ∥₁ → (HasCleanDisk (state g new) → IsUnchanged (state g old) (state g new)) → Survives (state g old) (state g new) (λ _. ⊥) → (HasCleanDisk (state g new) → Steps g old new (Some v))
      → ∥ IsAt g p new (n + 1) Goes ∥₁
  goes_on v at same s steps = ∥∥₁_map at (λ (it : IsGoing g p old n). record {
    form = λ clean. ready_still (state g old) (state g new) it.form s (same clean) clean;
    unshut = λ clean. (same clean).0.is_open;
    walked = λ clean.
        let was = it.walked (omega (arith, s.clean, clean)) in
        let went = steps clean p was.0 was.1 in
        (was.0 ++ went.0 ∷ [], went.1, length-append was.0 (went.0 ∷ []) ∙ ap (λ k. k + 1) was.2);
  })

  pub is_over : ∥ IsAt g p old n Goes ∥₁ → (HasCleanDisk (state g new) → IsUnchanged (state g old) (state g new)) → Survives (state g old) (state g new) (λ _. ⊥) → (HasCleanDisk (state g new) → Steps g old new None)
      → ∥ IsAt g p new n Over ∥₁
  is_over at same s steps = ∥∥₁_map at (λ it clean. on_none it (same clean) s (steps clean) clean)

pub over_none : {S : Type 0} (g : Ghosts S) (p : Text) (h : Held S) (n : ℕ) → ∥ IsAt g p h n Over ∥₁ → HasCleanDisk (state g h) → rows_after (state g h) p n ≡ []
over_none g p h n at clean = ap (map row_of_entry) (∥∥₁_elim at (entries_set _ _) (λ it. drop_all n _ (it clean)))
