-- The tables made one after another, each of them empty.
use Rattle.registry_tables.proofs.Words.{◌≡◌, inl, inr, ℕ, zero, suc, ◌+◌, ◌<◌, ◌≤◌, false, List, [], length, get_or, refl, Result, OnOk, Ok, Err, arith, sym, ap, subst, ◌∙◌, nat_lt, cases_lt, le-ltb}
use Rattle.registry_tables.proofs.Words.{Ghosts, State, HasCleanDisk, Transaction, understood, Exists, Schema, no_tables, Wrote, Ready, Blank, Leaves, Executed, schema, schema_2, contents}
use Rattle.registry_tables.proofs.Words.{HasNoTables, InForm, Makes, shown, stored_in, HasMade, first_tables, fresh, no_contents, schema_after, schema_number, with_number}
use Rattle.sqlite.specs.State.{ExecutesIn}
use Rattle.sqlite_resolve.specs.declared.error.CompileError.{CompileError}
use Rattle.registry_rows.proofs.ReadyFacts.{inside}
use Rattle.registry_rows.proofs.CreateFacts.{create_adds, create_adds_counter, creates_ready, index_keeps_blank, blank_holds}
use Rattle.registry_tables.specs.Schema as table
use Rattle.registry_tables.specs.Creation.{creation}
use Rattle.registry_tables.proofs.ContentsFacts.{contents_depend, no_rows}
use Rattle.registry_tables.proofs.SchemaFacts.{AddsTable, adds, creation_length, means_archives, means_archives_index, means_needs, means_needs_index, means_held_index, means_tokens_index, means_members_index, means_team_members_index, means_owners_index, users_exists}

add_first : (sql : List ℕ) → AddsTable 0 sql → (old new : State) (count : ℕ) → Ready no_tables old → Executed sql [] old new (Ok count) → HasCleanDisk new → Blank (first_tables 1) new
add_first sql it old new count form call clean = inside (Blank (first_tables 1) new) no_tables sql [] old new (Ok count) form call clean (λ n ready ran on.
    let made = creates_ready no_tables sql it.table old new it.means ready n ran in
    subst (λ s. Blank s new) it.next (record { ready = made.0; empty = (made.2, tt); mode = on }))

-- the first fifteen make a table with a primary key of columns each
first_made : (n : ℕ) → n ≤ 15 → schema_after n ≡ first_tables n
first_made n few =
    let archives : nat_lt 15 n ≡ false = le-ltb 15 n few in
    let archives_index : nat_lt 16 n ≡ false = le-ltb 16 n (omega (arith, few)) in
    let needs : nat_lt 17 n ≡ false = le-ltb 17 n (omega (arith, few)) in
    rw (archives, archives_index, needs) refl

-- the text takes what the first so many made to what one more makes
abbrev MakesNext : ℕ → Type 1
MakesNext n = (old new : State) (count : ℕ) → (HasCleanDisk old → Blank (schema_after n) old) → Executed (get_or creation n []) [] old new (Ok count) → HasCleanDisk new → Blank (schema_after (suc n)) new

add_table : (n : ℕ) → n < 15 → MakesNext n
add_table n few old new count made call clean =
    let it = adds n few in
    subst (λ s. Blank s new) (it.next ∙ sym (first_made (suc n) few))
    (create_adds (first_tables n) (get_or creation n []) it.table it.means old new (Ok count) (λ before. subst (λ s. Blank s old) (first_made n (omega (arith, few))) (made before)) call clean)

add_archives : MakesNext 15
add_archives old new count made call clean = create_adds_counter (first_tables 15) (get_or creation 15 []) (record table.archives { tree = 0 }) means_archives old new (Ok count) made call clean

add_archives_index : MakesNext 16
add_archives_index old new count made call clean = index_keeps_blank (schema_after 16) (get_or creation 16 []) 15 table.archives (record table.archives_by_integrity { tree = 0 }) means_archives_index old new (Ok count) made call clean

add_needs : MakesNext 17
add_needs old new count made call clean = create_adds schema_2 (get_or creation 17 []) (record table.need_ranges { tree = 0 }) means_needs old new (Ok count) made call clean

add_needs_index : MakesNext 18
add_needs_index old new count made call clean = index_keeps_blank (schema_after 18) (get_or creation 18 []) 17 table.need_ranges (record table.need_ranges_by_target { tree = 0 }) means_needs_index old new (Ok count) made call clean

add_held_index : MakesNext 19
add_held_index old new count made call clean = index_keeps_blank (schema_after 19) (get_or creation 19 []) 14 table.held (record table.held_by_archive { tree = 0 }) means_held_index old new (Ok count) made call clean

add_tokens_index : MakesNext 20
add_tokens_index old new count made call clean = index_keeps_blank (schema_after 20) (get_or creation 20 []) 1 table.tokens (record table.tokens_by_user { tree = 0 }) means_tokens_index old new (Ok count) made call clean

add_members_index : MakesNext 21
add_members_index old new count made call clean = index_keeps_blank (schema_after 21) (get_or creation 21 []) 3 table.members (record table.members_by_user { tree = 0 }) means_members_index old new (Ok count) made call clean

add_team_members_index : MakesNext 22
add_team_members_index old new count made call clean = index_keeps_blank (schema_after 22) (get_or creation 22 []) 5 table.team_members (record table.team_members_by_user { tree = 0 }) means_team_members_index old new (Ok count) made call clean

add_owners_index : MakesNext 23
add_owners_index old new count made call clean = index_keeps_blank (schema_after 23) (get_or creation 23 []) 8 table.owners (record table.owners_by_user { tree = 0 }) means_owners_index old new (Ok count) made call clean

-- what holds of a number and of all from the next on, holds from that number on
from_here : (P : ℕ → Type 1) (k n : ℕ) → k ≤ n → P k → (suc k ≤ n → P n) → P n
from_here P k n late here later = elim (cases_lt k n) [
  | inl less ↦ later (omega (arith, less))
  | inr last ↦ let is : k ≡ n = omega (arith, late, last) in subst P is here
]

-- the texts after the first fifteen
add_later : (n : ℕ) → 15 ≤ n → n < 24 → MakesNext n
add_later n late few =
    from_here MakesNext 15 n late add_archives (λ l.
    from_here MakesNext 16 n l add_archives_index (λ l.
    from_here MakesNext 17 n l add_needs (λ l.
    from_here MakesNext 18 n l add_needs_index (λ l.
    from_here MakesNext 19 n l add_held_index (λ l.
    from_here MakesNext 20 n l add_tokens_index (λ l.
    from_here MakesNext 21 n l add_members_index (λ l.
    from_here MakesNext 22 n l add_team_members_index (λ l.
    from_here MakesNext 23 n l add_owners_index (λ l. absurd (omega (arith, l, few)))))))))))

add_next : (n : ℕ) → n < 24 → MakesNext n
add_next n few = elim (cases_lt n 15) [
  | inl early ↦ add_table n early
  | inr late ↦ add_later n late few
]

-- a text that isn't understood isn't run
never_run : (schema : Schema) (sql : List ℕ) (e : CompileError) → understood schema sql ≡ Err e → (old new : State) (count : ℕ) → Ready schema old → Executed sql [] old new (Ok count) → ¬ HasCleanDisk new
unfolding ExecutesIn
never_run schema sql e refused old new count form call clean = inside ⊥ schema sql [] old new (Ok count) form call clean (λ n ready ran on.
    absurd (let both = sym (ap (λ s. understood s sql) ready.schema_is ∙ refused) ∙ ran.1.is in cc))

module _ {S : Type 0} (store : Ghosts S) where
  -- the next text, after those so far
  pub makes_next : (i : ℕ) (first old new : Transaction S) → i < length creation → (i ≡ 0 → old ≡ first) → (0 < i → HasNoTables store first → HasMade store i old)
      → Wrote (get_or creation i []) [] (shown store old) (shown store new) → HasNoTables store first → HasMade store (i + 1) new
  makes_next zero first old new within idle made call none =
      add_first (get_or creation 0 []) (adds 0 (omega arith)) (shown store old) (shown store new) call.0 (subst (HasNoTables store) (sym (idle refl)) none) call.1
  makes_next (suc n) first old new within idle made call none =
      let same : suc (suc n) ≡ suc n + 1 = omega arith in
      subst (λ k. HasMade store k new) same (add_next (suc n) (omega (arith, creation_length, within)) (shown store old) (shown store new) call.0 (made (omega arith) none) call.1)

  -- where the tables were there, no text is run
  pub refuses_next : (i : ℕ) (first old new : Transaction S) → (i ≡ 0 → old ≡ first) → (0 < i → InForm store first → ¬ HasCleanDisk (shown store old))
      → Wrote (get_or creation i []) [] (shown store old) (shown store new) → InForm store first → ¬ HasCleanDisk (shown store new)
  refuses_next zero first old new idle refused call form =
      never_run schema (get_or creation 0 []) Exists users_exists (shown store old) (shown store new) call.0 (subst (InForm store) (sym (idle refl)) form) call.1
  refuses_next (suc n) first old new idle refused call form = λ clean. refused (omega arith) form (omega (arith, call.1.survives.clean, clean))

  -- the number of the schema is put when all tables are there
  pub numbered : {E : Type 0} (old new : Transaction S) (r : Result (Unit {0}) E) → HasMade store 24 old → (HasCleanDisk (shown store new) → HasCleanDisk (shown store old))
      → (InForm store old → Makes store old new r (λ c. with_number c schema_number)) → HasCleanDisk (shown store new) → OnOk r (Leaves schema contents fresh (shown store new))
  numbered old new r made before put clean =
      let blank : Blank schema (shown store old) = made (before clean) in
      let none : stored_in store old ≡ no_contents = blank_holds schema contents (shown store old) contents_depend blank ∙ no_rows in
      subst (λ c. OnOk r (Leaves schema contents (with_number c schema_number) (shown store new))) none (put (λ _ _. blank.ready) clean)
