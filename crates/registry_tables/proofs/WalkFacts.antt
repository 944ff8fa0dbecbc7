-- What the rows of a walk are.
use Rattle.registry_tables.proofs.Words.{◌≡◌, ◌⊎◌, ◌∙◌, List, [], ◌∷◌, ◌++◌, false, map, refl, sym, ap, subst, codes, IsTrue, arith, inl, inr, map-append, Select, Database, understood, State}
use Rattle.registry_tables.proofs.Words.{HasCleanDisk, IsRolledBack, IsUnchanged, Survives, IsStatement, CommitsShowing, FailsToShow, Stored, IsPlain, begins_shown, EndsIn, command_of, given_begin}
use Rattle.registry_tables.proofs.Words.{begun_plain, never_commits, Ghosts, Row, Text, ready_same, Ready, scan, by_texts, in_order, schema, row_entry, row_spelled, walk_text, documents_of}
use Rattle.registry_tables.proofs.Words.{row_of_entry, HasWalked, IsLeftAlone}
use Rattle.sqlite.specs.Clock.{timed}
use Rattle.sqlite.specs.Given.{HasBegun}
use Rattle.sqlite.specs.Held.{Held, state}
use Rattle.sqlite.specs.State.{IsNotRun, Shown, FailsToQuery}
use Rattle.sqlite.specs.declared.error.Error.{Error}
use Rattle.sqlite.proofs.StateLemmas.{survives_weaker, unchanged}
use Rattle.sqlite_resolve.specs.declared.compiled.Compiled.{Compiled}
use Rattle.registry_tables.specs.WalkLaws.{left_itself}
use Rattle.registry_tables.proofs.VersionFacts.{list_columns, list_means, versions_listed}

-- the text is plain in our schema
plain_in : (s : State) → s.now.schema ≡ schema → IsPlain (understood s.now.schema walk_text)
plain_in s is = subst (λ h. IsPlain (understood h walk_text)) (sym is) list_means.0.1

is_select : (s : State) (p : Text) (c : Compiled) → s.now.schema ≡ schema → IsStatement s walk_text (Stored p ∷ []) c
    → c.command ≡ Select (record { lets = []; body = scan 18 (by_texts 0 1 0) list_columns (in_order 0 2) }) (codes "version" ∷ codes "manifest" ∷ codes "deprecated" ∷ [])
is_select s p c is it = sym (ap command_of it.is) ∙ ap (λ h. command_of (understood h walk_text)) is ∙ list_means.0.0

-- it has no recursion, so it can end
ends_in : (s : State) (p : Text) (c : Compiled) (db : Database) (params : Row) → s.now.schema ≡ schema → IsStatement s walk_text (Stored p ∷ []) c → EndsIn c.command db params
ends_in s p c db params is it = subst (λ k. EndsIn k db params) (sym (is_select s p c is it)) tt

-- a query that writes nothing commits nothing
pub commits_nothing : (p : Text) (old new : State) → Ready schema old → (HasCleanDisk old → IsTrue old.is_open) → Survives old new (CommitsShowing walk_text (Stored p ∷ []) old) → Survives old new (λ _. ⊥)
commits_nothing p old new form unshut s = survives_weaker old new _ _ (λ clean db.
    let was : HasCleanDisk old = omega (arith, s.clean, clean) in
    never_commits walk_text (Stored p ∷ []) old db (plain_in old (form was (unshut was)).schema_is)) s

-- the rows so far are the first versions
pub walked_first : {S : Type 0} (g : Ghosts S) (p : Text) (h : Held S) (given : List Row) → Ready schema (state g h) → IsTrue (state g h).is_open → HasCleanDisk (state g h)
    → HasWalked g p h given → (rest : _) × (map row_spelled given ++ rest ≡ documents_of (state g h) p)
walked_first g p h given form unshut clean it =
    let s = state g h in
    let is = (form clean unshut).schema_is in
    let all = begins_shown walk_text (Stored p ∷ []) s s given (given_begin g walk_text (Stored p ∷ []) h given it) (unchanged s unshut) (λ c db it source. ends_in s p c db _ is it) in
    (map row_spelled all.0, sym (map-append row_spelled given all.0) ∙ (versions_listed p s s _ form (record { shown = λ _. all.1; survives = (left_itself s).survives }) clean).1)

-- where nothing has changed, the tables are in form
pub ready_still : (old new : State) → Ready schema old → Survives old new (λ _. ⊥) → IsUnchanged old new → Ready schema new
ready_still old new form s same clean unshut = ready_same schema old new same.0.now_is (form (omega (arith, s.clean, clean)) same.0.was_open)

-- a walk that has begun has given nothing, and changed nothing
pub begun_walk : {S : Type 0} (g : Ghosts S) (p : Text) (old new : Held S) → Ready schema (state g old) → (HasCleanDisk (state g old) → IsTrue (state g old).is_open)
    → Survives (state g old) (state g new) (CommitsShowing walk_text (Stored p ∷ []) (state g old)) → HasBegun g walk_text (Stored p ∷ []) old new → HasCleanDisk (state g new)
    → HasWalked g p new [] × IsUnchanged (state g old) (state g new)
begun_walk g p old new form unshut s begun clean =
    let was : HasCleanDisk (state g old) = omega (arith, s.clean, clean) in
    begun_plain g walk_text (Stored p ∷ []) old new (plain_in (state g old) (form was (unshut was)).schema_is) begun

-- rows that are shown are all
pub shown_all : (p : Text) (old new : State) (rows : List Row) → Ready schema old → Survives old new (λ _. ⊥) → Shown walk_text (Stored p ∷ []) old new rows → HasCleanDisk new
    → map row_spelled rows ≡ documents_of old p
shown_all p old new rows form s shown clean = (versions_listed p old new rows form (record { shown = λ _. shown; survives = s }) clean).1

-- the rows are the versions that they were made of
pub rows_back : (es : List (Text × (Text × Text))) → map row_entry (map row_of_entry es) ≡ es
rows_back [] = refl
rows_back (e ∷ es) = ap (λ rest. e ∷ rest) (rows_back es)

-- ---- what is left of the connection

seen_now : (old new : State) → IsUnchanged old new ⊎ IsRolledBack old new → IsTrue new.is_open → IsTrue old.is_open × (new.committed ≡ old.committed) × (old.now ≡ old.committed → new.now ≡ old.now)
seen_now old new (inl same) on = (same.0.was_open, same.0.committed_is, λ settled. same.0.now_is)
seen_now old new (inr back) on = (back.was_open on, (back.undone on).1, λ settled. (back.undone on).0 ∙ sym settled)

-- where nothing has changed, or a transaction was rolled back, a connection is left alone
pub left_by : (old new : State) → Survives old new (λ _. ⊥) → (old.in_transaction ≡ false → new.in_transaction ≡ false) → (HasCleanDisk new → IsUnchanged old new ⊎ IsRolledBack old new) → IsLeftAlone old new
left_by old new s idle moved = record {
  survives = s;
  idle = idle;
  opened = λ clean on. (seen_now old new (moved clean) on).0;
  committed = λ clean on. (seen_now old new (moved clean) on).1;
  same = λ clean on. (seen_now old new (moved clean) on).2;
}

-- the tables of a connection that saw what was committed stay in form
pub left_ready : (old new : State) → IsLeftAlone old new → Ready schema old → (HasCleanDisk old → IsTrue old.is_open → old.now ≡ old.committed) → Ready schema new
left_ready old new left form settled clean on =
    let before : HasCleanDisk old = omega (arith, left.survives.clean, clean) in
    let was = left.opened clean on in
    ready_same schema old new (left.same clean on (settled before was)) (form before was)

-- a walk that can't begin has changed nothing, or a failure of the disk rolled a transaction back
failed_walk : (p : Text) (old new : State) (e : Error) → IsPlain (understood old.now.schema walk_text) → FailsToQuery walk_text (Stored p ∷ []) old new e → IsUnchanged old new ⊎ IsRolledBack old new
unfolding FailsToQuery IsNotRun
failed_walk p old new e plain (inl (inl none)) = inl none.1
failed_walk p old new e plain (inl (inr fails)) = inr fails.3
failed_walk p old new e plain (inr h) =
    let none = (subst IsPlain h.1.is plain).0 in
    inl (subst (FailsToShow old new walk_text h.0 (timed (Stored p ∷ []) h.0.formats h.1.now) e) none h.2).3

pub refused_leaves : (p : Text) (old new : State) (e : Error) → Ready schema old → (HasCleanDisk old → IsTrue old.is_open)
    → Survives old new (CommitsShowing walk_text (Stored p ∷ []) old) → (old.in_transaction ≡ false → new.in_transaction ≡ false)
    → (HasCleanDisk new → FailsToQuery walk_text (Stored p ∷ []) old new e) → IsLeftAlone old new
refused_leaves p old new e form unshut s idle failed =
    let quiet = commits_nothing p old new form unshut s in
    left_by old new quiet idle (λ clean.
    let was : HasCleanDisk old = omega (arith, quiet.clean, clean) in
    failed_walk p old new e (plain_in old (form was (unshut was)).schema_is) (failed clean))
