-- What is so of every walk: its rows are in order, and two reads, one after the other, leave its
-- connection as both together do.
use Rattle.std.specs.Prelude.{◌≡◌, true, ℕ, zero, suc, List, [], ◌∷◌, drop, Option, None, IsTrue}
use Rattle.std.specs.Borrow.{MutBor}
use Rattle.std.specs.FinMap.Entries.{below_all}
use Rattle.std.proofs.Common.{◌∙◌, Ordering, refl, sym, ap, arith, inl}
use Rattle.std.proofs.lemmas.Bool.{and_parts}
use Rattle.std.proofs.lemmas.Simd.{map-map}
use Rattle.sqlite.proofs.StateLemmas.{survives_then}
use Rattle.sqlite.specs.State.{State, HasCleanDisk}
use Rattle.sqlite.specs.declared.rows.stream.Rows.{Rows}
use Rattle.sqlite_trees.specs.declared.store.Store.{Ghosts}
use Rattle.registry_names.proofs.EntryFacts.{rises_mapped, rises_seen}
use Rattle.registry_names.proofs.PartFacts.{part_rises}
use Rattle.registry_names.specs.Maps.{of, rises}
use Rattle.registry_names.specs.Texts.{Text, text_cmp}
use Rattle.registry_names.specs.declared.stop.Fault.{Fault}
use Rattle.registry_packument.specs.Sources.{IsInOrder, version_entry}
use Rattle.registry_tables.specs.Contents.{live_of}
use Rattle.registry_tables.specs.Effects.{stored}
use Rattle.registry_tables.specs.Spelled.{document}
use Rattle.registry_tables.specs.Walks.{HasGoneOn, IsLeftAlone, documents_of, row_of_entry, rows_after, shown_by}

-- ---- the order

-- rows whose first ones are left out rise as before
rises_after : {K X : Type 0} (cmp : K → K → Ordering) (n : ℕ) (es : List (K × X)) → rises cmp es ≡ true → rises cmp (drop n es) ≡ true
rises_after cmp zero es up = up
rises_after cmp (suc n) [] up = refl
rises_after cmp (suc n) (e ∷ es) up = rises_after cmp n es (and_parts (below_all cmp e.0 es) _ up).1

pub rows_in_order : {S : Type 0} {store : Ghosts S} (rows : Rows S store) (p : Text) (n : ℕ) → IsInOrder (rows_after (shown_by store rows) p n)
rows_in_order {S} {store} rows p n =
    let s = shown_by store rows in
    let all : rises text_cmp (documents_of s p) ≡ true = rises_seen text_cmp document (of (live_of (stored s)) p) ∙ part_rises text_cmp (live_of (stored s)) p in
    ap (rises text_cmp) (map-map version_entry row_of_entry (drop n (documents_of s p)))
    ∙ rises_mapped text_cmp (λ (e : Text × (Text × Text)). version_entry (row_of_entry e)) (λ e. refl) (drop n (documents_of s p))
    ∙ rises_after text_cmp n (documents_of s p) all

-- ---- the connection

pub left_itself : (s : State) → IsLeftAlone s s
left_itself s = record {
  survives = record { clean = omega arith; shield = λ x. x; counts = omega arith; limit = refl; closes = λ _ on. inl on; crash = λ _ db left. inl left };
  idle = λ idle. idle;
  opened = λ _ on. on;
  committed = λ _ _. refl;
  same = λ _ _ _. refl;
}

pub left_then : (a b c : State) → IsLeftAlone a b → IsLeftAlone b c → IsLeftAlone a c
left_then a b c one two =
    let before : HasCleanDisk c → HasCleanDisk b = λ clean. omega (arith, two.survives.clean, clean) in
    record {
      survives = survives_then a b c _ _ _ (λ _ _ none. none) (λ _ _ none. none) one.survives two.survives;
      idle = λ idle. two.idle (one.idle idle);
      opened = λ clean on. one.opened (before clean) (two.opened clean on);
      committed = λ clean on. two.committed clean on ∙ one.committed (before clean) (two.opened clean on);
      same = λ clean on settled.
          let was = two.opened clean on in
          let first = one.same (before clean) was settled in
          two.same clean on (first ∙ settled ∙ sym (one.committed (before clean) was)) ∙ first;
    }

module _ {S : Type 0} {store : Ghosts S} where
  pub gone_nowhere : (rows : MutBor (Rows S store)) (stopped : Option Fault) → (stopped ≡ None → HasCleanDisk (shown_by store rows.now) → IsTrue (shown_by store rows.now).is_open) → HasGoneOn store rows rows stopped
  gone_nowhere rows stopped unshut = record { same_rows = refl; same_reference = refl; left = left_itself (shown_by store rows.now); unshut = unshut }

  pub gone_through : (a b c : MutBor (Rows S store)) (stop stopped : Option Fault) → HasGoneOn store a b stop → HasGoneOn store b c stopped → HasGoneOn store a c stopped
  gone_through a b c stop stopped one two = record {
    same_rows = two.same_rows ∙ one.same_rows;
    same_reference = two.same_reference ∙ one.same_reference;
    left = left_then (shown_by store a.now) (shown_by store b.now) (shown_by store c.now) one.left two.left;
    unshut = two.unshut;
  }
