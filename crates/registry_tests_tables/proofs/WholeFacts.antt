-- What calls leave of a transaction that goes on, with its tables in form.
use Rattle.std.proofs.Common.{◌≡◌, ℕ, List, Result, Ok, Err, OnOk, refl}
use Rattle.sqlite_value.specs.Order.{Row}
use Rattle.sqlite_trees.specs.declared.store.Store.{Ghosts}
use Rattle.sqlite.specs.State.{HasCleanDisk}
use Rattle.sqlite.specs.declared.transaction.Transaction.{Transaction}
use Rattle.registry_rows.specs.Frames.{Wrote}
use Rattle.registry_rows.specs.Ready.{Leaves}
use Rattle.registry_tables.specs.Contents.{Contents, contents}
use Rattle.registry_tables.specs.Effects.{InForm, shown, stored_in}
use Rattle.registry_tables.specs.Inside.{Finds, Holds, Makes}
use Rattle.registry_tables.specs.Schema.{schema}
use Rattle.registry_tables.proofs.InsideFacts.{holds_form, since_here, since_stays, went_on}
use Rattle.registry_tests_tables.specs.Resting.{IsWhole}

module _ {S : Type 0} (store : Ghosts S) where
  whole_of : (a : Transaction S) (c : Contents) → Holds store a c → IsWhole store a
  unfolding Holds
  whole_of a c h clean = let it = h clean in record { goes_on = it.goes_on; in_form = it.in_form; holds = refl }

  pub holds_leaves : (a : Transaction S) (c : Contents) → (HasCleanDisk (shown store a) → Leaves schema contents c (shown store a)) → IsWhole store a
  unfolding Holds
  holds_leaves a c left clean = let it = left clean in record { goes_on = it.mode; in_form = λ on. it.ready; holds = refl }

  module _ (a b : Transaction S) where
    pub finds_same : {R E : Type 0} {r : Result R E} {is_told : R → Contents → Type 0} → Finds store a b r is_told → IsWhole store a → b.conn.ghost_name ≡ a.conn.ghost_name
    finds_same it whole = (since_stays store a b (it.since a (stored_in store a) whole (since_here store a a))).same_reference

    pub makes_same : {R E : Type 0} {r : Result R E} {is_told : R → Contents → Type 0} {f : Contents → Contents} → Makes store a b r is_told f → IsWhole store a → b.conn.ghost_name ≡ a.conn.ghost_name
    makes_same it whole = (since_stays store a b (it.since a (stored_in store a) whole (since_here store a a))).same_reference

    pub finds_whole : {R E : Type 0} {x : R} {is_told : R → Contents → Type 0} → Finds {E = E} store a b (Ok x) is_told → IsWhole store a → IsWhole store b
    finds_whole it whole = whole_of b _ (it.holds (stored_in store a) whole)

    pub makes_whole : {R E : Type 0} {x : R} {is_told : R → Contents → Type 0} {f : Contents → Contents} → Makes {E = E} store a b (Ok x) is_told f → IsWhole store a → IsWhole store b
    makes_whole it whole = whole_of b _ (it.holds (stored_in store a) whole)

    -- a statement that leaves the tables in form
    pub write_whole : {R E : Type 0} (sql : List ℕ) (params : Row) (r : Result R E) → ((form : InForm store a) → Wrote sql params (shown store a) (shown store b) → InForm store b) → OnOk r (Wrote sql params (shown store a) (shown store b)) → IsWhole store a → OnOk r (IsWhole store b)
    unfolding Holds
    write_whole sql params (Ok x) leaves wrote whole = λ clean. record {
      goes_on = (wrote.1.runs clean (went_on store sql params a b wrote)).1.mode;
      in_form = leaves (λ now on. (whole now).in_form on) wrote clean;
      holds = refl;
    }
    write_whole sql params (Err e) leaves wrote whole = tt

    pub whole_form : IsWhole store a → InForm store a
    whole_form whole = holds_form store a b (stored_in store a) whole
