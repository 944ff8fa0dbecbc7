-- What stays where nothing was done.
use Rattle.std.proofs.Common.{◌≡◌, ◌==◌, inl, false, true, List, [], ◌∷◌, IsTrue, length, arith, ne_eqb, refl}
use Rattle.sqlite_trees.specs.declared.store.Store.{Ghosts}
use Rattle.sqlite_value.specs.Order.{Row}
use Rattle.sqlite.specs.Held.{state}
use Rattle.sqlite.specs.State.{HasCleanDisk, KeepsCommit, Survives}
use Rattle.sqlite.specs.declared.transaction.Transaction.{Transaction}
use Rattle.registry_rows.specs.Frames.{Stays}

pub stays_here : {S : Type 0} (store : Ghosts S) (tx : Transaction S) → Stays store tx tx
stays_here store tx = record {
  same_reference = refl;
  committed = λ _. record { was_open = λ on. on; committed = λ on. refl };
  survives = record {
    clean = omega arith;
    shield = λ s. s;
    counts = omega arith;
    limit = refl;
    closes = λ _ on. inl on;
    crash = λ _ db left. inl left;
  };
}

-- a call that says of what was committed only where the transaction goes on, as it does
pub stays_going : {S : Type 0} (store : Ghosts S) (old new : Transaction S) → new.conn.ghost_name ≡ old.conn.ghost_name → (HasCleanDisk (state store old.conn.now) → IsTrue (state store old.conn.now).in_transaction)
    → (IsTrue (state store old.conn.now).in_transaction → HasCleanDisk (state store new.conn.now) → KeepsCommit (state store old.conn.now) (state store new.conn.now))
    → Survives (state store old.conn.now) (state store new.conn.now) (λ _. ⊥) → Stays store old new
stays_going store old new same going keeps survives = record {
  same_reference = same;
  committed = λ clean. keeps (going (omega (arith, survives.clean, clean))) clean;
  survives = survives;
}

-- a list without a row
pub no_more : (rows : List Row) → (length rows == 0) ≡ true → rows ≡ []
no_more [] none = refl
no_more (r ∷ rows) none = absurd (let some : (length (r ∷ rows) == 0) ≡ false = ne_eqb _ 0 (omega arith) in cc)
