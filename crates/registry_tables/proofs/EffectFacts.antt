-- Calls inside a transaction, one after another.
use Rattle.registry_tables.proofs.Words.{◌∙◌, refl, Shown, HasCleanDisk, Ready, Reads, IsAsBefore, schema}
use Rattle.sqlite.proofs.InsideLemmas.{keeps_then}

-- a query, and then a call that changed nothing
pub reads_as_before : (a b c : Shown) → Reads schema a b → IsAsBefore b c → Reads schema a c
reads_as_before a b c one two = record {
  was_open = one.was_open;
  ready = two.ready one.ready;
  same = two.same ∙ one.same;
  mode = two.mode ∙ one.mode;
  committed = keeps_then a b c one.committed two.committed;
}

-- a call that changed nothing, and then a query
pub before_reads : (a b c : Shown) → IsAsBefore a b → Reads schema b c → Reads schema a c
before_reads a b c one two = record {
  was_open = one.committed.was_open two.was_open;
  ready = two.ready;
  same = two.same ∙ one.same;
  mode = two.mode ∙ one.mode;
  committed = keeps_then a b c one.committed two.committed;
}

-- the tables are in form after a call that changed nothing
pub form_after : (a b : Shown) → (HasCleanDisk b → HasCleanDisk a) → (HasCleanDisk b → IsAsBefore a b) → Ready schema a → Ready schema b
form_after a b clean it form now on = let same = it now in same.ready (form (clean now) (same.committed.was_open on))

-- two calls that changed nothing
pub before_then : (a b c : Shown) → IsAsBefore a b → IsAsBefore b c → IsAsBefore a c
before_then a b c one two = record {
  same = two.same ∙ one.same;
  ready = λ form. two.ready (one.ready form);
  mode = two.mode ∙ one.mode;
  committed = keeps_then a b c one.committed two.committed;
}

-- nothing changes by itself
pub as_it_was : (a : Shown) → IsAsBefore a a
as_it_was a = record { same = refl; ready = λ form. form; mode = refl; committed = record { was_open = λ on. on; committed = λ _. refl } }

-- a query changes nothing
pub reads_nothing_new : (a b : Shown) → Reads schema a b → IsAsBefore a b
reads_nothing_new a b one = record { same = one.same; ready = λ _. one.ready; mode = one.mode; committed = one.committed }
