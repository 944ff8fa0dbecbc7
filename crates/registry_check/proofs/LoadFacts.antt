-- One look-up after another loads of what was stored at first.
use Rattle.std.proofs.Common.{◌≡◌, ◌∙◌, ℕ, List, [], arith, map, refl, inl, inr, false, true, subst, sym, true≢false}
use Rattle.sqlite_value.specs.Order.{Row}
use Rattle.sqlite_trees.specs.Tree.{Trees}
use Rattle.sqlite_trees.specs.declared.store.Store.{Ghosts}
use Rattle.sqlite.specs.Effect.{Database}
use Rattle.sqlite.specs.State.{State as Shown, HasCleanDisk}
use Rattle.sqlite.specs.declared.transaction.Transaction.{Transaction}
use Rattle.registry_rows.specs.Frames.{Stays}
use Rattle.registry_rows.specs.Ready.{Queried, Reads, Ready}
use Rattle.registry_rows.proofs.QuietFacts.{read_stays, reads_then, stays_then}
use Rattle.registry_tables.specs.Contents.{contents}
use Rattle.registry_tables.specs.Effects.{shown}
use Rattle.registry_tables.specs.Schema.{schema}
use Rattle.registry_check.specs.Counter.{counter_entry, counter_in}
use Rattle.registry_check.specs.Loaded.{AreAccounts, AreGrades, AreGroups, AreMarks, ArePackages, AreTables, AreTimes, AreVersions, Finds}
use Rattle.registry_check.specs.declared.counter.Counter.{Counter}
use Rattle.registry_check.specs.declared.tables.Accounts.{Accounts}
use Rattle.registry_check.specs.declared.tables.Groups.{Groups}
use Rattle.registry_check.specs.declared.tables.Grades.{Grades}
use Rattle.registry_check.specs.declared.tables.Marks.{Marks}
use Rattle.registry_check.specs.declared.tables.Packages.{Packages}
use Rattle.registry_check.specs.declared.tables.Times.{Times}
use Rattle.registry_check.specs.declared.tables.Versions.{Versions}

pub then_told : (a b c : Shown) (P : Trees → Type 0) → Reads schema a b → Reads schema b c × P b.now.trees → Reads schema a c × P a.now.trees
then_told a b c P one two = (reads_then schema a b c one two.0, subst (λ (d : Database). P d.trees) one.same two.1)

module _ {S : Type 0} (store : Ghosts S) where
  -- a transaction stays by itself
  pub stays_here : (tx : Transaction S) → Stays store tx tx
  stays_here tx = record {
    same_reference = refl;
    committed = λ _. record { was_open = λ on. on; committed = λ on. refl };
    survives = record {
      clean = omega arith;
      shield = λ s. s;
      counts = omega arith;
      limit = refl;
      closes = λ _ on. inl on;
      crash = λ _ db left. inl left;
    };
  }

  -- a call stays, and where the disk is clean, it read the tables and told this of them
  pub record Told (a b : Transaction S) (told : Trees → Type 0) : Type 0 where
    pub stays : Stays store a b
    pub reads : HasCleanDisk (shown store b) → Reads schema (shown store a) (shown store b) × told (shown store a).now.trees

  -- the tables are in form for the next call
  pub still : (a b : Transaction S) (P : Trees → Type 0) → Told a b P → Ready schema (shown store b)
  still a b P one clean up = (one.reads clean).0.ready

  -- one call after another
  pub next : (a b c : Transaction S) (P Q : Trees → Type 0) → Told a b P → Told b c Q → Told a c (λ d. P d × Q d)
  next a b c P Q one two = record {
    stays = stays_then store a b c one.stays two.stays;
    reads = λ clean.
        let before : HasCleanDisk (shown store b) = omega (arith, two.stays.survives.clean, clean) in
        let first = one.reads before in
        let second = then_told (shown store a) (shown store b) (shown store c) Q first.0 (two.reads clean) in
        (second.0, (first.1, second.1));
  }

  module _ {Seen : Type 0} {sql : List ℕ} (spelled : Row → Seen) (all : Trees → List Seen)
      (listed : (old new : Shown) (rows : List Row) → Ready schema old → Queried sql [] old new rows → HasCleanDisk new → Reads schema old new × (map spelled rows ≡ all old.now.trees)) where
    -- a query, whatever came of it
    pub left : (a b : Transaction S) {P : List Row → Type 0} {failed : Type 0} → Ready schema (shown store a) → b.conn.ghost_name ≡ a.conn.ghost_name → Finds store sql a b P failed → Stays store a b
    left a b ready same (inl it) = read_stays store sql [] schema a b it.0 same it.1.0 (λ clean. (listed (shown store a) (shown store b) it.0 ready it.1.0 clean).0)
    left a b ready same (inr it) = it.0

    -- a query that was answered with these
    pub answered : (a b : Transaction S) (items : List Seen) → Ready schema (shown store a) → b.conn.ghost_name ≡ a.conn.ghost_name → Finds store sql a b (λ rows. items ≡ map spelled rows) (false ≡ true)
        → Told a b (λ c. items ≡ all c)
    answered a b items ready same (inl it) = record {
      stays = left a b {P = λ rows. items ≡ map spelled rows} {failed = false ≡ true} ready same (inl it);
      reads = λ clean.
          let read = listed (shown store a) (shown store b) it.0 ready it.1.0 clean in
          (read.0, it.1.1 ∙ read.1);
    }
    answered a b items ready same (inr it) = absurd (true≢false (sym it.1))

-- the rows of all tables
pub all_tables : (a : Accounts) (g : Groups) (p : Packages) (v : Versions) (m : Marks) (r : Grades) (t : Times) (n : Counter) (db : Trees)
    → AreAccounts a (contents db) → AreGroups g (contents db) → ArePackages p (contents db) → AreVersions v (contents db) → AreMarks m (contents db) → AreGrades r db → AreTimes t db → counter_entry n ≡ counter_in (contents db)
    → AreTables (record { accounts = a; groups = g; packages = p; versions = v; marks = m; grades = r; times = t; counter = n }) db
all_tables a g p v m r t n db accounts groups packages versions marks grades times counter = λ i. record {
  users = accounts.users i;
  tokens = accounts.tokens i;
  organisations = accounts.organisations i;
  members = groups.members i;
  teams = groups.teams i;
  team_members = groups.team_members i;
  packages = packages.published i;
  grants = packages.grants i;
  maintainers = packages.maintainers i;
  live = versions.live i;
  needs = versions.needs i;
  held = versions.held i;
  archives = versions.archives i;
  tags = marks.tags i;
  targets = marks.targets i;
  roles = grades.roles i;
  statuses = grades.statuses i;
  levels = grades.levels i;
  moments = times.moments i;
  spent = times.spent i;
  counter = counter i;
}
