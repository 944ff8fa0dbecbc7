-- What calls inside a transaction find, make and leave.
use Rattle.registry_tables.proofs.Words.{◌≡◌, ◌∙◌, inl, inr, ℕ, List, [], Result, Ok, Err, IfOk, OnOk, OnErr, Option, None, Some, IsTrue, arith, map, option_map, refl, sym, ap, subst, cases_Bool, map-id, option_map_id, IfOk-weaker}
use Rattle.registry_tables.proofs.Words.{Row, Ghosts, Transaction, Shown, Database, HasCleanDisk, ShowsRows, Stays, Wrote, Queried, Ready, IsReady, Reads, Leaves, query_answers, read_stays, stays_then, schema, Contents, contents, InForm, shown, stored, stored_in, IsQuery}
use Rattle.sqlite.specs.Clock.{timed}
use Rattle.sqlite.specs.State.{Shown as Showed}
use Rattle.sqlite.specs.declared.error.Error.{Error}
use Rattle.sqlite_schema.specs.declared.command.Returning.{Returning}
use Rattle.registry_rows.specs.Statements.{MeansQuery}
use Rattle.sqlite.specs.Command.TheVariants.{Select}
use Rattle.sqlite_sql.specs.Query.{Query}
use Rattle.registry_tables.specs.Inside.{Finds, HasInside, Holds, IsClean, IsOpen, Knows, Makes, MayMake, Sees, Since}
use Rattle.registry_tables.specs.Queries.{HasShown}

-- a text that means a SELECT is a query
pub is_query : {sql : List ℕ} {q : Query} {names : List (List ℕ)} → MeansQuery schema sql (Select (record { lets = []; body = q }) names) → IsQuery sql
is_query {q = q} {names = names} means = record { query = q; names = names; means = means }

-- what holds in any case
pub on_any : {R E P : Type 0} (r : Result R E) → P → OnOk r P
on_any (Ok x) h = h
on_any (Err e) h = tt

-- ---- where a transaction begins, and ends

module _ {S : Type 0} (store : Ghosts S) (a b : Transaction S) where
  pub since_here : Since store a a
  unfolding Since
  since_here = record {
    same_reference = refl;
    committed = λ clean. record { was_open = λ on. on; committed = λ on. refl };
    survives = record { clean = omega arith; shield = λ h. h; counts = omega arith; limit = refl; closes = λ clean on. inl on; crash = λ clean db may. inl may };
  }

  pub since_stays : Since store a b → Stays store a b
  unfolding Since
  since_stays since = since

  pub holds_here : InForm store a → (HasCleanDisk (shown store a) → IsTrue (shown store a).in_transaction) → Holds store a (stored_in store a)
  unfolding Holds
  holds_here form begun clean = record { goes_on = begun clean; in_form = form clean; holds = refl }

  pub holds_inside : (c : Contents) → Holds store a c → HasCleanDisk (shown store a) → HasInside (shown store a) c
  unfolding Holds
  holds_inside c h = h

  pub holds_form : (c : Contents) → Holds store a c → InForm store a
  unfolding Holds
  holds_form c h clean = (h clean).in_form

  pub sees_here : Sees store a (shown store a).now
  unfolding Sees
  sees_here clean = refl

  pub seen_same : (db : Database) → Sees store a db → HasCleanDisk (shown store a) → (shown store a).now ≡ db
  unfolding Sees
  seen_same db see = see

  pub open_inside : IsOpen store a → HasCleanDisk (shown store a) → IsTrue (shown store a).is_open
  unfolding IsOpen
  open_inside on = on

  pub is_clean : HasCleanDisk (shown store a) → IsClean store a
  unfolding IsClean
  is_clean clean = clean

  pub has_clean : IsClean store a → HasCleanDisk (shown store a)
  unfolding IsClean
  has_clean clean = clean

-- ---- a query

open_after : (sql : List ℕ) (params : Row) (old new : Shown) (rows : List Row) → Showed sql params old new rows → IsTrue new.is_open
unfolding Showed
open_after sql params old new rows h = go h.0.returning h.2
  where
    go : (o : Option Returning) → ShowsRows old new sql h.0 (timed params h.0.formats h.1.now) rows o → IsTrue new.is_open
    go None k = k.3.0.is_open
    go (Some what) k = k.1.shown.is_open

module _ {S : Type 0} (store : Ghosts S) (sql : List ℕ) (params : Row) (a b : Transaction S) (rows : List Row) (query : IsQuery sql) (call : Queried sql params (shown store a) (shown store b) rows) where
  were : HasCleanDisk (shown store b) → HasCleanDisk (shown store a)
  were clean = omega (arith, call.survives.clean, clean)

  reads : InForm store a → HasCleanDisk (shown store b) → Reads schema (shown store a) (shown store b)
  reads form clean = (query_answers schema sql query.query query.names query.means params (shown store a) (shown store b) rows (form (were clean)) (call.shown clean)).0

-- an answered one leaves the connection open
pub open_queried : {S : Type 0} (store : Ghosts S) (sql : List ℕ) (params : Row) (a b : Transaction S) (rows : List Row) → Queried sql params (shown store a) (shown store b) rows → IsOpen store b
unfolding IsOpen
open_queried store sql params a b rows call clean = open_after sql params (shown store a) (shown store b) rows (call.shown clean)

-- what it shows, or that it failed
pub query_finds : {S R E : Type 0} (store : Ghosts S) (sql : List ℕ) (params : Row) (a b : Transaction S) (items : R → List Row) (r : Result R E) → IsQuery sql → b.conn.ghost_name ≡ a.conn.ghost_name
    → IfOk r (λ rows. Queried sql params (shown store a) (shown store b) (items rows)) → OnErr r (Stays store a b)
    → Finds store a b r (λ rows c. HasShown sql params (shown store a) (shown store b) c (items rows))
unfolding Since Holds IsClean IsOpen Sees
query_finds store sql params a b items (Ok rows) query same call failed = record {
  since = λ start c h since. stays_then store start a b since (read_stays store sql params schema a b (items rows) same call (reads store sql params a b (items rows) query call (λ now. (h now).in_form)));
  clean = were store sql params a b (items rows) query call;
  ran = λ clean. open_after sql params (shown store a) (shown store b) (items rows) (call.shown clean);
  holds = λ c h clean.
      let was = h (were store sql params a b (items rows) query call clean) in
      let read = reads store sql params a b (items rows) query call (λ now. (h now).in_form) clean in
      record { goes_on = read.mode ∙ was.goes_on; in_form = λ _. read.ready; holds = ap (λ (d : Database). contents d.trees) read.same ∙ was.holds };
  sees = λ c db h see clean. (reads store sql params a b (items rows) query call (λ now. (h now).in_form) clean).same ∙ see (were store sql params a b (items rows) query call clean);
  told = λ c h clean. record { holds = (h (were store sql params a b (items rows) query call clean)).holds; form = λ now. (h now).in_form; call = call; clean = clean };
}
query_finds store sql params a b items (Err e) query same call failed = record {
  since = λ start c h since. stays_then store start a b since failed;
  clean = λ clean. omega (arith, failed.survives.clean, clean);
  ran = tt;
  holds = λ c h. tt;
  sees = λ c db h see. tt;
  told = λ c h clean. tt;
}

module _ {S R E : Type 0} (store : Ghosts S) (a b : Transaction S) (r : Result R E) {is_told : R → Contents → Type 0} where
  -- what an answer told tells more
  pub finds_so : {also : R → Contents → Type 0} → ((c : Contents) (x : R) → is_told x c → also x c) → Finds store a b r is_told → Finds store a b r also
  finds_so so it = record { since = it.since; clean = it.clean; ran = it.ran; holds = it.holds; sees = it.sees; told = λ c h clean. IfOk-weaker r _ _ (so c) (it.told c h clean) }

  pub knows_so : {also : R → Contents → Type 0} → ((c : Contents) (x : R) → is_told x c → also x c) → Knows store a b r is_told → Knows store a b r also
  knows_so so it = record { since = it.since; clean = it.clean; ran = it.ran; holds = it.holds; sees = it.sees; told = λ c h clean. IfOk-weaker r _ _ (so c) (it.told c h clean) }

  -- a found answer may need no statement
  pub finds_knows : Finds store a b r is_told → Knows store a b r is_told
  finds_knows it = record { since = it.since; clean = it.clean; ran = λ on. it.ran; holds = it.holds; sees = it.sees; told = it.told }

-- an answer that is made of a found one
pub finds_of : {S R Q E : Type 0} (store : Ghosts S) (a b : Transaction S) (x : R) (r : Result Q E) {is_told : R → Contents → Type 0} {also : Q → Contents → Type 0}
    → Finds {E = E} store a b (Ok x) is_told → ((c : Contents) → is_told x c → IfOk r (λ y. also y c)) → Finds store a b r also
finds_of store a b x r it so = record {
  since = it.since;
  clean = it.clean;
  ran = on_any r it.ran;
  holds = λ c h. on_any r (it.holds c h);
  sees = λ c db h see. on_any r (it.sees c db h see);
  told = λ c h clean. so c (it.told c h clean);
}

-- an error before any statement
pub finds_none : {S R E : Type 0} (store : Ghosts S) (a : Transaction S) (e : E) {is_told : R → Contents → Type 0} → Finds store a a (Err e) is_told
finds_none store a e = record { since = λ start c h since. since; clean = λ clean. clean; ran = tt; holds = λ c h. tt; sees = λ c db h see. tt; told = λ c h clean. tt }

-- one answer after another
pub found_and : {S R Q E : Type 0} (store : Ghosts S) (a b d : Transaction S) (x : R) (r : Result Q E) {is_told : R → Contents → Type 0} {also : Q → Contents → Type 0}
    → Finds {E = E} store a b (Ok x) is_told → Knows store b d r also → Finds store a d r (λ y c. is_told x c × also y c)
found_and store a b d x r one two = record {
  since = λ start c h since. two.since start c (one.holds c h) (one.since start c h since);
  clean = λ clean. one.clean (two.clean clean);
  ran = two.ran one.ran;
  holds = λ c h. two.holds c (one.holds c h);
  sees = λ c db h see. two.sees c db (one.holds c h) (one.sees c db h see);
  told = λ c h clean. IfOk-weaker r _ _ (λ y so. (one.told c h (two.clean clean), so)) (two.told c (one.holds c h) clean);
}

-- nothing changes by itself
pub knows_here : {S R E : Type 0} (store : Ghosts S) (a : Transaction S) (x : R) {is_told : R → Contents → Type 0} → ((c : Contents) → is_told x c) → Knows {E = E} store a a (Ok x) is_told
knows_here store a x so = record { since = λ start c h since. since; clean = λ clean. clean; ran = λ on. on; holds = λ c h. h; sees = λ c db h see. see; told = λ c h clean. so c }

-- what is so of tables in form is so of what was found in them
pub found_sound : {S R E : Type 0} (store : Ghosts S) (a b : Transaction S) (x : R) {is_told : R → Contents → Type 0} (is_so : Contents → Type 0) → ((s : Shown) → IsReady schema s → is_so (stored s))
    → Finds {E = E} store a b (Ok x) is_told → Finds {E = E} store a b (Ok x) (λ x c. is_so c × is_told x c)
unfolding Holds IsClean IsOpen
found_sound store a b x is_so law it = record {
  since = it.since;
  clean = it.clean;
  ran = it.ran;
  holds = it.holds;
  sees = it.sees;
  told = λ c h clean.
      let has = it.holds c h clean in
      (subst is_so has.holds (law (shown store b) (has.in_form (it.ran clean))), it.told c h clean);
}

-- ---- a loop

-- what is so up to a turn of it
abbrev pub Keeps : {S : Type 0} → Ghosts S → Transaction S → Transaction S → (Contents → Type 0) → Type 0
Keeps store a b is_so = Knows {R = Unit {0}} {E = Unit {0}} store a b (Ok tt) (λ _. is_so)

-- one turn more
pub keeps_and : {S R E : Type 0} (store : Ghosts S) (a b d : Transaction S) (x : R) {was is_so : Contents → Type 0} {is_told : R → Contents → Type 0}
    → Keeps store a b was → Knows {E = E} store b d (Ok x) is_told → ((c : Contents) → was c → is_told x c → is_so c) → Keeps store a d is_so
keeps_and store a b d x kept it so = record {
  since = λ start c h since. it.since start c (kept.holds c h) (kept.since start c h since);
  clean = λ clean. kept.clean (it.clean clean);
  ran = λ on. it.ran (kept.ran on);
  holds = λ c h. it.holds c (kept.holds c h);
  sees = λ c db h see. it.sees c db (kept.holds c h) (kept.sees c db h see);
  told = λ c h clean. so c (kept.told c h (it.clean clean)) (it.told c (kept.holds c h) clean);
}

-- what rows show of what is stored
pub shown_of : {X : Type 0} (sql : List ℕ) (params : Row) (old new : Shown) (read : List Row → X) (is : Contents → X)
    → ((rows : List Row) → Ready schema old → Queried sql params old new rows → HasCleanDisk new → Reads schema old new × (read rows ≡ is (stored old)))
    → (c : Contents) (rows : List Row) → HasShown sql params old new c rows → read rows ≡ is c
shown_of sql params old new read is shows c rows it = (shows rows it.form it.call it.clean).1 ∙ ap is it.holds

-- values that are seen as they are
pub found_as_is : {S X E : Type 0} (store : Ghosts S) (a b : Transaction S) (r : Result (Option X) E) {first : Contents → Option X} → Finds store a b r (λ found c. option_map (λ x. x) found ≡ first c) → Finds store a b r (λ found c. found ≡ first c)
found_as_is store a b r it = finds_so store a b r (λ c found is. sym (option_map_id found) ∙ is) it

pub listed_as_is : {S X R E : Type 0} (store : Ghosts S) (a b : Transaction S) (items : R → List X) (r : Result R E) {all : Contents → List X} → Finds store a b r (λ values c. map (λ x. x) (items values) ≡ all c) → Finds store a b r (λ values c. items values ≡ all c)
listed_as_is store a b items r it = finds_so store a b r (λ c values is. sym (map-id (items values)) ∙ is) it

-- ---- a statement that writes

module _ {S : Type 0} (store : Ghosts S) (a b : Transaction S) (stays : Stays store a b) where
  pub since_after : (start : Transaction S) → Since store start a → Since store start b
  unfolding Since
  since_after start since = stays_then store start a b since stays

  pub clean_before : IsClean store b → IsClean store a
  unfolding IsClean
  clean_before clean = omega (arith, stays.survives.clean, clean)

module _ {S : Type 0} (store : Ghosts S) (sql : List ℕ) (params : Row) (a b : Transaction S) (wrote : Wrote sql params (shown store a) (shown store b)) where
  pub went_on : IsTrue (shown store a).in_transaction
  went_on = elim (cases_Bool (shown store a).in_transaction) [ inl on ↦ on | inr off ↦ let refused = wrote.1.ended off in let none : ◌≡◌ {A = Result ℕ Error} (Ok wrote.0) (Err refused.0) = refused.1 in absurd cc ]

  still_open : HasCleanDisk (shown store b) → IsTrue (shown store b).is_open
  still_open clean = (wrote.1.runs clean went_on).1.is_open

-- what it asks, and what it makes
pub write_makes : {S R E : Type 0} (store : Ghosts S) (sql : List ℕ) (params : Row) (a b : Transaction S) (r : Result R E) {asks : Contents → Type 0} {f : Contents → Contents} → Stays store a b
    → OnOk r (Wrote sql params (shown store a) (shown store b))
    → (InForm store a → Wrote sql params (shown store a) (shown store b) → HasCleanDisk (shown store b) → asks (stored_in store a) × Leaves schema contents (f (stored_in store a)) (shown store b))
    → Makes store a b r (λ _. asks) f
unfolding Since Holds IsClean IsOpen
write_makes store sql params a b (Ok x) {asks} {f} stays wrote law = record {
  since = λ start c h since. stays_then store start a b since stays;
  clean = λ clean. omega (arith, stays.survives.clean, clean);
  ran = λ clean. still_open store sql params a b wrote clean;
  holds = λ c h clean.
      let left = (law (λ now. (h now).in_form) wrote clean).1 in
      record { goes_on = left.mode; in_form = λ _. left.ready; holds = left.holds ∙ ap f (h (omega (arith, stays.survives.clean, clean))).holds };
  told = λ c h clean. subst asks (h (omega (arith, stays.survives.clean, clean))).holds (law (λ now. (h now).in_form) wrote clean).0;
}
write_makes store sql params a b (Err e) stays wrote law = record {
  since = λ start c h since. stays_then store start a b since stays;
  clean = λ clean. omega (arith, stays.survives.clean, clean);
  ran = tt;
  holds = λ c h. tt;
  told = λ c h clean. tt;
}

-- ---- what is so of a call in a transaction that goes on

module _ {S R E : Type 0} (store : Ghosts S) (a b : Transaction S) (r : Result R E) {is_told : R → Contents → Type 0} where
  -- a call that surely runs a statement is one that may
  pub makes_may : {f : Contents → Contents} → Makes store a b r is_told f → MayMake store a b r is_told f
  makes_may it = record { since = it.since; clean = it.clean; ran = λ on. it.ran; holds = it.holds; told = it.told }

  module _ (form : InForm store a) (begun : HasCleanDisk (shown store a) → IsTrue (shown store a).in_transaction) where
    -- it commits nothing
    pub finds_stays : Finds store a b r is_told → Stays store a b
    finds_stays it = since_stays store a b (it.since a (stored_in store a) (holds_here store a a form begun) (since_here store a a))

    -- an answer changes nothing
    pub finds_reads : Finds store a b r is_told → HasCleanDisk (shown store b) → IfOk r (λ x. Reads schema (shown store a) (shown store b) × is_told x (stored_in store a))
    unfolding IsClean Holds IsOpen Sees
    finds_reads it clean =
        let here : Holds store a (stored_in store a) = λ now. record { goes_on = begun now; in_form = form now; holds = refl } in
        reads_of r it.ran (it.holds (stored_in store a) here) (it.sees (stored_in store a) (shown store a).now here (λ now. refl)) (it.told (stored_in store a) here clean)
      where
        stays : Stays store a b
        stays = finds_stays it

        reads_of : (r : Result R E) → OnOk r (IsOpen store b) → OnOk r (Holds store b (stored_in store a)) → OnOk r (Sees store b (shown store a).now) → IfOk r (λ x. is_told x (stored_in store a)) → IfOk r (λ x. Reads schema (shown store a) (shown store b) × is_told x (stored_in store a))
        reads_of (Ok x) ran holds sees told = (
          record {
            was_open = (stays.committed clean).was_open (ran clean);
            ready = (holds clean).in_form (ran clean);
            same = sees clean;
            mode = (holds clean).goes_on ∙ sym (begun (it.clean clean));
            committed = stays.committed clean;
          },
          told,
        )
        reads_of (Err e) ran holds sees told = tt

-- a transaction of which it is known that it goes on, on an open connection, with its tables in form
pub record IsKnown {S : Type 0} (store : Ghosts S) (a : Transaction S) : Type 0 where
  pub form : InForm store a
  pub going : HasCleanDisk (shown store a) → IsTrue (shown store a).in_transaction
  pub on : IsOpen store a

-- what a call that writes gives there
pub record IsGiven {S R E : Type 0} (store : Ghosts S) (a b : Transaction S) (r : Result R E) (is_told : R → Contents → Type 0) (f : Contents → Contents) : Type 0 where
  pub stays : Stays store a b
  pub makes : HasCleanDisk (shown store b) → OnOk r (Leaves schema contents (f (stored_in store a)) (shown store b))
  pub told : HasCleanDisk (shown store b) → IfOk r (λ x. is_told x (stored_in store a))

left_by : {S R E : Type 0} (store : Ghosts S) (b : Transaction S) (c : Contents) (r : Result R E) → OnOk r (IsOpen store b) → OnOk r (Holds store b c) → HasCleanDisk (shown store b) → OnOk r (Leaves schema contents c (shown store b))
unfolding Holds IsOpen
left_by store b c (Ok x) ran holds clean = record { holds = (holds clean).holds; ready = (holds clean).in_form (ran clean); mode = (holds clean).goes_on }
left_by store b c (Err e) ran holds clean = tt

pub given_by : {S R E : Type 0} (store : Ghosts S) (a b : Transaction S) (r : Result R E) {is_told : R → Contents → Type 0} {f : Contents → Contents} → IsKnown store a → MayMake store a b r is_told f → IsGiven store a b r is_told f
given_by store a b r {f = f} known it =
    let here = holds_here store a a known.form known.going in
    record {
      stays = since_stays store a b (it.since a (stored_in store a) here (since_here store a a));
      makes = left_by store b (f (stored_in store a)) r (it.ran known.on) (it.holds (stored_in store a) here);
      told = λ clean. it.told (stored_in store a) here (is_clean store b b clean);
    }

-- after one that did
pub known_after : {S R E : Type 0} (store : Ghosts S) (a b : Transaction S) (x : R) {is_told : R → Contents → Type 0} {f : Contents → Contents} → IsOpen store b → IsGiven {E = E} store a b (Ok x) is_told f → IsKnown store b
known_after store a b x on it = record { form = λ clean _. (it.makes clean).ready; going = λ clean. (it.makes clean).mode; on = on }

-- after a query
pub known_read : {S : Type 0} (store : Ghosts S) (a b : Transaction S) → Stays store a b → (HasCleanDisk (shown store b) → Reads schema (shown store a) (shown store b)) → (HasCleanDisk (shown store a) → IsTrue (shown store a).in_transaction) → IsOpen store b → IsKnown store b
known_read store a b stays reads going on = record { form = λ clean _. (reads clean).ready; going = λ clean. (reads clean).mode ∙ going (omega (arith, stays.survives.clean, clean)); on = on }
