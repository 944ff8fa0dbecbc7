-- What calls inside a transaction find and make, one after another, and what that is of its
-- connection.
use Rattle.registry_desk.proofs.Words.{◌≡◌, ◌<◌, ◌+◌, ℕ, List, length, map, take, get_or, Result, Ok, Err, IfOk, IsTrue, true, refl, sym, subst, Ghosts, HasCleanDisk, Shown, Stays, IsReady, Leaves, Ready}
use Rattle.registry_desk.proofs.Words.{Contents, contents, InForm, shown, stored, stored_in, schema, change_of, stored_by, HasNumbersInRange, HeldAreStored, held_stored, Request, Reply, Caches, Held, state}
use Rattle.sqlite.specs.declared.transaction.Transaction.{Transaction}
use Rattle.registry_rules.specs.declared.change.Change as declared
use Rattle.registry_tables.specs.Changes.{Asks}
use Rattle.registry_tables.specs.Inside.{Finds, Holds, IsClean, IsOpen, Knows, Makes}
use Rattle.registry_tables.specs.Ranges.{HasMoments}
use Rattle.registry_tables.proofs.InsideFacts.{holds_here, since_here, since_stays}
use Rattle.registry_tables.proofs.RangeFacts.{change_in_range}
use Rattle.registry_desk.specs.Answering.{AreMade, Does, IsAnswered}
use Rattle.registry_desk.proofs.CommitFacts.{begun_in_form}
use Rattle.registry_desk.proofs.MakingFacts.{changes_next}

-- ---- what is stored

-- what is so of tables in form is so of what they hold
pub so_inside : {S : Type 0} (store : Ghosts S) (tx : Transaction S) (c : Contents) (Q : Contents → Type 0) → ((s : Shown) → IsReady schema s → Q (stored s)) → IsClean store tx → IsOpen store tx → Holds store tx c → Q c
unfolding IsClean IsOpen Holds
so_inside store tx c Q so clean on holds = let it = holds clean in subst Q it.holds (so (shown store tx) (it.in_form (on clean)))

-- ---- what is made of answers

module _ {S A B E F : Type 0} {store : Ghosts S} {old new : Transaction S} {x : A} {P : A → Contents → Type 0} where
  -- of what was found
  pub found : {y : B} {Q : B → Contents → Type 0} → Finds {R = A} {E = E} store old new (Ok x) P → ((c : Contents) → P x c → Q y c) → Finds {R = B} {E = F} store old new (Ok y) Q
  found one so = record { since = one.since; clean = one.clean; ran = one.ran; holds = one.holds; sees = one.sees; told = λ c h now. so c (one.told c h now) }

  -- where something else is made of it, or fails
  pub found_of : (r : Result B F) {Q : B → Contents → Type 0} → Finds {R = A} {E = E} store old new (Ok x) P → ((c : Contents) → P x c → IfOk r (λ y. Q y c)) → Finds store old new r Q
  found_of (Ok y) one so = record { since = one.since; clean = one.clean; ran = one.ran; holds = one.holds; sees = one.sees; told = λ c h now. so c (one.told c h now) }
  found_of (Err e) one so = record { since = one.since; clean = one.clean; ran = tt; holds = λ _ _. tt; sees = λ _ _ _ _. tt; told = λ _ _ _. tt }

  -- of what is known
  pub known : {y : B} {Q : B → Contents → Type 0} → Knows {R = A} {E = E} store old new (Ok x) P → ((c : Contents) → P x c → Q y c) → Knows {R = B} {E = F} store old new (Ok y) Q
  known one so = record { since = one.since; clean = one.clean; ran = one.ran; holds = one.holds; sees = one.sees; told = λ c h now. so c (one.told c h now) }

  -- what was found is known
  pub found_is_known : {y : B} {Q : B → Contents → Type 0} → Finds {R = A} {E = E} store old new (Ok x) P → ((c : Contents) → P x c → Q y c) → Knows {R = B} {E = F} store old new (Ok y) Q
  found_is_known one so = record { since = one.since; clean = one.clean; ran = λ _. one.ran; holds = one.holds; sees = one.sees; told = λ c h now. so c (one.told c h now) }

  -- where a statement ran
  pub known_ran : {y : B} {Q : B → Contents → Type 0} → Knows {R = A} {E = E} store old new (Ok x) P → IsOpen store new → ((c : Contents) → P x c → Q y c) → Finds {R = B} {E = F} store old new (Ok y) Q
  known_ran one on so = record { since = one.since; clean = one.clean; ran = on; holds = one.holds; sees = one.sees; told = λ c h now. so c (one.told c h now) }

  -- where something else is made of it, or fails
  pub known_of : (r : Result B F) {Q : B → Contents → Type 0} → Knows {R = A} {E = E} store old new (Ok x) P → ((c : Contents) → P x c → IfOk r (λ y. Q y c)) → Knows store old new r Q
  known_of (Ok y) one so = record { since = one.since; clean = one.clean; ran = one.ran; holds = one.holds; sees = one.sees; told = λ c h now. so c (one.told c h now) }
  known_of (Err e) one so = record { since = one.since; clean = one.clean; ran = λ _. tt; holds = λ _ _. tt; sees = λ _ _ _ _. tt; told = λ _ _ _. tt }

  -- it changes nothing
  pub known_does : {y : B} {Q : B → Contents → Contents → Type 0} → Knows {R = A} {E = E} store old new (Ok x) P → ((c : Contents) → P x c → Q y c c) → Does {R = B} {E = F} store old new (Ok y) Q
  known_does one so = record { since = one.since; clean = one.clean; ran = one.ran; done = λ c h. record { left = c; holds = one.holds c h; is = λ now. so c (one.told c h now) } }

  -- nor does what was found, of which each archive that is held is stored
  pub found_does : {y : B} {Q : B → Contents → Contents → Type 0} → Finds {R = A} {E = E} store old new (Ok x) P → ((c : Contents) → HeldAreStored c → P x c → Q y c c) → Does {R = B} {E = F} store old new (Ok y) Q
  found_does one so = record {
    since = one.since;
    clean = one.clean;
    ran = λ _. one.ran;
    done = λ c h. record { left = c; holds = one.holds c h; is = λ now. so c (so_inside store new c HeldAreStored held_stored now one.ran (one.holds c h)) (one.told c h now) };
  }

module _ {S A E : Type 0} {store : Ghosts S} {old new : Transaction S} {P : A → Contents → Type 0} where
  -- what is known says more
  pub knows_so : (r : Result A E) {Q : A → Contents → Type 0} → Knows store old new r P → ((x : A) (c : Contents) → P x c → Q x c) → Knows store old new r Q
  knows_so (Ok x) one so = known one (so x)
  knows_so (Err e) one so = record { since = one.since; clean = one.clean; ran = λ _. tt; holds = λ _ _. tt; sees = λ _ _ _ _. tt; told = λ _ _ _. tt }

  -- what was found says more
  pub finds_so : (r : Result A E) {Q : A → Contents → Type 0} → Finds store old new r P → ((x : A) (c : Contents) → P x c → Q x c) → Finds store old new r Q
  finds_so (Ok x) one so = found one (so x)
  finds_so (Err e) one so = record { since = one.since; clean = one.clean; ran = tt; holds = λ _ _. tt; sees = λ _ _ _ _. tt; told = λ _ _ _. tt }

-- ---- one answer after another

module _ {S A B E F : Type 0} {store : Ghosts S} {old mid new : Transaction S} {x : A} {y : B} {P : A → Contents → Type 0} {Q : B → Contents → Type 0} where
  pub both : Finds {R = A} {E = E} store old mid (Ok x) P → Finds {R = B} {E = F} store mid new (Ok y) Q → Finds {R = B} {E = F} store old new (Ok y) (λ _ c. P x c × Q y c)
  both one two = record {
    since = λ start c h s. two.since start c (one.holds c h) (one.since start c h s);
    clean = λ now. one.clean (two.clean now);
    ran = two.ran;
    holds = λ c h. two.holds c (one.holds c h);
    sees = λ c db h see. two.sees c db (one.holds c h) (one.sees c db h see);
    told = λ c h now. (one.told c h (two.clean now), two.told c (one.holds c h) now);
  }

  pub found_known : Finds {R = A} {E = E} store old mid (Ok x) P → Knows {R = B} {E = F} store mid new (Ok y) Q → Finds {R = B} {E = F} store old new (Ok y) (λ _ c. P x c × Q y c)
  found_known one two = record {
    since = λ start c h s. two.since start c (one.holds c h) (one.since start c h s);
    clean = λ now. one.clean (two.clean now);
    ran = two.ran one.ran;
    holds = λ c h. two.holds c (one.holds c h);
    sees = λ c db h see. two.sees c db (one.holds c h) (one.sees c db h see);
    told = λ c h now. (one.told c h (two.clean now), two.told c (one.holds c h) now);
  }

  pub known_found : Knows {R = A} {E = E} store old mid (Ok x) P → Finds {R = B} {E = F} store mid new (Ok y) Q → Finds {R = B} {E = F} store old new (Ok y) (λ _ c. P x c × Q y c)
  known_found one two = record {
    since = λ start c h s. two.since start c (one.holds c h) (one.since start c h s);
    clean = λ now. one.clean (two.clean now);
    ran = two.ran;
    holds = λ c h. two.holds c (one.holds c h);
    sees = λ c db h see. two.sees c db (one.holds c h) (one.sees c db h see);
    told = λ c h now. (one.told c h (two.clean now), two.told c (one.holds c h) now);
  }

-- the last of them may be a fault
module _ {S A B E F : Type 0} {store : Ghosts S} {old mid new : Transaction S} {x : A} {P : A → Contents → Type 0} {Q R : B → Contents → Type 0} where
  pub then_found : (r : Result B F) → Finds {R = A} {E = E} store old mid (Ok x) P → Finds store mid new r Q → ((y : B) (c : Contents) → P x c → Q y c → R y c) → Finds store old new r R
  then_found (Ok y) one two so = found (both one two) (λ c it. so y c it.0 it.1)
  then_found (Err e) one two so = record {
    since = λ start c h s. two.since start c (one.holds c h) (one.since start c h s);
    clean = λ now. one.clean (two.clean now);
    ran = tt;
    holds = λ _ _. tt;
    sees = λ _ _ _ _. tt;
    told = λ _ _ _. tt;
  }

  pub then_known : (r : Result B F) → Finds {R = A} {E = E} store old mid (Ok x) P → Knows store mid new r Q → ((y : B) (c : Contents) → P x c → Q y c → R y c) → Finds store old new r R
  then_known (Ok y) one two so = found (found_known one two) (λ c it. so y c it.0 it.1)
  then_known (Err e) one two so = record {
    since = λ start c h s. two.since start c (one.holds c h) (one.since start c h s);
    clean = λ now. one.clean (two.clean now);
    ran = tt;
    holds = λ _ _. tt;
    sees = λ _ _ _ _. tt;
    told = λ _ _ _. tt;
  }

-- ---- changes

-- what is done does more
pub does_so : {S A B E F : Type 0} {store : Ghosts S} {old new : Transaction S} {x : A} {y : B} {P : A → Contents → Contents → Type 0} {Q : B → Contents → Contents → Type 0}
    → Does {R = A} {E = E} store old new (Ok x) P → ((c d : Contents) → P x c d → Q y c d) → Does {R = B} {E = F} store old new (Ok y) Q
does_so one so = record {
  since = one.since;
  clean = one.clean;
  ran = one.ran;
  done = λ c h. let it = one.done c h in record { left = it.left; holds = it.holds; is = λ now. so c it.left (it.is now) };
}

-- nothing was asked, and nothing is changed
pub does_nothing : {S A E : Type 0} {store : Ghosts S} {tx : Transaction S} {x : A} {P : A → Contents → Contents → Type 0} → ((c : Contents) → P x c c) → Does {R = A} {E = E} store tx tx (Ok x) P
does_nothing so = record {
  since = λ start c h s. s;
  clean = λ now. now;
  ran = λ on. on;
  done = λ c h. record { left = c; holds = h; is = λ now. so c };
}

-- one after another, of which the last may be a fault
pub does_then : {S A B E F : Type 0} {store : Ghosts S} {old mid new : Transaction S} {x : A} {P : A → Contents → Contents → Type 0} {Q R : B → Contents → Contents → Type 0} (r : Result B F)
    → Does {R = A} {E = E} store old mid (Ok x) P → Does store mid new r Q → ((y : B) (c d e : Contents) → P x c d → Q y d e → R y c e) → Does store old new r R
does_then (Ok y) one two so = record {
  since = λ start c h s. let it = one.done c h in two.since start it.left it.holds (one.since start c h s);
  clean = λ now. one.clean (two.clean now);
  ran = λ on. two.ran (one.ran on);
  done = λ c h.
      let it = one.done c h in
      let last = two.done it.left it.holds in
      record { left = last.left; holds = last.holds; is = λ now. so y c it.left last.left (it.is (two.clean now)) (last.is now) };
}
does_then (Err e) one two so = record {
  since = λ start c h s. let it = one.done c h in two.since start it.left it.holds (one.since start c h s);
  clean = λ now. one.clean (two.clean now);
  ran = λ _. tt;
  done = λ _ _. tt;
}

-- a fault after it
pub does_fail : {S A B E F G H : Type 0} {store : Ghosts S} {old mid new : Transaction S} {x : A} {r : Result B F} {P : A → Contents → Contents → Type 0} {Q : B → Contents → Contents → Type 0} {R : G → Contents → Contents → Type 0} (out : Result G H) (e : H)
    → out ≡ Err e → Does {R = A} {E = E} store old mid (Ok x) P → Does store mid new r Q → Does store old new out R
does_fail {store = store} {old = old} {new = new} {R = R} out e is one two =
    let fails : Does store old new (Err e) R = record {
      since = λ start c h s. let it = one.done c h in two.since start it.left it.holds (one.since start c h s);
      clean = λ now. one.clean (two.clean now);
      ran = λ _. tt;
      done = λ _ _. tt;
    } in
    rw is fails

-- what was found, of which each archive that is held is stored, or known, before it
module _ {S A B E F : Type 0} {store : Ghosts S} {old mid new : Transaction S} {x : A} {P : A → Contents → Type 0} {Q R : B → Contents → Contents → Type 0} where
  pub found_then : (r : Result B F) → Finds {R = A} {E = E} store old mid (Ok x) P → Does store mid new r Q → ((y : B) (c e : Contents) → HeldAreStored c → P x c → Q y c e → R y c e) → Does store old new r R
  found_then r one two so = does_then {P = λ _ c d. (d ≡ c) × (HeldAreStored c × P x c)} r (found_does {F = E} {y = x} one (λ c held it. (refl, (held, it)))) two
      (λ y c d e before after. so y c e before.1.0 before.1.1 (subst (λ (now : Contents). Q y now e) before.0 after))

  pub known_then : (r : Result B F) → Knows {R = A} {E = E} store old mid (Ok x) P → Does store mid new r Q → ((y : B) (c e : Contents) → P x c → Q y c e → R y c e) → Does store old new r R
  known_then r one two so = does_then {P = λ _ c d. (d ≡ c) × P x c} r (known_does {F = E} {y = x} one (λ c it. (refl, it))) two
      (λ y c d e before after. so y c e before.1 (subst (λ (now : Contents). Q y now e) before.0 after))

-- what is made is done
pub makes_does : {S A E : Type 0} {store : Ghosts S} {old new : Transaction S} {P : A → Contents → Type 0} {f : Contents → Contents} (r : Result A E)
    → Makes store old new r P f → Does store old new r (λ x c d. P x c × (d ≡ f c))
makes_does {f = f} (Ok x) one = record {
  since = one.since;
  clean = one.clean;
  ran = λ _. one.ran;
  done = λ c h. record { left = f c; holds = one.holds c h; is = λ now. (one.told c h now, refl) };
}
makes_does (Err e) one = record { since = one.since; clean = one.clean; ran = λ _. tt; done = λ _ _. tt }

-- what follows of each answer
pub does_if : {S A E : Type 0} {store : Ghosts S} {old new : Transaction S} {P Q : A → Contents → Contents → Type 0} (r : Result A E) → Does store old new r P
    → IfOk r (λ x. (c d : Contents) → P x c d → Q x c d) → Does store old new r Q
does_if (Ok x) one so = does_so one so
does_if (Err e) one so = record { since = one.since; clean = one.clean; ran = λ _. tt; done = λ _ _. tt }

-- one more change, the one at this place
pub made_next : {S A B E F G : Type 0} {store : Ghosts S} {old mid new : Transaction S} {a : A} {b : B} {g : G} (xs : List declared.Change) (i : ℕ) (x : declared.Change) → i < length xs → x ≡ get_or xs i x
    → Does {R = A} {E = E} store old mid (Ok a) (λ _ c d. AreMade (map change_of (take i xs)) c d) → Makes {R = B} {E = F} store mid new (Ok b) (λ _. Asks (change_of x)) (stored_by (change_of x)) → HasMoments (change_of x)
    → Does {R = G} {E = E} store old new (Ok g) (λ _ c d. AreMade (map change_of (take (i + 1) xs)) c d)
made_next {B = B} {F = F} {store = store} {old = old} {new = new} {b = b} xs i x below is one two in_time =
    let step : Does {R = B} {E = F} store old new (Ok b) (λ _ c d. AreMade (map change_of (take (i + 1) xs)) c d) = does_then (Ok b) one (makes_does (Ok b) two) (λ _ c d e so_far step. record {
      made = changes_next xs i x below is c d e so_far.made step.1;
      in_range = λ were. subst HasNumbersInRange (sym step.1) (change_in_range (change_of x) d in_time (so_far.in_range were));
    }) in
    does_so step (λ c d it. it)

-- ---- a request, as the connection shows it

-- a transaction that is begun finds the tables in form
pub begun_inside : {S : Type 0} (store : Ghosts S) (h : Held S) (tx : Transaction S) → tx.conn.now ≡ record h { in_transaction = true } → Ready schema (state store h)
    → InForm store tx × (HasCleanDisk (shown store tx) → IsTrue (shown store tx).in_transaction)
begun_inside store h tx is ready = (rw is (begun_in_form store h ready), λ clean. rw is refl)

-- what a request that was answered left of it
pub record Shows {S : Type 0} (store : Ghosts S) (old new : Transaction S) (r : Request) (was is_now : Caches) (given : Reply) : Type 0 where
  pub was_open : IsTrue (shown store old).is_open
  pub goes_on : Leaves schema contents (stored_in store new) (shown store new)
  pub answered : IsAnswered r was is_now given (stored_in store old) (stored_in store new)

module _ {S : Type 0} (store : Ghosts S) (old new : Transaction S) (form : InForm store old) (begun : HasCleanDisk (shown store old) → IsTrue (shown store old).in_transaction) where
  held : Holds store old (stored_in store old)
  held = holds_here store old old form begun

  -- whatever is answered
  pub does_stay : {A E : Type 0} (result : Result A E) {P : A → Contents → Contents → Type 0} → Does store old new result P → Stays store old new
  does_stay result does = since_stays store old new (does.since old (stored_in store old) held (since_here store old old))

  -- what a request left
  pub answered_shows : {r : Request} {was is_now : Caches} {given : Reply} {E : Type 0} → Does {R = Reply} {E = E} store old new (Ok given) (λ x c d. IsAnswered r was is_now x c d) → IsOpen store new → HasCleanDisk (shown store new) → Shows store old new r was is_now given
  unfolding IsClean IsOpen Holds
  answered_shows {r} {was} {is_now} {given} does served clean =
      let it = does.done (stored_in store old) held in
      let now = it.holds clean in
      record {
        was_open = ((does_stay (Ok given) does).committed clean).was_open (served clean);
        goes_on = record { holds = refl; ready = now.in_form (served clean); mode = now.goes_on };
        answered = subst (IsAnswered r was is_now given (stored_in store old)) (sym now.holds) (it.is clean);
      }
