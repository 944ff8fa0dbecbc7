-- Changes inside a transaction, one after another.
use Rattle.registry_tables.proofs.Words.{◌≡◌, ◌∙◌, Result, Ok, IfOk, IfOk-weaker, refl, Ghosts, Transaction, Contents}
use Rattle.std.proofs.lemmas.Result.{on_ok_weaker}
use Rattle.registry_tables.specs.Inside.{Finds, Holds, IsClean, Makes, MayMake}
use Rattle.registry_tables.proofs.InsideFacts.{on_any}

-- what is stored, told otherwise
holds_same : {S : Type 0} (store : Ghosts S) (a : Transaction S) (c d : Contents) → (IsClean store a → c ≡ d) → Holds store a c → Holds store a d
unfolding Holds IsClean
holds_same store a c d same h clean = let it = h clean in record { goes_on = it.goes_on; in_form = it.in_form; holds = it.holds ∙ same clean }

-- a query leaves what is stored
pub finds_makes : {S R E : Type 0} (store : Ghosts S) (a b : Transaction S) (r : Result R E) {is_told : R → Contents → Type 0} → Finds store a b r is_told → Makes store a b r is_told (λ c. c)
finds_makes store a b r it = record { since = it.since; clean = it.clean; ran = it.ran; holds = it.holds; told = it.told }

-- a change, and what it comes to
pub makes_of : {S R Q E : Type 0} (store : Ghosts S) (a b : Transaction S) (x : R) (r : Result Q E) {is_told : R → Contents → Type 0} {also : Q → Contents → Type 0} {f g : Contents → Contents}
    → Makes {E = E} store a b (Ok x) is_told f → ((c : Contents) → is_told x c → f c ≡ g c) → ((c : Contents) → is_told x c → IfOk r (λ y. also y c)) → Makes store a b r also g
makes_of store a b x r it same so = record {
  since = it.since;
  clean = it.clean;
  ran = on_any r it.ran;
  holds = λ c h. on_any r (holds_same store b _ _ (λ clean. same c (it.told c h clean)) (it.holds c h));
  told = λ c h clean. so c (it.told c h clean);
}

-- one change, and then another
pub makes_then : {S R Q E : Type 0} (store : Ghosts S) (a b d : Transaction S) (x : R) (r : Result Q E) {is_told : R → Contents → Type 0} {then_told also : Q → Contents → Type 0} {e f g : Contents → Contents}
    → Makes {E = E} store a b (Ok x) is_told e → Makes store b d r then_told f → ((c : Contents) → is_told x c → f (e c) ≡ g c) → ((c : Contents) → is_told x c → (y : Q) → then_told y (e c) → also y c) → Makes store a d r also g
makes_then store a b d x r one two same so = record {
  since = λ start c h since. two.since start _ (one.holds c h) (one.since start c h since);
  clean = λ clean. one.clean (two.clean clean);
  ran = two.ran;
  holds = λ c h. on_ok_weaker r (holds_same store d _ _ (λ clean. same c (one.told c h (two.clean clean)))) (two.holds _ (one.holds c h));
  told = λ c h clean. IfOk-weaker r _ _ (so c (one.told c h (two.clean clean))) (two.told _ (one.holds c h) clean);
}

pub makes_and : {S R Q E : Type 0} (store : Ghosts S) (a b d : Transaction S) (x : R) (r : Result Q E) {is_told : R → Contents → Type 0} {then_told : Q → Contents → Type 0} {e f : Contents → Contents}
    → Makes {E = E} store a b (Ok x) is_told e → Makes store b d r then_told f → Makes store a d r (λ y c. is_told x c × then_told y (e c)) (λ c. f (e c))
makes_and store a b d x r one two = makes_then store a b d x r one two (λ c it. refl) (λ c it y so. (it, so))

-- in a loop, one change more
pub makes_more : {S R E : Type 0} (store : Ghosts S) (a b d : Transaction S) (x : R) {f g h : Contents → Contents} {is_told : R → Contents → Type 0}
    → MayMake {R = Unit {0}} {E = Unit {0}} store a b (Ok tt) (λ _ _. Unit {0}) f → Makes {E = E} store b d (Ok x) is_told g → ((c : Contents) → g (f c) ≡ h c) → MayMake {R = Unit {0}} {E = Unit {0}} store a d (Ok tt) (λ _ _. Unit {0}) h
makes_more store a b d x made it same = record {
  since = λ start c h since. it.since start _ (made.holds c h) (made.since start c h since);
  clean = λ clean. made.clean (it.clean clean);
  ran = λ _. it.ran;
  holds = λ c h. holds_same store d _ _ (λ _. same c) (it.holds _ (made.holds c h));
  told = λ _ _ _. tt;
}
