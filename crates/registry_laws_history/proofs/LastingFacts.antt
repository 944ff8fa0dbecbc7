-- What was published is the same for good.
use Rattle.std.proofs.Common.{◌≡◌, ◌⊎◌, inl, inr, ℕ, Bool, true, false, ◌&&◌, List, [], ◌∷◌, ◌++◌, refl, sym, ap, ◌∙◌, subst, true≢false, Some, None, Option, is_some, IfSome, if◌then◌else◌, append_assoc}
use Rattle.std.proofs.lemmas.Bool.{and_parts}
use Rattle.registry_names.specs.Keys.{Pair, pair_is}
use Rattle.registry_names.specs.Maps.{among, at}
use Rattle.registry_names.specs.Texts.{Text, is}
use Rattle.registry_names.specs.Versions.{text_of_version}
use Rattle.registry_names.proofs.KeyFacts.{pair_key, same_true}
use Rattle.registry_access.specs.declared.caller.Caller.{Caller}
use Rattle.registry_rules.specs.Callers.{caller_of}
use Rattle.registry_rules.specs.State.{State, Release, Withdrawal}
use Rattle.registry_rules.specs.declared.request.Action.{Action}
use Rattle.registry_rules.specs.declared.request.Action.TheVariants.{Publish, Withdraw, WithdrawAll, Deprecate}
use Rattle.registry_rules.specs.declared.request.Request.{Request}
use Rattle.registry_laws_history.specs.History.{Entry, Legal, after}
use Rattle.registry_laws_history.specs.Lasting.{IsSameRelease, Lasts, LivesOrWasWithdrawn, HistoriesLast, RunsLast}
use Rattle.registry_laws_history.specs.Readings.{or_before, unless_ended, published, published_by, recorded, last_withdrawal, moments_if, noted, chooses, IsOnce}
use Rattle.registry_laws_history.specs.Runs.{Outcome, enters, entered, grown, history, next, HaveOutcomes, end_of}
use Rattle.registry_laws_history.proofs.RunFacts.{legal_history}
use Rattle.registry_laws_history.proofs.VersionFacts.{has_versions, has_records}

-- ---- what is recorded of a version, after one more command; `here` says that the command is about
-- this version

same_again : (r : Release) → IsSameRelease r r
same_again r = record { at = refl; manifest = refl; archive = refl }

-- of a version that was recorded so, this is recorded now, or the moments of its withdrawal
abbrev GoesOn : Option Release → Option Withdrawal → Release → Type 0
GoesOn now gone old = ((new : Release) × (now ≡ Some new) × IsSameRelease old new) ⊎ ((w : Withdrawal) × (gone ≡ Some w) × (w.published ≡ old.at))

unpublished : (here : Bool) (x : Release) (was : Option Release) (new : Release) → (here ≡ true → ⊥) → was ≡ Some new → or_before (if here then Some x else None) was ≡ Some new
unpublished true x was new never is = absurd (never refl)
unpublished false x was new never is = is

taken_or_not : (here : Bool) (now : ℕ) (was : Option Release) (said : Option Withdrawal) (old new : Release) → was ≡ Some new → IsSameRelease old new
    → GoesOn (unless_ended here was) (or_before (moments_if here now was) said) old
taken_or_not true now was said old new is same = inr (record { published = new.at; withdrawn = now }, ap (λ o. or_before (moments_if true now o) said) is, same.at)
taken_or_not false now was said old new is same = inl (new, is, same)

noted_or_not : (here : Bool) (message : Text) (was : Option Release) (said : Option Withdrawal) (old new : Release) → was ≡ Some new → IsSameRelease old new
    → GoesOn (if here then noted message was else was) said old
noted_or_not true message was said old new is same = inl (record new { message = message }, ap (noted message) is, record { at = same.at; manifest = same.manifest; archive = same.archive })
noted_or_not false message was said old new is same = inl (new, is, same)

-- the moments of a version that was withdrawn before
still_withdrawn : (here : Bool) (now : ℕ) (was : Option Release) (said : Option Withdrawal) (w : Withdrawal) → said ≡ Some w → is_some was ≡ false → or_before (moments_if here now was) said ≡ Some w
still_withdrawn here now None said w is gone = is
still_withdrawn here now (Some r) said w is gone = absurd (true≢false gone)

-- ---- of a legal history

not_both : (live spent : Bool) → (live && spent) ≡ false → spent ≡ true → live ≡ false
not_both true spent apart gone = absurd (true≢false (sym gone ∙ apart))
not_both false spent apart gone = refl

-- a version whose moments of withdrawal are there isn't recorded
unrecorded : (h : List Entry) → Legal h → (k : Pair) (w : Withdrawal) → last_withdrawal h k ≡ Some w → is_some (recorded h k) ≡ false
unrecorded h legal k w is =
    let said = has_records h in
    ap is_some (sym (said.records k)) ∙ not_both _ _ ((has_versions h legal).apart k) (ap is_some (said.withdrawals k ∙ is))

-- a version that is recorded was published
recorded_published : (h : List Entry) → Legal h → (k : Pair) (r : Release) → recorded h k ≡ Some r → among pair_is (published h) k ≡ true
recorded_published h legal k r is =
    (and_parts _ _ (sym ((has_versions h legal).live k) ∙ ap is_some ((has_records h).records k ∙ is))).0

-- so it isn't published again
never_again : (now : ℕ) (who : Caller) (what : Action) (h : List Entry) → Legal (record { at = now; who = who; what = what } ∷ h)
    → (k0 k : Pair) (r : Release) → published_by what (published h) ≡ k0 ∷ published h → recorded h k ≡ Some r → pair_is k0 k ≡ true → ⊥
never_again now who what h legal k0 k r by is here =
    let once : IsOnce (k0 ∷ published h) = subst IsOnce by (has_versions (record { at = now; who = who; what = what } ∷ h) legal).once in
    let k_is : among pair_is (published h) k0 ≡ true = ap (among pair_is (published h)) (same_true pair_key k0 k here) ∙ recorded_published h legal.3 k r is in
    true≢false (sym k_is ∙ once.0)

-- ---- one more entry

-- what is recorded of the version, or the moments of its withdrawal
abbrev LivesOnIn : List Entry → Pair → Release → Type 0
LivesOnIn h k old = GoesOn (recorded h k) (last_withdrawal h k) old

lives_more : (now : ℕ) (who : Caller) (what : Action) (h : List Entry) → Legal (record { at = now; who = who; what = what } ∷ h) → (k : Pair) (old new : Release)
    → recorded h k ≡ Some new → IsSameRelease old new → LivesOnIn (record { at = now; who = who; what = what } ∷ h) k old
lives_more now who (Publish f) h legal k old new is same =
    inl (new, unpublished (pair_is (f.name, text_of_version f.version) k) _ (recorded h k) new (never_again now who (Publish f) h legal (f.name, text_of_version f.version) k new refl is) is, same)
lives_more now who (Withdraw p v) h legal k old new is same = taken_or_not (pair_is (p, text_of_version v) k) now (recorded h k) (last_withdrawal h k) old new is same
lives_more now who (WithdrawAll p) h legal k old new here same = taken_or_not (is p k.0) now (recorded h k) (last_withdrawal h k) old new here same
lives_more now who (Deprecate p conditions message) h legal k old new here same = noted_or_not (is p k.0 && chooses conditions k.1) message (recorded h k) (last_withdrawal h k) old new here same
lives_more now who _ h legal k old new is same = inl (new, is, same)

withdrawn_more : (now : ℕ) (who : Caller) (what : Action) (h : List Entry) → Legal h → (k : Pair) (w : Withdrawal)
    → last_withdrawal h k ≡ Some w → last_withdrawal (record { at = now; who = who; what = what } ∷ h) k ≡ Some w
withdrawn_more now who (Withdraw p v) h legal k w is = still_withdrawn (pair_is (p, text_of_version v) k) now (recorded h k) (last_withdrawal h k) w is (unrecorded h legal k w is)
withdrawn_more now who (WithdrawAll p) h legal k w gone = still_withdrawn (is p k.0) now (recorded h k) (last_withdrawal h k) w gone (unrecorded h legal k w gone)
withdrawn_more now who _ h legal k w is = is

-- ---- many more

legal_before : (g h : List Entry) → Legal (g ++ h) → Legal h
legal_before [] h legal = legal
legal_before (e ∷ g) h legal = legal_before g h legal.3

withdrawn_after : (g h : List Entry) → Legal (g ++ h) → (k : Pair) (w : Withdrawal) → last_withdrawal h k ≡ Some w → last_withdrawal (g ++ h) k ≡ Some w
withdrawn_after [] h legal k w is = is
withdrawn_after (e ∷ g) h legal k w is = withdrawn_more e.at e.who e.what (g ++ h) legal.3 k w (withdrawn_after g h legal.3 k w is)

lives_after : (g h : List Entry) → Legal (g ++ h) → (k : Pair) (old : Release) → recorded h k ≡ Some old → LivesOnIn (g ++ h) k old
lives_after [] h legal k old is = inl (old, is, same_again old)
lives_after (e ∷ g) h legal k old is = elim (lives_after g h legal.3 k old is) [
  | inl (new, here, same) ↦ lives_more e.at e.who e.what (g ++ h) legal k old new here same
  | inr (w, gone, moment) ↦ inr (w, withdrawn_more e.at e.who e.what (g ++ h) legal.3 k w gone, moment)
]

-- ---- of what they leave

some_same : (x y : Release) → ◌≡◌ {A = Option Release} (Some x) (Some y) → x ≡ y
some_same x y e = cc

none_left : (o : Option Release) → is_some o ≡ false → o ≡ None
none_left None e = refl
none_left (Some r) e = absurd (true≢false e)

if_there : {X : Type 0} (o : Option X) (P : X → Type 0) → ((x : X) → o ≡ Some x → P x) → IfSome o P
if_there None P f = tt
if_there (Some x) P f = f x refl

module _ (g h : List Entry) (legal : Legal (g ++ h)) where
  lives_on : (k : Pair) (old : Release) → at (after h).live k ≡ Some old → LivesOrWasWithdrawn (after (g ++ h)) k old
  lives_on k old there = elim (lives_after g h legal k old (sym ((has_records h).records k) ∙ there)) [
    | inl (new, here, same) ↦ inl (new, (has_records (g ++ h)).records k ∙ here, same)
    | inr (w, gone, moment) ↦ inr (w, (has_records (g ++ h)).withdrawals k ∙ gone, moment)
  ]

  gone_after : (k : Pair) (w : Withdrawal) → at (after (g ++ h)).spent k ≡ Some w → at (after (g ++ h)).live k ≡ None
  gone_after k w gone = none_left _ (not_both _ _ ((has_versions (g ++ h) legal).apart k) (ap is_some gone))

  same_release : (k : Pair) (old new : Release) → LivesOrWasWithdrawn (after (g ++ h)) k old → at (after (g ++ h)).live k ≡ Some new → IsSameRelease old new
  same_release k old new (inl (other, there, same)) here = subst (IsSameRelease old) (some_same other new (sym there ∙ here)) same
  same_release k old new (inr (w, gone, moment)) here = absurd (true≢false (ap is_some (sym here ∙ gone_after k w gone)))

pub histories_last : HistoriesLast
histories_last g h legal = record {
  same = λ k old new there here. same_release g h legal k old new (lives_on g h legal k old there) here;
  live = λ k. if_there _ _ (λ old there. lives_on g h legal k old there);
  withdrawn = λ k. if_there _ _ (λ w there.
      let still = (has_records (g ++ h)).withdrawals k ∙ withdrawn_after g h legal k w (sym ((has_records h).withdrawals k) ∙ there) in
      (still, gone_after g h legal k w still));
}

-- ---- of a run

grows_by : (h : List Entry) (b : Bool) (who : Option Caller) (r : Request) → (g : List Entry) × ((if b then entered who r h else h) ≡ g ++ h)
grows_by h true None r = ([], refl)
grows_by h true (Some who) r = (record { at = r.at; who = who; what = r.what } ∷ [], refl)
grows_by h false who r = ([], refl)

goes_on : (h : List Entry) (S : State) (rs : List Request) (os : List Outcome) → (g : List Entry) × (history h S rs os ≡ g ++ h)
goes_on h S (r ∷ rs) (o ∷ os) =
    let first = grows_by h (enters r o) (caller_of S r.who) r in
    let rest = goes_on (grown h S r o) (next S r o) rs os in
    (rest.0 ++ first.0, rest.1 ∙ ap (λ l. rest.0 ++ l) first.1 ∙ sym (append_assoc rest.0 first.0 h))
goes_on h S [] os = ([], refl)
goes_on h S (r ∷ rs) [] = ([], refl)

run_from : (h : List Entry) (rs : List Request) (os : List Outcome) (T : State) → Legal h → HaveOutcomes (after h) rs os → T ≡ end_of (after h) rs os → Lasts (after h) T
run_from h rs os T legal answered left =
    let ends = legal_history h rs os legal answered in
    let on = goes_on h (after h) rs os in
    subst (Lasts (after h)) (sym (left ∙ ends.1 ∙ ap after on.1)) (histories_last on.0 h (subst Legal on.1 ends.0))

pub runs_last : RunsLast
runs_last h S rs os opened T ran still legal is =
    subst (λ (S : State). HaveOutcomes S rs os → T ≡ end_of S rs os → Lasts S T) (sym is) (run_from h rs os T legal) ran.answers (ran.left still)
