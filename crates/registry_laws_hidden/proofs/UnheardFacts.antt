-- To one who doesn't read a package the registry replies as if the package had never been
-- published, except to the requests that show it.
use Rattle.std.proofs.Common.{◌≡◌, ◌⊎◌, inl, inr, ℕ, Bool, true, false, ◌&&◌, ◌||◌, refl, sym, ap, ap₂, ◌∙◌, true≢false, Some, None, Option, is_some}
use Rattle.registry_names.specs.Maps.{at}
use Rattle.registry_names.specs.Names.{scope_of}
use Rattle.registry_names.specs.Texts.{Text, is}
use Rattle.registry_names.specs.declared.refusal.Refusal.{Refusal}
use Rattle.registry_names.specs.declared.refusal.Refusal.TheVariants.{Denied, Depended}
use Rattle.registry_names.specs.declared.refusal.Rule.TheVariants.{A6}
use Rattle.registry_names.specs.declared.status.Status.{Status}
use Rattle.registry_names.proofs.KeyFacts.{text_key, pair_key, triple_key}
use Rattle.registry_access.specs.Callers.{is_operator, role_of}
use Rattle.registry_access.specs.Levels.{is_owner_or_admin}
use Rattle.registry_access.specs.Positions.{level_by, level_in, scope_role}
use Rattle.registry_access.specs.declared.caller.Caller.{Caller}
use Rattle.registry_access.specs.declared.caller.Caller.TheVariants.{Operator, User, Anonymous}
use Rattle.registry_access.specs.declared.grant.Grant.{Grant}
use Rattle.registry_access.specs.declared.levels.Level.TheVariants.{Nothing}
use Rattle.registry_access.proofs.LevelFacts.{never_published}
use Rattle.registry_rules.specs.Callers.{caller_of}
use Rattle.registry_rules.specs.Refusals.{refusal_by, refusal_for}
use Rattle.registry_rules.specs.State.{State}
use Rattle.registry_rules.specs.declared.reply.Reply.TheVariants.{Created, Done, Refused}
use Rattle.registry_rules.specs.declared.request.Action.{Action}
use Rattle.registry_rules.specs.declared.request.Action.TheVariants.{Publish, Withdraw, WithdrawAll, Packages}
use Rattle.registry_rules.specs.declared.request.Credential.{Credential}
use Rattle.registry_rules.specs.declared.request.Credential.TheVariants as credential
use Rattle.registry_rules.specs.declared.request.Request.{Request}
use Rattle.registry_laws_history.specs.Answers.{answer, reply, reply_to, unless_refused}
use Rattle.registry_laws_history.specs.History.{after}
use Rattle.registry_laws_hidden.specs.Concerns.{is_enumerated, is_kept_by, is_listed, is_shown, is_taken, keeps_from, lists_to, shows, shows_to}
use Rattle.registry_laws_hidden.specs.Laws.{KeptIsDepended, RepliesAreAlike, TakenIsDenied, withdrawn_reply}
use Rattle.registry_laws_hidden.specs.Levels.{HasNoLevel, IsStranger}
use Rattle.registry_laws_hidden.specs.Without.{state_without}
use Rattle.registry_laws_hidden.proofs.KeepFacts.{keep_twice, erase_twice}
use Rattle.registry_laws_hidden.proofs.KeptFacts.{kept_is, refusal_alike}
use Rattle.registry_laws_hidden.proofs.NamedFacts.{other_pair, other_triple}
use Rattle.registry_laws_hidden.proofs.RefusedFacts.{concerned_refused, is_member_publish}
use Rattle.registry_laws_hidden.proofs.ReplyFacts.{reply_other}
use Rattle.registry_laws_hidden.proofs.RestFacts.{Rests, histories_rest, without_new}
use Rattle.registry_laws_hidden.proofs.Subjects.{concerns}
use Rattle.registry_laws_hidden.proofs.TakenFacts.{taken_is}

pub same_caller : (S : State) (p : Text) (shown : Credential) → caller_of (state_without S p) shown ≡ caller_of S shown
same_caller S p credential.Operator = refl
same_caller S p (credential.User u) = refl
same_caller S p (credential.Token digest) = refl
same_caller S p credential.Anonymous = refl

-- ---- where the caller is neither an owner nor an admin of the package's scope

pub either_false : (a b : Bool) → (a || b) ≡ false → (a ≡ false) × (b ≡ false)
either_false true b e = absurd (true≢false e)
either_false false b e = (refl, e)

-- whether it is the operator's query for all packages
abbrev pub is_overview : Caller → Action → Bool
is_overview who Packages = is_operator who
is_overview who _ = false

-- anybody else is refused it
others_overview : (S : State) (now : ℕ) (who : Caller) (p : Text) → is_operator who ≡ false
    → unless_refused (refusal_by S now who Packages) (reply S who Packages) ≡ unless_refused (refusal_by (state_without S p) now who Packages) (reply (state_without S p) who Packages)
others_overview S now Operator p other = absurd (true≢false other)
others_overview S now (User u) p other = refl
others_overview S now Anonymous p other = refl

module _ (S : State) (who : Caller) (p o : Text) (rests : Rests S) (scoped : scope_of p ≡ Some o) (unmanaging : is_owner_or_admin (role_of S.access who o) ≡ false) (nothing : level_in S.access who p ≡ Nothing) where
  of_others : (now : ℕ) (what : Action) → is_kept_by S now who what p ≡ false → is_overview who what ≡ false → concerns what p ≡ false
      → unless_refused (refusal_by S now who what) (reply S who what) ≡ unless_refused (refusal_by (state_without S p) now who what) (reply (state_without S p) who what)
  of_others now Packages free one other = others_overview S now who p one
  of_others now what free one other =
      sym (ap₂ unless_refused (refusal_alike S now who what p other free) (reply_other S who what p other refl nothing))

  by_concern : (now : ℕ) (what : Action) → is_kept_by S now who what p ≡ false → is_member_publish S who what p ≡ false → is_overview who what ≡ false → (b : Bool) → concerns what p ≡ b
      → unless_refused (refusal_by S now who what) (reply S who what) ≡ unless_refused (refusal_by (state_without S p) now who what) (reply (state_without S p) who what)
  by_concern now what free stranger one true here =
      let refused = concerned_refused S now who p o rests.sound scoped unmanaging what here nothing stranger in
      ap (λ x. unless_refused x (reply S who what)) refused.1 ∙ sym (ap (λ x. unless_refused x (reply (state_without S p) who what)) refused.2)
  by_concern now what free stranger one false other = of_others now what free one other

  pub unheard_scoped : (now : ℕ) (what : Action) → is_kept_by S now who what p ≡ false → is_member_publish S who what p ≡ false → is_overview who what ≡ false
      → unless_refused (refusal_by S now who what) (reply S who what) ≡ unless_refused (refusal_by (state_without S p) now who what) (reply (state_without S p) who what)
  unheard_scoped now what free stranger one = by_concern now what free stranger one (concerns what p) refl

-- ---- where they don't read it

-- an owner or an admin of the scope writes what has a status
pub unmanaged_by : (status : Option Status) (role maintains : Bool) (grant : Option Grant) → level_by status (role || maintains) grant ≡ Nothing → (status ≡ None) ⊎ (role ≡ false)
unmanaged_by None role maintains grant e = inl refl
unmanaged_by (Some status) true maintains grant e = absurd cc
unmanaged_by (Some status) false maintains grant e = inr refl

module _ (S : State) (who : Caller) (p : Text) (rests : Rests S) (nothing : level_in S.access who p ≡ Nothing) where
  -- the package was never published, or it has a scope in which they are neither owner nor admin
  abbrev pub IsApart : Type 0
  IsApart = (at S.access.statuses p ≡ None) ⊎ ((o : Text) × (scope_of p ≡ Some o) × (is_owner_or_admin (role_of S.access who o) ≡ false))

  by_scope : (s : Option Text) → scope_of p ≡ s → IsApart
  by_scope None bare = inl (never_published (at S.access.statuses p) _ _ (rests.sound.unscoped p bare) nothing)
  by_scope (Some o) scoped = by_role (unmanaged_by (at S.access.statuses p) (is_owner_or_admin (scope_role S.access who (scope_of p))) _ _ nothing)
    where
      by_role : (at S.access.statuses p ≡ None) ⊎ (is_owner_or_admin (scope_role S.access who (scope_of p)) ≡ false) → IsApart
      by_role (inl new) = inl new
      by_role (inr unmanaging) = inr (o, scoped, sym (ap (λ s. is_owner_or_admin (scope_role S.access who s)) scoped) ∙ unmanaging)

  pub is_apart : IsApart
  is_apart = by_scope (scope_of p) refl

  -- a package that was published is in the list of all packages
  one_of_all : (status : Status) → at S.access.statuses p ≡ Some status → (what : Action) → is_listed S who what p ≡ false → is_overview who what ≡ false
  one_of_all status e Packages unlisted = by (is_operator who) (ap (λ (o : Option Status). is_operator who && is_some o) (sym e) ∙ unlisted)
    where
      by : (b : Bool) → (b && true) ≡ false → b ≡ false
      by true e = e
      by false e = refl
  one_of_all status e _ unlisted = refl

  -- the name of a package that was published is taken by whoever publishes it as a member
  taken_name : (status : Option Status) → at S.access.statuses p ≡ status → (what : Action) → is_taken S who what p ≡ false → (status ≡ None) ⊎ (is_member_publish S who what p ≡ false)
  taken_name None e what free = inl refl
  taken_name (Some status) e (Publish f) free = inr (ap (λ o. is f.name p && (is_some o && is_some (scope_role S.access who (scope_of p)))) (sym e) ∙ free)
  taken_name (Some status) e _ free = inr refl

  unheard_new : at S.access.statuses p ≡ None → (now : ℕ) (what : Action) → unless_refused (refusal_by S now who what) (reply S who what) ≡ unless_refused (refusal_by (state_without S p) now who what) (reply (state_without S p) who what)
  unheard_new new now what = sym (ap (λ T. unless_refused (refusal_by T now who what) (reply T who what)) (without_new S p rests new))

  -- both, of a package that was published
  abbrev IsShownNone : Option Status → Action → Type 0
  IsShownNone status what = (status ≡ None) ⊎ ((is_member_publish S who what p ≡ false) × (is_overview who what ≡ false))

  shown_none : (status : Option Status) → at S.access.statuses p ≡ status → (what : Action) → is_taken S who what p ≡ false → is_listed S who what p ≡ false → IsShownNone status what
  shown_none None e what free unlisted = inl refl
  shown_none (Some status) e what free unlisted = by (taken_name (Some status) e what free)
    where
      by : (◌≡◌ {A = Option Status} (Some status) None) ⊎ (is_member_publish S who what p ≡ false) → IsShownNone (Some status) what
      by (inl new) = inl new
      by (inr stranger) = inr (stranger, one_of_all status e what unlisted)

  unheard_by : IsApart → (now : ℕ) (what : Action) → is_kept_by S now who what p ≡ false → IsShownNone (at S.access.statuses p) what
      → unless_refused (refusal_by S now who what) (reply S who what) ≡ unless_refused (refusal_by (state_without S p) now who what) (reply (state_without S p) who what)
  unheard_by (inl new) now what free name = unheard_new new now what
  unheard_by (inr apart) now what free (inl new) = unheard_new new now what
  unheard_by (inr apart) now what free (inr none) = unheard_scoped S who p apart.0 rests apart.1 apart.2 nothing now what free none.0 none.1

  -- a request that doesn't show the package
  pub unheard_of : (now : ℕ) (what : Action) → shows S now who what p ≡ false
      → unless_refused (refusal_by S now who what) (reply S who what) ≡ unless_refused (refusal_by (state_without S p) now who what) (reply (state_without S p) who what)
  unheard_of now what hides =
      let free = either_false (is_kept_by S now who what p) (is_taken S who what p || is_listed S who what p) hides in
      let none = either_false (is_taken S who what p) (is_listed S who what p) free.1 in
      unheard_by is_apart now what free.0 (shown_none (at S.access.statuses p) refl what none.0 none.1)

-- why a request that shows the package is refused, but the list of all packages
abbrev pub why_shown : Action → Refusal
why_shown (Withdraw q v) = Depended
why_shown (WithdrawAll q) = Depended
why_shown _ = Denied A6

left_of : (a : Bool) → (a || false) ≡ true → a ≡ true
left_of true e = refl
left_of false e = e

pub shown_is : (S : State) (now : ℕ) (who : Caller) (what : Action) (p : Text) → Rests S → level_in S.access who p ≡ Nothing → is_listed S who what p ≡ false → shows S now who what p ≡ true → refusal_by S now who what ≡ Some (why_shown what)
shown_is S now who (Withdraw q v) p rests nothing unlisted shown = (kept_is S now who (Withdraw q v) p (left_of (is_kept_by S now who (Withdraw q v) p) shown)).0
shown_is S now who (WithdrawAll q) p rests nothing unlisted shown = (kept_is S now who (WithdrawAll q) p (left_of (is_kept_by S now who (WithdrawAll q) p) shown)).0
shown_is S now who (Publish f) p rests nothing unlisted shown = (taken_is S now who f p rests.sound (left_of (is_taken S who (Publish f) p) shown) nothing).0
shown_is S now who Packages p rests nothing unlisted shown = absurd (true≢false (sym shown ∙ unlisted))
shown_is S now who _ p rests nothing unlisted shown = absurd (true≢false (sym shown))

-- ---- requests, by any credential

pub answer_as : (T : State) (r : Request) (o : Option Caller) → caller_of T r.who ≡ o → answer T r ≡ unless_refused (refusal_for T r.at o r.what) (reply_to T o r.what)
answer_as T r o known = ap (λ c. unless_refused (refusal_for T r.at c r.what) (reply_to T c r.what)) known

module _ (S : State) (p : Text) (rests : Rests S) (r : Request) where
  by_caller : (o : Option Caller) → caller_of S r.who ≡ o → HasNoLevel S o p → shows_to S r.at o r.what p ≡ false → answer S r ≡ answer (state_without S p) r
  by_caller None known stranger hides = answer_as S r None known ∙ sym (answer_as (state_without S p) r None (same_caller S p r.who ∙ known))
  by_caller (Some who) known stranger hides =
      answer_as S r (Some who) known ∙ unheard_of S who p rests stranger r.at r.what hides ∙ sym (answer_as (state_without S p) r (Some who) (same_caller S p r.who ∙ known))

  pub unheard : IsStranger S r.who p → is_shown S r p ≡ false → answer S r ≡ answer (state_without S p) r
  unheard stranger hides = by_caller (caller_of S r.who) refl stranger hides

  shown_to : (o : Option Caller) → caller_of S r.who ≡ o → HasNoLevel S o p → lists_to S o r.what p ≡ false → shows_to S r.at o r.what p ≡ true → answer S r ≡ Refused (why_shown r.what)
  shown_to None known stranger unlisted shown = absurd (true≢false (sym shown))
  shown_to (Some who) known stranger unlisted shown =
      answer_as S r (Some who) known ∙ ap (λ x. unless_refused x (reply S who r.what)) (shown_is S r.at who r.what p rests stranger unlisted shown)

  pub shown : IsStranger S r.who p → is_enumerated S r p ≡ false → is_shown S r p ≡ true → answer S r ≡ Refused (why_shown r.what)
  shown stranger unlisted shows = shown_to (caller_of S r.who) refl stranger unlisted shows

pub replies_are_alike : RepliesAreAlike
replies_are_alike h p r legal stranger hides = unheard (after h) p (histories_rest h legal) r stranger hides

-- ---- the two that show that it is there

kept_done : (S : State) (now : ℕ) (who : Caller) (what : Action) (p : Text) → is_kept_by S now who what p ≡ true
    → (unless_refused (refusal_by S now who what) (reply S who what) ≡ Refused Depended)
    × (unless_refused (refusal_by (state_without S p) now who what) (reply (state_without S p) who what) ≡ withdrawn_reply (state_without S p) what)
kept_done S now who (Withdraw q v) p kept =
    let both = kept_is S now who (Withdraw q v) p kept in
    (ap (λ x. unless_refused x Done) both.0, ap (λ x. unless_refused x Done) both.1)
kept_done S now who (WithdrawAll q) p kept =
    let both = kept_is S now who (WithdrawAll q) p kept in
    (ap (λ x. unless_refused x (reply S who (WithdrawAll q))) both.0, ap (λ x. unless_refused x (reply (state_without S p) who (WithdrawAll q))) both.1)
kept_done S now who _ p kept = absurd (true≢false (sym kept))

pub kept_is_depended : KeptIsDepended
kept_is_depended h p r legal kept = by (caller_of (after h) r.who) refl kept
  where
    by : (o : Option Caller) → caller_of (after h) r.who ≡ o → keeps_from (after h) r.at o r.what p ≡ true
        → (answer (after h) r ≡ Refused Depended) × (answer (state_without (after h) p) r ≡ withdrawn_reply (state_without (after h) p) r.what)
    by None known kept = absurd (true≢false (sym kept))
    by (Some who) known kept =
        let both = kept_done (after h) r.at who r.what p kept in
        (answer_as (after h) r (Some who) known ∙ both.0, answer_as (state_without (after h) p) r (Some who) (same_caller (after h) p r.who ∙ known) ∙ both.1)

taken_done : (S : State) (now : ℕ) (who : Caller) (what : Action) (p : Text) → Rests S → level_in S.access who p ≡ Nothing → is_taken S who what p ≡ true
    → (unless_refused (refusal_by S now who what) (reply S who what) ≡ Refused (Denied A6)) × (unless_refused (refusal_by (state_without S p) now who what) (reply (state_without S p) who what) ≡ Created)
taken_done S now who (Publish f) p rests nothing taken =
    let both = taken_is S now who f p rests.sound taken nothing in
    (ap (λ x. unless_refused x Created) both.0, ap (λ x. unless_refused x Created) both.1)
taken_done S now who _ p rests nothing taken = absurd (true≢false (sym taken))

pub taken_is_denied : TakenIsDenied
taken_is_denied h p who r legal known nothing taken =
    let both = taken_done (after h) r.at who r.what p (histories_rest h legal) nothing taken in
    (answer_as (after h) r (Some who) known ∙ both.0, answer_as (state_without (after h) p) r (Some who) (same_caller (after h) p r.who ∙ known) ∙ both.1)

-- ---- what is left

pub without_twice : (S : State) (p : Text) → state_without (state_without S p) p ≡ state_without S p
without_twice S p =
    let statuses = erase_twice text_key S.access.statuses p in
    let grants = keep_twice triple_key (other_triple p) S.access.grants in
    let maintainers = keep_twice pair_key (other_pair p) S.access.maintainers in
    let live = keep_twice pair_key (other_pair p) S.live in
    let spent = keep_twice pair_key (other_pair p) S.spent in
    let tags = keep_twice pair_key (other_pair p) S.tags in
    λ i. record S { access = record S.access { statuses = statuses i; grants = grants i; maintainers = maintainers i }; live = live i; spent = spent i; tags = tags i }
