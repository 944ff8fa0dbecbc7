-- Two runs of the requests of one caller alone, after histories that differ in what named a package
-- that they don't read.
use Rattle.std.proofs.Common.{◌≡◌, ◌⊎◌, inl, inr, ℕ, Bool, true, false, ◌&&◌, ◌||◌, if◌then◌else◌, refl, sym, ap, ap₂, ◌∙◌, subst, true≢false, Some, None, Option, Ok, Err, List, [], ◌∷◌, is_some}
use Rattle.std.proofs.lemmas.Bool.{and_parts}
use Rattle.registry_names.specs.Maps.{at}
use Rattle.registry_names.specs.Names.{scope_of}
use Rattle.registry_names.specs.Texts.{Text, is}
use Rattle.registry_names.specs.declared.status.Status.{Status}
use Rattle.registry_access.specs.Callers.{role_of}
use Rattle.registry_access.specs.Levels.{is_owner_or_admin}
use Rattle.registry_access.specs.Positions.{level_in, scope_role}
use Rattle.registry_access.specs.declared.caller.Caller.{Caller}
use Rattle.registry_access.specs.declared.levels.Level.TheVariants.{Nothing}
use Rattle.registry_rules.specs.Callers.{caller_of}
use Rattle.registry_rules.specs.Changes.{all_made}
use Rattle.registry_rules.specs.Effects.{effects_for, step}
use Rattle.registry_rules.specs.Refusals.{refusal_by, refusal_for}
use Rattle.registry_rules.specs.State.{State, is_published}
use Rattle.registry_rules.specs.declared.reply.Reply.{Reply}
use Rattle.registry_rules.specs.declared.request.Action.{Action}
use Rattle.registry_rules.specs.declared.request.Action.TheVariants.{Publish}
use Rattle.registry_rules.specs.declared.request.Request.{Request}
use Rattle.registry_laws_history.specs.Answers.{answer}
use Rattle.registry_laws_history.specs.History.{Entry, after}
use Rattle.registry_laws_history.specs.Runs.{HaveOutcomes, Outcome, enters, next}
use Rattle.registry_laws_history.proofs.RunFacts.{accepted}
use Rattle.registry_laws_hidden.specs.Concerns.{IsShownAlike, is_listed, is_shown, shows, shows_to}
use Rattle.registry_laws_hidden.specs.Levels.{HasNoLevel}
use Rattle.registry_laws_hidden.specs.Runs.{AreAlikeTo, DifferInPackage, IsTheirs, RunsAreAlike}
use Rattle.registry_laws_hidden.specs.Without.{state_without}
use Rattle.registry_laws_hidden.proofs.AcceptedFacts.{same_role}
use Rattle.registry_laws_hidden.proofs.LeftFacts.{IsLeft, answers_alike, both_next, left_next, left_rests, left_start, same_callers, same_rest}
use Rattle.registry_laws_hidden.proofs.RefusedFacts.{is_member_publish}
use Rattle.registry_laws_hidden.proofs.RestFacts.{without_new}
use Rattle.registry_laws_hidden.proofs.StandingFacts.{standing_kept}
use Rattle.registry_laws_hidden.proofs.UnheardFacts.{is_apart, shown_is, why_shown}

-- ---- a caller without a level on the package, which was published, gains none by a request

is_stranger : (S : State) (who : Caller) (p : Text) → level_in S.access who p ≡ Nothing → (o : Option Caller) → IsTheirs who o → HasNoLevel S o p
is_stranger S who p nothing None theirs = tt
is_stranger S who p nothing (Some c) theirs = ap (λ x. level_in S.access x p) theirs ∙ nothing

module _ (who : Caller) (p : Text) where
  -- the package has a scope, in which they are neither an owner nor an admin
  abbrev IsOutside : State → Type 0
  IsOutside S = (o : Text) × (scope_of p ≡ Some o) × (is_owner_or_admin (role_of S.access who o) ≡ false)

  outside : (S : State) → IsLeft S → level_in S.access who p ≡ Nothing → is_published S p ≡ true → IsOutside S
  outside S left nothing status = by (is_apart S who p (left_rests S left) nothing)
    where
      by : (at S.access.statuses p ≡ None) ⊎ IsOutside S → IsOutside S
      by (inl new) = absurd (true≢false (sym status ∙ ap is_some new))
      by (inr there) = there

  -- whose name is taken
  publish_shows : (S : State) (now : ℕ) (what : Action) → is_member_publish S who what p ≡ true → is_published S p ≡ true → shows S now who what p ≡ true
  publish_shows S now (Publish f) member status =
      let both = and_parts (is f.name p) _ member in
      λ i. (both.0 i && (status i && both.1 i)) || false
  publish_shows S now _ member status = absurd (true≢false (sym member))

  publish_unlisted : (S : State) (what : Action) → is_member_publish S who what p ≡ true → is_listed S who what p ≡ false
  publish_unlisted S (Publish f) member = refl
  publish_unlisted S _ member = absurd (true≢false (sym member))

  module _ (S T : State) (left : IsLeft S) (left' : IsLeft T) (same : state_without S p ≡ state_without T p) (nothing : level_in S.access who p ≡ Nothing) (nothing' : level_in T.access who p ≡ Nothing)
      (there : (is_published S p ≡ true) ⊎ (is_published T p ≡ true)) where
    roles_alike : (o : Text) → role_of S.access who o ≡ role_of T.access who o
    roles_alike o = sym (same_role S.access p who o) ∙ ap (λ (U : State). role_of U.access who o) same ∙ same_role T.access p who o

    scopes_alike : (s : Option Text) → scope_role S.access who s ≡ scope_role T.access who s
    scopes_alike None = refl
    scopes_alike (Some o) = roles_alike o

    outside_here : IsOutside S
    outside_here = by there
      where
        by : (is_published S p ≡ true) ⊎ (is_published T p ≡ true) → IsOutside S
        by (inl status) = outside S left nothing status
        by (inr status) = let x = outside T left' nothing' status in (x.0, x.1, ap is_owner_or_admin (roles_alike x.0) ∙ x.2)

    members_alike : (what : Action) → is_member_publish S who what p ≡ is_member_publish T who what p
    members_alike (Publish f) = ap (λ x. is f.name p && is_some x) (scopes_alike (scope_of p))
    members_alike _ = refl

    refused : (now : ℕ) (what : Action) → shows S now who what p ≡ shows T now who what p → is_member_publish S who what p ≡ true → refusal_by S now who what ≡ Some (why_shown what)
    refused now what one member = shown_is S now who what p (left_rests S left) nothing (publish_unlisted S what member) (by there)
      where
        by : (is_published S p ≡ true) ⊎ (is_published T p ≡ true) → shows S now who what p ≡ true
        by (inl status) = publish_shows S now what member status
        by (inr status) = one ∙ publish_shows T now what (sym (members_alike what) ∙ member) status

    gains_none : (r : Request) → caller_of S r.who ≡ Some who → shows S r.at who r.what p ≡ shows T r.at who r.what p → refusal_by S r.at who r.what ≡ None → level_in (step S r).access who p ≡ Nothing
    gains_none r known one may = ap (λ o. level_in (all_made S (effects_for S r.at o r.what)).access who p) known ∙ by (is_member_publish S who r.what p) refl
      where
        by : (b : Bool) → is_member_publish S who r.what p ≡ b → level_in (all_made S (effects_for S r.at (Some who) r.what)).access who p ≡ Nothing
        by true member = let both : None ≡ Some (why_shown r.what) = sym may ∙ refused r.at r.what one member in absurd cc
        by false stranger =
            (standing_kept S r.at who r.what p outside_here.0 (left_rests S left).sound outside_here.1 outside_here.2 nothing stranger may).nothing

    keeps_none : (r : Request) (a : Reply) → a ≡ answer S r → IsTheirs who (caller_of S r.who) → is_shown S r p ≡ is_shown T r p → level_in (next S r (Ok a)).access who p ≡ Nothing
    keeps_none r a answered theirs one = by_entry (enters r (Ok a)) refl
      where
        by_caller : (o : Option Caller) → caller_of S r.who ≡ o → IsTheirs who o → shows_to S r.at o r.what p ≡ shows_to T r.at o r.what p → refusal_for S r.at o r.what ≡ None → level_in (step S r).access who p ≡ Nothing
        by_caller None known theirs one may = absurd cc
        by_caller (Some c) known theirs one may =
            gains_none r (known ∙ ap Some theirs)
            (ap (λ x. shows S r.at x r.what p) (sym theirs) ∙ one ∙ ap (λ x. shows T r.at x r.what p) theirs)
            (ap (λ x. refusal_by S r.at x r.what) (sym theirs) ∙ may)

        by_entry : (b : Bool) → enters r (Ok a) ≡ b → level_in (if b then step S r else S).access who p ≡ Nothing
        by_entry true entered =
            by_caller (caller_of S r.who) refl theirs (one ∙ ap (λ o. shows_to T r.at o r.what p) (sym (same_callers S T p same r.who))) (accepted S r (Ok a) answered entered)
        by_entry false entered = nothing

-- ---- two runs

-- two registries that legal histories left and that agree in all but the package, on which the
-- caller has no level in either
pub record AreNearTo (who : Caller) (p : Text) (S T : State) : Type 0 where
  left : IsLeft S
  other_left : IsLeft T
  same : state_without S p ≡ state_without T p
  nothing : level_in S.access who p ≡ Nothing
  other_nothing : level_in T.access who p ≡ Nothing

-- they are such, and the package was published in one of them, or they are one registry
abbrev pub AreOneTo : Caller → Text → State → State → Type 0
AreOneTo who p S T = (S ≡ T) ⊎ (AreNearTo who p S T × ((is_published S p ≡ true) ⊎ (is_published T p ≡ true)))

turned : {A B : Type 0} → A ⊎ B → B ⊎ A
turned (inl a) = inr a
turned (inr b) = inl b

module _ (who : Caller) (p : Text) where
  theirs_there : (S T : State) (r : Request) → AreNearTo who p S T → IsTheirs who (caller_of S r.who) → IsTheirs who (caller_of T r.who)
  theirs_there S T r near theirs = subst (IsTheirs who) (same_callers S T p near.same r.who) theirs

  one_reply : (S T : State) (r : Request) → AreNearTo who p S T → IsTheirs who (caller_of S r.who) → IsShownAlike S T r p → answer S r ≡ answer T r
  one_reply S T r near theirs one =
      answers_alike S T p near.same (left_rests S near.left) (left_rests T near.other_left) r (is_stranger S who p near.nothing (caller_of S r.who) theirs)
      (is_stranger T who p near.other_nothing (caller_of T r.who) (theirs_there S T r near theirs)) one

  near_next : (S T : State) (r : Request) (a b : Reply) → AreNearTo who p S T → (is_published S p ≡ true) ⊎ (is_published T p ≡ true) → IsTheirs who (caller_of S r.who) → IsShownAlike S T r p
      → a ≡ answer S r → b ≡ answer T r → AreNearTo who p (next S r (Ok a)) (next T r (Ok b))
  near_next S T r a b near there theirs one answered answered' =
      let replies = answered ∙ one_reply S T r near theirs one ∙ sym answered' in
      record {
        left = left_next S r (Ok a) near.left answered;
        other_left = left_next T r (Ok b) near.other_left answered';
        same = both_next S T p near.same r (Ok a) (Ok b) (ap (λ x. enters r (Ok x)) replies);
        nothing = keeps_none who p S T near.left near.other_left near.same near.nothing near.other_nothing there r a answered theirs one.shown;
        other_nothing = keeps_none who p T S near.other_left near.left (sym near.same) near.other_nothing near.nothing (turned there) r b answered' (theirs_there S T r near theirs) (sym one.shown);
      }

  near_one : (S T : State) → AreNearTo who p S T → AreOneTo who p S T
  near_one S T near = by (at S.access.statuses p) (at T.access.statuses p) refl refl
    where
      by : (s t : Option Status) → at S.access.statuses p ≡ s → at T.access.statuses p ≡ t → AreOneTo who p S T
      by None None new new' = inl (sym (without_new S p (left_rests S near.left) new) ∙ near.same ∙ without_new T p (left_rests T near.other_left) new')
      by (Some s) t here there = inr (near, inl (ap is_some here))
      by None (Some t) here there = inr (near, inr (ap is_some there))

  pub one_answer : (S T : State) (r : Request) → AreOneTo who p S T → IsTheirs who (caller_of S r.who) → IsShownAlike S T r p → answer S r ≡ answer T r
  one_answer S T r (inl same) theirs one = ap (λ U. answer U r) same
  one_answer S T r (inr (near, there)) theirs one = one_reply S T r near theirs one

  pub one_next : (S T : State) (r : Request) (a b : Reply) → AreOneTo who p S T → IsTheirs who (caller_of S r.who) → IsShownAlike S T r p → a ≡ answer S r → b ≡ answer T r
      → AreOneTo who p (next S r (Ok a)) (next T r (Ok b))
  one_next S T r a b (inl same) theirs one answered answered' = inl (ap₂ (λ U x. next U r (Ok x)) same (answered ∙ ap (λ U. answer U r) same ∙ sym answered'))
  one_next S T r a b (inr (near, there)) theirs one answered answered' = near_one (next S r (Ok a)) (next T r (Ok b)) (near_next S T r a b near there theirs one answered answered')

  one_runs : (rs : List Request) (os qs : List Outcome) (S T : State) → AreOneTo who p S T → HaveOutcomes S rs os → HaveOutcomes T rs qs → AreAlikeTo who p S T rs os qs
  one_runs [] os qs S T near a b = tt
  one_runs (r ∷ rs) [] qs S T near a b = tt
  one_runs (r ∷ rs) (Err f ∷ os) qs S T near a b = tt
  one_runs (r ∷ rs) (Ok x ∷ os) [] S T near a b = tt
  one_runs (r ∷ rs) (Ok x ∷ os) (Err g ∷ qs) S T near a b = tt
  one_runs (r ∷ rs) (Ok x ∷ os) (Ok y ∷ qs) S T near a b = λ theirs one. (
    a.0 ∙ one_answer S T r near theirs one ∙ sym b.0,
    one_runs rs os qs (next S r (Ok x)) (next T r (Ok y)) (one_next S T r x y near theirs one a.0 b.0) a.1 b.1,
  )

pub one_start : (g h : List Entry) (p : Text) (who : Caller) → DifferInPackage g h p → level_in (after g).access who p ≡ Nothing → level_in (after h).access who p ≡ Nothing → AreOneTo who p (after g) (after h)
one_start g h p who differ nothing nothing' =
    near_one who p (after g) (after h)
    (record { left = left_start g differ.legal; other_left = left_start h differ.other_legal; same = same_rest g h p differ; nothing = nothing; other_nothing = nothing' })

pub runs_are_alike : RunsAreAlike
runs_are_alike g h p who differ nothing nothing' rs os qs a b = one_runs who p rs os qs (after g) (after h) (one_start g h p who differ nothing nothing') a b
