-- A publish of the package by a member of its scope who doesn't read it: its name is taken.
use Rattle.std.proofs.Common.{◌≡◌, ℕ, Bool, true, false, not, ◌&&◌, refl, sym, ap, ap₂, ◌∙◌, true≢false, Some, None, Ok, Err, Option, [], is_some, is_none, if◌then◌else◌}
use Rattle.std.proofs.lemmas.Bool.{and_parts}
use Rattle.std.specs.Option.{option_or}
use Rattle.registry_names.specs.Maps.{PairMap, at, of}
use Rattle.registry_names.specs.Names.{scope_of}
use Rattle.registry_names.specs.Texts.{Text, is}
use Rattle.registry_names.specs.declared.refusal.Refusal.TheVariants.{Denied, Published, Spent, AlwaysPublic, Waiting}
use Rattle.registry_names.specs.declared.refusal.Rule.TheVariants.{A4, A6}
use Rattle.registry_names.proofs.KeyFacts.{text_key, pair_key, same_true}
use Rattle.registry_names.proofs.MapFacts.{at-erase_same}
use Rattle.registry_names.proofs.PartFacts.{part_is}
use Rattle.registry_access.specs.Access.{Access}
use Rattle.registry_access.specs.Callers.{role_of}
use Rattle.registry_access.specs.Levels.{writes}
use Rattle.registry_access.specs.Policy.{Verdict, by_rule, may_publish, where_found}
use Rattle.registry_access.specs.Positions.{has_scope, level_in, position_in, scope_role}
use Rattle.registry_access.specs.declared.caller.Caller.{Caller}
use Rattle.registry_access.specs.declared.caller.Caller.TheVariants.{Operator, User, Anonymous}
use Rattle.registry_access.specs.declared.levels.Level.{Level}
use Rattle.registry_access.specs.declared.levels.Level.TheVariants.{Nothing}
use Rattle.registry_publish.specs.Form.{FormParts}
use Rattle.registry_rules.specs.Actions.{version_of}
use Rattle.registry_rules.specs.Kept.{IsSound}
use Rattle.registry_rules.specs.Permissions.{permission}
use Rattle.registry_rules.specs.Refusals.{is_restricted, publish_refusal, refuse, refusal_by, state_refusal, unless_allowed}
use Rattle.registry_rules.specs.State.{State, has_live, is_live, is_published, is_spent}
use Rattle.registry_rules.specs.Withdrawals.{is_less_than_a_day_ago, is_waiting, last_of}
use Rattle.registry_rules.specs.declared.request.Action.TheVariants.{Publish}
use Rattle.registry_laws_hidden.specs.Concerns.{is_taken}
use Rattle.registry_laws_hidden.specs.Without.{of_others, state_without}
use Rattle.registry_laws_hidden.proofs.KeepFacts.{at-unkept}
use Rattle.registry_laws_hidden.proofs.NamedFacts.{other_pair}

-- ---- the policy

-- to a member of the scope
abbrev member_publishes : Bool → Bool → Bool → Level → Verdict
member_publishes there member status level = where_found there (if member then (if status then by_rule A6 (writes level) else Ok A4) else Err (Denied A4))

module _ (A : Access) (p u : Text) (there : has_scope A (scope_of p) ≡ true) (member : is_some (scope_role A (User u) (scope_of p)) ≡ true) where
  denied : is_some (at A.statuses p) ≡ true → level_in A (User u) p ≡ Nothing → may_publish (User u) true (position_in A (User u) p) ≡ Err (Denied A6)
  denied status nothing = λ i. member_publishes (there i) (member i) (status i) (nothing i)

  free : is_some (at A.statuses p) ≡ false → may_publish (User u) true (position_in A (User u) p) ≡ Ok A4
  free status = λ i. member_publishes (there i) (member i) (status i) (level_in A (User u) p)

-- ---- what is left of the package

of_gone : {X : Type 0} (m : PairMap X) (p q : Text) → is q p ≡ true → of (of_others m p) q ≡ []
of_gone m p q here = part_is text_key (of_others m p) q [] refl (λ k. sym (at-unkept pair_key (other_pair p) m (q, k) (ap not here)))

never : (b : Bool) → (b && false) ≡ false
never true = refl
never false = refl

unpublished : (S : State) (now : ℕ) (f : FormParts) (p o : Text) → is f.name p ≡ true → scope_of f.name ≡ Some o → publish_refusal (state_without S p) now f ≡ None
unpublished S now f p o here scoped =
    let T = state_without S p in
    let live : is_live T f.name (version_of f) ≡ false = ap is_some (at-unkept pair_key (other_pair p) S.live (f.name, version_of f) (ap not here)) in
    let spent : is_spent T f.name (version_of f) ≡ false = ap is_some (at-unkept pair_key (other_pair p) S.spent (f.name, version_of f) (ap not here)) in
    let scope : (is_restricted f.access && is_none (scope_of f.name)) ≡ false = ap (λ s. is_restricted f.access && is_none s) scoped ∙ never (is_restricted f.access) in
    let waiting : is_waiting T now f.name ≡ false = ap (λ es. not (has_live T f.name) && is_less_than_a_day_ago now (last_of es)) (of_gone S.spent p f.name here) ∙ never (not (has_live T f.name)) in
    λ i. refuse (live i) Published (refuse (spent i) Spent (refuse (scope i) AlwaysPublic (refuse (waiting i) Waiting None)))

-- ---- both

some_of : {X : Type 0} (o : Option X) → is_some o ≡ true → (x : X) × (o ≡ Some x)
some_of None e = absurd (true≢false (sym e))
some_of (Some x) e = (x, refl)

scope_there : (A : Access) (who : Caller) (s : Option Text) → is_some (scope_role A who s) ≡ true → is_some s ≡ true
scope_there A who None e = absurd (true≢false (sym e))
scope_there A who (Some o) e = refl

module _ (S : State) (now : ℕ) (f : FormParts) (p o u : Text) (sound : IsSound S.access) (here : is f.name p ≡ true) (scoped : scope_of p ≡ Some o) (member : is_some (role_of S.access (User u) o) ≡ true) where
  abbrev T : State
  T = state_without S p

  name : f.name ≡ p
  name = same_true text_key f.name p here

  permission_is : (U : State) → permission U.access (User u) (Publish f) ≡ may_publish (User u) true (position_in U.access (User u) p)
  permission_is U =
      ap (λ (n : Text). may_publish (User u) (is_some (scope_of n)) (position_in U.access (User u) n)) name
      ∙ ap (λ (s : Option Text). may_publish (User u) (is_some s) (position_in U.access (User u) p)) scoped

  there : has_scope S.access (scope_of p) ≡ true
  there = ap (has_scope S.access) scoped ∙ (sound.roles o u member).0

  there_without : has_scope T.access (scope_of p) ≡ true
  there_without = ap (has_scope T.access) scoped ∙ (sound.roles o u member).0

  role : (U : State) → is_some (role_of U.access (User u) o) ≡ true → is_some (scope_role U.access (User u) (scope_of p)) ≡ true
  role U is = ap (λ (s : Option Text). is_some (scope_role U.access (User u) s)) scoped ∙ is

  denied_here : is_published S p ≡ true → level_in S.access (User u) p ≡ Nothing → refusal_by S now (User u) (Publish f) ≡ Some (Denied A6)
  denied_here status nothing =
      ap (λ v. option_or (unless_allowed v) (state_refusal S now (Publish f))) (permission_is S ∙ denied S.access p u there (role S member) status nothing)

  free_without : refusal_by T now (User u) (Publish f) ≡ None
  free_without =
      ap₂ (λ v r. option_or (unless_allowed v) r)
      (permission_is T ∙ free T.access p u there_without (role T member) (ap is_some (at-erase_same text_key S.access.statuses p)))
      (unpublished S now f p o here (ap scope_of name ∙ scoped))

pub taken_is : (S : State) (now : ℕ) (who : Caller) (f : FormParts) (p : Text) → IsSound S.access → is_taken S who (Publish f) p ≡ true → level_in S.access who p ≡ Nothing
    → (refusal_by S now who (Publish f) ≡ Some (Denied A6)) × (refusal_by (state_without S p) now who (Publish f) ≡ None)
taken_is S now who f p sound taken nothing =
    let both = and_parts (is f.name p) _ taken in
    let held = and_parts (is_published S p) _ both.1 in
    let scope = some_of (scope_of p) (scope_there S.access who (scope_of p) held.1) in
    by_caller who scope.0 both.0 held.0 scope.1 (sym (ap (λ (s : Option Text). is_some (scope_role S.access who s)) scope.1) ∙ held.1) nothing
  where
    by_caller : (who : Caller) (o : Text) → is f.name p ≡ true → is_published S p ≡ true → scope_of p ≡ Some o → is_some (role_of S.access who o) ≡ true → level_in S.access who p ≡ Nothing
        → (refusal_by S now who (Publish f) ≡ Some (Denied A6)) × (refusal_by (state_without S p) now who (Publish f) ≡ None)
    by_caller Operator o here status scoped member nothing = absurd (true≢false (sym member))
    by_caller Anonymous o here status scoped member nothing = absurd (true≢false (sym member))
    by_caller (User u) o here status scoped member nothing = (denied_here S now f p o u sound here scoped member status nothing, free_without S now f p o u sound here scoped member)
