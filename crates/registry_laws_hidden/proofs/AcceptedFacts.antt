-- What the registry and the registry without a package say to an action that isn't about the
-- package.
use Rattle.std.proofs.Common.{◌≡◌, ℕ, Bool, true, false, not, ◌&&◌, ◌||◌, refl, sym, subst, ap, ap₂, ◌∙◌, true≢false, Some, None, Option, option_map, List, [], ◌∷◌, is_some, is_none, filter, map, if◌then◌else◌}
use Rattle.std.specs.List.{list_any}
use Rattle.std.specs.Option.{option_or}
use Rattle.registry_names.specs.Keys.{Pair}
use Rattle.registry_names.specs.Maps.{at, entries, keys}
use Rattle.registry_names.specs.Names.{scope_of}
use Rattle.registry_names.specs.Tags.{latest}
use Rattle.registry_names.specs.Texts.{Text, is}
use Rattle.registry_names.specs.Versions.{VersionParts, text_of_version}
use Rattle.registry_names.specs.declared.refusal.Refusal.{Refusal}
use Rattle.registry_names.specs.declared.refusal.Refusal.TheVariants.{NotFound, LastOwner, Published, Spent, AlwaysPublic, Waiting, TooLate, Depended}
use Rattle.registry_names.proofs.EntryFacts.{entries-keep}
use Rattle.registry_names.proofs.KeyFacts.{pair_key, triple_key}
use Rattle.registry_access.specs.Access.{Access}
use Rattle.registry_access.specs.Agreement.{SamePackage}
use Rattle.registry_access.specs.Callers.{role_of, is_maintainer, in_team, team_grant}
use Rattle.registry_access.specs.Hiding as access
use Rattle.registry_access.specs.Policy.{Verdict, may_manage_members, may_manage_teams, may_publish, may_write, may_manage_maintainers, may_read}
use Rattle.registry_access.specs.Positions.{has_organisation, position_in}
use Rattle.registry_access.specs.declared.caller.Caller.{Caller}
use Rattle.registry_access.specs.declared.caller.Caller.TheVariants.{Operator, User, Anonymous}
use Rattle.registry_access.proofs.AgreementFacts.{position_alike}
use Rattle.registry_publish.specs.Form.{FormParts}
use Rattle.registry_rules.specs.Actions.{is_command, names_package, version_of}
use Rattle.registry_rules.specs.Callers.{is_known}
use Rattle.registry_rules.specs.Permissions.{permission}
use Rattle.registry_rules.specs.Refusals.{grant_refusal, is_restricted, publish_refusal, refuse, refusal_by, state_refusal, tag_refusal, unless_allowed, unless_there, withdraw_all_refusal, withdraw_refusal}
use Rattle.registry_rules.specs.State.{State, Release, Withdrawal, asked_version, has_live, has_maintainer, has_other_maintainer, has_team, is_empty, is_live, lives}
use Rattle.registry_rules.specs.Withdrawals.{is_any_depended, is_depended, is_less_than_a_day_ago, is_need_of, is_too_old, is_waiting, last_of, live_since, live_versions, needs_in, published_at, versions_in}
use Rattle.registry_rules.specs.declared.request.Action.{Action}
use Rattle.registry_rules.specs.declared.request.Action.TheVariants as command
use Rattle.registry_rules.specs.declared.request.Action.TheVariants.{UserAdd, TokenAdd, TokenRemove, TokensRemove, OrgCreate, OrgSet, OrgRemove, TeamCreate, TeamDestroy, TeamAdd, TeamRemove, Revoke, SetAccess, OwnerAdd, OwnerRemove, Publish, TagSet, TagRemove, Withdraw, WithdrawAll, Deprecate, Packument, AbbreviatedPackument, RevisedPackument, VersionDoc, Archive, Tags}
use Rattle.registry_rules.specs.declared.request.Asked.{Asked}
use Rattle.registry_rules.specs.declared.request.Asked.TheVariants.{Exact, Latest}
use Rattle.registry_rules.proofs.AllowedFacts.{policy_passed, state_passed}
use Rattle.registry_laws_hidden.specs.Concerns.{queried_package}
use Rattle.registry_laws_hidden.specs.Laws.{OthersAreAccepted}
use Rattle.registry_laws_hidden.specs.Without.{state_without}
use Rattle.registry_laws_hidden.proofs.KeepFacts.{at-kept}
use Rattle.registry_laws_hidden.proofs.NamedFacts.{other_pair, other_triple}
use Rattle.registry_laws_hidden.proofs.OtherFacts.{at_other, of_other, status_other}
use Rattle.registry_laws_hidden.proofs.Subjects.{concerns, is_about, is_query, reads_it}

abbrev pub withdraws_another : Action → Text → Bool
withdraws_another (Withdraw q v) p = not (is q p)
withdraws_another (WithdrawAll q) p = not (is q p)
withdraws_another _ p = false

-- ---- the policy

pub same_role : (A : Access) (p : Text) (who : Caller) (o : Text) → role_of (access.access_without A p) who o ≡ role_of A who o
same_role A p Operator o = refl
same_role A p (User u) o = refl
same_role A p Anonymous o = refl

pub same_in_team : (A : Access) (p : Text) (who : Caller) (o t : Text) → in_team (access.access_without A p) who o t ≡ in_team A who o t
same_in_team A p Operator o t = refl
same_in_team A p (User u) o t = refl
same_in_team A p Anonymous o t = refl

module _ (A : Access) (p q : Text) (other : is q p ≡ false) where
  pub same_maintainer : (who : Caller) → is_maintainer (access.access_without A p) who q ≡ is_maintainer A who q
  same_maintainer Operator = refl
  same_maintainer (User u) = ap is_some (at_other p q other A.maintainers u)
  same_maintainer Anonymous = refl

  same_granted : (o t : Text) → at (access.access_without A p).grants (o, (t, q)) ≡ at A.grants (o, (t, q))
  same_granted o t = at-kept triple_key (other_triple p) A.grants (o, (t, q)) (ap not other)

  same_grant : (who : Caller) (o t : Text) → team_grant (access.access_without A p) who o t q ≡ team_grant A who o t q
  same_grant who o t = ap₂ (λ b g. if b then g else None) (same_in_team A p who o t) (same_granted o t)

  same_package : (who : Caller) → SamePackage (access.access_without A p) A who q
  same_package who = record {
    scope = λ o e. record { organisation = refl; role = same_role A p who o };
    status = status_other p q other A.statuses;
    maintainer = same_maintainer who;
    grants = same_grant who;
  }

  pub position_other : (who : Caller) → position_in (access.access_without A p) who q ≡ position_in A who q
  position_other who = position_alike (access.access_without A p) A who q (same_package who)

-- what a query that is about no package rests on is the same
abbrev IsSame : Option Text → Bool → Verdict → Verdict → Type 0
IsSame None false v w = v ≡ w
IsSame _ _ v w = v ≡ v

same_verdict : (A : Access) (p : Text) (who : Caller) (what : Action) → IsSame (queried_package what) (is_command what) (permission (access.access_without A p) who what) (permission A who what)
same_verdict A p Operator (UserAdd u) = refl
same_verdict A p Operator _ = refl
same_verdict A p (User u) (UserAdd w) = refl
same_verdict A p (User u) _ = refl
same_verdict A p Anonymous (UserAdd w) = refl
same_verdict A p Anonymous _ = refl

query_other : (A : Access) (p : Text) (who : Caller) (what : Action) (o : Option Text) → queried_package what ≡ o → is_command what ≡ false → is_about o (names_package what p) p ≡ false
    → permission (access.access_without A p) who what ≡ permission A who what
query_other A p who what (Some q) asks query apart = reads_it (access.access_without A p) who what q asks ∙ ap may_read (position_other A p q apart who) ∙ sym (reads_it A who what q asks)
query_other A p who what None asks query apart =
    subst (λ (o : Option Text). IsSame o false (permission (access.access_without A p) who what) (permission A who what)) asks
    (subst (λ (b : Bool). IsSame (queried_package what) b (permission (access.access_without A p) who what) (permission A who what)) query (same_verdict A p who what))

pub permission_other : (A : Access) (who : Caller) (what : Action) (p : Text) → concerns what p ≡ false → permission (access.access_without A p) who what ≡ permission A who what
permission_other A who (OrgSet o u role) p other = ap (may_manage_members who (has_organisation A o)) (same_role A p who o)
permission_other A who (OrgRemove o u) p other = ap (may_manage_members who (has_organisation A o)) (same_role A p who o)
permission_other A who (TeamCreate o t) p other = ap (may_manage_teams who (has_organisation A o)) (same_role A p who o)
permission_other A who (TeamDestroy o t) p other = ap (may_manage_teams who (has_organisation A o)) (same_role A p who o)
permission_other A who (TeamAdd o t u) p other = ap (may_manage_teams who (has_organisation A o)) (same_role A p who o)
permission_other A who (TeamRemove o t u) p other = ap (may_manage_teams who (has_organisation A o)) (same_role A p who o)
permission_other A who (command.Grant o t q grant) p other = ap (may_manage_teams who (has_organisation A o)) (same_role A p who o)
permission_other A who (Revoke o t q) p other = ap (may_manage_teams who (has_organisation A o)) (same_role A p who o)
permission_other A who (SetAccess q status) p other = ap (may_write who) (position_other A p q other who)
permission_other A who (OwnerAdd q u) p other = ap (may_manage_maintainers who) (position_other A p q other who)
permission_other A who (OwnerRemove q u) p other = ap (may_manage_maintainers who) (position_other A p q other who)
permission_other A who (Publish f) p other = ap (may_publish who (is_some (scope_of f.name))) (position_other A p f.name other who)
permission_other A who (TagSet q t v) p other = ap (may_write who) (position_other A p q other who)
permission_other A who (TagRemove q t) p other = ap (may_write who) (position_other A p q other who)
permission_other A who (Withdraw q v) p other = ap (may_write who) (position_other A p q other who)
permission_other A who (WithdrawAll q) p other = ap (may_write who) (position_other A p q other who)
permission_other A who (Deprecate q selector message) p other = ap (may_write who) (position_other A p q other who)
permission_other A who (UserAdd u) p other = refl
permission_other A who (TokenAdd u digest) p other = refl
permission_other A who (TokenRemove digest) p other = refl
permission_other A who (TokensRemove u) p other = refl
permission_other A who (OrgCreate o u) p other = refl
permission_other A who what p other = query_other A p who what (queried_package what) refl refl other

pub same_known : (S : State) (p : Text) (who : Caller) → is_known (state_without S p) who ≡ is_known S who
same_known S p Operator = refl
same_known S p (User u) = refl
same_known S p Anonymous = refl

-- ---- what conflicts with the state

module _ (S : State) (p q : Text) (other : is q p ≡ false) where
  same_live : (v : Text) → is_live (state_without S p) q v ≡ is_live S q v
  same_live v = ap is_some (at_other p q other S.live v)

  same_has_live : has_live (state_without S p) q ≡ has_live S q
  same_has_live = ap (λ (es : List (Text × Release)). not (is_empty es)) (of_other p q other S.live)

  same_lives : (v : Option Text) → lives (state_without S p) q v ≡ lives S q v
  same_lives None = refl
  same_lives (Some v) = same_live v

  pub same_asked : (asked : Asked) → asked_version (state_without S p) q asked ≡ asked_version S q asked
  same_asked (Exact v) = refl
  same_asked Latest = at_other p q other S.tags latest

  same_waiting : (now : ℕ) → is_waiting (state_without S p) now q ≡ is_waiting S now q
  same_waiting now = ap₂ (λ (b : Bool) (es : List (Text × Withdrawal)). not b && is_less_than_a_day_ago now (last_of es)) same_has_live (of_other p q other S.spent)

  pub same_published_at : (v : Text) → published_at (state_without S p) q v ≡ published_at S q v
  same_published_at v = ap (option_map (λ (r : Release). r.at)) (at_other p q other S.live v)

  same_last : (u : Text) → refuse (not (has_maintainer (state_without S p) q u)) NotFound (refuse (not (has_other_maintainer (state_without S p) q u)) LastOwner None)
      ≡ refuse (not (has_maintainer S q u)) NotFound (refuse (not (has_other_maintainer S q u)) LastOwner None)
  same_last u =
      ap₂ (λ (o : Option (Unit {0})) (es : List (Text × Unit {0})). refuse (not (is_some o)) NotFound (refuse (not (list_any (λ (e : Text × Unit {0}). not (is e.0 u)) es)) LastOwner None))
      (at_other p q other S.access.maintainers u) (of_other p q other S.access.maintainers)

same_publish_refusal : (S : State) (now : ℕ) (f : FormParts) (p : Text) → is f.name p ≡ false → publish_refusal (state_without S p) now f ≡ publish_refusal S now f
same_publish_refusal S now f p other =
    let live = same_live S p f.name other (version_of f) in
    let spent = ap is_some (at_other p f.name other S.spent (version_of f)) in
    let waiting = same_waiting S p f.name other now in
    λ i. refuse (live i) Published (refuse (spent i) Spent (refuse (is_restricted f.access && is_none (scope_of f.name)) AlwaysPublic (refuse (waiting i) Waiting None)))

-- but of a withdrawal: a version may be needed by the package
pub state_other : (S : State) (now : ℕ) (what : Action) (p : Text) → concerns what p ≡ false → withdraws_another what p ≡ false → state_refusal (state_without S p) now what ≡ state_refusal S now what
state_other S now (command.Grant o t q grant) p other apart = ap (λ s. grant_refusal (has_team S o t) (is_some s) o q) (status_other p q other S.access.statuses)
state_other S now (Revoke o t q) p other apart = ap (λ g. unless_there (is_some g)) (same_granted S.access p q other o t)
state_other S now (OwnerRemove q u) p other apart = same_last S p q other u
state_other S now (Publish f) p other apart = same_publish_refusal S now f p other
state_other S now (TagSet q t v) p other apart = ap unless_there (same_live S p q other (text_of_version v))
state_other S now (TagRemove q t) p other apart = ap (λ o. tag_refusal (is_some o) t) (at_other p q other S.tags t)
state_other S now (Withdraw q v) p other apart = absurd (true≢false (sym (ap not other) ∙ apart))
state_other S now (WithdrawAll q) p other apart = absurd (true≢false (sym (ap not other) ∙ apart))
state_other S now (Packument q) p other apart = ap unless_there (same_has_live S p q other)
state_other S now (AbbreviatedPackument q) p other apart = ap unless_there (same_has_live S p q other)
state_other S now (RevisedPackument q) p other apart = ap unless_there (same_has_live S p q other)
state_other S now (VersionDoc q asked) p other apart = ap unless_there (ap (lives (state_without S p) q) (same_asked S p q other asked) ∙ same_lives S p q other (asked_version S q asked))
state_other S now (Archive q v) p other apart = ap unless_there (same_live S p q other (text_of_version v))
state_other S now (Tags q) p other apart = ap unless_there (same_has_live S p q other)
state_other S now _ p other apart = refl

-- ---- a withdrawal: without the package no more is needed

or_right : (a b : Bool) → b ≡ true → (a || b) ≡ true
or_right true b e = refl
or_right false b e = e

or_more : (a b c : Bool) → (b ≡ true → c ≡ true) → (a || b) ≡ true → (a || c) ≡ true
or_more true b c more e = refl
or_more false b c more e = more e

any_one : {X : Type 0} (test : X → Bool) (x : X) (ys xs : List X) (b : Bool) → (list_any test ys ≡ true → list_any test xs ≡ true)
    → list_any test (if b then x ∷ ys else ys) ≡ true → (test x || list_any test xs) ≡ true
any_one test x ys xs true more e = or_more (test x) (list_any test ys) (list_any test xs) more e
any_one test x ys xs false more e = or_right (test x) (list_any test xs) (more e)

any_filtered : {X : Type 0} (test kept : X → Bool) (xs : List X) → list_any test (filter kept xs) ≡ true → list_any test xs ≡ true
any_filtered test kept [] h = h
any_filtered test kept (x ∷ xs) h = any_one test x (filter kept xs) xs (kept x) (any_filtered test kept xs) h

needed_more : (S : State) (p q : Text) (v : VersionParts) → is_depended (state_without S p) q v ≡ true → is_depended S q v ≡ true
needed_more S p q v h =
    let needs = λ (e : Pair × Release). not (is e.0.0 q) && list_any (is_need_of q v) (needs_in e.1) in
    any_filtered needs (λ (e : Pair × Release). other_pair p e.0) (entries S.live) (sym (ap (list_any needs) (entries-keep pair_key S.live (other_pair p))) ∙ h)

withdrawn_more : (now : ℕ) (published : Option ℕ) (needed less : Bool) → (less ≡ true → needed ≡ true) → withdraw_refusal now published needed ≡ None → withdraw_refusal now published less ≡ None
withdrawn_more now None needed less more may = may
withdrawn_more now (Some published) needed less more may = by_age (is_too_old now published) less needed more may
  where
    by_age : (old less needed : Bool) → (less ≡ true → needed ≡ true) → refuse old TooLate (refuse needed Depended None) ≡ None → refuse old TooLate (refuse less Depended None) ≡ None
    by_age true less needed more may = absurd cc
    by_age false true true more may = may
    by_age false true false more may = absurd (true≢false (sym (more refl)))
    by_age false false needed more may = refl

-- ---- both

-- what is neither refused by the policy nor by a conflict with the state
none_of_both : (a b : Option Refusal) → a ≡ None → b ≡ None → option_or a b ≡ None
none_of_both a b e f = ap (λ o. option_or o b) e ∙ f

pub refusal_other : (S : State) (now : ℕ) (who : Caller) (what : Action) (p : Text) → concerns what p ≡ false → withdraws_another what p ≡ false → refusal_by (state_without S p) now who what ≡ refusal_by S now who what
refusal_other S now who what p other apart = ap₂ (λ v o. option_or (unless_allowed v) o) (permission_other S.access who what p other) (state_other S now what p other apart)

-- a command that doesn't name the package isn't about it
pub unconcerned : (what : Action) (p : Text) → is_command what ≡ true → names_package what p ≡ false → concerns what p ≡ false
unconcerned what p command other = by (queried_package what) refl
  where
    by : (o : Option Text) → queried_package what ≡ o → concerns what p ≡ false
    by None asks = ap (λ (o : Option Text). is_about o (names_package what p) p) asks ∙ other
    by (Some q) asks = absurd (true≢false (sym command ∙ is_query what q asks))

withdrawal_accepted : (S : State) (now : ℕ) (who : Caller) (q : Text) (v : VersionParts) (p : Text) → is q p ≡ false → refusal_by S now who (Withdraw q v) ≡ None → refusal_by (state_without S p) now who (Withdraw q v) ≡ None
withdrawal_accepted S now who q v p other may =
    none_of_both _ _
    (ap unless_allowed (permission_other S.access who (Withdraw q v) p other) ∙ policy_passed S now who (Withdraw q v) may)
    (ap (λ o. withdraw_refusal now o (is_depended (state_without S p) q v)) (same_published_at S p q other (text_of_version v))
    ∙ withdrawn_more now (published_at S q (text_of_version v)) (is_depended S q v) (is_depended (state_without S p) q v) (needed_more S p q v) (state_passed S now who (Withdraw q v) may))

-- the same of all live versions

any_more : {X : Type 0} (f g : X → Bool) → ((x : X) → f x ≡ true → g x ≡ true) → (xs : List X) → list_any f xs ≡ true → list_any g xs ≡ true
any_more f g more [] h = h
any_more f g more (x ∷ xs) h = by_first (f x) refl (any_more f g more xs) h
  where
    by_first : (b : Bool) → f x ≡ b → (list_any f xs ≡ true → list_any g xs ≡ true) → (b || list_any f xs) ≡ true → (g x || list_any g xs) ≡ true
    by_first true e rest h = ap (λ c. c || list_any g xs) (more x e)
    by_first false e rest h = or_right (g x) (list_any g xs) (rest h)

whole_more : (now : ℕ) (live : List (Text × ℕ)) (needed less : Bool) → (less ≡ true → needed ≡ true) → withdraw_all_refusal now live needed ≡ None → withdraw_all_refusal now live less ≡ None
whole_more now live needed less more may = by_reasons (is_empty live) (list_any (λ (e : Text × ℕ). is_too_old now e.1) live) less needed more may
  where
    by_reasons : (empty old less needed : Bool) → (less ≡ true → needed ≡ true) → refuse empty NotFound (refuse old TooLate (refuse needed Depended None)) ≡ None
        → refuse empty NotFound (refuse old TooLate (refuse less Depended None)) ≡ None
    by_reasons true old less needed more may = absurd cc
    by_reasons false true less needed more may = absurd cc
    by_reasons false false true true more may = may
    by_reasons false false true false more may = absurd (true≢false (sym (more refl)))
    by_reasons false false false needed more may = refl

module _ (S : State) (p q : Text) (other : is q p ≡ false) where
  pub same_live_since : live_since (state_without S p) q ≡ live_since S q
  same_live_since = ap (map (λ (e : Text × Release). (e.0, e.1.at))) (of_other p q other S.live)

  pub same_live_parts : versions_in (live_versions (state_without S p) q) ≡ versions_in (live_versions S q)
  same_live_parts = ap (λ (es : List (Text × Release)). versions_in (keys es)) (of_other p q other S.live)

  any_needed_more : is_any_depended (state_without S p) q ≡ true → is_any_depended S q ≡ true
  any_needed_more h =
      any_more (is_depended (state_without S p) q) (is_depended S q) (λ v. needed_more S p q v) (versions_in (live_versions S q))
      (ap (list_any (is_depended (state_without S p) q)) (sym same_live_parts) ∙ h)

  whole_accepted : (now : ℕ) (who : Caller) → refusal_by S now who (WithdrawAll q) ≡ None → refusal_by (state_without S p) now who (WithdrawAll q) ≡ None
  whole_accepted now who may =
      none_of_both _ _
      (ap unless_allowed (permission_other S.access who (WithdrawAll q) p other) ∙ policy_passed S now who (WithdrawAll q) may)
      (ap (λ live. withdraw_all_refusal now live (is_any_depended (state_without S p) q)) same_live_since
      ∙ whole_more now (live_since S q) (is_any_depended S q) (is_any_depended (state_without S p) q) any_needed_more (state_passed S now who (WithdrawAll q) may))

others_accepted : (S : State) (now : ℕ) (who : Caller) (what : Action) (p : Text) → concerns what p ≡ false → refusal_by S now who what ≡ None → refusal_by (state_without S p) now who what ≡ None
others_accepted S now who (Withdraw q v) p other may = withdrawal_accepted S now who q v p other may
others_accepted S now who (WithdrawAll q) p other may = whole_accepted S p q other now who may
others_accepted S now who what p other may = refusal_other S now who what p other refl ∙ may

pub others_are_accepted : OthersAreAccepted
others_are_accepted S now who what p command other may = others_accepted S now who what p (unconcerned what p command other) may
