-- Each grant stays on a package of its organisation's scope, whatever is asked.
use Rattle.registry_desk.proofs.Words.{option_to_list, ◌≡◌, ◌∙◌, ℕ, Bool, true, false, cond, List, [], ◌∷◌, ◌++◌, map, is_some, refl, sym, ap, subst, true≢false, Option, Some, None, at, put, scope_of}
use Rattle.registry_desk.proofs.Words.{latest, Text, is, text_of_version, triple_key, at-erase, at-keep, Caller, version_of, caller_of, Change, AddVersion, DropGrant, DropTag, DropTeam, PutGrant}
use Rattle.registry_desk.proofs.Words.{PutTag, RetireVersion, deprecation, effects, effects_for, effects_of, ending, first_right, freed, joining, maintaining, membership, put_status, right_to}
use Rattle.registry_desk.proofs.Words.{withdrawal, withdrawal_of_all, refusal, refusal_by, refusal_for, State, has_maintainer, has_team, is_in_team, is_published, tokens_of, all_tags, live_since}
use Rattle.registry_desk.proofs.Words.{live_versions, others, published_at, selected, tags_of, Action, OrgSet, TeamAdd, OwnerAdd, Publish, Withdraw, WithdrawAll, Deprecate, Request, all_stored}
use Rattle.registry_desk.proofs.Words.{stored_by, Contents, registry_of, GrantsInScope, Outcome, IsAnswer, enters, accepted, next_stored, stepped}
use Rattle.std.specs.Prelude.{IsSome}
use Rattle.registry_names.specs.Greatest.{greatest}
use Rattle.registry_names.specs.declared.status.Status.{Status}
use Rattle.registry_names.proofs.PutFacts.{some_before}
use Rattle.registry_access.specs.declared.caller.Caller.TheVariants.{Operator, User, Anonymous}
use Rattle.registry_access.specs.declared.role.Role.{Role}
use Rattle.registry_publish.specs.Form.{FormParts}
use Rattle.registry_rules.specs.declared.request.Action.TheVariants as command
use Rattle.registry_rules.proofs.AllowedFacts.{may_grant, state_passed}
use Rattle.registry_rules.proofs.SoundFacts.{was_left}
use Rattle.registry_tables.specs.Numbers.{grant_number}

-- ---- changes

-- it grants nothing outside of the organisation's scope
abbrev IsInScope : Change → Type 0
IsInScope (PutGrant o t p grant) = scope_of p ≡ Some o
IsInScope _ = Unit {0}

abbrev AreInScope : List Change → Type 0
AreInScope [] = Unit {0}
AreInScope (change ∷ changes) = IsInScope change × AreInScope changes

kept_there : {X : Type 0} (b : Bool) (old : Option X) → IsSome (cond b old None) → IsSome old
kept_there true old h = h
kept_there false old h = absurd (true≢false (sym h))

put_keeps : (c : Contents) (o t p : Text) (grant : _) → scope_of p ≡ Some o → GrantsInScope c → GrantsInScope (record c { grants = put c.grants (o, (t, p)) grant })
put_keeps c o t p grant within scoped r s q there =
    some_before triple_key c.grants (o, (t, p)) grant (λ k. scope_of k.1.1 ≡ Some k.0) (λ k h. scoped k.0 k.1.0 k.1.1 h) within (r, (s, q)) there

change_keeps : (change : Change) (c : Contents) → IsInScope change → GrantsInScope c → GrantsInScope (stored_by change c)
change_keeps (PutGrant o t p grant) c within scoped = put_keeps c o t p (grant_number grant) within scoped
change_keeps (DropGrant o t p) c within scoped = λ r s q there. scoped r s q (was_left _ _ (sym (ap is_some (at-erase triple_key c.grants (o, (t, p)) (r, (s, q)))) ∙ there))
change_keeps (DropTeam o t) c within scoped = λ r s q there. scoped r s q (kept_there _ _ (sym (ap is_some (at-keep triple_key c.grants _ (r, (s, q)))) ∙ there))
change_keeps _ c within scoped = scoped

changes_keep : (changes : List Change) (c : Contents) → AreInScope changes → GrantsInScope c → GrantsInScope (all_stored changes c)
changes_keep [] c are scoped = scoped
changes_keep (change ∷ changes) c are scoped = changes_keep changes (stored_by change c) are.1 (change_keeps change c are.0 scoped)

-- ---- what requests change

both_in_scope : (cs ds : List Change) → AreInScope cs → AreInScope ds → AreInScope (cs ++ ds)
both_in_scope [] ds are more = more
both_in_scope (c ∷ cs) ds are more = (are.0, both_in_scope cs ds are.1 more)

status_in_scope : (p : Text) (status : Option Status) → AreInScope (put_status p status)
status_in_scope p None = tt
status_in_scope p (Some status) = (tt, tt)

right_in_scope : (who : Caller) (p : Text) (scope : Option Text) → scope_of p ≡ scope → AreInScope (option_to_list (right_to who p scope))
right_in_scope who p (Some o) is = (is, tt)
right_in_scope (User u) p None is = (tt, tt)
right_in_scope Operator p None is = tt
right_in_scope Anonymous p None is = tt

first_in_scope : (who : Caller) (p : Text) (old : Option Status) → AreInScope (option_to_list (first_right who p old))
first_in_scope who p (Some old) = tt
first_in_scope who p None = right_in_scope who p (scope_of p) refl

tags_in_scope : (p t v : Text) (kept : Bool) → AreInScope (cond kept [] (PutTag p latest v ∷ []) ++ PutTag p t v ∷ [])
tags_in_scope p t v true = (tt, tt)
tags_in_scope p t v false = (tt, (tt, tt))

publication_in_scope : (who : Caller) (f : FormParts) (now : ℕ) (status old : Option Status) (kept : Bool)
    → AreInScope (put_status f.name status ++ option_to_list (first_right who f.name old) ++ AddVersion f now ∷ (cond kept [] (PutTag f.name latest (version_of f) ∷ []) ++ PutTag f.name f.tag (version_of f) ∷ []))
publication_in_scope who f now status old kept =
    let status_put = put_status f.name status in
    let right = option_to_list (first_right who f.name old) in
    let tags = cond kept [] (PutTag f.name latest (version_of f) ∷ []) ++ PutTag f.name f.tag (version_of f) ∷ [] in
    both_in_scope (status_put ++ right) (AddVersion f now ∷ tags) (both_in_scope status_put right (status_in_scope f.name status) (first_in_scope who f.name old)) (tt, tags_in_scope f.name f.tag (version_of f) kept)

membership_in_scope : (o u : Text) (role : Role) (old : Option Role) → AreInScope (membership o u role old)
membership_in_scope o u role (Some was) = (tt, tt)
membership_in_scope o u role None = (tt, (tt, tt))

joining_in_scope : (o t u : Text) (already : Bool) → AreInScope (joining o t u already)
joining_in_scope o t u true = tt
joining_in_scope o t u false = (tt, tt)

maintaining_in_scope : (p u : Text) (already : Bool) → AreInScope (maintaining p u already)
maintaining_in_scope p u true = tt
maintaining_in_scope p u false = (tt, tt)

freed_in_scope : (p : Text) (other : Option Text) (t : Text) → IsInScope (freed p other t)
freed_in_scope p None t = tt
freed_in_scope p (Some other) t = by_name (is t latest)
  where
    by_name : (b : Bool) → IsInScope (cond b (PutTag p t other) (DropTag p t))
    by_name true = tt
    by_name false = tt

all_freed_in_scope : (p : Text) (other : Option Text) (tags : List Text) → AreInScope (map (freed p other) tags)
all_freed_in_scope p other [] = tt
all_freed_in_scope p other (t ∷ tags) = (freed_in_scope p other t, all_freed_in_scope p other tags)

withdrawal_in_scope : (now : ℕ) (p v : Text) (since : Option ℕ) (live tags : List Text) → AreInScope (withdrawal now p v since live tags)
withdrawal_in_scope now p v None live tags = tt
withdrawal_in_scope now p v (Some published) live tags = both_in_scope _ _ (all_freed_in_scope p (greatest (others live v)) tags) (tt, tt)

retired_in_scope : (now : ℕ) (p : Text) (live : List (Text × ℕ)) → AreInScope (map (λ (e : Text × ℕ). RetireVersion p e.0 e.1 now) live)
retired_in_scope now p [] = tt
retired_in_scope now p (e ∷ es) = (tt, retired_in_scope now p es)

whole_in_scope : (now : ℕ) (p : Text) (live : List (Text × ℕ)) (tags : List Text) → AreInScope (withdrawal_of_all now p live tags)
whole_in_scope now p live tags = both_in_scope (map (DropTag p) tags) _ (all_freed_in_scope p None tags) (retired_in_scope now p live)

deprecation_in_scope : (p message : Text) (vs : List Text) → AreInScope (deprecation p message vs)
deprecation_in_scope p message [] = tt
deprecation_in_scope p message (v ∷ vs) = (tt, deprecation_in_scope p message vs)

ending_in_scope : (digests : List Text) → AreInScope (ending digests)
ending_in_scope [] = tt
ending_in_scope (digest ∷ digests) = (tt, ending_in_scope digests)

effects_in_scope : (S : State) (now : ℕ) (who : Caller) (what : Action) → refusal_by S now who what ≡ None → AreInScope (effects S now who what)
effects_in_scope S now who (command.Grant o t p grant) may = ((may_grant (has_team S o t) (is_published S p) o p (state_passed S now who (command.Grant o t p grant) may)).2, tt)
effects_in_scope S now who (Publish f) may = publication_in_scope who f now _ _ _
effects_in_scope S now who (OrgSet o u role) may = membership_in_scope o u role (at S.access.roles (o, u))
effects_in_scope S now who (TeamAdd o t u) may = joining_in_scope o t u (is_in_team S o t u)
effects_in_scope S now who (OwnerAdd p u) may = maintaining_in_scope p u (has_maintainer S p u)
effects_in_scope S now who (Withdraw p v) may = withdrawal_in_scope now p (text_of_version v) (published_at S p (text_of_version v)) (live_versions S p) (tags_of S p (text_of_version v))
effects_in_scope S now who (WithdrawAll p) may = whole_in_scope now p (live_since S p) (all_tags S p)
effects_in_scope S now who (Deprecate p selector message) may = deprecation_in_scope p message (selected (live_versions S p) selector)
effects_in_scope S now who (command.UserAdd u) may = (tt, tt)
effects_in_scope S now who (command.TokenAdd u digest) may = (tt, tt)
effects_in_scope S now who (command.TokenRemove digest) may = (tt, tt)
effects_in_scope S now who (command.TokensRemove u) may = ending_in_scope (tokens_of S u)
effects_in_scope S now who (command.OrgCreate o u) may = (tt, (tt, (tt, (tt, tt))))
effects_in_scope S now who (command.OrgRemove o u) may = (tt, tt)
effects_in_scope S now who (command.TeamCreate o t) may = (tt, tt)
effects_in_scope S now who (command.TeamDestroy o t) may = (tt, tt)
effects_in_scope S now who (command.TeamRemove o t u) may = (tt, tt)
effects_in_scope S now who (command.Revoke o t p) may = (tt, tt)
effects_in_scope S now who (command.SetAccess p status) may = (tt, tt)
effects_in_scope S now who (command.OwnerRemove p u) may = (tt, tt)
effects_in_scope S now who (command.TagSet p t v) may = (tt, tt)
effects_in_scope S now who (command.TagRemove p t) may = (tt, tt)
effects_in_scope S now who _ may = tt

effects_for_in_scope : (S : State) (now : ℕ) (who : Option Caller) (what : Action) → refusal_for S now who what ≡ None → AreInScope (effects_for S now who what)
effects_for_in_scope S now None what may = tt
effects_for_in_scope S now (Some who) what may = effects_in_scope S now who what may

-- what a request changes that nothing refuses, whatever the state is in which it was decided
pub made_in_scope : (S : State) (r : Request) (changes : List Change) (c : Contents) → refusal S r ≡ None → changes ≡ effects_of S r → GrantsInScope c → GrantsInScope (all_stored changes c)
made_in_scope S r changes c may are scoped =
    subst (λ (made : List Change). GrantsInScope (all_stored made c)) (sym are) (changes_keep (effects_of S r) c (effects_for_in_scope S r.at (caller_of S r.who) r.what may) scoped)

keeps_if : (b : Bool) (c : Contents) (r : Request) → (b ≡ true → refusal (registry_of c) r ≡ None) → GrantsInScope c → GrantsInScope (cond b (stepped r c) c)
keeps_if true c r allowed scoped = made_in_scope (registry_of c) r (effects_of (registry_of c) r) c (allowed refl) refl scoped
keeps_if false c r allowed scoped = scoped

-- what an outcome leaves
pub grants_next : (c d : Contents) (r : Request) (o : Outcome) → IsAnswer (registry_of c) r o → d ≡ next_stored r o c → GrantsInScope c → GrantsInScope d
grants_next c d r o answered is scoped = subst GrantsInScope (sym is) (keeps_if (enters r o) c r (accepted (registry_of c) r o answered) scoped)
