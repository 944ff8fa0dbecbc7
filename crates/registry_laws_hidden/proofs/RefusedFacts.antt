-- What concerns a package that a caller doesn't read is refused to them for the same reason on the
-- registry and on the registry without the package.
use Rattle.std.proofs.Common.{◌≡◌, ℕ, Bool, true, false, not, ◌&&◌, ◌||◌, refl, sym, ap, ◌∙◌, true≢false, Some, None, Ok, Err, Option, is_some, if◌then◌else◌}
use Rattle.std.specs.Option.{option_or}
use Rattle.registry_names.specs.Maps.{at}
use Rattle.registry_names.specs.Names.{scope_of}
use Rattle.registry_names.specs.Texts.{Text, is}
use Rattle.registry_names.specs.declared.refusal.Refusal.{Refusal}
use Rattle.registry_names.specs.declared.refusal.Refusal.TheVariants.{NoCaller, NotFound, Denied, OtherScope}
use Rattle.registry_names.specs.declared.refusal.Rule.{Rule}
use Rattle.registry_names.specs.declared.refusal.Rule.TheVariants.{A3, A4, A6, A7, A8}
use Rattle.registry_names.proofs.KeyFacts.{text_key, triple_key, same_true, same_self}
use Rattle.registry_names.proofs.MapFacts.{at-erase_same}
use Rattle.registry_access.specs.Access.{Access}
use Rattle.registry_access.specs.Callers.{role_of}
use Rattle.registry_access.specs.Hiding as access
use Rattle.registry_access.specs.Levels.{is_owner_or_admin, reads, writes}
use Rattle.registry_access.specs.Policy.{Verdict, by_rule, for_known, may_manage_maintainers, may_manage_teams, may_publish, may_read, may_write, where_found}
use Rattle.registry_access.specs.Positions.{has_organisation, has_scope, level_at, level_in, position_in, scope_role}
use Rattle.registry_access.specs.declared.caller.Caller.{Caller}
use Rattle.registry_access.specs.declared.caller.Caller.TheVariants.{Operator, User, Anonymous}
use Rattle.registry_access.specs.declared.grant.Grant.{Grant}
use Rattle.registry_access.specs.declared.levels.Level.{Level}
use Rattle.registry_access.specs.declared.levels.Level.TheVariants.{Nothing}
use Rattle.registry_access.specs.declared.role.Role.{Role}
use Rattle.registry_publish.specs.Form.{FormParts}
use Rattle.registry_rules.specs.Actions.{names_package}
use Rattle.registry_rules.specs.Kept.{IsSound}
use Rattle.registry_rules.specs.Refusals.{grant_refusal, is_scope, refuse, refusal_by, state_refusal, unless_allowed, unless_there}
use Rattle.registry_rules.specs.State.{State, has_grant, has_team, is_published}
use Rattle.registry_rules.specs.declared.request.Action.{Action}
use Rattle.registry_rules.specs.declared.request.Action.TheVariants as command
use Rattle.registry_rules.specs.declared.request.Action.TheVariants.{Revoke, SetAccess, OwnerAdd, OwnerRemove, Publish, TagSet, TagRemove, Withdraw, WithdrawAll, Deprecate}
use Rattle.registry_laws_hidden.specs.Concerns.{queried_package}
use Rattle.registry_laws_hidden.specs.Without.{state_without}
use Rattle.registry_laws_hidden.proofs.AcceptedFacts.{same_role}
use Rattle.registry_laws_hidden.proofs.KeepFacts.{at-unkept}
use Rattle.registry_laws_hidden.proofs.NamedFacts.{other_triple}
use Rattle.registry_laws_hidden.proofs.Subjects.{concerns, is_about, reads_it}

-- whether a member of the package's scope publishes the package
abbrev pub is_member_publish : State → Caller → Action → Text → Bool
is_member_publish S who (Publish f) p = is f.name p && is_some (scope_role S.access who (scope_of p))
is_member_publish S who _ p = false

-- refused for one reason by both
abbrev pub AreRefused : State → State → ℕ → Caller → Action → Type 0
AreRefused S T now who what = (why : Refusal) × (refusal_by S now who what ≡ Some why) × (refusal_by T now who what ≡ Some why)

refused_both : (S T : State) (now : ℕ) (who : Caller) (what : Action) (why : Refusal) → (refusal_by S now who what ≡ Some why) × (refusal_by T now who what ≡ Some why) → AreRefused S T now who what
refused_both S T now who what why both = (why, both.0, both.1)

-- what the policy refuses is refused, whatever the state is
turned_first : (first rest : Option Refusal) (why : Refusal) → first ≡ Some why → option_or first rest ≡ Some why
turned_first first rest why e = ap (λ o. option_or o rest) e

-- ---- of a package that isn't read

-- why it isn't shown
abbrev unread : Caller → Refusal
unread Operator = NotFound
unread (User u) = NotFound
unread Anonymous = NoCaller

unread_turned : (who : Caller) (l : Level) (next : Level → Verdict) → l ≡ Nothing → unless_allowed (for_known who (where_found (reads l) (next l))) ≡ Some (unread who)
unread_turned who l next e = ap (λ x. unless_allowed (for_known who (where_found (reads x) (next x)))) e ∙ by_caller who
  where
    by_caller : (who : Caller) → unless_allowed (for_known who (Err NotFound)) ≡ Some (unread who)
    by_caller Operator = refl
    by_caller (User u) = refl
    by_caller Anonymous = refl

gone : (A : Access) (p : Text) → at (access.access_without A p).statuses p ≡ None
gone A p = at-erase_same text_key A.statuses p

pub nothing_left : (A : Access) (who : Caller) (p : Text) → level_in (access.access_without A p) who p ≡ Nothing
nothing_left A who p = ap (λ s. level_at (record (position_in (access.access_without A p) who p) { status = s })) (gone A p)

module _ (S : State) (now : ℕ) (who : Caller) (p : Text) (nothing : level_in S.access who p ≡ Nothing) where
  abbrev T : State
  T = state_without S p

  level_here : (q : Text) → is q p ≡ true → level_in S.access who q ≡ Nothing
  level_here q here = ap (level_in S.access who) (same_true text_key q p here) ∙ nothing

  level_there : (q : Text) → is q p ≡ true → level_in T.access who q ≡ Nothing
  level_there q here = ap (level_in T.access who) (same_true text_key q p here) ∙ nothing_left S.access who p

  unwritten : (q : Text) → is q p ≡ true → (a b : Option Refusal)
      → (option_or (unless_allowed (may_write who (position_in S.access who q))) a ≡ Some (unread who)) × (option_or (unless_allowed (may_write who (position_in T.access who q))) b ≡ Some (unread who))
  unwritten q here a b = (
    turned_first _ a (unread who) (unread_turned who (level_in S.access who q) (λ l. by_rule A6 (writes l)) (level_here q here)),
    turned_first _ b (unread who) (unread_turned who (level_in T.access who q) (λ l. by_rule A6 (writes l)) (level_there q here)),
  )

  unmanaged : (q : Text) → is q p ≡ true → (a b : Option Refusal)
      → (option_or (unless_allowed (may_manage_maintainers who (position_in S.access who q))) a ≡ Some (unread who))
      × (option_or (unless_allowed (may_manage_maintainers who (position_in T.access who q))) b ≡ Some (unread who))
  unmanaged q here a b = (
    turned_first _ a (unread who) (unread_turned who (level_in S.access who q) (λ l. by_rule A7 (position_in S.access who q).maintainer) (level_here q here)),
    turned_first _ b (unread who) (unread_turned who (level_in T.access who q) (λ l. by_rule A7 (position_in T.access who q).maintainer) (level_there q here)),
  )

  unshown : (q : Text) → is q p ≡ true → (a b : Option Refusal)
      → (option_or (unless_allowed (may_read (position_in S.access who q))) a ≡ Some NotFound) × (option_or (unless_allowed (may_read (position_in T.access who q))) b ≡ Some NotFound)
  unshown q here a b = (
    ap (λ l. option_or (unless_allowed (where_found (reads l) (Ok A8))) a) (level_here q here),
    ap (λ l. option_or (unless_allowed (where_found (reads l) (Ok A8))) b) (level_there q here),
  )

  -- a query about it
  asked_refused : (what : Action) (q : Text) → queried_package what ≡ Some q → is q p ≡ true → AreRefused S T now who what
  asked_refused what q asks here =
      let shown = unshown q here (state_refusal S now what) (state_refusal T now what) in (
        NotFound,
        ap (λ (v : Verdict). option_or (unless_allowed v) (state_refusal S now what)) (reads_it S.access who what q asks) ∙ shown.0,
        ap (λ (v : Verdict). option_or (unless_allowed v) (state_refusal T now what)) (reads_it T.access who what q asks) ∙ shown.1,
      )

  query_refused : (what : Action) (o : Option Text) → queried_package what ≡ o → is_about o (names_package what p) p ≡ true → names_package what p ≡ false → AreRefused S T now who what
  query_refused what (Some q) asks here unnamed = asked_refused what q asks here
  query_refused what None asks here unnamed = absurd (true≢false (sym here ∙ unnamed))

-- ---- of a package of a scope in which the caller is no owner and no admin

-- why one who is no member of the scope publishes nothing there
abbrev unjoined : Caller → Bool → Refusal
unjoined Operator there = if there then Denied A4 else NotFound
unjoined (User u) there = if there then Denied A4 else NotFound
unjoined Anonymous there = NoCaller

unjoined_turned : (who : Caller) (there : Bool) → unless_allowed (for_known who (where_found there (Err (Denied A4)))) ≡ Some (unjoined who there)
unjoined_turned Operator true = refl
unjoined_turned Operator false = refl
unjoined_turned (User u) true = refl
unjoined_turned (User u) false = refl
unjoined_turned Anonymous there = refl

-- a publish of a name with this scope, by one who has no role there
unpublished : (A : Access) (who : Caller) (q o : Text) → scope_of q ≡ Some o → role_of A who o ≡ None → unless_allowed (may_publish who (is_some (scope_of q)) (position_in A who q)) ≡ Some (unjoined who (has_organisation A o))
unpublished A who q o scoped none =
    let Q = position_in A who q in
    ap (λ (s : Option Text). unless_allowed (may_publish who (is_some s) (record Q { organisation = has_scope A s; role = scope_role A who s }))) scoped
    ∙ ap (λ (r : Option Role). unless_allowed (for_known who (where_found (has_organisation A o) (if is_some r then (if is_some Q.status then by_rule A6 (writes (level_at (record Q { organisation = has_scope A (Some o); role = scope_role A who (Some o) }))) else Ok A4) else Err (Denied A4))))) none
    ∙ unjoined_turned who (has_organisation A o)

roleless : (o : Option Role) → is_some o ≡ false → o ≡ None
roleless None e = refl
roleless (Some r) e = absurd (true≢false e)

-- who manages the teams of an organisation is an owner or an admin there
managing : (who : Caller) (there : Bool) (role : Option Role) (rule : Rule) → may_manage_teams who there role ≡ Ok rule → is_owner_or_admin role ≡ true
managing Operator true role rule e = by_role (is_owner_or_admin role) e
  where
    by_role : (b : Bool) → by_rule A3 b ≡ Ok rule → b ≡ true
    by_role true e = refl
    by_role false e = absurd cc
managing (User u) true role rule e = by_role (is_owner_or_admin role) e
  where
    by_role : (b : Bool) → by_rule A3 b ≡ Ok rule → b ≡ true
    by_role true e = refl
    by_role false e = absurd cc
managing Operator false role rule e = absurd cc
managing (User u) false role rule e = absurd cc
managing Anonymous there role rule e = absurd cc

-- what somebody else's organisation may not be granted
abbrev elsewhere : Bool → Refusal
elsewhere team = if team then OtherScope else NotFound

ungranted : (team published : Bool) (o q : Text) → is_scope o (scope_of q) ≡ false → grant_refusal team published o q ≡ Some (elsewhere team)
ungranted team published o q apart = ap (λ b. refuse (not team || (b && not published)) NotFound (refuse (not b) OtherScope None)) apart ∙ by_team team
  where
    by_team : (b : Bool) → refuse (not b || (false && not published)) NotFound (refuse (not false) OtherScope None) ≡ Some (elsewhere b)
    by_team true = refl
    by_team false = refl

module _ (S : State) (now : ℕ) (who : Caller) (p o : Text) (sound : IsSound S.access) (scoped : scope_of p ≡ Some o) (unmanaging : is_owner_or_admin (role_of S.access who o) ≡ false) where
  -- an organisation of which they manage the teams is another
  another : (r : Text) (rule : Rule) → may_manage_teams who (has_organisation S.access r) (role_of S.access who r) ≡ Ok rule → (b : Bool) → is o r ≡ b → b ≡ false
  another r rule e true same =
      absurd (true≢false (sym (managing who (has_organisation S.access r) (role_of S.access who r) rule e) ∙ ap (λ x. is_owner_or_admin (role_of S.access who x)) (sym (same_true text_key o r same)) ∙ unmanaging))
  another r rule e false same = refl

  scope_here : (q : Text) → is q p ≡ true → scope_of q ≡ Some o
  scope_here q here = ap scope_of (same_true text_key q p here) ∙ scoped

  by_verdict : (r : Text) (a b : Option Refusal) (v : Verdict) → may_manage_teams who (has_organisation S.access r) (role_of S.access who r) ≡ v
      → ((rule : Rule) → v ≡ Ok rule → (why : Refusal) × (a ≡ Some why) × (b ≡ Some why))
      → (why : Refusal) × (option_or (unless_allowed (may_manage_teams who (has_organisation S.access r) (role_of S.access who r))) a ≡ Some why)
      × (option_or (unless_allowed (may_manage_teams who (has_organisation S.access r) (role_of (state_without S p).access who r))) b ≡ Some why)
  by_verdict r a b (Err why) is later =
      (why, ap (λ v. option_or (unless_allowed v) a) is, ap (λ x. option_or (unless_allowed (may_manage_teams who (has_organisation S.access r) x)) b) (same_role S.access p who r) ∙ ap (λ v. option_or (unless_allowed v) b) is)
  by_verdict r a b (Ok rule) is later =
      let more = later rule refl in (
        more.0,
        ap (λ v. option_or (unless_allowed v) a) is ∙ more.1,
        ap (λ x. option_or (unless_allowed (may_manage_teams who (has_organisation S.access r) x)) b) (same_role S.access p who r) ∙ ap (λ v. option_or (unless_allowed v) b) is ∙ more.2,
      )

  grant_refused : (r t q : Text) (grant : Grant) → is q p ≡ true → AreRefused S (state_without S p) now who (command.Grant r t q grant)
  grant_refused r t q grant here = by_verdict r _ _ (may_manage_teams who (has_organisation S.access r) (role_of S.access who r)) refl (λ rule e.
      let apart = ap (is_scope r) (scope_here q here) ∙ another r rule e (is o r) refl in
      (elsewhere (has_team S r t), ungranted (has_team S r t) (is_published S q) r q apart, ungranted (has_team S r t) (is_published (state_without S p) q) r q apart))

  none_granted : (r t q : Text) → is o r ≡ false → is q p ≡ true → (b : Bool) → has_grant S r t q ≡ b → b ≡ false
  none_granted r t q apart here true e =
      let same : ◌≡◌ {A = Option Text} (Some o) (Some r) = sym (scope_here q here) ∙ (sound.grants r t q e).scope in
      let one : o ≡ r = cc in
      absurd (true≢false (sym (same_self text_key o) ∙ ap (is o) one ∙ apart))
  none_granted r t q apart here false e = refl

  revoke_refused : (r t q : Text) → is q p ≡ true → AreRefused S (state_without S p) now who (Revoke r t q)
  revoke_refused r t q here = by_verdict r _ _ (may_manage_teams who (has_organisation S.access r) (role_of S.access who r)) refl (λ rule e. (
    NotFound,
    ap unless_there (none_granted r t q (another r rule e (is o r) refl) here (has_grant S r t q) refl),
    ap (λ (g : Option Grant). unless_there (is_some g)) (at-unkept triple_key (other_triple p) S.access.grants (r, (t, q)) (ap not here)),
  ))

  publish_refused : (f : FormParts) → is f.name p ≡ true → is_member_publish S who (Publish f) p ≡ false → AreRefused S (state_without S p) now who (Publish f)
  publish_refused f here stranger =
      let none : role_of S.access who o ≡ None = roleless (role_of S.access who o) (sym (ap (λ b. b && is_some (scope_role S.access who (scope_of p))) here ∙ ap (λ s. is_some (scope_role S.access who s)) scoped) ∙ stranger) in
      let scope = scope_here f.name here in (
        unjoined who (has_organisation S.access o),
        turned_first _ (state_refusal S now (Publish f)) _ (unpublished S.access who f.name o scope none),
        turned_first _ (state_refusal (state_without S p) now (Publish f)) _ (unpublished (state_without S p).access who f.name o scope (same_role S.access p who o ∙ none)),
      )

  pub concerned_refused : (what : Action) → concerns what p ≡ true → level_in S.access who p ≡ Nothing → is_member_publish S who what p ≡ false → AreRefused S (state_without S p) now who what
  concerned_refused (command.Grant r t q grant) here nothing stranger = grant_refused r t q grant here
  concerned_refused (Revoke r t q) here nothing stranger = revoke_refused r t q here
  concerned_refused (SetAccess q status) here nothing stranger =
      refused_both S (state_without S p) now who (SetAccess q status) (unread who) (unwritten S now who p nothing q here (state_refusal S now (SetAccess q status)) (state_refusal (state_without S p) now (SetAccess q status)))
  concerned_refused (OwnerAdd q u) here nothing stranger =
      refused_both S (state_without S p) now who (OwnerAdd q u) (unread who) (unmanaged S now who p nothing q here (state_refusal S now (OwnerAdd q u)) (state_refusal (state_without S p) now (OwnerAdd q u)))
  concerned_refused (OwnerRemove q u) here nothing stranger =
      refused_both S (state_without S p) now who (OwnerRemove q u) (unread who) (unmanaged S now who p nothing q here (state_refusal S now (OwnerRemove q u)) (state_refusal (state_without S p) now (OwnerRemove q u)))
  concerned_refused (Publish f) here nothing stranger = publish_refused f here stranger
  concerned_refused (TagSet q t v) here nothing stranger =
      refused_both S (state_without S p) now who (TagSet q t v) (unread who) (unwritten S now who p nothing q here (state_refusal S now (TagSet q t v)) (state_refusal (state_without S p) now (TagSet q t v)))
  concerned_refused (TagRemove q t) here nothing stranger =
      refused_both S (state_without S p) now who (TagRemove q t) (unread who) (unwritten S now who p nothing q here (state_refusal S now (TagRemove q t)) (state_refusal (state_without S p) now (TagRemove q t)))
  concerned_refused (Withdraw q v) here nothing stranger =
      refused_both S (state_without S p) now who (Withdraw q v) (unread who) (unwritten S now who p nothing q here (state_refusal S now (Withdraw q v)) (state_refusal (state_without S p) now (Withdraw q v)))
  concerned_refused (WithdrawAll q) here nothing stranger =
      refused_both S (state_without S p) now who (WithdrawAll q) (unread who) (unwritten S now who p nothing q here (state_refusal S now (WithdrawAll q)) (state_refusal (state_without S p) now (WithdrawAll q)))
  concerned_refused (Deprecate q selector message) here nothing stranger =
      refused_both S (state_without S p) now who (Deprecate q selector message) (unread who) (unwritten S now who p nothing q here (state_refusal S now (Deprecate q selector message)) (state_refusal (state_without S p) now (Deprecate q selector message)))
  concerned_refused what here nothing stranger = query_refused S now who p nothing what (queried_package what) refl here refl
