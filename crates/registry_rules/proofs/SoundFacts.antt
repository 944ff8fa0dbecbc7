-- A change of who is there, and of what they may do, keeps references intact.
-- Nothing is asked of how names are spelled.
use Rattle.std.proofs.Common.{◌≡◌, ◌≢◌, Bool, true, false, cond, not, ◌&&◌, Option, Some, None, is_some, refl, sym, ap, ◌∙◌, subst, true≢false}
use Rattle.std.proofs.lemmas.Bool.{and_right}
use Rattle.std.specs.Prelude.{IsSome}
use Rattle.registry_names.specs.Keys.{Pair, Triple, pair_is}
use Rattle.registry_names.specs.Maps.{TextMap, PairMap, at, put, erase, keep}
use Rattle.registry_names.specs.Texts.{Text, is}
use Rattle.registry_names.proofs.KeyFacts.{text_key, pair_key, triple_key, same_true}
use Rattle.registry_names.proofs.MapFacts.{at-put_same, at-put_other, at-erase, at-erase_other, at-keep}
use Rattle.registry_names.proofs.PutFacts.{each_put, some_before, put_there, still_there}
use Rattle.registry_access.specs.Access.{Access}
use Rattle.registry_access.specs.declared.role.Role.{Role}
use Rattle.registry_access.specs.declared.role.Role.TheVariants.{Owner}
use Rattle.registry_names.specs.Names.{scope_of}
use Rattle.registry_names.specs.declared.status.Status.{Status}
use Rattle.registry_names.specs.declared.status.Status.TheVariants.{Restricted}
use Rattle.registry_access.specs.declared.caller.Caller.{Caller}
use Rattle.registry_access.specs.declared.caller.Caller.TheVariants.{Operator, User, Anonymous}
use Rattle.registry_access.specs.declared.grant.Grant.{Grant}
use Rattle.registry_access.specs.declared.grant.Grant.TheVariants.{ReadWrite}
use Rattle.registry_rules.proofs.PublishedFacts.{statuses_after, granted_first, grants_after, maintained_first, maintainers_after, access_after}
use Rattle.registry_rules.specs.Kept.{IsGrant, IsSound}
use Rattle.registry_rules.specs.State.{developers}

still_grant : (A T : Access) (o t p : Text) → (IsSome (at A.teams (o, t)) → IsSome (at T.teams (o, t))) → (IsSome (at A.statuses p) → IsSome (at T.statuses p)) → IsGrant A o t p → IsGrant T o t p
still_grant A T o t p team status grant = record { team = team grant.team; status = status grant.status; scope = grant.scope }

-- ---- users and tokens

pub user_added : (A : Access) (u : Text) → IsSound A → IsSound (record A { users = put A.users u tt })
user_added A u sound = record {
  tokens = λ digest w h. still w (sound.tokens digest w h);
  roles = λ o w h. let has = sound.roles o w h in (has.0, still w has.1);
  owners = sound.owners;
  first_teams = sound.first_teams;
  teams = sound.teams;
  team_members = sound.team_members;
  grants = λ o t p h. still_grant A (record A { users = put A.users u tt }) o t p (λ team. team) (λ status. status) (sound.grants o t p h);
  maintainers = λ p w h. let has = sound.maintainers p w h in (has.0, still w has.1);
  unscoped = sound.unscoped;
  maintained = sound.maintained;
}
  where
    still : (w : Text) → IsSome (at A.users w) → IsSome (at (put A.users u tt) w)
    still w h = still_there text_key A.users u tt w h

pub token_added : (A : Access) (digest u : Text) → IsSome (at A.users u) → IsSound A
    → IsSound (record A { tokens = put A.tokens digest u })
token_added A digest u there sound = record {
  tokens = each_put text_key A.tokens digest u (λ d w. IsSome (at A.users w)) sound.tokens there;
  roles = sound.roles;
  owners = sound.owners;
  first_teams = sound.first_teams;
  teams = sound.teams;
  team_members = sound.team_members;
  grants = λ o t p h. still_grant A (record A { tokens = put A.tokens digest u }) o t p (λ team. team) (λ status. status) (sound.grants o t p h);
  maintainers = sound.maintainers;
  unscoped = sound.unscoped;
  maintained = sound.maintained;
}

-- where tokens end, and no other has changed
pub tokens_left : (A : Access) (tokens : TextMap Text) → ((d u : Text) → at tokens d ≡ Some u → at A.tokens d ≡ Some u) → IsSound A → IsSound (record A { tokens = tokens })
tokens_left A tokens left sound = record {
  tokens = λ d u h. sound.tokens d u (left d u h);
  roles = sound.roles;
  owners = sound.owners;
  first_teams = sound.first_teams;
  teams = sound.teams;
  team_members = sound.team_members;
  grants = λ o t p h. still_grant A (record A { tokens = tokens }) o t p (λ team. team) (λ status. status) (sound.grants o t p h);
  maintainers = sound.maintainers;
  unscoped = sound.unscoped;
  maintained = sound.maintained;
}

-- ---- organisations

abbrev pub HasOwner : PairMap Role → Text → Type 0
HasOwner roles o = (w : Text) × (at roles (o, w) ≡ Some Owner)

-- where one member alone changes their role, and the organisation keeps an owner
owners_left : (A : Access) (roles : PairMap Role) (o u : Text) → ((k : Pair) → pair_is (o, u) k ≡ false → at roles k ≡ at A.roles k) → (at A.roles (o, u) ≡ Some Owner → HasOwner roles o) → IsSound A
    → (p : Text) → IsSome (at A.organisations p) → HasOwner roles p
owners_left A roles o u same here sound p h = by_test (sound.owners p h).0 (sound.owners p h).1 (pair_is (o, u) (p, (sound.owners p h).0)) refl
  where
    by_test : (w : Text) → at A.roles (p, w) ≡ Some Owner → (b : Bool) → pair_is (o, u) (p, w) ≡ b → HasOwner roles p
    by_test w e true s = let one = same_true pair_key (o, u) (p, w) s in subst (HasOwner roles) (ap (λ (k : Pair). k.0) one) (here (ap (at A.roles) one ∙ e))
    by_test w e false s = (w, same (p, w) s ∙ e)

abbrev pub created : Access → Text → Text → Access
created A o u = record A {
  organisations = put A.organisations o tt;
  roles = put A.roles (o, u) Owner;
  teams = put A.teams (o, developers) tt;
  team_members = put A.team_members (o, (developers, u)) tt;
}

pub organisation_created : (A : Access) (o u : Text) → IsSome (at A.users u) → IsSound A → IsSound (created A o u)
organisation_created A o u there sound = record {
  tokens = sound.tokens;
  roles = λ p w h. some_before pair_key A.roles (o, u) Owner (λ k. IsSome (at T.organisations k.0) × IsSome (at A.users k.1))
      (λ k e. let has = sound.roles k.0 k.1 e in (still_organisation k.0 has.0, has.1)) (organisation_here, there) (p, w) h;
  owners = some_before text_key A.organisations o tt (HasOwner T.roles)
      (owners_left A T.roles o u (λ k other. at-put_other pair_key A.roles (o, u) Owner k other) (λ e. owner_here) sound) owner_here;
  first_teams = some_before text_key A.organisations o tt (λ p. IsSome (at T.teams (p, developers))) (λ p e. still_team (p, developers) (sound.first_teams p e)) team_here;
  teams = λ p t h. some_before pair_key A.teams (o, developers) tt (λ k. IsSome (at T.organisations k.0)) (λ k e. still_organisation k.0 (sound.teams k.0 k.1 e)) organisation_here (p, t) h;
  team_members = λ p t w h. some_before triple_key A.team_members (o, (developers, u)) tt (λ k. IsSome (at T.teams (k.0, k.1.0)) × IsSome (at T.roles (k.0, k.1.1)))
      (λ k e. let has = sound.team_members k.0 k.1.0 k.1.1 e in (still_team (k.0, k.1.0) has.0, still_there pair_key A.roles (o, u) Owner (k.0, k.1.1) has.1))
      (team_here, put_there pair_key A.roles (o, u) Owner) (p, (t, w)) h;
  grants = λ p t q h. still_grant A T p t q (still_team (p, t)) (λ status. status) (sound.grants p t q h);
  maintainers = sound.maintainers;
  unscoped = sound.unscoped;
  maintained = sound.maintained;
}
  where
    T : Access
    T = created A o u

    organisation_here : IsSome (at (put A.organisations o tt) o)
    organisation_here = put_there text_key A.organisations o tt

    still_organisation : (p : Text) → IsSome (at A.organisations p) → IsSome (at (put A.organisations o tt) p)
    still_organisation p h = still_there text_key A.organisations o tt p h

    team_here : IsSome (at (put A.teams (o, developers) tt) (o, developers))
    team_here = put_there pair_key A.teams (o, developers) tt

    still_team : (k : Pair) → IsSome (at A.teams k) → IsSome (at (put A.teams (o, developers) tt) k)
    still_team k h = still_there pair_key A.teams (o, developers) tt k h

    owner_here : HasOwner (put A.roles (o, u) Owner) o
    owner_here = (u, at-put_same pair_key A.roles (o, u) Owner)

-- ---- members

-- a member who has a role, while the organisation keeps an owner
pub role_given : (A : Access) (o u : Text) (role : Role) → IsSome (at A.organisations o) → IsSome (at A.users u) → (at A.roles (o, u) ≡ Some Owner → HasOwner (put A.roles (o, u) role) o)
    → IsSound A → IsSound (record A { roles = put A.roles (o, u) role })
role_given A o u role organisation user left sound = record {
  tokens = sound.tokens;
  roles = λ p w h. some_before pair_key A.roles (o, u) role (λ k. IsSome (at A.organisations k.0) × IsSome (at A.users k.1)) (λ k e. sound.roles k.0 k.1 e) (organisation, user) (p, w) h;
  owners = owners_left A (put A.roles (o, u) role) o u (λ k other. at-put_other pair_key A.roles (o, u) role k other) left sound;
  first_teams = sound.first_teams;
  teams = sound.teams;
  team_members = λ p t w h. let has = sound.team_members p t w h in (has.0, still_there pair_key A.roles (o, u) role (p, w) has.1);
  grants = λ p t q h. still_grant A (record A { roles = put A.roles (o, u) role }) p t q (λ team. team) (λ status. status) (sound.grants p t q h);
  maintainers = sound.maintainers;
  unscoped = sound.unscoped;
  maintained = sound.maintained;
}

-- a member who is in a team
pub team_joined : (A : Access) (o t u : Text) → IsSome (at A.teams (o, t)) → IsSome (at A.roles (o, u)) → IsSound A
    → IsSound (record A { team_members = put A.team_members (o, (t, u)) tt })
team_joined A o t u team role sound = record {
  tokens = sound.tokens;
  roles = sound.roles;
  owners = sound.owners;
  first_teams = sound.first_teams;
  teams = sound.teams;
  team_members = λ p s w h. some_before triple_key A.team_members (o, (t, u)) tt (λ k. IsSome (at A.teams (k.0, k.1.0)) × IsSome (at A.roles (k.0, k.1.1)))
      (λ k e. sound.team_members k.0 k.1.0 k.1.1 e) (team, role) (p, (s, w)) h;
  grants = λ p s q h. still_grant A (record A { team_members = put A.team_members (o, (t, u)) tt }) p s q (λ team. team) (λ status. status) (sound.grants p s q h);
  maintainers = sound.maintainers;
  unscoped = sound.unscoped;
  maintained = sound.maintained;
}

pub member_joined : (A : Access) (o u : Text) (role : Role) → IsSome (at A.organisations o) → IsSome (at A.users u) → (at A.roles (o, u) ≡ Some Owner → HasOwner (put A.roles (o, u) role) o)
    → IsSound A
    → IsSound (record A { roles = put A.roles (o, u) role; team_members = put A.team_members (o, (developers, u)) tt })
member_joined A o u role organisation user left sound =
    team_joined (record A { roles = put A.roles (o, u) role }) o developers u (sound.first_teams o organisation) (put_there pair_key A.roles (o, u) role)
    (role_given A o u role organisation user left sound)

-- what is there after some keys are dropped was there, under a key that isn't dropped
pub was_kept : {X : Type 0} (b : Bool) (old : Option X) → IsSome (cond b old None) → (b ≡ true) × IsSome old
was_kept true old h = (refl, h)
was_kept false old h = absurd (true≢false (sym h))

pub was_left : {X : Type 0} (b : Bool) (old : Option X) → IsSome (cond b None old) → IsSome old
was_left true old h = absurd (true≢false (sym h))
was_left false old h = h

not_true : (b : Bool) → not b ≡ true → b ≡ false
not_true true h = absurd (true≢false (sym h))
not_true false h = refl

abbrev left : Access → Text → Text → Access
left A o u = record A { roles = erase A.roles (o, u); team_members = keep A.team_members (λ k. not (is o k.0 && is u k.1.1)) }

pub member_removed : (A : Access) (o u : Text) → (at A.roles (o, u) ≡ Some Owner → HasOwner (erase A.roles (o, u)) o) → IsSound A → IsSound (left A o u)
member_removed A o u owner sound = record {
  tokens = sound.tokens;
  roles = λ p w h. sound.roles p w (was_left _ _ (sym (ap is_some (at-erase pair_key A.roles (o, u) (p, w))) ∙ h));
  owners = owners_left A (erase A.roles (o, u)) o u (λ k other. at-erase_other pair_key A.roles (o, u) k other) owner sound;
  first_teams = sound.first_teams;
  teams = sound.teams;
  team_members = λ p t w h. stayed p t w (was_kept _ _ (sym (ap is_some (at-keep triple_key A.team_members (λ k. not (is o k.0 && is u k.1.1)) (p, (t, w)))) ∙ h));
  grants = λ p t q h. still_grant A (left A o u) p t q (λ team. team) (λ status. status) (sound.grants p t q h);
  maintainers = sound.maintainers;
  unscoped = sound.unscoped;
  maintained = sound.maintained;
}
  where
    stayed : (p t w : Text) → (not (is o p && is u w) ≡ true) × IsSome (at A.team_members (p, (t, w))) → IsSome (at A.teams (p, t)) × IsSome (at (erase A.roles (o, u)) (p, w))
    stayed p t w was = let has = sound.team_members p t w was.1 in (has.0, ap is_some (at-erase_other pair_key A.roles (o, u) (p, w) (not_true _ was.0)) ∙ has.1)

-- ---- teams

pub team_created : (A : Access) (o t : Text) → IsSome (at A.organisations o) → IsSound A
    → IsSound (record A { teams = put A.teams (o, t) tt })
team_created A o t organisation sound = record {
  tokens = sound.tokens;
  roles = sound.roles;
  owners = sound.owners;
  first_teams = λ p h. still (p, developers) (sound.first_teams p h);
  teams = λ p s h. some_before pair_key A.teams (o, t) tt (λ k. IsSome (at A.organisations k.0)) (λ k e. sound.teams k.0 k.1 e) organisation (p, s) h;
  team_members = λ p s w h. let has = sound.team_members p s w h in (still (p, s) has.0, has.1);
  grants = λ p s q h. still_grant A (record A { teams = put A.teams (o, t) tt }) p s q (still (p, s)) (λ status. status) (sound.grants p s q h);
  maintainers = sound.maintainers;
  unscoped = sound.unscoped;
  maintained = sound.maintained;
}
  where
    still : (k : Pair) → IsSome (at A.teams k) → IsSome (at (put A.teams (o, t) tt) k)
    still k h = still_there pair_key A.teams (o, t) tt k h

abbrev of_other_team : Text → Text → Triple → Bool
of_other_team o t k = not (is o k.0 && is t k.1.0)

abbrev pub destroyed : Access → Text → Text → Access
destroyed A o t = record A {
  teams = erase A.teams (o, t);
  team_members = keep A.team_members (of_other_team o t);
  grants = keep A.grants (of_other_team o t);
}

pub team_destroyed : (A : Access) (o t : Text) → is t developers ≡ false → IsSound A → IsSound (destroyed A o t)
team_destroyed A o t other sound = record {
  tokens = sound.tokens;
  roles = sound.roles;
  owners = sound.owners;
  first_teams = λ p h. still p developers (and_right (is o p) (is t developers) other) (sound.first_teams p h);
  teams = λ p s h. sound.teams p s (had p s h);
  team_members = λ p s w h. let was = was_kept _ _ (sym (ap is_some (at-keep triple_key A.team_members (of_other_team o t) (p, (s, w)))) ∙ h) in
      let has = sound.team_members p s w was.1 in (still p s (not_true _ was.0) has.0, has.1);
  grants = λ p s q h. let was = was_kept _ _ (sym (ap is_some (at-keep triple_key A.grants (of_other_team o t) (p, (s, q)))) ∙ h) in
      still_grant A (destroyed A o t) p s q (still p s (not_true _ was.0)) (λ status. status) (sound.grants p s q was.1);
  maintainers = sound.maintainers;
  unscoped = sound.unscoped;
  maintained = sound.maintained;
}
  where
    had : (p s : Text) → IsSome (at (erase A.teams (o, t)) (p, s)) → IsSome (at A.teams (p, s))
    had p s h = was_left (is o p && is t s) (at A.teams (p, s)) (sym (ap is_some (at-erase pair_key A.teams (o, t) (p, s))) ∙ h)

    still : (p s : Text) → (is o p && is t s) ≡ false → IsSome (at A.teams (p, s)) → IsSome (at (erase A.teams (o, t)) (p, s))
    still p s differ h = ap is_some (at-erase_other pair_key A.teams (o, t) (p, s) differ) ∙ h

pub team_left : (A : Access) (o t u : Text) → IsSound A
    → IsSound (record A { team_members = erase A.team_members (o, (t, u)) })
team_left A o t u sound = record {
  tokens = sound.tokens;
  roles = sound.roles;
  owners = sound.owners;
  first_teams = sound.first_teams;
  teams = sound.teams;
  team_members = λ p s w h. sound.team_members p s w (was_left _ _ (sym (ap is_some (at-erase triple_key A.team_members (o, (t, u)) (p, (s, w)))) ∙ h));
  grants = λ p s q h. still_grant A (record A { team_members = erase A.team_members (o, (t, u)) }) p s q (λ team. team) (λ status. status) (sound.grants p s q h);
  maintainers = sound.maintainers;
  unscoped = sound.unscoped;
  maintained = sound.maintained;
}

-- ---- rights to a package

pub grant_put : (A : Access) (o t p : Text) (grant : Grant) → IsGrant A o t p → IsSound A
    → IsSound (record A { grants = put A.grants (o, (t, p)) grant })
grant_put A o t p grant may sound = record {
  tokens = sound.tokens;
  roles = sound.roles;
  owners = sound.owners;
  first_teams = sound.first_teams;
  teams = sound.teams;
  team_members = sound.team_members;
  grants = λ r s q h. some_before triple_key A.grants (o, (t, p)) grant (λ k. IsGrant T k.0 k.1.0 k.1.1) (λ k e. same k.0 k.1.0 k.1.1 (sound.grants k.0 k.1.0 k.1.1 e)) (same o t p may) (r, (s, q)) h;
  maintainers = sound.maintainers;
  unscoped = sound.unscoped;
  maintained = sound.maintained;
}
  where
    T : Access
    T = record A { grants = put A.grants (o, (t, p)) grant }

    same : (r s q : Text) → IsGrant A r s q → IsGrant (record A { grants = put A.grants (o, (t, p)) grant }) r s q
    same r s q granted = record { team = granted.team; status = granted.status; scope = granted.scope }

pub grant_dropped : (A : Access) (o t p : Text) → IsSound A → IsSound (record A { grants = erase A.grants (o, (t, p)) })
grant_dropped A o t p sound = record {
  tokens = sound.tokens;
  roles = sound.roles;
  owners = sound.owners;
  first_teams = sound.first_teams;
  teams = sound.teams;
  team_members = sound.team_members;
  grants = λ r s q h. still_grant A (record A { grants = erase A.grants (o, (t, p)) }) r s q (λ team. team) (λ status. status)
      (sound.grants r s q (was_left _ _ (sym (ap is_some (at-erase triple_key A.grants (o, (t, p)) (r, (s, q)))) ∙ h)));
  maintainers = sound.maintainers;
  unscoped = sound.unscoped;
  maintained = sound.maintained;
}

-- a package that was published has this status
pub status_put : (A : Access) (p : Text) (status : Status) → IsSome (at A.statuses p) → (scope_of p ≡ None → status ≢ Restricted) → IsSound A
    → IsSound (record A { statuses = put A.statuses p status })
status_put A p status published may sound = record {
  tokens = sound.tokens;
  roles = sound.roles;
  owners = sound.owners;
  first_teams = sound.first_teams;
  teams = sound.teams;
  team_members = sound.team_members;
  grants = λ o t q h. still_grant A (record A { statuses = put A.statuses p status }) o t q (λ team. team) (still q) (sound.grants o t q h);
  maintainers = λ q u h. let has = sound.maintainers q u h in (still q has.0, has.1);
  unscoped = λ q none h. each_put text_key A.statuses p status (λ q s. scope_of q ≡ None → s ≢ Restricted) (λ q s e none f. sound.unscoped q none (e ∙ ap (λ (x : Status). Some x) f)) may q Restricted h none refl;
  maintained = some_before text_key A.statuses p status (λ q. scope_of q ≡ None → (u : Text) × IsSome (at A.maintainers (q, u))) sound.maintained (sound.maintained p published);
}
  where
    still : (q : Text) → IsSome (at A.statuses q) → IsSome (at (put A.statuses p status) q)
    still q h = still_there text_key A.statuses p status q h

pub owner_put : (A : Access) (p u : Text) → IsSome (at A.statuses p) → IsSome (at A.users u) → IsSound A
    → IsSound (record A { maintainers = put A.maintainers (p, u) tt })
owner_put A p u published there sound = record {
  tokens = sound.tokens;
  roles = sound.roles;
  owners = sound.owners;
  first_teams = sound.first_teams;
  teams = sound.teams;
  team_members = sound.team_members;
  grants = λ o t q h. still_grant A (record A { maintainers = put A.maintainers (p, u) tt }) o t q (λ team. team) (λ status. status) (sound.grants o t q h);
  maintainers = λ q w h. some_before pair_key A.maintainers (p, u) tt (λ k. IsSome (at A.statuses k.0) × IsSome (at A.users k.1)) (λ k e. sound.maintainers k.0 k.1 e) (published, there) (q, w) h;
  unscoped = sound.unscoped;
  maintained = λ q h none. let has = sound.maintained q h none in (has.0, still_there pair_key A.maintainers (p, u) tt (q, has.0) has.1);
}

abbrev pub HasMaintainer : PairMap (Unit {0}) → Text → Type 0
HasMaintainer m p = (u : Text) × IsSome (at m (p, u))

-- a maintainer goes, where another is left
pub owner_dropped : (A : Access) (p u : Text) → HasMaintainer (erase A.maintainers (p, u)) p → IsSound A
    → IsSound (record A { maintainers = erase A.maintainers (p, u) })
owner_dropped A p u left sound = record {
  tokens = sound.tokens;
  roles = sound.roles;
  owners = sound.owners;
  first_teams = sound.first_teams;
  teams = sound.teams;
  team_members = sound.team_members;
  grants = λ o t q h. still_grant A (record A { maintainers = erase A.maintainers (p, u) }) o t q (λ team. team) (λ status. status) (sound.grants o t q h);
  maintainers = λ q w h. sound.maintainers q w (was_left _ _ (sym (ap is_some (at-erase pair_key A.maintainers (p, u) (q, w))) ∙ h));
  unscoped = sound.unscoped;
  maintained = λ q h none. one_left q (sound.maintained q h none);
}
  where
    one_left : (q : Text) → HasMaintainer A.maintainers q → HasMaintainer (erase A.maintainers (p, u)) q
    one_left q has = by_test (pair_is (p, u) (q, has.0)) refl
      where
        by_test : (b : Bool) → pair_is (p, u) (q, has.0) ≡ b → HasMaintainer (erase A.maintainers (p, u)) q
        by_test true s = subst (HasMaintainer (erase A.maintainers (p, u))) (ap (λ (k : Pair). k.0) (same_true pair_key (p, u) (q, has.0) s)) left
        by_test false s = (has.0, ap is_some (at-erase_other pair_key A.maintainers (p, u) (q, has.0) s) ∙ has.1)

-- ---- a publish

-- who a new package belongs to is there
pub record HasPublisher (A : Access) (who : Caller) (p : Text) : Type 0 where
  pub team : (o : Text) → scope_of p ≡ Some o → IsSome (at A.teams (o, developers))
  pub user : at A.statuses p ≡ None → scope_of p ≡ None → (u : Text) × (who ≡ User u) × IsSome (at A.users u)

still_maintained : (m : PairMap (Unit {0})) (who : Caller) (p : Text) (scope : Option Text) (k : Pair) → IsSome (at m k) → IsSome (at (maintained_first who p scope m) k)
still_maintained m who p (Some o) k h = h
still_maintained m Operator p None k h = h
still_maintained m Anonymous p None k h = h
still_maintained m (User u) p None k h = still_there pair_key m (p, u) tt k h

still_maintained_after : (m : PairMap (Unit {0})) (who : Caller) (p : Text) (old : Option Status) (k : Pair) → IsSome (at m k) → IsSome (at (maintainers_after who p old m) k)
still_maintained_after m who p (Some s) k h = h
still_maintained_after m who p None k h = still_maintained m who p (scope_of p) k h

module _ (A : Access) (who : Caller) (p : Text) (status : Option Status) (has_status : IsSome (at (statuses_after A.statuses p status) p))
    (may : scope_of p ≡ None → status ≢ Some Restricted) (publisher : HasPublisher A who p) (sound : IsSound A) where
  abbrev after : Access
  after = access_after A who p status (at A.statuses p)

  status_stays : (o : Option Status) (q : Text) → IsSome (at A.statuses q) → IsSome (at (statuses_after A.statuses p o) q)
  status_stays None q h = h
  status_stays (Some s) q h = still_there text_key A.statuses p s q h

  public_after : (o : Option Status) → (scope_of p ≡ None → o ≢ Some Restricted) → (q : Text) (s : Status) → at (statuses_after A.statuses p o) q ≡ Some s → scope_of q ≡ None → s ≢ Restricted
  public_after None may = λ q s e u f. sound.unscoped q u (e ∙ ap (λ (x : Status). Some x) f)
  public_after (Some status) may =
      each_put text_key A.statuses p status (λ q s. scope_of q ≡ None → s ≢ Restricted)
      (λ q s e u f. sound.unscoped q u (e ∙ ap (λ (x : Status). Some x) f)) (λ u f. may u (ap (λ (x : Status). Some x) f))

  same_grant : (o t q : Text) → IsGrant A o t q → IsGrant after o t q
  same_grant o t q granted = record { team = granted.team; status = status_stays status q granted.status; scope = granted.scope }

  grants_by_scope : (scope : Option Text) → scope_of p ≡ scope → (o t q : Text) → IsSome (at (granted_first p scope A.grants) (o, (t, q))) → IsGrant after o t q
  grants_by_scope None e o t q h = same_grant o t q (sound.grants o t q h)
  grants_by_scope (Some r) e o t q h = some_before triple_key A.grants (r, (developers, p)) ReadWrite (λ k. IsGrant after k.0 k.1.0 k.1.1)
      (λ k there. same_grant k.0 k.1.0 k.1.1 (sound.grants k.0 k.1.0 k.1.1 there)) (record { team = publisher.team r e; status = has_status; scope = e }) (o, (t, q)) h

  grants_by_old : (old : Option Status) (o t q : Text) → IsSome (at (grants_after p old A.grants) (o, (t, q))) → IsGrant after o t q
  grants_by_old (Some s) o t q h = same_grant o t q (sound.grants o t q h)
  grants_by_old None o t q h = grants_by_scope (scope_of p) refl o t q h

  abbrev IsMaintainer : Text → Text → Type 0
  IsMaintainer q u = IsSome (at after.statuses q) × IsSome (at A.users u)

  same_maintainer : (q u : Text) → IsSome (at A.maintainers (q, u)) → IsMaintainer q u
  same_maintainer q u h = let has = sound.maintainers q u h in (status_stays status q has.0, has.1)

  there_is : (u w : Text) → who ≡ User u → who ≡ User w → IsSome (at A.users u) → IsSome (at A.users w)
  there_is u w e f h = let same : User u ≡ User w = sym e ∙ f in let one : u ≡ w = cc in subst (λ x. IsSome (at A.users x)) one h

  maintainers_by_scope : (by : Caller) → who ≡ by → at A.statuses p ≡ None → (scope : Option Text) → scope_of p ≡ scope → (q u : Text) → IsSome (at (maintained_first by p scope A.maintainers) (q, u)) → IsMaintainer q u
  maintainers_by_scope by f none (Some o) e q u h = same_maintainer q u h
  maintainers_by_scope Operator f none None e q u h = same_maintainer q u h
  maintainers_by_scope Anonymous f none None e q u h = same_maintainer q u h
  maintainers_by_scope (User w) f none None e q u h = some_before pair_key A.maintainers (p, w) tt (λ k. IsMaintainer k.0 k.1) (λ k there. same_maintainer k.0 k.1 there)
      (has_status, (let user = publisher.user none e in there_is user.0 w user.1 f user.2)) (q, u) h

  maintainers_by_old : (old : Option Status) → at A.statuses p ≡ old → (q u : Text) → IsSome (at (maintainers_after who p old A.maintainers) (q, u)) → IsMaintainer q u
  maintainers_by_old (Some s) e q u h = same_maintainer q u h
  maintainers_by_old None e q u h = maintainers_by_scope who refl e (scope_of p) refl q u h

  abbrev IsMaintained : Text → Type 0
  IsMaintained q = scope_of q ≡ None → HasMaintainer after.maintainers q

  still_one : (q : Text) → IsSome (at A.statuses q) → IsMaintained q
  still_one q h none = let has = sound.maintained q h none in (has.0, still_maintained_after A.maintainers who p (at A.statuses p) (q, has.0) has.1)

  first_one : (old : Option Status) → at A.statuses p ≡ old → IsMaintained p
  first_one (Some s) e none = still_one p (ap is_some e) none
  first_one None e none = let user = publisher.user e none in (
    user.0,
    ap (λ x. is_some (at (maintainers_after who p x A.maintainers) (p, user.0))) e
        ∙ ap (λ s. is_some (at (maintained_first who p s A.maintainers) (p, user.0))) none
        ∙ ap (λ w. is_some (at (maintained_first w p None A.maintainers) (p, user.0))) user.1 ∙ put_there pair_key A.maintainers (p, user.0) tt,
  )

  maintained_by : (o : Option Status) (q : Text) → IsSome (at (statuses_after A.statuses p o) q) → IsMaintained q
  maintained_by None q h = still_one q h
  maintained_by (Some s) q h = some_before text_key A.statuses p s IsMaintained still_one (first_one (at A.statuses p) refl) q h

  pub published : IsSound after
  published = record {
    tokens = sound.tokens;
    roles = sound.roles;
    owners = sound.owners;
    first_teams = sound.first_teams;
    teams = sound.teams;
    team_members = sound.team_members;
    grants = grants_by_old (at A.statuses p);
    maintainers = maintainers_by_old (at A.statuses p) refl;
    unscoped = λ q u h. public_after status may q Restricted h u refl;
    maintained = maintained_by status;
  }
