-- What a publish leaves, each map apart.
use Rattle.std.proofs.Common.{◌≡◌, ℕ, Bool, true, false, [], ◌∷◌, ◌++◌, ◌||◌, Option, Some, None, refl, if◌then◌else◌}
use Rattle.registry_names.specs.Maps.{TextMap, PairMap, TripleMap, at, put}
use Rattle.registry_names.specs.Tags.{latest}
use Rattle.registry_names.specs.Texts.{Text, is}
use Rattle.registry_names.specs.declared.status.Status.{Status}
use Rattle.std.specs.Option.{option_to_list}
use Rattle.registry_names.specs.Names.{scope_of}
use Rattle.registry_access.specs.Access.{Access}
use Rattle.registry_access.specs.declared.caller.Caller.{Caller}
use Rattle.registry_access.specs.declared.caller.Caller.TheVariants.{Operator, User, Anonymous}
use Rattle.registry_access.specs.declared.grant.Grant.{Grant}
use Rattle.registry_access.specs.declared.grant.Grant.TheVariants.{ReadWrite}
use Rattle.registry_publish.specs.Form.{FormParts}
use Rattle.registry_rules.specs.Actions.{version_of}
use Rattle.registry_rules.specs.Changes.{AddVersion, PutTag, all_made, release_of}
use Rattle.registry_rules.specs.Effects.{new_status, put_status, put_tags, publication, right_to, first_right}
use Rattle.registry_rules.specs.Operations.{with_version}
use Rattle.registry_rules.specs.State.{State, Release, developers, stands}

-- the tags of a package after `latest` is put, where it is put
abbrev pub latest_put : PairMap Text → Text → Text → Bool → PairMap Text
latest_put m p v kept = if kept then m else put m (p, latest) v

tags_put : (S : State) (p t v : Text) → all_made S (put_tags S p t v) ≡ record S { tags = put (latest_put S.tags p v (stands S p latest || is t latest)) (p, t) v }
tags_put S p t v = by_case (stands S p latest || is t latest)
  where
    by_case : (kept : Bool) → all_made S ((if kept then [] else PutTag p latest v ∷ []) ++ PutTag p t v ∷ []) ≡ record S { tags = put (latest_put S.tags p v kept) (p, t) v }
    by_case true = refl
    by_case false = refl

abbrev pub statuses_after : TextMap Status → Text → Option Status → TextMap Status
statuses_after m p None = m
statuses_after m p (Some status) = put m p status

-- the grants after a publish of a package of this scope that had this status
abbrev pub granted_first : Text → Option Text → TripleMap Grant → TripleMap Grant
granted_first p None m = m
granted_first p (Some o) m = put m (o, (developers, p)) ReadWrite

abbrev pub grants_after : Text → Option Status → TripleMap Grant → TripleMap Grant
grants_after p (Some old) m = m
grants_after p None m = granted_first p (scope_of p) m

-- the maintainers after it, by this caller
abbrev pub maintained_first : Caller → Text → Option Text → PairMap (Unit {0}) → PairMap (Unit {0})
maintained_first who p (Some o) m = m
maintained_first (User u) p None m = put m (p, u) tt
maintained_first Operator p None m = m
maintained_first Anonymous p None m = m

abbrev pub maintainers_after : Caller → Text → Option Status → PairMap (Unit {0}) → PairMap (Unit {0})
maintainers_after who p (Some old) m = m
maintainers_after who p None m = maintained_first who p (scope_of p) m

-- who may do what after it
abbrev pub access_after : Access → Caller → Text → Option Status → Option Status → Access
access_after A who p status old = record A {
  statuses = statuses_after A.statuses p status;
  grants = grants_after p old A.grants;
  maintainers = maintainers_after who p old A.maintainers;
}

-- after a release with this tag and this new status; `latest` is kept, or put as well
abbrev pub after_publish : State → Caller → Text → Text → Text → Release → Option Status → Bool → State
after_publish S who p v t release status kept = record S {
  access = access_after S.access who p status (at S.access.statuses p);
  live = put S.live (p, v) release;
  tags = put (latest_put S.tags p v kept) (p, t) v;
}

-- the new status of a form's package
abbrev pub status_of : State → FormParts → Option Status
status_of S f = new_status f.access (at S.access.statuses f.name) f.name

pub published_is : (S : State) (who : Caller) (f : FormParts) (now : ℕ)
    → all_made S (publication S now who f) ≡ after_publish S who f.name (version_of f) f.tag (release_of f now) (status_of S f) (stands S f.name latest || is f.tag latest)
published_is S who f now = by_status (status_of S f)
  where
    rest_is : (A : Access) → all_made (record S { access = A }) (AddVersion f now ∷ put_tags S f.name f.tag (version_of f)) ≡ record S {
      access = A;
      live = put S.live (f.name, version_of f) (release_of f now);
      tags = put (latest_put S.tags f.name (version_of f) (stands S f.name latest || is f.tag latest)) (f.name, f.tag) (version_of f);
    }
    rest_is A = tags_put (with_version (record S { access = A }) f.name (version_of f) (release_of f now)) f.name f.tag (version_of f)

    by_scope : (A : Access) (who : Caller) (scope : Option Text) → all_made (record S { access = A }) (option_to_list (right_to who f.name scope) ++ AddVersion f now ∷ put_tags S f.name f.tag (version_of f)) ≡ record S {
      access = record A { grants = granted_first f.name scope A.grants; maintainers = maintained_first who f.name scope A.maintainers };
      live = put S.live (f.name, version_of f) (release_of f now);
      tags = put (latest_put S.tags f.name (version_of f) (stands S f.name latest || is f.tag latest)) (f.name, f.tag) (version_of f);
    }
    by_scope A who (Some o) = rest_is (record A { grants = put A.grants (o, (developers, f.name)) ReadWrite })
    by_scope A (User u) None = rest_is (record A { maintainers = put A.maintainers (f.name, u) tt })
    by_scope A Operator None = rest_is A
    by_scope A Anonymous None = rest_is A

    by_old : (A : Access) (old : Option Status) → all_made (record S { access = A }) (option_to_list (first_right who f.name old) ++ AddVersion f now ∷ put_tags S f.name f.tag (version_of f)) ≡ record S {
      access = record A { grants = grants_after f.name old A.grants; maintainers = maintainers_after who f.name old A.maintainers };
      live = put S.live (f.name, version_of f) (release_of f now);
      tags = put (latest_put S.tags f.name (version_of f) (stands S f.name latest || is f.tag latest)) (f.name, f.tag) (version_of f);
    }
    by_old A (Some old) = rest_is A
    by_old A None = by_scope A who (scope_of f.name)

    by_status : (status : Option Status)
        → all_made S (put_status f.name status ++ option_to_list (first_right who f.name (at S.access.statuses f.name)) ++ AddVersion f now ∷ put_tags S f.name f.tag (version_of f))
        ≡ after_publish S who f.name (version_of f) f.tag (release_of f now) status (stands S f.name latest || is f.tag latest)
    by_status None = by_old S.access (at S.access.statuses f.name)
    by_status (Some status) = by_old (record S.access { statuses = put S.access.statuses f.name status }) (at S.access.statuses f.name)
