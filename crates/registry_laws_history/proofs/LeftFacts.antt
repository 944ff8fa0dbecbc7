-- What an action leaves, each map by itself.
use Rattle.std.proofs.Common.{◌≡◌, ℕ, Bool, true, false, cond, ◌||◌, Option, Some, None, refl, is_some, Ordering}
use Rattle.registry_names.specs.Maps.{MapBy, PairMap, at, put, erase}
use Rattle.registry_names.specs.Greatest.{greatest}
use Rattle.registry_names.specs.Keys.{Pair}
use Rattle.registry_names.specs.Tags.{latest}
use Rattle.registry_names.specs.Texts.{Text, is}
use Rattle.registry_names.specs.Versions.{text_of_version}
use Rattle.registry_access.specs.declared.caller.Caller.{Caller}
use Rattle.registry_access.specs.declared.role.Role.{Role}
use Rattle.registry_rules.specs.Actions.{version_of}
use Rattle.registry_rules.specs.Changes.{all_made, release_of}
use Rattle.registry_rules.specs.Effects.{joining, maintaining, membership, step_by}
use Rattle.registry_rules.specs.State.{State, Release, Withdrawal, developers, tokens_of, has_maintainer, is_in_team, stands}
use Rattle.registry_rules.specs.Withdrawals.{live_versions, others, selected, tags_of}
use Rattle.registry_rules.specs.declared.request.Action.{Action}
use Rattle.registry_rules.specs.declared.request.Action.TheVariants.{TokensRemove, OrgSet, TeamAdd, OwnerAdd, Publish, Withdraw, WithdrawAll, Deprecate}
use Rattle.registry_rules.proofs.TokenFacts.{ended_all, ended_is}
use Rattle.registry_rules.proofs.WholeFacts.{whole_is, whole_left}
use Rattle.registry_rules.proofs.WithdrawnFacts.{deprecated_is, freed_tags, marked_all, withdrawal_of, withdrawn_is}
use Rattle.registry_rules.proofs.PublishedFacts.{after_publish, published_is, status_of}

-- the entry at a key, which was there already or is put
abbrev pub joined : {K : Type 0} {cmp : K → K → Ordering} → MapBy cmp (Unit {0}) → Bool → K → MapBy cmp (Unit {0})
joined m there k = cond there m (put m k tt)

-- what a withdrawal leaves of each map, of a version that lives, if it does
abbrev pub live_taken : PairMap Release → Pair → Option Release → PairMap Release
live_taken m k None = m
live_taken m k (Some r) = erase m k

abbrev pub spent_taken : PairMap Withdrawal → ℕ → Pair → Option Release → PairMap Withdrawal
spent_taken m now k None = m
spent_taken m now k (Some r) = put m k (record { published = r.at; withdrawn = now })

abbrev pub tags_taken : State → Text → Text → Option Release → PairMap Text
tags_taken S p v None = S.tags
tags_taken S p v (Some r) = freed_tags S.tags p (greatest (others (live_versions S p) v)) (tags_of S p v)

abbrev pub taken : State → ℕ → Text → Text → Option Release → State
taken S now p v old = record S { live = live_taken S.live (p, v) old; spent = spent_taken S.spent now (p, v) old; tags = tags_taken S p v old }

taken_is : (S : State) (now : ℕ) (p v : Text) (old : Option Release) → all_made S (withdrawal_of S now p v old) ≡ taken S now p v old
taken_is S now p v None = refl
taken_is S now p v (Some r) = withdrawn_is S now p v r.at (greatest (others (live_versions S p) v)) (tags_of S p v)

-- what an action leaves
abbrev pub left_by : State → ℕ → Caller → Action → State
left_by S now who (TokensRemove u) = record S { access = record S.access { tokens = ended_all S.access.tokens (tokens_of S u) } }
left_by S now who (OrgSet o u role) = record S {
  access = record S.access {
    roles = put S.access.roles (o, u) role;
    team_members = joined S.access.team_members (is_some (at S.access.roles (o, u))) (o, (developers, u));
  };
}
left_by S now who (TeamAdd o t u) = record S { access = record S.access { team_members = joined S.access.team_members (is_in_team S o t u) (o, (t, u)) } }
left_by S now who (OwnerAdd p u) = record S { access = record S.access { maintainers = joined S.access.maintainers (has_maintainer S p u) (p, u) } }
left_by S now who (Publish f) = after_publish S who f.name (version_of f) f.tag (release_of f now) (status_of S f) (stands S f.name latest || is f.tag latest)
left_by S now who (Withdraw p v) = taken S now p (text_of_version v) (at S.live (p, text_of_version v))
left_by S now who (WithdrawAll p) = whole_left S now p
left_by S now who (Deprecate p conditions message) = record S { live = marked_all S.live p message (selected (live_versions S p) conditions) }
left_by S now who what = step_by S now who what

role_left : (S : State) (o u : Text) (role : Role) (old : Option Role) → all_made S (membership o u role old) ≡ record S {
  access = record S.access { roles = put S.access.roles (o, u) role; team_members = joined S.access.team_members (is_some old) (o, (developers, u)) };
}
role_left S o u role (Some r) = refl
role_left S o u role None = refl

team_left : (S : State) (o t u : Text) (inside : Bool)
    → all_made S (joining o t u inside) ≡ record S { access = record S.access { team_members = joined S.access.team_members inside (o, (t, u)) } }
team_left S o t u true = refl
team_left S o t u false = refl

owner_left : (S : State) (p u : Text) (already : Bool)
    → all_made S (maintaining p u already) ≡ record S { access = record S.access { maintainers = joined S.access.maintainers already (p, u) } }
owner_left S p u true = refl
owner_left S p u false = refl

pub left_is : (S : State) (now : ℕ) (who : Caller) (what : Action) → step_by S now who what ≡ left_by S now who what
left_is S now who (TokensRemove u) = ended_is S (tokens_of S u)
left_is S now who (OrgSet o u role) = role_left S o u role (at S.access.roles (o, u))
left_is S now who (TeamAdd o t u) = team_left S o t u (is_in_team S o t u)
left_is S now who (OwnerAdd p u) = owner_left S p u (has_maintainer S p u)
left_is S now who (Publish f) = published_is S who f now
left_is S now who (Withdraw p v) = taken_is S now p (text_of_version v) (at S.live (p, text_of_version v))
left_is S now who (WithdrawAll p) = whole_is S now p
left_is S now who (Deprecate p conditions message) = deprecated_is S p message (selected (live_versions S p) conditions)
left_is S now who what = refl
