-- A change of what is stored makes one operation of the registry's state.
use Rattle.registry_tables.proofs.Words.{◌≡◌, not, List, [], ◌∷◌, pos, refl, ap, ap₂, ◌∙◌, pair_is, Text, PairMap, TextMap, TripleMap, put}
use Rattle.registry_tables.proofs.Words.{pair_key, text_key, triple_key, Status, Grant, Role, Change, AddUser, AddToken, DropToken, AddOrg, PutMember, DropMember, AddTeam, PutTeamMember}
use Rattle.registry_tables.proofs.Words.{DropTeamMember, DropTeam, PutGrant, DropGrant, PutOwner, DropOwner, PutStatus, AddVersion, RetireVersion, PutDeprecation, PutTag, DropTag, made, all_made}
use Rattle.registry_tables.proofs.Words.{Release, Withdrawal, HeldAreStored, stored_by, all_stored, Contents, access_of, as_withdrawal, registry_of, grant_number, grant_of, role_number, role_of}
use Rattle.registry_tables.proofs.Words.{status_number, status_of, without_member, without_team}
use Rattle.registry_rules.specs.Operations.{with_role, with_grant, with_status}
use Rattle.registry_rules.specs.State.{State}
use Rattle.registry_tables.proofs.KeptArchiveFacts.{live_put, put_held_stored}
use Rattle.registry_tables.proofs.NumberFacts.{grant_again, role_again, status_again}
use Rattle.registry_tables.proofs.ReadFacts.{read-erase, read-keep, read-put}
use Rattle.registry_tables.proofs.RetiredFacts.{live_retired, live_messaged, retired_held_stored}

-- ---- a number that is written, and what it stands for

module _ (c : Contents) where
  abbrev with_roles : PairMap Role → State
  with_roles roles = record (registry_of c) { access = record (access_of c) { roles = roles } }

  abbrev with_grants : TripleMap Grant → State
  with_grants grants = record (registry_of c) { access = record (access_of c) { grants = grants } }

  abbrev with_statuses : TextMap Status → State
  with_statuses statuses = record (registry_of c) { access = record (access_of c) { statuses = statuses } }

  role_put : (o u : Text) (role : Role) → registry_of (record c { members = put c.members (o, u) (role_number role) }) ≡ with_role (registry_of c) o u role
  role_put o u role = ap with_roles (read-put pair_key c.members (λ _ n. role_of n) (o, u) (role_number role) ∙ ap (put (access_of c).roles (o, u)) (role_again role))

  grant_put : (o t p : Text) (grant : Grant) → registry_of (record c { grants = put c.grants (o, (t, p)) (grant_number grant) }) ≡ with_grant (registry_of c) o t p grant
  grant_put o t p grant = ap with_grants (read-put triple_key c.grants (λ _ n. grant_of n) (o, (t, p)) (grant_number grant) ∙ ap (put (access_of c).grants (o, (t, p))) (grant_again grant))

  status_put : (p : Text) (status : Status) → registry_of (record c { packages = put c.packages p (status_number status) }) ≡ with_status (registry_of c) p status
  status_put p status = ap with_statuses (read-put text_key c.packages (λ _ n. status_of n) p (status_number status) ∙ ap (put (access_of c).statuses p) (status_again status))

pub change_makes : (change : Change) (c : Contents) → HeldAreStored c → registry_of (stored_by change c) ≡ made (registry_of c) change
change_makes (AddUser u) c held = refl
change_makes (AddToken digest u) c held = refl
change_makes (DropToken digest) c held = refl
change_makes (AddOrg o) c held = refl
change_makes (PutMember o u role) c held = role_put c o u role
change_makes (DropMember o u) c held = ap (with_roles (record c { team_members = (without_member o u c).team_members })) (read-erase pair_key c.members (λ _ n. role_of n) (o, u))
change_makes (AddTeam o t) c held = refl
change_makes (PutTeamMember o t u) c held = refl
change_makes (DropTeamMember o t u) c held = refl
change_makes (DropTeam o t) c held = ap (with_grants (record c { teams = (without_team o t c).teams; team_members = (without_team o t c).team_members })) (read-keep triple_key c.grants (λ _ n. grant_of n) (λ k. not (pair_is (o, t) (k.0, k.1.0))))
change_makes (PutGrant o t p grant) c held = grant_put c o t p grant
change_makes (DropGrant o t p) c held = ap (with_grants c) (read-erase triple_key c.grants (λ _ n. grant_of n) (o, (t, p)))
change_makes (PutOwner p u) c held = refl
change_makes (DropOwner p u) c held = refl
change_makes (PutStatus p status) c held = status_put c p status
change_makes (AddVersion f now) c held = ap (λ live. record (registry_of c) { live = live }) (live_put f now c held)
change_makes (RetireVersion p v published withdrawn) c held = ap₂ (λ (live : PairMap Release) (spent : PairMap Withdrawal). record (registry_of c) { live = live; spent = spent })
    (live_retired p v published withdrawn c) (read-put pair_key c.spent (λ _ w. as_withdrawal w) (p, v) (record { published = pos published; withdrawn = pos withdrawn }))
change_makes (PutDeprecation p v message) c held = ap (λ live. record (registry_of c) { live = live }) (live_messaged p v message c)
change_makes (PutTag p t v) c held = refl
change_makes (DropTag p t) c held = refl

-- what is held stays stored
pub change_keeps : (change : Change) (c : Contents) → HeldAreStored c → HeldAreStored (stored_by change c)
change_keeps (AddUser u) c held = held
change_keeps (AddToken digest u) c held = held
change_keeps (DropToken digest) c held = held
change_keeps (AddOrg o) c held = held
change_keeps (PutMember o u role) c held = held
change_keeps (DropMember o u) c held = held
change_keeps (AddTeam o t) c held = held
change_keeps (PutTeamMember o t u) c held = held
change_keeps (DropTeamMember o t u) c held = held
change_keeps (DropTeam o t) c held = held
change_keeps (PutGrant o t p grant) c held = held
change_keeps (DropGrant o t p) c held = held
change_keeps (PutOwner p u) c held = held
change_keeps (DropOwner p u) c held = held
change_keeps (PutStatus p status) c held = held
change_keeps (AddVersion f now) c held = put_held_stored f now c held
change_keeps (RetireVersion p v published withdrawn) c held = retired_held_stored p v published withdrawn c held
change_keeps (PutDeprecation p v message) c held = held
change_keeps (PutTag p t v) c held = held
change_keeps (DropTag p t) c held = held

-- no row beside the count of archives changes
pub change_counts : (change : Change) (c : Contents) → (stored_by change c).counters ≡ c.counters
change_counts (AddUser u) c = refl
change_counts (AddToken digest u) c = refl
change_counts (DropToken digest) c = refl
change_counts (AddOrg o) c = refl
change_counts (PutMember o u role) c = refl
change_counts (DropMember o u) c = refl
change_counts (AddTeam o t) c = refl
change_counts (PutTeamMember o t u) c = refl
change_counts (DropTeamMember o t u) c = refl
change_counts (DropTeam o t) c = refl
change_counts (PutGrant o t p grant) c = refl
change_counts (DropGrant o t p) c = refl
change_counts (PutOwner p u) c = refl
change_counts (DropOwner p u) c = refl
change_counts (PutStatus p status) c = refl
change_counts (AddVersion f now) c = refl
change_counts (RetireVersion p v published withdrawn) c = refl
change_counts (PutDeprecation p v message) c = refl
change_counts (PutTag p t v) c = refl
change_counts (DropTag p t) c = refl

pub changes_make : (changes : List Change) (c : Contents) → HeldAreStored c → registry_of (all_stored changes c) ≡ all_made (registry_of c) changes
changes_make [] c held = refl
changes_make (change ∷ changes) c held = changes_make changes (stored_by change c) (change_keeps change c held) ∙ ap (λ S. all_made S changes) (change_makes change c held)
