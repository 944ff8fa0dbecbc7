-- The access half of the registry's state: the members of organisations and teams, and what they
-- are granted.
use Rattle.registry_names.specs.Texts.{Text}
use Rattle.registry_names.specs.Maps.{TextMap, PairMap, TripleMap}
use Rattle.registry_names.specs.declared.status.Status.{Status}
use Rattle.registry_access.specs.declared.role.Role.{Role}
use Rattle.registry_access.specs.declared.grant.Grant.{Grant}

-- a set is a map to Unit
pub record Access : Type 0 where
  pub users : TextMap (Unit {0})
  -- the user of each token, under the token's digest
  pub tokens : TextMap Text
  pub organisations : TextMap (Unit {0})
  -- a member's role, under organisation and user
  pub roles : PairMap Role
  -- organisation and team
  pub teams : PairMap (Unit {0})
  -- organisation, team and user
  pub team_members : TripleMap (Unit {0})
  -- what a team is granted, under organisation, team and package
  pub grants : TripleMap Grant
  -- of each package that was ever published
  pub statuses : TextMap Status
  -- package and user
  pub maintainers : PairMap (Unit {0})
