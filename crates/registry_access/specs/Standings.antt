-- What a standing says of a caller.
use Rattle.std.specs.Prelude.{Bool, false, List, None}
use Rattle.std.specs.List.{list_any}
use Rattle.registry_access.specs.Levels.{is_grant, greatest_grant}
use Rattle.registry_access.specs.declared.grant.Grant.{Grant}
use Rattle.registry_access.specs.declared.caller.Caller.{Caller}
use Rattle.registry_access.specs.declared.caller.Caller.TheVariants.{Operator, User, Anonymous}
use Rattle.registry_access.specs.declared.position.Position.{Position}
use Rattle.registry_access.specs.declared.standing.Standing.{Standing}

abbrev pub is_listed : List Grant → Grant → Bool
is_listed gs g = list_any (λ h. is_grant h g) gs

-- of a caller who isn't a user
abbrev pub outsider : Standing → Position
outsider s = record { organisation = s.organisation; role = None; status = s.status; maintainer = false; grant = None }

abbrev pub position_of : Standing → Caller → Position
position_of s Operator = outsider s
position_of s (User u) = record { organisation = s.organisation; role = s.role; status = s.status; maintainer = s.maintainer; grant = greatest_grant (is_listed s.grants.items) }
position_of s Anonymous = outsider s
