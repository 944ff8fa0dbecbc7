use Rattle.registry_access.specs.Callers.{team_granted}
use Rattle.registry_access.specs.RowMaps.{state_of}
use Rattle.registry_access.proofs.GrantFacts.{granted_is}
use Rattle.registry_access.proofs.LevelFacts.{greatest_write, greatest_read, greatest_none}
use Rattle.registry_access.proofs.rows.AccessRows.user_grant.Goals as goal

pub returns-then-is_granted : goal.returns-then-is_granted
returns-then-is_granted c =
    greatest_write (team_granted (state_of c.args.self.now) c.args.user.now c.args.name.now)
    (granted_is c.args.self.now _ _ _ _ _ c.is_granted.ensures c.if-is_granted.true)

pub returns-then-is_granted-2 : goal.returns-then-is_granted-2
returns-then-is_granted-2 c =
    greatest_read (team_granted (state_of c.args.self.now) c.args.user.now c.args.name.now)
    (granted_is c.args.self.now _ _ _ _ _ c.is_granted.ensures c.if-is_granted.false)
    (granted_is c.args.self.now _ _ _ _ _ c.is_granted-else-is_granted.ensures c.if-is_granted-2.true)

pub returns-else-is_granted-2 : goal.returns-else-is_granted-2
returns-else-is_granted-2 c =
    greatest_none (team_granted (state_of c.args.self.now) c.args.user.now c.args.name.now)
    (granted_is c.args.self.now _ _ _ _ _ c.is_granted.ensures c.if-is_granted.false)
    (granted_is c.args.self.now _ _ _ _ _ c.is_granted-else-is_granted.ensures c.if-is_granted-2.false)
