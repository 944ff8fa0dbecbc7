use Rattle.std.proofs.Common.{rules}
use Rattle.registry_rules.proofs.decision.changes.Goals as goal
use Rattle.registry_rules.proofs.decision.changes.Goals.{in_default-via-in-UserAdd+in_default, in_default-via-in-TokenAdd+in_default, in_default-via-in-TokenRemove+in_default, in_default-via-in-TokensRemove+in_default, in_default-via-in-OrgCreate+in_default, in_default-via-in-Member+in_default, in_default-via-in-Team+in_default, in_default-via-in-TeamMember+in_default, in_default-via-in-Grant+in_default, in_default-via-in-Rights+in_default, in_default-via-in-OwnerAdd+in_default, in_default-via-in-OwnerRemove+in_default, in_default-via-in-Publish+in_default, in_default-via-in-TagSet+in_default, in_default-via-in-TagRemove+in_default, in_default-via-in-Withdraw+in_default, in_default-via-in-WithdrawAll+in_default, in_default-via-in-Deprecate+in_default, in_default-via-in_default}

pub returns-in_default-clause-command : goal.returns-in_default-clause-command
returns-in_default-clause-command c = λ S stand. elim c.in_default.branch [
  | in_default-via-in-UserAdd+in_default w ↦ search rules
  | in_default-via-in-TokenAdd+in_default w ↦ search rules
  | in_default-via-in-TokenRemove+in_default w ↦ search rules
  | in_default-via-in-TokensRemove+in_default w ↦ search rules
  | in_default-via-in-OrgCreate+in_default w ↦ search rules
  | in_default-via-in-Member+in_default w ↦ search rules
  | in_default-via-in-Team+in_default w ↦ search rules
  | in_default-via-in-TeamMember+in_default w ↦ search rules
  | in_default-via-in-Grant+in_default w ↦ search rules
  | in_default-via-in-Rights+in_default w ↦ search rules
  | in_default-via-in-OwnerAdd+in_default w ↦ search rules
  | in_default-via-in-OwnerRemove+in_default w ↦ search rules
  | in_default-via-in-Publish+in_default w ↦ search rules
  | in_default-via-in-TagSet+in_default w ↦ search rules
  | in_default-via-in-TagRemove+in_default w ↦ search rules
  | in_default-via-in-Withdraw+in_default w ↦ search rules
  | in_default-via-in-WithdrawAll+in_default w ↦ search rules
  | in_default-via-in-Deprecate+in_default w ↦ search rules
  | in_default-via-in_default w ↦ search rules
]
