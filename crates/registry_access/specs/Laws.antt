-- Laws of the policy.
use Rattle.std.specs.Prelude.{◌≡◌, Bool, Option, Some, None, IsTrue, Ok}
use Rattle.registry_names.specs.Texts.{Text}
use Rattle.registry_names.specs.declared.refusal.Rule.{Rule}
use Rattle.registry_names.specs.declared.refusal.Rule.TheVariants.{A6, A8}
use Rattle.registry_access.specs.Access.{Access}
use Rattle.registry_access.specs.Agreement.{SameFor}
use Rattle.registry_access.specs.Callers.{team_grant}
use Rattle.registry_access.specs.Levels.{covers}
use Rattle.registry_access.specs.Policy.{allowed_in, may_read, may_write, may_manage_maintainers, may_publish}
use Rattle.registry_access.specs.Positions.{position_in}
use Rattle.registry_access.specs.RowsFor.{RowsTell, RowsTellAll}
use Rattle.registry_access.specs.declared.grant.Grant.{Grant}
use Rattle.registry_access.specs.declared.caller.Caller.{Caller}
use Rattle.registry_access.specs.declared.ask.Ask.{Ask}
use Rattle.registry_access.specs.declared.position.Position.{Position}
use Rattle.registry_access.specs.declared.rows.AccessRows.{AccessRows}

-- a team grants the caller this, and none grants them more
pub record IsGreatestOf (S : Access) (caller : Caller) (p : Text) (greatest : Grant) : Type 0 where
  pub given : (o : Text) × ((t : Text) × (team_grant S caller o t p ≡ Some greatest))
  pub above : (o t : Text) (g : Grant) → team_grant S caller o t p ≡ Some g → IsTrue (covers greatest g)

-- the greatest of what teams grant the caller, if one grants them anything
abbrev pub IsGreatestGrant : Access → Caller → Text → Option Grant → Type 0
IsGreatestGrant S caller p None = (o t : Text) → team_grant S caller o t p ≡ None
IsGreatestGrant S caller p (Some greatest) = IsGreatestOf S caller p greatest

-- the grant that counts is the greatest, in whatever order the teams come
abbrev pub GreatestGrantCounts : Type 0
GreatestGrantCounts = (S : Access) (caller : Caller) (p : Text) → IsGreatestGrant S caller p (position_in S caller p).grant

-- a caller who may do more with a package may read it
pub record IsReadable (caller : Caller) (scoped : Bool) (at : Position) : Type 0 where
  pub writer : (rule : Rule) → may_write caller at ≡ Ok rule → may_read at ≡ Ok A8
  pub maintainer : (rule : Rule) → may_manage_maintainers caller at ≡ Ok rule → may_read at ≡ Ok A8
  pub publisher : may_publish caller scoped at ≡ Ok A6 → may_read at ≡ Ok A8

abbrev pub WritersRead : Type 0
WritersRead = (caller : Caller) (scoped : Bool) (at : Position) → IsReadable caller scoped at

-- states that agree on what the caller asks allow them the same
abbrev pub AgreeingAllow : Type 0
AgreeingAllow = (S T : Access) (caller : Caller) (ask : Ask) → SameFor S T caller ask → allowed_in S caller ask ≡ allowed_in T caller ask

-- rows that say all that a state says agree with it, whatever anyone asks
abbrev pub WholeRowsStand : Type 0
WholeRowsStand = (rows : AccessRows) (S : Access) → RowsTellAll rows S → (caller : Caller) (ask : Ask) → RowsTell rows S caller ask
