-- Who has no level on a package.
use Rattle.std.specs.Prelude.{◌≡◌, Option, Some, None}
use Rattle.registry_names.specs.Texts.{Text}
use Rattle.registry_access.specs.Positions.{level_in}
use Rattle.registry_access.specs.declared.caller.Caller.{Caller}
use Rattle.registry_access.specs.declared.levels.Level.TheVariants.{Nothing}
use Rattle.registry_rules.specs.Callers.{caller_of}
use Rattle.registry_rules.specs.State.{State}
use Rattle.registry_rules.specs.declared.request.Credential.{Credential}

-- the caller, if there is one, has no level on the package
abbrev pub HasNoLevel : State → Option Caller → Text → Type 0
HasNoLevel S None p = Unit {0}
HasNoLevel S (Some who) p = level_in S.access who p ≡ Nothing

-- a credential names nobody, or a caller without a level on the package, by any token or name
abbrev pub IsStranger : State → Credential → Text → Type 0
IsStranger S shown p = HasNoLevel S (caller_of S shown) p
