-- The caller: whom the registry knows by what came with a request.
use Rattle.std.specs.Prelude.{Bool, true, Option, Some, None, option_map, if◌then◌else◌}
use Rattle.registry_access.specs.declared.caller.Caller.{Caller}
use Rattle.registry_access.specs.declared.caller.Caller.TheVariants as caller
use Rattle.registry_names.specs.Maps.{at}
use Rattle.registry_rules.specs.State.{State, has_user}
use Rattle.registry_rules.specs.declared.request.Credential.{Credential}
use Rattle.registry_rules.specs.declared.request.Credential.TheVariants.{Operator, User, Token, Anonymous}

-- The caller of a credential, on what the registry holds: a user who is there, or the one whose
-- token it is. None where it names nobody
abbrev pub caller_of : State → Credential → Option Caller
caller_of S Operator = Some caller.Operator
caller_of S (User u) = if has_user S u then Some (caller.User u) else None
caller_of S (Token digest) = option_map caller.User (at S.access.tokens digest)
caller_of S Anonymous = Some caller.Anonymous

-- the registry need not hold them, or it holds them
abbrev pub is_known : State → Caller → Bool
is_known S caller.Operator = true
is_known S (caller.User u) = has_user S u
is_known S caller.Anonymous = true
