-- What a package that a caller doesn't read looks like over HTTP.
use Rattle.std.specs.Prelude.{◌≡◌, Bool, false, Some, None, Ok}
use Rattle.registry_names.specs.Maps.{at}
use Rattle.registry_names.specs.Texts.{Text}
use Rattle.registry_access.specs.Levels.{reads}
use Rattle.registry_access.specs.Positions.{level_in}
use Rattle.registry_access.specs.declared.caller.Caller.{Caller}
use Rattle.registry_rules.specs.Callers.{caller_of}
use Rattle.registry_rules.specs.State.{State}
use Rattle.registry_rules.specs.declared.request.Action.{Action}
use Rattle.registry_rules.specs.declared.request.Credential.{Credential}
use Rattle.registry_rules.specs.declared.request.Request.{Request}
use Rattle.registry_laws_history.specs.Answers.{answer}
use Rattle.registry_laws_hidden.specs.Concerns.{queried_package}
use Rattle.registry_service.specs.HttpAnswers.{plain_response}

-- the query is about this package
abbrev pub IsQueryOf : Text → Action → Type 0
IsQueryOf p what = queried_package what ≡ Some p

-- the credential is that of a caller, and they don't read the package
abbrev pub IsUnread : State → Credential → Text → Type 0
IsUnread S who p = (c : Caller) × (caller_of S who ≡ Some c) × (reads (level_in S.access c p) ≡ false)

-- the credential is that of a caller, and the package was never published
abbrev pub IsUnheardOf : State → Credential → Text → Type 0
IsUnheardOf S who p = (c : Caller) × (caller_of S who ≡ Some c) × (at S.access.statuses p ≡ None)

-- Whatever query a caller makes on a package that they don't read, the response is, byte for byte,
-- that to any query on a package that was never published, in the same registry or in another
abbrev pub HiddenAreUnheardOf : Type 0
HiddenAreUnheardOf = (S T : State) (r s : Request) (p q : Text) (closes : Bool) → IsQueryOf p r.what → IsQueryOf q s.what → IsUnread S r.who p → IsUnheardOf T s.who q
    → plain_response (Ok (answer S r)) closes ≡ plain_response (Ok (answer T s)) closes
