-- What a command line on a file asks for. The same words come to the same request beside a server
-- (`AsksOnce` of registry_guests).
use Rattle.std.specs.Prelude.{◌≡◌, ◌⊎◌, ℕ, List, Result, Ok, Err}
use Rattle.registry_names.specs.declared.stop.Stop.{Stop}
use Rattle.registry_rules.specs.declared.request.Action.{Action}
use Rattle.registry_rules.specs.declared.request.Credential.{Credential}
use Rattle.registry_rules.specs.declared.request.Request.{Request}
use Rattle.registry_cli.specs.Asked.{reads_line}
use Rattle.registry_cli.specs.declared.meaning.Line.{Line}
use Rattle.registry_files.specs.Asked.{stopping}
use Rattle.registry_files.specs.declared.ending.Ending.{Ending}

-- The request of a line that asks for an action, with the bytes of its file or of the input, at this
-- moment. Texts are read from left to right, and the first that isn't in form ends the command.
abbrev pub AsksFor : Line → List ℕ → ℕ → Result Request Ending → Type 0
AsksFor l body at result =
    ((who : Credential) × (what : Action) × reads_line l body (Ok (who, what)) × (result ≡ Ok (record { at = at; who = who; what = what })))
    ⊎ ((stop : Stop) × reads_line l body (Err stop) × (result ≡ Err (stopping stop)))
