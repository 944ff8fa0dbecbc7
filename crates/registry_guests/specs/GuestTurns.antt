-- A guest's turn: what the service is asked for a message, and what is printed.
use Rattle.std.specs.Prelude.{◌≡◌, ◌⊎◌, ℕ, true, false, List, [], All, IsUtf8, Ok, Err, codes, unwrap_or}
use Rattle.clap.specs.Faults.{fault_of}
use Rattle.clap.specs.Takes.{takes}
use Rattle.clap.specs.Walk.{Text}
use Rattle.registry_names.specs.declared.stop.Fault.TheVariants.{Memory}
use Rattle.registry_names.specs.declared.stop.Stop.{Stop}
use Rattle.registry_rules.specs.declared.request.Action.{Action}
use Rattle.registry_rules.specs.declared.request.Credential.{Credential}
use Rattle.registry_cli.specs.Asked.{reads_line}
use Rattle.registry_cli.specs.Lines.{IsWhole, asks_to_serve, has_both, line_of}
use Rattle.registry_cli.specs.Subcommands.{registry}
use Rattle.registry_cli.specs.Usages.{said_of_both}
use Rattle.registry_cli.specs.declared.meaning.Line.{Line}
use Rattle.registry_cli.specs.declared.printed.Printed.{Printed}
use Rattle.registry_service.specs.HttpAnswers.{Outcome}
use Rattle.registry_service.specs.Turns.{Answering, stopped}
use Rattle.registry_guests.specs.Outputs.{on_fault, on_usage, printed_of}

-- what is printed for words that aren't texts
abbrev pub invalid_utf8_text : Text
invalid_utf8_text = codes "error: invalid UTF-8 was detected in one or more arguments"

-- what is printed where a server is asked to serve
abbrev pub serving_text : Text
serving_text = codes "error: a server can't be asked to serve"

-- what is printed where no memory is left
abbrev pub on_memory : Printed
on_memory = on_fault Memory

-- the text is printed as a usage error, or that no memory is left
abbrev pub SaysOrStarves : Text → Printed → Type 0
SaysOrStarves text p = (p ≡ on_usage text) ⊎ (p ≡ on_memory)

-- The words are texts, and a command line that asks for an action.
pub record IsCommand (ws : List Text) : Type 0 where
  pub texts : All IsUtf8 ws
  pub faultless : fault_of registry ws ≡ []
  pub whole : IsWhole (line_of ws).what
  pub asks : asks_to_serve (line_of ws).what ≡ false
  pub one : has_both ws ≡ false

-- Why nothing is asked of the service, and what is printed then: no memory is left; the words
-- aren't texts; the program doesn't take them, and the text says why; they have both `--as` and
-- `--operator`; or they ask to serve.
abbrev pub IsUnasked : List Text → Printed → Type 0
IsUnasked ws p =
    (p ≡ on_memory)
    ⊎ ((All IsUtf8 ws → ⊥) × (p ≡ on_usage invalid_utf8_text))
    ⊎ ((takes registry ws ≡ false) × (text : Text) × (p ≡ on_usage text))
    ⊎ ((has_both ws ≡ true) × (p ≡ on_usage said_of_both))
    ⊎ ((asks_to_serve (line_of ws).what ≡ true) × (p ≡ on_usage serving_text))

module _ {D : Type 0} (answers : Answering D) where
  -- A line that asks for an action is read from left to right, as any command line is. An action in
  -- form is asked of the service, once, and nothing else is; for any other the service isn't asked.
  abbrev pub AsksOnce : D → Line → List ℕ → ℕ → Printed → D → Type 0
  AsksOnce M l body now p N =
      ((who : Credential) × (what : Action) × (o : Outcome) × reads_line l body (Ok (who, what))
      × answers M (record { at = unwrap_or l.at now; who = who; what = what }) o N × (p ≡ printed_of o))
      ⊎ ((stop : Stop) × reads_line l body (Err stop) × (p ≡ printed_of (stopped stop)) × (N ≡ M))

  -- The turn of a message at this moment: its words are a command line that asks for an action, or
  -- the service isn't asked.
  abbrev pub IsGuestTurn : D → List Text → List ℕ → ℕ → Printed → D → Type 0
  IsGuestTurn M ws body now p N =
      (IsCommand ws × AsksOnce M (line_of ws) body now p N)
      ⊎ (IsUnasked ws p × (N ≡ M))
