-- The output of a command: how it is sent, and what is printed of it.
use Rattle.std.specs.Prelude.{◌==◌, ℕ, Bool, true, false, not, List, [], ◌∷◌, ◌++◌, Ok, Err, codes, if◌then◌else◌}
use Rattle.std.specs.List.{ends_with}
use Rattle.registry_names.specs.Faults.{fault_text}
use Rattle.registry_names.specs.declared.stop.Fault.{Fault}
use Rattle.registry_cli.specs.Prints.{newline, on_output, printed}
use Rattle.registry_cli.specs.declared.printed.Printed.{Printed}
use Rattle.registry_service.specs.HttpAnswers.{Outcome}
use Rattle.registry_guests.specs.Spelling.{spelling}

-- a status, a text, and what ends it
pub record Output : Type 0 where
  pub status : ℕ
  pub text : List ℕ
  pub end : List ℕ

abbrev pub output_with : ℕ → List ℕ → List ℕ → Output
output_with status text end = record { status = status; text = text; end = end }

-- the byte by which a server says that it is ready for a command, 'r'
abbrev pub ready_byte : ℕ
ready_byte = 114

-- it is sent as a message, whose words are the status and the end, and whose body is the text
abbrev pub sent_as : Output → List ℕ
sent_as s = spelling ((s.status ∷ []) ∷ s.end ∷ []) s.text

-- on standard error, with this status
abbrev pub on_errors_with : ℕ → List ℕ → Printed
on_errors_with status text = record { out = []; err = text; status = status }

-- what is printed of it: on standard output where the request was answered, and otherwise on
-- standard error
abbrev pub prints : Output → Printed
prints s = if s.status == 0 then on_output (s.text ++ s.end) else on_errors_with s.status (s.text ++ s.end)

-- ---- what a program prints that has the registry's file itself

-- the machine failed, status 3
abbrev pub on_fault : Fault → Printed
on_fault fault = on_errors_with 3 (codes "fault: " ++ fault_text fault ++ newline)

abbrev pub printed_of : Outcome → Printed
printed_of (Ok reply) = printed reply
printed_of (Err fault) = on_fault fault

-- a newline, or nothing
abbrev pub end_of : Bool → List ℕ
end_of true = newline
end_of false = []

abbrev pub ends_line : List ℕ → Bool
ends_line text = ends_with (λ a b. a == b) text newline

-- the program doesn't take the arguments, status 2
abbrev pub on_usage : List ℕ → Printed
on_usage text = on_errors_with 2 (text ++ end_of (not (ends_line text)))
