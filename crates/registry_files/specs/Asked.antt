-- How a command tells what came of a request.
use Rattle.std.specs.Prelude.{◌≡◌, ◌⊎◌, Result, Ok, Err}
use Rattle.registry_names.specs.declared.stop.Fault.{Fault}
use Rattle.registry_names.specs.declared.stop.Fault.TheVariants.{Memory}
use Rattle.registry_names.specs.declared.stop.Stop.{Stop}
use Rattle.registry_names.specs.declared.stop.Stop.TheVariants as stops
use Rattle.registry_rules.specs.declared.reply.Reply.{Reply}
use Rattle.registry_files.specs.declared.ending.Ending.{Ending}
use Rattle.registry_files.specs.declared.ending.Ending.TheVariants as endings
use Rattle.registry_files.specs.declared.ending.Failure.TheVariants as failures
use Rattle.registry_files.specs.declared.ending.Obstacle.{Obstacle}

-- a fault of a registry, as the end of a command
abbrev pub ending_of : Fault → Ending
ending_of fault = endings.Fault (failures.Registry fault)

-- a refusal or a fault, as the end of a command
abbrev pub stopping : Stop → Ending
stopping (stops.Refused refusal) = endings.Refused refusal
stopping (stops.Fault fault) = ending_of fault

-- the outcome of a request, as a command tells it
abbrev pub told : Result Reply Fault → Result Reply Ending
told (Ok reply) = Ok reply
told (Err fault) = Err (ending_of fault)

-- no registry was opened: the file is why, or no memory was left
abbrev pub IsUnopened : Ending → Type 0
IsUnopened e = (e ≡ ending_of Memory) ⊎ ((obstacle : Obstacle) × (e ≡ endings.Fault (failures.Opening obstacle)))
