-- Why a step of reading answers nothing, for private clauses.
use Rattle.std.specs.Prelude.{◌≡◌, ⊤}
use Rattle.registry_names.specs.declared.refusal.Refusal.TheVariants.{BadBody}
use Rattle.registry_names.specs.declared.stop.Stop.{Stop}
use Rattle.registry_names.specs.declared.stop.Stop.TheVariants.{Refused, Fault as Faulted}
use Rattle.registry_names.specs.declared.stop.Fault.TheVariants.{Memory, Database}

-- what was to be read isn't in form, which P says, or no memory is left
abbrev pub StopsReading : Type 0 → Stop → Type 0
StopsReading P (Refused r) = (r ≡ BadBody) × P
StopsReading P (Faulted Memory) = ⊤
StopsReading P (Faulted Database) = ⊥
