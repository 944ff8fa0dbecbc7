-- What is printed of a fault and of a stop, the status code of a fault in HTTP, and why a text
-- isn't read.
use Rattle.std.specs.Prelude.{◌≡◌, ◌⊎◌, ℕ, List, codes, Result, Err}
use Rattle.registry_names.specs.Refusals.{refusal_text}
use Rattle.registry_names.specs.declared.refusal.Refusal.{Refusal}
use Rattle.registry_names.specs.declared.stop.Fault.{Fault}
use Rattle.registry_names.specs.declared.stop.Fault.TheVariants.{Memory, Database}
use Rattle.registry_names.specs.declared.stop.Stop.{Stop}
use Rattle.registry_names.specs.declared.stop.Stop.TheVariants.{Refused, Fault as Faulted}

abbrev pub fault_text : Fault → List ℕ
fault_text Memory = codes "Memory"
fault_text Database = codes "Database"

-- Service Unavailable 503, Internal Server Error 500
abbrev pub fault_status : Fault → ℕ
fault_status Memory = 503
fault_status Database = 500

abbrev pub stop_text : Stop → List ℕ
stop_text (Refused refusal) = refusal_text refusal
stop_text (Faulted fault) = fault_text fault

-- no memory is left, or what was to be read gets this refusal, and this holds
abbrev pub IsMemoryOr : Refusal → Type 0 → Stop → Type 0
IsMemoryOr refusal P e = (e ≡ Faulted Memory) ⊎ ((e ≡ Refused refusal) × P)

-- the answer is this refusal
abbrev pub IsRefused : {T : Type 0} → Result T Stop → Refusal → Type 0
IsRefused answer refusal = answer ≡ Err (Refused refusal)
