-- What is written of a value that may be missing, and why it isn't.
use Rattle.std.specs.Prelude.{◌≡◌, ◌++◌, ℕ, List, Option, Some, None, ⊤}
use Rattle.registry_names.specs.declared.stop.Fault.{Fault}
use Rattle.registry_names.specs.declared.stop.Fault.TheVariants.{Memory, Database}

-- there is a value, and its text follows what was written before
abbrev pub Adds : {A : Type 0} → (A → List ℕ) → Option A → List ℕ → List ℕ → Type 0
Adds {A} text value old new = (a : A) × ((value ≡ Some a) × (new ≡ old ++ text a))

-- memory may run out in any case; the database is at fault only where there is no value
abbrev pub IsFaultOf : {A : Type 0} → Option A → Fault → Type 0
IsFaultOf value Memory = ⊤
IsFaultOf value Database = value ≡ None
