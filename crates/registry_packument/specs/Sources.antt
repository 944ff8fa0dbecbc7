-- Sources of versions, which have rows left and give them one after the other.
use Rattle.std.specs.Prelude.{◌≡◌, ◌⊎◌, true, ℕ, List, [], ◌∷◌, map, Option, Some, None}
use Rattle.registry_names.specs.Texts.{text_cmp}
use Rattle.registry_names.specs.Maps.{rises}
use Rattle.registry_names.specs.declared.stop.Fault.{Fault}
use Rattle.registry_packument.specs.declared.packument.VersionRow.{VersionRow}
use Rattle.registry_packument.specs.Writing.{IsFaultOf}

-- the first of the rows is given, or there is none
abbrev pub Gives : List VersionRow → Option VersionRow → List VersionRow → Type 0
Gives old None new = (old ≡ []) × (new ≡ [])
Gives old (Some row) new = old ≡ row ∷ new

-- a row under its version
abbrev pub version_entry : VersionRow → List ℕ × VersionRow
version_entry row = (row.version, row)

-- in byte order of their versions, each once
abbrev pub IsInOrder : List VersionRow → Type 0
IsInOrder rows = rises text_cmp (map version_entry rows) ≡ true

-- the fault that the source stopped at, or one of the value that its rows give
abbrev pub IsFaultFrom : {A : Type 0} → Option Fault → Option A → Fault → Type 0
IsFaultFrom stopped value fault = (stopped ≡ Some fault) ⊎ IsFaultOf value fault
