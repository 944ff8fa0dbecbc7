-- Errors of the database as faults.
use Rattle.registry_names.specs.declared.stop.Fault.{Fault}
use Rattle.registry_names.specs.declared.stop.Fault.TheVariants.{Memory, Database}
use Rattle.sqlite.specs.declared.error.Error.{Error}
use Rattle.sqlite.specs.declared.error.Error.TheVariants.{SqliteFailure}
use Rattle.sqlite.specs.declared.error.ErrorCode.TheVariants.{OutOfMemory}

-- memory ran out, or else the database failed
abbrev pub as_fault : Error → Fault
as_fault (SqliteFailure OutOfMemory) = Memory
as_fault _ = Database
