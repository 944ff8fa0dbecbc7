-- What an authorization of one value is read as.
use Rattle.std.proofs.Common.{List, ℕ, Result, Ok, Err}
use Rattle.registry_names.specs.declared.stop.Stop.{Stop}
use Rattle.registry_wire.specs.declared.wanted.FieldValue.TheVariants.{Once}
use Rattle.registry_npm.specs.Callers.{reads_bearing, reads_who}
use Rattle.registry_npm.specs.declared.caller.Caller.{Caller}

pub once : (value : List ℕ) (r : Result Caller Stop) → reads_bearing value r → reads_who (Once value) r
once value (Ok who) h = h
once value (Err stop) h = h
