-- Why a step of reading stops, and why what rests on it does.
use Rattle.std.proofs.Common.{◌≡◌, ◌⊎◌, inl, inr, refl, ap}
use Rattle.registry_names.specs.declared.refusal.Refusal.TheVariants.{BadBody}
use Rattle.registry_names.specs.declared.stop.Stop.{Stop}
use Rattle.registry_names.specs.declared.stop.Stop.TheVariants.{Refused, Fault as Faulted}
use Rattle.registry_names.specs.declared.stop.Fault.TheVariants.{Memory, Database}
use Rattle.registry_publish.specs.Stops.{StopsReading}

-- what isn't in form leaves nothing in form that it is a part of
pub stops_whole : (P Q : Type 0) → (P → Q) → (e : Stop) → StopsReading P e → StopsReading Q e
stops_whole P Q f (Refused r) h = (h.0, f h.1)
stops_whole P Q f (Faulted Memory) h = h
stops_whole P Q f (Faulted Database) h = h

-- the two ways to stop
pub memory_or_bad : (P Q : Type 0) → (P → Q) → (e : Stop) → StopsReading P e → (e ≡ Faulted Memory) ⊎ ((e ≡ Refused BadBody) × Q)
memory_or_bad P Q f (Refused r) h = inr (ap Refused h.0, f h.1)
memory_or_bad P Q f (Faulted Memory) h = inl refl
memory_or_bad P Q f (Faulted Database) h = absurd h
