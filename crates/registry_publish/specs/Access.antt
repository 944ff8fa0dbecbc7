-- The status that a publish body asks for.
use Rattle.std.specs.Prelude.{unwrap_or, codes, Option, Some, None, option_map}
use Rattle.serde_json.specs.Data.{Data, null, boolean, number, string, array, object}
use Rattle.serde_json.specs.Find.{get}
use Rattle.registry_names.specs.Spellings.{status_named}
use Rattle.registry_names.specs.declared.status.Status.{Status}

-- no status for null, or the one that the text names; None for another value
abbrev pub status_in : Data → Option (Option Status)
status_in null = Some None
status_in (string t) = option_map Some (status_named t)
status_in (boolean b) = None
status_in (number n) = None
status_in (array ds) = None
status_in (object ms) = None

-- the status, if any, that `access` names, if it is there; None where it isn't in form
abbrev pub access_at : Data → Option (Option Status)
access_at d = unwrap_or (option_map status_in (get (codes "access") d)) (Some None)
