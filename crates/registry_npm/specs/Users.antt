-- Users over HTTP: who calls, as the code asks it first.
use Rattle.std.specs.Prelude.{◌≡◌, ◌⊎◌, [], ℕ, Bool, true, false, Ok, Err}
use Rattle.registry_names.specs.declared.stop.Stop.{Stop}
use Rattle.registry_rules.specs.declared.request.Action.TheVariants.{WhoAmI}
use Rattle.registry_service.specs.HttpAnswers.{Outcome}
use Rattle.registry_service.specs.Turns.{Answering, stopped}
use Rattle.registry_wire.specs.declared.wanted.Wanted.{Wanted}
use Rattle.registry_npm.specs.Callers.{reads_who, who_of}
use Rattle.registry_npm.specs.Leading.{Leads, either, ends, is_stop, request}
use Rattle.registry_npm.specs.Packages.{stale}
use Rattle.registry_npm.specs.declared.caller.Caller.{Caller}

-- what is answered to who is no user, under a revision or not
abbrev pub refused_by : Bool → Outcome → Leads
refused_by is_revised = either is_revised stale ends

module _ {D : Type 0} (answers : Answering D) (w : Wanted) (at : ℕ) where
  -- the registry was asked who calls, and didn't refuse to say it
  abbrev pub IsUser : D → Caller → D → Type 0
  IsUser M who N = reads_who w.authorization (Ok who) × ((c : Outcome) × (is_stop c ≡ false) × answers M (request at (who_of who) WhoAmI) c N)

  -- it wasn't asked, since no token in form was shown, or it refused, and this is answered
  abbrev pub IsStranger : Bool → D → Outcome → D → Type 0
  IsStranger is_revised M o N = ((s : Stop) × reads_who w.authorization (Err s) × (o ≡ stopped s) × (N ≡ M))
      ⊎ ((who : Caller) × (c : Outcome) × reads_who w.authorization (Ok who) × (is_stop c ≡ true) × answers M (request at (who_of who) WhoAmI) c N × refused_by is_revised c [] o)
