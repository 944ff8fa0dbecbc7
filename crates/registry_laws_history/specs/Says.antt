-- A state of which all that a history says holds.
use Rattle.std.specs.Prelude.{◌≡◌, List, [], ◌∷◌, Ok}
use Rattle.registry_names.specs.declared.refusal.Rule.{Rule}
use Rattle.registry_rules.specs.Kept.{IsSound}
use Rattle.registry_rules.specs.Permissions.{permission}
use Rattle.registry_rules.specs.State.{State}
use Rattle.registry_laws_history.specs.AccessReadings.{HasAccess}
use Rattle.registry_laws_history.specs.History.{Entry, Legal, after}
use Rattle.registry_laws_history.specs.Readings.{HasVersions, HasRecords, HasTags, HasStatuses}

-- a rule let the caller of each entry do it, on what the older ones left
abbrev pub AreAllowed : List Entry → Type 0
AreAllowed [] = Unit {0}
AreAllowed (e ∷ h) = ((rule : Rule) × (permission (after h).access e.who e.what ≡ Ok rule)) × AreAllowed h

-- S is what a legal history leaves, and all that the history says.
pub record Says (h : List Entry) (S : State) : Type 0 where
  pub legal : Legal h
  pub left : S ≡ after h
  pub versions : HasVersions h S
  pub records : HasRecords h S
  pub tags : HasTags h S
  pub statuses : HasStatuses h S
  pub access : HasAccess h S.access
  -- references hold
  pub sound : IsSound S.access
  pub allowed : AreAllowed h
