-- What holds of each entry of a legal history, and of what it leaves.
use Rattle.std.proofs.Common.{◌≡◌, List, [], ◌∷◌, None, Ok, Err, refl}
use Rattle.registry_names.specs.declared.refusal.Rule.{Rule}
use Rattle.registry_access.specs.Policy.{Verdict}
use Rattle.registry_rules.specs.Kept.{IsSound}
use Rattle.registry_rules.specs.Permissions.{permission}
use Rattle.registry_rules.specs.Refusals.{unless_allowed}
use Rattle.registry_rules.proofs.AllowedFacts.{policy_passed}
use Rattle.registry_rules.proofs.SoundSteps.{nothing_sound, step_sound}
use Rattle.registry_laws_history.specs.History.{Entry, Legal, after}
use Rattle.registry_laws_history.specs.Says.{AreAllowed}

-- references hold
pub histories_sound : (h : List Entry) → Legal h → IsSound (after h).access
histories_sound [] legal = nothing_sound
histories_sound (e ∷ h) legal = step_sound (after h) e.at e.who e.what legal.2 legal.1 (histories_sound h legal.3)

-- a verdict that turns nobody away has a rule
rule_of : (v : Verdict) → unless_allowed v ≡ None → (rule : Rule) × (v ≡ Ok rule)
rule_of (Ok rule) h = (rule, refl)
rule_of (Err r) h = absurd cc

-- a rule let each caller do it
pub histories_allowed : (h : List Entry) → Legal h → AreAllowed h
histories_allowed [] legal = tt
histories_allowed (e ∷ h) legal =
    (rule_of (permission (after h).access e.who e.what) (policy_passed (after h) e.at e.who e.what legal.1), histories_allowed h legal.3)
