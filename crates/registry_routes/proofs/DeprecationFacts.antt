-- Why the body of a deprecation isn't read.
use Rattle.std.proofs.Common.{◌≡◌, ◌⊎◌, inl, inr}
use Rattle.registry_names.specs.Texts.{Text}
use Rattle.registry_names.specs.declared.refusal.Refusal.TheVariants.{BadSelector}
use Rattle.registry_names.specs.declared.stop.Fault.TheVariants.{Memory}
use Rattle.registry_names.specs.declared.stop.Stop.{Stop}
use Rattle.registry_names.specs.declared.stop.Stop.TheVariants.{Refused, Fault as Faulted}
use Rattle.registry_ranges.specs.Selectors.{IsSelector}
use Rattle.registry_routes.specs.Bodies.{IsDeprecationBody, StopsDeprecation}

-- the selector of a body in form is none
pub stops-selector : (body selector message : Text) (stop : Stop) → IsDeprecationBody body selector message
    → (stop ≡ Faulted Memory) ⊎ (stop ≡ Refused BadSelector) → (stop ≡ Refused BadSelector → ¬ (IsSelector selector)) → StopsDeprecation body stop
stops-selector body selector message stop is (inl memory) none = inl (inl memory)
stops-selector body selector message stop is (inr refused) none = inr (refused, selector, message, is, none refused)
