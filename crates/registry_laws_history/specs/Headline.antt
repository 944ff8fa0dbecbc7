-- What a whole run from an empty registry leaves.
use Rattle.std.specs.Prelude.{◌≡◌, List, [], ◌∷◌, Ok}
use Rattle.registry_names.specs.Keys.{Pair}
use Rattle.registry_names.specs.Versions.{text_of_version}
use Rattle.registry_rules.specs.State.{State, nothing}
use Rattle.registry_rules.specs.declared.reply.Reply.TheVariants.{Created}
use Rattle.registry_rules.specs.declared.request.Action.{Action}
use Rattle.registry_rules.specs.declared.request.Action.TheVariants.{Publish}
use Rattle.registry_rules.specs.declared.request.Request.{Request}
use Rattle.registry_laws_history.specs.History.{Entry}
use Rattle.registry_laws_history.specs.Readings.{published}
use Rattle.registry_laws_history.specs.Runs.{Outcome, IsAnswer, HaveOutcomes, grown, history}
use Rattle.registry_laws_history.specs.Says.{Says}

-- the package and version that an accepted publish publishes, in front of others; any other
-- outcome of a request publishes none
abbrev pub accepted_publish : Action → Outcome → List Pair → List Pair
accepted_publish (Publish f) (Ok Created) ks = (f.name, text_of_version f.version) ∷ ks
accepted_publish _ _ ks = ks

-- those that the requests publish, in front of others, the last one first
abbrev pub accepted_publishes : List Pair → List Request → List Outcome → List Pair
accepted_publishes ks (r ∷ rs) (o ∷ os) = accepted_publishes (accepted_publish r.what o ks) rs os
accepted_publishes ks _ _ = ks

-- An accepted publish adds its package and version to those ever published. No other request adds
-- any
abbrev pub AddsAcceptedPublish : Type 0
AddsAcceptedPublish = (h : List Entry) (S : State) (r : Request) (o : Outcome) → IsAnswer S r o → published (grown h S r o) ≡ accepted_publish r.what o (published h)

-- Of requests to an empty registry: each outcome is the answer or a fault, T is what the accepted
-- commands leave and all that they say, and what was ever published is what the accepted publishes
-- published.
pub record Headline (rs : List Request) (os : List Outcome) (T : State) : Type 0 where
  pub answers : HaveOutcomes nothing rs os
  pub says : Says (history [] nothing rs os) T
  pub publishes : published (history [] nothing rs os) ≡ accepted_publishes [] rs os
