use Rattle.std.proofs.Common.{◌≡◌, ◌++◌, ℕ, List, drop, option_map}
use Rattle.serde_json.specs.View.{items_view}
use Rattle.registry_npm.specs.Forms.{names_of}
use Rattle.registry_npm.proofs.forms.names_of.Given as goal

-- the texts are those so far, and then those that are left
abbrev pub invariant-loop-item : goal.invariant-loop-item
invariant-loop-item l = names_of (items_view l.items) ≡ option_map (λ (ts : List (List ℕ)). l.names.items ++ ts) (names_of (items_view (drop l.item-index l.items)))
