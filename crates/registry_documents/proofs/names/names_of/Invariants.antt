use Rattle.std.proofs.Common.{◌≡◌, ◌++◌, List, drop, option_map}
use Rattle.serde_json.specs.View.{items_view}
use Rattle.registry_names.specs.Texts.{Text}
use Rattle.registry_documents.specs.Documents.{names_of}
use Rattle.registry_documents.proofs.names.names_of.Given as goal

-- the names are those so far, and then those of the items that are left
abbrev pub invariant-loop-item : goal.invariant-loop-item
invariant-loop-item l = names_of (items_view l.items.items) ≡ option_map (λ (ns : List Text). l.names.items ++ ns) (names_of (items_view (drop l.item-index l.item-items)))
