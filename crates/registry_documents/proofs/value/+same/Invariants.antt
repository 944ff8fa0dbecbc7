use Rattle.std.proofs.Common.{◌≡◌, drop}
use Rattle.serde_json.specs.View.{view, items_view, members_view}
use Rattle.registry_documents.specs.Values.{items_same, members_in}
use Rattle.registry_documents.proofs.value.+same.Given as goal

abbrev pub invariant-items_same-loop-i : goal.invariant-items_same-loop-i
invariant-items_same-loop-i l = items_same (items_view l.items.items) (items_view l.others.items) ≡ items_same (items_view (drop l.i l.items.items)) (items_view (drop l.i l.others.items))

abbrev pub invariant-members_in-loop-key : goal.invariant-members_in-loop-key
invariant-members_in-loop-key l = members_in l.part (members_view l.members.entries) (view l.other) ≡ members_in l.part (members_view l.key-iterator) (view l.other)
