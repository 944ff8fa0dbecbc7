use Rattle.std.proofs.Common.{◌≡◌}
use Rattle.serde_json.specs.View.{view, members_view}
use Rattle.registry_documents.specs.Values.{keys_in}
use Rattle.registry_documents.proofs.value.keys_in.Given as goal

abbrev pub invariant-loop-key : goal.invariant-loop-key
invariant-loop-key l = keys_in l.part (members_view l.members.entries) (view l.other) ≡ keys_in l.part (members_view l.key-iterator) (view l.other)
