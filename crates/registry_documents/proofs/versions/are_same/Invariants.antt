use Rattle.std.proofs.Common.{◌≡◌}
use Rattle.serde_json.specs.View.{view, members_view}
use Rattle.registry_documents.specs.Differences.{are_same}
use Rattle.registry_documents.proofs.versions.are_same.Given as goal

abbrev pub invariant-loop-version : goal.invariant-loop-version
invariant-loop-version l = are_same (view l.wanted) (view l.present) (members_view l.versions.entries) ≡ are_same (view l.wanted) (view l.present) (members_view l.version-iterator)
