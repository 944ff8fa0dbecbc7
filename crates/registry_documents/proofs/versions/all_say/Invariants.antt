use Rattle.std.proofs.Common.{◌≡◌}
use Rattle.serde_json.specs.View.{view, members_view}
use Rattle.registry_documents.specs.Differences.{all_say}
use Rattle.registry_documents.proofs.versions.all_say.Given as goal

abbrev pub invariant-loop-version : goal.invariant-loop-version
invariant-loop-version l = all_say (view l.wanted) l.message (members_view l.versions.entries) ≡ all_say (view l.wanted) l.message (members_view l.version-iterator)
