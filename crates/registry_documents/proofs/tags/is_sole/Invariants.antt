use Rattle.std.proofs.Common.{◌≡◌}
use Rattle.serde_json.specs.View.{members_view}
use Rattle.registry_documents.specs.Tags.{is_sole}
use Rattle.registry_documents.proofs.tags.is_sole.Given as goal

abbrev pub invariant-loop-version : goal.invariant-loop-version
invariant-loop-version l = is_sole l.without (members_view l.versions.entries) ≡ is_sole l.without (members_view l.version-iterator)
