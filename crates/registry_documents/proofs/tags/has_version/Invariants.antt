use Rattle.std.proofs.Common.{◌≡◌}
use Rattle.serde_json.specs.View.{members_view}
use Rattle.registry_documents.specs.Tags.{is_version_of}
use Rattle.registry_documents.proofs.tags.has_version.Given as goal

abbrev pub invariant-loop-version : goal.invariant-loop-version
invariant-loop-version l = is_version_of (members_view l.versions.entries) l.text ≡ is_version_of (members_view l.version-iterator) l.text
