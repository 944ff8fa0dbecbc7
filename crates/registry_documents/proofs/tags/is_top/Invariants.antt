use Rattle.std.proofs.Common.{◌≡◌}
use Rattle.serde_json.specs.View.{members_view}
use Rattle.registry_names.specs.Versions.{text_of_version}
use Rattle.registry_documents.specs.Tags.{is_top, AreVersions}
use Rattle.registry_documents.proofs.tags.is_top.Given as goal

abbrev pub invariant-loop-version : goal.invariant-loop-version
invariant-loop-version l = record {
  rest : is_top l.without (text_of_version l.other) (members_view l.versions.entries) ≡ is_top l.without (text_of_version l.other) (members_view l.version-iterator);
  form : AreVersions (members_view l.versions.entries) → AreVersions (members_view l.version-iterator);
}
