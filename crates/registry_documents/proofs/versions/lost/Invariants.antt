use Rattle.std.proofs.Common.{◌≡◌, ◌++◌}
use Rattle.serde_json.specs.View.{view, members_view}
use Rattle.registry_documents.specs.Differences.{lost}
use Rattle.registry_documents.proofs.versions.lost.Given as goal

-- the versions are those so far, and then those of the members that are left
abbrev pub invariant-loop-version : goal.invariant-loop-version
invariant-loop-version l = l.gone.items ++ lost (view l.wanted) (members_view l.version-iterator) ≡ lost (view l.wanted) (members_view l.versions.entries)
