use Rattle.std.proofs.Common.{◌≡◌, ◌++◌}
use Rattle.serde_json.specs.View.{view, members_view}
use Rattle.registry_documents.specs.Differences.{news}
use Rattle.registry_documents.proofs.versions.news.Given as goal

-- the versions are those so far, and then those of the members that are left
abbrev pub invariant-loop-version : goal.invariant-loop-version
invariant-loop-version l = l.news.items ++ news (view l.wanted) (members_view l.version-iterator) ≡ news (view l.wanted) (members_view l.versions.entries)
