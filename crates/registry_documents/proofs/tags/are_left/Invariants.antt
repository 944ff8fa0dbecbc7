use Rattle.std.proofs.Common.{◌≡◌}
use Rattle.serde_json.specs.View.{view, members_view}
use Rattle.registry_documents.specs.Tags.{are_left}
use Rattle.registry_documents.proofs.tags.are_left.Given as goal

abbrev pub invariant-loop-tag : goal.invariant-loop-tag
invariant-loop-tag l =
    are_left l.without (members_view l.versions.entries) (members_view l.stored.entries) (view l.tags)
    ≡ are_left l.without (members_view l.versions.entries) (members_view l.tag-iterator) (view l.tags)
