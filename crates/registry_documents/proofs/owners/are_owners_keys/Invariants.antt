use Rattle.std.proofs.Common.{◌≡◌}
use Rattle.serde_json.specs.View.{members_view}
use Rattle.registry_documents.specs.Differences.{is_owners_key}
use Rattle.registry_documents.specs.Values.{all_members}
use Rattle.registry_documents.proofs.owners.are_owners_keys.Given as goal

abbrev pub invariant-loop-key : goal.invariant-loop-key
invariant-loop-key l = all_members is_owners_key (members_view l.members.entries) ≡ all_members is_owners_key (members_view l.key-iterator)
