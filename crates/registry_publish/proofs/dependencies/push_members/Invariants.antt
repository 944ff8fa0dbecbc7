use Rattle.std.proofs.Common.{◌≡◌, ◌++◌, List, option_map}
use Rattle.serde_json.specs.View.{members_view}
use Rattle.registry_publish.specs.Needs.{needs_of_members}
use Rattle.registry_publish.specs.declared.need.Need.{Need}
use Rattle.registry_publish.proofs.dependencies.push_members.Given as goal

abbrev pub invariant-loop-target : goal.invariant-loop-target
invariant-loop-target l =
    (done : List Need) × (l.needs.items ≡ l.fn.needs.items ++ done)
    × (needs_of_members (members_view l.members.entries) ≡ option_map (λ (ns : List Need). done ++ ns) (needs_of_members (members_view l.target-iterator)))
