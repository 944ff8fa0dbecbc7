use Rattle.std.proofs.Common.{◌≡◌, ◌++◌, length}
use Rattle.std.specs.Vec.Iter.{into_iter_items, into_iter_len}
use Rattle.registry_json.specs.Members.{named, own_named}
use Rattle.registry_json.proofs.read.with_own_keys.Given as goal

-- the members so far have their keys
abbrev pub invariant-loop-member : goal.invariant-loop-member
invariant-loop-member l = record {
  told : own_named l.owned.items ++ named (into_iter_items l.member-iterator) ≡ named (into_iter_items l.initial.member-iterator);
  remain : into_iter_len l.member-iterator ≡ length (into_iter_items l.member-iterator);
}
