use Rattle.std.proofs.Common.{◌≡◌, ℕ, ◌+◌, ◌*◌, ◌≤◌, length}
use Rattle.json.specs.Json.{items, members, value}
use Rattle.registry_packument.specs.Passing.{items_are_held, members_are_held, behind, behind_items, behind_members}
use Rattle.registry_packument.proofs.manifest.+pass.Given as goal

abbrev pub decreases-pass_value : goal.decreases-pass_value
decreases-pass_value l = 2 * l.depth

abbrev pub decreases-pass_items : goal.decreases-pass_items
decreases-pass_items l = 2 * l.depth + 1

abbrev pub decreases-pass_members : goal.decreases-pass_members
decreases-pass_members l = 2 * l.depth + 1

-- what is left after all items is what is left after those to come
abbrev pub invariant-pass_items-items : goal.invariant-pass_items-items
invariant-pass_items-items l =
    (n : ℕ) × (length l.reader ≤ n) × (behind_items l.depth l.initial.reader ≡ behind items_are_held (items (value l.depth) n l.reader))
    × (length l.reader ≤ length l.initial.reader)

abbrev pub decreases-pass_items-items : goal.decreases-pass_items-items
decreases-pass_items-items l = length l.reader

abbrev pub invariant-pass_members-members : goal.invariant-pass_members-members
invariant-pass_members-members l =
    (n : ℕ) × (length l.reader ≤ n) × (behind_members l.depth l.initial.reader ≡ behind members_are_held (members (value l.depth) n l.reader))
    × (length l.reader ≤ length l.initial.reader)

abbrev pub decreases-pass_members-members : goal.decreases-pass_members-members
decreases-pass_members-members l = length l.reader
