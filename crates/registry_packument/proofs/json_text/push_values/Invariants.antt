use Rattle.std.proofs.Common.{◌≡◌, ◌++◌, drop, string_bytes}
use Rattle.serde_json.specs.Data.{object}
use Rattle.serde_json.specs.Written.{members_text, compact_text}
use Rattle.registry_packument.specs.TextValues.{value_members}
use Rattle.registry_packument.proofs.json_text.push_values.Given as goal

-- the whole is what is written, and then the rows that are left
abbrev pub invariant-loop-row : goal.invariant-loop-row
invariant-loop-row g l =
    string_bytes l.out ++ members_text l.later (value_members g.T.ValueMember.member (drop l.row-index l.rows))
    ≡ string_bytes l.fn.out ++ compact_text (object (value_members g.T.ValueMember.member l.rows))
