use Rattle.std.proofs.Common.{◌≡◌, ◌++◌, drop, string_bytes}
use Rattle.serde_json.specs.Data.{object}
use Rattle.serde_json.specs.Written.{members_text, compact_text}
use Rattle.registry_packument.specs.TextValues.{text_members}
use Rattle.registry_packument.proofs.json_text.push_object.Given as goal

-- the whole is what is written, and then the rows that are left
abbrev pub invariant-loop-row : goal.invariant-loop-row
invariant-loop-row g l =
    string_bytes l.out ++ members_text l.later (text_members g.T.TextMember.pair (drop l.row-index l.rows))
    ≡ string_bytes l.fn.out ++ compact_text (object (text_members g.T.TextMember.pair l.rows))
