use Rattle.std.proofs.Common.{◌≡◌, ◌++◌, drop, string_bytes}
use Rattle.serde_json.specs.Data.{array}
use Rattle.serde_json.specs.Written.{items_text, compact_text}
use Rattle.registry_packument.specs.TextValues.{text_items}
use Rattle.registry_packument.proofs.json_text.push_array.Given as goal

-- the whole is what is written, and then the texts that are left
abbrev pub invariant-loop-text : goal.invariant-loop-text
invariant-loop-text l =
    string_bytes l.out ++ items_text l.later (text_items (drop l.text-index l.texts))
    ≡ string_bytes l.fn.out ++ compact_text (array (text_items l.texts))
