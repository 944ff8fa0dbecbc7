use Rattle.std.proofs.Common.{◌≡◌, ◌++◌, drop, string_bytes}
use Rattle.serde_json.specs.Data.{array}
use Rattle.serde_json.specs.Written.{items_text, compact_text}
use Rattle.registry_documents.specs.Fronts.{people}
use Rattle.registry_documents.proofs.fronts.push_people.Given as goal

-- the whole is what is written, and then the maintainers that are left
abbrev pub invariant-loop-name : goal.invariant-loop-name
invariant-loop-name l =
    string_bytes l.out ++ items_text l.later (people (drop l.name-index l.maintainers))
    ≡ string_bytes l.fn.out ++ compact_text (array (people l.maintainers))
