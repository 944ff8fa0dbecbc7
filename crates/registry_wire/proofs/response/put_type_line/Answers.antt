use Rattle.std.proofs.Common.{◌∙◌, ◌++◌, ap, codes, List, ℕ}
use Rattle.registry_wire.specs.Responses.{media_type, line_end}
use Rattle.registry_wire.proofs.ResponseFacts.{pushed-three}
use Rattle.registry_wire.proofs.response.put_type_line.Goals as goal

pub returns-clause-bytes : goal.returns-clause-bytes
returns-clause-bytes c = pushed-three (codes "content-type: ") (media_type c.args.kind c.args.form) line_end c.args.head.now c.push.new.self c.push-2.new.self c.push-3.new.self
    c.push.ensures.bytes (c.push-2.ensures.bytes ∙ ap (λ (l : List ℕ). c.push.new.self ++ l) c.media_type.ensures.text) c.push-3.ensures.bytes
