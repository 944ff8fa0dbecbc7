use Rattle.std.proofs.Common.{◌∙◌, ◌++◌, ap, List, ℕ}
use Rattle.registry_wire.specs.Responses.{tag_line, caching_line, vary_line}
use Rattle.registry_wire.proofs.ResponseFacts.{pushed-left}
use Rattle.registry_wire.proofs.response.put_label_lines.Goals as goal

pub returns-clause-bytes : goal.returns-clause-bytes
returns-clause-bytes c =
    let labels = c.args.labels.now in
    pushed-left (tag_line labels.tag) (caching_line labels.caching) (vary_line labels.form) c.args.head.now c.put_tag_line.new.head c.push.new.self c.push-2.new.self
    c.put_tag_line.ensures.bytes (c.push.ensures.bytes ∙ ap (λ (l : List ℕ). c.put_tag_line.new.head ++ l) c.caching_line.ensures.text) (c.push-2.ensures.bytes ∙ ap (λ (l : List ℕ). c.push.new.self ++ l) c.vary_line.ensures.text)
