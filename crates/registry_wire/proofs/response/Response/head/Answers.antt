use Rattle.std.proofs.Common.{◌∙◌, ◌++◌, ap, ℕ}
use Rattle.registry_wire.specs.Responses.{challenge, close_line, content_lines, label_lines, line_end, status_line}
use Rattle.registry_wire.proofs.ResponseFacts.{pushed-lines}
use Rattle.registry_wire.proofs.response.Response.head.Goals as goal

pub returns-clause-bytes : goal.returns-clause-bytes
returns-clause-bytes c =
    let r = c.args.self.now in
    pushed-lines (status_line r.status) (content_lines r.status r.kind r.labels.now.form _) (label_lines r.labels.now) (challenge r.status) (close_line r.closes) line_end _ _ _ _ _
    c.new-head.ensures c.put_status_line.ensures.bytes (c.put_content_lines.ensures.bytes ∙ ap (λ (n : ℕ). c.put_status_line.new.head ++ content_lines r.status r.kind r.labels.now.form n) c.len.ensures) c.put_label_lines.ensures.bytes c.put_last_lines.ensures.bytes
