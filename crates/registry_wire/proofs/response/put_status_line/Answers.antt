use Rattle.std.proofs.Common.{◌∙◌, ◌++◌, ap, codes, List, ℕ}
use Rattle.http.specs.StatusCode.{code_digits}
use Rattle.registry_wire.specs.Responses.{phrase, line_end}
use Rattle.registry_wire.proofs.ResponseFacts.{pushed-five}
use Rattle.registry_wire.proofs.response.put_status_line.Goals as goal

pub returns-clause-bytes : goal.returns-clause-bytes
returns-clause-bytes c = pushed-five (codes "HTTP/1.1 ") (code_digits c.args.status) (codes " ") (phrase c.args.status) line_end c.args.head.now c.push.new.self c.push-2.new.self c.push-3.new.self c.push-4.new.self c.push-5.new.self
    c.push.ensures.bytes (c.push-2.ensures.bytes ∙ ap (λ (l : List ℕ). c.push.new.self ++ l) (c.as_bytes.ensures.value ∙ c.digits.ensures.text)) c.push-3.ensures.bytes (c.push-4.ensures.bytes ∙ ap (λ (l : List ℕ). c.push-3.new.self ++ l) (c.as_bytes-2.ensures.value ∙ c.phrase.ensures.text)) c.push-5.ensures.bytes
