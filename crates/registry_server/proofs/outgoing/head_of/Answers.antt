use Rattle.std.proofs.Common.{◌∙◌, ◌==◌, ap, not, List, ℕ, Bool, length}
use Rattle.registry_wire.specs.Responses.{head_bytes, not_modified, only_if}
use Rattle.registry_service.specs.HttpAnswers.{sent_bytes}
use Rattle.registry_server.proofs.outgoing.head_of.Goals as goal

pub returns : goal.returns
returns c =
    let answer = c.args.turned.now.answer in
    c.head.ensures.bytes
    ∙ ap (λ (b : List ℕ). head_bytes answer.status answer.kind answer.labels (length (only_if (not (answer.status == not_modified)) b)) c.is_some.result) c.as_slices.ensures
    ∙ ap (λ (b : Bool). head_bytes answer.status answer.kind answer.labels (length (sent_bytes answer)) b) c.is_some.ensures
