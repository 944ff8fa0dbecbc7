use Rattle.std.proofs.Common.{List, ℕ, ◌++◌, ◌==◌, not, ap, length}
use Rattle.registry_wire.specs.Responses.{head_bytes, not_modified, only_if}
use Rattle.registry_service.proofs.answer.Answer.response.Goals as goal

pub returns : goal.returns
returns c =
    let a = c.args.self.now in
    ap (λ (body : List ℕ). head_bytes a.status a.kind a.labels (length (only_if (not (a.status == not_modified)) body)) c.args.closes ++ only_if (not (a.status == not_modified)) body) c.as_slices.ensures
