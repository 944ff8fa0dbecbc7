use Rattle.std.proofs.lemmas.Result.{err_from_is_err_and}
use Rattle.serde_json.specs.View.{view}
use Rattle.serde_json.proofs.Nesting.{depth-read}
use Rattle.registry_publish.proofs.FormFacts.{read_body, stops_body}
use Rattle.registry_publish.proofs.form.PublishForm.of.Goals as goal

pub form_of-requires : goal.form_of-requires
form_of-requires c =
    let s = c.requires.1 in
    (c.requires.0, read_body _ _ _ s.0 (s.1, s.2) (depth-read _ _ s.2) c.in_ok-body.ensures)

pub returns : goal.returns
returns c = λ b s. c.form_of.ensures b (read_body _ _ _ s.0 (s.1, s.2) (depth-read _ _ s.2) c.in_ok-body.ensures)

pub returns-in_err-body : goal.returns-in_err-body
returns-in_err-body c =
    let q = err_from_is_err_and c.from_residual.result c.from_residual.ensures.1 in
    rw (q.1, q.2) (λ b s. stops_body b (view c.args.value.now) s.0 s.2 _ c.in_err-body.ensures)
