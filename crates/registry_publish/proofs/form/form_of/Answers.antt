use Rattle.std.proofs.Common.{string_bytes, refl}
use Rattle.std.proofs.lemmas.Result.{err_from_is_err_and}
use Rattle.registry_publish.specs.Form.{FormParts}
use Rattle.registry_publish.specs.Views.{body_view}
use Rattle.registry_publish.proofs.FormFacts.{form_of, in_form, stops_texts}
use Rattle.registry_publish.proofs.form.form_of.Goals as goal

pub returns-in_err-manifest : goal.returns-in_err-manifest
returns-in_err-manifest c =
    let q = err_from_is_err_and c.from_residual-in_err-manifest.result c.from_residual-in_err-manifest.ensures.1 in
    rw (q.1, q.2) (λ b i. stops_texts b (body_view c.args.body) i _ _ _ c.in_ok-name.ensures.ok _ c.in_err-manifest.ensures.err)

pub invariant_of-result : goal.invariant_of-result
invariant_of-result c =
    let f : FormParts = record {
      name = c.in_ok-name.name;
      version = c.in_ok-name.version;
      tag = c.in_ok-name.tag;
      access = c.args.body.access;
      manifest = string_bytes c.in_ok-manifest.manifest;
      archive = c.args.body.archive.items;
      needs = c.args.body.needs.items;
      integrity = c.in_ok-manifest.integrity;
    } in
    in_form c.requires.0 f (form_of c.requires.0 (body_view c.args.body) f c.requires.1 c.in_ok-name.ensures.ok
    refl refl refl c.in_ok-manifest.ensures.integrity (c.in_ok-manifest.ensures.manifest c.requires.0 c.requires.1))

pub returns : goal.returns
returns c = λ b i. form_of b (body_view c.args.body) _ i c.in_ok-name.ensures.ok
    refl refl refl c.in_ok-manifest.ensures.integrity (c.in_ok-manifest.ensures.manifest b i)
