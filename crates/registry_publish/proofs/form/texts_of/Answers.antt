use Rattle.registry_publish.specs.Views.{body_view}
use Rattle.registry_publish.proofs.FormFacts.{text_of}
use Rattle.registry_publish.proofs.form.texts_of.Goals as goal

pub returns-clause-manifest : goal.returns-clause-manifest
returns-clause-manifest c = λ b i. text_of b (body_view c.args.body.now) i _ c.in_ok-manifest.ensures.text c.in_ok-manifest.ensures.reads_back
