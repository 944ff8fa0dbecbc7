use Rattle.registry_service.proofs.BodyFacts.{other_form}
use Rattle.registry_npm.proofs.documents.form_of.Goals as goal

pub returns-else-is_of : goal.returns-else-is_of
returns-else-is_of c = other_form c.args.name.now c.args.body.now c.in_ok-form.form c.is_of.result c.in_ok-form.ensures c.is_of.ensures c.if-is_of.false
