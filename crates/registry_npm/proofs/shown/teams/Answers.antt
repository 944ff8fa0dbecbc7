use Rattle.registry_npm.specs.Forms.{teams_form}
use Rattle.registry_npm.proofs.ShownFacts.{shown_formed, shown_other}
use Rattle.registry_npm.proofs.shown.teams.Goals as goal

pub returns-in-Ok : goal.returns-in-Ok
returns-in-Ok c = shown_formed (teams_form c.args.organisation.now) _ c.in-Ok.text _ _ c.in-Ok.ensures (rw c.as_str.ensures.text at c.teams-form.ensures.ok) c.formed.ensures

pub returns-in-Err : goal.returns-in-Err
returns-in-Err c = shown_other (teams_form c.args.organisation.now) _ _ c.in-Err.ensures.0 c.in-Err.ensures.1
