use Rattle.registry_npm.specs.Forms.{team_text}
use Rattle.registry_npm.proofs.FormFacts.{map_last, map_step}
use Rattle.registry_npm.proofs.forms.team_texts.Goals as goal

pub loop-team-preserved : goal.loop-team-preserved
loop-team-preserved c =
    let made = rw (c.text.ensures.text, c.as_str.ensures.text) at c.in_ok-text.ensures in
    map_step (team_text c.args.organisation.now) c.loop-team.texts.items _ _ c.args.teams.now c.loop-team.team-index c.team-item.result c.in_ok-text.text c.loop-team-test.true c.team-item.is made c.in_ok-push.ensures.items c.loop-team.invariant

pub returns : goal.returns
returns c = map_last (team_text c.args.organisation.now) c.loop-team.texts.items _ c.args.teams.now c.loop-team.team-index c.loop-team-test.false c.loop-team.invariant
