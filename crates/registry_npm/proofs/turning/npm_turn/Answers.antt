use Rattle.std.proofs.Common.{Some, sym, ◌∙◌}
use Rattle.registry_routes.specs.Readings.{npm_route_view}
use Rattle.registry_npm.proofs.TurnFacts.{npms-turn, other-turn}
use Rattle.registry_npm.proofs.turning.npm_turn.Goals as goal

pub returns-then-not-is_npms : goal.returns-then-not-is_npms
returns-then-not-is_npms g c =
    let found = rw (c.in-Some.is, c.as_slice.ensures) at c.npm_route_of.ensures in
    other-turn g.D.Service.answers _ (npm_route_view (Some c.in-Some.route)) c.args.wanted.now c.args.at c.args.is_last _ _ found (sym (rw c.as_slice-2.ensures at c.is_npms.ensures) ∙ c.if-not-is_npms.true) c.other_turn-then-not-is_npms.ensures

pub returns : goal.returns
returns g c =
    let found = rw (c.in-Some.is, c.as_slice.ensures) at c.npm_route_of.ensures in
    npms-turn g.D.Service.answers _ _ c.args.wanted.now c.args.at c.args.is_last _ _ _ _ found (sym (rw c.as_slice-2.ensures at c.is_npms.ensures) ∙ c.if-not-is_npms.false) c.own-told.ensures.comes c.own-told.ensures.labels c.turn_told.ensures
