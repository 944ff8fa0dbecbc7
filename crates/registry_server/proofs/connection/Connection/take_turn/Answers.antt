use Rattle.std.proofs.Common.{◌∙◌, ap, subst}
use Rattle.registry_service.specs.Turns.{spoken}
use Rattle.registry_server.specs.ConnectionStates.{Does}
use Rattle.registry_server.specs.Connections.{OpenConnection}
use Rattle.registry_server.proofs.connection.Connection.take_turn.Goals as goal

pub returns-in-Answered-clause-does : goal.returns-in-Answered-clause-does
returns-in-Answered-clause-does g c =
    let turn = c.take_turn-progress in
    subst (λ (old : OpenConnection g.row.S.Denot). Does (spoken g.D.HttpService.speaks g.D.Service.answers) old.state turn.new.self c.args.service.now turn.new.service (g.C.Clock.readings c.args.clock.now) (g.C.Clock.readings turn.new.clock) old.is_over turn.result) c.self.view_is turn.ensures.does

pub returns-in-Answered-clause-closes : goal.returns-in-Answered-clause-closes
returns-in-Answered-clause-closes g c over none =
    c.take_turn-progress.ensures.closes (ap (λ (x : OpenConnection g.row.S.Denot). x.is_over) c.self.view_is ∙ over) (ap (λ (x : OpenConnection g.row.S.Denot). x.state.held) c.self.view_is ∙ none)

pub returns-in-Waits-clause-does : goal.returns-in-Waits-clause-does
returns-in-Waits-clause-does g c =
    let turn = c.take_turn-progress in
    subst (λ (old : OpenConnection g.row.S.Denot). Does (spoken g.D.HttpService.speaks g.D.Service.answers) old.state turn.new.self c.args.service.now turn.new.service (g.C.Clock.readings c.args.clock.now) (g.C.Clock.readings turn.new.clock) old.is_over turn.result) c.self.view_is turn.ensures.does

pub returns-in-Waits-clause-closes : goal.returns-in-Waits-clause-closes
returns-in-Waits-clause-closes g c over none =
    c.take_turn-progress.ensures.closes (ap (λ (x : OpenConnection g.row.S.Denot). x.is_over) c.self.view_is ∙ over) (ap (λ (x : OpenConnection g.row.S.Denot). x.state.held) c.self.view_is ∙ none)

pub returns-else-not-is_empty-clause-does : goal.returns-else-not-is_empty-clause-does
returns-else-not-is_empty-clause-does g c =
    let turn = c.take_turn-progress in
    subst (λ (old : OpenConnection g.row.S.Denot). Does (spoken g.D.HttpService.speaks g.D.Service.answers) old.state turn.new.self c.args.service.now turn.new.service (g.C.Clock.readings c.args.clock.now) (g.C.Clock.readings turn.new.clock) old.is_over turn.result) c.self.view_is turn.ensures.does

pub returns-else-not-is_empty-clause-closes : goal.returns-else-not-is_empty-clause-closes
returns-else-not-is_empty-clause-closes g c over none =
    c.take_turn-progress.ensures.closes (ap (λ (x : OpenConnection g.row.S.Denot). x.is_over) c.self.view_is ∙ over) (ap (λ (x : OpenConnection g.row.S.Denot). x.state.held) c.self.view_is ∙ none)

pub returns-clause-does : goal.returns-clause-does
returns-clause-does g c =
    let turn = c.take_turn-progress in
    subst (λ (old : OpenConnection g.row.S.Denot). Does (spoken g.D.HttpService.speaks g.D.Service.answers) old.state turn.new.self c.args.service.now turn.new.service (g.C.Clock.readings c.args.clock.now) (g.C.Clock.readings turn.new.clock) old.is_over turn.result) c.self.view_is turn.ensures.does

pub returns-clause-closes : goal.returns-clause-closes
returns-clause-closes g c over none =
    c.take_turn-progress.ensures.closes (ap (λ (x : OpenConnection g.row.S.Denot). x.is_over) c.self.view_is ∙ over) (ap (λ (x : OpenConnection g.row.S.Denot). x.state.held) c.self.view_is ∙ none)
