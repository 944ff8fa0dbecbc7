use Rattle.registry_desk.proofs.Words.{state}
use Rattle.registry_desk.proofs.LifeFacts.{groups_keep_outcomes, groups_leave_all_or_nothing, stops_keep_outcomes, stops_leave_all_or_nothing}
use Rattle.registry_desk.proofs.laws.stops_leave_all_or_nothing.Goals as goal

pub returns-clause-stopped : goal.returns-clause-stopped
returns-clause-stopped g c = stops_leave_all_or_nothing (state g.S.Store) (state g.T.Store)

pub returns-clause-outcome : goal.returns-clause-outcome
returns-clause-outcome g c = stops_keep_outcomes (state g.S.Store) (state g.T.Store)

pub returns-clause-together : goal.returns-clause-together
returns-clause-together g c = groups_leave_all_or_nothing g.S.Store g.T.Store

pub returns-clause-outcomes : goal.returns-clause-outcomes
returns-clause-outcomes g c = groups_keep_outcomes g.S.Store g.T.Store
