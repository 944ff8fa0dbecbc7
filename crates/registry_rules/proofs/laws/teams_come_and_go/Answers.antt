use Rattle.registry_rules.proofs.LawFacts as facts
use Rattle.registry_rules.proofs.laws.teams_come_and_go.Goals as goal

pub returns-clause-created : goal.returns-clause-created
returns-clause-created c = facts.teams_are_created

pub returns-clause-new : goal.returns-clause-new
returns-clause-new c = facts.new_teams_are_empty

pub returns-clause-destroyed : goal.returns-clause-destroyed
returns-clause-destroyed c = facts.teams_are_destroyed

pub returns-clause-added : goal.returns-clause-added
returns-clause-added c = facts.team_members_are_added

pub returns-clause-removed : goal.returns-clause-removed
returns-clause-removed c = facts.team_members_are_removed
