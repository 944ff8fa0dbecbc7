use Rattle.registry_tables.proofs.TeamFacts.{sound_teams}
use Rattle.registry_tables.proofs.laws.teams_are_within_their_organisation.Goals as goal

pub returns : goal.returns
returns c = λ stored sound. sound_teams stored sound
