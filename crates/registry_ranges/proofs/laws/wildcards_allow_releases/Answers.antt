use Rattle.registry_ranges.proofs.LawFacts.{empty-allows, none-above, none-below, wildcards}
use Rattle.registry_ranges.proofs.laws.wildcards_allow_releases.Goals as goal

pub returns-clause-wildcards : goal.returns-clause-wildcards
returns-clause-wildcards c = wildcards

pub returns-clause-empty : goal.returns-clause-empty
returns-clause-empty c = empty-allows

pub returns-clause-above : goal.returns-clause-above
returns-clause-above c = none-above

pub returns-clause-below : goal.returns-clause-below
returns-clause-below c = none-below
