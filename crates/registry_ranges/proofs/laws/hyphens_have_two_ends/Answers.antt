use Rattle.registry_ranges.proofs.LawFacts.{between, hyphen-allows, open-above, open-below}
use Rattle.registry_ranges.proofs.laws.hyphens_have_two_ends.Goals as goal

pub returns-clause-ends : goal.returns-clause-ends
returns-clause-ends c = hyphen-allows

pub returns-clause-above : goal.returns-clause-above
returns-clause-above c = open-above

pub returns-clause-below : goal.returns-clause-below
returns-clause-below c = open-below

pub returns-clause-between : goal.returns-clause-between
returns-clause-between c = between
