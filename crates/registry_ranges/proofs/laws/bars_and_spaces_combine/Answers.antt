use Rattle.registry_ranges.proofs.CombinationFacts.{bars, padded, prereleases-meet, releases-meet}
use Rattle.registry_ranges.proofs.laws.bars_and_spaces_combine.Goals as goal

pub returns-clause-bars : goal.returns-clause-bars
returns-clause-bars c = bars

pub returns-clause-releases : goal.returns-clause-releases
returns-clause-releases c = releases-meet

pub returns-clause-prereleases : goal.returns-clause-prereleases
returns-clause-prereleases c = prereleases-meet

pub returns-clause-spaces : goal.returns-clause-spaces
returns-clause-spaces c = padded
