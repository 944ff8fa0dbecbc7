use Rattle.registry_ranges.specs.Texts.{ranges_in}
use Rattle.registry_ranges.proofs.ReadingFacts.{reading-sound, reads-value}
use Rattle.registry_ranges.proofs.laws.texts_are_read.Goals as goal

pub returns : goal.returns
unfolding ranges_in
returns c = λ text r. (reading-sound text r, reads-value text r)
