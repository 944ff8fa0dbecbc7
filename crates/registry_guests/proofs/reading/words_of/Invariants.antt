use Rattle.std.proofs.Common.{◌≡◌, ◌-◌}
use Rattle.registry_guests.specs.Spelling.{words}
use Rattle.registry_guests.specs.Reading.{words_at}
use Rattle.registry_guests.proofs.Loop.{with_front}
use Rattle.registry_guests.proofs.reading.words_of.Given as goal

abbrev pub invariant-loop : goal.invariant-loop
invariant-loop l = with_front (words l.words.items) (words_at (l.count - l.counter) l.rest) ≡ words_at l.count l.bytes
