use Rattle.std.proofs.Common.{◌<◌, ◌^◌, length}
use Rattle.std.proofs.lemmas.List.Elements.{All-from_recursion}
use Rattle.registry_guests.proofs.writing.write.Goals as goal

pub put_word-requires : goal.put_word-requires
put_word-requires c = rw c.text-item.is (All-from_recursion (λ w. length w < 2 ^ 32) c.args.words.now c.requires.1 c.loop-text.text-index _ c.loop-text-test.true)
