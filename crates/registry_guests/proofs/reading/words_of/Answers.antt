use Rattle.std.proofs.Common.{◌≡◌, ◌++◌, ◌∷◌, []}
use Rattle.std.proofs.lemmas.Result.{err_from_is_err_and}
use Rattle.std.proofs.lemmas.List.{map_push}
use Rattle.registry_guests.specs.Spelling.{words}
use Rattle.registry_guests.specs.Reading.{words_at}
use Rattle.registry_guests.proofs.Loop.{goes_on, ends, is_done}
use Rattle.registry_guests.proofs.reading.words_of.Goals as goal

pub returns-in_err-word : goal.returns-in_err-word
returns-in_err-word c =
    let p = err_from_is_err_and c.from_residual.result c.from_residual.ensures.1 in
    rw (p.1, p.2) (ends c.in_err-word.field-0.0 (words c.loop.words.items) c.args.count c.loop.counter c.loop.rest.now (words_at c.args.count c.args.bytes.now) c.loop-test.true c.in_err-word.ensures c.loop.invariant)

pub loop-preserved : goal.loop-preserved
loop-preserved c =
    let n = c.in_ok-word.word in
    let e : words c.push.new.self.items ≡ words c.loop.words.items ++ n.items ∷ [] = rw c.in_ok-push.ensures.items (map_push _ c.loop.words.items n) in
    rw e (goes_on (words c.loop.words.items) c.args.count c.loop.counter c.loop.rest.now (n.items) c.in_ok-word.after.now (words_at c.args.count c.args.bytes.now) c.loop-test.true c.in_ok-word.ensures c.loop.invariant)

pub returns : goal.returns
returns c = is_done (words c.loop.words.items) c.args.count c.loop.counter c.loop.rest.now (words_at c.args.count c.args.bytes.now) c.loop-test.false c.loop.invariant
