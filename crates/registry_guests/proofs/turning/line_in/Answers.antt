use Rattle.std.proofs.Common.{refl}
use Rattle.registry_guests.proofs.TurnFacts.{words-unasked}
use Rattle.registry_guests.proofs.turning.line_in.Goals as goal

pub returns-in-Err-Words-clause-err : goal.returns-in-Err-Words-clause-err
returns-in-Err-Words-clause-err c =
    words-unasked c.args.words.now _ c.in-Err-Words.text _ refl (rw c.in-Err-Words.field-0-is at c.usage-in-Err-Words.ensures) (rw (c.in-Err-Words.is, c.in-Err-Words.field-0-is) at c.line.ensures.err)
