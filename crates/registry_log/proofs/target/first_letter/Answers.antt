use Rattle.std.proofs.Common.{arith, rules}
use Rattle.std.proofs.lemmas.List.{take_rest}
use Rattle.registry_log.proofs.TargetFacts.{letters_at_escape}
use Rattle.registry_log.proofs.target.first_letter.Goals as goal

pub returns-in-37-clause-letters : goal.returns-in-37-clause-letters
returns-in-37-clause-letters c =
    let text = c.args.text.now in
    rw (take_rest text 3) (letters_at_escape text c.byte_of.result (omega arith) (search rules) (search rules) (search rules) (search rules))
