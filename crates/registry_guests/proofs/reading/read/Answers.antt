use Rattle.std.proofs.Common.{ap, subst, ◌∙◌, arith}
use Rattle.registry_guests.specs.Spelling.{view}
use Rattle.registry_guests.specs.Reading.{Gives, whole_of}
use Rattle.registry_guests.proofs.Messages.{is_found, whole_again}
use Rattle.registry_guests.proofs.reading.read.Goals as goal

pub returns-clause-found : goal.returns-clause-found
returns-clause-found c = is_found c.args.bytes.now c.whole.result (λ i. omega (arith, c.type_inv.bytes i)) c.whole.ensures

pub returns-clause-only : goal.returns-clause-only
returns-clause-only c = λ ws body fits lt e. subst (λ f. Gives view c.whole.result f) (ap whole_of e ∙ whole_again ws body fits lt) c.whole.ensures
