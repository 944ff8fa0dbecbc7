use Rattle.registry_program.proofs.in_files.outcome_in.Goals as goal

pub returns : goal.returns
returns g c = record { applied = (c.answer.new.self, rw c.new-service.ensures at c.answer.ensures.answers) }
