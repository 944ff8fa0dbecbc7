use Rattle.registry_tests_tables.proofs.WholeFacts.{makes_same, makes_whole}
use Rattle.registry_tests_tables.proofs.tests.tables.answers.answer.Goals as goal

pub returns-in_err-make-in-Some-clause-same_reference : goal.returns-in_err-make-in-Some-clause-same_reference
returns-in_err-make-in-Some-clause-same_reference g c = makes_same g.S.Store _ _ c.make.ensures.makes c.requires.whole

pub returns-in_ok-make-in-Some : goal.returns-in_ok-make-in-Some
returns-in_ok-make-in-Some g c = record { same_reference = makes_same g.S.Store _ _ c.make.ensures.makes c.requires.whole; whole = makes_whole g.S.Store _ _ c.in_ok-make-in-Some.ensures.makes c.requires.whole }
