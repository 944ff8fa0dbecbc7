use Rattle.registry_tests_tables.proofs.WholeFacts.{finds_same, finds_whole}
use Rattle.registry_tests_tables.proofs.tests.tables.answers.about_maintainers.Goals as goal

pub returns-in_err-is-in-text-clause-same_reference : goal.returns-in_err-is-in-text-clause-same_reference
returns-in_err-is-in-text-clause-same_reference g c = finds_same g.S.Store _ _ c.is_maintainer.ensures c.requires.whole

pub returns-in_err-has-in-text-2-clause-same_reference : goal.returns-in_err-has-in-text-2-clause-same_reference
returns-in_err-has-in-text-2-clause-same_reference g c = finds_same g.S.Store _ _ c.has_other_maintainer.ensures c.requires.whole

pub returns-in_ok-is-in-text : goal.returns-in_ok-is-in-text
returns-in_ok-is-in-text g c = record { same_reference = finds_same g.S.Store _ _ c.is_maintainer.ensures c.requires.whole; whole = finds_whole g.S.Store _ _ c.in_ok-is-in-text.ensures c.requires.whole }

pub returns-in_ok-has-in-text-2 : goal.returns-in_ok-has-in-text-2
returns-in_ok-has-in-text-2 g c = record { same_reference = finds_same g.S.Store _ _ c.has_other_maintainer.ensures c.requires.whole; whole = finds_whole g.S.Store _ _ c.in_ok-has-in-text-2.ensures c.requires.whole }
