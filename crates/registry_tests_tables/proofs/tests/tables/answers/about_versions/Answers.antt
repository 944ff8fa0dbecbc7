use Rattle.registry_tests_tables.proofs.WholeFacts.{finds_same, finds_whole}
use Rattle.registry_tests_tables.proofs.tests.tables.answers.about_versions.Goals as goal

pub returns-in_err-has_live-in-text-clause-same_reference : goal.returns-in_err-has_live-in-text-clause-same_reference
returns-in_err-has_live-in-text-clause-same_reference g c = finds_same g.S.Store _ _ c.has_live.ensures c.requires.whole

pub returns-in_err-has_version-in-text-2-clause-same_reference : goal.returns-in_err-has_version-in-text-2-clause-same_reference
returns-in_err-has_version-in-text-2-clause-same_reference g c = finds_same g.S.Store _ _ c.has_version.ensures c.requires.whole

pub returns-in_err-is_spent-in-text-3-clause-same_reference : goal.returns-in_err-is_spent-in-text-3-clause-same_reference
returns-in_err-is_spent-in-text-3-clause-same_reference g c = finds_same g.S.Store _ _ c.is_spent.ensures c.requires.whole

pub returns-in_err-has_tag-in-text-4-clause-same_reference : goal.returns-in_err-has_tag-in-text-4-clause-same_reference
returns-in_err-has_tag-in-text-4-clause-same_reference g c = finds_same g.S.Store _ _ c.has_tag.ensures c.requires.whole

pub returns-in_ok-has_live-in-text : goal.returns-in_ok-has_live-in-text
returns-in_ok-has_live-in-text g c = record { same_reference = finds_same g.S.Store _ _ c.has_live.ensures c.requires.whole; whole = finds_whole g.S.Store _ _ c.in_ok-has_live-in-text.ensures c.requires.whole }

pub returns-in_ok-has_version-in-text-2 : goal.returns-in_ok-has_version-in-text-2
returns-in_ok-has_version-in-text-2 g c = record { same_reference = finds_same g.S.Store _ _ c.has_version.ensures c.requires.whole; whole = finds_whole g.S.Store _ _ c.in_ok-has_version-in-text-2.ensures c.requires.whole }

pub returns-in_ok-is_spent-in-text-3 : goal.returns-in_ok-is_spent-in-text-3
returns-in_ok-is_spent-in-text-3 g c = record { same_reference = finds_same g.S.Store _ _ c.is_spent.ensures c.requires.whole; whole = finds_whole g.S.Store _ _ c.in_ok-is_spent-in-text-3.ensures c.requires.whole }

pub returns-in_ok-has_tag-in-text-4 : goal.returns-in_ok-has_tag-in-text-4
returns-in_ok-has_tag-in-text-4 g c = record { same_reference = finds_same g.S.Store _ _ c.has_tag.ensures c.requires.whole; whole = finds_whole g.S.Store _ _ c.in_ok-has_tag-in-text-4.ensures c.requires.whole }
