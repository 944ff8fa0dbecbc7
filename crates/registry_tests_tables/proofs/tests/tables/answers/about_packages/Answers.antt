use Rattle.registry_tests_tables.proofs.WholeFacts.{finds_same, finds_whole, makes_same, makes_whole}
use Rattle.registry_tests_tables.proofs.tests.tables.answers.about_packages.Goals as goal

pub returns-in_err-load_status-in-text-clause-same_reference : goal.returns-in_err-load_status-in-text-clause-same_reference
returns-in_err-load_status-in-text-clause-same_reference g c = finds_same g.S.Store _ _ c.load_status.ensures c.requires.whole

pub returns-in_err-load_tags-in-tags-clause-same_reference : goal.returns-in_err-load_tags-in-tags-clause-same_reference
returns-in_err-load_tags-in-tags-clause-same_reference g c = finds_same g.S.Store _ _ c.load_tags.ensures c.requires.whole

pub returns-in_err-load_times-in-times-clause-same_reference : goal.returns-in_err-load_times-in-times-clause-same_reference
returns-in_err-load_times-in-times-clause-same_reference g c = finds_same g.S.Store _ _ c.load_times.ensures c.requires.whole

pub returns-in_err-load_archive-in-archive-clause-same_reference : goal.returns-in_err-load_archive-in-archive-clause-same_reference
returns-in_err-load_archive-in-archive-clause-same_reference g c = finds_same g.S.Store _ _ c.load_archive.ensures c.requires.whole

pub returns-in_err-put_version-in-publish-clause-same_reference : goal.returns-in_err-put_version-in-publish-clause-same_reference
returns-in_err-put_version-in-publish-clause-same_reference g c = makes_same g.S.Store _ _ c.put_version.ensures.makes c.requires.whole

pub returns-in_ok-load_status-in-text : goal.returns-in_ok-load_status-in-text
returns-in_ok-load_status-in-text g c = record { same_reference = finds_same g.S.Store _ _ c.load_status.ensures c.requires.whole; whole = finds_whole g.S.Store _ _ c.in_ok-load_status-in-text.ensures c.requires.whole }

pub returns-in_ok-load_tags-in-tags : goal.returns-in_ok-load_tags-in-tags
returns-in_ok-load_tags-in-tags g c = record { same_reference = finds_same g.S.Store _ _ c.load_tags.ensures c.requires.whole; whole = finds_whole g.S.Store _ _ c.in_ok-load_tags-in-tags.ensures c.requires.whole }

pub returns-in_ok-load_times-in-times : goal.returns-in_ok-load_times-in-times
returns-in_ok-load_times-in-times g c = record { same_reference = finds_same g.S.Store _ _ c.load_times.ensures c.requires.whole; whole = finds_whole g.S.Store _ _ c.in_ok-load_times-in-times.ensures c.requires.whole }

pub returns-in_ok-load_archive-in-archive : goal.returns-in_ok-load_archive-in-archive
returns-in_ok-load_archive-in-archive g c = record { same_reference = finds_same g.S.Store _ _ c.load_archive.ensures c.requires.whole; whole = finds_whole g.S.Store _ _ c.in_ok-load_archive-in-archive.ensures c.requires.whole }

pub returns-in_ok-put_version-in-publish : goal.returns-in_ok-put_version-in-publish
returns-in_ok-put_version-in-publish g c = record { same_reference = makes_same g.S.Store _ _ c.put_version.ensures.makes c.requires.whole; whole = makes_whole g.S.Store _ _ c.in_ok-put_version-in-publish.ensures.makes c.requires.whole }
