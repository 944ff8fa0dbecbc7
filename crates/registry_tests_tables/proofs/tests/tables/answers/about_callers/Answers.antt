use Rattle.registry_tests_tables.proofs.WholeFacts.{finds_same, finds_whole}
use Rattle.registry_tests_tables.proofs.tests.tables.answers.about_callers.Goals as goal

pub returns-in_err-standing-in-standing-clause-same_reference : goal.returns-in_err-standing-in-standing-clause-same_reference
returns-in_err-standing-in-standing-clause-same_reference g c = finds_same g.S.Store _ _ c.load_standing.ensures c.requires.whole

pub returns-in_err-granted-in-text-clause-same_reference : goal.returns-in_err-granted-in-text-clause-same_reference
returns-in_err-granted-in-text-clause-same_reference g c = finds_same g.S.Store _ _ c.load_team_packages.ensures c.requires.whole

pub returns-in_err-load_token_user-in-text-2-clause-same_reference : goal.returns-in_err-load_token_user-in-text-2-clause-same_reference
returns-in_err-load_token_user-in-text-2-clause-same_reference g c = finds_same g.S.Store _ _ c.load_token_user.ensures c.requires.whole

pub returns-in_err-load_user_tokens-in-tokens-clause-same_reference : goal.returns-in_err-load_user_tokens-in-tokens-clause-same_reference
returns-in_err-load_user_tokens-in-tokens-clause-same_reference g c = finds_same g.S.Store _ _ c.load_user_tokens.ensures c.requires.whole

pub returns-in_err-are_grants_in_scope-in-text-3-clause-same_reference : goal.returns-in_err-are_grants_in_scope-in-text-3-clause-same_reference
returns-in_err-are_grants_in_scope-in-text-3-clause-same_reference g c = finds_same g.S.Store _ _ c.are_grants_in_scope.ensures c.requires.whole

pub returns-in_err-numbers_are_in_range-in-text-4-clause-same_reference : goal.returns-in_err-numbers_are_in_range-in-text-4-clause-same_reference
returns-in_err-numbers_are_in_range-in-text-4-clause-same_reference g c = finds_same g.S.Store _ _ c.numbers_are_in_range.ensures c.requires.whole

pub returns-in_ok-standing-in-standing : goal.returns-in_ok-standing-in-standing
returns-in_ok-standing-in-standing g c = record { same_reference = finds_same g.S.Store _ _ c.load_standing.ensures c.requires.whole; whole = finds_whole g.S.Store _ _ c.in_ok-standing-in-standing.ensures c.requires.whole }

pub returns-in_ok-granted-in-text : goal.returns-in_ok-granted-in-text
returns-in_ok-granted-in-text g c = record { same_reference = finds_same g.S.Store _ _ c.load_team_packages.ensures c.requires.whole; whole = finds_whole g.S.Store _ _ c.in_ok-granted-in-text.ensures c.requires.whole }

pub returns-in_ok-load_token_user-in-text-2 : goal.returns-in_ok-load_token_user-in-text-2
returns-in_ok-load_token_user-in-text-2 g c = record { same_reference = finds_same g.S.Store _ _ c.load_token_user.ensures c.requires.whole; whole = finds_whole g.S.Store _ _ c.in_ok-load_token_user-in-text-2.ensures c.requires.whole }

pub returns-in_ok-load_user_tokens-in-tokens : goal.returns-in_ok-load_user_tokens-in-tokens
returns-in_ok-load_user_tokens-in-tokens g c = record { same_reference = finds_same g.S.Store _ _ c.load_user_tokens.ensures c.requires.whole; whole = finds_whole g.S.Store _ _ c.in_ok-load_user_tokens-in-tokens.ensures c.requires.whole }

pub returns-in_ok-are_grants_in_scope-in-text-3 : goal.returns-in_ok-are_grants_in_scope-in-text-3
returns-in_ok-are_grants_in_scope-in-text-3 g c = record { same_reference = finds_same g.S.Store _ _ c.are_grants_in_scope.ensures c.requires.whole; whole = finds_whole g.S.Store _ _ c.in_ok-are_grants_in_scope-in-text-3.ensures c.requires.whole }

pub returns-in_ok-numbers_are_in_range-in-text-4 : goal.returns-in_ok-numbers_are_in_range-in-text-4
returns-in_ok-numbers_are_in_range-in-text-4 g c = record { same_reference = finds_same g.S.Store _ _ c.numbers_are_in_range.ensures c.requires.whole; whole = finds_whole g.S.Store _ _ c.in_ok-numbers_are_in_range-in-text-4.ensures c.requires.whole }
