use Rattle.registry_ranges.proofs.LawFacts.{caret-allows, tilde-allows, tilde_greater-allows}
use Rattle.registry_ranges.proofs.laws.carets_and_tildes_keep_numbers.Goals as goal

pub returns-clause-caret : goal.returns-clause-caret
returns-clause-caret c = caret-allows

pub returns-clause-tilde : goal.returns-clause-tilde
returns-clause-tilde c = tilde-allows

pub returns-clause-tilde_greater : goal.returns-clause-tilde_greater
returns-clause-tilde_greater c = tilde_greater-allows
