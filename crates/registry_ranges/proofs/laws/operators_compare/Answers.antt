use Rattle.registry_ranges.proofs.LawFacts.{alone-compares, equal-compares, greater-allows, greater_or_equal-allows, less-allows, less_or_equal-allows}
use Rattle.registry_ranges.proofs.laws.operators_compare.Goals as goal

pub returns-clause-alone : goal.returns-clause-alone
returns-clause-alone c = alone-compares

pub returns-clause-equal : goal.returns-clause-equal
returns-clause-equal c = equal-compares

pub returns-clause-less : goal.returns-clause-less
returns-clause-less c = less-allows

pub returns-clause-less_or_equal : goal.returns-clause-less_or_equal
returns-clause-less_or_equal c = less_or_equal-allows

pub returns-clause-greater : goal.returns-clause-greater
returns-clause-greater c = greater-allows

pub returns-clause-greater_or_equal : goal.returns-clause-greater_or_equal
returns-clause-greater_or_equal c = greater_or_equal-allows
