use Rattle.std.proofs.Common.{rules, ◌==◌}
use Rattle.std.proofs.lemmas.Iterator.Search.{all_from_yields_List}
use Rattle.std.proofs.lemmas.Iterator.Splits.{YieldsList-from_slice_split}
use borrow.Author.Tests.{tests}
use Rattle.semver.specs.Grammar.{is_pre_identifier}
use Rattle.registry_ranges.proofs.qualifier.all_pre_parts.Goals as goal

pub returns : goal.returns
returns c = all_from_yields_List is_pre_identifier _ _ c.all.result c.all.ensures.ran (YieldsList-from_slice_split _ (λ b. b == 46) c.args.text.now c.split.ensures.rest c.split.ensures.done c.split.ensures.closure (λ x r q k. search (rules, tests))) (λ x r q k. search (rules, tests))
