use Rattle.std.proofs.Common.{rules, ◌==◌}
use Rattle.std.proofs.lemmas.Iterator.Search.{any_from_yields_List}
use Rattle.std.proofs.lemmas.Iterator.Splits.{YieldsList-from_slice_split}
use borrow.Author.Tests.{tests}
use Rattle.registry_wire.specs.MediaRanges.{is_refusal}
use Rattle.registry_wire.proofs.media_range.has_refusal.Goals as goal

pub returns : goal.returns
returns c = any_from_yields_List is_refusal _ _ c.any.result c.any.ensures.ran (YieldsList-from_slice_split _ (λ b. b == 59) c.args.parameters.now c.split.ensures.rest c.split.ensures.done c.split.ensures.closure (λ x r q k. search (rules, tests))) (λ x r q k. search (rules, tests))
