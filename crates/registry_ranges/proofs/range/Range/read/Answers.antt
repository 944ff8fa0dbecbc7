use Rattle.registry_ranges.proofs.RangeFacts.{are-ends, comparators-mean, keeps-wrong, piece-end, piece-or, piece-part}
use Rattle.registry_ranges.proofs.RangeTextFacts.{part-shorter, fresh-shorter, part-valid}
use Rattle.registry_ranges.proofs.range.Range.read.Goals as goal

pub push_part-requires : goal.push_part-requires
push_part-requires c = part-valid _ _ _ _ _ c.in-Part.ensures

pub steps-smaller-in-Part : goal.steps-smaller-in-Part
steps-smaller-in-Part c = part-shorter _ _ _ _ _ c.in-Part.ensures

pub steps-preserved-in-Part : goal.steps-preserved-in-Part
steps-preserved-in-Part c = piece-part _ _ _ _ _ _ _ _ _ c.steps.invariant c.in-Part.ensures c.in_ok-push_part-in-Part.ensures.ok

pub steps-smaller : goal.steps-smaller
steps-smaller c = fresh-shorter _ _ _ _ _ c.in-Or.ensures c.new-reader-in-Or.ensures.place c.new-reader-in-Or.ensures.rest

pub steps-preserved : goal.steps-preserved
steps-preserved c =
    piece-or _ _ _ _ _ _ _ _ _ c.steps.invariant c.in-Or.ensures c.in_ok-push_end-in-Or.ensures.ok c.new-reader-in-Or.ensures.place c.new-reader-in-Or.ensures.rest

pub invariant_of-result : goal.invariant_of-result
invariant_of-result c = are-ends _ _ _ _ _ _ c.steps.invariant c.in_ok-push_end-in-End.ensures.ok

pub returns-in-End-clause-found : goal.returns-in-End-clause-found
returns-in-End-clause-found c = piece-end _ _ _ _ _ _ c.steps.invariant c.in-End.ensures c.in_ok-push_end-in-End.ensures.ok

pub returns-in-End-clause-meaning : goal.returns-in-End-clause-meaning
returns-in-End-clause-meaning c = comparators-mean _ _ (piece-end _ _ _ _ _ _ c.steps.invariant c.in-End.ensures c.in_ok-push_end-in-End.ensures.ok)

pub returns-in-Wrong-clause-none : goal.returns-in-Wrong-clause-none
returns-in-Wrong-clause-none c e t = keeps-wrong _ _ _ _ _ c.steps.invariant.1 c.in-Wrong.ensures t
