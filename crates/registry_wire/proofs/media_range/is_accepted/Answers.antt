use Rattle.registry_wire.proofs.MediaFacts.{accepted-alone, accepted-then, accepted-else}
use Rattle.registry_wire.proofs.media_range.is_accepted.Goals as goal

pub returns-in-empty : goal.returns-in-empty
returns-in-empty c =
    accepted-alone c.args.element.now c.split_at.result.0.now c.split_at.result.1.now c.range_len.result c.is_abbreviated.result
    c.range_len.ensures c.split_at.ensures.front c.split_at.ensures.back c.in-empty.len_below c.is_abbreviated.ensures

pub returns-then-is_abbreviated : goal.returns-then-is_abbreviated
returns-then-is_abbreviated c =
    accepted-then c.args.element.now c.split_at.result.0.now c.split_at.result.1.now c.range_len.result c.range_len.ensures c.split_at.ensures.front c.split_at.ensures.back c.in-len1-up.len_at_least
    c.is_abbreviated-in-len1-up.result c.has_refusal.result c.is_abbreviated-in-len1-up.ensures c.if-is_abbreviated.true c.has_refusal.ensures

pub returns-else-is_abbreviated : goal.returns-else-is_abbreviated
returns-else-is_abbreviated c =
    accepted-else c.args.element.now c.split_at.result.0.now c.split_at.result.1.now c.range_len.result c.range_len.ensures c.split_at.ensures.front c.split_at.ensures.back c.in-len1-up.len_at_least
    c.is_abbreviated-in-len1-up.result c.is_abbreviated-in-len1-up.ensures c.if-is_abbreviated.false
