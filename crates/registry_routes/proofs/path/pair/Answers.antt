use Rattle.std.proofs.Common.{sym}
use Rattle.registry_routes.proofs.PairFacts.{pair-view}
use Rattle.registry_routes.proofs.path.pair.Goals as goal

pub returns : goal.returns
returns c =
    let e = rw c.in_ok-first.was at c.segment.ensures in
    let f = rw c.in_ok-second.was at c.segment-2.ensures in
    pair-view c.args.path.now _ _ _ _ _ _ (sym e) (sym f) c.split_at.ensures.front c.split_at.ensures.back
