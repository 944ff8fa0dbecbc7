use Rattle.registry_routes.proofs.ReadingFacts.{table-read}
use Rattle.registry_routes.proofs.route.route_of.Goals as goal

pub returns : goal.returns
returns c =
    let read = rw c.path_of.ensures at c.route_at.ensures in
    table-read _ c.args.method c.args.target.now read
