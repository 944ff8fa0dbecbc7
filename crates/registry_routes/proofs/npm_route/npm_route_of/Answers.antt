use Rattle.registry_routes.proofs.NpmFacts.{npm_table-read}
use Rattle.registry_routes.proofs.npm_route.npm_route_of.Goals as goal

pub returns : goal.returns
returns c =
    let read = rw c.path_of.ensures at c.npm_route_at.ensures in
    npm_table-read _ c.args.method c.args.target.now read
