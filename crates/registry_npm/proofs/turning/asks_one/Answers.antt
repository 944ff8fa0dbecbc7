use Rattle.registry_npm.proofs.OneFacts.{document-one}
use Rattle.registry_npm.proofs.turning.asks_one.Goals as goal

pub returns-then-is_document : goal.returns-then-is_document
returns-then-is_document c puts =
    let found = rw (c.in-Some.is, c.as_slice.ensures) at c.npm_route_of.ensures in
    document-one _ c.args.wanted.now found (c.is_document.ensures puts)
