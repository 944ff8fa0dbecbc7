use Rattle.registry_routes.proofs.FileFacts.{no-hyphen, shows-version}
use Rattle.registry_routes.proofs.file.version_behind.Goals as goal

pub returns-in_err-rest-2 : goal.returns-in_err-rest-2
returns-in_err-rest-2 c = rw c.from_residual-in_err-rest-2.ensures (no-hyphen _ _ _ c.in_ok-rest.ensures c.in_err-rest-2.ensures)

pub returns : goal.returns
returns c = shows-version c.ahead.result _ _ _ _ c.in_ok-rest.ensures c.in_ok-rest-2.ensures c.ahead.ensures
