use Rattle.std.proofs.Common.{inr}
use Rattle.registry_server.proofs.server.Server.add_connection.Goals as goal

pub returns-then-is_ok : goal.returns-then-is_ok
returns-then-is_ok c = inr (c.register-registered.new.source, c.add.ensures)
