use Rattle.registry_desk.proofs.Words.{sym}
use Rattle.registry_desk.proofs.open.Unopened.into_files.Goals as goal

pub returns-in-Ok : goal.returns-in-Ok
returns-in-Ok g c = let last = c.in-Ok.ensures.ok in rw c.in-Database.is (last.0, last.1, last.2)

pub returns-in-Err : goal.returns-in-Err
returns-in-Err g c = rw c.in-Database.is (c.in-Err.store, sym c.close.ensures, c.in-Err.ensures.err.0)
