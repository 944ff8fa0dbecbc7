use Rattle.registry_npm.proofs.packages.fulfil.Goals as goal

pub returns-in-Judged : goal.returns-in-Judged
returns-in-Judged g c = rw (c.in-Judged.is, c.of.ensures) c.judged.ensures
