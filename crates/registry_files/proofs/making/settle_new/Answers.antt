use Rattle.std.proofs.Common.{subst}
use Rattle.std.proofs.lemmas.Result.{IfOk-weaker}
use Rattle.registry_tables.specs.Contents.{Contents}
use Rattle.registry_files.specs.Copies.{HoldsRegistry}
use Rattle.registry_files.proofs.making.settle_new.Goals as goal

pub returns-in-Ok : goal.returns-in-Ok
returns-in-Ok g c = record {
  holds = IfOk-weaker c.close_new.result _ _
      (λ made held clean empty.
      let it = held clean in
      subst (λ (k : Contents). HoldsRegistry (g.D.Disk.seen made.db) k) (c.in-Ok.ensures.empty it.0 empty) it.1)
      c.close_new.ensures.holds;
}
