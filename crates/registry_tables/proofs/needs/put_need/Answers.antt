use Rattle.registry_tables.proofs.InsideFacts.{write_makes}
use Rattle.registry_tables.proofs.NeedFacts.{need_put}
use Rattle.registry_tables.proofs.needs.put_need.Goals as goal

pub returns : goal.returns
returns g c = write_makes g.S.Store _ _ c.args.tx.now c.write.new.tx c.write.result c.write.ensures.stays
    (rw (c.params-to_sql.ensures, c.params-to_sql-2.ensures, c.params-to_sql-3.ensures, c.params-to_sql-4.ensures, c.as_str.ensures.text, c.as_str-2.ensures.text) at c.write.ensures.wrote)
    (λ form wrote clean. (tt, need_put c.args.name.now c.args.version.now c.args.need.now _ _ form wrote clean))
