use Rattle.registry_tables.proofs.Words.{on_answer, schema_number}
use Rattle.registry_tables.proofs.MetaFacts.{number_put}
use Rattle.registry_tables.proofs.meta.put_schema.Goals as goal

pub returns-clause-makes : goal.returns-clause-makes
returns-clause-makes g c form clean = on_answer c.write.result
    (λ wrote. number_put schema_number _ _ form wrote clean)
    (rw (c.params-to_sql.ensures) at c.write.ensures.wrote)

pub returns-clause-puts : goal.returns-clause-puts
returns-clause-puts g c = rw (c.params-to_sql.ensures) at c.write.ensures.wrote
