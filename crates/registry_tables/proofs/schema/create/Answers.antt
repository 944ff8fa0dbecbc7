use Rattle.registry_tables.proofs.Words.{arith, refl, on_answer}
use Rattle.registry_tables.specs.Creation.{creation}
use Rattle.registry_tables.proofs.CreationFacts.{numbered}
use Rattle.registry_tables.proofs.schema.create.Goals as goal

pub create_tables-requires : goal.create_tables-requires
unfolding creation
create_tables-requires g c = record { texts = refl }

pub returns-clause-made : goal.returns-clause-made
returns-clause-made g c none =
    numbered g.S.Store c.create_tables.new.tx c.put_schema.new.tx c.put_schema.result (c.in_ok-create_tables.ensures.made none) (λ clean. omega (arith, c.put_schema.ensures.stays.survives.clean, clean)) c.put_schema.ensures.makes

pub returns-clause-created : goal.returns-clause-created
returns-clause-created g c = on_answer c.put_schema.result (λ puts. (c.create_tables.new.tx, c.in_ok-create_tables.ensures.ran, puts)) c.put_schema.ensures.puts
