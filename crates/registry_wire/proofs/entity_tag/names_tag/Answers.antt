use Rattle.registry_wire.proofs.TagFacts.{named-once}
use Rattle.registry_wire.proofs.entity_tag.names_tag.Goals as goal

pub returns-in-Once-clause-named : goal.returns-in-Once-clause-named
returns-in-Once-clause-named c = named-once c.args.field.now c.in-Once.value c.args.tag.now _ _ c.names.result c.in-Once.is c.as_slice.ensures c.as_slice-in-Once.ensures.bytes c.names.ensures
