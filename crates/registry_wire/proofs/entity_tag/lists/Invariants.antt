use Rattle.std.proofs.Common.{◌≡◌, false, length}
use Rattle.registry_wire.specs.TagReading.{before, reads}
use Rattle.registry_wire.proofs.entity_tag.lists.Given as goal

abbrev pub invariant-tags : goal.invariant-tags
invariant-tags l = reads l.tag l.found before l.text ≡ reads l.fn.tag false before l.fn.text

abbrev pub decreases-tags : goal.decreases-tags
decreases-tags l = length l.text
