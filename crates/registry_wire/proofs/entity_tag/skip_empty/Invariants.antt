use Rattle.std.proofs.Common.{◌≤◌, length}
use Rattle.registry_wire.specs.TagReading.{ReadAlike, before}
use Rattle.registry_wire.proofs.entity_tag.skip_empty.Given as goal

abbrev pub invariant-loop-text : goal.invariant-loop-text
invariant-loop-text l = record {
  same : ReadAlike before l.fn.text l.text;
  few : length l.text ≤ length l.fn.text;
}

abbrev pub decreases-loop-text : goal.decreases-loop-text
decreases-loop-text l = length l.text
