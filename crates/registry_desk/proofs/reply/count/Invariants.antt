use Rattle.registry_desk.proofs.Words.{◌≡◌, ◌≤◌, length, map, take, text_of_version, selected}
use Rattle.registry_desk.proofs.reply.count.Given as goal

-- so many of the versions so far are selected, and no more than these
abbrev pub invariant-loop-version : goal.invariant-loop-version
invariant-loop-version l = record {
  is : l.count ≡ length (selected (map text_of_version (take l.version-index l.live)) l.selector);
  few : l.count ≤ l.version-index;
}
