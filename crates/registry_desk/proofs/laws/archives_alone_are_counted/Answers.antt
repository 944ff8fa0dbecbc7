use Rattle.registry_desk.proofs.CountingFacts.{opens_count, outcomes_keep, stops_keep}
use Rattle.registry_desk.proofs.laws.archives_alone_are_counted.Goals as goal

pub returns : goal.returns
returns c = record {
  opened = opens_count;
  kept = outcomes_keep;
  stopped = stops_keep;
}
