use Rattle.registry_tables.proofs.Words.{shown}
use Rattle.registry_tables.proofs.ReferenceFacts.{held_stored}
use Rattle.registry_tables.proofs.StepFacts.{change_counts, change_keeps, change_makes, changes_make}
use Rattle.registry_tables.proofs.laws.changes_make_operations.Goals as goal

pub returns : goal.returns
returns g c = record {
  one = change_makes;
  all = changes_make;
  kept = change_keeps;
  in_form = λ tx form clean on. held_stored (shown g.S.Store tx) (form clean on);
  counters = change_counts;
}
