use Rattle.registry_laws_history.proofs.ApartFacts.{changes_of_others, revised_after_others, revised_after_steps, steps_of_others}
use Rattle.registry_laws_history.proofs.laws.packuments_stand_apart.Goals as goal

pub returns-clause-changes : goal.returns-clause-changes
returns-clause-changes c = changes_of_others

pub returns-clause-steps : goal.returns-clause-steps
returns-clause-steps c = steps_of_others

pub returns-clause-revised_changes : goal.returns-clause-revised_changes
returns-clause-revised_changes c = revised_after_others

pub returns-clause-revised_steps : goal.returns-clause-revised_steps
returns-clause-revised_steps c = revised_after_steps
