use Rattle.registry_desk.proofs.Words.{◌∙◌, ap, memory_is_clean, end_stored}
use Rattle.registry_desk.proofs.CommitFacts.{stays_open}
use Rattle.registry_desk.proofs.StoredFacts.{needs_for_each}
use Rattle.registry_desk.proofs.registry.Registry+MemStore.run_in_memory.Goals as goal

pub returns : goal.returns
returns c =
    let made = c.in_ok-registry.ensures in
    let ran = c.in_ok-outcomes.ensures in
    let clean = memory_is_clean c.run.new.self in
    let on = stays_open _ (ran.closes.closes clean made.served) in
    let needs = needs_for_each c.args.requests.now _ made.sound.needs in
    record {
      headline = ran.headline needs clean on made.empty;
      stored = ran.stored needs clean on ∙ ap (end_stored c.args.requests.now c.in_ok-outcomes.outcomes.items) made.fresh;
      sound = record { grants = (ran.written clean on).grants; needs = ran.needs needs clean on made.sound.needs };
      archives = ran.archives needs clean on made.archives;
      form = ran.form needs clean on made.form;
      served = on;
    }
