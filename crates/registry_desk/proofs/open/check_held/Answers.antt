use Rattle.registry_desk.proofs.Words.{◌∙◌, refl, sym}
use Rattle.registry_migration.proofs.StayFacts.{no_more}
use Rattle.registry_desk.proofs.InsideFacts.{then_found}
use Rattle.registry_desk.proofs.open.check_held.Goals as goal

pub returns : goal.returns
returns g c = then_found c.check_sound.result c.in_ok-counts_archives_alone.ensures c.check_sound.ensures
    (λ _ d alone written. (no_more d.counters (sym alone ∙ c.in_ok-check_so.ensures.ok.0 refl), written))
