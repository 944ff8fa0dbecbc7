use Rattle.registry_desk.proofs.Words.{refl}
use Rattle.registry_desk.proofs.InsideFacts.{both, found_of}
use Rattle.registry_desk.proofs.OpenedFacts.{when_ok}
use Rattle.registry_desk.proofs.open.check_sound.Goals as goal

pub returns : goal.returns
returns g c = found_of c.check_so-2.result (both c.in_ok-are_grants_in_scope.ensures c.in_ok-numbers_are_in_range.ensures) (λ d it.
    when_ok c.check_so-2.result (λ ok. record { grants = it.0.0 (c.in_ok-check_so.ensures.ok.0 refl); numbers = it.1.0 (c.check_so-2.ensures.ok.0 ok) }))
