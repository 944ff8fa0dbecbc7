use Rattle.registry_desk.proofs.OpenedFacts.{no_error}
use Rattle.registry_desk.proofs.open.Registry+FileStore+FileFrom+S.open.Goals as goal

pub returns-in-Ok : goal.returns-in-Ok
returns-in-Ok g c =
    let it = c.in-Ok.ensures in
    record {
      found = it.found;
      each = it.each;
      empty = it.empty;
      written = it.written;
      served = it.served;
      durable = it.durable;
      guarded = it.guarded;
      unlimited = it.unlimited;
      memory = λ memory. absurd (no_error _ _ (it.memory memory));
      uri = λ uri. absurd (no_error _ _ (it.uri uri));
    }
