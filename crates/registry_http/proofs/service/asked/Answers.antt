use Rattle.sqlite.specs.Held.{state}
use Rattle.registry_desk.proofs.StoredFacts.{turns_of_apply}
use Rattle.registry_http.proofs.service.asked.Goals as goal

pub returns : goal.returns
returns g c = (
  record {
    answer = c.apply-outcome.ensures.answer;
    served = c.apply-outcome.ensures.served;
    opened = c.apply-outcome.ensures.opened;
    unchanged = c.apply-outcome.ensures.unchanged;
    step = c.apply-outcome.ensures.step;
    moves = c.apply-outcome.ensures.moves;
    history = c.apply-outcome.ensures.history;
    hidden = c.apply-outcome.ensures.hidden;
    written = c.apply-outcome.ensures.written;
    needs = c.apply-outcome.ensures.needs;
    refers = c.apply-outcome.ensures.refers;
    archives = c.apply-outcome.ensures.archives;
    form = c.apply-outcome.ensures.form;
    survives = turns_of_apply (state g.S.Store c.args.registry.now) (state g.S.Store c.apply-outcome.new.self) c.args.request.now c.apply-outcome.ensures.survives c.between_requests.ensures;
    durable = c.apply-outcome.ensures.durable;
  },
  c.apply-outcome.ensures.survives,
)
