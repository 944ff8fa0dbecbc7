use Rattle.std.proofs.Common.{◌≡◌, ◌<◌, ◌≤◌, ◌∙◌, ap, get_or, length, arith}
use Rattle.registry_server.specs.declared.pool.Place.{Place}
use Rattle.registry_server.proofs.GroupFacts.{answer-all, answer-step, same-here}
use Rattle.registry_server.proofs.PoolFacts.{rest-step}
use Rattle.registry_server.proofs.pool.send_answers.Goals as goal

pub loop-number-preserved : goal.loop-number-preserved
loop-number-preserved g c =
    let socket = g.S.Socket in
    let old = c.args.places.now in
    let items = c.loop-number.places in
    let i = c.loop-number.number in
    let here = get_or items i c.index-places-number.result in
    let len : length items ≡ length old = c.loop-number.auto.places in
    let within : i < length old = grind (arith, c.loop-number-test.true, c.loop-number.auto.places, c.loop-number.auto.number-end) in
    record {
      answered = answer-step socket.received socket.sent socket.has_none socket.is_full socket.has_more socket.is_ended socket.is_broken g.D.HttpService.speaks g.D.Service.answers g.D.Service.over c.args.now i old items here c.answer_next.new.self c.args.group.now c.loop-number.group c.answer_next.new.group within len
          (same-here old items i here c.loop-number.invariant.rest (ap (λ (p : Place g.row.S.Denot). get_or items i p) c.index-places-number.is)) c.answer_next.ensures.answers c.loop-number.invariant.answered;
      many = c.answer_next.ensures.many;
      rest = rest-step old items i _ c.loop-number.invariant.rest;
      service = c.answer_next.ensures.service ∙ c.loop-number.invariant.service;
    }

pub returns-clause-answers : goal.returns-clause-answers
returns-clause-answers g c =
    let socket = g.S.Socket in
    let old = c.args.places.now in
    let items = c.loop-number.places in
    let i = c.loop-number.number in
    let len : length items ≡ length old = c.loop-number.auto.places in
    let past : length old ≤ i = grind (arith, c.loop-number-test.false, c.loop-number.auto.places, c.loop-number.auto.number-end) in
    answer-all socket.received socket.sent socket.has_none socket.is_full socket.has_more socket.is_ended socket.is_broken g.D.HttpService.speaks g.D.Service.answers g.D.Service.over c.args.now i old items c.args.group.now c.loop-number.group past len c.loop-number.invariant.answered
