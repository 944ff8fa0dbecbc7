use Rattle.std.proofs.Common.{◌≡◌, ◌<◌, ◌≤◌, ◌∙◌, List, ℕ, ap, get_or, length, refl, subst, sym, take, arith}
use Rattle.std.proofs.lemmas.List.{take_all}
use Rattle.registry_server.specs.declared.group.Command.{Command}
use Rattle.registry_server.specs.declared.pool.Place.{Place}
use Rattle.registry_server.specs.Groups.{VisitsFirst, VisitsOrSetsAside}
use Rattle.registry_server.specs.Queries.{answering}
use Rattle.registry_server.proofs.GroupFacts.{empty-within, first-step, many-step, same-here, within-step}
use Rattle.registry_server.proofs.PoolFacts.{rest-step}
use Rattle.registry_server.proofs.pool.visit_places.Goals as goal

pub loop-number-init : goal.loop-number-init
loop-number-init g c = record {
  visited = (c.requires.commands, c.requires.requests, refl, refl);
  many = c.requires.outcomes ∙ sym (ap (λ (l : List Command). length l) c.requires.commands);
  within = empty-within c.args.group.now c.requires;
  rest = refl;
}

pub loop-number-preserved : goal.loop-number-preserved
loop-number-preserved g c =
    let socket = g.S.Socket in
    let asked = answering c.args.commands_wait g.D.Service.answers in
    let old = c.args.places.now in
    let items = c.loop-number.places in
    let i = c.loop-number.number in
    let here = get_or items i c.index-places-number.result in
    let len : length items ≡ length old = c.loop-number.auto.places in
    let within : i < length old = grind (arith, c.loop-number-test.true, c.loop-number.auto.places, c.loop-number.auto.number-end) in
    let one = subst (λ (most : ℕ). VisitsOrSetsAside socket.received socket.sent socket.has_none socket.is_full socket.has_more socket.is_ended socket.is_broken g.D.HttpService.speaks asked g.D.Service.over c.args.commands_wait c.args.is_crowd c.args.now most i here c.visit.new.self c.loop-number.group c.visit.new.group c.loop-number.service c.visit.new.service (g.C.Clock.readings c.loop-number.clock) (g.C.Clock.readings c.visit.new.clock)) c.loop-number.auto.buffer c.visit.ensures in
    record {
      visited = first-step socket.received socket.sent socket.has_none socket.is_full socket.has_more socket.is_ended socket.is_broken g.D.HttpService.speaks asked g.D.Service.over c.args.commands_wait c.args.is_crowd c.args.now (length c.args.buffer.now) old items i here c.visit.new.self c.loop-number.group c.visit.new.group _ _ _ _ _ _ within len
          (same-here old items i here c.loop-number.invariant.rest (ap (λ (p : Place g.row.S.Denot). get_or items i p) c.index-places-number.is)) c.loop-number.invariant.visited one;
      many = many-step socket.received socket.sent socket.has_none socket.is_full socket.has_more socket.is_ended socket.is_broken g.D.HttpService.speaks asked g.D.Service.over c.args.commands_wait c.args.is_crowd c.args.now (length c.args.buffer.now) i here c.visit.new.self c.loop-number.group c.visit.new.group _ _ _ _ one c.loop-number.invariant.many;
      within = within-step socket.received socket.sent socket.has_none socket.is_full socket.has_more socket.is_ended socket.is_broken g.D.HttpService.speaks asked g.D.Service.over c.args.commands_wait c.args.is_crowd c.args.now (length c.args.buffer.now) i here c.visit.new.self c.loop-number.group c.visit.new.group _ _ _ _ one c.loop-number.invariant.within;
      rest = rest-step old items i _ c.loop-number.invariant.rest;
    }

pub returns-clause-visits : goal.returns-clause-visits
returns-clause-visits g c =
    let socket = g.S.Socket in
    let old = c.args.places.now in
    let items = c.loop-number.places in
    let i = c.loop-number.number in
    let past : length old ≤ i = grind (arith, c.loop-number-test.false, c.loop-number.auto.places, c.loop-number.auto.number-end) in
    let same : length items ≡ length old = c.loop-number.auto.places in
    subst (λ (l : List (Place g.row.S.Denot)). VisitsFirst socket.received socket.sent socket.has_none socket.is_full socket.has_more socket.is_ended socket.is_broken g.D.HttpService.speaks (answering c.args.commands_wait g.D.Service.answers) g.D.Service.over c.args.commands_wait c.args.is_crowd c.args.now (length c.args.buffer.now) 0 l items c.loop-number.group.commands.items c.loop-number.group.requests.items c.args.service.now c.loop-number.service (g.C.Clock.readings c.args.clock.now) (g.C.Clock.readings c.loop-number.clock)) (take_all i old past)
    (subst (λ (l : List (Place g.row.S.Denot)). VisitsFirst socket.received socket.sent socket.has_none socket.is_full socket.has_more socket.is_ended socket.is_broken g.D.HttpService.speaks (answering c.args.commands_wait g.D.Service.answers) g.D.Service.over c.args.commands_wait c.args.is_crowd c.args.now (length c.args.buffer.now) 0 (take i old) l c.loop-number.group.commands.items c.loop-number.group.requests.items c.args.service.now c.loop-number.service (g.C.Clock.readings c.args.clock.now) (g.C.Clock.readings c.loop-number.clock)) (take_all i items (omega (arith, same, past)))
    c.loop-number.invariant.visited)
