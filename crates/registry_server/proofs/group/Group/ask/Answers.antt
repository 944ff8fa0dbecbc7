use Rattle.std.proofs.Common.{◌≡◌, ◌≤◌, ◌<◌, ◌∙◌, [], List, ap, append-nil, drop, get_or, length, subst, sym, take, arith}
use Rattle.std.proofs.lemmas.List.{drop_all}
use Rattle.registry_rules.specs.declared.request.Request.{Request}
use Rattle.registry_server.specs.Groups.{AreAsked, AreSpelled}
use Rattle.registry_server.proofs.GroupFacts.{ask-all, ask-more}
use Rattle.registry_server.proofs.PoolFacts.{all-back}
use Rattle.registry_server.proofs.group.Group.ask.Goals as goal

pub loop-request-init : goal.loop-request-init
loop-request-init g c = record {
  spelled = subst (AreSpelled c.args.self.now.commands.items) (sym c.deref_mut-request-items.ensures.value) c.requires;
  asked = λ others later asked. asked;
}

pub loop-request-preserved : goal.loop-request-preserved
loop-request-preserved g c =
    let items = c.loop-request.request-items in
    let i = c.loop-request.request-index in
    let here = get_or items i c.request-item.result in
    let within : i < length items = grind (arith, c.loop-request-test.true, c.loop-request.auto.request-items, c.deref_mut-request-items.ensures.len) in
    let more = ask-more c.args.self.now.commands.items items i here c.now-request.result _ _ _ within (ap (λ (d : Request). get_or items i d) c.request-item.is) c.loop-request.invariant.spelled c.now-request.ensures c.loop-request.invariant.asked in
    record { spelled = more.0; asked = more.1 }

pub returns-clause-asked : goal.returns-clause-asked
returns-clause-asked g c =
    let old = c.args.self.now.requests.items in
    let commands = c.args.self.now.commands.items in
    let items = c.loop-request.request-items in
    let i = c.loop-request.request-index in
    let now = g.C.Clock.readings c.loop-request.clock in
    let same = ap (λ (l : List Request). length l) c.deref_mut-request-items.ensures.value in
    let past : length old ≤ i = omega (arith, same, c.loop-request-test.false) in
    let many : length items ≡ length old = c.loop-request.auto.request-items ∙ same in
    let none = ask-all (drop i commands) (drop i items) now c.loop-request.invariant.spelled (drop_all i items (omega (arith, many, past))) in
    subst (λ (l : List Request). AreAsked commands l (g.C.Clock.readings c.args.clock.now) now)
    (sym (all-back old items i c.args.self.now.requests.len many past (sym c.deref_mut-request-items.ensures.len ∙ same)))
    (subst (λ (l : List Request). AreAsked commands l (g.C.Clock.readings c.args.clock.now) now) (append-nil (take i items)) (c.loop-request.invariant.asked [] now none))
