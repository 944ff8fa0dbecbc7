use Rattle.std.proofs.Common.{◌≡◌, ◌-◌, ◌==◌, ◌∙◌, ℕ, true, ap, drop, inl, inr, rules, subst}
use Rattle.registry_wire.specs.Spelling.{EndsWith, IsBad, IsUnfinished, Says}
use Rattle.registry_wire.specs.declared.first.Ending.TheVariants.{BadInput}
use Rattle.registry_wire.specs.declared.first.First.TheVariants.{Whole}
use Rattle.registry_service.specs.Servings.{bytes_of}
use Rattle.registry_service.specs.Turns.{Turns, TurnsAway, bad_input, no_memory, request, spoken}
use Rattle.registry_server.specs.ConnectionStates.{Pending, pending}
use Rattle.registry_server.proofs.StateFacts.{away-turn, starved-turn, whole-turn}
use Rattle.registry_server.proofs.state.ConnectionState.take_turn.Goals as goal

pub returns-in-Ok-Bad-clause-does : goal.returns-in-Ok-Bad-clause-does
returns-in-Ok-Bad-clause-does g c =
    let bad : IsBad c.args.self.now.held c.in-Ok-Bad.refusal = rw c.in-Ok-Bad.field-0-is at c.in-Ok-Bad.ensures.says in
    let away : TurnsAway (bad_input c.in-Ok-Bad.refusal) c.noted.result = rw c.noted.ensures.turned c.turn_away.ensures in
    rw c.put-in-Ok-Bad.ensures.answered (rw c.noted.ensures.service
    (away-turn (spoken g.D.HttpService.speaks g.D.Service.answers) _ _ _ _ _ c.in-Ok-Bad.refusal _ (inl bad) away (rw c.first.ensures.stays at c.put-in-Ok-Bad.ensures.state)))

pub returns-in-BadInput-clause-does : goal.returns-in-BadInput-clause-does
returns-in-BadInput-clause-does g c =
    let unfinished : IsUnfinished c.args.self.now.held = rw c.in-Ok-Unfinished.field-0-is at c.in-Ok-Unfinished.ensures.says in
    let still : IsUnfinished c.first.new.self.held = rw c.first.ensures.stays unfinished in
    let ends : EndsWith c.first.new.self.held (BadInput c.in-BadInput.refusal) = c.in-BadInput.ensures still in
    let over : c.args.is_over ≡ true = search rules in
    let away : TurnsAway (bad_input c.in-BadInput.refusal) c.noted-in-BadInput.result = rw c.noted-in-BadInput.ensures.turned c.turn_away-in-BadInput.ensures in
    rw c.put-in-BadInput.ensures.answered (rw c.noted-in-BadInput.ensures.service
    (away-turn (spoken g.D.HttpService.speaks g.D.Service.answers) _ _ _ _ _ c.in-BadInput.refusal _ (inr (rw c.first.ensures.stays at ends, over)) away (rw c.first.ensures.stays at c.put-in-BadInput.ensures.state)))

pub returns-in-Err-clause-does : goal.returns-in-Err-clause-does
returns-in-Err-clause-does g c =
    let away : TurnsAway no_memory c.noted-in-Err.result = rw c.noted-in-Err.ensures.turned c.turn_starved.ensures in
    rw c.put-in-Err.ensures.answered (rw c.noted-in-Err.ensures.service
    (starved-turn (spoken g.D.HttpService.speaks g.D.Service.answers) _ _ _ c.args.self.now c.put-in-Err.new.self
    (record { turned = c.noted-in-Err.result; away = away; state = rw c.first.ensures.stays at c.put-in-Err.ensures.state })))

pub returns-in-Ok-Whole-clause-does : goal.returns-in-Ok-Whole-clause-does
returns-in-Ok-Whole-clause-does g c =
    let dialogue = spoken g.D.HttpService.speaks g.D.Service.answers in
    let old = c.args.self.now in
    let wanted = c.in-Ok-Whole.wanted in
    let used = c.in-Ok-Whole.used in
    let turned = c.answered-turned.result in
    let says : Says old.held (Whole wanted used) = rw c.in-Ok-Whole.field-0-is at c.in-Ok-Whole.ensures.says in
    let (moment, turns, asked) = c.answered-turned.ensures.turns in
    let left : c.drop_first.new.self.left ≡ old.left = ap (λ (p : Pending). p.left) c.drop_first.ensures ∙ ap (λ (p : Pending). p.left) c.first.ensures.stays in
    let state : c.put.new.self ≡ pending (drop used old.held) (bytes_of turned) (old.left - 1) turned.end =
    c.put.ensures.state
    ∙ ap (λ (p : Pending). pending p.held (bytes_of turned) p.left turned.end) c.answered-turned.ensures.state
    ∙ ap (λ (p : Pending). pending p.held (bytes_of turned) (p.left - 1) turned.end) c.drop_first.ensures
    ∙ ap (λ (p : Pending). pending (drop used p.held) (bytes_of turned) (p.left - 1) turned.end) c.first.ensures.stays in
    rw c.put.ensures.answered
    (whole-turn dialogue old c.put.new.self c.args.service.now c.answered-turned.new.service (g.C.Clock.readings c.args.clock.now) (g.C.Clock.readings c.answered-turned.new.clock) c.args.is_over wanted used moment turned says.0
    (subst (λ (n : ℕ). Turns dialogue c.args.service.now (request wanted moment) (n == 1) turned c.answered-turned.new.service) left turns) asked state)
