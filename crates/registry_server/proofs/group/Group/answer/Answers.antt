use Rattle.std.proofs.Common.{◌≡◌, ◌∙◌, List, ap, length, reverse, subst, sym, true}
use Rattle.std.specs.List.{AllByRecursion}
use Rattle.std.proofs.lemmas.List.{reverse-reverse}
use Rattle.registry_rules.specs.Actions.{is_command}
use Rattle.registry_rules.specs.declared.request.Request.{Request}
use Rattle.registry_service.specs.HttpAnswers.{Outcome}
use Rattle.registry_service.specs.Turns.{AnswersEach, exchanges}
use Rattle.registry_server.specs.Groups.{AskedEach}
use Rattle.registry_server.proofs.GroupFacts.{asked-commands, asked-each, asked-many, whole-back}
use Rattle.registry_server.proofs.group.Group.answer.Goals as goal

pub answer_together-requires-clause-each : goal.answer_together-requires-clause-each
answer_together-requires-clause-each g c =
    let many = asked-many _ _ _ _ c.ask.ensures.asked in
    ap (λ (l : List Outcome). length l) c.deref_mut.ensures.value ∙ ap (λ v. length v.items) c.ask.ensures.outcomes ∙ c.requires.many ∙ sym many ∙ sym (ap (λ (l : List Request). length l) c.deref.ensures.value)

pub answer_together-requires-clause-commands : goal.answer_together-requires-clause-commands
answer_together-requires-clause-commands g c = subst (λ (l : List Request). AllByRecursion (λ (a : Request). is_command a.what ≡ true) l) (sym c.deref.ensures.value) (asked-commands _ _ _ _ c.ask.ensures.asked)

pub returns-clause-asked : goal.returns-clause-asked
returns-clause-asked g c =
    let os = c.answer_together.new.outcomes in
    let old = c.ask.new.self.outcomes.items in
    let requests = c.ask.new.self.requests.items in
    let commands = c.args.self.now.commands.items in
    let readings = g.C.Clock.readings c.args.clock.now in
    let readings2 = g.C.Clock.readings c.ask.new.clock in
    let many : length os ≡ length requests = c.answer_together.ensures.many ∙ ap (λ (l : List Request). length l) c.deref.ensures.value in
    let room : length old ≡ length requests = ap (λ v. length v.items) c.ask.ensures.outcomes ∙ c.requires.many ∙ sym (asked-many commands requests readings readings2 c.ask.ensures.asked) in
    let back = whole-back old os c.ask.new.self.outcomes.len (many ∙ sym room) (sym c.deref_mut.ensures.len ∙ ap (λ (l : List Outcome). length l) c.deref_mut.ensures.value) in
    let all : reverse c.reverse.new.self.items ≡ os = ap (λ (l : List Outcome). reverse l) (c.reverse.ensures.items ∙ ap (λ (l : List Outcome). reverse l) back) ∙ reverse-reverse os in
    let each = subst (λ (l : List Request). AnswersEach g.D.Service.answers c.args.service.now (exchanges l os) c.answer_together.new.self) c.deref.ensures.value c.answer_together.ensures.answers in
    subst (λ v. AskedEach g.D.Service.answers v.items (reverse c.reverse.new.self.items) c.args.service.now c.answer_together.new.self readings readings2) (sym c.ask.ensures.commands)
    (subst (λ (l : List Outcome). AskedEach g.D.Service.answers commands l c.args.service.now c.answer_together.new.self readings readings2) (sym all)
    (asked-each g.D.Service.answers commands requests os c.args.service.now c.answer_together.new.self readings readings2 c.ask.ensures.asked many each))
