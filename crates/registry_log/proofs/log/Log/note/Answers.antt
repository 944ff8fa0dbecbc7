use Rattle.std.proofs.Common.{◌∙◌, ℕ, List, Option, ap, subst}
use Rattle.registry_log.specs.Logs.{LacksUser, Logging}
use Rattle.registry_log.proofs.NoteFacts.{notes-kept, notes-line}
use Rattle.registry_log.proofs.log.Log.note.Goals as goal

pub returns-in-Some : goal.returns-in-Some
returns-in-Some g c =
    let answers = λ (l : Logging). l.answered in
    let later = λ (l : Logging). l.later in
    let left = c.moment-at.ensures.keeps ∙ c.take_answered-answered.ensures.left in
    let found = subst (λ (token : Option (List ℕ)). LacksUser c.take_answered-answered.result c.args.wanted token) c.in-Some.is c.lacking.ensures in
    notes-kept c.args.wanted c.args.turned.now c.args.self.now c.moment-at.new.self c.keep.new.self c.moment-at.result c.take_answered-answered.result
    (ap (λ (l : Logging). l.waiting) left) (ap (λ (l : Logging). l.unnamed) left) (record { answered = ap answers left; later = ap later left }) c.take_answered-answered.ensures.taken
    c.moment-at.ensures.asked c.in-Some.token found c.keep.ensures.kept c.keep.ensures.answered c.keep.ensures.later

pub returns : goal.returns
returns g c =
    let answers = λ (l : Logging). l.answered in
    let later = λ (l : Logging). l.later in
    let left = c.moment-at.ensures.keeps ∙ c.take_answered-answered.ensures.left in
    let none = subst (λ (token : Option (List ℕ)). LacksUser c.take_answered-answered.result c.args.wanted token) c.in-None.is c.lacking.ensures in
    notes-line c.args.wanted c.args.turned.now c.args.self.now c.moment-at.new.self c.put_turn.new.self c.moment-at.result c.take_answered-answered.result
    (ap (λ (l : Logging). l.waiting) left) (ap (λ (l : Logging). l.unnamed) left) (record { answered = ap answers left; later = ap later left }) c.take_answered-answered.ensures.taken
    c.moment-at.ensures.asked none c.put_turn.ensures.noted c.put_turn.ensures.keeps
