use Rattle.std.proofs.Common.{◌∙◌, ap, subst, sym}
use Rattle.registry_log.specs.Logs.{IsPut, Logging, said_line}
use Rattle.registry_log.proofs.NoteFacts.{lost-as, put-as}
use Rattle.registry_log.proofs.log.Log.say.Goals as goal
use Rattle.registry_log.proofs.log.Log.say.Goals.{in-Ok, in-Err}

pub returns : goal.returns
returns g c =
    let waiting = λ (l : Logging). l.waiting in
    let answered = λ (l : Logging). l.answered in
    let later = λ (l : Logging). l.later in
    let unnamed = λ (l : Logging). l.unnamed in
    let text = said_line c.moment-at.result c.args.text.now in
    let before = ap waiting c.self.view_is in
    record {
      at = c.moment-at.result;
      between = c.match-said.self.waiting;
      noted = elim c.match-said.branch [
        | in-Ok w ↦ put-as w.as_bytes.result.now text c.args.self.now.waiting c.self.inside.waiting c.match-said.self.waiting (w.as_bytes.ensures.value ∙ w.in-Ok.ensures) before
            (subst (λ (l : Logging). IsPut w.as_bytes.result.now c.self.inside.waiting l.waiting) (sym w.self-is) w.add.ensures.put)
        | in-Err w ↦ lost-as text c.args.self.now.waiting c.self.inside.waiting c.match-said.self.waiting before (ap waiting w.self-is ∙ w.lose.ensures)
      ];
      written = c.write.ensures.written;
      keeps = record {
        answered = c.write.ensures.keeps.answered ∙ elim c.match-said.branch [
          | in-Ok w ↦ ap answered w.self-is ∙ w.add.ensures.keeps.answered ∙ ap answered c.self.view_is
          | in-Err w ↦ ap answered w.self-is ∙ ap answered c.self.view_is
        ];
        later = c.write.ensures.keeps.later ∙ elim c.match-said.branch [
          | in-Ok w ↦ ap later w.self-is ∙ w.add.ensures.keeps.later ∙ ap later c.self.view_is
          | in-Err w ↦ ap later w.self-is ∙ ap later c.self.view_is
        ];
        unnamed = c.write.ensures.keeps.unnamed ∙ elim c.match-said.branch [
          | in-Ok w ↦ ap unnamed w.self-is ∙ w.add.ensures.keeps.unnamed ∙ ap unnamed c.self.view_is
          | in-Err w ↦ ap unnamed w.self-is ∙ ap unnamed c.self.view_is
        ];
      };
    }
