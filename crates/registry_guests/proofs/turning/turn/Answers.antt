use Rattle.std.proofs.Common.{◌∙◌, List, ℕ, ap, inl, inr, subst, sym}
use Rattle.std.specs.Global.{Vec}
use Rattle.registry_cli.specs.Lines.{line_of}
use Rattle.registry_cli.specs.declared.meaning.Line.{Line}
use Rattle.registry_guests.specs.GuestTurns.{AsksOnce, IsCommand, IsUnasked}
use Rattle.registry_guests.specs.Outputs.{Output, prints}
use Rattle.registry_guests.specs.Spelling.{words}
use Rattle.registry_guests.proofs.turning.turn.Goals as goal

pub returns-in-Ok : goal.returns-in-Ok
returns-in-Ok g c =
    let same = ap (λ (ws : List (Vec ℕ)). words ws) c.deref.ensures.value in
    inl (
      subst (λ (ws : List (List ℕ)). IsCommand ws) same c.in-Ok.ensures.ok.0,
      subst (λ (l : Line). AsksOnce g.D.Service.answers c.args.service.now l c.args.message.now.body.now c.args.now (prints c.ask.result) c.ask.new.service)
          (c.in-Ok.ensures.ok.1 ∙ ap (λ (ws : List (List ℕ)). line_of ws) same) c.ask.ensures,
    )

pub returns-in-Err : goal.returns-in-Err
returns-in-Err g c =
    let same = ap (λ (ws : List (Vec ℕ)). words ws) c.deref.ensures.value in
    inr (
      subst (λ (o : Output). IsUnasked (words c.args.message.now.arguments.items) (prints o)) (sym c.noted.ensures.output)
          (subst (λ (ws : List (List ℕ)). IsUnasked ws (prints c.in-Err.output)) same c.in-Err.ensures.err),
      c.noted.ensures.service,
    )
