use Rattle.std.proofs.Common.{◌≡◌, ◌∙◌, List, ℕ, ap, subst, sym}
use Rattle.registry_wire.specs.Spelling.{EndsWith, IsUnfinished}
use Rattle.registry_server.specs.ConnectionStates.{Pending}
use Rattle.registry_server.proofs.state.ConnectionState.ending.Goals as goal

pub returns : goal.returns
returns c = λ unfinished.
    let same : c.as_slice.result.now ≡ c.args.self.now.held = c.as_slice.ensures ∙ ap (λ (p : Pending). p.held) c.self.view_is in
    subst (λ (l : List ℕ). EndsWith l c.ending_of.result) same (c.ending_of.ensures (subst IsUnfinished (sym same) unfinished))
