use Rattle.std.proofs.Common.{◌≡◌, ◌∙◌, ap, sym, subst, List, ℕ}
use Rattle.registry_wire.specs.Inboxes.{Unread}
use Rattle.registry_wire.specs.Spelling.{IsUnfinished, EndsWith}
use Rattle.registry_wire.specs.declared.first.Ending.TheVariants.{BadInput}
use Rattle.registry_wire.proofs.inbox.Inbox.ended.Goals as goal

pub returns-in-BadInput : goal.returns-in-BadInput
returns-in-BadInput g c = λ unfinished.
    let same : c.as_slice.result.now ≡ c.args.self.now.held = c.as_slice.ensures ∙ ap (λ (u : Unread _). u.held) c.self.view_is in
    subst (λ (l : List ℕ). EndsWith l (BadInput c.in-BadInput.refusal)) same (c.in-BadInput.ensures (subst IsUnfinished (sym same) unfinished))
