use Rattle.std.proofs.Common.{◌∙◌, ◌++◌, List, ℕ, ap, append_assoc, codes, rules}
use Rattle.registry_log.specs.Lines.{column}
use Rattle.registry_log.specs.Targets.{shown}
use Rattle.registry_log.proofs.TargetFacts.{cut_column}
use Rattle.registry_log.proofs.target.push_target.Goals as goal

pub returns : goal.returns
returns c =
    let line = c.args.line.now.items in
    let target = c.args.target.now in
    c.in_ok-push.ensures.items
    ∙ ap (λ (l : List ℕ). l ++ codes " ") (cut_column line c.push_shown.new.line.items c.cut_from.new.line.items target c.len-start.result (search rules) c.in_ok-push_shown.ensures c.in_ok-cut_from.ensures)
    ∙ append_assoc line (column (shown target)) (codes " ")
