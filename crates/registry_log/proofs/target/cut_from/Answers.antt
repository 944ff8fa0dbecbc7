use Rattle.std.proofs.Common.{◌∙◌, ◌++◌, List, ℕ, ap, arith, codes}
use Rattle.registry_log.proofs.TargetFacts.{cut_long}
use Rattle.registry_log.proofs.target.cut_from.Goals as goal

pub returns-in_ok-extend_from_slice : goal.returns-in_ok-extend_from_slice
returns-in_ok-extend_from_slice c =
    c.in_ok-extend_from_slice.ensures.items ∙ ap (λ (x : List ℕ). x ++ codes "...") c.truncate.ensures.items
    ∙ cut_long c.args.line.now.items c.args.start c.requires (omega arith)
