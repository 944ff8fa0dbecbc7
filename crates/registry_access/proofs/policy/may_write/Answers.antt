use Rattle.std.proofs.Common.{ap, ◌∙◌}
use Rattle.registry_names.specs.declared.refusal.Rule.TheVariants.{A6}
use Rattle.registry_access.specs.Levels.{reads, writes}
use Rattle.registry_access.specs.Policy.{by_rule, for_known, where_found}
use Rattle.registry_access.specs.Positions.{level_at}
use Rattle.registry_access.proofs.policy.may_write.Goals as goal

pub returns : goal.returns
returns c =
    c.where_found.ensures
    ∙ ap (λ b. for_known c.args.caller.now (where_found b (by_rule A6 c.writes.result))) (c.reads.ensures ∙ ap reads c.level.ensures)
    ∙ ap (λ b. for_known c.args.caller.now (where_found (reads (level_at c.args.at)) (by_rule A6 b))) (c.writes.ensures ∙ ap writes c.level-2.ensures)
