use Rattle.std.proofs.Common.{◌∙◌, ◌+◌, List, ℕ, ap, arith, drop, get_or, rules, sym}
use Rattle.std.proofs.lemmas.List.{drop_more}
use Rattle.registry_log.specs.Targets.{begins, letters, meaning}
use Rattle.registry_log.proofs.TargetFacts.{begins_none}
use Rattle.registry_log.proofs.target.reads_as.Goals as goal

pub returns-in_default : goal.returns-in_default
returns-in_default c =
    let word = c.args.word.now in
    let at = c.loop-byte.byte-index in
    let rest = c.loop-byte.rest.now in
    sym (begins_none rest (get_or word at 0) (drop (at + 1) word) (search rules))
    ∙ ap (λ (w : List ℕ). begins (meaning (letters rest)) w) (sym (drop_more word at 0 (omega arith))) ∙ c.loop-byte.invariant
