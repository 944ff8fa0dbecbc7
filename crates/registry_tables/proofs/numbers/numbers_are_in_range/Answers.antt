use Rattle.registry_tables.proofs.Words.{◌∙◌, ◌&&◌, Bool, ap₂, subst, sym, TellsRanges}
use Rattle.registry_tables.proofs.InsideFacts.{finds_knows, finds_of, found_and}
use Rattle.registry_tables.proofs.RangeFacts.{tests_tell}
use Rattle.registry_tables.proofs.numbers.numbers_are_in_range.Goals as goal

pub returns : goal.returns
returns g c =
    let old = c.args.tx.now in
    let one = c.find_roles.new.tx in
    let two = c.find_statuses.new.tx in
    let three = c.find_levels.new.tx in
    let four = c.find_live.new.tx in
    let new = c.find_spent.new.tx in
    let statuses = found_and g.S.Store old one two _ _ c.in_ok-roles.ensures (finds_knows g.S.Store one two _ c.in_ok-statuses.ensures) in
    let levels = found_and g.S.Store old two three _ _ statuses (finds_knows g.S.Store two three _ c.in_ok-levels.ensures) in
    let live = found_and g.S.Store old three four _ _ levels (finds_knows g.S.Store three four _ c.in_ok-live.ensures) in
    let spent = found_and g.S.Store old four new _ _ live (finds_knows g.S.Store four new _ c.in_ok-spent.ensures) in
    finds_of g.S.Store old new _ _ spent (λ d it.
    let is = c.are_all.ensures ∙ ap₂ (λ a b. a && b) it.0.0.0.0 (ap₂ (λ a b. a && b) it.0.0.0.1 (ap₂ (λ a b. a && b) it.0.0.1 (ap₂ (λ a b. a && b) it.0.1 it.1))) in
    subst (λ (fine : Bool). TellsRanges fine d) (sym is) (tests_tell d))
