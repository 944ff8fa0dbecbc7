use Rattle.registry_tables.proofs.Words.{◌≡◌, ◌∙◌, ◌++◌, List, ap₂, subst, sym, IfOk-weaker, Caller, User, Text, PackageLevel, is_own, access_of, firsts_of, levels_in, scope_of, scopes_levels, unscoped_levels}
use Rattle.registry_tables.proofs.InsideFacts.{finds_knows, finds_of, found_and, found_sound}
use Rattle.registry_tables.proofs.LevelFacts.{AreOwnLevels, are_own_levels}
use Rattle.registry_tables.proofs.SortFacts.{both_ok}
use Rattle.registry_tables.proofs.levels.load_user_packages.Goals as goal

pub returns : goal.returns
returns g c =
    let old = c.args.tx.now in
    let one = c.load_unscoped.new.tx in
    let two = c.load_user_organisations.new.tx in
    let new = c.add_scopes.new.tx in
    let u = c.args.user.now in
    let gathered = c.add_scopes.new.packages.items in
    let unscoped = found_sound g.S.Store old one _ AreOwnLevels are_own_levels c.in_ok-packages.ensures in
    let organisations = found_and g.S.Store old one two _ _ unscoped (finds_knows g.S.Store one two _ c.in_ok-organisations.ensures) in
    let added = found_and g.S.Store old two new _ _ organisations c.in_ok-add_scopes.ensures in
    finds_of g.S.Store old new _ c.in_order.result added (λ d it. IfOk-weaker c.in_order.result _ _ (λ sorted sort sound.
    let are : gathered ≡ unscoped_levels d u ++ scopes_levels d (User u) (firsts_of d.members u) =
    it.1 sound ∙ ap₂ (λ (a b : List PackageLevel). a ++ b) it.0.0.1 (ap₂ (λ (w : Caller) (l : List Text). scopes_levels d w l) c.requires.user it.0.1) in
    subst (λ (w : Caller). sorted.items ≡ levels_in d w (λ p. is_own (access_of d) w p (scope_of p))) (sym c.requires.user) (it.0.0.0 u gathered sorted.items are sort.0 sort.1))
    (both_ok c.in_order.result _ _ c.in_order.ensures.rises c.in_order.ensures.last))
