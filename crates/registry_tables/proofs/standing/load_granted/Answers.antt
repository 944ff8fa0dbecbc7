use Rattle.registry_tables.proofs.Words.{sym, subst, ◌∙◌, rules, Caller, AreGrantedTo}
use Rattle.registry_tables.proofs.InsideFacts.{finds_knows, finds_so, knows_here}
use Rattle.registry_tables.proofs.StandingFacts.{members_grants, no_grants}
use Rattle.registry_tables.proofs.standing.load_granted.Goals as goal
use Rattle.registry_tables.proofs.standing.load_granted.Goals.{in_default-via-in-User+in-Some+in-Developer+else-maintainer+in-None-1, in_default-via-in-User+in-Some+in-Developer+then-maintainer, in_default-via-in-User+in-Some+in_default, in_default-via-in-User+in_default, in_default-via-in_default}

pub returns-in-User-Some-Developer-false-Some : goal.returns-in-User-Some-Developer-false-Some
returns-in-User-Some-Developer-false-Some g c =
    let at = c.in-User-Some-Developer-false-Some in
    finds_knows g.S.Store c.args.tx.now c.load_grants.new.tx c.load_grants.result (finds_so g.S.Store c.args.tx.now c.load_grants.new.tx c.load_grants.result
    (λ d grants it. subst (λ (who : Caller). AreGrantedTo d who c.args.name.now c.args.role c.args.maintainer grants.items) (sym at.is-0)
    (members_grants d at.organisation.now at.user c.args.name.now c.args.role c.args.maintainer grants.items (sym at.ensures.scope) it))
    c.load_grants.ensures)

pub returns-in_default : goal.returns-in_default
returns-in_default g c = knows_here g.S.Store c.args.tx.now _ (λ d. subst (AreGrantedTo d c.args.caller.now c.args.name.now c.args.role c.args.maintainer) (sym c.new.ensures.items)
    (no_grants d c.args.caller.now c.args.name.now c.args.role c.args.maintainer (λ u is_user is_developer is_other. elim c.in_default.branch [
      | in_default-via-in-User+in-Some+in-Developer+else-maintainer+in-None-1 w ↦ sym w.in-None-1.ensures.0
      | in_default-via-in-User+in-Some+in-Developer+then-maintainer w ↦ search rules
      | in_default-via-in-User+in-Some+in_default w ↦ search rules
      | in_default-via-in-User+in_default w ↦ absurd (let e = sym w.in_default.is-1 ∙ is_developer in cc)
      | in_default-via-in_default w ↦ absurd (w.in_default.not-User-0 u is_user)
    ])))
