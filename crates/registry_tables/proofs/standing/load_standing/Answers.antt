use Rattle.registry_tables.proofs.Words.{◌≡◌, ◌||◌, ◌∙◌, not, true, is_some, ap, sym, is_maintainer, is_owner_or_admin, scope_of, access_of}
use Rattle.registry_access.specs.RowsFor.{is_owners}
use Rattle.registry_tables.proofs.InsideFacts.{finds_of, found_and, found_sound}
use Rattle.registry_tables.proofs.StandingFacts.{MembersHaveTheirs, all_told, counts_asked, counts_follower, have_theirs, public_told, scope_there}
use Rattle.registry_tables.proofs.standing.load_standing.Goals as goal

pub returns : goal.returns
returns g c =
    let who = c.args.caller.now in
    let name = c.args.name.now in
    let old = c.args.tx.now in
    let asks = is_owners c.args.ask.now in
    let leads = is_owner_or_admin c.in_ok-role.role in
    let status = found_sound g.S.Store old c.load_status.new.tx _ MembersHaveTheirs have_theirs c.in_ok-status.ensures in
    let role = found_and g.S.Store old c.load_status.new.tx c.load_scope_role.new.tx _ _ status c.in_ok-role.ensures in
    let organisation = found_and g.S.Store old c.load_scope_role.new.tx c.has_scope.new.tx _ _ role c.in_ok-organisation.ensures in
    let maintainer = found_and g.S.Store old c.has_scope.new.tx c.maintains_for.new.tx _ _ organisation c.in_ok-maintainer.ensures in
    let grants = found_and g.S.Store old c.maintains_for.new.tx c.load_granted.new.tx _ _ maintainer c.in_ok-grants.ensures in
    finds_of g.S.Store old c.load_granted.new.tx _ _ grants (λ d it sound.
    let told = it.0 in
    let is_role = told.0.0.1 in
    let is_told : (asks || not leads) ≡ true → c.in_ok-maintainer.maintainer ≡ is_maintainer (access_of d) who name = told.1 in
    all_told _ _ who name c.args.ask.now (λ asked. is_told (counts_asked asks leads asked)) (record {
      organisation = told.0.1 (λ there. scope_there d told.0.0.0.0 who (scope_of name) (sym (c.is_some.ensures ∙ ap is_some is_role) ∙ there));
      role = is_role;
      status = told.0.0.0.1;
      maintainer = λ other. is_told (counts_follower asks leads other);
      grants = it.1 sound is_role;
    }))

pub returns-then-sees_public : goal.returns-then-sees_public
returns-then-sees_public g c = finds_of g.S.Store c.args.tx.now c.load_status.new.tx _ _ c.in_ok-status.ensures
    (λ d status sound. public_told _ _ c.args.caller.now c.args.name.now c.args.ask.now (sym c.sees_public.ensures ∙ c.if-sees_public.true) status)
