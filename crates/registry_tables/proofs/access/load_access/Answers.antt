use Rattle.registry_tables.proofs.Words.{refl}
use Rattle.registry_access.specs.declared.rows.AccessRows.{AccessRows}
use Rattle.registry_tables.proofs.InsideFacts.{finds_of, found_and}
use Rattle.registry_tables.proofs.access.load_access.Goals as goal

pub returns : goal.returns
returns g c =
    let rows : AccessRows = record {
      organisations = c.in_ok-organisations.organisations;
      members = c.in_ok-members.members;
      teams = c.new.result;
      team_members = c.new-2.result;
      grants = c.new-3.result;
      packages = c.new-4.result;
      maintainers = c.new-5.result;
    } in
    finds_of g.S.Store c.args.tx.now c.member_rows.new.tx _ _ (found_and g.S.Store c.args.tx.now c.organisation_rows.new.tx c.member_rows.new.tx _ _ c.in_ok-organisations.ensures c.in_ok-members.ensures)
    (λ d it. record { organisation = it.0 rows refl; role = it.1 rows refl })
