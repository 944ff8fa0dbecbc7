use Rattle.std.proofs.Common.{◌∙◌, ap, map}
use Rattle.std.proofs.lemmas.Result.{IfOk-weaker}
use Rattle.registry_access.specs.RowMaps.{member_entry, team_entry, team_member_entry}
use Rattle.registry_names.specs.Maps.{entries}
use Rattle.registry_rows.proofs.QuietFacts.{stays_then}
use Rattle.registry_tables.specs.Contents.{access_of, contents}
use Rattle.registry_check.specs.Spelled.{member_spelled, pair_spelled, triple_spelled}
use Rattle.registry_check.proofs.LoadFacts.{answered, left, next, still}
use Rattle.registry_check.proofs.QueryFacts.{members_listed, teams_listed, team_members_listed}
use Rattle.registry_check.proofs.loads.load_groups.Goals as goal

pub returns-in_err-members-clause-stays : goal.returns-in_err-members-clause-stays
returns-in_err-members-clause-stays g c = left g.S.Store member_spelled (λ db. entries (access_of (contents db)).roles) members_listed c.args.tx.now c.load.new.tx c.requires.in_form c.load.ensures.same_reference c.load.ensures.finds

pub returns-in_err-teams-clause-stays : goal.returns-in_err-teams-clause-stays
returns-in_err-teams-clause-stays g c =
    let one = answered g.S.Store member_spelled (λ db. entries (access_of (contents db)).roles) members_listed c.args.tx.now c.load.new.tx _ c.requires.in_form c.load.ensures.same_reference c.in_ok-members.ensures.finds in
    stays_then g.S.Store c.args.tx.now c.load.new.tx c.load-2.new.tx one.stays (left g.S.Store pair_spelled (λ db. entries (contents db).teams) teams_listed c.load.new.tx c.load-2.new.tx (still g.S.Store c.args.tx.now c.load.new.tx _ one) c.load-2.ensures.same_reference c.load-2.ensures.finds)

pub returns-in_err-team_members-clause-stays : goal.returns-in_err-team_members-clause-stays
returns-in_err-team_members-clause-stays g c =
    let one = answered g.S.Store member_spelled (λ db. entries (access_of (contents db)).roles) members_listed c.args.tx.now c.load.new.tx _ c.requires.in_form c.load.ensures.same_reference c.in_ok-members.ensures.finds in
    let two = answered g.S.Store pair_spelled (λ db. entries (contents db).teams) teams_listed c.load.new.tx c.load-2.new.tx _ (still g.S.Store c.args.tx.now c.load.new.tx _ one) c.load-2.ensures.same_reference c.in_ok-teams.ensures.finds in
    stays_then g.S.Store c.args.tx.now c.load-2.new.tx c.load-3.new.tx (next g.S.Store c.args.tx.now c.load.new.tx c.load-2.new.tx _ _ one two).stays (left g.S.Store triple_spelled (λ db. entries (contents db).team_members) team_members_listed c.load-2.new.tx c.load-3.new.tx (still g.S.Store c.load.new.tx c.load-2.new.tx _ two) c.load-3.ensures.same_reference c.load-3.ensures.finds)

pub returns : goal.returns
returns g c =
    let one = answered g.S.Store member_spelled (λ db. entries (access_of (contents db)).roles) members_listed c.args.tx.now c.load.new.tx _ c.requires.in_form c.load.ensures.same_reference c.in_ok-members.ensures.finds in
    let two = answered g.S.Store pair_spelled (λ db. entries (contents db).teams) teams_listed c.load.new.tx c.load-2.new.tx _ (still g.S.Store c.args.tx.now c.load.new.tx _ one) c.load-2.ensures.same_reference c.in_ok-teams.ensures.finds in
    let three = answered g.S.Store triple_spelled (λ db. entries (contents db).team_members) team_members_listed c.load-2.new.tx c.load-3.new.tx _ (still g.S.Store c.load.new.tx c.load-2.new.tx _ two) c.load-3.ensures.same_reference c.in_ok-team_members.ensures.finds in
    let all = next g.S.Store c.args.tx.now c.load-2.new.tx c.load-3.new.tx _ _ (next g.S.Store c.args.tx.now c.load.new.tx c.load-2.new.tx _ _ one two) three in
    record {
      stays = all.stays;
      loads = λ clean. let r = all.reads clean in IfOk-weaker c.new.result _ _ (λ rows e. (r.0, record { members = ap (map member_entry) e.0 ∙ r.1.0.0; teams = ap (map team_entry) e.1 ∙ r.1.0.1; team_members = ap (map team_member_entry) e.2 ∙ r.1.1 })) c.new.ensures;
    }
