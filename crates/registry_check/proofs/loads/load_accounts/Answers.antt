use Rattle.std.proofs.Common.{◌∙◌, ap, map}
use Rattle.std.proofs.lemmas.Result.{IfOk-weaker}
use Rattle.registry_access.specs.RowMaps.{organisation_entry}
use Rattle.registry_check.specs.Rows.{token_entry, user_entry}
use Rattle.registry_names.specs.Maps.{entries}
use Rattle.registry_rows.proofs.QuietFacts.{stays_then}
use Rattle.registry_tables.specs.Contents.{contents}
use Rattle.registry_check.specs.Spelled.{name_spelled, token_spelled}
use Rattle.registry_check.proofs.LoadFacts.{answered, left, next, still}
use Rattle.registry_check.proofs.QueryFacts.{users_listed, tokens_listed, organisations_listed}
use Rattle.registry_check.proofs.loads.load_accounts.Goals as goal

pub returns-in_err-users-clause-stays : goal.returns-in_err-users-clause-stays
returns-in_err-users-clause-stays g c = left g.S.Store name_spelled (λ db. entries (contents db).users) users_listed c.args.tx.now c.load.new.tx c.requires.in_form c.load.ensures.same_reference c.load.ensures.finds

pub returns-in_err-tokens-clause-stays : goal.returns-in_err-tokens-clause-stays
returns-in_err-tokens-clause-stays g c =
    let one = answered g.S.Store name_spelled (λ db. entries (contents db).users) users_listed c.args.tx.now c.load.new.tx _ c.requires.in_form c.load.ensures.same_reference c.in_ok-users.ensures.finds in
    stays_then g.S.Store c.args.tx.now c.load.new.tx c.load-2.new.tx one.stays (left g.S.Store token_spelled (λ db. entries (contents db).tokens) tokens_listed c.load.new.tx c.load-2.new.tx (still g.S.Store c.args.tx.now c.load.new.tx _ one) c.load-2.ensures.same_reference c.load-2.ensures.finds)

pub returns-in_err-organisations-clause-stays : goal.returns-in_err-organisations-clause-stays
returns-in_err-organisations-clause-stays g c =
    let one = answered g.S.Store name_spelled (λ db. entries (contents db).users) users_listed c.args.tx.now c.load.new.tx _ c.requires.in_form c.load.ensures.same_reference c.in_ok-users.ensures.finds in
    let two = answered g.S.Store token_spelled (λ db. entries (contents db).tokens) tokens_listed c.load.new.tx c.load-2.new.tx _ (still g.S.Store c.args.tx.now c.load.new.tx _ one) c.load-2.ensures.same_reference c.in_ok-tokens.ensures.finds in
    stays_then g.S.Store c.args.tx.now c.load-2.new.tx c.load-3.new.tx (next g.S.Store c.args.tx.now c.load.new.tx c.load-2.new.tx _ _ one two).stays (left g.S.Store name_spelled (λ db. entries (contents db).organisations) organisations_listed c.load-2.new.tx c.load-3.new.tx (still g.S.Store c.load.new.tx c.load-2.new.tx _ two) c.load-3.ensures.same_reference c.load-3.ensures.finds)

pub returns : goal.returns
returns g c =
    let one = answered g.S.Store name_spelled (λ db. entries (contents db).users) users_listed c.args.tx.now c.load.new.tx _ c.requires.in_form c.load.ensures.same_reference c.in_ok-users.ensures.finds in
    let two = answered g.S.Store token_spelled (λ db. entries (contents db).tokens) tokens_listed c.load.new.tx c.load-2.new.tx _ (still g.S.Store c.args.tx.now c.load.new.tx _ one) c.load-2.ensures.same_reference c.in_ok-tokens.ensures.finds in
    let three = answered g.S.Store name_spelled (λ db. entries (contents db).organisations) organisations_listed c.load-2.new.tx c.load-3.new.tx _ (still g.S.Store c.load.new.tx c.load-2.new.tx _ two) c.load-3.ensures.same_reference c.in_ok-organisations.ensures.finds in
    let all = next g.S.Store c.args.tx.now c.load-2.new.tx c.load-3.new.tx _ _ (next g.S.Store c.args.tx.now c.load.new.tx c.load-2.new.tx _ _ one two) three in
    record {
      stays = all.stays;
      loads = λ clean. let r = all.reads clean in IfOk-weaker c.new.result _ _ (λ rows e. (r.0, record { users = ap (map user_entry) e.0 ∙ r.1.0.0; tokens = ap (map token_entry) e.1 ∙ r.1.0.1; organisations = ap (map organisation_entry) e.2 ∙ r.1.1 })) c.new.ensures;
    }
