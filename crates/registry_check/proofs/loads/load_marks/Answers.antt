use Rattle.std.proofs.Common.{◌∙◌, ap, map}
use Rattle.std.proofs.lemmas.Result.{IfOk-weaker}
use Rattle.registry_check.specs.Rows.{tag_entry, target_entry}
use Rattle.registry_names.specs.Maps.{entries}
use Rattle.registry_rows.proofs.QuietFacts.{stays_then}
use Rattle.registry_tables.specs.Contents.{contents}
use Rattle.registry_check.specs.Spelled.{tag_spelled, triple_spelled}
use Rattle.registry_check.proofs.LoadFacts.{answered, left, next, still}
use Rattle.registry_check.proofs.QueryFacts.{tags_listed, targets_listed}
use Rattle.registry_check.proofs.loads.load_marks.Goals as goal

pub returns-in_err-tags-clause-stays : goal.returns-in_err-tags-clause-stays
returns-in_err-tags-clause-stays g c = left g.S.Store tag_spelled (λ db. entries (contents db).tags) tags_listed c.args.tx.now c.load.new.tx c.requires.in_form c.load.ensures.same_reference c.load.ensures.finds

pub returns-in_err-targets-clause-stays : goal.returns-in_err-targets-clause-stays
returns-in_err-targets-clause-stays g c =
    let one = answered g.S.Store tag_spelled (λ db. entries (contents db).tags) tags_listed c.args.tx.now c.load.new.tx _ c.requires.in_form c.load.ensures.same_reference c.in_ok-tags.ensures.finds in
    stays_then g.S.Store c.args.tx.now c.load.new.tx c.load-2.new.tx one.stays (left g.S.Store triple_spelled (λ db. entries (contents db).needs) targets_listed c.load.new.tx c.load-2.new.tx (still g.S.Store c.args.tx.now c.load.new.tx _ one) c.load-2.ensures.same_reference c.load-2.ensures.finds)

pub returns : goal.returns
returns g c =
    let one = answered g.S.Store tag_spelled (λ db. entries (contents db).tags) tags_listed c.args.tx.now c.load.new.tx _ c.requires.in_form c.load.ensures.same_reference c.in_ok-tags.ensures.finds in
    let two = answered g.S.Store triple_spelled (λ db. entries (contents db).needs) targets_listed c.load.new.tx c.load-2.new.tx _ (still g.S.Store c.args.tx.now c.load.new.tx _ one) c.load-2.ensures.same_reference c.in_ok-targets.ensures.finds in
    let all = next g.S.Store c.args.tx.now c.load.new.tx c.load-2.new.tx _ _ one two in
    record {
      stays = all.stays;
      loads = λ clean. let r = all.reads clean in IfOk-weaker c.new.result _ _ (λ rows e. (r.0, record { tags = ap (map tag_entry) e.0 ∙ r.1.0; targets = ap (map target_entry) e.1 ∙ r.1.1 })) c.new.ensures;
    }
