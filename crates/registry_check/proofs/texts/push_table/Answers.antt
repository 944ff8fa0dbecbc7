use Rattle.std.proofs.Common.{◌∙◌, ◌++◌, ℤ, Bool, List, ap}
use Rattle.std.proofs.lemmas.Result.{on_ok_weaker}
use Rattle.registry_check.specs.Readable.{text_rows, text_spelled, unreadable}
use Rattle.registry_check.proofs.LoadFacts.{answered, left}
use Rattle.registry_check.proofs.ReadableFacts.{texts_listed}
use Rattle.registry_check.proofs.texts.push_table.Goals as goal

pub returns-in_err-rows-clause-stays : goal.returns-in_err-rows-clause-stays
returns-in_err-rows-clause-stays g c = left g.S.Store text_spelled (λ db. text_rows db c.args.table) (texts_listed c.args.table c.query.result.now c.query.ensures) c.args.tx.now c.load.new.tx c.requires.in_form c.load.ensures.same_reference c.load.ensures.finds

pub returns : goal.returns
returns g c =
    let one = answered g.S.Store text_spelled (λ db. text_rows db c.args.table) (texts_listed c.args.table c.query.result.now c.query.ensures) c.args.tx.now c.load.new.tx _ c.requires.in_form c.load.ensures.same_reference c.in_ok-rows.ensures.finds in
    record {
      stays = one.stays;
      adds = λ clean.
          let r = one.reads clean in
          on_ok_weaker c.push_unreadable.result (λ e. (r.0, e ∙ ap (λ (rows : List (ℤ × Bool)). c.args.problems.now.items ++ unreadable c.args.table rows) r.1)) (rw c.deref.ensures.value at c.push_unreadable.ensures);
    }
