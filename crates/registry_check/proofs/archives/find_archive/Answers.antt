use Rattle.std.proofs.Common.{◌∙◌, ap, map}
use Rattle.std.proofs.lemmas.Result.{IfOk-weaker}
use Rattle.registry_rows.proofs.QuietFacts.{read_stays}
use Rattle.registry_tables.specs.Effects.{shown, stored_in}
use Rattle.registry_check.specs.Rows.{found_entry}
use Rattle.registry_check.specs.Spelled.{like_spelled}
use Rattle.registry_check.proofs.FoundFacts.{found_like}
use Rattle.registry_check.proofs.QueryFacts.{likes_listed}
use Rattle.registry_check.proofs.archives.find_archive.Goals as goal

pub returns : goal.returns
returns g c =
    let call = rw (c.params-to_sql.ensures, c.as_str.ensures.text) at c.in_ok-rows.ensures.shown in
    let it = likes_listed c.args.row.now.integrity (shown g.S.Store c.args.tx.now) (shown g.S.Store c.read.new.tx) _ c.requires.in_form call in
    record {
      stays = read_stays g.S.Store _ _ _ c.args.tx.now c.read.new.tx _ c.in_ok-rows.ensures.same_reference call (λ clean. (it clean).0);
      loads = λ clean. IfOk-weaker c.found_in_rows.result _ _
          (λ found e. ((it clean).0, found_like (stored_in g.S.Store c.args.tx.now).archives c.args.row.now (found_entry found) (map like_spelled c.deref.result.now) (ap (map like_spelled) c.deref.ensures.value ∙ (it clean).1) e))
          c.found_in_rows.ensures;
    }
