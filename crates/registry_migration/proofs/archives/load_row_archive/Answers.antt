use Rattle.std.proofs.Common.{◌∙◌, ap, sym, option_map, slice_get}
use Rattle.std.proofs.lemmas.Result.{IfOk-weaker}
use Rattle.registry_rows.proofs.QuietFacts.{read_stays}
use Rattle.registry_tables.specs.Effects.{shown}
use Rattle.registry_tables.specs.Spelled.{blob_of_row}
use Rattle.registry_tables.proofs.InsideFacts.{on_any, open_queried}
use Rattle.registry_migration.proofs.StatementFacts.{archive_found}
use Rattle.registry_migration.proofs.archives.load_row_archive.Goals as goal

pub returns : goal.returns
returns g c =
    let call = rw (c.params-to_sql.ensures, c.params-to_sql-2.ensures, c.as_str.ensures.text, c.as_str-2.ensures.text) at c.in_ok-rows.ensures.shown in
    let it = archive_found c.args.version.now.package c.args.version.now.version (shown g.S.Store c.args.tx.now) (shown g.S.Store c.read.new.tx) _ c.requires.in_form call in
    record {
      stays = read_stays g.S.Store _ _ _ c.args.tx.now c.read.new.tx _ c.in_ok-rows.ensures.same_reference call (λ clean. (it clean).0);
      loads = λ clean. IfOk-weaker c.first_archive.result _ _ (λ _ e. ((it clean).0, sym (it clean).1 ∙ ap (λ rows. option_map blob_of_row (slice_get rows 0)) (sym c.deref.ensures.value) ∙ e)) c.first_archive.ensures;
      ran = on_any c.first_archive.result (open_queried g.S.Store _ _ c.args.tx.now c.read.new.tx _ call);
    }
