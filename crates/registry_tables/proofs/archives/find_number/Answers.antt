use Rattle.registry_tables.proofs.Words.{rules, ◌∙◌, List, ap, map, IfOk-weaker, Row, Contents, archive_spelled, number_among, number_of}
use Rattle.registry_tables.proofs.ArchiveFacts.{archive_listed, list_means}
use Rattle.registry_tables.proofs.InsideFacts.{finds_of, is_query, shown_of}
use Rattle.registry_tables.proofs.archives.find_number.Goals as goal

pub returns : goal.returns
returns g c =
    let read = λ (rows : List Row). number_among c.args.bytes.now (map archive_spelled rows) in
    let is = λ (d : Contents). number_of c.args.integrity.now c.args.bytes.now d.archives in
    finds_of g.S.Store c.args.tx.now c.query.new.tx c.in_ok-rows.rows c.first_with.result (c.in_ok-rows.ensures (is_query list_means)) (λ d it.
    let shown = rw (c.params-to_sql.ensures) at it in
    IfOk-weaker c.first_with.result _ _ (λ _ first. first ∙ ap read c.deref.ensures.value ∙ shown_of _ _ _ _ read is (archive_listed c.args.integrity.now c.args.bytes.now _ _) d _ shown) c.first_with.ensures)

pub returns-in_err-rows : goal.returns-in_err-rows
returns-in_err-rows g c = let it = c.in_err-rows.ensures (is_query list_means) in search rules
