use Rattle.std.proofs.Common.{◌≡◌, ◌∙◌, rules, ap, subst, sym, IsTrue, OnOk}
use Rattle.std.proofs.lemmas.Result.{on_ok_weaker}
use Rattle.sqlite.specs.State.{HasCleanDisk}
use Rattle.registry_tables.specs.Walking.{lent}
use Rattle.registry_tables.specs.Walks.{IsLeftAlone, reference, shown_by}
use Rattle.registry_tests_tables.proofs.tests.tables.walks.rows_text.Goals as goal

pub returns-clause-same_reference : goal.returns-clause-same_reference
returns-clause-same_reference g c =
    let same : c.rows-1.given.0 ≡ c.walk_text.new.walk.rows.now = search rules in
    let left = ap g.R.LiveRows.rows (sym same) in
    subst (λ rows. reference g.R.LiveRows.store rows ≡ reference g.R.LiveRows.store (g.R.LiveRows.rows c.args.rows.now)) left (c.walk_text.ensures.goes_on.same_reference ∙ ap (λ rows. reference g.R.LiveRows.store rows) c.over-walk.ensures.same)

pub returns-clause-left : goal.returns-clause-left
returns-clause-left g c =
    let same : c.rows-1.given.0 ≡ c.walk_text.new.walk.rows.now = search rules in
    let left = ap g.R.LiveRows.rows (sym same) in
    subst (λ rows. IsLeftAlone (shown_by g.R.LiveRows.store (g.R.LiveRows.rows c.args.rows.now)) (shown_by g.R.LiveRows.store rows)) left
    (subst (λ rows. IsLeftAlone (shown_by g.R.LiveRows.store rows) (shown_by g.R.LiveRows.store (lent g.R.LiveRows c.walk_text.new.walk).now)) c.over-walk.ensures.same c.walk_text.ensures.goes_on.left)

pub returns-clause-unshut : goal.returns-clause-unshut
returns-clause-unshut g c =
    let same : c.rows-1.given.0 ≡ c.walk_text.new.walk.rows.now = search rules in
    let left = ap g.R.LiveRows.rows (sym same) in
    subst (λ rows. HasCleanDisk (shown_by g.R.LiveRows.store rows) → OnOk c.walk_text.result (IsTrue (shown_by g.R.LiveRows.store rows).is_open)) left
    (λ clean. on_ok_weaker c.walk_text.result (λ none. c.walk_text.ensures.goes_on.unshut none clean) c.walk_text.ensures.unstopped)
