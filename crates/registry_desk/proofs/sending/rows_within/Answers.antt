use Rattle.registry_desk.proofs.Words.{◌≡◌, ◌∙◌, rules, ap, subst, IfOk, List, on_ok_weaker, VersionRow, lent, rows_left, IsLeftAlone, reference, shown_by}
use Rattle.registry_packument.specs.Within.{IsWithin}
use Rattle.registry_desk.proofs.SendingFacts.{walk_rows}
use Rattle.registry_desk.proofs.sending.rows_within.Goals as goal

pub returns : goal.returns
returns g c =
    let store = g.R.LiveRows.store in
    let made = c.packument_within.ensures in
    let same : c.rows-1.given.0 ≡ c.packument_within.new.source.rows.now = search rules in
    let rows = walk_rows (shown_by store (g.R.LiveRows.rows c.args.rows.now)) c.args.name.now (rows_left g.R.LiveRows c.over-walk.result) c.over-walk.ensures.all in
    rw same (record {
      same_reference = made.behind.same_reference ∙ ap (λ rows. reference store rows) c.over-walk.ensures.same;
      walks = record {
        left = subst (λ rows. IsLeftAlone (shown_by store rows) (shown_by store (lent g.R.LiveRows c.packument_within.new.source).now)) c.over-walk.ensures.same made.behind.left;
        unshut = λ clean. on_ok_weaker c.packument_within.result (λ none. made.behind.unshut none clean) made.goes_on;
      };
      within = λ clean. subst (λ (rs : List VersionRow). IfOk c.packument_within.result (IsWithin c.args.limit c.args.head.now rs)) rows (made.ok clean);
    })
