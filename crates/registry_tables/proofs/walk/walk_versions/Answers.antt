use Rattle.registry_tables.proofs.Words.{refl, IfOk-weaker}
use Rattle.registry_tables.proofs.WalkSourceFacts.{asked_begins, asked_left, asked_same, is_asked, refused_alone}
use Rattle.registry_tables.proofs.walk.walk_versions.Goals as goal

pub returns : goal.returns
returns g c =
    let p = c.args.name.now in
    let old = c.args.conn.now in
    let form = c.requires.in_form in
    let unshut = c.requires.unshut in
    let held = rw (c.params-to_sql.ensures, c.text.ensures.text) at c.query.follows.holds-at-none in
    let made = rw (c.params-to_sql.ensures, c.text.ensures.text) at c.query.ensures in
    let asked = is_asked g.S.Store p old form unshut c.query.result made.survives made.mode made.begun in (
      (refl, c.query.follows.holds, refused_alone g.S.Store p old form unshut c.query.result c.query.follows.lender-at-none held),
      record {
        refused = tt;
        same_reference = made.same_reference;
        left = IfOk-weaker c.query.result _ _ (asked_left g.S.Store p old form unshut) asked;
        unchanged = IfOk-weaker c.query.result _ _ (asked_same g.S.Store p old form unshut) asked;
        begun = IfOk-weaker c.query.result _ _ (asked_begins g.S.Store p old form unshut) asked;
      },
    )
