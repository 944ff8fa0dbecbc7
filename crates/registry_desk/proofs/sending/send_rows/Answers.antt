use Rattle.registry_desk.proofs.Words.{◌≡◌, ◌∙◌, arith, rules, ap, subst, length, List, Some, HasCleanDisk, Text, Takes, pack_len, pack_text, VersionRow, lent, rows_left, seen_by, IsLeftAlone, reference}
use Rattle.registry_desk.proofs.Words.{shown_by}
use Rattle.registry_desk.proofs.SendingFacts.{takes_if_clean, walk_rows}
use Rattle.registry_desk.proofs.sending.send_rows.Goals as goal

pub returns : goal.returns
returns g c =
    let store = g.R.LiveRows.store in
    let made = c.send_counted.ensures in
    let walk = c.send_counted.new.source in
    let same : c.rows-1.given.0 ≡ walk.rows.now = search rules in
    let left = subst (λ rows. IsLeftAlone (shown_by store rows) (shown_by store (lent g.R.LiveRows walk).now)) c.over-walk.ensures.same made.behind.left in
    let rows = walk_rows (shown_by store (g.R.LiveRows.rows c.args.rows.now)) c.args.name.now (rows_left g.R.LiveRows c.over-walk.result) c.over-walk.ensures.all in
    let were : HasCleanDisk (seen_by g.R.LiveRows walk) → HasCleanDisk (shown_by store (g.R.LiveRows.rows c.args.rows.now)) = λ clean. omega (arith, left.survives.clean, clean) in
    let takes = λ (clean : HasCleanDisk (seen_by g.R.LiveRows walk)). subst
    (λ (rs : List VersionRow). pack_len c.args.head.now rs ≡ Some c.args.len → Takes (g.O.Opener.opens c.args.opener.now) (λ (text : Text). pack_text c.args.head.now rs ≡ Some text)
    (g.W.ByteOut.bytes c.args.writer.now) (g.W.ByteOut.bytes c.send_counted.new.writer) (g.W.ByteOut.is_unknown c.send_counted.new.writer) c.send_counted.result)
    rows (made.takes clean) (c.requires.counted (were clean)) in
    rw same (record {
      same_reference = made.behind.same_reference ∙ ap (λ rows. reference store rows) c.over-walk.ensures.same;
      walks = record { left = left; unshut = λ clean unbroken. made.behind.unshut (made.goes_on c.over-walk.ensures.unstopped unbroken) clean };
      sends = record {
        takes = takes_if_clean (g.O.Opener.opens c.args.opener.now) _ (λ (text : Text). length text ≡ c.args.len) (seen_by g.R.LiveRows walk) _ _ _ c.send_counted.result takes made.framed;
        counts = record { counted = made.counted; told = made.told; unknown = made.unknown };
      };
    })
