use Rattle.std.proofs.Common.{◌≡◌, ◌∙◌, ◌+◌, ℕ, List, Some, arith, false, length-append}
use Rattle.registry_packument.specs.Packuments.{opening_text, pack_text}
use Rattle.registry_packument.specs.Counted.{rows_text}
use Rattle.registry_packument.proofs.SendingFacts.{counted_long, counted_text, end_fault, ends_taking, ends_within, length-opening_text, start_fault, start_takes, start_within, whole_long}
use Rattle.registry_packument.proofs.sending.send_counted.Goals as goal

pub returns-in-Ok-write_whole-clause-framed : goal.returns-in-Ok-write_whole-clause-framed
returns-in-Ok-write_whole-clause-framed g c =
    rw c.end_of.ensures (ends_within (g.O.Opener.opens c.args.opener.now) c.args.len (c.in-Ok.start.room + 2) c.as_bytes.result.now (opening_text c.args.head.now) (c.as_bytes.ensures.value ∙ c.in-Ok.ensures.text) c.in-Ok.ensures.room
    (length-opening_text c.args.head.now) _ _ _ _ _ c.in-Ok-write_whole.ensures.ok c.write_counted.ensures.unknown c.write_counted.result c.write_counted.ensures.within)

pub returns-in-Ok-write_whole-clause-takes : goal.returns-in-Ok-write_whole-clause-takes
returns-in-Ok-write_whole-clause-takes g c known counted =
    let head = c.args.head.now in
    let rows = g.S.VersionSource.rows c.args.source.now in
    rw c.end_of.ensures (ends_taking (g.O.Opener.opens c.args.opener.now) c.args.len c.as_bytes.result.now (opening_text head) (rows_text c.args.head.now.form false rows) (c.as_bytes.ensures.value ∙ c.in-Ok.ensures.text)
    (counted_long head rows c.args.len counted) (λ (text : List ℕ). pack_text head rows ≡ Some text) (counted_text head rows c.args.len counted) _ _ _ _ _
    (length-opening_text head) c.in-Ok-write_whole.ensures.ok c.write_counted.ensures.unknown c.write_counted.result (rw c.form.ensures at (c.write_counted.ensures.ok known)) (rw c.form.ensures at (c.write_counted.ensures.err known)))

pub returns-clause-framed : goal.returns-clause-framed
returns-clause-framed g c =
    start_within (g.O.Opener.opens c.args.opener.now) c.args.len (c.in-Ok.start.room + 2) c.as_bytes.result.now (opening_text c.args.head.now) (c.as_bytes.ensures.value ∙ c.in-Ok.ensures.text) c.in-Ok.ensures.room
    c.in-Err-write_whole.ensures.err

pub returns-clause-takes : goal.returns-clause-takes
returns-clause-takes g c known counted =
    let head = c.args.head.now in
    let rows = g.S.VersionSource.rows c.args.source.now in
    start_takes (g.O.Opener.opens c.args.opener.now) c.args.len c.as_bytes.result.now (opening_text head) (rows_text c.args.head.now.form false rows) (c.as_bytes.ensures.value ∙ c.in-Ok.ensures.text)
    (counted_long head rows c.args.len counted) (λ (text : List ℕ). pack_text head rows ≡ Some text) (counted_text head rows c.args.len counted) c.in-Err-write_whole.ensures.err

pub returns-in-Ok-write_whole-clause-long : goal.returns-in-Ok-write_whole-clause-long
returns-in-Ok-write_whole-clause-long g c known whole =
    let rows = g.S.VersionSource.rows c.args.source.now in
    omega (arith, length-append (opening_text c.args.head.now) (rows_text c.args.head.now.form false rows), c.in-Ok.ensures.room, whole_long c.write_counted.result (rw c.end_of.ensures at whole) (rw c.form.ensures at (c.write_counted.ensures.long known)))

-- ---- what breaks it off

pub returns-in-Err-clause-fault : goal.returns-in-Err-clause-fault
returns-in-Err-clause-fault g c known = start_fault _ c.args.head.now (g.S.VersionSource.rows c.args.source.now) c.args.len c.in-Err.fault c.in-Err.ensures.err

pub returns-in-Ok-write_whole-clause-fault : goal.returns-in-Ok-write_whole-clause-fault
returns-in-Ok-write_whole-clause-fault g c known =
    rw c.end_of.ensures (end_fault _ c.args.head.now (g.S.VersionSource.rows c.args.source.now) c.args.len c.in-Ok.start.room c.in-Ok.ensures.room c.write_counted.result (rw c.form.ensures at (c.write_counted.ensures.fault known)))
