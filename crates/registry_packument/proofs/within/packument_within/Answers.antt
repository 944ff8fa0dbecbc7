use Rattle.std.proofs.Common.{inr, refl}
use Rattle.std.proofs.lemmas.Result.{err_from_is_err_and}
use Rattle.registry_packument.specs.Packuments.{opening_text, pack_text}
use Rattle.registry_packument.proofs.PackFacts.{rows_start}
use Rattle.registry_packument.proofs.WithinFacts.{walked_more, walked_all, walked_row_fault, walked_end_fault}
use Rattle.registry_packument.proofs.within.packument_within.Goals as goal

pub versions-init : goal.versions-init
versions-init g c = record {
  known = λ known. known;
  walked = λ known.
      let head = c.args.head.now in
      (opening_text head, (rw c.in_ok-opening.ensures at c.of-all.ensures, rows_start head (g.S.VersionSource.rows c.args.source.now) (opening_text head) refl));
  kept = g.met.S.VersionSource.leaves_itself c.args.source.now;
}

pub versions-preserved : goal.versions-preserved
versions-preserved g c = record {
  known = λ known. c.versions.invariant.known (c.in_ok-row.ensures.known known);
  walked = λ known.
      walked_more c.args.head.now.form c.args.limit c.versions.all _ c.versions.later c.in-Some.row (g.S.VersionSource.rows c.versions.source) (g.S.VersionSource.rows c.next.new.self)
      (pack_text c.args.head.now (g.S.VersionSource.rows c.args.source.now)) (rw c.in-Some.is at (c.in_ok-row.ensures.gives known))
      (c.versions.invariant.walked (c.in_ok-row.ensures.known known)) (rw c.form-form.ensures at c.in_ok-all.ensures.ok);
  kept = g.met.S.VersionSource.leaves_through c.args.source.now c.versions.source c.next.new.self c.versions.invariant.kept c.in_ok-row.ensures.behind;
}

pub returns-in_err-all-clause-err : goal.returns-in_err-all-clause-err
returns-in_err-all-clause-err g c known =
    let q = err_from_is_err_and c.from_residual-in_err-all.result c.from_residual-in_err-all.ensures.1 in
    rw (q.1, q.2) (inr (walked_row_fault c.args.limit c.args.head.now (g.S.VersionSource.rows c.args.source.now) c.versions.all c.in-Some.row
    (g.S.VersionSource.rows c.versions.source) (g.S.VersionSource.rows c.next.new.self) c.versions.later _ (rw c.in-Some.is at (c.in_ok-row.ensures.gives known))
    (c.versions.invariant.walked (c.in_ok-row.ensures.known known)) (rw c.form-form.ensures at c.in_err-all.ensures.err)))

pub returns-in_err-with-clause-err : goal.returns-in_err-with-clause-err
returns-in_err-with-clause-err g c known =
    let q = err_from_is_err_and c.from_residual-in_err-with.result c.from_residual-in_err-with.ensures.1 in
    let none = rw c.in_default.is at (c.in_ok-row.ensures.gives known) in
    rw (q.1, q.2) (inr (walked_end_fault c.args.limit c.args.head.now (g.S.VersionSource.rows c.args.source.now) (g.S.VersionSource.rows c.versions.source) c.versions.all c.versions.later _ none.0
    (c.versions.invariant.walked (c.in_ok-row.ensures.known known)) c.in_err-with.ensures.err))

pub returns-clause-ok : goal.returns-clause-ok
returns-clause-ok g c known =
    let none = rw c.in_default.is at (c.in_ok-row.ensures.gives known) in
    rw c.into_given.ensures
    (walked_all c.args.limit c.args.head.now (g.S.VersionSource.rows c.args.source.now) (g.S.VersionSource.rows c.versions.source) c.versions.all _ c.versions.later none.0
    (c.versions.invariant.walked (c.in_ok-row.ensures.known known)) c.in_ok-with.ensures.ok)
