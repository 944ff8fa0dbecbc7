use Rattle.std.proofs.Common.{false, inr, ◌≡◌, ◌∙◌, ◌++◌, ◌+◌, true, [], ◌∷◌, arith, ap, length, length-append, refl, sym}
use Rattle.std.proofs.lemmas.Result.{err_from_is_err_and}
use Rattle.registry_names.proofs.ByteStreamFacts.{on_err, Writes-append, Writes-nothing}
use Rattle.registry_packument.specs.Counted.{row_text, rows_text}
use Rattle.registry_packument.proofs.StreamFacts.{HasLeft-all, HasLeft-piece, HasLeft-failed, HasLeft-stopped, HasLeft-none}
use Rattle.registry_packument.proofs.SendingFacts.{broken_at_row, length-rows_text, missing_behind, within_all, within_cut, within_end, within_more}
use Rattle.registry_packument.proofs.sending.write_counted.Goals as goal

pub versions-init : goal.versions-init
versions-init g c = record {
  known = λ known. known;
  behind = g.met.S.VersionSource.leaves_itself c.args.source.now;
  prefix = λ known. HasLeft-all _ _ _;
  long = λ known. omega arith;
  missing = λ known none. none;
  within = ([], (omega arith, Writes-nothing _ _));
  failures = refl;
  still_unknown = refl;
}

pub versions-preserved : goal.versions-preserved
versions-preserved g c =
    let old = g.S.VersionSource.rows c.versions.source in
    let left = g.S.VersionSource.rows c.next.new.self in
    let row = c.in-Some.row in
    let it = c.versions.invariant.within in
    record {
      known = λ known. c.versions.invariant.known (c.in_ok-row.ensures.known known);
      behind = g.met.S.VersionSource.leaves_through c.args.source.now c.versions.source c.next.new.self c.versions.invariant.behind c.in_ok-row.ensures.behind;
      prefix = λ known.
          let gives : old ≡ row ∷ left = rw c.in-Some.is at (c.in_ok-row.ensures.gives known) in
          HasLeft-piece (row_text c.args.form c.versions.later row) (rows_text c.args.form true left) (c.versions.invariant.prefix (c.in_ok-row.ensures.known known))
          (ap (rows_text c.args.form c.versions.later) gives) c.in_ok-left.ensures.ok c.in_ok-left.ensures.unknown;
      long = λ known.
          let gives : old ≡ row ∷ left = rw c.in-Some.is at (c.in_ok-row.ensures.gives known) in
          let before = c.versions.invariant.long (c.in_ok-row.ensures.known known) in
          omega (arith, before, ap (λ rs. length (rows_text c.args.form c.versions.later rs)) gives, length-append (row_text c.args.form c.versions.later row) (rows_text c.args.form true left), c.in_ok-left.ensures.left);
      missing = λ known none.
          let gives : old ≡ row ∷ left = rw c.in-Some.is at (c.in_ok-row.ensures.gives known) in
          c.versions.invariant.missing (c.in_ok-row.ensures.known known) (missing_behind c.args.form row old left gives none);
      within = (
        it.0 ++ row_text c.args.form c.versions.later row,
        (omega (arith, length-append it.0 (row_text c.args.form c.versions.later row), it.1.0, c.in_ok-left.ensures.left), Writes-append it.1.1 c.in_ok-left.ensures.ok c.in_ok-left.ensures.unknown),
      );
      failures = cc (c.in_ok-left.ensures.counted);
      still_unknown = cc (c.in_ok-left.ensures.told (λ e. cc));
    }

-- ---- the source fails

pub returns-in_err-row-clause-err : goal.returns-in_err-row-clause-err
returns-in_err-row-clause-err g c known =
    on_err c.from_residual.result (HasLeft-stopped (c.versions.invariant.prefix (c.in_err-row.ensures.known known)) (length-rows_text c.args.form c.versions.later (g.S.VersionSource.rows c.versions.source)))

pub returns-in_err-row-clause-within : goal.returns-in_err-row-clause-within
returns-in_err-row-clause-within g c =
    let q = err_from_is_err_and c.from_residual.result c.from_residual.ensures.1 in
    within_cut c.from_residual.result q.0 q.1 c.versions.left c.args.room c.versions.invariant.within

pub returns-in_err-row-clause-behind : goal.returns-in_err-row-clause-behind
returns-in_err-row-clause-behind g c =
    g.met.S.VersionSource.leaves_through c.args.source.now c.versions.source c.next.new.self c.versions.invariant.behind c.in_err-row.ensures.behind

-- ---- a version isn't written

pub returns-in_err-left-clause-err : goal.returns-in_err-left-clause-err
returns-in_err-left-clause-err g c known =
    let old = g.S.VersionSource.rows c.versions.source in
    let left = g.S.VersionSource.rows c.next.new.self in
    let row = c.in-Some.row in
    let gives : old ≡ row ∷ left = rw c.in-Some.is at (c.in_ok-row.ensures.gives known) in
    on_err c.from_residual-in_err-left.result
    (HasLeft-failed (row_text c.args.form c.versions.later row) (rows_text c.args.form true left) (c.versions.invariant.prefix (c.in_ok-row.ensures.known known))
    (ap (rows_text c.args.form c.versions.later) gives) c.in_err-left.ensures.err c.in_err-left.ensures.unknown)

pub returns-in_err-left-clause-fault : goal.returns-in_err-left-clause-fault
returns-in_err-left-clause-fault g c known e =
    let all = g.S.VersionSource.rows c.args.source.now in
    let old = g.S.VersionSource.rows c.versions.source in
    let left = g.S.VersionSource.rows c.next.new.self in
    let row = c.in-Some.row in
    let gives : old ≡ row ∷ left = rw c.in-Some.is at (c.in_ok-row.ensures.gives known) in
    let before = c.in_ok-row.ensures.known known in
    let q = err_from_is_err_and c.from_residual-in_err-left.result c.from_residual-in_err-left.ensures.1 in
    inr (broken_at_row c.args.form c.args.room c.versions.left c.versions.later row all old left gives (c.versions.invariant.missing before) (c.versions.invariant.long before)
    (c.in_err-left.ensures.fault (cc (q.1, q.2, e))))

pub returns-in_err-left-clause-within : goal.returns-in_err-left-clause-within
returns-in_err-left-clause-within g c =
    let q = err_from_is_err_and c.from_residual-in_err-left.result c.from_residual-in_err-left.ensures.1 in
    within_more c.from_residual-in_err-left.result q.0 q.1 c.versions.left c.args.room c.versions.invariant.within c.in_err-left.ensures.within c.in_err-left.ensures.unknown

pub returns-in_err-left-clause-behind : goal.returns-in_err-left-clause-behind
returns-in_err-left-clause-behind g c =
    g.met.S.VersionSource.leaves_through c.args.source.now c.versions.source c.next.new.self c.versions.invariant.behind c.in_ok-row.ensures.behind

-- ---- there are fewer bytes than that

pub returns-then-left-gt0-clause-err : goal.returns-then-left-gt0-clause-err
returns-then-left-gt0-clause-err g c known =
    HasLeft-stopped (c.versions.invariant.prefix (c.in_ok-row.ensures.known known)) (length-rows_text c.args.form c.versions.later (g.S.VersionSource.rows c.versions.source))

-- ---- the end

pub returns-in_err-write_whole-clause-within : goal.returns-in_err-write_whole-clause-within
returns-in_err-write_whole-clause-within g c =
    let q = err_from_is_err_and c.from_residual-in_err-write_whole.result c.from_residual-in_err-write_whole.ensures.1 in
    within_end c.from_residual-in_err-write_whole.result q.0 q.1 c.versions.left c.args.room c.if-left-gt0.false c.versions.invariant.within (rw c.as_bytes.ensures.value at c.in_err-write_whole.ensures.err)
    c.in_err-write_whole.ensures.unknown

pub returns-in_err-write_whole-clause-err : goal.returns-in_err-write_whole-clause-err
returns-in_err-write_whole-clause-err g c known =
    let none = rw c.in_default.is at (c.in_ok-row.ensures.gives known) in
    on_err c.from_residual-in_err-write_whole.result
    (HasLeft-failed {c = g.W.ByteOut.bytes c.write_whole.new.writer} {t = g.W.ByteOut.is_unknown c.write_whole.new.writer} (125 ∷ 125 ∷ []) [] (c.versions.invariant.prefix (c.in_ok-row.ensures.known known))
    (ap (rows_text c.args.form c.versions.later) none.0)
    (rw c.as_bytes.ensures.value at c.in_err-write_whole.ensures.err) c.in_err-write_whole.ensures.unknown)

pub returns-clause-ok : goal.returns-clause-ok
returns-clause-ok g c known =
    let none = rw c.in_default.is at (c.in_ok-row.ensures.gives known) in
    HasLeft-none (HasLeft-piece {c = g.W.ByteOut.bytes c.write_whole.new.writer} {t = g.W.ByteOut.is_unknown c.write_whole.new.writer} (125 ∷ 125 ∷ []) [] (c.versions.invariant.prefix (c.in_ok-row.ensures.known known))
    (ap (rows_text c.args.form c.versions.later) none.0)
    (rw c.as_bytes.ensures.value at c.in_ok-write_whole.ensures.ok) c.in_ok-write_whole.ensures.unknown)

pub returns-clause-within : goal.returns-clause-within
returns-clause-within g c =
    within_all c.versions.left c.args.room c.if-left-gt0.false c.versions.invariant.within (rw c.as_bytes.ensures.value at c.in_ok-write_whole.ensures.ok) c.in_ok-write_whole.ensures.unknown

pub returns-clause-long : goal.returns-clause-long
returns-clause-long g c known =
    let none = rw c.in_default.is at (c.in_ok-row.ensures.gives known) in
    let all = c.versions.invariant.long (c.in_ok-row.ensures.known known) in
    let two : length (rows_text c.args.form c.versions.later []) ≡ 2 = refl in
    omega (arith, all, ap (λ rs. length (rows_text c.args.form c.versions.later rs)) none.0, two, c.if-left-gt0.false)
