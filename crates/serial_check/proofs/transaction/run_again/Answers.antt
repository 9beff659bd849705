use Rattle.std.proofs.Common.{◌+◌, ◌==◌, length, refl, sym, ap, ◌∙◌, subst}
use Rattle.svc_values.specs.meaning.Fitting.{writes_fit}
use Rattle.svc_values.specs.meaning.Tables.{with_writes}
use Rattle.table_txn.specs.Readings.{AreUnchanged}
use Rattle.table_txn.specs.Transactions.{shape_of}
use Rattle.calls_again.specs.OnWay.{OnWay, begun_with}
use Rattle.serial_check.specs.meaning.Places.{piece_at, pieces_course}
use Rattle.serial_check.specs.Replaying.{HasReplayed, next_piece}
use Rattle.serial_check.proofs.Courses.{course_left, course_begins, piece_stood, piece_fell, ended_failed}
use Rattle.serial_check.proofs.transaction.run_again.Goals as goal

pub loop-p-init : goal.loop-p-init
loop-p-init c =
    let tables = c.args.tables.now in
    let made = shape_of tables c.args.names.now in
    let pieces = c.args.pieces.now in
    let begun = c.new-going.ensures.made ∙ ap begun_with c.in_ok-settings.ensures in
    record {
      so_far = course_begins made tables.rows c.args.settings.now c.args.n pieces (sym c.if-is_empty.ensures)
          ∙ ap (λ (g : OnWay). course_left made (with_writes tables.rows g.writes) g.settings c.args.n 0 pieces) (sym begun);
      fits = ap (λ (g : OnWay). writes_fit tables.schemas g.writes) begun;
      unchanged = subst (λ (g : OnWay). AreUnchanged tables.rows g.readings) (sym begun) (λ at. tt);
    }

pub returns-then-not-branch : goal.returns-then-not-branch
returns-then-not-branch c =
    let tables = c.args.tables.now in
    let made = shape_of tables c.args.names.now in
    let n = c.args.n in
    let pieces = c.args.pieces.now in
    let p = c.loop-p.p in
    let piece = c.index-pieces-p.result in
    let before = with_writes tables.rows c.loop-p.going.writes in
    let settings = c.loop-p.going.settings in
    let is_last = p + 1 == length pieces in
    let new = c.goes_on.new.going in
    let replayed = subst (HasReplayed tables.rows new.writes new.settings (next_piece made before settings piece is_last)) c.if-not-branch.true c.in_ok-goes_on.ensures.replayed in
    ended_failed tables (pieces_course made tables.rows c.args.settings.now n 0 pieces) (piece_at n p) c.in_ok-piece.field-0
    (c.loop-p.invariant.so_far ∙ piece_fell made before settings n pieces p piece c.loop-p-test.true c.index-pieces-p.is is_last refl tables.rows new.writes new.settings replayed) c.in_ok-piece.ensures

pub loop-p-preserved : goal.loop-p-preserved
loop-p-preserved c =
    let tables = c.args.tables.now in
    let made = shape_of tables c.args.names.now in
    let n = c.args.n in
    let pieces = c.args.pieces.now in
    let p = c.loop-p.p in
    let piece = c.index-pieces-p.result in
    let before = with_writes tables.rows c.loop-p.going.writes in
    let settings = c.loop-p.going.settings in
    let is_last = p + 1 == length pieces in
    let new = c.goes_on.new.going in
    let replayed = subst (HasReplayed tables.rows new.writes new.settings (next_piece made before settings piece is_last)) c.if-not-branch.false c.in_ok-goes_on.ensures.replayed in
    record {
      so_far = c.loop-p.invariant.so_far ∙ piece_stood made before settings n pieces p piece c.loop-p-test.true c.index-pieces-p.is is_last refl tables.rows new.writes new.settings replayed;
      fits = c.in_ok-goes_on.ensures.fits c.if-not-branch.false;
      unchanged = c.in_ok-goes_on.ensures.unchanged c.if-not-branch.false;
    }
