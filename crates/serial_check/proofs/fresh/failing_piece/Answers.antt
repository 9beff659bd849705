use Rattle.std.proofs.Common.{◌+◌, ◌≤◌, Bool, List, ◌++◌, length, take, drop, sym, ap, ◌∙◌, subst, arith}
use Rattle.std.specs.List.{flat_map}
use Rattle.svc_values.specs.declared.draw.Draw.{Draw}
use Rattle.server_model.specs.meaning.Fresh.{draws_in}
use Rattle.serial_check.specs.meaning.Places.{piece_at, draws_again, or_next, fresh_pieces}
use Rattle.serial_check.specs.Given.{Keeps}
use Rattle.serial_check.proofs.FreshSteps.{pieces_front, pieces_on, no_piece_left}
use Rattle.serial_check.proofs.fresh.failing_piece.Goals as goal

pub loop-p-preserved : goal.loop-p-preserved
loop-p-preserved c before keeps =
    let n = c.args.n in
    let pieces = c.args.pieces.now in
    let p = c.loop-p.p in
    let piece = c.index-pieces-p.result in
    let so_far = c.loop-p.invariant before keeps in
    let earlier : List Draw = before ++ flat_map draws_in (take p pieces) in
    let told = c.in_ok-one_again.ensures earlier so_far.0 in
    let again = told.0 ∙ ap (draws_again earlier) c.as_slice.ensures in
    let kept = subst (λ (l : List Draw). Keeps c.one_again.new.kept (earlier ++ l)) c.as_slice.ensures (told.1 c.if-branch.false) in
    let on = pieces_on before n pieces p piece c.loop-p-test.true c.index-pieces-p.is c.in_ok-one_again.field-0 again in (
      subst (Keeps c.one_again.new.kept) (pieces_front before n pieces p piece c.loop-p-test.true c.index-pieces-p.is) kept,
      so_far.1 ∙ (on ∙ ap (λ (t : Bool). or_next t (piece_at n p) (fresh_pieces (before ++ flat_map draws_in (take (p + 1) pieces)) n (p + 1) (drop (p + 1) pieces))) c.if-branch.false),
    )

pub returns : goal.returns
returns c before keeps =
    let pieces = c.args.pieces.now in
    let p = c.loop-p.p in
    let so_far = c.loop-p.invariant before keeps in
    let over : length pieces ≤ p = omega (arith, c.loop-p-test.false) in
    let left = no_piece_left before c.args.n pieces p over in (
      sym (so_far.1 ∙ left.0),
      λ same. subst (Keeps c.loop-p.kept) left.1 so_far.0,
    )
