use Rattle.std.proofs.Common.{◌<◌, ◌≤◌, length, take, get_or, ap, sym, subst, refl, ◌∙◌, arith}
use Rattle.std.proofs.lemmas.Result.{err_from_is_err_and}
use Rattle.table_txn.specs.Readings.{IsUnchangedAt}
use Rattle.table_txn.specs.Transactions.{Transaction}
use Rattle.table_txn.proofs.Running.{begins, at_next, ended_under, next_under, goes_on, refused, ran_whole, fits_over, next_fits}
use Rattle.table_txn.proofs.txn.Txn.run.Goals as goal

pub loop-statement-init : goal.loop-statement-init
loop-statement-init g c = record {
  so_far = begins g.F.DrawFrom.drew c.args.tables.now (g.F.DrawFrom.names c.args.draws.now) c.args.settings.now c.args.self.now c.args.statements.now c.args.draws.now c.new-answers.result.items c.new-drawn.result.items c.new-answers.ensures.items c.new-drawn.ensures.items;
  fits = c.requires.fits;
  unchanged = λ at is. is;
  items = c.as_slice-statement-items.ensures.items;
  names = refl;
  ready = c.requires.ready;
}

pub run_next-requires-clause-fits : goal.run_next-requires-clause-fits
run_next-requires-clause-fits g c = fits_over c.args.tables.now.schemas c.args.tables.now.rows c.loop-statement.self.writes c.schemas.ensures.kept.fitting c.loop-statement.invariant.fits

pub run_next-requires-clause-stands : goal.run_next-requires-clause-stands
run_next-requires-clause-stands g c = λ at known. c.loop-statement.invariant.unchanged at (c.requires.stands at known)

pub returns-in_err-is_refused-clause-ended : goal.returns-in_err-is_refused-clause-ended
returns-in_err-is_refused-clause-ended g c =
    let p = err_from_is_err_and c.from_residual.result c.from_residual.ensures.1 in
    let l = c.loop-statement in
    let statements = c.args.statements.now in
    let lt : l.statement-index < length statements = subst (λ s. l.statement-index < length s) l.invariant.items c.loop-statement-test.true in
    let is = c.statement-item.is ∙ ap (λ s. get_or s l.statement-index c.statement-item.result) l.invariant.items in
    let names = g.F.DrawFrom.names c.args.draws.now in
    let at = at_next g.F.DrawFrom.drew c.args.tables.now names c.args.settings.now c.args.self.now statements c.args.draws.now l.answers.items l.drawn.items l.self l.draws statements l.statement-index c.statement-item.result lt is l.invariant.so_far in
    rw (p.1, p.2) (ended_under g.F.DrawFrom.drew c.args.tables.now names c.args.settings.now c.args.self.now statements c.args.draws.now l.answers.items l.drawn.items l.self l.draws c.statement-item.result _ at (g.F.DrawFrom.names l.draws) l.invariant.names c.in_err-is_refused.field-0.0 c.run_next.new.source c.in_err-is_refused.ensures.ended)

pub loop-statement-preserved : goal.loop-statement-preserved
loop-statement-preserved g c =
    let l = c.loop-statement in
    let statements = c.args.statements.now in
    let lt : l.statement-index < length statements = subst (λ s. l.statement-index < length s) l.invariant.items c.loop-statement-test.true in
    let is = c.statement-item.is ∙ ap (λ s. get_or s l.statement-index c.statement-item.result) l.invariant.items in
    let names = g.F.DrawFrom.names c.args.draws.now in
    let at = at_next g.F.DrawFrom.drew c.args.tables.now names c.args.settings.now c.args.self.now statements c.args.draws.now l.answers.items l.drawn.items l.self l.draws statements l.statement-index c.statement-item.result lt is l.invariant.so_far in
    let n = c.run_next.new in
    let next = next_under g.F.DrawFrom.drew c.args.tables.now names c.args.settings.now l.self c.statement-item.result l.draws l.answers.items l.drawn.items (g.F.DrawFrom.names l.draws) l.invariant.names c.in_ok-is_refused.is_refused n.self n.source n.answers.items n.drawn.items c.in_ok-is_refused.ensures.done in
    record {
      so_far = goes_on g.F.DrawFrom.drew c.args.tables.now names c.args.settings.now c.args.self.now statements c.args.draws.now l.answers.items l.drawn.items l.self l.draws c.statement-item.result _ at c.in_ok-is_refused.is_refused n.self n.source n.answers.items n.drawn.items next c.if-is_refused.false;
      fits = next_fits g.F.DrawFrom.drew c.args.tables.now names c.args.settings.now l.self c.statement-item.result l.draws l.answers.items l.drawn.items c.in_ok-is_refused.is_refused n.self n.source n.answers.items n.drawn.items c.schemas.ensures.kept l.invariant.fits next c.if-is_refused.false;
      unchanged = λ at is. c.in_ok-is_refused.ensures.unchanged at (l.invariant.unchanged at is);
      items = l.invariant.items;
      names = c.in_ok-is_refused.ensures.names ∙ l.invariant.names;
      ready = c.in_ok-is_refused.ensures.ready;
    }

pub returns-then-is_refused-clause-ran : goal.returns-then-is_refused-clause-ran
returns-then-is_refused-clause-ran g c =
    let l = c.loop-statement in
    let statements = c.args.statements.now in
    let lt : l.statement-index < length statements = subst (λ s. l.statement-index < length s) l.invariant.items c.loop-statement-test.true in
    let is = c.statement-item.is ∙ ap (λ s. get_or s l.statement-index c.statement-item.result) l.invariant.items in
    let names = g.F.DrawFrom.names c.args.draws.now in
    let at = at_next g.F.DrawFrom.drew c.args.tables.now names c.args.settings.now c.args.self.now statements c.args.draws.now l.answers.items l.drawn.items l.self l.draws statements l.statement-index c.statement-item.result lt is l.invariant.so_far in
    let n = c.run_next.new in
    let next = next_under g.F.DrawFrom.drew c.args.tables.now names c.args.settings.now l.self c.statement-item.result l.draws l.answers.items l.drawn.items (g.F.DrawFrom.names l.draws) l.invariant.names c.in_ok-is_refused.is_refused n.self n.source n.answers.items n.drawn.items c.in_ok-is_refused.ensures.done in
    let taken = c.take_back.ensures ∙ ap (λ count. let t : Transaction = record n.self { writes = take count n.self.writes } in t) c.count-count.ensures in
    rw c.what_ran.ensures (refused g.F.DrawFrom.drew c.args.tables.now names c.args.settings.now c.args.self.now statements c.args.draws.now l.answers.items l.drawn.items l.self l.draws c.statement-item.result _ at c.in_ok-is_refused.is_refused n.self n.source n.answers.items n.drawn.items next c.if-is_refused.true c.take_back.new.self taken)

pub returns-clause-ran : goal.returns-clause-ran
returns-clause-ran g c =
    let l = c.loop-statement in
    let statements = c.args.statements.now in
    rw c.what_ran-2.ensures (ran_whole g.F.DrawFrom.drew c.args.tables.now (g.F.DrawFrom.names c.args.draws.now) c.args.settings.now c.args.self.now c.args.statements.now c.args.draws.now l.answers.items l.drawn.items l.self l.draws statements l.statement-index
    (subst (λ s. length s ≤ l.statement-index) l.invariant.items (omega arith)) l.invariant.so_far)

pub returns-clause-fits : goal.returns-clause-fits
returns-clause-fits g c = c.loop-statement.invariant.fits

pub returns-then-is_refused-clause-unchanged : goal.returns-then-is_refused-clause-unchanged
returns-then-is_refused-clause-unchanged g c = λ at is.
    subst (λ (t : Transaction). IsUnchangedAt c.args.tables.now.rows t.readings at) (sym c.take_back.ensures)
    (c.in_ok-is_refused.ensures.unchanged at (c.loop-statement.invariant.unchanged at is))

pub returns-clause-unchanged : goal.returns-clause-unchanged
returns-clause-unchanged g c = c.loop-statement.invariant.unchanged
