use Rattle.std.proofs.Common.{◌<◌, arith, false, length, refl, subst, ◌∙◌}
use Rattle.std.proofs.lemmas.Result.{err_from_is_err_and}
use Rattle.svc_values.specs.declared.schema.Shape.{Shape}
use Rattle.stmt_meaning.specs.Drawing.{Ends}
use Rattle.stmt_meaning.specs.InnerRunning.{RanNext, one_left}
use Rattle.stmt_meaning.specs.Listed.{TakesFirst}
use Rattle.stmt_meaning.proofs.Running.{ran_lacking}
use Rattle.stmt_meaning.proofs.Working.{begins, at_next, ended_there, goes_on, refused, all_done}
use Rattle.stmt_meaning.proofs.rows.run_statements.Goals as goal

pub returns-in_err-rows-clause-ended : goal.returns-in_err-rows-clause-ended
returns-in_err-rows-clause-ended c =
    let p = err_from_is_err_and c.from_residual.result c.from_residual.ensures.1 in
    rw (p.1, p.2) (ran_lacking TakesFirst (record { schemas = c.args.schemas.now; sequences = c.args.source.now.names }) c.args.tables.now c.args.settings.now c.args.statements.now c.args.source.now)

pub loop-statement-init : goal.loop-statement-init
loop-statement-init c = record {
  so_far = begins (record { schemas = c.args.schemas.now; sequences = c.args.source.now.names }) c.args.tables.now c.args.settings.now c.args.statements.now c.args.source.now
      (record { answers = c.new.result; rows = c.in_ok-rows.rows; drawn = c.new-2.result; is_refused = false }) c.new.ensures.items c.new-2.ensures.items (c.in_ok-rows.ensures ∙ c.as_slice.ensures) refl;
  names = refl;
}

pub returns-in_err-run_next-clause-ended : goal.returns-in_err-run_next-clause-ended
returns-in_err-run_next-clause-ended c =
    let p = err_from_is_err_and c.from_residual-in_err-run_next.result c.from_residual-in_err-run_next.ensures.1 in
    let l = c.loop-statement in
    let lt : l.statement-index < length c.args.statements.now = omega arith in
    let shape : Shape = record { schemas = c.args.schemas.now; sequences = c.args.source.now.names } in
    let at = at_next shape c.args.tables.now c.args.settings.now c.args.statements.now c.args.source.now l.source l.worked c.args.statements.now l.statement-index c.statement-item.result lt c.statement-item.is l.invariant.so_far in
    let e = subst (λ n. Ends TakesFirst (one_left (record { schemas = c.args.schemas.now; sequences = n }) l.worked.rows.items c.args.settings.now c.statement-item.result) l.source c.in_err-run_next.field-0.0 c.run_next.new.source) l.invariant.names c.in_err-run_next.ensures.ended in
    rw (p.1, p.2) (ended_there shape c.args.tables.now c.args.settings.now c.args.statements.now c.args.source.now l.source l.worked c.statement-item.result _ at c.in_err-run_next.field-0.0 c.run_next.new.source e)

pub returns-then-worked-clause-done : goal.returns-then-worked-clause-done
returns-then-worked-clause-done c =
    let l = c.loop-statement in
    let lt : l.statement-index < length c.args.statements.now = omega arith in
    let shape : Shape = record { schemas = c.args.schemas.now; sequences = c.args.source.now.names } in
    let at = at_next shape c.args.tables.now c.args.settings.now c.args.statements.now c.args.source.now l.source l.worked c.args.statements.now l.statement-index c.statement-item.result lt c.statement-item.is l.invariant.so_far in
    let next = subst (λ n. RanNext (record { schemas = c.args.schemas.now; sequences = n }) c.args.settings.now c.statement-item.result l.source l.worked c.run_next.new.source c.run_next.new.worked) l.invariant.names c.in_ok-run_next.ensures.done in
    refused shape c.args.tables.now c.args.settings.now c.args.statements.now c.args.source.now l.source l.worked c.statement-item.result _ at c.run_next.new.source c.run_next.new.worked next c.if-worked.true

pub loop-statement-preserved : goal.loop-statement-preserved
loop-statement-preserved c =
    let l = c.loop-statement in
    let lt : l.statement-index < length c.args.statements.now = omega arith in
    let shape : Shape = record { schemas = c.args.schemas.now; sequences = c.args.source.now.names } in
    let at = at_next shape c.args.tables.now c.args.settings.now c.args.statements.now c.args.source.now l.source l.worked c.args.statements.now l.statement-index c.statement-item.result lt c.statement-item.is l.invariant.so_far in
    let next = subst (λ n. RanNext (record { schemas = c.args.schemas.now; sequences = n }) c.args.settings.now c.statement-item.result l.source l.worked c.run_next.new.source c.run_next.new.worked) l.invariant.names c.in_ok-run_next.ensures.done in
    record {
      so_far = goes_on shape c.args.tables.now c.args.settings.now c.args.statements.now c.args.source.now l.source l.worked c.statement-item.result _ at c.run_next.new.source c.run_next.new.worked next c.if-worked.false;
      names = c.in_ok-run_next.ensures.names ∙ l.invariant.names;
    }

pub returns-clause-done : goal.returns-clause-done
returns-clause-done c =
    let l = c.loop-statement in
    all_done (record { schemas = c.args.schemas.now; sequences = c.args.source.now.names }) c.args.tables.now c.args.settings.now c.args.statements.now c.args.source.now l.source l.worked c.args.statements.now l.statement-index (omega arith) l.invariant.so_far
