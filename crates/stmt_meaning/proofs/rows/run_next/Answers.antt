use Rattle.std.proofs.Common.{subst}
use Rattle.std.proofs.lemmas.Result.{err_from_is_err_and}
use Rattle.svc_values.specs.declared.schema.Shape.{Shape}
use Rattle.stmt_meaning.specs.InnerRunning.{RanOne, one_of}
use Rattle.stmt_meaning.specs.Listed.{TakesFirst}
use Rattle.stmt_meaning.proofs.OneRun.{lacks_behind}
use Rattle.stmt_meaning.proofs.rows.run_next.Goals as goal

pub returns-in_err-push-clause-ended : goal.returns-in_err-push-clause-ended
returns-in_err-push-clause-ended c =
    let p = err_from_is_err_and c.from_residual-in_err-push.result c.from_residual-in_err-push.ensures.1 in
    let done = c.in_ok-effect.ensures.done in
    let shape : Shape = record { schemas = c.args.schemas.now; sequences = c.args.source.now.names } in
    let one = one_of c.in_ok-effect.effect done.0 in
    let ran = subst (λ r. RanOne TakesFirst shape r c.args.settings.now c.args.statement.now c.args.source.now c.args.worked.now.drawn.items one c.run_statement.new.source c.run_statement.new.drawn.items) c.as_slice-rows.ensures.value done.1 in
    rw (p.1, p.2) (lacks_behind TakesFirst shape c.args.worked.now.rows.items c.args.settings.now c.args.statement.now c.args.source.now c.args.worked.now.drawn.items
    one c.run_statement.new.source c.run_statement.new.drawn.items ran)

pub returns-in_err-put_write_if_any-clause-ended : goal.returns-in_err-put_write_if_any-clause-ended
returns-in_err-put_write_if_any-clause-ended c =
    let p = err_from_is_err_and c.from_residual-in_err-put_write_if_any.result c.from_residual-in_err-put_write_if_any.ensures.1 in
    let done = c.in_ok-effect.ensures.done in
    let shape : Shape = record { schemas = c.args.schemas.now; sequences = c.args.source.now.names } in
    let one = one_of c.in_ok-effect.effect done.0 in
    let ran = subst (λ r. RanOne TakesFirst shape r c.args.settings.now c.args.statement.now c.args.source.now c.args.worked.now.drawn.items one c.run_statement.new.source c.run_statement.new.drawn.items) c.as_slice-rows.ensures.value done.1 in
    rw (p.1, p.2) (lacks_behind TakesFirst shape c.args.worked.now.rows.items c.args.settings.now c.args.statement.now c.args.source.now c.args.worked.now.drawn.items
    one c.run_statement.new.source c.run_statement.new.drawn.items ran)
