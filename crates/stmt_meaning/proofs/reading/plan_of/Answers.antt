use Rattle.std.proofs.Common.{sym}
use Rattle.std.proofs.lemmas.Result.{err_from_is_err_and}
use Rattle.stmt_meaning.specs.InnerSeen.{aim}
use Rattle.stmt_meaning.proofs.Planned.{named, values_fail, planned, plan_fails}
use Rattle.stmt_meaning.proofs.reading.plan_of.Goals as goal

pub returns-in_err-target-clause-read : goal.returns-in_err-target-clause-read
returns-in_err-target-clause-read g c =
    let p = err_from_is_err_and c.from_residual.result c.from_residual.ensures.1 in
    rw (p.1, p.2) (named g.F.DrawFrom.drew (record { schemas = c.args.schemas.now; sequences = g.F.DrawFrom.names c.args.source.now }) c.args.settings.now c.args.statement.now c.args.source.now c.args.drawn.now.items c.in_err-target.field-0.0
    (sym c.in_err-target.ensures))

pub returns-in_err-values-clause-read : goal.returns-in_err-values-clause-read
returns-in_err-values-clause-read g c =
    let p = err_from_is_err_and c.from_residual-in_err-values.result c.from_residual-in_err-values.ensures.1 in
    rw (p.1, p.2) (values_fail g.F.DrawFrom.drew (record { schemas = c.args.schemas.now; sequences = g.F.DrawFrom.names c.args.source.now }) c.args.settings.now c.args.statement.now c.args.source.now c.args.drawn.now.items
    (aim c.in_ok-target.target) (sym c.in_ok-target.ensures) c.values_of.new.source c.values_of.new.drawn.items c.in_err-values.field-0.0 c.in_err-values.ensures.read)

pub returns-in_err-plan_for-clause-read : goal.returns-in_err-plan_for-clause-read
returns-in_err-plan_for-clause-read g c =
    let p = err_from_is_err_and c.from_residual-in_err-plan_for.result c.from_residual-in_err-plan_for.ensures.1 in
    rw (p.1, p.2) (plan_fails g.F.DrawFrom.drew (record { schemas = c.args.schemas.now; sequences = g.F.DrawFrom.names c.args.source.now }) c.args.settings.now c.args.statement.now c.args.source.now c.args.drawn.now.items
    (aim c.in_ok-target.target) (sym c.in_ok-target.ensures) c.values_of.new.source c.values_of.new.drawn.items c.in_ok-values.values c.in_ok-values.ensures.read c.in_err-plan_for.field-0.0 c.in_err-plan_for.ensures)

pub returns-clause-read : goal.returns-clause-read
returns-clause-read g c =
    planned g.F.DrawFrom.drew (record { schemas = c.args.schemas.now; sequences = g.F.DrawFrom.names c.args.source.now }) c.args.settings.now c.args.statement.now c.args.source.now c.args.drawn.now.items
    (aim c.in_ok-target.target) (sym c.in_ok-target.ensures) c.values_of.new.source c.values_of.new.drawn.items c.in_ok-values.values c.in_ok-values.ensures.read c.in_ok-plan_for.field-0 c.in_ok-plan_for.ensures
