use Rattle.std.proofs.Common.{subst, ◌∙◌}
use Rattle.std.proofs.lemmas.Result.{err_from_is_err_and}
use Rattle.std.specs.Prelude.{List, Ok, Err}
use Rattle.svc_values.specs.declared.schema.Schema.{Schema}
use Rattle.svc_values.specs.meaning.Tables.{with_writes}
use Rattle.stmt_meaning.specs.InnerReading.{ReadsAll}
use Rattle.stmt_meaning.specs.meaning.Plans.{plan_of}
use Rattle.stmt_meaning.proofs.Offered.{lacks_work}
use Rattle.table_txn.specs.Transactions.{shape_of}
use Rattle.table_txn.proofs.Statements.{done_plan, done_refused}
use Rattle.table_txn.proofs.txn.Txn.run_statement.Goals as goal

pub returns-in_ok-work-in-Ok-clause-done : goal.returns-in_ok-work-in-Ok-clause-done
returns-in_ok-work-in-Ok-clause-done g c =
    let names = g.F.DrawFrom.names c.args.source.now in
    let read = subst (λ (s : List Schema). ReadsAll g.F.DrawFrom.drew (λ given. plan_of (record { schemas = s; sequences = names }) c.args.settings.now c.args.statement.now given) c.args.source.now c.args.drawn.now.items (Ok c.in-Ok.plan) c.plan_of.new.source c.plan_of.new.drawn.items)
    (c.as_slice-schemas.ensures.items ∙ c.schemas.ensures.schemas) c.in-Ok.ensures.read in
    done_plan g.F.DrawFrom.drew c.args.tables.now names c.args.settings.now c.args.self.now c.args.statement.now c.args.source.now c.args.drawn.now.items c.in-Ok.plan c.plan_of.new.source c.plan_of.new.drawn.items read c.in_ok-work-in-Ok.field-0 c.work.new.self c.in_ok-work-in-Ok.ensures.worked

pub returns-in-Err-Refused-clause-done : goal.returns-in-Err-Refused-clause-done
returns-in-Err-Refused-clause-done g c =
    let names = g.F.DrawFrom.names c.args.source.now in
    let read = subst (λ (s : List Schema). ReadsAll g.F.DrawFrom.drew (λ given. plan_of (record { schemas = s; sequences = names }) c.args.settings.now c.args.statement.now given) c.args.source.now c.args.drawn.now.items (Err c.in-Err-Refused.fault) c.plan_of.new.source c.plan_of.new.drawn.items)
    (c.as_slice-schemas.ensures.items ∙ c.schemas.ensures.schemas) (rw c.in-Err-Refused.field-0-is at c.in-Err-Refused.ensures.read) in
    done_refused g.F.DrawFrom.drew c.args.tables.now names c.args.settings.now c.args.self.now c.args.statement.now c.args.source.now c.args.drawn.now.items c.in-Err-Refused.fault c.plan_of.new.source c.plan_of.new.drawn.items read

pub returns-in_err-work-in-Ok-clause-ended : goal.returns-in_err-work-in-Ok-clause-ended
returns-in_err-work-in-Ok-clause-ended g c =
    let p = err_from_is_err_and c.from_residual.result c.from_residual.ensures.1 in
    let names = g.F.DrawFrom.names c.args.source.now in
    let read = subst (λ (s : List Schema). ReadsAll g.F.DrawFrom.drew (λ given. plan_of (record { schemas = s; sequences = names }) c.args.settings.now c.args.statement.now given) c.args.source.now c.args.drawn.now.items (Ok c.in-Ok.plan) c.plan_of.new.source c.plan_of.new.drawn.items)
    (c.as_slice-schemas.ensures.items ∙ c.schemas.ensures.schemas) c.in-Ok.ensures.read in
    rw (p.1, p.2) (lacks_work g.F.DrawFrom.drew (shape_of c.args.tables.now names) (with_writes c.args.tables.now.rows c.args.self.now.writes) c.args.settings.now c.args.statement.now
    c.args.source.now c.args.drawn.now.items c.in-Ok.plan c.plan_of.new.source c.plan_of.new.drawn.items read)
