use Rattle.std.proofs.Common.{◌≡◌, ap, subst}
use Rattle.svc_values.specs.declared.schema.Schema.{Schema}
use Rattle.std.specs.Prelude.{List, None, length}
use Rattle.stmt_meaning.specs.declared.fault.TxnFault.{TxnFault}
use Rattle.stmt_meaning.specs.declared.fault.TxnFault.TheVariants as txn_fault
use Rattle.stmt_meaning.specs.Drawing.{Ends}
use Rattle.stmt_meaning.specs.InnerAnswers.{DidAll}
use Rattle.stmt_meaning.specs.InnerRunning.{all_left}
use Rattle.stmt_meaning.specs.Listed.{Listing, TakesFirst}
use Rattle.stmt_meaning.specs.meaning.Meaning.{statements_done, worked}
use Rattle.stmt_meaning.proofs.Working.{differs}
use Rattle.stmt_meaning.proofs.plain.run_work.Goals as goal

pub returns-in-Ok-clause-ok : goal.returns-in-Ok-clause-ok
returns-in-Ok-clause-ok c =
    let w = c.in-Ok.worked in
    let tables = c.args.tables.now in
    let run = λ (schemas : List Schema) (s : Listing). statements_done (record { schemas = schemas; sequences = s.names }) tables c.args.settings.now c.args.statements.now s.draws in
    let declared = subst (λ (schemas : List Schema). DidAll (run schemas c.in_ok-source.source) tables c.in_ok-source.source.draws w.answers.items w.rows.items (length w.drawn.items) w.is_refused) c.as_slice-schemas.ensures.items c.in-Ok.ensures.done in
    let given = subst (λ (s : Listing). DidAll (run c.args.shape.now.schemas s) tables s.draws w.answers.items w.rows.items (length w.drawn.items) w.is_refused) c.in_ok-source.ensures declared in
    c.in_ok-finished-in-Ok.ensures (statements_done c.args.shape.now tables c.args.settings.now c.args.statements.now c.args.draws.now) c.args.draws.now given

pub returns-clause-differ : goal.returns-clause-differ
returns-clause-differ c e =
    let tables = c.args.tables.now in
    let left = λ (schemas : List Schema) (s : Listing). all_left (record { schemas = schemas; sequences = s.names }) tables c.args.settings.now c.args.statements.now in
    let stopped = subst (λ (f : TxnFault). Ends TakesFirst (left c.as_slice-schemas.result.now c.in_ok-source.source) c.in_ok-source.source f c.run_statements.new.source) c.in-Err-Stopped.field-0-is c.in-Err-Stopped.ensures.ended in
    let declared = subst (λ (schemas : List Schema). Ends TakesFirst (left schemas c.in_ok-source.source) c.in_ok-source.source txn_fault.Stopped c.run_statements.new.source) c.as_slice-schemas.ensures.items stopped in
    let none = differs (record { schemas = c.args.shape.now.schemas; sequences = c.in_ok-source.source.names }) tables c.args.settings.now c.args.statements.now c.in_ok-source.source c.run_statements.new.source declared in
    ap (worked tables c.args.settings.now c.args.commit) (subst (λ (s : Listing). statements_done (record { schemas = c.args.shape.now.schemas; sequences = s.names }) tables c.args.settings.now c.args.statements.now s.draws ≡ None) c.in_ok-source.ensures none)
