use Rattle.std.proofs.Common.{subst}
use Rattle.std.proofs.lemmas.Result.{IfOk-weaker}
use Rattle.stmt_meaning.specs.declared.fault.TxnFault.{TxnFault}
use Rattle.stmt_meaning.specs.Listed.{TakesFirst}
use Rattle.table_txn.specs.Transactions.{HasEnded}
use Rattle.calls_again.specs.OnWay.{on_way}
use Rattle.calls_again.proofs.Ran.{goes_worked, goes_stopped}
use Rattle.calls_again.proofs.running.work.Goals as goal

pub returns-in-Ok : goal.returns-in-Ok
returns-in-Ok c =
    IfOk-weaker c.told_of.result _ _
    (λ told said earlier.
    let ran = c.in-Ok.ran in
    goes_worked c.args.tables.now c.args.settings.now earlier c.args.txn.now c.args.statements.now c.args.commit c.args.source.now ran.answers ran.draws c.run.new.self c.in-Ok.ensures.ran.0 c.in-Ok.ensures.unchanged c.in-Ok.ensures.fits
    c.run.new.draws c.in-Ok.ensures.ran.1 c.len.result c.len.ensures told said)
    c.told_of.ensures

pub returns-in-Err-Stopped : goal.returns-in-Err-Stopped
returns-in-Err-Stopped c = λ earlier.
    let source = c.args.source.now in
    goes_stopped c.args.tables.now c.args.settings.now earlier c.args.txn.now c.args.statements.now c.args.commit source c.run.new.draws (on_way c.args.settings.now earlier c.run.new.self)
    (subst (λ (f : TxnFault). HasEnded c.args.tables.now source.names c.args.settings.now c.args.txn.now c.args.statements.now TakesFirst source f c.run.new.draws) c.in-Err-Stopped.field-0-is c.in-Err-Stopped.ensures.ended)
