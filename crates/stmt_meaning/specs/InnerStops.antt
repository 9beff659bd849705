-- Why reading stops.
use Rattle.stmt_meaning.specs.declared.planning.PlanFault.{PlanFault}
use Rattle.stmt_meaning.specs.declared.planning.PlanFault.TheVariants as plan_fault
use Rattle.svc_values.specs.declared.answer.StatementFault.TheVariants as refusal
use Rattle.stmt_meaning.specs.declared.fault.DrawFromFault.{DrawFromFault}
use Rattle.stmt_meaning.specs.declared.fault.DrawFromFault.TheVariants as fault
use Rattle.stmt_meaning.specs.declared.fault.TxnFault.TheVariants as txn_fault
use Rattle.stmt_meaning.specs.declared.stop.Stop.{Stop}
use Rattle.stmt_meaning.specs.declared.stop.Stop.TheVariants as stop

abbrev pub stop_of_plan : PlanFault → Stop
stop_of_plan plan_fault.NoMemory = stop.Ended txn_fault.NoMemory
stop_of_plan (plan_fault.Refused why) = stop.Refused why

-- a sequence that is not there refuses the statement
abbrev pub stop_of_draw : DrawFromFault → Stop
stop_of_draw fault.NoSequence = stop.Refused refusal.NoSequence
stop_of_draw fault.NoMemory = stop.Ended txn_fault.NoMemory
stop_of_draw fault.Stopped = stop.Ended txn_fault.Stopped
