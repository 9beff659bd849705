-- What is borrowed, seen as plain values.
use Rattle.std.specs.Prelude.{Result, Ok, Err}
use Rattle.svc_values.specs.declared.answer.StatementFault.{StatementFault}
use Rattle.stmt_meaning.specs.declared.target.Target.{Target}
use Rattle.stmt_meaning.specs.meaning.Plans.{Aim}

abbrev pub aim : Target → Aim
aim target = record { columns = target.columns.now; at = target.at }

abbrev pub aim_seen : Result Target StatementFault → Result Aim StatementFault
aim_seen (Err refusal) = Err refusal
aim_seen (Ok target) = Ok (aim target)
