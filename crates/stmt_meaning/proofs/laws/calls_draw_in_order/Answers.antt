use Rattle.stmt_meaning.proofs.DrawOrder.{mean-uses, sequences-counted, sequences-few}
use Rattle.stmt_meaning.proofs.laws.calls_draw_in_order.Goals as goal

pub returns-clause-in_order : goal.returns-clause-in_order
returns-clause-in_order c = mean-uses

pub returns-clause-counted : goal.returns-clause-counted
returns-clause-counted c = sequences-counted

pub returns-clause-few : goal.returns-clause-few
returns-clause-few c = sequences-few
