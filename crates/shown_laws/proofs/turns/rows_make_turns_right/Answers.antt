use Rattle.shown_laws.proofs.owners.RowTurns.{marks_told, rows_make_right}
use Rattle.shown_laws.proofs.turns.rows_make_turns_right.Goals as goal

pub returns : goal.returns
returns c = record { right = rows_make_right; marks = marks_told }
