use Rattle.invariant_laws.proofs.rows.KeptRows.{rows_law}
use Rattle.invariant_laws.proofs.request_laws.calls_go_in_rows.Goals as goal

pub returns : goal.returns
returns c = rows_law
