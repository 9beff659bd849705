use Rattle.svc_values.specs.SameLaws.{same_value_decides, same_answers_decide, same_call_decides, same_draw_decides, same_piece_decides, same_rows_decide, same_place_decides, same_ltxid_decides, same_session_decides}
use Rattle.svc_values.specs.OrderLaws.{by_kind, same_here}
use Rattle.svc_values.proofs.laws.compares_exactly.Goals as goal

pub returns-clause-exact : goal.returns-clause-exact
returns-clause-exact c = record {
  values = same_value_decides;
  answers = same_answers_decide;
  calls = same_call_decides;
  draws = same_draw_decides;
  pieces = same_piece_decides;
  rows = same_rows_decide;
  places = same_place_decides;
  identifiers = same_ltxid_decides;
  sessions = same_session_decides;
}

pub returns-clause-equal : goal.returns-clause-equal
returns-clause-equal c = same_here

pub returns-clause-order : goal.returns-clause-order
returns-clause-order c = by_kind
