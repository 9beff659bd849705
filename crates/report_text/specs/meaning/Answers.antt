-- Answers and draws.
use Rattle.std.specs.Prelude.{ℕ, List, [], ◌∷◌, codes}
use Rattle.serde_json.specs.Data.{Data}
use Rattle.json_form.specs.meaning.Writing.{text, whole, integer, list_by}
use Rattle.svc_values.specs.declared.draw.Draw.{Draw}
use Rattle.svc_values.specs.declared.draw.Draw.TheVariants as draw
use Rattle.svc_values.specs.declared.answer.StatementFault.{StatementFault}
use Rattle.svc_values.specs.declared.answer.StatementFault.TheVariants as fault
use Rattle.svc_values.specs.declared.answer.Answer.{Answer}
use Rattle.svc_values.specs.declared.answer.Answer.TheVariants as answer
use Rattle.report_text.specs.meaning.Parts.{one, headed}
use Rattle.report_text.specs.meaning.Values.{digits, row_value}

abbrev pub refusal_code : StatementFault → ℕ
refusal_code fault.NoTable = 1
refusal_code fault.NoColumn = 2
refusal_code fault.KindDiffers = 3
refusal_code fault.DuplicateKey = 4
refusal_code fault.NoSequence = 5
refusal_code fault.NoVar = 6
refusal_code fault.TooManyRows = 7
refusal_code fault.SumRange = 8
refusal_code fault.KeyColumn = 9

unfoldable pub answer_value : Answer → Data
answer_value (answer.Done n) = one (codes "done") (whole n)
answer_value (answer.Rows rows) = one (codes "rows") (list_by row_value rows)
answer_value (answer.Number n) = one (codes "number") (integer n)
answer_value answer.Committed = text (codes "committed")
answer_value answer.Conflict = text (codes "conflict")
answer_value answer.RolledBack = text (codes "rolledback")
answer_value answer.CommitInReplay = text (codes "commitinreplay")
answer_value (answer.Refused refusal) = one (codes "refused") (whole (refusal_code refusal))

unfoldable pub draw_value : Draw → Data
draw_value (draw.Seq name n) = headed (codes "seq") (text name ∷ integer n ∷ [])
draw_value (draw.Clock tick) = headed (codes "clock") (whole tick ∷ [])
draw_value (draw.Id octets) = headed (codes "id") (digits octets ∷ [])

abbrev pub answers_value : List Answer → Data
answers_value answers = list_by answer_value answers

abbrev pub draws_value : List Draw → Data
draws_value draws = list_by draw_value draws
