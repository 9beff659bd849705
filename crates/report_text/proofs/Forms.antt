-- Each part of a report is of the form that is read back from its text: its numbers are whole, its
-- members stand once and in order, and it does not nest deep.
use Rattle.std.proofs.Common.{ℕ, suc, true, false, List, map, Bool, refl}
use Rattle.serde_json.specs.View.{items_of}
use Rattle.svc_values.specs.declared.value.Value.{Value}
use Rattle.svc_values.specs.declared.value.Value.TheVariants as value
use Rattle.svc_values.specs.declared.draw.Draw.{Draw}
use Rattle.svc_values.specs.declared.draw.Draw.TheVariants as draw
use Rattle.svc_values.specs.declared.draw.DrawKind.TheVariants as kind
use Rattle.svc_values.specs.declared.answer.Answer.{Answer}
use Rattle.svc_values.specs.declared.answer.Answer.TheVariants as answer
use Rattle.svc_values.specs.declared.statement.Operand.{Operand}
use Rattle.svc_values.specs.declared.statement.Operand.TheVariants as operand
use Rattle.svc_values.specs.declared.statement.Statement.{Statement}
use Rattle.svc_values.specs.declared.statement.Statement.TheVariants as statement
use Rattle.svc_values.specs.declared.call.Call.{Call}
use Rattle.svc_values.specs.declared.call.Call.TheVariants as call
use Rattle.svc_values.specs.declared.entry.Ltxid.{Ltxid}
use Rattle.svc_values.specs.declared.entry.SessionId.{SessionId}
use Rattle.svc_values.specs.declared.entry.Piece.{Piece}
use Rattle.svc_values.specs.declared.entry.Entry.{Entry}
use Rattle.json_form.specs.Forms.{IsForm, AreItems}
use Rattle.json_form.proofs.Offered.{levels, integer_form, items_form, items_joined}
use Rattle.report_text.specs.meaning.Values.{literal_value, row_value, setting_value, settings_value, identifier_value, session_value}
use Rattle.report_text.specs.meaning.Answers.{answer_value, draw_value, answers_value, draws_value}
use Rattle.report_text.specs.meaning.Calls.{operand_value, changing, statement_value, commit_values, call_value}
use Rattle.report_text.specs.meaning.Entries.{piece_value, entry_value}

literal_form : (deep : ℕ) (x : Value) → IsForm (suc deep) (literal_value x)
unfolding literal_value
literal_form deep (value.Int n) = integer_form n
literal_form deep (value.Text t) = tt
literal_form deep (value.Bytes octets) = (refl, (tt, tt))

pub row_form : (deep : ℕ) (row : List Value) → IsForm (levels 2 deep) (row_value row)
row_form deep row = items_form (suc deep) literal_value (literal_form deep) row

setting_form : (deep : ℕ) (setting : List ℕ × Value) → IsForm (levels 2 deep) (setting_value setting)
setting_form deep (name, x) = (tt, (literal_form deep x, tt))

pub settings_form : (deep : ℕ) (settings : List (List ℕ × Value)) → IsForm (levels 3 deep) (settings_value settings)
settings_form deep settings = items_form (levels 2 deep) setting_value (setting_form deep) settings

pub identifier_form : (deep : ℕ) (x : Ltxid) → IsForm (suc deep) (identifier_value x)
identifier_form deep x = (tt, (tt, (tt, tt)))

pub session_form : (deep : ℕ) (s : SessionId) → IsForm (suc deep) (session_value s)
session_form deep s = (tt, (tt, tt))

answer_form : (deep : ℕ) (x : Answer) → IsForm (levels 4 deep) (answer_value x)
unfolding answer_value
answer_form deep (answer.Done n) = (refl, (tt, tt))
answer_form deep (answer.Rows rows) = (refl, (items_form (levels 2 deep) row_value (row_form deep) rows, tt))
answer_form deep (answer.Number n) = (refl, (integer_form n, tt))
answer_form deep answer.Committed = tt
answer_form deep answer.Conflict = tt
answer_form deep answer.RolledBack = tt
answer_form deep answer.CommitInReplay = tt
answer_form deep (answer.Refused refusal) = (refl, (tt, tt))

pub answers_form : (deep : ℕ) (answers : List Answer) → IsForm (levels 5 deep) (answers_value answers)
answers_form deep answers = items_form (levels 4 deep) answer_value (answer_form deep) answers

draw_form : (deep : ℕ) (x : Draw) → IsForm (suc deep) (draw_value x)
unfolding draw_value
draw_form deep (draw.Seq name n) = (tt, (tt, (integer_form n, tt)))
draw_form deep (draw.Clock tick) = (tt, (tt, tt))
draw_form deep (draw.Id octets) = (tt, (tt, tt))

pub draws_form : (deep : ℕ) (draws : List Draw) → IsForm (levels 2 deep) (draws_value draws)
draws_form deep draws = items_form (suc deep) draw_value (draw_form deep) draws

operand_form : (deep : ℕ) (x : Operand) → IsForm (suc deep) (operand_value x)
unfolding operand_value
operand_form deep (operand.Lit x) = literal_form deep x
operand_form deep (operand.Var name) = (refl, (tt, tt))
operand_form deep (operand.Draw (kind.Seq name)) = (refl, (tt, tt))
operand_form deep (operand.Draw kind.Clock) = (refl, (tt, tt))
operand_form deep (operand.Draw kind.Id) = (refl, (tt, tt))

statement_form : (deep : ℕ) (x : Statement) → IsForm (levels 3 deep) (statement_value x)
unfolding statement_value
statement_form deep (statement.Insert table values) = (tt, (tt, (items_form (suc deep) operand_value (operand_form deep) values, tt)))
statement_form deep (statement.Update table key column by) = (tt, (tt, (operand_form (suc deep) key, (tt, (tt, (operand_form (suc deep) (changing by), tt))))))
statement_form deep (statement.Delete table key) = (tt, (tt, (operand_form (suc deep) key, tt)))
statement_form deep (statement.Get table key) = (tt, (tt, (operand_form (suc deep) key, tt)))
statement_form deep (statement.Select table column compared o) = (tt, (tt, (tt, (tt, (operand_form (suc deep) o, tt)))))
statement_form deep (statement.Count table) = (tt, (tt, tt))
statement_form deep (statement.Sum table column) = (tt, (tt, (tt, tt)))
statement_form deep (statement.Show o) = (tt, (operand_form (suc deep) o, tt))

commit_form : (deep : ℕ) (commit : Bool) → AreItems (suc deep) (items_of (commit_values commit))
commit_form deep true = ((tt, tt), tt)
commit_form deep false = tt

pub call_form : (deep : ℕ) (x : Call) → IsForm (levels 4 deep) (call_value x)
unfolding call_value
call_form deep (call.Work statements commit) =
    items_joined (levels 3 deep) (map statement_value statements) (commit_values commit) (items_form (levels 3 deep) statement_value (statement_form deep) statements) (commit_form (levels 2 deep) commit)
call_form deep (call.Set name x) = ((tt, (tt, (literal_form (suc deep) x, tt))), tt)
call_form deep (call.Alter line) = ((tt, (tt, tt)), tt)
call_form deep call.Disable = ((tt, tt), tt)
call_form deep call.Rollback = ((tt, tt), tt)

piece_form : (deep : ℕ) (x : Piece) → IsForm (levels 6 deep) (piece_value x)
unfolding piece_value
piece_form deep x = (call_form (suc deep) x.call, (answers_form deep x.answers, (draws_form (levels 3 deep) x.draws, tt)))

pub entry_form : (deep : ℕ) (x : Entry) → IsForm (levels 8 deep) (entry_value x)
unfolding entry_value
entry_form deep x = (refl, (tt, (identifier_form (levels 6 deep) x.ltxid, (items_form (levels 6 deep) piece_value (piece_form deep) x.pieces, (settings_form (levels 4 deep) x.settings, tt)))))
