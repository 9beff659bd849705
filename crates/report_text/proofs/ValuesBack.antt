-- Values, settings, identifiers, answers and draws are read back from what is written of them.
use Rattle.std.proofs.Common.{◌≡◌, ℕ, pos, List, ◌==◌, refl, ap, codes}
use Rattle.std.specs.Prelude.{if◌then◌else◌}
use Rattle.std.specs.List.{AllByRecursion}
use Rattle.serde_json.specs.Data.{Data, number, string, object}
use Rattle.svc_values.specs.declared.value.Value.{Value}
use Rattle.svc_values.specs.declared.value.Value.TheVariants as value
use Rattle.svc_values.specs.declared.entry.Ltxid.{Ltxid}
use Rattle.svc_values.specs.declared.entry.SessionId.{SessionId}
use Rattle.svc_values.specs.declared.draw.Draw.{Draw}
use Rattle.svc_values.specs.declared.draw.Draw.TheVariants as draw
use Rattle.svc_values.specs.declared.answer.StatementFault.{StatementFault}
use Rattle.svc_values.specs.declared.answer.StatementFault.TheVariants as fault
use Rattle.svc_values.specs.declared.answer.Answer.{Answer}
use Rattle.svc_values.specs.declared.answer.Answer.TheVariants as answer
use Rattle.json_form.specs.meaning.Writing.{list_by}
use Rattle.report_text.specs.meaning.Values.{literal_value, row_value, setting_value, settings_value, identifier_value, session_value}
use Rattle.report_text.specs.meaning.Answers.{refusal_code, answer_value, draw_value, answers_value, draws_value}
use Rattle.report_text.specs.meaning.Octets.{ValueOfBytes, RowsOfBytes, SettingsOfBytes, AnswerOfBytes, DrawOfBytes}
use Rattle.report_text.proofs.Places.{nat_in, int_of, int_in, text_in, items, part, first_name, first_value, digits_in, list_in, int_back, digits_back, list_back}
use Rattle.std.specs.Str.{bytes_eq}

abbrev pub value_in : Data → Value
value_in (number n) = value.Int (int_of n)
value_in (string s) = value.Text s
value_in (object ms) = value.Bytes (digits_in (first_value ms))
value_in _ = value.Int (pos 0)

pub value_back : (x : Value) → ValueOfBytes x → value_in (literal_value x) ≡ x
unfolding literal_value
value_back (value.Int n) ok = ap value.Int (int_back n)
value_back (value.Text t) ok = refl
value_back (value.Bytes octets) ok = ap value.Bytes (digits_back octets ok)

abbrev pub row_in : Data → List Value
row_in d = list_in value_in d

pub row_back : (row : List Value) → AllByRecursion ValueOfBytes row → row_in (row_value row) ≡ row
row_back row all = list_back ValueOfBytes value_in literal_value value_back row all

pub rows_back : (rows : List (List Value)) → RowsOfBytes rows → list_in row_in (list_by row_value rows) ≡ rows
rows_back rows all = list_back (AllByRecursion ValueOfBytes) row_in row_value row_back rows all

abbrev pub setting_in : Data → List ℕ × Value
setting_in d = (text_in (part 0 (items d)), value_in (part 1 (items d)))

setting_back : (setting : List ℕ × Value) → ValueOfBytes setting.1 → setting_in (setting_value setting) ≡ setting
setting_back (name, x) ok = ap (λ (y : Value). (name, y)) (value_back x ok)

abbrev pub settings_in : Data → List (List ℕ × Value)
settings_in d = list_in setting_in d

pub settings_back : (settings : List (List ℕ × Value)) → SettingsOfBytes settings → settings_in (settings_value settings) ≡ settings
settings_back settings all = list_back (λ (pair : List ℕ × Value). ValueOfBytes pair.1) setting_in setting_value setting_back settings all

abbrev pub identifier_in : Data → Ltxid
identifier_in d = record {
  incarnation = nat_in (part 0 (items d));
  session = nat_in (part 1 (items d));
  number = nat_in (part 2 (items d));
}

pub identifier_back : (x : Ltxid) → identifier_in (identifier_value x) ≡ x
identifier_back x = refl

abbrev pub session_in : Data → SessionId
session_in d = record { incarnation = nat_in (part 0 (items d)); session = nat_in (part 1 (items d)) }

pub session_back : (s : SessionId) → session_in (session_value s) ≡ s
session_back s = refl

abbrev refusal_of : ℕ → StatementFault
refusal_of n =
    if n == 1 then fault.NoTable
    else if n == 2 then fault.NoColumn
    else if n == 3 then fault.KindDiffers
    else if n == 4 then fault.DuplicateKey
    else if n == 5 then fault.NoSequence
    else if n == 6 then fault.NoVar
    else if n == 7 then fault.TooManyRows
    else if n == 8 then fault.SumRange
    else fault.KeyColumn

refusal_back : (refusal : StatementFault) → refusal_of (refusal_code refusal) ≡ refusal
refusal_back fault.NoTable = refl
refusal_back fault.NoColumn = refl
refusal_back fault.KindDiffers = refl
refusal_back fault.DuplicateKey = refl
refusal_back fault.NoSequence = refl
refusal_back fault.NoVar = refl
refusal_back fault.TooManyRows = refl
refusal_back fault.SumRange = refl
refusal_back fault.KeyColumn = refl

-- an answer of one word
abbrev word_answer : List ℕ → Answer
word_answer word =
    if bytes_eq word (codes "committed") then answer.Committed
    else if bytes_eq word (codes "conflict") then answer.Conflict
    else if bytes_eq word (codes "rolledback") then answer.RolledBack
    else answer.CommitInReplay

-- an answer of one member
abbrev member_answer : List ℕ → Data → Answer
member_answer name d =
    if bytes_eq name (codes "done") then answer.Done (nat_in d)
    else if bytes_eq name (codes "rows") then answer.Rows (list_in row_in d)
    else if bytes_eq name (codes "number") then answer.Number (int_in d)
    else answer.Refused (refusal_of (nat_in d))

abbrev answer_in : Data → Answer
answer_in (object ms) = member_answer (first_name ms) (first_value ms)
answer_in d = word_answer (text_in d)

answer_back : (x : Answer) → AnswerOfBytes x → answer_in (answer_value x) ≡ x
unfolding answer_value
answer_back (answer.Done n) ok = refl
answer_back (answer.Rows rows) ok = ap answer.Rows (rows_back rows ok)
answer_back (answer.Number n) ok = ap answer.Number (int_back n)
answer_back answer.Committed ok = refl
answer_back answer.Conflict ok = refl
answer_back answer.RolledBack ok = refl
answer_back answer.CommitInReplay ok = refl
answer_back (answer.Refused refusal) ok = ap answer.Refused (refusal_back refusal)

abbrev pub answers_in : Data → List Answer
answers_in d = list_in answer_in d

pub answers_back : (answers : List Answer) → AllByRecursion AnswerOfBytes answers → answers_in (answers_value answers) ≡ answers
answers_back answers all = list_back AnswerOfBytes answer_in answer_value answer_back answers all

-- a draw of its word and what follows
abbrev draw_of : List ℕ → List Data → Draw
draw_of word ds =
    if bytes_eq word (codes "seq") then draw.Seq (text_in (part 1 ds)) (int_in (part 2 ds))
    else if bytes_eq word (codes "clock") then draw.Clock (nat_in (part 1 ds))
    else draw.Id (digits_in (part 1 ds))

abbrev draw_in : Data → Draw
draw_in d = draw_of (text_in (part 0 (items d))) (items d)

draw_back : (x : Draw) → DrawOfBytes x → draw_in (draw_value x) ≡ x
unfolding draw_value
draw_back (draw.Seq name n) ok = ap (draw.Seq name) (int_back n)
draw_back (draw.Clock tick) ok = refl
draw_back (draw.Id octets) ok = ap draw.Id (digits_back octets ok)

abbrev pub draws_in : Data → List Draw
draws_in d = list_in draw_in d

pub draws_back : (draws : List Draw) → AllByRecursion DrawOfBytes draws → draws_in (draws_value draws) ≡ draws
draws_back draws all = list_back DrawOfBytes draw_in draw_value draw_back draws all
