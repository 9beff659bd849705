-- Values, rows, settings, identifiers, answers and draws are read of what is written of them.
use Rattle.std.proofs.Common.{◌≡◌, ℕ, List, [], ◌∷◌, ◌++◌, map, length, true, Option, Some, None, Ok, refl, sym, ap, ◌∙◌, append_assoc, append-nil}
use Rattle.std.specs.List.{AllByRecursion, list_all, last_or}
use Rattle.std.specs.Map.{keys_of}
use Rattle.serde_json.specs.View.{items_of}
use Rattle.json_form.specs.meaning.Values.{whole_of}
use Rattle.json_form.specs.meaning.Arrays.{each_after, part}
use Rattle.json_form.specs.meaning.Objects.{required}
use Rattle.json_form.specs.meaning.Writing.{text, whole, list_by}
use Rattle.json_form.proofs.Offered.{first_true, second_true}
use Rattle.svc_values.specs.declared.value.Value.{Value}
use Rattle.svc_values.specs.declared.value.Value.TheVariants as value
use Rattle.svc_values.specs.declared.entry.Ltxid.{Ltxid}
use Rattle.svc_values.specs.declared.entry.SessionId.{SessionId}
use Rattle.svc_values.specs.declared.draw.Draw.{Draw}
use Rattle.svc_values.specs.declared.draw.Draw.TheVariants as draw
use Rattle.svc_values.specs.declared.answer.StatementFault.{StatementFault}
use Rattle.svc_values.specs.declared.answer.StatementFault.TheVariants as fault
use Rattle.svc_values.specs.declared.answer.Answer.{Answer}
use Rattle.svc_values.specs.declared.answer.Answer.TheVariants as answer
use Rattle.svc_values.specs.meaning.SettingsList.{NamedValues, rises, last_name}
use Rattle.svc_values.specs.meaning.Texts.{is_name}
use Rattle.call_forms.specs.meaning.Values.{name_of, line_of, bytes_object, value_of}
use Rattle.answer_forms.specs.meaning.Parts.{value_in, identifier_in, session_in, setting_in, settings_in, row_in}
use Rattle.answer_forms.specs.meaning.Answers.{rows_in, refusal_of, answer_in, answers_in}
use Rattle.answer_forms.specs.meaning.Draws.{seq_in, clock_in, id_in, draw_in, draws_in}
use Rattle.told_reports.specs.meaning.Settings.{names_rise}
use Rattle.report_text.specs.meaning.Values.{literal_value, row_value, setting_value, settings_value, identifier_value, session_value}
use Rattle.report_text.specs.meaning.Answers.{refusal_code, answer_value, draw_value, answers_value, draws_value}
use Rattle.report_text.specs.meaning.Octets.{ValueOfBytes, RowsOfBytes, SettingsOfBytes, AnswerOfBytes, DrawOfBytes}
use Rattle.report_limits.specs.meaning.Limits.{fits_line, fits_value, fits_row, fits_identifier, fits_session, fits_settings, fits_answer, fits_draw}
use Rattle.reading_laws.proofs.ListsBack.{number_back, integer_back, octets_back, list_back, array_back, few, both_of}

pub name_back : (name : List ℕ) → is_name name ≡ true → name_of (text name) ≡ Ok name
unfolding name_of
name_back name is = rw is refl

pub line_back : (line : List ℕ) → fits_line line ≡ true → line_of (text line) ≡ Ok line
line_back line fits = rw fits refl

pub value_back : (x : Value) → ValueOfBytes x → fits_value x ≡ true → value_in (literal_value x) ≡ Ok x
unfolding literal_value value_of bytes_object required
value_back (value.Int n) ok fits = rw (integer_back n fits) refl
value_back (value.Text t) ok fits = rw fits refl
value_back (value.Bytes octets) ok fits = rw (octets_back octets ok, fits) refl

pub row_back : (row : List Value) → AllByRecursion ValueOfBytes row → fits_row row ≡ true → row_in (row_value row) ≡ Ok row
row_back row all fits =
    let parts = both_of _ _ fits in
    array_back ValueOfBytes fits_value value_in literal_value value_back 0 8 row all parts.1 (few (length row) 8 parts.0)

-- ---- settings

setting_back : (before : NamedValues) (pair : List ℕ × Value) → ValueOfBytes pair.1 → is_name pair.0 ≡ true → fits_value pair.1 ≡ true
    → rises (last_name before) pair.0 ≡ true → setting_in before (setting_value pair) ≡ Ok pair
unfolding setting_in part
setting_back before pair ok is fits up = rw (name_back pair.0 is, up, value_back pair.1 ok fits) refl

last_push : (o : Option (List ℕ)) (before : NamedValues) (pair : List ℕ × Value) → last_or o (keys_of (before ++ pair ∷ [])) ≡ Some pair.0
last_push o [] pair = refl
last_push o (e ∷ before) pair = last_push (Some e.0) before pair

settings_rest : (before rest : NamedValues) → SettingsOfBytes rest → fits_settings rest ≡ true → names_rise (last_name before) rest ≡ true
    → each_after setting_in before (items_of (map setting_value rest)) ≡ Ok (before ++ rest)
settings_rest before [] ok fits up = ap Ok (sym (append-nil before))
settings_rest before (pair ∷ rest) ok fits up =
    let one = first_true _ _ fits in
    let same = last_push None before pair in
    let one_parts = both_of _ _ one in
    let up_parts = both_of _ _ up in
    rw (setting_back before pair ok.0 one_parts.0 one_parts.1 up_parts.0)
    (settings_rest (before ++ pair ∷ []) rest ok.1 (second_true _ _ fits) (ap (λ o. names_rise o rest) same ∙ second_true _ _ up)
    ∙ ap Ok (append_assoc before (pair ∷ []) rest))

pub settings_back : (settings : NamedValues) → SettingsOfBytes settings → fits_settings settings ≡ true → names_rise None settings ≡ true
    → settings_in (settings_value settings) ≡ Ok settings
settings_back settings ok fits up = settings_rest [] settings ok fits up

-- ---- identifiers

pub identifier_back : (x : Ltxid) → fits_identifier x ≡ true → identifier_in (identifier_value x) ≡ Ok x
unfolding identifier_in part
identifier_back x fits =
    let others = second_true _ _ fits in
    let fits_parts = both_of _ _ fits in
    let others_parts = both_of _ _ others in
    rw (number_back x.incarnation fits_parts.0, number_back x.session others_parts.0, number_back x.number others_parts.1) refl

pub session_back : (s : SessionId) → fits_session s ≡ true → session_in (session_value s) ≡ Ok s
unfolding session_in part
session_back s fits =
    let fits_parts = both_of _ _ fits in
    rw (number_back s.incarnation fits_parts.0, number_back s.session fits_parts.1) refl

-- ---- answers

pub code_back : (refusal : StatementFault) → whole_of 1 9 (whole (refusal_code refusal)) ≡ Ok (refusal_code refusal)
unfolding whole_of
code_back fault.NoTable = refl
code_back fault.NoColumn = refl
code_back fault.KindDiffers = refl
code_back fault.DuplicateKey = refl
code_back fault.NoSequence = refl
code_back fault.NoVar = refl
code_back fault.TooManyRows = refl
code_back fault.SumRange = refl
code_back fault.KeyColumn = refl

pub refusal_back : (refusal : StatementFault) → refusal_of (refusal_code refusal) ≡ refusal
refusal_back fault.NoTable = refl
refusal_back fault.NoColumn = refl
refusal_back fault.KindDiffers = refl
refusal_back fault.DuplicateKey = refl
refusal_back fault.NoSequence = refl
refusal_back fault.NoVar = refl
refusal_back fault.TooManyRows = refl
refusal_back fault.SumRange = refl
refusal_back fault.KeyColumn = refl

rows_back : (rows : List (List Value)) → RowsOfBytes rows → fits_answer (answer.Rows rows) ≡ true → rows_in (list_by row_value rows) ≡ Ok rows
rows_back rows all fits =
    let parts = both_of _ _ fits in
    array_back (AllByRecursion ValueOfBytes) fits_row row_in row_value row_back 0 32 rows all parts.1 (few (length rows) 32 parts.0)

answer_back : (x : Answer) → AnswerOfBytes x → fits_answer x ≡ true → answer_in (answer_value x) ≡ Ok x
unfolding answer_value answer_in
answer_back (answer.Done n) ok fits = rw (number_back n fits) refl
answer_back (answer.Rows rows) ok fits = rw (rows_back rows ok fits) refl
answer_back (answer.Number n) ok fits = rw (integer_back n fits) refl
answer_back answer.Committed ok fits = refl
answer_back answer.Conflict ok fits = refl
answer_back answer.RolledBack ok fits = refl
answer_back answer.CommitInReplay ok fits = refl
answer_back (answer.Refused refusal) ok fits = rw (code_back refusal, refusal_back refusal) refl

pub answers_back : (answers : List Answer) → AllByRecursion AnswerOfBytes answers → list_all fits_answer answers ≡ true → answers_in (answers_value answers) ≡ Ok answers
answers_back answers all fits = list_back AnswerOfBytes fits_answer answer_in answer_value answer_back answers all fits

-- ---- draws

draw_back : (x : Draw) → DrawOfBytes x → fits_draw x ≡ true → draw_in (draw_value x) ≡ Ok x
unfolding draw_value draw_in seq_in clock_in id_in part
draw_back (draw.Seq name n) ok fits =
    let fits_parts = both_of _ _ fits in
    rw (name_back name fits_parts.0, integer_back n fits_parts.1) refl
draw_back (draw.Clock tick) ok fits = rw (number_back tick fits) refl
draw_back (draw.Id octets) ok fits = rw (octets_back octets ok, fits) refl

pub draws_back : (draws : List Draw) → AllByRecursion DrawOfBytes draws → list_all fits_draw draws ≡ true → draws_in (draws_value draws) ≡ Ok draws
draws_back draws all fits = list_back DrawOfBytes fits_draw draw_in draw_value draw_back draws all fits
