-- Of values, rows, settings, identifiers, answers and draws nothing else is read than what was
-- written.
use Rattle.std.proofs.Common.{ℕ, ◌==◌, ℤ, pos, negsuc, List, [], length, refl, ap}
use Rattle.json_form.specs.declared.hexadecimal.Digits.TheVariants as case
use Rattle.json_form.specs.meaning.Values.{whole_of, integer_of}
use Rattle.json_form.specs.meaning.Objects.{required}
use Rattle.json_form.specs.meaning.Writing.{text, whole, integer, list_by}
use Rattle.svc_values.specs.declared.value.Value.{Value}
use Rattle.svc_values.specs.declared.value.Value.TheVariants as value
use Rattle.svc_values.specs.declared.entry.Ltxid.{Ltxid}
use Rattle.svc_values.specs.declared.entry.SessionId.{SessionId}
use Rattle.svc_values.specs.declared.draw.Draw.{Draw}
use Rattle.svc_values.specs.declared.draw.Draw.TheVariants as draw
use Rattle.svc_values.specs.declared.answer.StatementFault.{StatementFault}
use Rattle.svc_values.specs.declared.answer.Answer.{Answer}
use Rattle.svc_values.specs.declared.answer.Answer.TheVariants as answer
use Rattle.svc_values.specs.meaning.SettingsList.{NamedValues}
use Rattle.call_forms.specs.meaning.Values.{name_of, line_of, bytes_value, bytes_object, value_of}
use Rattle.answer_forms.specs.meaning.Parts.{number_in, octets_in, value_in, if_rising, identifier_in, session_in, setting_in, settings_in, row_in}
use Rattle.answer_forms.specs.meaning.Answers.{rows_in, answer_in, answers_in}
use Rattle.answer_forms.specs.meaning.Draws.{seq_in, clock_in, id_in, draw_in, draws_in}
use Rattle.report_text.specs.meaning.Values.{digits, literal_value, row_value, setting_value, settings_value, identifier_value, session_value}
use Rattle.report_text.specs.meaning.Answers.{refusal_code, answer_value, draw_value, answers_value, draws_value}
use Rattle.reading_laws.proofs.ValuesBack.{code_back, refusal_back}
use Rattle.reading_laws.proofs.OctetsOrFault.{octets_so}
use Rattle.reading_laws.proofs.OrFault.{OrFault, or_if, and_then, within_so, within_then, part_then, rest_so, list_so, array_so}

pub number_so : (n : ℕ) → OrFault n (number_in (whole n))
unfolding whole_of
number_so n = or_if _ n _

pub integer_so : (z : ℤ) → OrFault z (integer_of (integer z))
unfolding integer_of
integer_so (pos n) = or_if _ (pos n) _
integer_so (negsuc n) = or_if _ (negsuc n) _

pub name_so : (name : List ℕ) → OrFault name (name_of (text name))
unfolding name_of
name_so name = or_if _ name _

pub line_so : (line : List ℕ) → OrFault line (line_of (text line))
line_so line = or_if _ line _

pub sized_so : (count : ℕ) (octets : List ℕ) → OrFault octets (octets_in count (digits octets))
sized_so count octets = and_then _ _ octets octets (octets_so octets) (or_if (length octets == count) octets _)

pub bytes_so : (octets : List ℕ) → OrFault (value.Bytes octets) (bytes_value case.Lower (digits octets))
bytes_so octets = and_then _ _ octets (value.Bytes octets) (octets_so octets) (or_if _ (value.Bytes octets) _)

pub value_so : (x : Value) → OrFault x (value_in (literal_value x))
unfolding literal_value value_of bytes_object required
value_so (value.Int n) = and_then _ _ n (value.Int n) (integer_so n) refl
value_so (value.Text t) = and_then _ _ t (value.Text t) (line_so t) refl
value_so (value.Bytes octets) = within_so _ _ (value.Bytes octets) (bytes_so octets)

pub row_so : (row : List Value) → OrFault row (row_in (row_value row))
row_so row = array_so value_in literal_value value_so 0 8 row

-- ---- settings

rising_so : (before : NamedValues) (name : List ℕ) → OrFault tt (if_rising before name)
rising_so before name = or_if _ tt _

setting_so : (before : NamedValues) (pair : List ℕ × Value) → OrFault pair (setting_in before (setting_value pair))
unfolding setting_in
setting_so before pair =
    part_then _ _ _ _ _ _ _ refl (name_so pair.0)
    (within_then _ _ _ tt _ (rising_so before pair.0) (part_then _ _ _ _ _ _ _ refl (value_so pair.1) refl))

pub settings_so : (settings : NamedValues) → OrFault settings (settings_in (settings_value settings))
settings_so settings = rest_so setting_in setting_value setting_so [] settings

-- ---- identifiers

pub identifier_so : (x : Ltxid) → OrFault x (identifier_in (identifier_value x))
unfolding identifier_in
identifier_so x =
    part_then _ _ _ _ _ _ _ refl (number_so x.incarnation)
    (part_then _ _ _ _ _ _ _ refl (number_so x.session) (part_then _ _ _ _ _ _ _ refl (number_so x.number) refl))

pub session_so : (s : SessionId) → OrFault s (session_in (session_value s))
unfolding session_in
session_so s = part_then _ _ _ _ _ _ _ refl (number_so s.incarnation) (part_then _ _ _ _ _ _ _ refl (number_so s.session) refl)

-- ---- answers

rows_so : (rows : List (List Value)) → OrFault rows (rows_in (list_by row_value rows))
rows_so rows = array_so row_in row_value row_so 0 32 rows

code_so : (refusal : StatementFault) → OrFault (refusal_code refusal) (whole_of 1 9 (whole (refusal_code refusal)))
code_so refusal = rw (code_back refusal) refl

answer_so : (x : Answer) → OrFault x (answer_in (answer_value x))
unfolding answer_value answer_in
answer_so (answer.Done n) = within_then _ _ _ n (answer.Done n) (number_so n) refl
answer_so (answer.Rows rows) = within_then _ _ _ rows (answer.Rows rows) (rows_so rows) refl
answer_so (answer.Number n) = within_then _ _ _ n (answer.Number n) (integer_so n) refl
answer_so answer.Committed = refl
answer_so answer.Conflict = refl
answer_so answer.RolledBack = refl
answer_so answer.CommitInReplay = refl
answer_so (answer.Refused refusal) = within_then _ _ _ (refusal_code refusal) (answer.Refused refusal) (code_so refusal) (ap answer.Refused (refusal_back refusal))

pub answers_so : (answers : List Answer) → OrFault answers (answers_in (answers_value answers))
answers_so answers = list_so answer_in answer_value answer_so answers

-- ---- draws

draw_so : (x : Draw) → OrFault x (draw_in (draw_value x))
unfolding draw_value draw_in seq_in clock_in id_in
draw_so (draw.Seq name n) = part_then _ _ _ _ _ _ _ refl (name_so name) (part_then _ _ _ _ _ _ _ refl (integer_so n) refl)
draw_so (draw.Clock tick) = part_then _ _ _ _ _ _ _ refl (number_so tick) refl
draw_so (draw.Id octets) = part_then _ _ _ _ _ octets _ refl (sized_so 16 octets) refl

pub draws_so : (draws : List Draw) → OrFault draws (draws_in (draws_value draws))
draws_so draws = list_so draw_in draw_value draw_so draws
