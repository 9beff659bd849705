-- What values, rows, settings, identifiers, answers and draws keep to that were read.
use Rattle.std.proofs.Common.{◌≡◌, ℕ, ◌^◌, ◌-◌, ◌==◌, ◌&&◌, nat_le, ℤ, pos, negsuc, List, [], ◌∷◌, length, true, Option, Some, None, Result, Ok, Err, refl, arith, codes}
use Rattle.std.specs.Str.{bytes_eq}
use Rattle.std.specs.List.{AllByRecursion, list_all, list_any}
use Rattle.std.proofs.lemmas.Bool.{leb-true, lt-ltb}
use Rattle.hex.specs.Hex.{IsBytes, decode_of}
use Rattle.hex.specs.declared.error.FromHexError.{FromHexError}
use Rattle.hex.proofs.HexLemmas.{decode_of-ok}
use Rattle.serde_json.specs.Data.{Data, Num}
use Rattle.serde_json.specs.Find.{as_str, as_number}
use Rattle.json_form.specs.declared.hexadecimal.Digits.{Digits}
use Rattle.json_form.specs.declared.hexadecimal.Digits.TheVariants as case
use Rattle.json_form.specs.meaning.Faults.{◌>>=◌, here, within, within_item}
use Rattle.json_form.specs.meaning.Values.{in_limits, fits_i64, whole_of, integer_of, number_of, text_of, items_of, members_of}
use Rattle.json_form.specs.declared.fault.DocCode.TheVariants.{Limit, BadImage, Unknown}
use Rattle.json_form.specs.meaning.Texts.{is_capital, octets_or_fault, octets_by, octets_of, chosen, head_of}
use Rattle.json_form.specs.meaning.Arrays.{each_after, fixed}
use Rattle.json_form.specs.meaning.Objects.{object_with, required}
use Rattle.json_form.specs.meaning.Pointers.{escaped}
use Rattle.json_form.proofs.Offered.{second_true, both_true}
use Rattle.svc_values.specs.declared.value.Value.{Value}
use Rattle.svc_values.specs.declared.value.Value.TheVariants as value
use Rattle.svc_values.specs.declared.entry.Ltxid.{Ltxid}
use Rattle.svc_values.specs.declared.entry.SessionId.{SessionId}
use Rattle.svc_values.specs.declared.draw.Draw.{Draw}
use Rattle.svc_values.specs.declared.answer.Answer.{Answer}
use Rattle.svc_values.specs.declared.answer.Answer.TheVariants as answer
use Rattle.svc_values.specs.meaning.SettingsList.{NamedValues}
use Rattle.svc_values.specs.meaning.Texts.{is_name}
use Rattle.call_forms.specs.meaning.Values.{name_of, line_of, only_member, bytes_value, bytes_object, number_or_bytes, text_or_other, value_of}
use Rattle.answer_forms.specs.declared.answer.AnswerWord.{AnswerWord}
use Rattle.answer_forms.specs.declared.answer.AnswerWord.TheVariants as answerword
use Rattle.answer_forms.specs.declared.draw.DrawWord.{DrawWord}
use Rattle.answer_forms.specs.declared.draw.DrawWord.TheVariants as drawword
use Rattle.answer_forms.specs.meaning.Parts.{number_in, octets_in as sized_in, value_in, if_rising, identifier_in, session_in, setting_in, settings_in, row_in}
use Rattle.answer_forms.specs.meaning.Answers.{rows_in, refusal_of, answer_words, answer_of, answer_named, word_or_member, answer_in, answers_in}
use Rattle.answer_forms.specs.meaning.Draws.{draw_words, seq_in, clock_in, id_in, draw_by, draw_in, draws_in}
use Rattle.report_text.specs.meaning.Octets.{ValueOfBytes, SettingsOfBytes, AnswerOfBytes, DrawOfBytes}
use Rattle.report_limits.specs.meaning.Limits.{fits_u64, fits_line, fits_value, fits_row, fits_identifier, fits_session, fits_settings, fits_answer, fits_draw}
use Rattle.reading_laws.proofs.IfRead.{IfRead, if_kept, either_kept, then_kept, any_kept, within_kept, part_then_kept, rest_kept, list_kept, array_kept, apart, weaker}

abbrev pub NumberKept : ℕ → Type 0
NumberKept n = fits_u64 n ≡ true

limits_kept : (z : ℤ) → IfRead NumberKept (in_limits 0 (2 ^ 64 - 1) z)
limits_kept (pos n) =
    if_kept NumberKept (nat_le 0 n && nat_le n (2 ^ 64 - 1)) n (here Limit)
    (λ h. let below = leb-true n (2 ^ 64 - 1) (second_true (nat_le 0 n) _ h) in lt-ltb n (2 ^ 64) (omega (arith, below)))
limits_kept (negsuc n) = tt

pub number_kept : (d : Data) → IfRead NumberKept (number_in d)
unfolding whole_of
number_kept d = any_kept NumberKept (number_of d) (in_limits 0 (2 ^ 64 - 1)) limits_kept

abbrev pub IntegerKept : ℤ → Type 0
IntegerKept z = fits_i64 z ≡ true

pub integer_kept : (d : Data) → IfRead IntegerKept (integer_of d)
unfolding integer_of
integer_kept d = any_kept IntegerKept (number_of d) _ (λ z. if_kept IntegerKept (fits_i64 z) z (here Limit) (λ h. h))

abbrev pub NameKept : List ℕ → Type 0
NameKept name = is_name name ≡ true

pub name_kept : (d : Data) → IfRead NameKept (name_of d)
unfolding name_of
name_kept d = any_kept NameKept (text_of d) _ (λ name. if_kept NameKept (is_name name) name (here Limit) (λ h. h))

abbrev pub LineKept : List ℕ → Type 0
LineKept line = fits_line line ≡ true

pub line_kept : (d : Data) → IfRead LineKept (line_of d)
line_kept d = any_kept LineKept (text_of d) _ (λ line. if_kept LineKept (fits_line line) line (here Limit) (λ h. h))

-- ---- octets and values

decoded_kept : (s : List ℕ) (r : Result (List ℕ) FromHexError) → decode_of s ≡ r → IfRead IsBytes (octets_or_fault r)
decoded_kept s (Ok octets) is = (decode_of-ok s octets is).3
decoded_kept s (Err e) is = tt

octets_by_kept : (digits : Digits) (s : List ℕ) → IfRead IsBytes (octets_by digits s)
octets_by_kept case.Any s = decoded_kept s (decode_of s) refl
octets_by_kept case.Lower s = either_kept IsBytes (list_any is_capital s) (Err (here BadImage)) (octets_or_fault (decode_of s)) tt (decoded_kept s (decode_of s) refl)

pub octets_kept : (digits : Digits) (d : Data) → IfRead IsBytes (octets_of digits d)
octets_kept digits d = any_kept IsBytes (text_of d) (octets_by digits) (octets_by_kept digits)

abbrev pub SizedKept : ℕ → List ℕ → Type 0
SizedKept count octets = IsBytes octets × ((length octets == count) ≡ true)

pub sized_kept : (count : ℕ) (d : Data) → IfRead (SizedKept count) (sized_in count d)
sized_kept count d = then_kept IsBytes (SizedKept count) (octets_of case.Lower d) _ (octets_kept case.Lower d) (λ octets is. if_kept (SizedKept count) _ octets _ (λ h. (is, h)))

abbrev pub ValueKept : Value → Type 0
ValueKept x = ValueOfBytes x × (fits_value x ≡ true)

pub bytes_kept : (digits : Digits) (d : Data) → IfRead ValueKept (bytes_value digits d)
bytes_kept digits d = then_kept IsBytes ValueKept (octets_of digits d) _ (octets_kept digits d) (λ octets is. if_kept ValueKept _ (value.Bytes octets) _ (λ h. (is, h)))

object_kept : (digits : Digits) (d : Data) → IfRead ValueKept (bytes_object digits d)
unfolding bytes_object
object_kept digits d =
    any_kept ValueKept (object_with (codes "hex" ∷ []) d) _
    (λ ms. any_kept ValueKept (required (codes "hex") ms) _ (λ hex. within_kept ValueKept (escaped (codes "hex")) (bytes_value digits hex) (bytes_kept digits hex)))

number_or_kept : (digits : Digits) (d : Data) (o : Option Num) → IfRead ValueKept (number_or_bytes digits d o)
number_or_kept digits d None = object_kept digits d
number_or_kept digits d (Some n) = then_kept IntegerKept ValueKept (integer_of d) _ (integer_kept d) (λ z h. (tt, h))

text_or_kept : (digits : Digits) (d : Data) (o : Option (List ℕ)) → IfRead ValueKept (text_or_other digits d o)
text_or_kept digits d None = number_or_kept digits d (as_number d)
text_or_kept digits d (Some t) = then_kept LineKept ValueKept (line_of d) _ (line_kept d) (λ line h. (tt, h))

pub value_kept : (digits : Digits) (d : Data) → IfRead ValueKept (value_of digits d)
unfolding value_of
value_kept digits d = text_or_kept digits d (as_str d)

abbrev pub RowKept : List Value → Type 0
RowKept row = AllByRecursion ValueOfBytes row × (fits_row row ≡ true)

pub row_kept : (d : Data) → IfRead RowKept (row_in d)
row_kept d =
    weaker _ RowKept (row_in d)
    (λ row k. let a = apart ValueOfBytes fits_value row k.1 in (a.0, both_true _ _ (second_true (nat_le 0 (length row)) _ k.0) a.1))
    (array_kept ValueKept 0 8 value_in (value_kept case.Lower) d)

-- ---- settings and identifiers

abbrev SettingKept : List ℕ × Value → Type 0
SettingKept pair = ValueOfBytes pair.1 × ((is_name pair.0 && fits_value pair.1) ≡ true)

setting_kept : (before : NamedValues) (d : Data) → IfRead SettingKept (setting_in before d)
unfolding setting_in
setting_kept before d =
    any_kept SettingKept (fixed 2 d) _ (λ ds. part_then_kept NameKept SettingKept 0 name_of ds _ name_kept (λ name is. any_kept SettingKept (within_item 0 (if_rising before name)) _ (λ _. part_then_kept ValueKept SettingKept 1 value_in ds _ (value_kept case.Lower) (λ x k. (k.0, both_true _ _ is k.1)))))

abbrev pub SettingsKept : NamedValues → Type 0
SettingsKept settings = SettingsOfBytes settings × (fits_settings settings ≡ true)

pub settings_kept : (d : Data) → IfRead SettingsKept (settings_in d)
settings_kept d =
    any_kept SettingsKept (items_of d) _ (λ ds. weaker (AllByRecursion SettingKept) SettingsKept (each_after setting_in [] ds)
    (λ settings k. apart (λ (pair : List ℕ × Value). ValueOfBytes pair.1) (λ (pair : List ℕ × Value). is_name pair.0 && fits_value pair.1) settings k)
    (rest_kept SettingKept setting_in setting_kept [] ds tt))

abbrev pub IdentifierKept : Ltxid → Type 0
IdentifierKept x = fits_identifier x ≡ true

pub identifier_kept : (d : Data) → IfRead IdentifierKept (identifier_in d)
unfolding identifier_in
identifier_kept d =
    any_kept IdentifierKept (fixed 3 d) _ (λ ds. part_then_kept NumberKept IdentifierKept 0 number_in ds _ number_kept (λ a first.
    part_then_kept NumberKept IdentifierKept 1 number_in ds _ number_kept (λ b second. part_then_kept NumberKept IdentifierKept 2 number_in ds _ number_kept (λ c third. both_true _ _ first (both_true _ _ second third)))))

abbrev pub SessionKept : SessionId → Type 0
SessionKept s = fits_session s ≡ true

pub session_kept : (d : Data) → IfRead SessionKept (session_in d)
unfolding session_in
session_kept d =
    any_kept SessionKept (fixed 2 d) _ (λ ds. part_then_kept NumberKept SessionKept 0 number_in ds _ number_kept (λ a first.
    part_then_kept NumberKept SessionKept 1 number_in ds _ number_kept (λ b second. both_true _ _ first second)))

-- ---- answers and draws

abbrev pub AnswerKept : Answer → Type 0
AnswerKept x = AnswerOfBytes x × (fits_answer x ≡ true)

abbrev RowsKept : List (List Value) → Type 0
RowsKept rows = AnswerKept (answer.Rows rows)

rows_kept : (d : Data) → IfRead RowsKept (rows_in d)
rows_kept d =
    weaker _ RowsKept (rows_in d)
    (λ rows k. let a = apart (AllByRecursion ValueOfBytes) fits_row rows k.1 in (a.0, both_true _ _ (second_true (nat_le 0 (length rows)) _ k.0) a.1))
    (array_kept RowKept 0 32 row_in row_kept d)

named_kept : (name : List ℕ) (inner : Data) → IfRead AnswerKept (answer_named name inner)
named_kept name inner =
    either_kept AnswerKept (bytes_eq name (codes "done")) _ _
    (then_kept NumberKept AnswerKept (within name (number_in inner)) (λ n. Ok (answer.Done n)) (within_kept NumberKept _ _ (number_kept inner)) (λ n h. (tt, h)))
    (either_kept AnswerKept (bytes_eq name (codes "rows")) _ _
    (then_kept RowsKept AnswerKept (within name (rows_in inner)) (λ rows. Ok (answer.Rows rows)) (within_kept RowsKept _ _ (rows_kept inner)) (λ rows k. k))
    (either_kept AnswerKept (bytes_eq name (codes "number")) _ _
    (then_kept IntegerKept AnswerKept (within name (integer_of inner)) (λ n. Ok (answer.Number n)) (within_kept IntegerKept _ _ (integer_kept inner)) (λ n h. (tt, h)))
    (either_kept AnswerKept (bytes_eq name (codes "refused")) _ (Err (here Unknown))
    (any_kept AnswerKept (within name (whole_of 1 9 inner)) (λ n. Ok (answer.Refused (refusal_of n))) (λ n. (tt, refl))) tt)))

word_kept : (w : AnswerWord) → AnswerKept (answer_of w)
word_kept answerword.Committed = (tt, refl)
word_kept answerword.Conflict = (tt, refl)
word_kept answerword.RolledBack = (tt, refl)
word_kept answerword.CommitInReplay = (tt, refl)

word_or_kept : (d : Data) (o : Option (List ℕ)) → IfRead AnswerKept (word_or_member d o)
word_or_kept d None = any_kept AnswerKept (members_of d >>= only_member) (λ only. answer_named only.0 only.1) (λ only. named_kept only.0 only.1)
word_or_kept d (Some text) = any_kept AnswerKept (chosen answer_words text) (λ w. Ok (answer_of w)) word_kept

answer_kept : (d : Data) → IfRead AnswerKept (answer_in d)
unfolding answer_in
answer_kept d = word_or_kept d (as_str d)

abbrev pub AnswersKept : List Answer → Type 0
AnswersKept answers = AllByRecursion AnswerOfBytes answers × (list_all fits_answer answers ≡ true)

pub answers_kept : (d : Data) → IfRead AnswersKept (answers_in d)
answers_kept d = weaker _ AnswersKept (answers_in d) (apart AnswerOfBytes fits_answer) (list_kept AnswerKept answer_in answer_kept d)

abbrev pub DrawKept : Draw → Type 0
DrawKept x = DrawOfBytes x × (fits_draw x ≡ true)

draw_by_kept : (w : DrawWord) (d : Data) → IfRead DrawKept (draw_by w d)
unfolding seq_in clock_in id_in
draw_by_kept drawword.Seq d =
    any_kept DrawKept (fixed 3 d) _ (λ ds. part_then_kept NameKept DrawKept 1 name_of ds _ name_kept (λ name is. part_then_kept IntegerKept DrawKept 2 integer_of ds _ integer_kept (λ n h. (tt, both_true _ _ is h))))
draw_by_kept drawword.Clock d = any_kept DrawKept (fixed 2 d) _ (λ ds. part_then_kept NumberKept DrawKept 1 number_in ds _ number_kept (λ n h. (tt, h)))
draw_by_kept drawword.Id d = any_kept DrawKept (fixed 2 d) _ (λ ds. part_then_kept (SizedKept 16) DrawKept 1 (sized_in 16) ds _ (sized_kept 16) (λ octets k. k))

draw_kept : (d : Data) → IfRead DrawKept (draw_in d)
unfolding draw_in
draw_kept d = any_kept DrawKept (head_of draw_words d) _ (λ w. draw_by_kept w d)

abbrev pub DrawsKept : List Draw → Type 0
DrawsKept draws = AllByRecursion DrawOfBytes draws × (list_all fits_draw draws ≡ true)

pub draws_kept : (d : Data) → IfRead DrawsKept (draws_in d)
draws_kept d = weaker _ DrawsKept (draws_in d) (apart DrawOfBytes fits_draw) (list_kept DrawKept draw_in draw_kept d)
