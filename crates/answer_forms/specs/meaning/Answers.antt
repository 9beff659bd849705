-- Answers of calls.
use Rattle.std.specs.Prelude.{ℕ, ◌==◌, List, [], ◌∷◌, Option, Some, None, Result, Ok, Err, if◌then◌else◌, codes}
use Rattle.std.specs.Str.{bytes_eq}
use Rattle.serde_json.specs.Data.{Data}
use Rattle.serde_json.specs.Find.{as_str}
use Rattle.json_form.specs.declared.fault.DocCode.TheVariants.{Unknown}
use Rattle.json_form.specs.meaning.Faults.{Fault, ◌>>=◌, here, within}
use Rattle.json_form.specs.meaning.Values.{members_of, whole_of, integer_of}
use Rattle.json_form.specs.meaning.Texts.{chosen}
use Rattle.json_form.specs.meaning.Arrays.{each_of, array_of, list_of}
use Rattle.svc_values.specs.declared.value.Value.{Value}
use Rattle.svc_values.specs.declared.answer.Answer.{Answer}
use Rattle.svc_values.specs.declared.answer.Answer.TheVariants as answer
use Rattle.svc_values.specs.declared.answer.StatementFault.{StatementFault}
use Rattle.svc_values.specs.declared.answer.StatementFault.TheVariants as fault
use Rattle.call_forms.specs.meaning.Values.{only_member}
use Rattle.answer_forms.specs.declared.answer.AnswerWord.{AnswerWord}
use Rattle.answer_forms.specs.declared.answer.AnswerWord.TheVariants as word
use Rattle.answer_forms.specs.meaning.Parts.{number_in, row_in}

-- 0 to 32 rows
abbrev pub rows_in : Data → Result (List (List Value)) Fault
rows_in d = array_of 0 32 (each_of row_in) d

-- the refusal of a code from 1 to 9
abbrev pub refusal_of : ℕ → StatementFault
refusal_of n =
    if n == 1 then fault.NoTable else (
    if n == 2 then fault.NoColumn else (
    if n == 3 then fault.KindDiffers else (
    if n == 4 then fault.DuplicateKey else (
    if n == 5 then fault.NoSequence else (
    if n == 6 then fault.NoVar else (
    if n == 7 then fault.TooManyRows else (
    if n == 8 then fault.SumRange else fault.KeyColumn)))))))

abbrev pub answer_words : List (List ℕ × AnswerWord)
answer_words =
    (codes "committed", word.Committed) ∷ (codes "conflict", word.Conflict)
    ∷ (codes "rolledback", word.RolledBack) ∷ (codes "commitinreplay", word.CommitInReplay) ∷ []

-- what a word alone says
abbrev pub answer_of : AnswerWord → Answer
answer_of word.Committed = answer.Committed
answer_of word.Conflict = answer.Conflict
answer_of word.RolledBack = answer.RolledBack
answer_of word.CommitInReplay = answer.CommitInReplay

-- what the member of this name says
abbrev pub answer_named : List ℕ → Data → Result Answer Fault
answer_named name inner =
    if bytes_eq name (codes "done") then (within name (number_in inner) >>= λ n. Ok (answer.Done n))
    else (
    if bytes_eq name (codes "rows") then
    (within name (rows_in inner) >>= λ rows. Ok (answer.Rows rows)) else (
    if bytes_eq name (codes "number") then
    (within name (integer_of inner) >>= λ n. Ok (answer.Number n)) else (
    if bytes_eq name (codes "refused")
    then (within name (whole_of 1 9 inner) >>= λ n. Ok (answer.Refused (refusal_of n)))
    else Err (here Unknown))))

abbrev pub word_or_member : Data → Option (List ℕ) → Result Answer Fault
word_or_member d (Some text) = chosen answer_words text >>= λ w. Ok (answer_of w)
word_or_member d None = members_of d >>= only_member >>= λ only. answer_named only.0 only.1

-- a word, or an object with one member
unfoldable pub answer_in : Data → Result Answer Fault
answer_in d = word_or_member d (as_str d)

abbrev pub answers_in : Data → Result (List Answer) Fault
answers_in d = list_of (each_of answer_in) d
