-- What was written is read again, whatever follows: kinds, values, draws and answers.
use Rattle.std.proofs.Common.{◌≡◌, ℕ, ltb, false, List, ◌++◌, length, Ok, refl, arith, append_assoc}
use Rattle.std.proofs.lemmas.Bool.{le-ltb}
use Rattle.std.proofs.lemmas.List.{take_at, drop_at, length-append}
use Rattle.svc_values.specs.declared.value.Value.{Value}
use Rattle.svc_values.specs.declared.value.Value.TheVariants.{Int, Text, Bytes}
use Rattle.svc_values.specs.declared.answer.StatementFault.{StatementFault}
use Rattle.svc_values.specs.declared.answer.StatementFault.TheVariants.{NoTable, NoColumn, KindDiffers, DuplicateKey, NoSequence, NoVar, TooManyRows, SumRange, KeyColumn}
use Rattle.svc_values.specs.declared.answer.Answer.{Answer}
use Rattle.svc_values.specs.declared.answer.Answer.TheVariants.{Done, Rows, Number, Committed, Conflict, RolledBack, CommitInReplay, Refused}
use Rattle.svc_values.specs.declared.value.Kind.{Kind}
use Rattle.svc_values.specs.declared.value.Kind.TheVariants as kind
use Rattle.svc_values.specs.declared.draw.DrawKind.{DrawKind}
use Rattle.svc_values.specs.declared.draw.DrawKind.TheVariants as draw_kind
use Rattle.svc_values.specs.declared.draw.Draw.{Draw}
use Rattle.svc_values.specs.declared.draw.Draw.TheVariants as draw
use Rattle.canon_bytes.specs.meaning.Values.{spell_value, spell_row, kind_at, value_at, row_at}
use Rattle.canon_bytes.specs.Values.{spell_kind, FitsKind, FitsValue, FitsRow}
use Rattle.canon_bytes.specs.meaning.Draws.{spell_draw_kind, spell_draw, draw_kind_at, seq_draw_at, id_draw_at, draw_at}
use Rattle.canon_bytes.specs.Draws.{FitsDrawKind, FitsDraw}
use Rattle.canon_bytes.specs.meaning.AnswerBytes.{spell_fault, spell_answer, fault_at, answer_at}
use Rattle.canon_bytes.specs.AnswerBytes.{FitsFault, FitsAnswer}
use Rattle.canon_bytes.specs.Again.{u64_again, i64_again, name_again, text_again, octets_again, list_again}

pub kind_again : (x : Kind) (rest : List ℕ) → FitsKind x
    → kind_at (spell_kind x ++ rest) ≡ Ok (x, rest)
unfolding kind_at
kind_again kind.Int rest fits = refl
kind_again kind.Text rest fits = refl
kind_again kind.Bytes rest fits = refl

pub value_again : (value : Value) (rest : List ℕ) → FitsValue value
    → value_at (spell_value value ++ rest) ≡ Ok (value, rest)
unfolding value_at
value_again (Int n) rest fits = rw (i64_again n rest fits) refl
value_again (Text text) rest fits = rw (text_again text rest fits) refl
value_again (Bytes bytes) rest fits = rw (octets_again bytes rest fits) refl

pub row_again : (row : List Value) (rest : List ℕ) → FitsRow row
    → row_at (spell_row row ++ rest) ≡ Ok (row, rest)
row_again row rest fits = list_again spell_value FitsValue value_at value_again 8 row rest fits

pub draw_kind_again : (x : DrawKind) (rest : List ℕ) → FitsDrawKind x
    → draw_kind_at (spell_draw_kind x ++ rest) ≡ Ok (x, rest)
unfolding draw_kind_at
draw_kind_again (draw_kind.Seq name) rest fits = rw (name_again name rest fits) refl
draw_kind_again draw_kind.Clock rest fits = refl
draw_kind_again draw_kind.Id rest fits = refl

id_draw_again : (id rest : List ℕ) → length id ≡ 16
    → id_draw_at (id ++ rest) ≡ Ok (draw.Id id, rest)
unfolding id_draw_at
id_draw_again id rest len =
    let long : ltb (length (id ++ rest)) 16 ≡ false =
    le-ltb _ _ (omega (arith, len, length-append id rest)) in
    rw (long, take_at id rest 16 len, drop_at id rest 16 len) refl

pub draw_again : (x : Draw) (rest : List ℕ) → FitsDraw x
    → draw_at (spell_draw x ++ rest) ≡ Ok (x, rest)
unfolding draw_at seq_draw_at
draw_again (draw.Seq name value) rest fits =
    simp append_assoc (rw (name_again name _ fits.0, i64_again value rest fits.1) refl)
draw_again (draw.Clock tick) rest fits = rw (u64_again tick rest fits) refl
draw_again (draw.Id id) rest fits = id_draw_again id rest fits

pub fault_again : (fault : StatementFault) (rest : List ℕ) → FitsFault fault
    → fault_at (spell_fault fault ++ rest) ≡ Ok (fault, rest)
unfolding fault_at
fault_again NoTable rest fits = refl
fault_again NoColumn rest fits = refl
fault_again KindDiffers rest fits = refl
fault_again DuplicateKey rest fits = refl
fault_again NoSequence rest fits = refl
fault_again NoVar rest fits = refl
fault_again TooManyRows rest fits = refl
fault_again SumRange rest fits = refl
fault_again KeyColumn rest fits = refl

pub answer_again : (answer : Answer) (rest : List ℕ) → FitsAnswer answer
    → answer_at (spell_answer answer ++ rest) ≡ Ok (answer, rest)
unfolding answer_at
answer_again (Done count) rest fits = rw (u64_again count rest fits) refl
answer_again (Rows rows) rest fits = rw (list_again spell_row FitsRow row_at row_again
    32 rows rest fits) refl
answer_again (Number n) rest fits = rw (i64_again n rest fits) refl
answer_again Committed rest fits = refl
answer_again Conflict rest fits = refl
answer_again RolledBack rest fits = refl
answer_again CommitInReplay rest fits = refl
answer_again (Refused fault) rest fits = rw (fault_again fault rest fits) refl
