-- Answers, and why a statement was refused.
use Rattle.std.specs.Prelude.{ℕ, suc, ◌==◌, List, [], ◌∷◌, length, Result, Ok, Err, if◌then◌else◌}
use Rattle.svc_values.specs.declared.value.Value.{Value}
use Rattle.svc_values.specs.declared.answer.StatementFault.{StatementFault}
use Rattle.svc_values.specs.declared.answer.StatementFault.TheVariants.{NoTable, NoColumn, KindDiffers, DuplicateKey, NoSequence, NoVar, TooManyRows, SumRange, KeyColumn}
use Rattle.svc_values.specs.declared.answer.Answer.{Answer}
use Rattle.svc_values.specs.declared.answer.Answer.TheVariants.{Done, Rows, Number, Committed, Conflict, RolledBack, CommitInReplay, Refused}
use Rattle.canon_bytes.specs.meaning.Numbers.{spell_u64, spell_i64, u64_at, i64_at}
use Rattle.canon_bytes.specs.meaning.Lists.{spell_list, list_at, listed_at}
use Rattle.canon_bytes.specs.meaning.Values.{spell_row, row_at}
use Rattle.canon_bytes.specs.meaning.Reading.{◌>>=◌}
use Rattle.canon_bytes.specs.declared.fault.Fault.{Fault}
use Rattle.canon_bytes.specs.declared.fault.Fault.TheVariants.{Short, BadTag}

-- a list of at most 32 rows
abbrev pub spell_rows : List (List Value) → List ℕ
spell_rows rows = spell_list spell_row rows

abbrev pub rows_at : List ℕ → Result (List (List Value) × List ℕ) Fault
rows_at bytes = list_at row_at 32 bytes

abbrev pub code_of : StatementFault → ℕ
code_of NoTable = 1
code_of NoColumn = 2
code_of KindDiffers = 3
code_of DuplicateKey = 4
code_of NoSequence = 5
code_of NoVar = 6
code_of TooManyRows = 7
code_of SumRange = 8
code_of KeyColumn = 9

-- the code as one byte
abbrev pub spell_fault : StatementFault → List ℕ
spell_fault fault = code_of fault ∷ []

unfoldable pub fault_at : List ℕ → Result (StatementFault × List ℕ) Fault
fault_at [] = Err Short
fault_at (code ∷ rest) =
    if code == 1 then Ok (NoTable, rest)
    else (if code == 2 then Ok (NoColumn, rest)
    else (if code == 3 then Ok (KindDiffers, rest)
    else (if code == 4 then Ok (DuplicateKey, rest)
    else (if code == 5 then Ok (NoSequence, rest)
    else (if code == 6 then Ok (NoVar, rest)
    else (if code == 7 then Ok (TooManyRows, rest)
    else (if code == 8 then Ok (SumRange, rest)
    else (if code == 9 then Ok (KeyColumn, rest)
    else Err (BadTag (suc (length rest)))))))))))

abbrev pub spell_answer : Answer → List ℕ
spell_answer (Done count) = 1 ∷ spell_u64 count
spell_answer (Rows rows) = 2 ∷ spell_rows rows
spell_answer (Number n) = 3 ∷ spell_i64 n
spell_answer Committed = 4 ∷ []
spell_answer Conflict = 5 ∷ []
spell_answer RolledBack = 6 ∷ []
spell_answer CommitInReplay = 7 ∷ []
spell_answer (Refused fault) = 8 ∷ spell_fault fault

unfoldable pub answer_at : List ℕ → Result (Answer × List ℕ) Fault
answer_at [] = Err Short
answer_at (tag ∷ rest) =
    if tag == 1 then (u64_at rest >>= λ count. Ok (Done count.0, count.1))
    else (if tag == 2 then (rows_at rest >>= λ rows. Ok (Rows rows.0, rows.1))
    else (if tag == 3 then (i64_at rest >>= λ n. Ok (Number n.0, n.1))
    else (if tag == 4 then Ok (Committed, rest)
    else (if tag == 5 then Ok (Conflict, rest)
    else (if tag == 6 then Ok (RolledBack, rest)
    else (if tag == 7 then Ok (CommitInReplay, rest)
    else (if tag == 8 then (fault_at rest >>= λ fault. Ok (Refused fault.0, fault.1))
    else Err (BadTag (suc (length rest))))))))))

abbrev pub spell_answers : List Answer → List ℕ
spell_answers answers = spell_list spell_answer answers

abbrev pub answers_at : List ℕ → Result (List Answer × List ℕ) Fault
answers_at bytes = listed_at answer_at bytes
