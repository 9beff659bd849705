-- Calls.
use Rattle.std.specs.Prelude.{ℕ, suc, ◌==◌, List, [], ◌∷◌, ◌++◌, length, Result, Ok, Err, if◌then◌else◌}
use Rattle.svc_values.specs.meaning.Calls.{is_made}
use Rattle.svc_values.specs.declared.call.Call.{Call}
use Rattle.svc_values.specs.declared.call.Call.TheVariants as call
use Rattle.canon_bytes.specs.meaning.Numbers.{spell_bool, bool_at}
use Rattle.canon_bytes.specs.meaning.TextBytes.{spell_bytes, name_at, text_at}
use Rattle.canon_bytes.specs.meaning.Values.{spell_value, value_at}
use Rattle.canon_bytes.specs.meaning.StatementBytes.{spell_statements, statements_at}
use Rattle.canon_bytes.specs.meaning.Reading.{◌>>=◌}
use Rattle.canon_bytes.specs.declared.fault.Fault.{Fault}
use Rattle.canon_bytes.specs.declared.fault.Fault.TheVariants.{Short, BadTag, BadPart}

abbrev pub spell_call : Call → List ℕ
spell_call (call.Work statements commit) = 1 ∷ (spell_statements statements ++ spell_bool commit)
spell_call (call.Set name value) = 2 ∷ (spell_bytes name ++ spell_value value)
spell_call (call.Alter line) = 3 ∷ spell_bytes line
spell_call call.Disable = 4 ∷ []
spell_call call.Rollback = 5 ∷ []

-- behind the tag of a work call; one that is empty or too long is at fault from its tag on, once
-- all of it is read
unfoldable pub work_at : List ℕ → Result (Call × List ℕ) Fault
work_at bytes = do
  statements ← statements_at bytes
  commit ← bool_at statements.1
  if is_made (call.Work statements.0 commit.0) then Ok (call.Work statements.0 commit.0, commit.1)
      else Err (BadPart (suc (length bytes)))

-- behind the tag of a call that changes a setting
unfoldable pub set_at : List ℕ → Result (Call × List ℕ) Fault
set_at bytes = do
  name ← name_at bytes
  value ← value_at name.1
  Ok (call.Set name.0 value.0, value.1)

unfoldable pub call_at : List ℕ → Result (Call × List ℕ) Fault
call_at [] = Err Short
call_at (tag ∷ rest) =
    if tag == 1 then work_at rest
    else (if tag == 2 then set_at rest
    else (if tag == 3 then (text_at rest >>= λ line. Ok (call.Alter line.0, line.1))
    else (if tag == 4 then Ok (call.Disable, rest)
    else (if tag == 5 then Ok (call.Rollback, rest)
    else Err (BadTag (suc (length rest)))))))
