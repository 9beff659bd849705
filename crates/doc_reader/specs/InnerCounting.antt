-- How the counts over a whole document are kept: never above their limits.
use Rattle.std.specs.Prelude.{ℕ, ◌-◌, List, [], ◌∷◌, ◌++◌, length, nat_le, nat_lt, Option, Some, None, Result, Ok, Err, ⊤, if◌then◌else◌}
use Rattle.json_form.specs.declared.fault.DocCode.TheVariants.{Limit}
use Rattle.json_form.specs.meaning.Faults.{Fault, ◌>>=◌, here}
use Rattle.svc_values.specs.meaning.Names.{is_name_of}
use Rattle.outage_schedule.specs.declared.document.Document.{Document}
use Rattle.doc_reader.specs.meaning.Counts.{has_few_names}

-- how many are left of so many, if as many are there
abbrev pub left_of : ℕ → ℕ → Option ℕ
left_of left count = if nat_le count left then Some (left - count) else None

-- the different names so far and this one, if that is no seventeenth
abbrev pub noted : List (List ℕ) → List ℕ → Result (List (List ℕ)) Fault
noted before name = if is_name_of before name then Ok before else
    (if nat_lt (length before) 16 then Ok (before ++ name ∷ []) else Err (here Limit))

-- the different names so far and these, one after the other
abbrev pub noted_all : List (List ℕ) → List (List ℕ) → Result (List (List ℕ)) Fault
noted_all before [] = Ok before
noted_all before (name ∷ names) = noted before name >>= λ more. noted_all more names

abbrev pub if_few_names : Document → Result ⊤ Fault
if_few_names document = if has_few_names document then Ok tt else Err (here Limit)
