-- What a verdict says of bytes, and how a run ends by it.
use Rattle.std.specs.Prelude.{◌≡◌, ℕ, List, Option, Result, Ok, Err}
use Rattle.json_form.specs.declared.fault.DocFault.{DocFault}
use Rattle.report_check.specs.declared.verdict.Verdict.{Verdict}
use Rattle.report_check.specs.declared.verdict.Verdict.TheVariants as verdict
use Rattle.program_ends.specs.declared.status.Status.{Status}
use Rattle.program_ends.specs.declared.status.Status.TheVariants as status
use Rattle.continuity_run.specs.meaning.Check.{IsRight, IsWrong, right_text}
use Rattle.continuity_run.specs.InnerEnds.{ended_as, IsWritten}

abbrev pub IsVerdict : List ℕ → Verdict → Type 0
IsVerdict bytes verdict.Yes = IsRight bytes
IsVerdict bytes (verdict.No one path) = IsWrong bytes one path

-- where each clause holds, that is written; else nothing is
abbrev pub IsToldAs : Result Verdict DocFault → Status → Option (List ℕ) → Option (List ℕ) → ℕ → ℕ
    → Type 0
IsToldAs (Ok verdict.Yes) end held_before held_after before now =
    IsWritten right_text end held_before held_after before now
IsToldAs (Ok (verdict.No one path)) end held_before held_after before now = end ≡ status.No one path
IsToldAs (Err fault) end held_before held_after before now = end ≡ ended_as fault

-- neither the words nor the source were at fault
abbrev pub IsJudgement : Status → Type 0
IsJudgement status.Words = ⊥
IsJudgement status.Read = ⊥
IsJudgement _ = Unit {0}
