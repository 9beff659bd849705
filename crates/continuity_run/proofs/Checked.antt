-- How a run ends by a verdict.
use Rattle.std.proofs.Common.{◌≡◌, ℕ, List, Option, Result, Ok, Err, IfOk, IfErr, subst, sym}
use Rattle.std.specs.Io.KnownBytes.{Appends}
use Rattle.json_form.specs.declared.fault.DocCode.{DocCode}
use Rattle.json_form.specs.declared.fault.DocFault.{DocFault}
use Rattle.json_form.specs.declared.fault.DocFault.TheVariants as fault
use Rattle.json_form.specs.Faults.{Fails}
use Rattle.outage_schedule.specs.declared.document.Document.{Document}
use Rattle.outage_schedule.specs.declared.report.Report.{Report}
use Rattle.program_ends.specs.declared.clause.Clause.{Clause}
use Rattle.report_check.specs.declared.verdict.Verdict.{Verdict}
use Rattle.report_check.specs.declared.verdict.Verdict.TheVariants as verdict
use Rattle.report_check.specs.Judged.{IsJudged}
use Rattle.report_check.specs.meaning.Pairs.{pair_at}
use Rattle.program_ends.specs.declared.status.Status.{Status}
use Rattle.program_ends.specs.declared.status.Status.TheVariants as status
use Rattle.byte_streams.specs.Causes.{AppendsFront, Rose}
use Rattle.continuity_run.specs.Checking.{IsVerdict, IsToldAs, IsJudgement}
use Rattle.continuity_run.specs.Clauses.{IfDocument, IfNo}
use Rattle.continuity_run.specs.meaning.Check.{IsRight, IsWrong, right_text}

-- a verdict on a pair is one on the bytes that it was read of
pub judged : (bytes : List ℕ) (document : Document) (report : Report) (one : Verdict) → pair_at bytes ≡ Ok (document, report)
    → IsJudged document report one → IsVerdict bytes one
judged bytes document report verdict.Yes accepted right = record { document = document; report = report; accepted = accepted; right = right }
judged bytes document report (verdict.No one path) accepted first = record { document = document; report = report; accepted = accepted; first = first }

-- each end that a verdict leads to
pub by_verdict : (P : Status → Type 0) (bytes : List ℕ) (read : Result Verdict DocFault) (end : Status) (held_before held_after : Option (List ℕ)) (before now : ℕ)
    → (IsRight bytes → Appends held_before held_after right_text → P status.Done)
    → (IsRight bytes → AppendsFront held_before held_after right_text → Rose before now → P status.Write)
    → P status.NoMemory
    → ((code : DocCode) (path : List ℕ) → pair_at bytes ≡ Err (record { code = code; path = path }) → P (status.Document code path))
    → ((one : Clause) (path : List ℕ) → IsWrong bytes one path → P (status.No one path))
    → IfOk read (IsVerdict bytes) → IfErr read (λ e. Fails e (pair_at bytes)) → IsToldAs read end held_before held_after before now → P end
by_verdict P bytes (Ok verdict.Yes) status.Done held_before held_after before now done cut lacked refused denied says fails told = done says told
by_verdict P bytes (Ok verdict.Yes) status.Write held_before held_after before now done cut lacked refused denied says fails told = cut says told.0 told.1
by_verdict P bytes (Ok verdict.Yes) status.NoMemory held_before held_after before now done cut lacked refused denied says fails told = absurd told
by_verdict P bytes (Ok verdict.Yes) status.Words held_before held_after before now done cut lacked refused denied says fails told = absurd told
by_verdict P bytes (Ok verdict.Yes) status.Read held_before held_after before now done cut lacked refused denied says fails told = absurd told
by_verdict P bytes (Ok verdict.Yes) (status.Document code path) held_before held_after before now done cut lacked refused denied says fails told = absurd told
by_verdict P bytes (Ok verdict.Yes) (status.No one path) held_before held_after before now done cut lacked refused denied says fails told = absurd told
by_verdict P bytes (Ok (verdict.No one path)) end held_before held_after before now done cut lacked refused denied says fails told = subst P (sym told) (denied one path says)
by_verdict P bytes (Err fault.NoMemory) end held_before held_after before now done cut lacked refused denied says fails told = subst P (sym told) lacked
by_verdict P bytes (Err (fault.At code path)) end held_before held_after before now done cut lacked refused denied says fails told = subst P (sym told) (refused code path fails)

-- ---- what each end says

-- a run that is done wrote what a right report is told by
pub right_done : (bytes : List ℕ) (read : Result Verdict DocFault) (end : Status) (held_before held_after : Option (List ℕ)) (before now : ℕ)
    → IfOk read (IsVerdict bytes) → IfErr read (λ e. Fails e (pair_at bytes)) → IsToldAs read end held_before held_after before now
    → end ≡ status.Done → IsRight bytes × Appends held_before held_after right_text
right_done bytes read end held_before held_after before now says fails told =
    by_verdict (λ at. at ≡ status.Done → IsRight bytes × Appends held_before held_after right_text) bytes read end held_before held_after before now
    (λ right wrote is. (right, wrote))
    (λ right front rose is. absurd (let none : ⊥ = cc in none))
    (λ is. absurd (let none : ⊥ = cc in none))
    (λ code path refused is. absurd (let none : ⊥ = cc in none))
    (λ one path wrong is. absurd (let none : ⊥ = cc in none))
    says fails told

-- one that was cut wrote a front of it
pub right_cut : (bytes : List ℕ) (read : Result Verdict DocFault) (end : Status) (held_before held_after : Option (List ℕ)) (before now : ℕ)
    → IfOk read (IsVerdict bytes) → IfErr read (λ e. Fails e (pair_at bytes)) → IsToldAs read end held_before held_after before now
    → end ≡ status.Write → IsRight bytes × AppendsFront held_before held_after right_text
right_cut bytes read end held_before held_after before now says fails told =
    by_verdict (λ at. at ≡ status.Write → IsRight bytes × AppendsFront held_before held_after right_text) bytes read end held_before held_after before now
    (λ right wrote is. absurd (let none : ⊥ = cc in none))
    (λ right front rose is. (right, front))
    (λ is. absurd (let none : ⊥ = cc in none))
    (λ code path refused is. absurd (let none : ⊥ = cc in none))
    (λ one path wrong is. absurd (let none : ⊥ = cc in none))
    says fails told

-- and met a fault
pub raised : (bytes : List ℕ) (read : Result Verdict DocFault) (end : Status) (held_before held_after : Option (List ℕ)) (before now : ℕ)
    → IfOk read (IsVerdict bytes) → IfErr read (λ e. Fails e (pair_at bytes)) → IsToldAs read end held_before held_after before now
    → end ≡ status.Write → Rose before now
raised bytes read end held_before held_after before now says fails told =
    by_verdict (λ at. at ≡ status.Write → Rose before now) bytes read end held_before held_after before now
    (λ right wrote is. absurd (let none : ⊥ = cc in none))
    (λ right front rose is. rose)
    (λ is. absurd (let none : ⊥ = cc in none))
    (λ code path refused is. absurd (let none : ⊥ = cc in none))
    (λ one path wrong is. absurd (let none : ⊥ = cc in none))
    says fails told

-- a fault is that of the bytes
pub refused_so : (bytes : List ℕ) (read : Result Verdict DocFault) (end : Status) (held_before held_after : Option (List ℕ)) (before now : ℕ)
    → IfOk read (IsVerdict bytes) → IfErr read (λ e. Fails e (pair_at bytes)) → IsToldAs read end held_before held_after before now
    → IfDocument end (λ f. pair_at bytes ≡ Err f)
refused_so bytes read end held_before held_after before now says fails told =
    by_verdict (λ at. IfDocument at (λ f. pair_at bytes ≡ Err f)) bytes read end held_before held_after before now
    (λ right wrote. tt)
    (λ right front rose. tt)
    (tt)
    (λ code path refused. refused)
    (λ one path wrong. tt)
    says fails told

-- a report that is denied is wrong
pub denied_so : (bytes : List ℕ) (read : Result Verdict DocFault) (end : Status) (held_before held_after : Option (List ℕ)) (before now : ℕ)
    → IfOk read (IsVerdict bytes) → IfErr read (λ e. Fails e (pair_at bytes)) → IsToldAs read end held_before held_after before now
    → IfNo end (IsWrong bytes)
denied_so bytes read end held_before held_after before now says fails told =
    by_verdict (λ at. IfNo at (IsWrong bytes)) bytes read end held_before held_after before now
    (λ right wrote. tt)
    (λ right front rose. tt)
    (tt)
    (λ code path refused. tt)
    (λ one path wrong. wrong)
    says fails told

-- there is no other end
pub replied : (bytes : List ℕ) (read : Result Verdict DocFault) (end : Status) (held_before held_after : Option (List ℕ)) (before now : ℕ)
    → IfOk read (IsVerdict bytes) → IfErr read (λ e. Fails e (pair_at bytes)) → IsToldAs read end held_before held_after before now
    → IsJudgement end
replied bytes read end held_before held_after before now says fails told =
    by_verdict (λ at. IsJudgement at) bytes read end held_before held_after before now
    (λ right wrote. tt)
    (λ right front rose. tt)
    (tt)
    (λ code path refused. tt)
    (λ one path wrong. tt)
    says fails told
