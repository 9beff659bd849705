-- What was written where an answer was made of what was read.
use Rattle.std.proofs.Common.{◌≡◌, ℕ, List, Result, Ok, Err, IfOk, IfErr, subst}
use Rattle.json_form.specs.declared.fault.DocFault.{DocFault}
use Rattle.json_form.specs.declared.fault.DocFault.TheVariants as fault
use Rattle.json_form.specs.Faults.{Gives}
use Rattle.outage_schedule.specs.declared.document.Document.{Document}
use Rattle.doc_reader.specs.meaning.Documents.{document_at}
use Rattle.program_ends.specs.declared.status.Status.{Status}
use Rattle.program_ends.specs.declared.status.Status.TheVariants as status
use Rattle.continuity_run.specs.InnerEnds.{ended_as}

-- an answer that was written is that of a document, which the bytes are
pub written : {V : Type 0} (bytes : List ℕ) (read : Result Document DocFault) (answer : Result V DocFault) (reports : Document → V → Type 0) (writes : V → Type 0)
    → Gives read (document_at bytes) → IfOk read (λ document. IfOk answer (λ text. reports document text)) → IfErr read (λ fault. answer ≡ Err fault)
    → IfOk answer (λ text. writes text) → IfErr answer (λ fault. ⊥)
    → (document : Document) × ((text : V) × ((document_at bytes ≡ Ok document) × (reports document text × writes text)))
written bytes (Ok document) (Ok text) reports writes gives reported refused wrote told = (document, (text, (gives, (reported, wrote))))
written bytes (Ok document) (Err e) reports writes gives reported refused wrote told = absurd told
written bytes (Err e) (Ok text) reports writes gives reported refused wrote told = absurd (let none : ⊥ = cc in none)
written bytes (Err e) (Err f) reports writes gives reported refused wrote told = absurd told

-- a fault ends no run with a text
pub not_done : {V : Type 0} (answer : Result V DocFault) (end : Status) → end ≡ status.Done → IfErr answer (λ fault. end ≡ ended_as fault) → IfErr answer (λ fault. ⊥)
not_done (Ok text) end done told = tt
not_done (Err fault.NoMemory) end done told = let none : ⊥ = cc in none
not_done (Err (fault.At code path)) end done told = let none : ⊥ = cc in none

pub not_cut : {V : Type 0} (answer : Result V DocFault) (end : Status) → end ≡ status.Write → IfErr answer (λ fault. end ≡ ended_as fault) → IfErr answer (λ fault. ⊥)
not_cut (Ok text) end cut told = tt
not_cut (Err fault.NoMemory) end cut told = let none : ⊥ = cc in none
not_cut (Err (fault.At code path)) end cut told = let none : ⊥ = cc in none

-- what the sink has of the text, by the end
pub by_end : {V : Type 0} (answer : Result V DocFault) (P : V → Status → Type 0) (end same : Status) → end ≡ same → IfOk answer (λ text. P text end) → IfOk answer (λ text. P text same)
by_end (Ok text) P end same e has = subst (P text) e has
by_end (Err f) P end same e has = tt
