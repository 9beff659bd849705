-- What the top call promises.
-- Here is what contracts and proofs say of it besides.
use Rattle.std.specs.Prelude.{◌≡◌, ℕ, List, Option, Result, Err}
use Rattle.std.specs.Io.KnownBytes.{Appends}
use Rattle.json_form.specs.meaning.Faults.{Fault}
use Rattle.program_ends.specs.declared.clause.Clause.{Clause}
use Rattle.report_check.specs.meaning.Pairs.{check_limit, pair_at}
use Rattle.continuity_run.specs.declared.answer.Telling.{Telling}
use Rattle.continuity_run.specs.declared.answer.Telling.TheVariants as telling
use Rattle.command_words.specs.declared.command.Command.{Command}
use Rattle.command_words.specs.declared.command.Command.TheVariants as command
use Rattle.program_ends.specs.declared.status.Status.{Status}
use Rattle.program_ends.specs.declared.status.Status.TheVariants as status
use Rattle.byte_streams.specs.Causes.{AppendsFront}
use Rattle.doc_reader.specs.meaning.Documents.{document_at, limit}
use Rattle.continuity_run.specs.meaning.Check.{IsRight, right_text}
use Rattle.continuity_run.specs.meaning.Clauses.{IsAnswer, IsRead}
use Rattle.continuity_run.specs.meaning.Load.{IsLoaded}

-- what was read is a document, and the sink took a front of the text that is told of it
pub record IsAnsweredInPart (one : Telling)
    (left_before left_after held_before held_after : Option (List ℕ)) : Type 0 where
  pub bytes : List ℕ
  pub text : List ℕ
  pub read : IsRead limit document_at left_before left_after bytes
  pub answer : IsAnswer one bytes text
  pub wrote : AppendsFront held_before held_after text

-- what was read is a document and a report of it, of which each clause holds, and the sink took a
-- front of `yes` and a line feed
pub record IsCheckedInPart (left_before left_after held_before held_after : Option (List ℕ))
    : Type 0 where
  pub bytes : List ℕ
  pub read : IsRead check_limit pair_at left_before left_after bytes
  pub right : IsRight bytes
  pub wrote : AppendsFront held_before held_after right_text

-- the sink took a front of the line of a load
pub record LoadIsCut (seed clients requests : ℕ)
    (held_before held_after : Option (List ℕ)) : Type 0 where
  pub text : List ℕ
  pub loaded : IsLoaded seed clients requests text
  pub wrote : AppendsFront held_before held_after text

abbrev pub IsCut : Command → Option (List ℕ) → Option (List ℕ) → Option (List ℕ) → Option (List ℕ)
    → Type 0
IsCut command.Run left_before left_after held_before held_after =
    IsAnsweredInPart telling.Report left_before left_after held_before held_after
IsCut command.Cover left_before left_after held_before held_after =
    IsAnsweredInPart telling.Cover left_before left_after held_before held_after
IsCut command.Check left_before left_after held_before held_after =
    IsCheckedInPart left_before left_after held_before held_after
IsCut (command.Load seed clients requests) left_before left_after held_before held_after =
    LoadIsCut seed clients requests held_before held_after

-- what was read is refused, and this is why
pub record HasFault {A : Type 0} (most : ℕ) (reads : List ℕ → Result A Fault)
    (left_before left_after : Option (List ℕ)) (fault : Fault) : Type 0 where
  pub bytes : List ℕ
  pub read : IsRead most reads left_before left_after bytes
  pub refused : reads bytes ≡ Err fault

-- what a command read is no document, and for `check` no document with a report of it; a load reads
-- nothing
abbrev pub IsRefused : Command → Option (List ℕ) → Option (List ℕ) → Fault → Type 0
IsRefused command.Run left_before left_after fault =
    HasFault limit document_at left_before left_after fault
IsRefused command.Cover left_before left_after fault =
    HasFault limit document_at left_before left_after fault
IsRefused command.Check left_before left_after fault =
    HasFault check_limit pair_at left_before left_after fault
IsRefused (command.Load seed clients requests) left_before left_after fault = ⊥

abbrev pub Writes : Telling → List ℕ → Option (List ℕ) → Option (List ℕ) → Type 0
Writes one bytes held_before held_after =
    (text : List ℕ) × (IsAnswer one bytes text × Appends held_before held_after text)

abbrev pub WritesFront : Telling → List ℕ → Option (List ℕ) → Option (List ℕ) → Type 0
WritesFront one bytes held_before held_after =
    (text : List ℕ) × (IsAnswer one bytes text × AppendsFront held_before held_after text)

-- a fact on the fault, where there is one
abbrev pub IfDocument : Status → (Fault → Type 0) → Type 0
IfDocument (status.Document code path) P = P (record { code = code; path = path })
IfDocument _ P = Unit {0}

-- a fact on the clause that is false and its place, where one is told
abbrev pub IfNo : Status → (Clause → List ℕ → Type 0) → Type 0
IfNo (status.No one path) P = P one path
IfNo _ P = Unit {0}

-- the run ended before anything was written
abbrev pub IsBefore : Status → Type 0
IsBefore status.Done = ⊥
IsBefore status.Write = ⊥
IsBefore _ = Unit {0}

-- of each end but that of a source that failed
abbrev pub UnlessRead : Status → Type 0 → Type 0
UnlessRead status.Read Holds = Unit {0}
UnlessRead _ Holds = Holds

-- neither the words nor the source were at fault, and no report is judged
abbrev pub IsReply : Status → Type 0
IsReply status.Words = ⊥
IsReply status.Read = ⊥
IsReply (status.No one path) = ⊥
IsReply _ = Unit {0}

-- nothing but the sink may be at fault: neither the words, nor the source, nor a document or its
-- report
abbrev pub EndsAtSink : Status → Type 0
EndsAtSink status.Done = Unit {0}
EndsAtSink status.NoMemory = Unit {0}
EndsAtSink status.Write = Unit {0}
EndsAtSink _ = ⊥
