-- Notes are read back from what is written of them.
use Rattle.std.proofs.Common.{◌≡◌, ℕ, true, false, List, refl, ap, ◌∙◌, codes}
use Rattle.std.specs.Prelude.{Option, Some, None, not, if◌then◌else◌}
use Rattle.std.specs.List.{AllByRecursion}
use Rattle.std.specs.Str.{bytes_eq}
use Rattle.serde_json.specs.Data.{Data}
use Rattle.json_form.specs.meaning.Writing.{list_by}
use Rattle.outage_schedule.specs.declared.note.GoNote.{GoNote}
use Rattle.outage_schedule.specs.declared.note.GoNote.TheVariants as did
use Rattle.outage_schedule.specs.declared.note.FrameName.{FrameName}
use Rattle.outage_schedule.specs.declared.note.FrameName.TheVariants as frame
use Rattle.outage_schedule.specs.declared.note.Reached.{Reached}
use Rattle.outage_schedule.specs.declared.note.AskResult.{AskResult}
use Rattle.outage_schedule.specs.declared.note.AskResult.TheVariants as told
use Rattle.outage_schedule.specs.declared.note.NoteRun.{NoteRun}
use Rattle.outage_schedule.specs.declared.note.OutsideNote.{OutsideNote}
use Rattle.outage_schedule.specs.declared.note.Note.{Note}
use Rattle.outage_schedule.specs.declared.note.Note.TheVariants as note
use Rattle.report_text.specs.meaning.Notes.{did_values, served_word, told_values, asked_values, run_value, note_value}
use Rattle.report_text.specs.meaning.Octets.{RunOfBytes, NoteOfBytes}
use Rattle.report_text.proofs.Places.{nat_in, text_in, is_text, flag_in, items, part, behind, list_in, listed_back, list_back}
use Rattle.report_text.proofs.ValuesBack.{identifier_in, answers_in, answers_back, draws_in, draws_back}

-- what a client's step did, of its word, the connection and how many were sent
abbrev did_of : List ℕ → ℕ → ℕ → GoNote
did_of word k sent =
    if bytes_eq word (codes "idle") then did.Idle
    else if bytes_eq word (codes "wait") then did.Wait
    else if bytes_eq word (codes "none") then did.NoFrame
    else if bytes_eq word (codes "early") then did.Early
    else if bytes_eq word (codes "down") then did.Down
    else if bytes_eq word (codes "open") then did.Open k
    else if bytes_eq word (codes "lent") then did.Lent k
    else if bytes_eq word (codes "took") then did.Took k sent
    else did.Lost k

abbrev did_in : List Data → GoNote
did_in ds = did_of (text_in (part 0 ds)) (nat_in (part 1 ds)) (nat_in (part 2 ds))

did_back : (step : GoNote) → did_in (did_values step) ≡ step
did_back did.Idle = refl
did_back did.Wait = refl
did_back did.NoFrame = refl
did_back did.Early = refl
did_back did.Down = refl
did_back (did.Open k) = refl
did_back (did.Lent k) = refl
did_back (did.Took k sent) = refl
did_back (did.Lost k) = refl

abbrev frame_of : List ℕ → Option FrameName
frame_of word =
    if bytes_eq word (codes "connect") then Some frame.Connect
    else if bytes_eq word (codes "begin") then Some frame.Begin
    else if bytes_eq word (codes "call") then Some frame.Call
    else if bytes_eq word (codes "outcome") then Some frame.Outcome
    else if bytes_eq word (codes "end") then Some frame.End
    else if bytes_eq word (codes "close") then Some frame.Close
    else None

frame_back : (name : Option FrameName) → frame_of (served_word name) ≡ name
frame_back None = refl
frame_back (Some frame.Connect) = refl
frame_back (Some frame.Begin) = refl
frame_back (Some frame.Call) = refl
frame_back (Some frame.Outcome) = refl
frame_back (Some frame.End) = refl
frame_back (Some frame.Close) = refl

-- what an outcome is told to be, of its word and what follows
abbrev told_of : List ℕ → Data → AskResult
told_of word d =
    if bytes_eq word (codes "committed") then told.Committed (flag_in d)
    else if bytes_eq word (codes "uncommitted") then told.Uncommitted
    else if bytes_eq word (codes "serverahead") then told.ServerAhead (nat_in d)
    else if bytes_eq word (codes "clientahead") then told.ClientAhead (nat_in d)
    else told.Forgotten (nat_in d)

abbrev pub told_in : List Data → AskResult
told_in ds = told_of (text_in (part 0 ds)) (part 1 ds)

abbrev asked_in : List Data → Option AskResult
asked_in ds = if is_text (codes "down") (part 0 ds) then None else Some (told_in ds)

pub told_back : (result : AskResult) → told_in (told_values result) ≡ result
told_back (told.Committed completed) = refl
told_back told.Uncommitted = refl
told_back (told.ServerAhead next) = refl
told_back (told.ClientAhead next) = refl
told_back (told.Forgotten horizon) = refl

asked_back : (result : Option AskResult) → asked_in (asked_values result) ≡ result
asked_back None = refl
asked_back (Some (told.Committed completed)) = refl
asked_back (Some told.Uncommitted) = refl
asked_back (Some (told.ServerAhead next)) = refl
asked_back (Some (told.ClientAhead next)) = refl
asked_back (Some (told.Forgotten horizon)) = refl

abbrev run_in : Data → NoteRun
run_in d = record { answers = answers_in (part 0 (items d)); draws = draws_in (part 1 (items d)) }

run_back : (x : NoteRun) → RunOfBytes x → run_in (run_value x) ≡ x
unfolding run_value
run_back x ok = rw (answers_back x.answers ok.0, draws_back x.draws ok.1) refl

runs_back : (xs : List NoteRun) → AllByRecursion RunOfBytes xs → list_in run_in (list_by run_value xs) ≡ xs
runs_back xs all = list_back RunOfBytes run_in run_value run_back xs all

abbrev outside_in : List Data → Option OutsideNote
outside_in ds =
    if is_text (codes "down") (part 0 ds) then None
    else Some (record { ltxid = identifier_in (part 0 ds); runs = list_in run_in (part 1 ds) })

abbrev reached_in : List Data → Option Reached
reached_in ds =
    if is_text (codes "none") (part 0 ds) then None
    else Some (record { up = nat_in (part 0 ds); down = nat_in (part 1 ds) })

abbrev opened_in : Data → Option ℕ
opened_in d = if is_text (codes "none") d then None else Some (nat_in d)

-- a note, of its word and of what follows it
abbrev note_of : List ℕ → List Data → Note
note_of word ds =
    if bytes_eq word (codes "go") then note.Go (nat_in (part 0 ds)) (did_in (behind ds))
    else if bytes_eq word (codes "serve") then note.Serve (nat_in (part 0 ds)) (frame_of (text_in (part 1 ds)))
    else if bytes_eq word (codes "cut") then note.Cut (nat_in (part 0 ds)) (reached_in (behind ds))
    else if bytes_eq word (codes "reap") then note.Reap (nat_in (part 0 ds)) (not (is_text (codes "none") (part 1 ds)))
    else if bytes_eq word (codes "crash") then note.Crash (nat_in (part 0 ds)) (is_text (codes "down") (part 1 ds))
    else if bytes_eq word (codes "up") then note.Up (opened_in (part 0 ds))
    else if bytes_eq word (codes "upcrash") then note.UpCrash (not (is_text (codes "none") (part 0 ds)))
    else if bytes_eq word (codes "tick") then note.Tick
    else if bytes_eq word (codes "outside") then note.Outside (outside_in ds)
    else if bytes_eq word (codes "ask") then note.Ask (identifier_in (part 0 ds)) (asked_in (behind ds))
    else note.Drain (nat_in (part 0 ds))

abbrev pub note_in : Data → Note
note_in d = note_of (text_in (part 0 (items d))) (behind (items d))

pub note_back : (x : Note) → NoteOfBytes x → note_in (note_value x) ≡ x
unfolding note_value
note_back (note.Go client step) ok = ap (λ ds. note.Go client (did_in ds)) (listed_back (did_values step)) ∙ ap (note.Go client) (did_back step)
note_back (note.Serve k name) ok = ap (note.Serve k) (frame_back name)
note_back (note.Cut k None) ok = refl
note_back (note.Cut k (Some bytes)) ok = refl
note_back (note.Reap k true) ok = refl
note_back (note.Reap k false) ok = refl
note_back (note.Crash k true) ok = refl
note_back (note.Crash k false) ok = refl
note_back (note.Up None) ok = refl
note_back (note.Up (Some incarnation)) ok = refl
note_back (note.UpCrash true) ok = refl
note_back (note.UpCrash false) ok = refl
note_back note.Tick ok = refl
note_back (note.Outside None) ok = refl
note_back (note.Outside (Some ran)) ok = ap (λ runs. note.Outside (Some (record { ltxid = ran.ltxid; runs = runs }))) (runs_back ran.runs ok)
note_back (note.Ask x result) ok = ap (λ ds. note.Ask x (asked_in ds)) (listed_back (asked_values result)) ∙ ap (note.Ask x) (asked_back result)
note_back (note.Drain closed) ok = refl
