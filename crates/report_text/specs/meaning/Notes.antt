-- Notes: what each event did.
use Rattle.std.specs.Prelude.{ℕ, List, [], ◌∷◌, Bool, not, Option, Some, None, codes, if◌then◌else◌}
use Rattle.serde_json.specs.Data.{Data}
use Rattle.json_form.specs.meaning.Writing.{text, whole, flag, list, list_by}
use Rattle.outage_schedule.specs.declared.note.GoNote.{GoNote}
use Rattle.outage_schedule.specs.declared.note.GoNote.TheVariants as did
use Rattle.outage_schedule.specs.declared.note.FrameName.{FrameName}
use Rattle.outage_schedule.specs.declared.note.FrameName.TheVariants as frame
use Rattle.outage_schedule.specs.declared.note.Reached.{Reached}
use Rattle.outage_schedule.specs.declared.note.AskResult.{AskResult}
use Rattle.outage_schedule.specs.declared.note.AskResult.TheVariants as told
use Rattle.outage_schedule.specs.declared.note.NoteRun.{NoteRun}
use Rattle.outage_schedule.specs.declared.note.OutsideNote.{OutsideNote}
use Rattle.outage_schedule.specs.declared.note.Note.{Note}
use Rattle.outage_schedule.specs.declared.note.Note.TheVariants as note
use Rattle.report_text.specs.meaning.Parts.{headed, lone}
use Rattle.report_text.specs.meaning.Values.{identifier_value}
use Rattle.report_text.specs.meaning.Answers.{answers_value, draws_value}

-- What a client's step did: a word, then for a connection its number, and for a frame taken how
-- many were sent. One frame was sent on a connection that was opened, and two on one that was lent.
abbrev pub did_values : GoNote → List Data
did_values did.Idle = text (codes "idle") ∷ []
did_values did.Wait = text (codes "wait") ∷ []
did_values did.NoFrame = text (codes "none") ∷ []
did_values did.Early = text (codes "early") ∷ []
did_values did.Down = text (codes "down") ∷ []
did_values (did.Open k) = text (codes "open") ∷ whole k ∷ whole 1 ∷ []
did_values (did.Lent k) = text (codes "lent") ∷ whole k ∷ whole 2 ∷ []
did_values (did.Took k sent) = text (codes "took") ∷ whole k ∷ whole sent ∷ []
did_values (did.Lost k) = text (codes "lost") ∷ whole k ∷ []

abbrev pub frame_word : FrameName → List ℕ
frame_word frame.Connect = codes "connect"
frame_word frame.Begin = codes "begin"
frame_word frame.Call = codes "call"
frame_word frame.Outcome = codes "outcome"
frame_word frame.End = codes "end"
frame_word frame.Close = codes "close"

abbrev pub served_word : Option FrameName → List ℕ
served_word None = codes "none"
served_word (Some name) = frame_word name

abbrev pub reached_values : Option Reached → List Data
reached_values None = text (codes "none") ∷ []
reached_values (Some bytes) = whole bytes.up ∷ whole bytes.down ∷ []

-- what an outcome is told to be, where one is told
abbrev pub told_values : AskResult → List Data
told_values (told.Committed completed) = text (codes "committed") ∷ flag completed ∷ []
told_values told.Uncommitted = text (codes "uncommitted") ∷ []
told_values (told.ServerAhead next) = text (codes "serverahead") ∷ whole next ∷ []
told_values (told.ClientAhead next) = text (codes "clientahead") ∷ whole next ∷ []
told_values (told.Forgotten horizon) = text (codes "forgotten") ∷ whole horizon ∷ []

abbrev pub asked_values : Option AskResult → List Data
asked_values None = text (codes "down") ∷ []
asked_values (Some result) = told_values result

-- [answers,draws]
unfoldable pub run_value : NoteRun → Data
run_value run = list (answers_value run.answers ∷ draws_value run.draws ∷ [])

abbrev pub outside_value : Option OutsideNote → Data
outside_value None = headed (codes "outside") (text (codes "down") ∷ [])
outside_value (Some ran) = headed (codes "outside") (identifier_value ran.ltxid
    ∷ list_by run_value ran.runs ∷ [])

-- the word, where this holds
abbrev pub word_if : Bool → List ℕ → List Data
word_if holds word = if holds then text word ∷ [] else []

abbrev pub opened_value : Option ℕ → Data
opened_value None = text (codes "none")
opened_value (Some incarnation) = whole incarnation

unfoldable pub note_value : Note → Data
note_value (note.Go client step) = headed (codes "go") (whole client ∷ did_values step)
note_value (note.Serve k name) = headed (codes "serve") (whole k ∷ text (served_word name) ∷ [])
note_value (note.Cut k bytes) = headed (codes "cut") (whole k ∷ reached_values bytes)
note_value (note.Reap k reaped) = headed (codes "reap")
    (whole k ∷ word_if (not reaped) (codes "none"))
note_value (note.Crash k down) = headed (codes "crash") (whole k ∷ word_if down (codes "down"))
note_value (note.Up incarnation) = headed (codes "up") (opened_value incarnation ∷ [])
note_value (note.UpCrash made) = headed (codes "upcrash") (word_if (not made) (codes "none"))
note_value note.Tick = lone (codes "tick")
note_value (note.Outside ran) = outside_value ran
note_value (note.Ask x result) = headed (codes "ask") (identifier_value x ∷ asked_values result)
note_value (note.Drain closed) = headed (codes "drain") (whole closed ∷ [])
