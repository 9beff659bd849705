-- Notes are read of what is written of them.
use Rattle.std.proofs.Common.{◌≡◌, ℕ, ◌&&◌, List, ◌∷◌, true, false, Option, Some, None, Ok, refl, codes}
use Rattle.std.specs.List.{AllByRecursion, list_all}
use Rattle.json_form.specs.meaning.Values.{whole_of}
use Rattle.json_form.specs.meaning.Texts.{word_of}
use Rattle.json_form.specs.meaning.Arrays.{part}
use Rattle.json_form.specs.meaning.Writing.{text, whole, list_by}
use Rattle.json_form.proofs.Offered.{second_true}
use Rattle.outage_schedule.specs.declared.note.GoNote.{GoNote}
use Rattle.outage_schedule.specs.declared.note.GoNote.TheVariants as did
use Rattle.outage_schedule.specs.declared.note.FrameName.{FrameName}
use Rattle.outage_schedule.specs.declared.note.FrameName.TheVariants as frame
use Rattle.outage_schedule.specs.declared.note.AskResult.{AskResult}
use Rattle.outage_schedule.specs.declared.note.AskResult.TheVariants as told
use Rattle.outage_schedule.specs.declared.note.NoteRun.{NoteRun}
use Rattle.outage_schedule.specs.declared.note.OutsideNote.{OutsideNote}
use Rattle.outage_schedule.specs.declared.note.Note.{Note}
use Rattle.outage_schedule.specs.declared.note.Note.TheVariants as note
use Rattle.svc_values.specs.declared.entry.Ltxid.{Ltxid}
use Rattle.note_forms.specs.meaning.Notes.{go_in, serve_words, serve_in, cut_in, reap_in, crash_in, up_in, upcrash_in, run_in, runs_in, ran_in, outside_in, ask_in, drain_in, note_in, notes_in}
use Rattle.report_text.specs.meaning.Parts.{headed}
use Rattle.report_text.specs.meaning.Values.{identifier_value}
use Rattle.report_text.specs.meaning.Notes.{did_values, served_word, asked_values, run_value, outside_value, note_value}
use Rattle.report_text.specs.meaning.Octets.{RunOfBytes, NoteOfBytes}
use Rattle.report_limits.specs.meaning.Limits.{fits_u64, fits_identifier}
use Rattle.report_limits.specs.meaning.Notes.{if_there, fits_step, fits_told, fits_run, fits_outside, fits_note}
use Rattle.reading_laws.proofs.ListsBack.{number_back, list_back, both_of}
use Rattle.reading_laws.proofs.ValuesBack.{identifier_back, answers_back, draws_back}

pub one_sent : whole_of 1 1 (whole 1) ≡ Ok 1
unfolding whole_of
one_sent = refl

pub two_sent : whole_of 2 2 (whole 2) ≡ Ok 2
unfolding whole_of
two_sent = refl

go_back : (client : ℕ) (step : GoNote) → fits_u64 client ≡ true → fits_step step ≡ true → go_in (headed (codes "go") (whole client ∷ did_values step)) ≡ Ok (note.Go client step)
unfolding go_in part
go_back client did.Idle who fits = rw (number_back client who) refl
go_back client did.Wait who fits = rw (number_back client who) refl
go_back client did.NoFrame who fits = rw (number_back client who) refl
go_back client did.Early who fits = rw (number_back client who) refl
go_back client did.Down who fits = rw (number_back client who) refl
go_back client (did.Open k) who fits = rw (number_back client who, number_back k fits, one_sent) refl
go_back client (did.Lent k) who fits = rw (number_back client who, number_back k fits, two_sent) refl
go_back client (did.Took k sent) who fits =
    let fits_parts = both_of _ _ fits in
    rw (number_back client who, number_back k fits_parts.0, number_back sent fits_parts.1) refl
go_back client (did.Lost k) who fits = rw (number_back client who, number_back k fits) refl

pub frame_back : (name : Option FrameName) → word_of serve_words (text (served_word name)) ≡ Ok name
frame_back None = refl
frame_back (Some frame.Connect) = refl
frame_back (Some frame.Begin) = refl
frame_back (Some frame.Call) = refl
frame_back (Some frame.Outcome) = refl
frame_back (Some frame.End) = refl
frame_back (Some frame.Close) = refl

-- ---- what came from outside

run_back : (x : NoteRun) → RunOfBytes x → fits_run x ≡ true → run_in (run_value x) ≡ Ok x
unfolding run_value run_in part
run_back x ok fits =
    let fits_parts = both_of _ _ fits in
    rw (answers_back x.answers ok.0 fits_parts.0, draws_back x.draws ok.1 fits_parts.1) refl

runs_back : (xs : List NoteRun) → AllByRecursion RunOfBytes xs → list_all fits_run xs ≡ true → runs_in (list_by run_value xs) ≡ Ok xs
runs_back xs all fits = list_back RunOfBytes fits_run run_in run_value run_back xs all fits

ran_back : (ran : OutsideNote) → AllByRecursion RunOfBytes ran.runs → fits_outside ran ≡ true → ran_in (outside_value (Some ran)) ≡ Ok ran
unfolding ran_in part
ran_back ran all fits =
    let fits_parts = both_of _ _ fits in
    rw (identifier_back ran.ltxid fits_parts.0, runs_back ran.runs all fits_parts.1) refl

ask_back : (x : Ltxid) (result : Option AskResult) → fits_identifier x ≡ true → if_there fits_told result ≡ true
    → ask_in (headed (codes "ask") (identifier_value x ∷ asked_values result)) ≡ Ok (note.Ask x result)
unfolding ask_in part
ask_back x None who fits = rw (identifier_back x who) refl
ask_back x (Some (told.Committed completed)) who fits = rw (identifier_back x who) refl
ask_back x (Some told.Uncommitted) who fits = rw (identifier_back x who) refl
ask_back x (Some (told.ServerAhead next)) who fits = rw (identifier_back x who, number_back next fits) refl
ask_back x (Some (told.ClientAhead next)) who fits = rw (identifier_back x who, number_back next fits) refl
ask_back x (Some (told.Forgotten horizon)) who fits = rw (identifier_back x who, number_back horizon fits) refl

-- ---- all of them

note_back : (x : Note) → NoteOfBytes x → fits_note x ≡ true → note_in (note_value x) ≡ Ok x
unfolding note_value note_in serve_in cut_in reap_in crash_in up_in upcrash_in outside_in drain_in part
note_back (note.Go client step) ok fits =
    let fits_parts = both_of _ _ fits in
    rw (go_back client step fits_parts.0 fits_parts.1) refl
note_back (note.Serve k name) ok fits = rw (number_back k fits, frame_back name) refl
note_back (note.Cut k None) ok fits =
    let fits_parts = both_of _ _ fits in
    rw (number_back k fits_parts.0) refl
note_back (note.Cut k (Some bytes)) ok fits =
    let reached = second_true (fits_u64 k) (fits_u64 bytes.up && fits_u64 bytes.down) fits in
    let fits_parts = both_of _ _ fits in
    let reached_parts = both_of _ _ reached in
    rw (number_back k fits_parts.0, number_back bytes.up reached_parts.0, number_back bytes.down reached_parts.1) refl
note_back (note.Reap k true) ok fits = rw (number_back k fits) refl
note_back (note.Reap k false) ok fits = rw (number_back k fits) refl
note_back (note.Crash k true) ok fits = rw (number_back k fits) refl
note_back (note.Crash k false) ok fits = rw (number_back k fits) refl
note_back (note.Up None) ok fits = refl
note_back (note.Up (Some incarnation)) ok fits = rw (number_back incarnation fits) refl
note_back (note.UpCrash true) ok fits = refl
note_back (note.UpCrash false) ok fits = refl
note_back note.Tick ok fits = refl
note_back (note.Outside None) ok fits = refl
note_back (note.Outside (Some ran)) ok fits = rw (ran_back ran ok fits) refl
note_back (note.Ask x result) ok fits =
    let fits_parts = both_of _ _ fits in
    rw (ask_back x result fits_parts.0 fits_parts.1) refl
note_back (note.Drain closed) ok fits = rw (number_back closed fits) refl

pub notes_back : (xs : List Note) → AllByRecursion NoteOfBytes xs → list_all fits_note xs ≡ true → notes_in (list_by note_value xs) ≡ Ok xs
notes_back xs all fits = list_back NoteOfBytes fits_note note_in note_value note_back xs all fits
