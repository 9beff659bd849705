-- Of notes nothing else is read than what was written.
use Rattle.std.proofs.Common.{ℕ, List, ◌∷◌, true, false, Option, Some, None, refl, codes}
use Rattle.json_form.specs.meaning.Values.{whole_of}
use Rattle.json_form.specs.meaning.Texts.{word_of}
use Rattle.json_form.specs.meaning.Writing.{text, whole, list_by}
use Rattle.svc_values.specs.declared.entry.Ltxid.{Ltxid}
use Rattle.outage_schedule.specs.declared.note.GoNote.{GoNote}
use Rattle.outage_schedule.specs.declared.note.GoNote.TheVariants as did
use Rattle.outage_schedule.specs.declared.note.FrameName.{FrameName}
use Rattle.outage_schedule.specs.declared.note.AskResult.{AskResult}
use Rattle.outage_schedule.specs.declared.note.AskResult.TheVariants as told
use Rattle.outage_schedule.specs.declared.note.NoteRun.{NoteRun}
use Rattle.outage_schedule.specs.declared.note.OutsideNote.{OutsideNote}
use Rattle.outage_schedule.specs.declared.note.Note.{Note}
use Rattle.outage_schedule.specs.declared.note.Note.TheVariants as note
use Rattle.note_forms.specs.meaning.Notes.{go_in, serve_words, serve_in, cut_in, reap_in, crash_in, up_in, upcrash_in, run_in, runs_in, ran_in, outside_in, ask_in, drain_in, note_in, notes_in}
use Rattle.report_text.specs.meaning.Parts.{headed}
use Rattle.report_text.specs.meaning.Values.{identifier_value}
use Rattle.report_text.specs.meaning.Notes.{did_values, served_word, asked_values, run_value, outside_value, note_value}
use Rattle.reading_laws.proofs.NotesBack.{one_sent, two_sent, frame_back}
use Rattle.reading_laws.proofs.ValuesOrFault.{number_so, identifier_so, answers_so, draws_so}
use Rattle.reading_laws.proofs.OrFault.{OrFault, and_then, part_so, part_then, list_so}

one_so : OrFault 1 (whole_of 1 1 (whole 1))
one_so = rw one_sent refl

two_so : OrFault 2 (whole_of 2 2 (whole 2))
two_so = rw two_sent refl

go_so : (client : ℕ) (step : GoNote) → OrFault (note.Go client step) (go_in (headed (codes "go") (whole client ∷ did_values step)))
unfolding go_in
go_so client did.Idle = part_then _ _ _ _ _ _ _ refl (number_so client) (part_then _ _ _ _ _ _ _ refl refl refl)
go_so client did.Wait = part_then _ _ _ _ _ _ _ refl (number_so client) (part_then _ _ _ _ _ _ _ refl refl refl)
go_so client did.NoFrame = part_then _ _ _ _ _ _ _ refl (number_so client) (part_then _ _ _ _ _ _ _ refl refl refl)
go_so client did.Early = part_then _ _ _ _ _ _ _ refl (number_so client) (part_then _ _ _ _ _ _ _ refl refl refl)
go_so client did.Down = part_then _ _ _ _ _ _ _ refl (number_so client) (part_then _ _ _ _ _ _ _ refl refl refl)
go_so client (did.Open k) =
    part_then _ _ _ _ _ _ _ refl (number_so client) (part_then _ _ _ _ _ _ _ refl refl
    (and_then _ _ (did.Open k) _ (and_then _ _ k _ (part_then _ _ _ _ _ _ _ refl (number_so k) (part_then _ _ _ _ _ _ _ refl one_so refl)) refl) refl))
go_so client (did.Lent k) =
    part_then _ _ _ _ _ _ _ refl (number_so client) (part_then _ _ _ _ _ _ _ refl refl
    (and_then _ _ (did.Lent k) _ (and_then _ _ k _ (part_then _ _ _ _ _ _ _ refl (number_so k) (part_then _ _ _ _ _ _ _ refl two_so refl)) refl) refl))
go_so client (did.Took k sent) =
    part_then _ _ _ _ _ _ _ refl (number_so client) (part_then _ _ _ _ _ _ _ refl refl
    (and_then _ _ (did.Took k sent) _ (part_then _ _ _ _ _ _ _ refl (number_so k) (part_then _ _ _ _ _ _ _ refl (number_so sent) refl)) refl))
go_so client (did.Lost k) =
    part_then _ _ _ _ _ _ _ refl (number_so client) (part_then _ _ _ _ _ _ _ refl refl
    (and_then _ _ (did.Lost k) _ (part_then _ _ _ _ _ _ _ refl (number_so k) refl) refl))

frame_so : (name : Option FrameName) → OrFault name (word_of serve_words (text (served_word name)))
frame_so name = rw (frame_back name) refl

-- ---- what came from outside

run_so : (x : NoteRun) → OrFault x (run_in (run_value x))
unfolding run_value run_in
run_so x = part_then _ _ _ _ _ x.answers _ refl (answers_so x.answers) (part_then _ _ _ _ _ x.draws _ refl (draws_so x.draws) refl)

runs_so : (xs : List NoteRun) → OrFault xs (runs_in (list_by run_value xs))
runs_so xs = list_so run_in run_value run_so xs

ran_so : (ran : OutsideNote) → OrFault ran (ran_in (outside_value (Some ran)))
unfolding ran_in
ran_so ran = part_then _ _ _ _ _ _ _ refl (identifier_so ran.ltxid) (part_then _ _ _ _ _ ran.runs _ refl (runs_so ran.runs) refl)

ask_so : (x : Ltxid) (result : Option AskResult) → OrFault (note.Ask x result) (ask_in (headed (codes "ask") (identifier_value x ∷ asked_values result)))
unfolding ask_in
ask_so x None = part_then _ _ _ _ _ _ _ refl (identifier_so x) (part_then _ _ _ _ _ _ _ refl refl refl)
ask_so x (Some (told.Committed completed)) =
    part_then _ _ _ _ _ _ _ refl (identifier_so x) (part_then _ _ _ _ _ _ _ refl refl
    (and_then _ _ (Some (told.Committed completed)) _ (and_then _ _ (told.Committed completed) _ (part_then _ _ _ _ _ _ _ refl refl refl) refl) refl))
ask_so x (Some told.Uncommitted) = part_then _ _ _ _ _ _ _ refl (identifier_so x) (part_then _ _ _ _ _ _ _ refl refl refl)
ask_so x (Some (told.ServerAhead next)) =
    part_then _ _ _ _ _ _ _ refl (identifier_so x) (part_then _ _ _ _ _ _ _ refl refl
    (and_then _ _ (Some (told.ServerAhead next)) _ (and_then _ _ (told.ServerAhead next) _ (part_then _ _ _ _ _ _ _ refl (number_so next) refl) refl) refl))
ask_so x (Some (told.ClientAhead next)) =
    part_then _ _ _ _ _ _ _ refl (identifier_so x) (part_then _ _ _ _ _ _ _ refl refl
    (and_then _ _ (Some (told.ClientAhead next)) _ (and_then _ _ (told.ClientAhead next) _ (part_then _ _ _ _ _ _ _ refl (number_so next) refl) refl) refl))
ask_so x (Some (told.Forgotten horizon)) =
    part_then _ _ _ _ _ _ _ refl (identifier_so x) (part_then _ _ _ _ _ _ _ refl refl
    (and_then _ _ (Some (told.Forgotten horizon)) _ (and_then _ _ (told.Forgotten horizon) _ (part_then _ _ _ _ _ _ _ refl (number_so horizon) refl) refl) refl))

-- ---- all of them

note_so : (x : Note) → OrFault x (note_in (note_value x))
unfolding note_value note_in serve_in cut_in reap_in crash_in up_in upcrash_in outside_in drain_in
note_so (note.Go client step) = go_so client step
note_so (note.Serve k name) = part_then _ _ _ _ _ _ _ refl (number_so k) (part_then _ _ _ _ _ name _ refl (frame_so name) refl)
note_so (note.Cut k None) = part_then _ _ _ _ _ _ _ refl (number_so k) (and_then _ _ None _ (part_then _ _ _ _ _ _ _ refl refl refl) refl)
note_so (note.Cut k (Some bytes)) =
    part_then _ _ _ _ _ _ _ refl (number_so k)
    (and_then _ _ (Some bytes) _ (part_then _ _ _ _ _ _ _ refl (number_so bytes.up) (part_then _ _ _ _ _ _ _ refl (number_so bytes.down) refl)) refl)
note_so (note.Reap k true) = part_then _ _ _ _ _ _ _ refl (number_so k) refl
note_so (note.Reap k false) = part_then _ _ _ _ _ _ _ refl (number_so k) (and_then _ _ true _ (part_so _ _ _ _ _ refl refl) refl)
note_so (note.Crash k true) = part_then _ _ _ _ _ _ _ refl (number_so k) (and_then _ _ true _ (part_so _ _ _ _ _ refl refl) refl)
note_so (note.Crash k false) = part_then _ _ _ _ _ _ _ refl (number_so k) refl
note_so (note.Up None) = part_then _ _ _ _ _ None _ refl refl refl
note_so (note.Up (Some incarnation)) = part_then _ _ _ _ _ (Some incarnation) _ refl (and_then _ _ incarnation (Some incarnation) (number_so incarnation) refl) refl
note_so (note.UpCrash true) = refl
note_so (note.UpCrash false) = part_then _ _ _ _ _ _ _ refl refl refl
note_so note.Tick = refl
note_so (note.Outside None) = part_then _ _ _ _ _ _ _ refl refl refl
note_so (note.Outside (Some ran)) = and_then _ _ ran (note.Outside (Some ran)) (ran_so ran) refl
note_so (note.Ask x result) = ask_so x result
note_so (note.Drain closed) = part_then _ _ _ _ _ _ _ refl (number_so closed) refl

pub notes_so : (xs : List Note) → OrFault xs (notes_in (list_by note_value xs))
notes_so xs = list_so note_in note_value note_so xs
