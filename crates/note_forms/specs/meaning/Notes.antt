-- Notes. Their parts are read in order; where a word says which form a note has, the count is
-- judged behind that word.
use Rattle.std.specs.Prelude.{ℕ, ◌+◌, ◌==◌, Bool, true, false, not, List, [], ◌∷◌, Option, Some, None, Result, Ok, if◌then◌else◌, codes}
use Rattle.serde_json.specs.Data.{Data}
use Rattle.serde_json.specs.Find.{as_str}
use Rattle.serde_json.specs.Events.{items_len}
use Rattle.json_form.specs.meaning.Faults.{Fault, ◌>>=◌}
use Rattle.json_form.specs.meaning.Values.{items_of, whole_of}
use Rattle.json_form.specs.meaning.Texts.{word_of, head_of}
use Rattle.json_form.specs.meaning.Arrays.{Placed, placed, each_of, list_of, fixed, part}
use Rattle.outage_schedule.specs.declared.note.FrameName.{FrameName}
use Rattle.outage_schedule.specs.declared.note.FrameName.TheVariants as frame
use Rattle.outage_schedule.specs.declared.note.GoNote.{GoNote}
use Rattle.outage_schedule.specs.declared.note.GoNote.TheVariants as did
use Rattle.outage_schedule.specs.declared.note.Note.{Note}
use Rattle.outage_schedule.specs.declared.note.Note.TheVariants as note
use Rattle.outage_schedule.specs.declared.note.NoteRun.{NoteRun}
use Rattle.outage_schedule.specs.declared.note.OutsideNote.{OutsideNote}
use Rattle.outage_schedule.specs.declared.note.Reached.{Reached}
use Rattle.note_forms.specs.declared.go.GoWord.{GoWord}
use Rattle.note_forms.specs.declared.go.GoWord.TheVariants as go
use Rattle.note_forms.specs.declared.note.NoteWord.{NoteWord}
use Rattle.note_forms.specs.declared.note.NoteWord.TheVariants as word
use Rattle.answer_forms.specs.meaning.Parts.{if_count, number_in, identifier_in}
use Rattle.answer_forms.specs.meaning.Answers.{answers_in}
use Rattle.answer_forms.specs.meaning.Draws.{draws_in}
use Rattle.note_forms.specs.meaning.Told.{asked_words, asked_behind, asked_by}

-- how many items
abbrev pub count_in : Data → Result ℕ Fault
count_in d = items_of d >>= λ ds. Ok (items_len ds)

-- ---- go

abbrev pub go_words : List (List ℕ × GoWord)
go_words =
    (codes "idle", go.Idle) ∷ (codes "wait", go.Wait) ∷ (codes "none", go.NoFrame)
    ∷ (codes "early", go.Early)
    ∷ (codes "down", go.Down) ∷ (codes "open", go.Open) ∷ (codes "lent", go.Lent)
    ∷ (codes "took", go.Took)
    ∷ (codes "lost", go.Lost) ∷ []

-- how many items a note has, by its word
abbrev pub go_count : GoWord → ℕ
go_count go.Open = 5
go_count go.Lent = 5
go_count go.Took = 5
go_count go.Lost = 4
go_count _ = 3

-- a connection, and the number of frames that are sent on it
abbrev pub sent_by : ℕ → Placed → Result ℕ Fault
sent_by sent ds = part 3 number_in ds >>= λ k. part 4 (whole_of sent sent) ds >>= λ _. Ok k

-- one frame is sent on a connection that is opened, and two on one that is lent
abbrev pub go_by : GoWord → Placed → Result GoNote Fault
go_by go.Idle ds = Ok did.Idle
go_by go.Wait ds = Ok did.Wait
go_by go.NoFrame ds = Ok did.NoFrame
go_by go.Early ds = Ok did.Early
go_by go.Down ds = Ok did.Down
go_by go.Open ds = sent_by 1 ds >>= λ k. Ok (did.Open k)
go_by go.Lent ds = sent_by 2 ds >>= λ k. Ok (did.Lent k)
go_by go.Took ds = part 3 number_in ds >>= λ k. part 4 number_in ds >>= λ sent. Ok (did.Took k sent)
go_by go.Lost ds = part 3 number_in ds >>= λ k. Ok (did.Lost k)

unfoldable pub go_in : Data → Result Note Fault
go_in d =
    items_of d >>= λ ds. part 1 number_in (placed ds) >>= λ client. part 2 (word_of go_words)
    (placed ds) >>= λ w.
    if_count (go_count w) (items_len ds) >>= λ _. go_by w (placed ds) >>= λ step.
    Ok (note.Go client step)

-- ---- serve

abbrev pub serve_words : List (List ℕ × Option FrameName)
serve_words =
    (codes "none", None) ∷ (codes "connect", Some frame.Connect) ∷ (codes "begin", Some frame.Begin)
    ∷ (codes "call", Some frame.Call) ∷ (codes "outcome", Some frame.Outcome)
    ∷ (codes "end", Some frame.End)
    ∷ (codes "close", Some frame.Close) ∷ []

unfoldable pub serve_in : Data → Result Note Fault
serve_in d =
    items_of d >>= λ ds. part 1 number_in (placed ds) >>= λ k. part 2 (word_of serve_words)
    (placed ds) >>= λ w.
    if_count 3 (items_len ds) >>= λ _. Ok (note.Serve k w)

-- ---- notes that end with a word where there was nothing to do

-- this word alone
abbrev pub just : List ℕ → List (List ℕ × Bool)
just word = (word, true) ∷ []

-- behind the connection in a note of so many items: the bytes that still arrive, or "none"
abbrev pub bytes_in : ℕ → Placed → Result (Option Reached) Fault
bytes_in n ds =
    if n == 3 then (part 2 (word_of (just (codes "none"))) ds >>= λ _. Ok None)
    else (if_count 4 n >>= λ _. part 2 number_in ds >>= λ up. part 3 number_in ds >>= λ down.
    Ok (Some (record { up = up; down = down })))

unfoldable pub cut_in : Data → Result Note Fault
cut_in d =
    items_of d >>= λ ds. part 1 number_in (placed ds) >>= λ k. bytes_in
    (items_len ds) (placed ds) >>= λ reached.
    Ok (note.Cut k reached)

-- behind the connection in a note of so many items: this word, or nothing
abbrev pub with_word : List ℕ → ℕ → Placed → Result Bool Fault
with_word word n ds =
    if n == 2 then Ok false else (if_count 3 n >>= λ _. part 2 (word_of (just word)) ds)

unfoldable pub reap_in : Data → Result Note Fault
reap_in d =
    items_of d >>= λ ds. part 1 number_in (placed ds) >>= λ k.
    with_word (codes "none") (items_len ds) (placed ds) >>= λ none. Ok (note.Reap k (not none))

unfoldable pub crash_in : Data → Result Note Fault
crash_in d =
    items_of d >>= λ ds. part 1 number_in (placed ds) >>= λ k.
    with_word (codes "down") (items_len ds) (placed ds) >>= λ down. Ok (note.Crash k down)

abbrev pub opened_in : Option (List ℕ) → Data → Result (Option ℕ) Fault
opened_in (Some text) d = word_of (just (codes "none")) d >>= λ _. Ok None
opened_in None d = number_in d >>= λ n. Ok (Some n)

-- a number, or "none"
abbrev pub incarnation_in : Data → Result (Option ℕ) Fault
incarnation_in d = opened_in (as_str d) d

unfoldable pub up_in : Data → Result Note Fault
up_in d = fixed 2 d >>= λ ds. part 1 incarnation_in ds >>= λ incarnation. Ok (note.Up incarnation)

unfoldable pub upcrash_in : Data → Result Note Fault
upcrash_in d =
    count_in d >>= λ n. if n == 1 then Ok (note.UpCrash true)
    else (fixed 2 d >>= λ ds. part 1 (word_of (just (codes "none"))) ds >>= λ _.
    Ok (note.UpCrash false))

abbrev pub tick_in : Data → Result Note Fault
tick_in d = fixed 1 d >>= λ _. Ok note.Tick

-- ---- what came from outside

-- [answers,draws]
unfoldable pub run_in : Data → Result NoteRun Fault
run_in d =
    fixed 2 d >>= λ ds. part 0 answers_in ds >>= λ answers. part 1 draws_in ds >>= λ draws.
    Ok (record { answers = answers; draws = draws })

abbrev pub runs_in : Data → Result (List NoteRun) Fault
runs_in d = list_of (each_of run_in) d

unfoldable pub ran_in : Data → Result OutsideNote Fault
ran_in d =
    fixed 3 d >>= λ ds. part 1 identifier_in ds >>= λ x. part 2 runs_in ds >>= λ runs.
    Ok (record { ltxid = x; runs = runs })

unfoldable pub outside_in : Data → Result Note Fault
outside_in d =
    count_in d >>= λ n. if n == 2
    then (fixed 2 d >>= λ ds. part 1 (word_of (just (codes "down"))) ds >>= λ _.
    Ok (note.Outside None))
    else (ran_in d >>= λ ran. Ok (note.Outside (Some ran)))

unfoldable pub ask_in : Data → Result Note Fault
ask_in d =
    items_of d >>= λ ds. part 1 identifier_in (placed ds) >>= λ x.
    part 2 (word_of asked_words) (placed ds) >>= λ w. if_count (3 + asked_behind w) (items_len ds)
    >>= λ _.
    asked_by w 3 (placed ds) >>= λ result. Ok (note.Ask x result)

unfoldable pub drain_in : Data → Result Note Fault
drain_in d = fixed 2 d >>= λ ds. part 1 number_in ds >>= λ closed. Ok (note.Drain closed)

-- ---- all of them

abbrev pub note_words : List (List ℕ × NoteWord)
note_words =
    (codes "go", word.Go) ∷ (codes "serve", word.Serve) ∷ (codes "cut", word.Cut)
    ∷ (codes "reap", word.Reap)
    ∷ (codes "crash", word.Crash) ∷ (codes "up", word.Up) ∷ (codes "upcrash", word.UpCrash)
    ∷ (codes "tick", word.Tick) ∷ (codes "outside", word.Outside) ∷ (codes "ask", word.Ask)
    ∷ (codes "drain", word.Drain) ∷ []

abbrev pub note_by : NoteWord → Data → Result Note Fault
note_by word.Go = go_in
note_by word.Serve = serve_in
note_by word.Cut = cut_in
note_by word.Reap = reap_in
note_by word.Crash = crash_in
note_by word.Up = up_in
note_by word.UpCrash = upcrash_in
note_by word.Tick = tick_in
note_by word.Outside = outside_in
note_by word.Ask = ask_in
note_by word.Drain = drain_in

unfoldable pub note_in : Data → Result Note Fault
note_in d = head_of note_words d >>= λ w. note_by w d

abbrev pub notes_in : Data → Result (List Note) Fault
notes_in d = list_of (each_of note_in) d
