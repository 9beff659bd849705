-- What notes keep to that were read.
use Rattle.std.proofs.Common.{◌≡◌, ℕ, ◌+◌, ◌==◌, List, true, false, Option, Some, None, Ok, refl, codes}
use Rattle.std.specs.List.{AllByRecursion, list_all}
use Rattle.serde_json.specs.Data.{Data}
use Rattle.serde_json.specs.Find.{as_str}
use Rattle.serde_json.specs.Events.{items_len}
use Rattle.json_form.specs.meaning.Values.{items_of, bool_of, whole_of}
use Rattle.json_form.specs.meaning.Texts.{head_of, word_of}
use Rattle.json_form.specs.meaning.Arrays.{Placed, placed, fixed, part}
use Rattle.json_form.proofs.Offered.{both_true}
use Rattle.outage_schedule.specs.declared.note.GoNote.{GoNote}
use Rattle.outage_schedule.specs.declared.note.Reached.{Reached}
use Rattle.outage_schedule.specs.declared.note.AskResult.{AskResult}
use Rattle.outage_schedule.specs.declared.note.NoteRun.{NoteRun}
use Rattle.outage_schedule.specs.declared.note.OutsideNote.{OutsideNote}
use Rattle.outage_schedule.specs.declared.note.Note.{Note}
use Rattle.outage_schedule.specs.declared.note.Note.TheVariants as note
use Rattle.note_forms.specs.declared.go.GoWord.{GoWord}
use Rattle.note_forms.specs.declared.go.GoWord.TheVariants as go
use Rattle.note_forms.specs.declared.told.ToldWord.{ToldWord}
use Rattle.note_forms.specs.declared.told.ToldWord.TheVariants as toldword
use Rattle.note_forms.specs.declared.note.NoteWord.{NoteWord}
use Rattle.note_forms.specs.declared.note.NoteWord.TheVariants as word
use Rattle.answer_forms.specs.meaning.Parts.{if_count, number_in, identifier_in}
use Rattle.answer_forms.specs.meaning.Answers.{answers_in}
use Rattle.answer_forms.specs.meaning.Draws.{draws_in}
use Rattle.note_forms.specs.meaning.Told.{told_by, asked_words, asked_behind, asked_by}
use Rattle.note_forms.specs.meaning.Notes.{count_in, go_words, go_count, sent_by, go_by, go_in, serve_words, serve_in, just, bytes_in, cut_in, with_word, reap_in, crash_in, opened_in, incarnation_in, up_in, upcrash_in, run_in, runs_in, ran_in, outside_in, ask_in, drain_in, note_words, note_by, note_in, notes_in}
use Rattle.report_text.specs.meaning.Octets.{RunOfBytes, NoteOfBytes}
use Rattle.report_limits.specs.meaning.Limits.{fits_u64}
use Rattle.report_limits.specs.meaning.Notes.{if_there, fits_step, fits_told, fits_reached, fits_run, fits_outside, fits_note}
use Rattle.reading_laws.proofs.IfRead.{IfRead, either_kept, then_kept, any_kept, part_then_kept, list_kept, apart, weaker}
use Rattle.reading_laws.proofs.ValuesKept.{NumberKept, number_kept, IdentifierKept, identifier_kept, AnswersKept, answers_kept, DrawsKept, draws_kept}

abbrev pub NoteKept : Note → Type 0
NoteKept x = NoteOfBytes x × (fits_note x ≡ true)

abbrev StepKept : GoNote → Type 0
StepKept step = fits_step step ≡ true

sent_kept : (sent : ℕ) (ds : Placed) → IfRead NumberKept (sent_by sent ds)
sent_kept sent ds = part_then_kept NumberKept NumberKept 3 number_in ds _ number_kept (λ k h. any_kept NumberKept (part 4 (whole_of sent sent) ds) (λ _. Ok k) (λ _. h))

step_kept : (w : GoWord) (ds : Placed) → IfRead StepKept (go_by w ds)
step_kept go.Idle ds = refl
step_kept go.Wait ds = refl
step_kept go.NoFrame ds = refl
step_kept go.Early ds = refl
step_kept go.Down ds = refl
step_kept go.Open ds = then_kept NumberKept StepKept (sent_by 1 ds) _ (sent_kept 1 ds) (λ k h. h)
step_kept go.Lent ds = then_kept NumberKept StepKept (sent_by 2 ds) _ (sent_kept 2 ds) (λ k h. h)
step_kept go.Took ds =
    part_then_kept NumberKept StepKept 3 number_in ds _ number_kept (λ k h. part_then_kept NumberKept StepKept 4 number_in ds _ number_kept (λ sent g. both_true _ _ h g))
step_kept go.Lost ds = part_then_kept NumberKept StepKept 3 number_in ds _ number_kept (λ k h. h)

abbrev ReachedKept : Option Reached → Type 0
ReachedKept o = if_there fits_reached o ≡ true

reached_kept : (n : ℕ) (ds : Placed) → IfRead ReachedKept (bytes_in n ds)
reached_kept n ds =
    either_kept ReachedKept (n == 3) _ _ (any_kept ReachedKept (part 2 (word_of (just (codes "none"))) ds) (λ _. Ok None) (λ _. refl))
    (any_kept ReachedKept (if_count 4 n) _ (λ _. part_then_kept NumberKept ReachedKept 2 number_in ds _ number_kept (λ up h.
    part_then_kept NumberKept ReachedKept 3 number_in ds _ number_kept (λ down g. both_true _ _ h g))))

abbrev OpenedKept : Option ℕ → Type 0
OpenedKept o = if_there fits_u64 o ≡ true

opened_kept : (o : Option (List ℕ)) (d : Data) → IfRead OpenedKept (opened_in o d)
opened_kept (Some text) d = any_kept OpenedKept (word_of (just (codes "none")) d) (λ _. Ok None) (λ _. refl)
opened_kept None d = then_kept NumberKept OpenedKept (number_in d) (λ n. Ok (Some n)) (number_kept d) (λ n h. h)

incarnation_kept : (d : Data) → IfRead OpenedKept (incarnation_in d)
incarnation_kept d = opened_kept (as_str d) d

-- ---- what came from outside

abbrev RunKept : NoteRun → Type 0
RunKept run = RunOfBytes run × (fits_run run ≡ true)

run_kept : (d : Data) → IfRead RunKept (run_in d)
unfolding run_in
run_kept d =
    any_kept RunKept (fixed 2 d) _ (λ ds. part_then_kept AnswersKept RunKept 0 answers_in ds _ answers_kept (λ answers a.
    part_then_kept DrawsKept RunKept 1 draws_in ds _ draws_kept (λ draws b. ((a.0, b.0), both_true _ _ a.1 b.1))))

abbrev RunsKept : List NoteRun → Type 0
RunsKept xs = AllByRecursion RunOfBytes xs × (list_all fits_run xs ≡ true)

runs_kept : (d : Data) → IfRead RunsKept (runs_in d)
runs_kept d = weaker _ RunsKept (runs_in d) (apart RunOfBytes fits_run) (list_kept RunKept run_in run_kept d)

abbrev RanKept : OutsideNote → Type 0
RanKept ran = AllByRecursion RunOfBytes ran.runs × (fits_outside ran ≡ true)

ran_kept : (d : Data) → IfRead RanKept (ran_in d)
unfolding ran_in
ran_kept d =
    any_kept RanKept (fixed 3 d) _ (λ ds. part_then_kept IdentifierKept RanKept 1 identifier_in ds _ identifier_kept (λ x h.
    part_then_kept RunsKept RanKept 2 runs_in ds _ runs_kept (λ runs k. (k.0, both_true _ _ h k.1))))

abbrev pub ToldKept : AskResult → Type 0
ToldKept result = fits_told result ≡ true

pub told_kept : (w : ToldWord) (at : ℕ) (ds : Placed) → IfRead ToldKept (told_by w at ds)
told_kept toldword.Committed at ds = any_kept ToldKept (part at bool_of ds) _ (λ completed. refl)
told_kept toldword.Uncommitted at ds = refl
told_kept toldword.ServerAhead at ds = part_then_kept NumberKept ToldKept at number_in ds _ number_kept (λ next h. h)
told_kept toldword.ClientAhead at ds = part_then_kept NumberKept ToldKept at number_in ds _ number_kept (λ next h. h)
told_kept toldword.Forgotten at ds = part_then_kept NumberKept ToldKept at number_in ds _ number_kept (λ horizon h. h)

abbrev AskedKept : Option AskResult → Type 0
AskedKept o = if_there fits_told o ≡ true

asked_kept : (w : Option ToldWord) (ds : Placed) → IfRead AskedKept (asked_by w 3 ds)
asked_kept None ds = refl
asked_kept (Some w) ds = then_kept ToldKept AskedKept (told_by w 3 ds) (λ result. Ok (Some result)) (told_kept w 3 ds) (λ result h. h)

-- ---- all of them

by_word_kept : (w : NoteWord) (d : Data) → IfRead NoteKept (note_by w d)
unfolding go_in serve_in cut_in reap_in crash_in up_in upcrash_in outside_in ask_in drain_in
by_word_kept word.Go d =
    any_kept NoteKept (items_of d) _ (λ is. part_then_kept NumberKept NoteKept 1 number_in (placed is) _ number_kept (λ client h.
    any_kept NoteKept (part 2 (word_of go_words) (placed is)) _ (λ w. any_kept NoteKept (if_count (go_count w) (items_len is)) _ (λ _.
    then_kept StepKept NoteKept (go_by w (placed is)) _ (step_kept w (placed is)) (λ step g. (tt, both_true _ _ h g))))))
by_word_kept word.Serve d =
    any_kept NoteKept (items_of d) _ (λ is. part_then_kept NumberKept NoteKept 1 number_in (placed is) _ number_kept (λ k h.
    any_kept NoteKept (part 2 (word_of serve_words) (placed is)) _ (λ w. any_kept NoteKept (if_count 3 (items_len is)) _ (λ _. (tt, h)))))
by_word_kept word.Cut d =
    any_kept NoteKept (items_of d) _ (λ is. part_then_kept NumberKept NoteKept 1 number_in (placed is) _ number_kept (λ k h.
    then_kept ReachedKept NoteKept (bytes_in (items_len is) (placed is)) _ (reached_kept (items_len is) (placed is)) (λ reached g. (tt, both_true _ _ h g))))
by_word_kept word.Reap d =
    any_kept NoteKept (items_of d) _ (λ is. part_then_kept NumberKept NoteKept 1 number_in (placed is) _ number_kept (λ k h.
    any_kept NoteKept (with_word (codes "none") (items_len is) (placed is)) _ (λ none. (tt, h))))
by_word_kept word.Crash d =
    any_kept NoteKept (items_of d) _ (λ is. part_then_kept NumberKept NoteKept 1 number_in (placed is) _ number_kept (λ k h.
    any_kept NoteKept (with_word (codes "down") (items_len is) (placed is)) _ (λ down. (tt, h))))
by_word_kept word.Up d = any_kept NoteKept (fixed 2 d) _ (λ ds. part_then_kept OpenedKept NoteKept 1 incarnation_in ds _ incarnation_kept (λ incarnation h. (tt, h)))
by_word_kept word.UpCrash d =
    any_kept NoteKept (count_in d) _ (λ n. either_kept NoteKept (n == 1) (Ok (note.UpCrash true)) _ (tt, refl)
    (any_kept NoteKept (fixed 2 d) _ (λ ds. any_kept NoteKept (part 1 (word_of (just (codes "none"))) ds) (λ _. Ok (note.UpCrash false)) (λ _. (tt, refl)))))
by_word_kept word.Tick d = any_kept NoteKept (fixed 1 d) (λ _. Ok note.Tick) (λ _. (tt, refl))
by_word_kept word.Outside d =
    any_kept NoteKept (count_in d) _ (λ n. either_kept NoteKept (n == 2) _ _
    (any_kept NoteKept (fixed 2 d) _ (λ ds. any_kept NoteKept (part 1 (word_of (just (codes "down"))) ds) (λ _. Ok (note.Outside None)) (λ _. (tt, refl))))
    (then_kept RanKept NoteKept (ran_in d) (λ ran. Ok (note.Outside (Some ran))) (ran_kept d) (λ ran k. k)))
by_word_kept word.Ask d =
    any_kept NoteKept (items_of d) _ (λ is. part_then_kept IdentifierKept NoteKept 1 identifier_in (placed is) _ identifier_kept (λ x h.
    any_kept NoteKept (part 2 (word_of asked_words) (placed is)) _ (λ w. any_kept NoteKept (if_count (3 + asked_behind w) (items_len is)) _ (λ _.
    then_kept AskedKept NoteKept (asked_by w 3 (placed is)) _ (asked_kept w (placed is)) (λ result g. (tt, both_true _ _ h g))))))
by_word_kept word.Drain d = any_kept NoteKept (fixed 2 d) _ (λ ds. part_then_kept NumberKept NoteKept 1 number_in ds _ number_kept (λ closed h. (tt, h)))

note_kept : (d : Data) → IfRead NoteKept (note_in d)
unfolding note_in
note_kept d = any_kept NoteKept (head_of note_words d) _ (λ w. by_word_kept w d)

abbrev pub NotesKept : List Note → Type 0
NotesKept xs = AllByRecursion NoteOfBytes xs × (list_all fits_note xs ≡ true)

pub notes_kept : (d : Data) → IfRead NotesKept (notes_in d)
notes_kept d = weaker _ NotesKept (notes_in d) (apart NoteOfBytes fits_note) (list_kept NoteKept note_in note_kept d)
