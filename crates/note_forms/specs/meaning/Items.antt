-- Served items: their events rise, and each names a note at which such an item may stand.
use Rattle.std.specs.Prelude.{ℕ, ◌+◌, ◌==◌, List, [], ◌∷◌, None, Result, Ok, Err, if◌then◌else◌, codes}
use Rattle.std.specs.List.{last_or}
use Rattle.std.specs.Option.{option_map_or}
use Rattle.serde_json.specs.Data.{Data}
use Rattle.serde_json.specs.Events.{items_len}
use Rattle.json_form.specs.declared.fault.DocCode.TheVariants.{Rule}
use Rattle.json_form.specs.meaning.Faults.{Fault, ◌>>=◌, here}
use Rattle.json_form.specs.meaning.Values.{items_of, bool_of, whole_of}
use Rattle.json_form.specs.meaning.Texts.{word_of, head_of}
use Rattle.json_form.specs.meaning.Arrays.{Placed, placed, each_after, list_of, fixed, part}
use Rattle.outage_schedule.specs.declared.item.Item.{Item}
use Rattle.outage_schedule.specs.declared.item.Item.TheVariants as item
use Rattle.outage_schedule.specs.declared.item.Served.{Served}
use Rattle.outage_schedule.specs.declared.note.Note.{Note}
use Rattle.told_reports.specs.declared.place.ServedWord.{ServedWord}
use Rattle.told_reports.specs.declared.place.ServedWord.TheVariants as word
use Rattle.told_reports.specs.meaning.Places.{fits_event}
use Rattle.note_forms.specs.declared.item.ServedAt.{ServedAt}
use Rattle.answer_forms.specs.meaning.Parts.{if_count, number_in, identifier_in, session_in, settings_in, call_in}
use Rattle.answer_forms.specs.meaning.Answers.{answers_in}
use Rattle.answer_forms.specs.meaning.Draws.{draws_in}
use Rattle.note_forms.specs.meaning.Told.{told_words, behind_of, told_by}
use Rattle.note_forms.specs.meaning.Notes.{count_in}

abbrev pub item_words : List (List ℕ × ServedWord)
item_words =
    (codes "connect", word.Connect) ∷ (codes "begin", word.Begin) ∷ (codes "call", word.Call)
    ∷ (codes "blocked", word.Blocked) ∷ (codes "outcome", word.Outcome) ∷ (codes "end", word.End)
    ∷ (codes "close", word.Close) ∷ (codes "refused", word.Refused)
    ∷ (codes "crashed", word.Crashed) ∷ []

-- the event of the last item before, and 0 where there is none
abbrev pub last_event : List Served → ℕ
last_event before = option_map_or (λ one. one.event) (last_or None before) 0

-- the event of an item behind another one's
abbrev pub event_in : List Note → ServedWord → ℕ → Data → Result ℕ Fault
event_in notes w last d =
    number_in d >>= λ event. if fits_event notes w last event then Ok event else Err (here Rule)

-- ---- items

-- the event of an item, and then its session
unfoldable pub place_in : List Note → ServedWord → ℕ → Placed → Result ServedAt Fault
place_in notes w last ds =
    part 1 (event_in notes w last) ds >>= λ event. part 2 session_in ds >>= λ session.
    Ok (record { event = event; session = session })

abbrev pub served_at : ServedAt → Item → Served
served_at place one = record { event = place.event; session = place.session; item = one }

-- an item that has nothing but its event and its session
unfoldable pub bare_in : List Note → ℕ → ServedWord → Item → Data → Result Served Fault
bare_in notes last w one d =
    fixed 3 d >>= λ ds. place_in notes w last ds >>= λ place. Ok (served_at place one)

unfoldable pub begin_in : List Note → ℕ → Data → Result Served Fault
begin_in notes last d =
    fixed 4 d >>= λ ds. place_in notes word.Begin last ds >>= λ place. part 3 settings_in
    ds >>= λ settings.
    Ok (served_at place (item.Begin settings))

unfoldable pub answered_in : List Note → ℕ → Data → Result Served Fault
answered_in notes last d =
    fixed 7 d >>= λ ds. place_in notes word.Call last ds >>= λ place. part 3 bool_of
    ds >>= λ replay.
    part 4 call_in ds >>= λ call. part 5 answers_in ds >>= λ answers. part 6 draws_in
    ds >>= λ draws.
    Ok (served_at place (item.Call replay call answers draws))

unfoldable pub blocked_in : List Note → ℕ → Data → Result Served Fault
blocked_in notes last d =
    fixed 4 d >>= λ ds. place_in notes word.Blocked last ds >>= λ place. part 3 call_in
    ds >>= λ call.
    Ok (served_at place (item.Blocked call))

-- the outcome that is told of an identifier
unfoldable pub told_in : List Note → ℕ → Data → Result Served Fault
told_in notes last d =
    items_of d >>= λ is. place_in notes word.Outcome last (placed is) >>= λ place.
    part 3 identifier_in (placed is) >>= λ x. part 4 (word_of told_words) (placed is) >>= λ w.
    if_count (5 + behind_of w) (items_len is) >>= λ _. told_by w 5 (placed is) >>= λ result.
    Ok (served_at place (item.Outcome x result))

unfoldable pub refused_in : List Note → ℕ → Data → Result Served Fault
refused_in notes last d =
    fixed 4 d >>= λ ds. place_in notes word.Refused last ds >>= λ place. part 3 (whole_of 1 2) ds
    >>= λ cause.
    Ok (served_at place (item.Refused cause))

-- a question that a crash stopped has an identifier, and a call its mark and the call
unfoldable pub stopped_outcome_in : List Note → ℕ → Data → Result Served Fault
stopped_outcome_in notes last d =
    fixed 4 d >>= λ ds. place_in notes word.Crashed last ds >>= λ place. part 3 identifier_in
    ds >>= λ x.
    Ok (served_at place (item.CrashedOutcome x))

unfoldable pub stopped_call_in : List Note → ℕ → Data → Result Served Fault
stopped_call_in notes last d =
    fixed 5 d >>= λ ds. place_in notes word.Crashed last ds >>= λ place. part 3 bool_of
    ds >>= λ replay.
    part 4 call_in ds >>= λ call. Ok (served_at place (item.CrashedCall replay call))

abbrev pub crashed_in : List Note → ℕ → Data → Result Served Fault
crashed_in notes last d =
    count_in d >>= λ n. if n == 4 then stopped_outcome_in notes last d else stopped_call_in
    notes last d

abbrev pub served_by : List Note → ℕ → ServedWord → Data → Result Served Fault
served_by notes last word.Connect d = bare_in notes last word.Connect item.Connect d
served_by notes last word.Begin d = begin_in notes last d
served_by notes last word.Call d = answered_in notes last d
served_by notes last word.Blocked d = blocked_in notes last d
served_by notes last word.Outcome d = told_in notes last d
served_by notes last word.End d = bare_in notes last word.End item.End d
served_by notes last word.Close d = bare_in notes last word.Close item.Close d
served_by notes last word.Refused d = refused_in notes last d
served_by notes last word.Crashed d = crashed_in notes last d

unfoldable pub one_served : List Note → ℕ → Data → Result Served Fault
one_served notes last d = head_of item_words d >>= λ w. served_by notes last w d

-- all items, with the notes that stand before them
abbrev pub served_in : List Note → Data → Result (List Served) Fault
served_in notes d = list_of (each_after (λ before. one_served notes (last_event before)) []) d
