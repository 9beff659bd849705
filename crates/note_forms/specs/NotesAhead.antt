-- Notes whose parts are read one after the other.
use Rattle.std.specs.Prelude.{◌≡◌, ℕ, ◌+◌, List, Option, Some, Result, Ok}
use Rattle.json.specs.Token.{Token}
use Rattle.serde_json.specs.Data.{Data, array, Items, no_items, item}
use Rattle.serde_json.specs.Events.{items_len}
use Rattle.json_form.specs.meaning.Faults.{Fault, ◌>>=◌}
use Rattle.json_form.specs.meaning.Values.{whole_of}
use Rattle.json_form.specs.meaning.Arrays.{placed}
use Rattle.json_form.specs.Streams.{items_ahead}
use Rattle.outage_schedule.specs.declared.note.AskResult.{AskResult}
use Rattle.outage_schedule.specs.declared.note.GoNote.{GoNote}
use Rattle.outage_schedule.specs.declared.note.Note.{Note}
use Rattle.note_forms.specs.declared.go.GoWord.{GoWord}
use Rattle.note_forms.specs.declared.told.ToldWord.{ToldWord}
use Rattle.answer_forms.specs.meaning.Parts.{if_count, number_in}
use Rattle.note_forms.specs.meaning.Notes.{go_count, go_by}
use Rattle.note_forms.specs.meaning.Told.{behind_of, told_by, asked_behind, asked_by}

-- the tokens begin with such items and the bracket that ends their array, and the others stand
-- behind it
abbrev pub AreLeft : (Items → Type 0) → ℕ → List Token → List Token → Type 0
AreLeft Such depth ts rest = (ds : Items) × (items_ahead depth ts ≡ Some (ds, rest)) × Such ds

-- behind the word of a note: the whole is read as this
abbrev pub Ends : (Data → Result Note Fault) → ℕ → List Token → Note → List Token → Type 0
Ends read depth ts one rest = AreLeft (λ ds. (word : Data)
    → read (array (item word ds)) ≡ Ok one) depth ts rest

-- behind the first three items of a note: all of them are read as this
abbrev pub EndsBehind : {A : Type 0} → (Items → Result A Fault) → ℕ → List Token → A → List Token
    → Type 0
EndsBehind read depth ts x rest =
    AreLeft (λ ds. (note first word : Data) → read (item note (item first (item word ds))) ≡ Ok x)
    depth ts rest

-- what a client's step did, by its word, in a note of these items
abbrev pub did_in : GoWord → Items → Result GoNote Fault
did_in w ds = if_count (go_count w) (items_len ds) >>= λ _. go_by w (placed ds)

-- what was told where the server was up, by its word, in a note of these items
abbrev pub result_in : ToldWord → Items → Result AskResult Fault
result_in w ds = if_count (3 + behind_of w) (items_len ds) >>= λ _. told_by w 3 (placed ds)

-- what was told, by its word, in a note of these items
abbrev pub told_in : Option ToldWord → Items → Result (Option AskResult) Fault
told_in w ds = if_count (3 + asked_behind w) (items_len ds) >>= λ _. asked_by w 3 (placed ds)

-- the tokens begin with this connection, the number of frames that are sent on it, and the bracket
-- behind them
abbrev pub AreSent : ℕ → ℕ → ℕ → List Token → List Token → Type 0
AreSent sent k depth ts rest =
    (d : Data) × (e : Data) × (items_ahead depth ts ≡ Some (item d (item e no_items), rest))
    × (number_in d ≡ Ok k)
    × (x : ℕ) × (whole_of sent sent e ≡ Ok x)
