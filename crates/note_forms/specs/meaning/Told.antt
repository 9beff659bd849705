-- What the outcome of an identifier is told to be.
use Rattle.std.specs.Prelude.{ℕ, List, [], ◌∷◌, Option, Some, None, Result, Ok, codes}
use Rattle.json_form.specs.meaning.Faults.{Fault, ◌>>=◌}
use Rattle.json_form.specs.meaning.Values.{bool_of}
use Rattle.json_form.specs.meaning.Arrays.{Placed, part}
use Rattle.outage_schedule.specs.declared.note.AskResult.{AskResult}
use Rattle.outage_schedule.specs.declared.note.AskResult.TheVariants as told
use Rattle.note_forms.specs.declared.told.ToldWord.{ToldWord}
use Rattle.note_forms.specs.declared.told.ToldWord.TheVariants as word
use Rattle.answer_forms.specs.meaning.Parts.{number_in}

abbrev pub told_words : List (List ℕ × ToldWord)
told_words =
    (codes "committed", word.Committed) ∷ (codes "uncommitted", word.Uncommitted)
    ∷ (codes "serverahead", word.ServerAhead) ∷ (codes "clientahead", word.ClientAhead)
    ∷ (codes "forgotten", word.Forgotten) ∷ []

-- how many items stand behind the word
abbrev pub behind_of : ToldWord → ℕ
behind_of word.Uncommitted = 0
behind_of _ = 1

-- what the word and the item at this position say
abbrev pub told_by : ToldWord → ℕ → Placed → Result AskResult Fault
told_by word.Committed at ds = part at bool_of ds >>= λ completed. Ok (told.Committed completed)
told_by word.Uncommitted at ds = Ok told.Uncommitted
told_by word.ServerAhead at ds = part at number_in ds >>= λ next. Ok (told.ServerAhead next)
told_by word.ClientAhead at ds = part at number_in ds >>= λ next. Ok (told.ClientAhead next)
told_by word.Forgotten at ds = part at number_in ds >>= λ horizon. Ok (told.Forgotten horizon)

-- the words of an `ask`: where the server is down, nothing is told
abbrev pub asked_words : List (List ℕ × Option ToldWord)
asked_words =
    (codes "down", None) ∷ (codes "committed", Some word.Committed)
    ∷ (codes "uncommitted", Some word.Uncommitted)
    ∷ (codes "serverahead", Some word.ServerAhead) ∷ (codes "clientahead", Some word.ClientAhead)
    ∷ (codes "forgotten", Some word.Forgotten) ∷ []

abbrev pub asked_behind : Option ToldWord → ℕ
asked_behind None = 0
asked_behind (Some w) = behind_of w

abbrev pub asked_by : Option ToldWord → ℕ → Placed → Result (Option AskResult) Fault
asked_by None at ds = Ok None
asked_by (Some w) at ds = told_by w at ds >>= λ result. Ok (Some result)
