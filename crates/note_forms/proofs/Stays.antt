-- What was taken out before changes nothing for what stands behind.
use Rattle.std.proofs.Common.{◌≡◌, ℕ, List, [], ◌∷◌, ◌++◌, false, eqb, Option, Some, None, Ok, refl, ap, rules}
use Rattle.std.specs.List.{last_or}
use Rattle.std.specs.Option.{option_map_or}
use Rattle.json_form.specs.meaning.Arrays.{Placed}
use Rattle.json_form.specs.Arrays.{taken_at}
use Rattle.json_form.specs.meaning.Faults.{◌>>=◌}
use Rattle.json_form.proofs.Offered.{others_stay}
use Rattle.outage_schedule.specs.declared.item.Served.{Served}
use Rattle.note_forms.specs.declared.go.GoWord.{GoWord}
use Rattle.note_forms.specs.declared.go.GoWord.TheVariants as go
use Rattle.note_forms.specs.declared.told.ToldWord.{ToldWord}
use Rattle.note_forms.specs.declared.told.ToldWord.TheVariants as word
use Rattle.note_forms.specs.meaning.Told.{told_by, asked_by}
use Rattle.note_forms.specs.meaning.Notes.{go_by, bytes_in, with_word}
use Rattle.note_forms.specs.meaning.Items.{last_event}

-- ---- parts of an array

pub go_stays : (w : GoWord) (i : ℕ) (ds : Placed) → eqb 3 i ≡ false → eqb 4 i ≡ false
    → go_by w (taken_at i ds) ≡ go_by w ds
go_stays go.Idle i ds three four = refl
go_stays go.Wait i ds three four = refl
go_stays go.NoFrame i ds three four = refl
go_stays go.Early i ds three four = refl
go_stays go.Down i ds three four = refl
go_stays go.Open i ds three four = search (rules, others_stay, three, four)
go_stays go.Lent i ds three four = search (rules, others_stay, three, four)
go_stays go.Took i ds three four = search (rules, others_stay, three, four)
go_stays go.Lost i ds three four = search (rules, others_stay, three)

pub told_stays : (w : ToldWord) (at i : ℕ) (ds : Placed) → eqb at i ≡ false
    → told_by w at (taken_at i ds) ≡ told_by w at ds
told_stays word.Committed at i ds apart = search (rules, others_stay, apart)
told_stays word.Uncommitted at i ds apart = refl
told_stays word.ServerAhead at i ds apart = search (rules, others_stay, apart)
told_stays word.ClientAhead at i ds apart = search (rules, others_stay, apart)
told_stays word.Forgotten at i ds apart = search (rules, others_stay, apart)

pub asked_stays : (w : Option ToldWord) (at i : ℕ) (ds : Placed) → eqb at i ≡ false
    → asked_by w at (taken_at i ds) ≡ asked_by w at ds
asked_stays None at i ds apart = refl
asked_stays (Some w) at i ds apart = ap (λ r. r >>= λ result. Ok (Some result)) (told_stays w at i ds apart)

pub bytes_stay : (n i : ℕ) (ds : Placed) → eqb 2 i ≡ false → eqb 3 i ≡ false
    → bytes_in n (taken_at i ds) ≡ bytes_in n ds
bytes_stay n i ds two three = search (rules, others_stay, two, three)

pub word_stays : (w : List ℕ) (n i : ℕ) (ds : Placed) → eqb 2 i ≡ false
    → with_word w n (taken_at i ds) ≡ with_word w n ds
word_stays w n i ds two = search (rules, others_stay, two)

-- ---- items, one after the other

last_after : (o : Option Served) (before : List Served) (one : Served)
    → option_map_or (λ s. s.event) (last_or o (before ++ one ∷ [])) 0 ≡ one.event
last_after o [] one = refl
last_after o (first ∷ before) one = last_after (Some first) before one

-- the last event is that of the item that was put last
pub last_pushed : (before : List Served) (one : Served) → last_event (before ++ one ∷ []) ≡ one.event
last_pushed before one = last_after None before one
