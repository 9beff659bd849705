-- What served items keep to that were read.
use Rattle.std.proofs.Common.{◌≡◌, ℕ, ◌+◌, ◌==◌, ◌&&◌, nat_le, List, [], true, refl}
use Rattle.std.specs.List.{AllByRecursion, list_all}
use Rattle.serde_json.specs.Data.{Data}
use Rattle.serde_json.specs.Events.{items_len}
use Rattle.json_form.specs.declared.fault.DocCode.TheVariants.{Rule, Limit}
use Rattle.json_form.specs.meaning.Faults.{here}
use Rattle.json_form.specs.meaning.Values.{items_of, bool_of, number_of, in_limits, whole_of}
use Rattle.std.specs.Prelude.{ℤ, pos, negsuc}
use Rattle.json_form.specs.meaning.Texts.{head_of, word_of}
use Rattle.json_form.specs.meaning.Arrays.{Placed, placed, each_after, fixed, part}
use Rattle.json_form.proofs.Offered.{both_true}
use Rattle.json_form.specs.declared.hexadecimal.Digits.TheVariants as case
use Rattle.outage_schedule.specs.declared.note.Note.{Note}
use Rattle.outage_schedule.specs.declared.item.Item.{Item}
use Rattle.outage_schedule.specs.declared.item.Item.TheVariants as item
use Rattle.outage_schedule.specs.declared.item.Served.{Served}
use Rattle.note_forms.specs.declared.item.ServedAt.{ServedAt}
use Rattle.told_reports.specs.declared.place.ServedWord.{ServedWord}
use Rattle.told_reports.specs.declared.place.ServedWord.TheVariants as word
use Rattle.answer_forms.specs.meaning.Parts.{if_count, number_in, identifier_in, session_in, settings_in, call_in}
use Rattle.answer_forms.specs.meaning.Answers.{answers_in}
use Rattle.answer_forms.specs.meaning.Draws.{draws_in}
use Rattle.note_forms.specs.meaning.Told.{told_words, behind_of, told_by}
use Rattle.note_forms.specs.meaning.Notes.{count_in}
use Rattle.told_reports.specs.meaning.Places.{fits_event}
use Rattle.note_forms.specs.meaning.Items.{item_words, last_event, event_in, place_in, served_at, bare_in, begin_in, answered_in, blocked_in, told_in, refused_in, stopped_outcome_in, stopped_call_in, served_by, one_served, served_in}
use Rattle.report_text.specs.meaning.Octets.{ItemOfBytes, ServedOfBytes}
use Rattle.report_limits.specs.meaning.Limits.{fits_u64, fits_session}
use Rattle.reading_laws.specs.Reports.{fits_item, fits_served}
use Rattle.reading_laws.proofs.IfRead.{IfRead, if_kept, either_kept, then_kept, any_kept, part_then_kept, rest_kept, apart, weaker}
use Rattle.reading_laws.proofs.ValuesKept.{NumberKept, number_kept, IdentifierKept, identifier_kept, SessionKept, session_kept, SettingsKept, settings_kept, AnswersKept, answers_kept, DrawsKept, draws_kept}
use Rattle.reading_laws.proofs.CallsKept.{CallKept, call_kept}
use Rattle.reading_laws.proofs.NotesKept.{ToldKept, told_kept}

abbrev ServedKept : Served → Type 0
ServedKept one = ServedOfBytes one × (fits_served one ≡ true)

abbrev PlaceKept : ServedAt → Type 0
PlaceKept place = (fits_u64 place.event ≡ true) × (fits_session place.session ≡ true)

event_kept : (notes : List Note) (w : ServedWord) (last : ℕ) (d : Data) → IfRead NumberKept (event_in notes w last d)
event_kept notes w last d =
    then_kept NumberKept NumberKept (number_in d) _ (number_kept d) (λ event h. if_kept NumberKept (fits_event notes w last event) event (here Rule) (λ _. h))

place_kept : (notes : List Note) (w : ServedWord) (last : ℕ) (ds : Placed) → IfRead PlaceKept (place_in notes w last ds)
unfolding place_in
place_kept notes w last ds =
    part_then_kept NumberKept PlaceKept 1 (event_in notes w last) ds _ (event_kept notes w last) (λ event h.
    part_then_kept SessionKept PlaceKept 2 session_in ds _ session_kept (λ session g. (h, g)))

made : (place : ServedAt) (one : Item) → PlaceKept place → ItemOfBytes one → fits_item one ≡ true → ServedKept (served_at place one)
made place one at ok fits = (ok, both_true _ _ at.0 (both_true _ _ at.1 fits))

abbrev CauseKept : ℕ → Type 0
CauseKept cause = (nat_le 1 cause && nat_le cause 2) ≡ true

cause_limits : (z : ℤ) → IfRead CauseKept (in_limits 1 2 z)
cause_limits (pos n) = if_kept CauseKept (nat_le 1 n && nat_le n 2) n (here Limit) (λ h. h)
cause_limits (negsuc n) = tt

cause_kept : (d : Data) → IfRead CauseKept (whole_of 1 2 d)
unfolding whole_of
cause_kept d = any_kept CauseKept (number_of d) (in_limits 1 2) cause_limits

bare_kept : (notes : List Note) (last : ℕ) (w : ServedWord) (one : Item) (d : Data) → ItemOfBytes one → fits_item one ≡ true → IfRead ServedKept (bare_in notes last w one d)
unfolding bare_in
bare_kept notes last w one d ok fits =
    any_kept ServedKept (fixed 3 d) _ (λ ds. then_kept PlaceKept ServedKept (place_in notes w last ds) _ (place_kept notes w last ds) (λ place at. made place one at ok fits))

by_word_kept : (notes : List Note) (last : ℕ) (w : ServedWord) (d : Data) → IfRead ServedKept (served_by notes last w d)
unfolding begin_in answered_in blocked_in told_in refused_in stopped_outcome_in stopped_call_in
by_word_kept notes last word.Connect d = bare_kept notes last word.Connect item.Connect d tt refl
by_word_kept notes last word.Begin d =
    any_kept ServedKept (fixed 4 d) _ (λ ds. then_kept PlaceKept ServedKept (place_in notes word.Begin last ds) _ (place_kept notes word.Begin last ds) (λ place at.
    part_then_kept SettingsKept ServedKept 3 settings_in ds _ settings_kept (λ settings k. made place (item.Begin settings) at k.0 k.1)))
by_word_kept notes last word.Call d =
    any_kept ServedKept (fixed 7 d) _ (λ ds. then_kept PlaceKept ServedKept (place_in notes word.Call last ds) _ (place_kept notes word.Call last ds) (λ place at.
    any_kept ServedKept (part 3 bool_of ds) _ (λ replay. part_then_kept CallKept ServedKept 4 call_in ds _ (call_kept case.Lower) (λ call c.
    part_then_kept AnswersKept ServedKept 5 answers_in ds _ answers_kept (λ answers a. part_then_kept DrawsKept ServedKept 6 draws_in ds _ draws_kept (λ draws b.
    made place (item.Call replay call answers draws) at (c.0, (a.0, b.0)) (both_true _ _ c.1 (both_true _ _ a.1 b.1))))))))
by_word_kept notes last word.Blocked d =
    any_kept ServedKept (fixed 4 d) _ (λ ds. then_kept PlaceKept ServedKept (place_in notes word.Blocked last ds) _ (place_kept notes word.Blocked last ds) (λ place at.
    part_then_kept CallKept ServedKept 3 call_in ds _ (call_kept case.Lower) (λ call c. made place (item.Blocked call) at c.0 c.1)))
by_word_kept notes last word.Outcome d =
    any_kept ServedKept (items_of d) _ (λ is. then_kept PlaceKept ServedKept (place_in notes word.Outcome last (placed is)) _ (place_kept notes word.Outcome last (placed is)) (λ place at.
    part_then_kept IdentifierKept ServedKept 3 identifier_in (placed is) _ identifier_kept (λ x h. any_kept ServedKept (part 4 (word_of told_words) (placed is)) _ (λ w.
    any_kept ServedKept (if_count (5 + behind_of w) (items_len is)) _ (λ _. then_kept ToldKept ServedKept (told_by w 5 (placed is)) _ (told_kept w 5 (placed is)) (λ result g.
    made place (item.Outcome x result) at tt (both_true _ _ h g)))))))
by_word_kept notes last word.End d = bare_kept notes last word.End item.End d tt refl
by_word_kept notes last word.Close d = bare_kept notes last word.Close item.Close d tt refl
by_word_kept notes last word.Refused d =
    any_kept ServedKept (fixed 4 d) _ (λ ds. then_kept PlaceKept ServedKept (place_in notes word.Refused last ds) _ (place_kept notes word.Refused last ds) (λ place at.
    part_then_kept CauseKept ServedKept 3 (whole_of 1 2) ds _ cause_kept (λ cause h. made place (item.Refused cause) at tt h)))
by_word_kept notes last word.Crashed d =
    any_kept ServedKept (count_in d) _ (λ n. either_kept ServedKept (n == 4) _ _
    (any_kept ServedKept (fixed 4 d) _ (λ ds. then_kept PlaceKept ServedKept (place_in notes word.Crashed last ds) _ (place_kept notes word.Crashed last ds) (λ place at.
    part_then_kept IdentifierKept ServedKept 3 identifier_in ds _ identifier_kept (λ x h. made place (item.CrashedOutcome x) at tt h))))
    (any_kept ServedKept (fixed 5 d) _ (λ ds. then_kept PlaceKept ServedKept (place_in notes word.Crashed last ds) _ (place_kept notes word.Crashed last ds) (λ place at.
    any_kept ServedKept (part 3 bool_of ds) _ (λ replay. part_then_kept CallKept ServedKept 4 call_in ds _ (call_kept case.Lower) (λ call c.
    made place (item.CrashedCall replay call) at c.0 c.1))))))

one_kept : (notes : List Note) (last : ℕ) (d : Data) → IfRead ServedKept (one_served notes last d)
unfolding one_served
one_kept notes last d = any_kept ServedKept (head_of item_words d) _ (λ w. by_word_kept notes last w d)

abbrev pub ItemsKept : List Served → Type 0
ItemsKept xs = AllByRecursion ServedOfBytes xs × (list_all fits_served xs ≡ true)

pub served_kept : (notes : List Note) (d : Data) → IfRead ItemsKept (served_in notes d)
served_kept notes d =
    any_kept ItemsKept (items_of d) _ (λ ds. weaker (AllByRecursion ServedKept) ItemsKept (each_after (λ before. one_served notes (last_event before)) [] ds) (apart ServedOfBytes fits_served)
    (rest_kept ServedKept (λ before. one_served notes (last_event before)) (λ before. one_kept notes (last_event before)) [] ds tt))
