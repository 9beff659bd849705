-- Of what sessions served nothing else is read than what was written.
use Rattle.std.proofs.Common.{◌≡◌, ℕ, List, [], Some, refl}
use Rattle.json_form.specs.meaning.Values.{whole_of}
use Rattle.json_form.specs.meaning.Arrays.{Placed}
use Rattle.json_form.specs.meaning.Writing.{whole, list_by}
use Rattle.svc_values.specs.declared.entry.SessionId.{SessionId}
use Rattle.outage_schedule.specs.declared.note.AskResult.TheVariants as told
use Rattle.outage_schedule.specs.declared.note.Note.{Note}
use Rattle.outage_schedule.specs.declared.item.Item.{Item}
use Rattle.outage_schedule.specs.declared.item.Item.TheVariants as item
use Rattle.outage_schedule.specs.declared.item.Served.{Served}
use Rattle.note_forms.specs.declared.item.ServedAt.{ServedAt}
use Rattle.told_reports.specs.declared.place.ServedWord.{ServedWord}
use Rattle.told_reports.specs.declared.place.ServedWord.TheVariants as word
use Rattle.note_forms.specs.meaning.Items.{last_event, event_in, place_in, bare_in, begin_in, answered_in, blocked_in, told_in, refused_in, stopped_outcome_in, stopped_call_in, one_served, served_in}
use Rattle.report_text.specs.meaning.Values.{session_value}
use Rattle.report_text.specs.meaning.Items.{item_value, served_value}
use Rattle.reading_laws.proofs.ValuesOrFault.{number_so, settings_so, identifier_so, session_so, answers_so, draws_so}
use Rattle.reading_laws.proofs.CallsOrFault.{call_so}
use Rattle.reading_laws.proofs.OrFault.{OrFault, or_if, and_then, part_then, rest_so}

abbrev at_place : ℕ → SessionId → ServedAt
at_place e s = record { event = e; session = s }

event_so : (notes : List Note) (w : ServedWord) (last e : ℕ) → OrFault e (event_in notes w last (whole e))
event_so notes w last e = and_then _ _ e e (number_so e) (or_if _ e _)

place_so : (notes : List Note) (w : ServedWord) (last e : ℕ) (s : SessionId) (ds : Placed) → ds 1 ≡ Some (whole e) → ds 2 ≡ Some (session_value s) → OrFault (at_place e s) (place_in notes w last ds)
unfolding place_in
place_so notes w last e s ds first second = part_then _ _ _ _ _ _ _ first (event_so notes w last e) (part_then _ _ _ _ _ _ _ second (session_so s) refl)

cause_so : (cause : ℕ) → OrFault cause (whole_of 1 2 (whole cause))
unfolding whole_of
cause_so cause = or_if _ cause _

item_so : (notes : List Note) (last e : ℕ) (s : SessionId) (x : Item) → OrFault (record { event = e; session = s; item = x }) (one_served notes last (item_value (whole e) (session_value s) x))
unfolding item_value one_served bare_in begin_in answered_in blocked_in told_in refused_in stopped_outcome_in stopped_call_in
item_so notes last e s item.Connect = and_then _ _ (at_place e s) _ (place_so notes word.Connect last e s _ refl refl) refl
item_so notes last e s (item.Begin settings) =
    and_then _ _ (at_place e s) _ (place_so notes word.Begin last e s _ refl refl) (part_then _ _ _ _ _ settings _ refl (settings_so settings) refl)
item_so notes last e s (item.Call replay call answers draws) =
    and_then _ _ (at_place e s) _ (place_so notes word.Call last e s _ refl refl)
    (part_then _ _ _ _ _ replay _ refl refl (part_then _ _ _ _ _ call _ refl (call_so call)
    (part_then _ _ _ _ _ answers _ refl (answers_so answers) (part_then _ _ _ _ _ draws _ refl (draws_so draws) refl))))
item_so notes last e s (item.Blocked call) =
    and_then _ _ (at_place e s) _ (place_so notes word.Blocked last e s _ refl refl) (part_then _ _ _ _ _ call _ refl (call_so call) refl)
item_so notes last e s (item.Outcome x (told.Committed completed)) =
    and_then _ _ (at_place e s) _ (place_so notes word.Outcome last e s _ refl refl) (part_then _ _ _ _ _ _ _ refl (identifier_so x) (part_then _ _ _ _ _ _ _ refl refl
    (and_then _ _ (told.Committed completed) _ (part_then _ _ _ _ _ _ _ refl refl refl) refl)))
item_so notes last e s (item.Outcome x told.Uncommitted) =
    and_then _ _ (at_place e s) _ (place_so notes word.Outcome last e s _ refl refl) (part_then _ _ _ _ _ _ _ refl (identifier_so x) (part_then _ _ _ _ _ _ _ refl refl refl))
item_so notes last e s (item.Outcome x (told.ServerAhead next)) =
    and_then _ _ (at_place e s) _ (place_so notes word.Outcome last e s _ refl refl) (part_then _ _ _ _ _ _ _ refl (identifier_so x) (part_then _ _ _ _ _ _ _ refl refl
    (and_then _ _ (told.ServerAhead next) _ (part_then _ _ _ _ _ _ _ refl (number_so next) refl) refl)))
item_so notes last e s (item.Outcome x (told.ClientAhead next)) =
    and_then _ _ (at_place e s) _ (place_so notes word.Outcome last e s _ refl refl) (part_then _ _ _ _ _ _ _ refl (identifier_so x) (part_then _ _ _ _ _ _ _ refl refl
    (and_then _ _ (told.ClientAhead next) _ (part_then _ _ _ _ _ _ _ refl (number_so next) refl) refl)))
item_so notes last e s (item.Outcome x (told.Forgotten horizon)) =
    and_then _ _ (at_place e s) _ (place_so notes word.Outcome last e s _ refl refl) (part_then _ _ _ _ _ _ _ refl (identifier_so x) (part_then _ _ _ _ _ _ _ refl refl
    (and_then _ _ (told.Forgotten horizon) _ (part_then _ _ _ _ _ _ _ refl (number_so horizon) refl) refl)))
item_so notes last e s item.End = and_then _ _ (at_place e s) _ (place_so notes word.End last e s _ refl refl) refl
item_so notes last e s item.Close = and_then _ _ (at_place e s) _ (place_so notes word.Close last e s _ refl refl) refl
item_so notes last e s (item.Refused cause) =
    and_then _ _ (at_place e s) _ (place_so notes word.Refused last e s _ refl refl) (part_then _ _ _ _ _ cause _ refl (cause_so cause) refl)
item_so notes last e s (item.CrashedCall replay call) =
    and_then _ _ (at_place e s) _ (place_so notes word.Crashed last e s _ refl refl)
    (part_then _ _ _ _ _ replay _ refl refl (part_then _ _ _ _ _ call _ refl (call_so call) refl))
item_so notes last e s (item.CrashedOutcome x) =
    and_then _ _ (at_place e s) _ (place_so notes word.Crashed last e s _ refl refl) (part_then _ _ _ _ _ _ _ refl (identifier_so x) refl)

pub served_so : (notes : List Note) (xs : List Served) → OrFault xs (served_in notes (list_by served_value xs))
served_so notes xs =
    rest_so (λ before. one_served notes (last_event before)) served_value (λ before one. item_so notes (last_event before) one.event one.session one.item) [] xs
