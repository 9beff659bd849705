-- What sessions served is read of what is written of it.
use Rattle.std.proofs.Common.{◌≡◌, ℕ, ◌&&◌, List, [], ◌∷◌, ◌++◌, map, true, Option, Some, Ok, refl, sym, ap, ◌∙◌, append_assoc, append-nil}
use Rattle.std.specs.List.{AllByRecursion, list_all, last_or}
use Rattle.std.specs.Option.{option_map_or}
use Rattle.serde_json.specs.View.{items_of}
use Rattle.json_form.specs.meaning.Values.{whole_of}
use Rattle.json_form.specs.meaning.Arrays.{each_after, part}
use Rattle.json_form.specs.meaning.Writing.{whole, list_by}
use Rattle.json_form.proofs.Offered.{first_true, second_true}
use Rattle.svc_values.specs.declared.entry.SessionId.{SessionId}
use Rattle.outage_schedule.specs.declared.note.AskResult.TheVariants as told
use Rattle.outage_schedule.specs.declared.note.Note.{Note}
use Rattle.outage_schedule.specs.declared.item.Item.{Item}
use Rattle.outage_schedule.specs.declared.item.Item.TheVariants as item
use Rattle.outage_schedule.specs.declared.item.Served.{Served}
use Rattle.told_reports.specs.meaning.Places.{fits_event}
use Rattle.note_forms.specs.meaning.Items.{last_event, place_in, bare_in, begin_in, answered_in, blocked_in, told_in, refused_in, stopped_outcome_in, stopped_call_in, one_served, served_in}
use Rattle.told_reports.specs.Keeping.{word_of_item, events_fit, is_item}
use Rattle.report_text.specs.meaning.Values.{session_value}
use Rattle.report_text.specs.meaning.Items.{item_value, served_value}
use Rattle.report_text.specs.meaning.Octets.{ItemOfBytes, ServedOfBytes}
use Rattle.report_limits.specs.meaning.Limits.{fits_u64, fits_session, fits_replies}
use Rattle.reading_laws.specs.Calls.{fits_call}
use Rattle.reading_laws.specs.Reports.{fits_item, fits_served}
use Rattle.reading_laws.proofs.ListsBack.{number_back, both_of}
use Rattle.reading_laws.proofs.ValuesBack.{settings_back, identifier_back, session_back, answers_back, draws_back}
use Rattle.reading_laws.proofs.CallsBack.{call_back}

cause_back : (cause : ℕ) → fits_item (item.Refused cause) ≡ true → whole_of 1 2 (whole cause) ≡ Ok cause
unfolding whole_of
cause_back cause fits = rw fits refl

-- an event and a session that were written
record Stands (notes : List Note) (last e : ℕ) (s : SessionId) (x : Item) : Type 0 where
  event : fits_u64 e ≡ true
  session : fits_session s ≡ true
  fits : fits_event notes (word_of_item x) last e ≡ true

item_back : (notes : List Note) (last e : ℕ) (s : SessionId) (x : Item) → ItemOfBytes x → fits_item x ≡ true → is_item x ≡ true → Stands notes last e s x
    → one_served notes last (item_value (whole e) (session_value s) x) ≡ Ok (record { event = e; session = s; item = x })
unfolding item_value one_served place_in bare_in begin_in answered_in blocked_in told_in refused_in stopped_outcome_in stopped_call_in part
item_back notes last e s item.Connect ok fits kept st = rw (number_back e st.event, st.fits, session_back s st.session) refl
item_back notes last e s (item.Begin settings) ok fits kept st =
    rw (number_back e st.event, st.fits, session_back s st.session, settings_back settings ok fits kept) refl
item_back notes last e s (item.Call replay call answers draws) ok fits kept st =
    let replies = second_true (fits_call call) (fits_replies answers draws) fits in
    let fits_parts = both_of _ _ fits in
    let replies_parts = both_of _ _ replies in
    rw (number_back e st.event, st.fits, session_back s st.session, call_back call ok.0 fits_parts.0 kept, answers_back answers ok.1.0 replies_parts.0, draws_back draws ok.1.1 replies_parts.1) refl
item_back notes last e s (item.Blocked call) ok fits kept st =
    rw (number_back e st.event, st.fits, session_back s st.session, call_back call ok fits kept) refl
item_back notes last e s (item.Outcome x (told.Committed completed)) ok fits kept st =
    let fits_parts = both_of _ _ fits in
    rw (number_back e st.event, st.fits, session_back s st.session, identifier_back x fits_parts.0) refl
item_back notes last e s (item.Outcome x told.Uncommitted) ok fits kept st =
    let fits_parts = both_of _ _ fits in
    rw (number_back e st.event, st.fits, session_back s st.session, identifier_back x fits_parts.0) refl
item_back notes last e s (item.Outcome x (told.ServerAhead next)) ok fits kept st =
    let fits_parts = both_of _ _ fits in
    rw (number_back e st.event, st.fits, session_back s st.session, identifier_back x fits_parts.0, number_back next fits_parts.1) refl
item_back notes last e s (item.Outcome x (told.ClientAhead next)) ok fits kept st =
    let fits_parts = both_of _ _ fits in
    rw (number_back e st.event, st.fits, session_back s st.session, identifier_back x fits_parts.0, number_back next fits_parts.1) refl
item_back notes last e s (item.Outcome x (told.Forgotten horizon)) ok fits kept st =
    let fits_parts = both_of _ _ fits in
    rw (number_back e st.event, st.fits, session_back s st.session, identifier_back x fits_parts.0, number_back horizon fits_parts.1) refl
item_back notes last e s item.End ok fits kept st = rw (number_back e st.event, st.fits, session_back s st.session) refl
item_back notes last e s item.Close ok fits kept st = rw (number_back e st.event, st.fits, session_back s st.session) refl
item_back notes last e s (item.Refused cause) ok fits kept st =
    rw (number_back e st.event, st.fits, session_back s st.session, cause_back cause fits) refl
item_back notes last e s (item.CrashedCall replay call) ok fits kept st =
    rw (number_back e st.event, st.fits, session_back s st.session, call_back call ok fits kept) refl
item_back notes last e s (item.CrashedOutcome x) ok fits kept st =
    rw (number_back e st.event, st.fits, session_back s st.session, identifier_back x fits) refl

last_push : (o : Option Served) (before : List Served) (one : Served) → last_or o (before ++ one ∷ []) ≡ Some one
last_push o [] one = refl
last_push o (first ∷ before) one = last_push (Some first) before one

-- the items that are left, behind those that were read
served_rest : (notes : List Note) (before rest : List Served) → AllByRecursion ServedOfBytes rest → list_all fits_served rest ≡ true
    → list_all (λ one. is_item one.item) rest ≡ true → events_fit notes (last_event before) rest ≡ true
    → each_after (λ before. one_served notes (last_event before)) before (items_of (map served_value rest)) ≡ Ok (before ++ rest)
served_rest notes before [] ok fits kept up = ap Ok (sym (append-nil before))
served_rest notes before (one ∷ rest) ok fits kept up =
    let this = first_true _ _ fits in
    let parts = second_true (fits_u64 one.event) (fits_session one.session && fits_item one.item) this in
    let back = item_back notes (last_event before) one.event one.session one.item ok.0 (second_true _ _ parts) (first_true _ _ kept) (record {
      event = first_true _ _ this;
      session = first_true _ _ parts;
      fits = first_true _ _ up;
    }) in
    let same : last_event (before ++ one ∷ []) ≡ one.event = ap (λ (o : Option Served). option_map_or (λ (s : Served). s.event) o 0) (last_push _ before one) in
    rw back
    (served_rest notes (before ++ one ∷ []) rest ok.1 (second_true _ _ fits) (second_true _ _ kept) (ap (λ last. events_fit notes last rest) same ∙ second_true _ _ up)
    ∙ ap Ok (append_assoc before (one ∷ []) rest))

pub served_back : (notes : List Note) (xs : List Served) → AllByRecursion ServedOfBytes xs → list_all fits_served xs ≡ true
    → list_all (λ one. is_item one.item) xs ≡ true → events_fit notes 0 xs ≡ true → served_in notes (list_by served_value xs) ≡ Ok xs
served_back notes xs ok fits kept up = served_rest notes [] xs ok fits kept up
