-- The form of a report is made of its calls, its events and the limits of its types.
use Rattle.std.proofs.Common.{◌≡◌, ◌&&◌, Bool, true, List, [], ◌∷◌, None, refl}
use Rattle.std.specs.Prelude.{IsTrue}
use Rattle.std.specs.List.{list_all}
use Rattle.std.proofs.lemmas.Bool.{and_from, and_parts}
use Rattle.svc_values.specs.declared.call.Call.{Call}
use Rattle.svc_values.specs.declared.entry.Entry.{Entry}
use Rattle.svc_values.specs.declared.entry.Piece.{Piece}
use Rattle.svc_values.specs.meaning.Calls.{is_made}
use Rattle.outage_schedule.specs.declared.item.Item.{Item}
use Rattle.outage_schedule.specs.declared.item.Item.TheVariants as item
use Rattle.outage_schedule.specs.declared.item.Served.{Served}
use Rattle.outage_schedule.specs.declared.report.Report.{Report}
use Rattle.told_reports.specs.Keeping.{events_fit, is_entry, is_item}
use Rattle.told_reports.specs.meaning.Settings.{names_rise}
use Rattle.reading_laws.specs.Calls.{fits_call}
use Rattle.report_limits.specs.meaning.Limits.{fits_identifier, fits_replies, fits_session, fits_settings, fits_u64}
use Rattle.reading_laws.specs.Reports.{fits_item, fits_served, IsOfForm, fits_entry, fits_piece}
use Rattle.report_limits.specs.meaning.Reports.{KeepsLimits, entry_fits, item_fits, piece_fits, served_fits, settings_fit}
use Rattle.world_model.proofs.Offered.{weaker_all}
use Rattle.form_laws.specs.Laws.{EventsAreFit, ReportsHaveTheForm, ServedCallsPass, StoredCallsPass, entry_passes, item_passes, served_pass}
use Rattle.form_laws.proofs.Documents.{call_passes, document_passes}

-- ---- two facts of each

both_pass : {A : Type 0} (one two three : A → Bool) → ((x : A) → one x ≡ true → two x ≡ true → three x ≡ true) → (xs : List A) → list_all one xs ≡ true → list_all two xs ≡ true → list_all three xs ≡ true
both_pass one two three makes [] first second = refl
both_pass one two three makes (x ∷ xs) first second =
    let a = and_parts (one x) (list_all one xs) first in
    let b = and_parts (two x) (list_all two xs) second in
    and_from (three x) (list_all three xs) (makes x a.0 b.0) (both_pass one two three makes xs a.1 b.1)

-- ---- calls

fits_of : (one : Call) → call_passes one ≡ true → fits_call one ≡ true
fits_of one here = (and_parts (fits_call one) (is_made one) here).0

made_of : (one : Call) → call_passes one ≡ true → is_made one ≡ true
made_of one here = (and_parts (fits_call one) (is_made one) here).1

-- ---- entries

abbrev piece_passes : Piece → Bool
piece_passes piece = call_passes piece.call

entry_has : (entry : Entry) → entry_fits entry ≡ true → entry_passes call_passes entry ≡ true → fits_entry entry ≡ true
entry_has entry fits here =
    let identifier = and_parts (fits_identifier entry.ltxid) (settings_fit entry.settings && list_all piece_fits entry.pieces) fits in
    let settings = and_parts (settings_fit entry.settings) (list_all piece_fits entry.pieces) identifier.1 in
    and_from (fits_identifier entry.ltxid) (fits_settings entry.settings && list_all fits_piece entry.pieces) identifier.0
    (and_from (fits_settings entry.settings) (list_all fits_piece entry.pieces) (and_parts (names_rise None entry.settings) (fits_settings entry.settings) settings.0).1
    (both_pass piece_fits piece_passes fits_piece (λ piece one two. and_from (fits_call piece.call) (fits_replies piece.answers piece.draws) (fits_of piece.call two) one) entry.pieces settings.1 here))

entry_told : (entry : Entry) → entry_fits entry ≡ true → entry_passes call_passes entry ≡ true → is_entry entry ≡ true
entry_told entry fits here =
    let identifier = and_parts (fits_identifier entry.ltxid) (settings_fit entry.settings && list_all piece_fits entry.pieces) fits in
    let settings = and_parts (settings_fit entry.settings) (list_all piece_fits entry.pieces) identifier.1 in
    and_from (names_rise None entry.settings) (list_all (λ piece. is_made piece.call) entry.pieces) (and_parts (names_rise None entry.settings) (fits_settings entry.settings) settings.0).0
    (weaker_all piece_passes (λ piece. is_made piece.call) entry.pieces (λ piece one. made_of piece.call one) here)

-- ---- items

item_has : (one : Item) → item_fits one ≡ true → item_passes call_passes one ≡ true → fits_item one ≡ true
item_has item.Connect fits here = refl
item_has (item.Begin settings) fits here = (and_parts (names_rise None settings) (fits_settings settings) fits).1
item_has (item.Call replay call answers draws) fits here = and_from (fits_call call) (fits_replies answers draws) (fits_of call here) fits
item_has (item.Blocked call) fits here = fits_of call here
item_has (item.Outcome x result) fits here = fits
item_has item.End fits here = refl
item_has item.Close fits here = refl
item_has (item.Refused cause) fits here = absurd (let none : ⊥ = cc in none)
item_has (item.CrashedCall replay call) fits here = fits_of call here
item_has (item.CrashedOutcome x) fits here = fits

item_told : (one : Item) → item_fits one ≡ true → item_passes call_passes one ≡ true → is_item one ≡ true
item_told item.Connect fits here = refl
item_told (item.Begin settings) fits here = (and_parts (names_rise None settings) (fits_settings settings) fits).0
item_told (item.Call replay call answers draws) fits here = made_of call here
item_told (item.Blocked call) fits here = made_of call here
item_told (item.Outcome x result) fits here = refl
item_told item.End fits here = refl
item_told item.Close fits here = refl
item_told (item.Refused cause) fits here = refl
item_told (item.CrashedCall replay call) fits here = made_of call here
item_told (item.CrashedOutcome x) fits here = refl

abbrev one_passes : Served → Bool
one_passes one = item_passes call_passes one.item

served_has : (one : Served) → served_fits one ≡ true → one_passes one ≡ true → fits_served one ≡ true
served_has one fits here =
    let number = and_parts (fits_u64 one.event) (fits_session one.session && item_fits one.item) fits in
    let session = and_parts (fits_session one.session) (item_fits one.item) number.1 in
    and_from (fits_u64 one.event) (fits_session one.session && fits_item one.item) number.0 (and_from (fits_session one.session) (fits_item one.item) session.0 (item_has one.item session.1 here))

served_told : (one : Served) → served_fits one ≡ true → one_passes one ≡ true → is_item one.item ≡ true
served_told one fits here =
    let number = and_parts (fits_u64 one.event) (fits_session one.session && item_fits one.item) fits in
    item_told one.item (and_parts (fits_session one.session) (item_fits one.item) number.1).1 here

-- ---- the report

form_of : (report : Report) → KeepsLimits report → served_pass call_passes report ≡ true → list_all (entry_passes call_passes) report.entries ≡ true → IsTrue (events_fit report.notes 0 report.served) → IsOfForm report
form_of report limits served stored events = record {
  octets = limits.octets;
  alerts = limits.alerts;
  blocked = limits.blocked;
  clients = limits.clients;
  entries = both_pass entry_fits (entry_passes call_passes) fits_entry entry_has report.entries limits.entries stored;
  forgotten = limits.forgotten;
  notes = limits.notes;
  served = both_pass served_fits one_passes fits_served served_has report.served limits.served served;
  tables = limits.tables;
  told = record {
    events = events;
    items = both_pass served_fits one_passes (λ one. is_item one.item) served_told report.served limits.served served;
    entries = both_pass entry_fits (entry_passes call_passes) is_entry entry_told report.entries limits.entries stored;
  };
}

pub forms_made : EventsAreFit → ServedCallsPass → StoredCallsPass → ReportsHaveTheForm
forms_made events served stored bytes document report read followed legally limits =
    let own = document_passes bytes document read in
    let were_served : served_pass call_passes report ≡ true = served call_passes document report own.0 followed in
    form_of report limits were_served (stored call_passes document report own.1 were_served legally) (events document report followed)
