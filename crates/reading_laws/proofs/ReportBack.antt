-- A report but for the writes of its entries is read of what is written of it.
use Rattle.std.proofs.Common.{◌≡◌, ℕ, zero, suc, ◌^◌, ◌-◌, ◌==◌, List, [], ◌∷◌, ◌++◌, Bool, true, false, Option, Some, None, is_some, Ok, refl, subst, ap, codes, arith}
use Rattle.std.proofs.lemmas.Bool.{ltb-true, le-leb}
use Rattle.serde_json.specs.Data.{Data}
use Rattle.json_form.specs.meaning.Values.{whole_of}
use Rattle.json_form.specs.meaning.Objects.{required, member_in, optional}
use Rattle.json_form.specs.meaning.Writing.{text, whole, list_by, members}
use Rattle.json_form.proofs.Offered.{both_true}
use Rattle.outage_schedule.specs.declared.report.Report.{Report}
use Rattle.call_forms.specs.meaning.Values.{line_of}
use Rattle.answer_forms.specs.meaning.Parts.{identifiers_in}
use Rattle.entry_forms.specs.meaning.Requests.{clients_in}
use Rattle.note_forms.specs.meaning.Notes.{notes_in}
use Rattle.note_forms.specs.meaning.Items.{served_in}
use Rattle.entry_forms.specs.meaning.Entries.{entries_in, tables_in}
use Rattle.report_reader.specs.meaning.Reports.{alerts_in, front_in, middle_in, back_in, report_in, as_bad}
use Rattle.report_text.specs.meaning.Values.{identifier_value}
use Rattle.report_text.specs.meaning.Entries.{entry_value, table_value}
use Rattle.report_text.specs.meaning.Requests.{request_value}
use Rattle.report_text.specs.meaning.Notes.{note_value}
use Rattle.report_text.specs.meaning.Items.{served_value}
use Rattle.report_text.specs.meaning.Report.{forgotten_member, image_member, report_value}
use Rattle.report_text.specs.meaning.Octets.{ImageOfBytes}
use Rattle.report_text.specs.Laws.{shown_report}
use Rattle.reading_laws.specs.Laws.{ReadsWhatIsWritten}
use Rattle.report_limits.specs.meaning.Limits.{fits_u64, fits_line}
use Rattle.reading_laws.specs.Reports.{IsOfForm}
use Rattle.reading_laws.proofs.ListsBack.{octets_back, plain_back}
use Rattle.reading_laws.proofs.ValuesBack.{line_back}
use Rattle.reading_laws.proofs.NotesBack.{notes_back}
use Rattle.reading_laws.proofs.ItemsBack.{served_back}
use Rattle.reading_laws.proofs.EntriesBack.{entries_back, tables_back, identifiers_back, clients_back}

-- what is written of the members of a report
pub record Written : Type 0 where
  pub alerts : Data
  pub blocked : Data
  pub clients : Data
  pub entries : Data
  pub notes : Data
  pub served : Data
  pub tables : Data

abbrev pub whole_of_parts : Written → ℕ → Option (List ℕ) → Data
whole_of_parts w horizon image = members (
    (codes "alerts", w.alerts)
    ∷ (codes "blocked", w.blocked)
    ∷ (codes "clients", w.clients)
    ∷ (codes "entries", w.entries)
    ∷ (forgotten_member horizon ++ (image_member image ++ (
    (codes "notes", w.notes)
    ∷ (codes "served", w.served)
    ∷ (codes "tables", w.tables)
    ∷ []))))

-- each member is read as what the report has
record ReadsParts (w : Written) (r : Report) : Type 0 where
  alerts : alerts_in w.alerts ≡ Ok r.alerts
  blocked : identifiers_in w.blocked ≡ Ok r.blocked
  clients : clients_in w.clients ≡ Ok r.clients
  entries : entries_in w.entries ≡ Ok r.entries
  notes : notes_in w.notes ≡ Ok r.notes
  served : served_in r.notes w.served ≡ Ok r.served
  tables : tables_in w.tables ≡ Ok r.tables

pub not_zero : (n : ℕ) → (suc n == 0) ≡ false
not_zero n = grind arith

horizon_back : (n : ℕ) → fits_u64 (suc n) ≡ true → whole_of 1 (2 ^ 64 - 1) (whole (suc n)) ≡ Ok (suc n)
unfolding whole_of
horizon_back n fits =
    let below = ltb-true (suc n) (2 ^ 64) fits in
    rw (both_true _ _ (le-leb 1 (suc n) (omega arith)) (le-leb (suc n) (2 ^ 64 - 1) (omega (arith, below)))) refl

abbrev pub with_others : Report → ℕ → Option (List ℕ) → Report
with_others r horizon image = record r { forgotten = horizon; image = image }

parts_back : (w : Written) (r : Report) (horizon : ℕ) (image : Option (List ℕ)) → ReadsParts w r → fits_u64 horizon ≡ true → ImageOfBytes image
    → report_in (is_some image) (whole_of_parts w horizon image) ≡ Ok (with_others r horizon image)
unfolding report_in front_in middle_in back_in member_in required optional
parts_back w r zero None p fits ok = rw (p.alerts, p.blocked, p.clients, p.entries, p.notes, p.served, p.tables) refl
parts_back w r zero (Some bytes) p fits ok = rw (p.alerts, p.blocked, p.clients, p.entries, octets_back bytes ok, p.notes, p.served, p.tables) refl
parts_back w r (suc n) None p fits ok = rw (not_zero n, p.alerts, p.blocked, p.clients, p.entries, horizon_back n fits, p.notes, p.served, p.tables) refl
parts_back w r (suc n) (Some bytes) p fits ok =
    rw (not_zero n, p.alerts, p.blocked, p.clients, p.entries, horizon_back n fits, octets_back bytes ok, p.notes, p.served, p.tables) refl

abbrev pub written : Report → Written
written r = record {
  alerts = list_by text r.alerts;
  blocked = list_by identifier_value r.blocked;
  clients = list_by (list_by request_value) r.clients;
  entries = list_by entry_value r.entries;
  notes = list_by note_value r.notes;
  served = list_by served_value r.served;
  tables = list_by table_value r.tables;
}

reads_parts : (r : Report) → IsOfForm r → ReadsParts (written r) (shown_report r)
reads_parts r form = record {
  alerts = plain_back fits_line line_of text line_back r.alerts form.alerts;
  blocked = identifiers_back r.blocked form.blocked;
  clients = clients_back r.clients form.octets.0 form.clients;
  entries = entries_back r.entries form.octets.1 form.entries form.told.entries;
  notes = notes_back r.notes form.octets.3 form.notes;
  served = served_back r.notes r.served form.octets.4 form.served form.told.items form.told.events;
  tables = tables_back r.tables form.octets.5 form.tables;
}

pub is_written : (r : Report) → report_value r ≡ whole_of_parts (written r) r.forgotten r.image
unfolding report_value
is_written r = refl

pub report_back : ReadsWhatIsWritten
report_back document r form asked =
    let read = parts_back (written r) (shown_report r) r.forgotten r.image (reads_parts r form) form.forgotten form.octets.2 in
    ap as_bad (subst (λ (print : Bool). report_in print (report_value r) ≡ Ok (shown_report r)) asked (rw (is_written r) read))
