-- A report but for the writes of its entries is read back from what is written of it, so what is
-- written of two reports is the same only where they are.
use Rattle.std.proofs.Common.{◌≡◌, ℕ, zero, suc, false, List, [], ◌∷◌, ◌++◌, map, ◌==◌, refl, ap, sym, ◌∙◌, codes, arith}
use Rattle.std.specs.Prelude.{Option, Some, None}
use Rattle.std.specs.List.{AllByRecursion}
use Rattle.serde_json.specs.Data.{Data, null}
use Rattle.json_form.specs.meaning.Writing.{text, list_by, members}
use Rattle.svc_values.specs.declared.entry.Entry.{Entry}
use Rattle.outage_schedule.specs.declared.report.Report.{Report}
use Rattle.report_text.specs.meaning.Values.{identifier_value}
use Rattle.report_text.specs.meaning.Entries.{entry_value, table_value}
use Rattle.report_text.specs.meaning.Requests.{request_value}
use Rattle.report_text.specs.meaning.Notes.{note_value}
use Rattle.report_text.specs.meaning.Items.{served_value}
use Rattle.report_text.specs.meaning.Report.{forgotten_member, image_member, report_value}
use Rattle.report_text.specs.meaning.Octets.{EntryOfBytes, ImageOfBytes, NoteOfBytes, RequestOfBytes, ReportOfBytes, ServedOfBytes, TableOfBytes}
use Rattle.report_text.specs.Laws.{IsOfOneReport, shown_entry, shown_report}
use Rattle.report_text.proofs.Places.{nat_in, text_in, members_in, value_at, digits_in, list_in, digits_back, list_back, all_back}
use Rattle.report_text.proofs.EntriesBack.{entry_in, entry_back, table_in, table_back, identifiers_in, identifiers_back, transcript_in, transcript_back}
use Rattle.report_text.proofs.NotesBack.{note_in, note_back}
use Rattle.report_text.proofs.ItemsBack.{served_in, served_back}

abbrev image_in : Data → Option (List ℕ)
image_in null = None
image_in d = Some (digits_in d)

abbrev report_in : Data → Report
report_in d = record {
  alerts = list_in text_in (value_at (codes "alerts") (members_in d));
  blocked = identifiers_in (value_at (codes "blocked") (members_in d));
  clients = list_in transcript_in (value_at (codes "clients") (members_in d));
  entries = list_in entry_in (value_at (codes "entries") (members_in d));
  forgotten = nat_in (value_at (codes "forgotten") (members_in d));
  image = image_in (value_at (codes "image") (members_in d));
  notes = list_in note_in (value_at (codes "notes") (members_in d));
  served = list_in served_in (value_at (codes "served") (members_in d));
  tables = list_in table_in (value_at (codes "tables") (members_in d));
}

-- the members of a report
abbrev pub whole_of : Data → Data → Data → Data → ℕ → Option (List ℕ) → Data → Data → Data → Data
whole_of alerts blocked clients entries horizon image notes served tables = members (
    (codes "alerts", alerts)
    ∷ (codes "blocked", blocked)
    ∷ (codes "clients", clients)
    ∷ (codes "entries", entries)
    ∷ (forgotten_member horizon ++ (image_member image ++ (
    (codes "notes", notes)
    ∷ (codes "served", served)
    ∷ (codes "tables", tables)
    ∷ []))))

-- what is read of each member
abbrev read_of : Data → Data → Data → Data → ℕ → Option (List ℕ) → Data → Data → Data → Report
read_of alerts blocked clients entries horizon image notes served tables = record {
  alerts = list_in text_in alerts;
  blocked = identifiers_in blocked;
  clients = list_in transcript_in clients;
  entries = list_in entry_in entries;
  forgotten = horizon;
  image = image;
  notes = list_in note_in notes;
  served = list_in served_in served;
  tables = list_in table_in tables;
}

pub not_zero : (n : ℕ) → (suc n == 0) ≡ false
not_zero n = grind arith

whole_back : (alerts blocked clients entries : Data) (horizon : ℕ) (image : Option (List ℕ)) (notes served tables : Data) → ImageOfBytes image
    → report_in (whole_of alerts blocked clients entries horizon image notes served tables) ≡ read_of alerts blocked clients entries horizon image notes served tables
whole_back alerts blocked clients entries zero None notes served tables ok = refl
whole_back alerts blocked clients entries zero (Some bytes) notes served tables ok = rw (digits_back bytes ok) refl
whole_back alerts blocked clients entries (suc n) None notes served tables ok = rw (not_zero n) refl
whole_back alerts blocked clients entries (suc n) (Some bytes) notes served tables ok = rw (not_zero n, digits_back bytes ok) refl

entries_back : (xs : List Entry) → AllByRecursion EntryOfBytes xs → list_in entry_in (list_by entry_value xs) ≡ map shown_entry xs
entries_back [] all = refl
entries_back (x ∷ xs) all = rw (entry_back x all.0, entries_back xs all.1) refl

report_back : (r : Report) → ReportOfBytes r → report_in (report_value r) ≡ shown_report r
unfolding report_value
report_back r ok =
    whole_back (list_by text r.alerts) (list_by identifier_value r.blocked) (list_by (list_by request_value) r.clients) (list_by entry_value r.entries) r.forgotten r.image (list_by note_value r.notes) (list_by served_value r.served) (list_by table_value r.tables) ok.2
    ∙ rw (
      all_back text_in text (λ line. refl) r.alerts,
      identifiers_back r.blocked,
      list_back (AllByRecursion RequestOfBytes) transcript_in (list_by request_value) transcript_back r.clients ok.0,
      entries_back r.entries ok.1,
      list_back NoteOfBytes note_in note_value note_back r.notes ok.3,
      list_back ServedOfBytes served_in served_value served_back r.served ok.4,
      list_back TableOfBytes table_in table_value table_back r.tables ok.5,
    ) refl

pub one_report : IsOfOneReport
one_report a b first second same = sym (report_back a first) ∙ (ap report_in same ∙ report_back b second)
