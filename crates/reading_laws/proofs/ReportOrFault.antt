-- Of a report nothing else is read than what was written of it.
use Rattle.std.proofs.Common.{ℕ, zero, suc, ◌^◌, ◌-◌, List, Bool, true, false, Option, Some, None, Result, Ok, Err, refl, subst}
use Rattle.json_form.specs.meaning.Faults.{Fault}
use Rattle.json_form.specs.meaning.Values.{whole_of}
use Rattle.json_form.specs.meaning.Objects.{required}
use Rattle.json_form.specs.meaning.Writing.{text, whole}
use Rattle.outage_schedule.specs.declared.document.Document.{Document}
use Rattle.outage_schedule.specs.declared.report.Report.{Report}
use Rattle.call_forms.specs.meaning.Values.{line_of}
use Rattle.report_reader.specs.declared.report.Front.{Front}
use Rattle.report_reader.specs.declared.report.Middle.{Middle}
use Rattle.report_reader.specs.declared.report.Back.{Back}
use Rattle.answer_forms.specs.meaning.Parts.{identifiers_in}
use Rattle.entry_forms.specs.meaning.Requests.{clients_in}
use Rattle.note_forms.specs.meaning.Notes.{notes_in}
use Rattle.note_forms.specs.meaning.Items.{served_in}
use Rattle.entry_forms.specs.meaning.Entries.{entries_in, tables_in}
use Rattle.report_reader.specs.meaning.Reports.{alerts_in, image_bytes_in, front_in, middle_in, back_in, report_in, as_bad, report_of}
use Rattle.report_text.specs.meaning.Values.{digits}
use Rattle.report_text.specs.meaning.Report.{report_value}
use Rattle.report_text.specs.Laws.{shown_report}
use Rattle.reading_laws.specs.Laws.{ReadsNothingElse}
use Rattle.reading_laws.proofs.ReportBack.{Written, whole_of_parts, written, not_zero, with_others, is_written}
use Rattle.reading_laws.proofs.OctetsOrFault.{octets_so}
use Rattle.reading_laws.proofs.ValuesOrFault.{line_so}
use Rattle.reading_laws.proofs.NotesOrFault.{notes_so}
use Rattle.reading_laws.proofs.ItemsOrFault.{served_so}
use Rattle.reading_laws.proofs.EntriesOrFault.{entries_so, tables_so, identifiers_so, clients_so}
use Rattle.reading_laws.proofs.OrFault.{OrFault, or_if, and_then, member_then, missing_then, optional_then, list_so}

-- each member is read as what the report has, or is at fault
record PartsSo (w : Written) (r : Report) : Type 0 where
  alerts : OrFault r.alerts (alerts_in w.alerts)
  blocked : OrFault r.blocked (identifiers_in w.blocked)
  clients : OrFault r.clients (clients_in w.clients)
  entries : OrFault r.entries (entries_in w.entries)
  notes : OrFault r.notes (notes_in w.notes)
  served : OrFault r.served (served_in r.notes w.served)
  tables : OrFault r.tables (tables_in w.tables)

horizon_so : (n : ℕ) → OrFault n (whole_of 1 (2 ^ 64 - 1) (whole n))
unfolding whole_of
horizon_so n = or_if _ n _

image_so : (bytes : List ℕ) → OrFault (Some bytes) (image_bytes_in (digits bytes))
image_so bytes = and_then _ _ bytes (Some bytes) (octets_so bytes) refl

abbrev front_of : Report → Front
front_of r = record { alerts = r.alerts; blocked = r.blocked; clients = r.clients }

abbrev middle_of : Report → ℕ → Option (List ℕ) → Middle
middle_of r horizon image = record { entries = r.entries; forgotten = horizon; image = image }

abbrev back_of : Report → Back
back_of r = record { notes = r.notes; served = r.served; tables = r.tables }

parts_so : (w : Written) (r : Report) (print : Bool) (horizon : ℕ) (image : Option (List ℕ)) → PartsSo w r
    → OrFault (with_others r horizon image) (report_in print (whole_of_parts w horizon image))
unfolding report_in front_in middle_in back_in required
parts_so w r false zero None p =
    and_then _ _ (front_of r) _ (member_then _ _ _ _ _ r.alerts _ refl p.alerts (member_then _ _ _ _ _ r.blocked _ refl p.blocked (member_then _ _ _ _ _ r.clients _ refl p.clients refl)))
    (and_then _ _ (middle_of r zero None) _ (member_then _ _ _ _ _ r.entries _ refl p.entries (missing_then _ _ _ _ _ _ refl refl))
    (and_then _ _ (back_of r) _ (member_then _ _ _ _ _ r.notes _ refl p.notes (member_then _ _ _ _ _ r.served _ refl p.served (member_then _ _ _ _ _ r.tables _ refl p.tables refl))) refl))
parts_so w r true zero None p = tt
parts_so w r false zero (Some bytes) p = tt
parts_so w r true zero (Some bytes) p =
    and_then _ _ (front_of r) _ (member_then _ _ _ _ _ r.alerts _ refl p.alerts (member_then _ _ _ _ _ r.blocked _ refl p.blocked (member_then _ _ _ _ _ r.clients _ refl p.clients refl)))
    (and_then _ _ (middle_of r zero (Some bytes)) _ (member_then _ _ _ _ _ r.entries _ refl p.entries (missing_then _ _ _ _ _ _ refl
    (member_then _ _ _ _ _ (Some bytes) _ refl (image_so bytes) refl)))
    (and_then _ _ (back_of r) _ (member_then _ _ _ _ _ r.notes _ refl p.notes (member_then _ _ _ _ _ r.served _ refl p.served (member_then _ _ _ _ _ r.tables _ refl p.tables refl))) refl))
parts_so w r false (suc n) None p = rw (not_zero n) (
    and_then _ _ (front_of r) _ (member_then _ _ _ _ _ r.alerts _ refl p.alerts (member_then _ _ _ _ _ r.blocked _ refl p.blocked (member_then _ _ _ _ _ r.clients _ refl p.clients refl)))
    (and_then _ _ (middle_of r (suc n) None) _ (member_then _ _ _ _ _ r.entries _ refl p.entries (optional_then _ _ _ _ _ _ (suc n) _ refl (horizon_so (suc n)) refl))
    (and_then _ _ (back_of r) _ (member_then _ _ _ _ _ r.notes _ refl p.notes (member_then _ _ _ _ _ r.served _ refl p.served (member_then _ _ _ _ _ r.tables _ refl p.tables refl))) refl)))
parts_so w r true (suc n) None p = rw (not_zero n) tt
parts_so w r false (suc n) (Some bytes) p = rw (not_zero n) tt
parts_so w r true (suc n) (Some bytes) p = rw (not_zero n) (
    and_then _ _ (front_of r) _ (member_then _ _ _ _ _ r.alerts _ refl p.alerts (member_then _ _ _ _ _ r.blocked _ refl p.blocked (member_then _ _ _ _ _ r.clients _ refl p.clients refl)))
    (and_then _ _ (middle_of r (suc n) (Some bytes)) _ (member_then _ _ _ _ _ r.entries _ refl p.entries (optional_then _ _ _ _ _ _ (suc n) _ refl (horizon_so (suc n))
    (member_then _ _ _ _ _ (Some bytes) _ refl (image_so bytes) refl)))
    (and_then _ _ (back_of r) _ (member_then _ _ _ _ _ r.notes _ refl p.notes (member_then _ _ _ _ _ r.served _ refl p.served (member_then _ _ _ _ _ r.tables _ refl p.tables refl))) refl)))

written_so : (r : Report) → PartsSo (written r) (shown_report r)
written_so r = record {
  alerts = list_so line_of text line_so r.alerts;
  blocked = identifiers_so r.blocked;
  clients = clients_so r.clients;
  entries = entries_so r.entries;
  notes = notes_so r.notes;
  served = served_so r.notes r.served;
  tables = tables_so r.tables;
}

bad_so : {A : Type 0} (x : A) (read : Result A Fault) → OrFault x read → OrFault x (as_bad read)
bad_so x (Ok y) same = same
bad_so x (Err e) same = tt

report_so : (document : Document) (r : Report) → OrFault (shown_report r) (report_of document (report_value r))
report_so document r =
    bad_so (shown_report r) (report_in document.print_image (report_value r))
    (rw (is_written r) (parts_so (written r) (shown_report r) document.print_image r.forgotten r.image (written_so r)))

pub nothing_else : ReadsNothingElse
nothing_else document r other read = subst (OrFault (shown_report r)) read (report_so document r)
