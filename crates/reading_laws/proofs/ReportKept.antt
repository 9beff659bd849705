-- A report that was read has the form.
use Rattle.std.proofs.Common.{◌≡◌, ℕ, ◌^◌, ◌-◌, ◌&&◌, nat_le, ℤ, pos, negsuc, List, Bool, true, false, Some, Result, Ok, Err, refl, arith, codes}
use Rattle.std.specs.List.{list_all}
use Rattle.std.proofs.lemmas.Bool.{leb-true, lt-ltb}
use Rattle.hex.specs.Hex.{IsBytes}
use Rattle.serde_json.specs.Data.{Data}
use Rattle.json_form.specs.declared.fault.DocCode.TheVariants.{Limit}
use Rattle.json_form.specs.declared.hexadecimal.Digits.TheVariants as case
use Rattle.json_form.specs.meaning.Faults.{Fault, here}
use Rattle.json_form.specs.meaning.Values.{number_of, in_limits, whole_of}
use Rattle.json_form.specs.meaning.Texts.{octets_of}
use Rattle.json_form.specs.meaning.Objects.{Named}
use Rattle.json_form.proofs.Offered.{second_true}
use Rattle.outage_schedule.specs.declared.report.Report.{Report}
use Rattle.call_forms.specs.meaning.Values.{line_of}
use Rattle.report_reader.specs.Laws.{IsReadAsTold}
use Rattle.report_reader.specs.declared.report.Front.{Front}
use Rattle.report_reader.specs.declared.report.Middle.{Middle}
use Rattle.report_reader.specs.declared.report.Back.{Back}
use Rattle.answer_forms.specs.meaning.Parts.{identifiers_in}
use Rattle.entry_forms.specs.meaning.Requests.{clients_in}
use Rattle.note_forms.specs.meaning.Notes.{notes_in}
use Rattle.note_forms.specs.meaning.Items.{served_in}
use Rattle.entry_forms.specs.meaning.Entries.{entries_in, tables_in}
use Rattle.report_reader.specs.meaning.Reports.{alerts_in, image_bytes_in, image_in, front_in, middle_in, back_in, members_in, report_in, as_bad}
use Rattle.report_text.specs.meaning.Octets.{ImageOfBytes}
use Rattle.reading_laws.specs.Laws.{ReadsOnlyTheForm}
use Rattle.report_limits.specs.meaning.Limits.{fits_line}
use Rattle.reading_laws.proofs.IfRead.{IfRead, if_kept, then_kept, any_kept, member_kept, member_then_kept, optional_then_kept, list_kept, read_is, all_fit, weaker}
use Rattle.reading_laws.proofs.ValuesKept.{NumberKept, LineKept, line_kept, octets_kept}
use Rattle.reading_laws.proofs.NotesKept.{NotesKept, notes_kept}
use Rattle.reading_laws.proofs.ItemsKept.{ItemsKept, served_kept}
use Rattle.reading_laws.proofs.EntriesKept.{EntriesKept, entries_kept, TablesKept, tables_kept, IdentifiersKept, identifiers_kept, ClientsKept, clients_kept}

abbrev AlertsKept : List (List ℕ) → Type 0
AlertsKept xs = list_all fits_line xs ≡ true

alerts_kept : (d : Data) → IfRead AlertsKept (alerts_in d)
alerts_kept d = weaker _ AlertsKept (alerts_in d) (all_fit fits_line) (list_kept LineKept line_of line_kept d)

horizon_limits : (z : ℤ) → IfRead NumberKept (in_limits 1 (2 ^ 64 - 1) z)
horizon_limits (pos n) =
    if_kept NumberKept (nat_le 1 n && nat_le n (2 ^ 64 - 1)) n (here Limit)
    (λ h. let below = leb-true n (2 ^ 64 - 1) (second_true (nat_le 1 n) _ h) in lt-ltb n (2 ^ 64) (omega (arith, below)))
horizon_limits (negsuc n) = tt

horizon_kept : (d : Data) → IfRead NumberKept (whole_of 1 (2 ^ 64 - 1) d)
unfolding whole_of
horizon_kept d = any_kept NumberKept (number_of d) (in_limits 1 (2 ^ 64 - 1)) horizon_limits

image_bytes_kept : (d : Data) → IfRead ImageOfBytes (image_bytes_in d)
image_bytes_kept d = then_kept IsBytes ImageOfBytes (octets_of case.Lower d) (λ bytes. Ok (Some bytes)) (octets_kept case.Lower d) (λ bytes is. is)

image_kept : (print : Bool) (ms : Named) → IfRead ImageOfBytes (image_in print ms)
image_kept false ms = tt
image_kept true ms = member_kept ImageOfBytes (codes "image") image_bytes_in ms image_bytes_kept

abbrev FrontKept : Front → Type 0
FrontKept front = AlertsKept front.alerts × IdentifiersKept front.blocked × ClientsKept front.clients

front_kept : (ms : Named) → IfRead FrontKept (front_in ms)
unfolding front_in
front_kept ms =
    member_then_kept AlertsKept FrontKept (codes "alerts") alerts_in ms _ alerts_kept (λ alerts a.
    member_then_kept IdentifiersKept FrontKept (codes "blocked") identifiers_in ms _ identifiers_kept (λ blocked b.
    member_then_kept ClientsKept FrontKept (codes "clients") clients_in ms _ clients_kept (λ clients c. (a, b, c))))

abbrev MiddleKept : Middle → Type 0
MiddleKept middle = EntriesKept middle.entries × NumberKept middle.forgotten × ImageOfBytes middle.image

middle_kept : (print : Bool) (ms : Named) → IfRead MiddleKept (middle_in print ms)
unfolding middle_in
middle_kept print ms =
    member_then_kept EntriesKept MiddleKept (codes "entries") entries_in ms _ entries_kept (λ entries e.
    optional_then_kept NumberKept MiddleKept (codes "forgotten") 0 (whole_of 1 (2 ^ 64 - 1)) ms _ refl horizon_kept (λ forgotten f.
    then_kept ImageOfBytes MiddleKept (image_in print ms) _ (image_kept print ms) (λ image i. (e, f, i))))

abbrev BackKept : Back → Type 0
BackKept back = NotesKept back.notes × ItemsKept back.served × TablesKept back.tables

back_kept : (ms : Named) → IfRead BackKept (back_in ms)
unfolding back_in
back_kept ms =
    member_then_kept NotesKept BackKept (codes "notes") notes_in ms _ notes_kept (λ notes n.
    member_then_kept ItemsKept BackKept (codes "served") (served_in notes) ms _ (served_kept notes) (λ served s.
    member_then_kept TablesKept BackKept (codes "tables") tables_in ms _ tables_kept (λ tables t. (n, s, t))))

record Kept (r : Report) : Type 0 where
  front : FrontKept (record { alerts = r.alerts; blocked = r.blocked; clients = r.clients })
  middle : MiddleKept (record { entries = r.entries; forgotten = r.forgotten; image = r.image })
  back : BackKept (record { notes = r.notes; served = r.served; tables = r.tables })

report_kept : (print : Bool) (d : Data) → IfRead Kept (report_in print d)
unfolding report_in
report_kept print d =
    any_kept Kept (members_in print d) _ (λ ms. then_kept FrontKept Kept (front_in ms) _ (front_kept ms) (λ front f.
    then_kept MiddleKept Kept (middle_in print ms) _ (middle_kept print ms) (λ middle m.
    then_kept BackKept Kept (back_in ms) _ (back_kept ms) (λ back b. record { front = f; middle = m; back = b }))))

bad_kept : (read : Result Report Fault) → IfRead Kept read → IfRead Kept (as_bad read)
bad_kept (Ok r) kept = kept
bad_kept (Err e) kept = tt

pub form_kept : IsReadAsTold → ReadsOnlyTheForm
form_kept told document d r read =
    let all = read_is Kept (as_bad (report_in document.print_image d)) r (bad_kept (report_in document.print_image d) (report_kept document.print_image d)) read in
    record {
      octets = (all.front.2.0, all.middle.0.0, all.middle.2, all.back.0.0, all.back.1.0, all.back.2.0);
      alerts = all.front.0;
      blocked = all.front.1;
      clients = all.front.2.1;
      entries = all.middle.0.1;
      forgotten = all.middle.1;
      notes = all.back.0.1;
      served = all.back.1.1;
      tables = all.back.2.1;
      told = told document d r read;
    }
