-- What a report that was read keeps to.
use Rattle.std.proofs.Common.{◌≡◌, ◌^◌, ◌-◌, List, Bool, true, Result, Ok, Err, subst, codes}
use Rattle.std.specs.Prelude.{IfOk}
use Rattle.std.specs.List.{list_all}
use Rattle.serde_json.specs.Data.{Data}
use Rattle.json_form.specs.declared.fault.DocFault.{DocFault}
use Rattle.json_form.specs.meaning.Faults.{Fault, ◌>>=◌}
use Rattle.json_form.specs.Faults.{Gives}
use Rattle.json_form.specs.meaning.Values.{whole_of}
use Rattle.json_form.specs.meaning.Objects.{Named, optional, member_in}
use Rattle.outage_schedule.specs.declared.document.Document.{Document}
use Rattle.outage_schedule.specs.declared.note.Note.{Note}
use Rattle.outage_schedule.specs.declared.report.Report.{Report}
use Rattle.json_form.proofs.Offered.{after, ok_is, member_read}
use Rattle.report_reader.specs.declared.report.Middle.{Middle}
use Rattle.report_reader.specs.declared.report.Back.{Back}
use Rattle.note_forms.specs.meaning.Notes.{notes_in}
use Rattle.note_forms.specs.meaning.Items.{served_in}
use Rattle.entry_forms.specs.meaning.Entries.{entries_in, tables_in}
use Rattle.report_reader.specs.meaning.Reports.{members_in, front_in, middle_in, image_in, back_in, report_with, report_in, as_bad, report_of}
use Rattle.told_reports.specs.Keeping.{is_entry, IsTold}
use Rattle.entry_forms.proofs.Offered.{entries_read}
use Rattle.note_forms.proofs.Offered.{Good, served_read}

middle_read : (print : Bool) (ms : Named) (middle : Middle) → middle_in print ms ≡ Ok middle → list_all is_entry middle.entries ≡ true
unfolding middle_in
middle_read print ms middle h =
    let a = after (member_in (codes "entries") entries_in ms) (λ entries. optional (codes "forgotten") 0 (whole_of 1 (2 ^ 64 - 1)) ms >>= λ forgotten. image_in print ms >>= λ image. Ok (record { entries = entries; forgotten = forgotten; image = image })) middle h in
    let b = after (optional (codes "forgotten") 0 (whole_of 1 (2 ^ 64 - 1)) ms) (λ forgotten. image_in print ms >>= λ image. Ok (record { entries = a.0; forgotten = forgotten; image = image })) middle a.2 in
    let c = after (image_in print ms) (λ image. Ok (record { entries = a.0; forgotten = b.0; image = image })) middle b.2 in
    let es = member_read (codes "entries") entries_in ms a.0 a.1 in
    subst (λ (m : Middle). list_all is_entry m.entries ≡ true) (ok_is _ middle c.2) (entries_read es.0 a.0 es.1)

abbrev with_notes : Named → List Note → Result Back Fault
with_notes ms notes =
    member_in (codes "served") (served_in notes) ms >>= λ served. member_in (codes "tables") tables_in ms >>= λ tables. Ok (record { notes = notes; served = served; tables = tables })

back_read : (ms : Named) (back : Back) → back_in ms ≡ Ok back → Good back.notes back.served
unfolding back_in
back_read ms back h =
    let a = after (member_in (codes "notes") notes_in ms) (with_notes ms) back h in
    let b = after (member_in (codes "served") (served_in a.0) ms) (λ served. member_in (codes "tables") tables_in ms >>= λ tables. Ok (record { notes = a.0; served = served; tables = tables })) back a.2 in
    let c = after (member_in (codes "tables") tables_in ms) (λ tables. Ok (record { notes = a.0; served = b.0; tables = tables })) back b.2 in
    let s = member_read (codes "served") (served_in a.0) ms b.0 b.1 in
    subst (λ (k : Back). Good k.notes k.served) (ok_is _ back c.2) (served_read a.0 s.0 b.0 s.1)

form_read : (print : Bool) (d : Data) (report : Report) → report_in print d ≡ Ok report → IsTold report
unfolding report_in
form_read print d report h =
    let a = after (members_in print d) (λ ms. front_in ms >>= λ front. middle_in print ms >>= λ middle. back_in ms >>= λ back. Ok (report_with front middle back)) report h in
    let ms = a.0 in
    let f = after (front_in ms) (λ front. middle_in print ms >>= λ middle. back_in ms >>= λ back. Ok (report_with front middle back)) report a.2 in
    let m = after (middle_in print ms) (λ middle. back_in ms >>= λ back. Ok (report_with f.0 middle back)) report f.2 in
    let b = after (back_in ms) (λ back. Ok (report_with f.0 m.0 back)) report m.2 in
    let good = back_read ms b.0 b.1 in
    subst IsTold (ok_is (report_with f.0 m.0 b.0) report b.2) (record {
      events = good.events;
      items = good.kept;
      entries = middle_read print ms m.0 m.1;
    })

good_form : (read : Result Report Fault) (report : Report) → as_bad read ≡ Ok report → read ≡ Ok report
good_form (Ok one) report h = h
good_form (Err f) report h = absurd (cc)

-- each report that was read keeps to what reports do
pub report_read : (document : Document) (d : Data) (report : Report) → report_of document d ≡ Ok report → IsTold report
report_read document d report h = form_read document.print_image d report (good_form (report_in document.print_image d) report h)

pub told : (document : Document) (d : Data) (result : Result Report DocFault) → Gives result (report_of document d) → IfOk result IsTold
told document d (Ok report) h = report_read document d report h
told document d (Err e) h = tt
