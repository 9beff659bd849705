-- A report of which the clients, entries, notes, served items and tables were read before its other
-- members.
use Rattle.std.proofs.Common.{◌≡◌, ℕ, ◌^◌, ◌-◌, List, Bool, true, false, Option, Some, None, option_map, Result, Ok, codes, refl, sym, ap, subst, ◌∙◌}
use Rattle.serde_json.specs.Data.{Data, Members, object}
use Rattle.json_form.specs.meaning.Faults.{Fault, ◌>>=◌, within}
use Rattle.json_form.specs.meaning.Values.{whole_of}
use Rattle.json_form.specs.meaning.Objects.{Named, named, known, present, required, all_there, optional, member_in}
use Rattle.svc_values.specs.declared.entry.Entry.{Entry}
use Rattle.outage_schedule.specs.declared.item.Served.{Served}
use Rattle.outage_schedule.specs.declared.note.Note.{Note}
use Rattle.outage_schedule.specs.declared.report.Report.{Report}
use Rattle.outage_schedule.specs.declared.report.ReportTable.{ReportTable}
use Rattle.outage_schedule.specs.declared.request.RequestReport.{RequestReport}
use Rattle.json_form.proofs.Offered.{after, ok_is}
use Rattle.report_reader.specs.declared.streamed.Others.{Others}
use Rattle.answer_forms.specs.meaning.Parts.{identifiers_in}
use Rattle.entry_forms.specs.meaning.Requests.{clients_in}
use Rattle.note_forms.specs.meaning.Notes.{notes_in}
use Rattle.note_forms.specs.meaning.Items.{served_in}
use Rattle.entry_forms.specs.meaning.Entries.{entries_in, tables_in}
use Rattle.report_reader.specs.meaning.Reports.{alerts_in, image_bytes_in, image_in, needed_members, report_members, front_in, middle_in, back_in, report_in}
use Rattle.report_reader.specs.Ahead.{held_members, only, others_in, IsFound}

-- ---- members

member_by : {A : Type 0} (name : List ℕ) (read : Data → Result A Fault) (o : Option Data) (x : A) → option_map read o ≡ Some (Ok x) → (present name o >>= λ d. within name (read d)) ≡ Ok x
member_by name read None x h = absurd (cc)
member_by name read (Some d) x h = let e : read d ≡ Ok x = cc in ap (within name) e

-- what was found is what the member is read as
member_found : {A : Type 0} (name : List ℕ) (read : Data → Result A Fault) (x : A) (ms : Named) → IsFound name read (Some x) ms → member_in name read ms ≡ Ok x
unfolding member_in required
member_found name read x ms h = member_by name read (ms name) x h

-- a member that was read is there
is_there : {A : Type 0} (name : List ℕ) (read : Data → Result A Fault) (ms : Named) (x : A) → member_in name read ms ≡ Ok x → (d : Data) × (required name ms ≡ Ok d)
unfolding member_in
is_there name read ms x h = let a = after (required name ms) (λ d. within name (read d)) x h in (a.0, a.1)

-- ---- the members that are held

held_image : (print : Bool) (ms : Named) → image_in print (only (held_members print) ms) ≡ image_in print ms
unfolding only member_in required
held_image true ms = refl
held_image false ms = refl

held_others : (print : Bool) (ms : Named) → others_in print (only (held_members print) ms) ≡ others_in print ms
unfolding only others_in member_in required optional
held_others print ms = rw (held_image print ms) refl

-- what each of them is read as
record Held (print : Bool) (ms : Named) (others : Others) : Type 0 where
  alerts : member_in (codes "alerts") alerts_in ms ≡ Ok others.alerts
  blocked : member_in (codes "blocked") identifiers_in ms ≡ Ok others.blocked
  forgotten : optional (codes "forgotten") 0 (whole_of 1 (2 ^ 64 - 1)) ms ≡ Ok others.forgotten
  image : image_in print ms ≡ Ok others.image

held_each : (print : Bool) (ms : Named) (others : Others) → others_in print ms ≡ Ok others → Held print ms others
unfolding others_in
held_each print ms others h =
    let a = after (member_in (codes "alerts") alerts_in ms) (λ alerts. member_in (codes "blocked") identifiers_in ms >>= λ blocked. optional (codes "forgotten") 0 (whole_of 1 (2 ^ 64 - 1)) ms >>= λ forgotten. image_in print ms >>= λ image. Ok (record { alerts = alerts; blocked = blocked; forgotten = forgotten; image = image })) others h in
    let b = after (member_in (codes "blocked") identifiers_in ms) (λ blocked. optional (codes "forgotten") 0 (whole_of 1 (2 ^ 64 - 1)) ms >>= λ forgotten. image_in print ms >>= λ image. Ok (record { alerts = a.0; blocked = blocked; forgotten = forgotten; image = image })) others a.2 in
    let f = after (optional (codes "forgotten") 0 (whole_of 1 (2 ^ 64 - 1)) ms) (λ forgotten. image_in print ms >>= λ image. Ok (record { alerts = a.0; blocked = b.0; forgotten = forgotten; image = image })) others b.2 in
    let i = after (image_in print ms) (λ image. Ok (record { alerts = a.0; blocked = b.0; forgotten = f.0; image = image })) others f.2 in
    let made : Others = record { alerts = a.0; blocked = b.0; forgotten = f.0; image = i.0 } in
    subst (Held print ms) {x = made} (ok_is made others i.2) (record { alerts = a.1; blocked = b.1; forgotten = f.1; image = i.1 })

-- ---- the whole report

-- what was found at the names of members that are read one after the other
record Found (ms : Named) (clients : List (List RequestReport)) (entries : List Entry) (notes : List Note) (served : List Served) (tables : List ReportTable) : Type 0 where
  clients_are : member_in (codes "clients") clients_in ms ≡ Ok clients
  entries_are : member_in (codes "entries") entries_in ms ≡ Ok entries
  notes_are : member_in (codes "notes") notes_in ms ≡ Ok notes
  served_are : member_in (codes "served") (served_in notes) ms ≡ Ok served
  tables_are : member_in (codes "tables") tables_in ms ≡ Ok tables

needed_there : (print : Bool) (ms : Named) (clients : List (List RequestReport)) (entries : List Entry) (notes : List Note) (served : List Served) (tables : List ReportTable) (others : Others)
    → Found ms clients entries notes served tables → Held print ms others → all_there (needed_members print) ms ≡ Ok tt
needed_there true ms clients entries notes served tables others found held =
    let a = is_there (codes "alerts") alerts_in ms others.alerts held.alerts in
    let b = is_there (codes "blocked") identifiers_in ms others.blocked held.blocked in
    let c = is_there (codes "clients") clients_in ms clients found.clients_are in
    let e = is_there (codes "entries") entries_in ms entries found.entries_are in
    let i = is_there (codes "image") image_bytes_in ms others.image held.image in
    let n = is_there (codes "notes") notes_in ms notes found.notes_are in
    let s = is_there (codes "served") (served_in notes) ms served found.served_are in
    let t = is_there (codes "tables") tables_in ms tables found.tables_are in
    rw (a.1, b.1, c.1, e.1, i.1, n.1, s.1, t.1) refl
needed_there false ms clients entries notes served tables others found held =
    let a = is_there (codes "alerts") alerts_in ms others.alerts held.alerts in
    let b = is_there (codes "blocked") identifiers_in ms others.blocked held.blocked in
    let c = is_there (codes "clients") clients_in ms clients found.clients_are in
    let e = is_there (codes "entries") entries_in ms entries found.entries_are in
    let n = is_there (codes "notes") notes_in ms notes found.notes_are in
    let s = is_there (codes "served") (served_in notes) ms served found.served_are in
    let t = is_there (codes "tables") tables_in ms tables found.tables_are in
    rw (a.1, b.1, c.1, e.1, n.1, s.1, t.1) refl

abbrev whole : List (List RequestReport) → List Entry → List Note → List Served → List ReportTable → Others → Report
whole clients entries notes served tables others = record {
  alerts = others.alerts;
  blocked = others.blocked;
  clients = clients;
  entries = entries;
  forgotten = others.forgotten;
  image = others.image;
  notes = notes;
  served = served;
  tables = tables;
}

pub report_joined : (print : Bool) (ms : Members) (clients : List (List RequestReport)) (entries : List Entry) (notes : List Note) (served : List Served) (tables : List ReportTable) (others : Others) → known (report_members print) ms ≡ Ok tt
    → IsFound (codes "clients") clients_in (Some clients) (named ms) → IsFound (codes "entries") entries_in (Some entries) (named ms) → IsFound (codes "notes") notes_in (Some notes) (named ms)
    → IsFound (codes "served") (served_in notes) (Some served) (named ms) → IsFound (codes "tables") tables_in (Some tables) (named ms) → others_in print (only (held_members print) (named ms)) ≡ Ok others
    → report_in print (object ms) ≡ Ok (whole clients entries notes served tables others)
unfolding report_in front_in middle_in back_in
report_joined print ms clients entries notes served tables others all hc he hn hs ht ho =
    let held = held_each print (named ms) others (sym (held_others print (named ms)) ∙ ho) in
    let found : Found (named ms) clients entries notes served tables = record {
      clients_are = member_found (codes "clients") clients_in clients (named ms) hc;
      entries_are = member_found (codes "entries") entries_in entries (named ms) he;
      notes_are = member_found (codes "notes") notes_in notes (named ms) hn;
      served_are = member_found (codes "served") (served_in notes) served (named ms) hs;
      tables_are = member_found (codes "tables") tables_in tables (named ms) ht;
    } in
    rw (all, needed_there print (named ms) clients entries notes served tables others found held, held.alerts, held.blocked, found.clients_are, found.entries_are, held.forgotten, held.image, found.notes_are, found.served_are, found.tables_are) refl
