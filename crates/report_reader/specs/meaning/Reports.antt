-- The whole report.
use Rattle.std.specs.Prelude.{ℕ, ◌^◌, ◌-◌, Bool, true, false, List, [], ◌∷◌, ◌++◌, Option, Some, None, Result, Ok, Err, codes}
use Rattle.serde_json.specs.Data.{Data}
use Rattle.json_form.specs.declared.fault.DocCode.TheVariants.{BadReport}
use Rattle.json_form.specs.declared.hexadecimal.Digits.TheVariants as digits
use Rattle.json_form.specs.meaning.Faults.{Fault, ◌>>=◌}
use Rattle.json_form.specs.meaning.Values.{whole_of}
use Rattle.json_form.specs.meaning.Texts.{octets_of}
use Rattle.json_form.specs.meaning.Arrays.{each_of, list_of}
use Rattle.json_form.specs.meaning.Objects.{Named, object_with, optional, all_there, member_in}
use Rattle.call_forms.specs.meaning.Values.{line_of}
use Rattle.outage_schedule.specs.declared.document.Document.{Document}
use Rattle.outage_schedule.specs.declared.report.Report.{Report}
use Rattle.report_reader.specs.declared.report.Front.{Front}
use Rattle.report_reader.specs.declared.report.Middle.{Middle}
use Rattle.report_reader.specs.declared.report.Back.{Back}
use Rattle.answer_forms.specs.meaning.Parts.{identifiers_in}
use Rattle.entry_forms.specs.meaning.Requests.{clients_in}
use Rattle.note_forms.specs.meaning.Notes.{notes_in}
use Rattle.note_forms.specs.meaning.Items.{served_in}
use Rattle.entry_forms.specs.meaning.Entries.{entries_in, tables_in}

abbrev pub alerts_in : Data → Result (List (List ℕ)) Fault
alerts_in d = list_of (each_of line_of) d

-- the members that stand in each report, in two parts
abbrev pub first_members : List (List ℕ)
first_members = codes "alerts" ∷ codes "blocked" ∷ codes "clients" ∷ codes "entries" ∷ []

abbrev pub last_members : List (List ℕ)
last_members = codes "notes" ∷ codes "served" ∷ codes "tables" ∷ []

-- the image stands there exactly where the document asks for it
abbrev pub image_name : Bool → List (List ℕ)
image_name true = codes "image" ∷ []
image_name false = []

-- the members that have to be there
abbrev pub needed_members : Bool → List (List ℕ)
needed_members print = first_members ++ (image_name print ++ last_members)

-- the members that may be there
abbrev pub report_members : Bool → List (List ℕ)
report_members print = first_members ++ (codes "forgotten" ∷ (image_name print ++ last_members))

-- alert lines, blocked identifiers, and what clients were shown
unfoldable pub front_in : Named → Result Front Fault
front_in ms =
    member_in (codes "alerts") alerts_in ms >>= λ alerts. member_in (codes "blocked") identifiers_in
    ms >>= λ blocked.
    member_in (codes "clients") clients_in ms >>= λ clients.
    Ok (record { alerts = alerts; blocked = blocked; clients = clients })

abbrev pub image_bytes_in : Data → Result (Option (List ℕ)) Fault
image_bytes_in d = octets_of digits.Lower d >>= λ bytes. Ok (Some bytes)

abbrev pub image_in : Bool → Named → Result (Option (List ℕ)) Fault
image_in true ms = member_in (codes "image") image_bytes_in ms
image_in false ms = Ok None

-- entries, the horizon, and the disk's bytes
unfoldable pub middle_in : Bool → Named → Result Middle Fault
middle_in print ms =
    member_in (codes "entries") entries_in ms >>= λ entries.
    optional (codes "forgotten") 0 (whole_of 1 (2 ^ 64 - 1)) ms >>= λ forgotten. image_in
    print ms >>= λ image.
    Ok (record { entries = entries; forgotten = forgotten; image = image })

-- notes, the items that stand at them, and tables
unfoldable pub back_in : Named → Result Back Fault
back_in ms =
    member_in (codes "notes") notes_in ms >>= λ notes. member_in (codes "served") (served_in notes)
    ms >>= λ served.
    member_in (codes "tables") tables_in ms >>= λ tables.
    Ok (record { notes = notes; served = served; tables = tables })

abbrev pub report_with : Front → Middle → Back → Report
report_with front middle back = record {
  alerts = front.alerts;
  blocked = front.blocked;
  clients = front.clients;
  entries = middle.entries;
  forgotten = middle.forgotten;
  image = middle.image;
  notes = back.notes;
  served = back.served;
  tables = back.tables;
}

-- the members of a report, none of which is unknown or missing
abbrev pub members_in : Bool → Data → Result Named Fault
members_in print d =
    object_with (report_members print) d >>= λ ms. all_there (needed_members print) ms >>= λ _.
    Ok ms

unfoldable pub report_in : Bool → Data → Result Report Fault
report_in print d =
    members_in print d >>= λ ms. front_in ms >>= λ front. middle_in print ms >>= λ middle. back_in
    ms >>= λ back.
    Ok (report_with front middle back)

-- each fault of a report is told by one code, and its place
abbrev pub as_bad : {A : Type 0} → Result A Fault → Result A Fault
as_bad (Ok x) = Ok x
as_bad (Err f) = Err (record { code = BadReport; path = f.path })

-- a document's report
abbrev pub report_of : Document → Data → Result Report Fault
report_of document d = as_bad (report_in document.print_image d)
