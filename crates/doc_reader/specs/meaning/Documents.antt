-- How a document stands in bytes, and the first fault of bytes that are none.
use Rattle.std.specs.Prelude.{ℕ, List, [], ◌∷◌, length, Bool, ◌&&◌, not, false, Option, None, Result, Ok, codes}
use Rattle.serde_json.specs.Data.{Data}
use Rattle.json_form.specs.meaning.Faults.{Fault, ◌>>=◌, within}
use Rattle.json_form.specs.meaning.Values.{bool_of}
use Rattle.json_form.specs.meaning.Objects.{Named, object_with, has, required, optional, read_or}
use Rattle.json_form.specs.meaning.Arrays.{each_of, array_of}
use Rattle.json_form.specs.meaning.Texts.{json_at}
use Rattle.outage_schedule.specs.declared.document.Client.{Client}
use Rattle.outage_schedule.specs.declared.document.Document.{Document}
use Rattle.outage_schedule.specs.declared.event.Event.{Event}
use Rattle.doc_reader.specs.declared.document.Store.{Store}
use Rattle.doc_reader.specs.declared.document.Begin.{Begin}
use Rattle.document_forms.specs.meaning.Tables.{tables_of, sequences_of}
use Rattle.document_forms.specs.meaning.Service.{service_of, usual_service}
use Rattle.document_forms.specs.meaning.Scripts.{client_of}
use Rattle.document_forms.specs.meaning.Events.{schedule_of}
use Rattle.doc_reader.specs.meaning.Images.{image_of}
use Rattle.doc_reader.specs.meaning.Counts.{if_small}

-- neither tables nor sequences stand there
abbrev pub is_alone : Named → Bool
is_alone ms = not (has (codes "tables") ms) && not (has (codes "sequences") ms)

-- what the store begins with: tables and sequences, or an image alone
unfoldable pub store_of : Named → Result Store Fault
store_of ms =
    optional (codes "tables") [] tables_of ms >>= λ tables. optional (codes "sequences") []
    sequences_of ms >>= λ sequences.
    optional (codes "image") None (image_of (is_alone ms)) ms >>= λ image. Ok (record {
      tables = tables;
      sequences = sequences;
      image = image;
    })

-- at most 64 clients
abbrev pub clients_of : Data → Result (List Client) Fault
clients_of d = array_of 0 64 (each_of client_of) d

-- the service, what its store begins with, and whether the store's bytes are printed
unfoldable pub begin_of : Named → Result Begin Fault
begin_of ms =
    optional (codes "service") usual_service service_of ms >>= λ service. store_of ms >>= λ store.
    optional (codes "print_image") false bool_of ms >>= λ print.
    Ok (record { service = service; store = store; print_image = print })

abbrev pub document_with : Begin → List Client → List Event → Document
document_with begin clients events = record {
  service = begin.service;
  tables = begin.store.tables;
  sequences = begin.store.sequences;
  image = begin.store.image;
  print_image = begin.print_image;
  clients = clients;
  schedule = events;
}

abbrev pub document_members : List (List ℕ)
document_members = codes "service" ∷ codes "tables" ∷ codes "sequences" ∷ codes "image"
    ∷ codes "print_image" ∷ codes "clients" ∷ codes "schedule" ∷ []

-- the clients, and then the events, which are read by their number; what is counted over the whole
-- document comes last
unfoldable pub rest_of : Option Data → Data → Begin → Result Document Fault
rest_of schedule clients begin =
    within (codes "clients") (clients_of clients) >>= λ cs. read_or (codes "schedule") []
    (schedule_of (length cs) begin.service.standby) schedule >>= λ events.
    if_small (document_with begin cs events)

-- the document of a JSON value
unfoldable pub document_of : Data → Result Document Fault
document_of d =
    object_with document_members d >>= λ ms. required (codes "clients") ms >>= λ clients. begin_of
    ms >>= λ begin. rest_of (ms (codes "schedule")) clients begin

-- 8 MiB
abbrev pub limit : ℕ
limit = 8388608

-- the document that the bytes are, or the first fault and its place
abbrev pub document_at : List ℕ → Result Document Fault
document_at bytes = json_at limit bytes >>= document_of
