-- What a document that was read keeps to.
use Rattle.std.proofs.Common.{◌≡◌, ℕ, ◌==◌, List, [], length, Bool, true, false, Option, Some, None, Result, Ok, Err, codes, refl, sym, ap, subst}
use Rattle.std.specs.Prelude.{not, is_some, IfOk}
use Rattle.serde_json.specs.Data.{Data}
use Rattle.json_form.specs.declared.fault.DocCode.TheVariants.{Limit, Rule, BadImage}
use Rattle.json_form.specs.declared.fault.DocFault.{DocFault}
use Rattle.json_form.specs.meaning.Faults.{Fault, ◌>>=◌, here, within}
use Rattle.json_form.specs.Faults.{Gives}
use Rattle.json_form.specs.meaning.Pointers.{escaped}
use Rattle.json_form.specs.meaning.Values.{text_of, bool_of}
use Rattle.json_form.specs.meaning.Objects.{Named, object_with, has, required, optional, read_or}
use Rattle.json_form.specs.meaning.Texts.{json_at, octets_in}
use Rattle.outage_schedule.specs.declared.document.Client.{Client}
use Rattle.outage_schedule.specs.declared.document.ServiceOf.{ServiceOf}
use Rattle.outage_schedule.specs.declared.document.DocTable.{DocTable}
use Rattle.outage_schedule.specs.declared.document.DocSequence.{DocSequence}
use Rattle.outage_schedule.specs.declared.document.Document.{Document}
use Rattle.outage_schedule.specs.declared.event.Event.{Event}
use Rattle.doc_reader.specs.declared.document.Store.{Store}
use Rattle.doc_reader.specs.declared.document.Begin.{Begin}
use Rattle.document_forms.specs.Keeping.{is_service}
use Rattle.document_forms.specs.meaning.Tables.{tables_of, sequences_of}
use Rattle.document_forms.specs.meaning.Service.{service_of, usual_service}
use Rattle.document_forms.specs.meaning.Events.{schedule_of}
use Rattle.commit_log.specs.meaning.Journals.{journal_of}
use Rattle.doc_reader.specs.meaning.Images.{if_alone, is_store, if_store, image_of}
use Rattle.doc_reader.specs.meaning.Counts.{is_small, if_small}
use Rattle.doc_reader.specs.meaning.Documents.{is_alone, store_of, begin_of, document_with, clients_of, rest_of, document_members, document_of, limit, document_at}
use Rattle.doc_reader.specs.Keeping.{is_begin, IsDocument}
use Rattle.json_form.proofs.Offered.{after, ok_is, within_ok, passed, both_true, first_true, second_true, optional_keeps}
use Rattle.document_forms.proofs.Offered.{AreTables, tables_read, no_tables, AreSequences, sequences_read, no_sequences}
use Rattle.document_forms.proofs.Offered.{service_read, usual_is}
use Rattle.document_forms.proofs.Offered.{clients_read}
use Rattle.document_forms.proofs.Offered.{AreEvents, schedule_read, no_events}

-- an image was read only where it stands alone, and is that of a store
abbrev Alone : Bool → Option (List ℕ) → Type 0
Alone alone None = Unit {0}
Alone alone (Some image) = (alone ≡ true) × (is_store (journal_of image) ≡ true)

abbrev with_bytes : List ℕ → Result (Option (List ℕ)) Fault
with_bytes bytes = if_store (journal_of bytes) >>= λ _. Ok (Some bytes)

abbrev with_octets : List ℕ → Result (Option (List ℕ)) Fault
with_octets text = octets_in text >>= with_bytes

abbrev with_text : Bool → Data → Result (Option (List ℕ)) Fault
with_text alone d = text_of d >>= λ text. if_alone alone >>= λ _. with_octets text

image_read : (alone : Bool) (d : Data) (image : Option (List ℕ)) → image_of alone d ≡ Ok image → Alone alone image
unfolding image_of
image_read alone d image h =
    let a = after (text_of d) (λ text. if_alone alone >>= λ _. with_octets text) image h in
    let b = after (if_alone alone) (λ _. with_octets a.0) image a.2 in
    let p = passed alone (Ok tt) (here Rule) b.0 b.1 in
    let c = after (octets_in a.0) with_bytes image b.2 in
    let j = after (if_store (journal_of c.0)) (λ _. Ok (Some c.0)) image c.2 in
    subst (Alone alone) {x = Some c.0} (ok_is (Some c.0) image j.2) (p.0, (passed (is_store (journal_of c.0)) (Ok tt) (here BadImage) j.0 j.1).0)

-- a member that is not there was not read
missing : {A : Type 0} (name : List ℕ) (read : Data → Result (List A) Fault) (o : Option Data) (xs : List A) → not (is_some o) ≡ true → read_or name [] read o ≡ Ok xs → xs ≡ []
missing name read None xs none h = sym (ok_is [] xs h)
missing name read (Some d) xs none h = absurd (cc)

not_there : {A : Type 0} (name : List ℕ) (read : Data → Result (List A) Fault) (ms : Named) (xs : List A) → not (has name ms) ≡ true → optional name [] read ms ≡ Ok xs → xs ≡ []
unfolding has optional
not_there name read ms xs none h = missing name read (ms name) xs none h

no_length : {A : Type 0} (xs : List A) → xs ≡ [] → (length xs == 0) ≡ true
no_length xs e = ap (λ ys. length ys == 0) e

begins : (ms : Named) (tables : List DocTable) (sequences : List DocSequence) (image : Option (List ℕ)) → optional (codes "tables") [] tables_of ms ≡ Ok tables → optional (codes "sequences") [] sequences_of ms ≡ Ok sequences
    → Alone (is_alone ms) image → is_begin tables sequences image ≡ true
begins ms tables sequences None ht hs is = refl
begins ms tables sequences (Some image) ht hs is =
    both_true _ _ (no_length tables (not_there (codes "tables") tables_of ms tables (first_true (not (has (codes "tables") ms)) (not (has (codes "sequences") ms)) is.0) ht))
    (both_true _ _ (no_length sequences (not_there (codes "sequences") sequences_of ms sequences (second_true (not (has (codes "tables") ms)) (not (has (codes "sequences") ms)) is.0) hs)) is.1)

record IsStore (store : Store) : Type 0 where
  tables : AreTables store.tables
  sequences : AreSequences store.sequences
  begins : is_begin store.tables store.sequences store.image ≡ true

abbrev with_image : Named → List DocTable → List DocSequence → Result Store Fault
with_image ms tables sequences = optional (codes "image") None (image_of (is_alone ms)) ms >>= λ image. Ok (record { tables = tables; sequences = sequences; image = image })

abbrev with_sequences : Named → List DocTable → Result Store Fault
with_sequences ms tables = optional (codes "sequences") [] sequences_of ms >>= with_image ms tables

store_read : (ms : Named) (store : Store) → store_of ms ≡ Ok store → IsStore store
unfolding store_of
store_read ms store h =
    let t = after (optional (codes "tables") [] tables_of ms) (with_sequences ms) store h in
    let s = after (optional (codes "sequences") [] sequences_of ms) (with_image ms t.0) store t.2 in
    let i = after (optional (codes "image") None (image_of (is_alone ms)) ms) (λ image. Ok (record { tables = t.0; sequences = s.0; image = image })) store s.2 in
    let alone = optional_keeps (Alone (is_alone ms)) (codes "image") None (image_of (is_alone ms)) ms i.0 tt (image_read (is_alone ms)) i.1 in
    let made : Store = record { tables = t.0; sequences = s.0; image = i.0 } in
    subst IsStore {x = made} (ok_is made store i.2) (record {
      tables = optional_keeps AreTables (codes "tables") [] tables_of ms t.0 no_tables tables_read t.1;
      sequences = optional_keeps AreSequences (codes "sequences") [] sequences_of ms s.0 no_sequences sequences_read s.1;
      begins = begins ms t.0 s.0 i.0 t.1 s.1 alone;
    })

record IsBegin (begin : Begin) : Type 0 where
  service : is_service begin.service ≡ true
  store : IsStore begin.store

abbrev with_print : Named → ServiceOf → Store → Result Begin Fault
with_print ms service store = optional (codes "print_image") false bool_of ms >>= λ print. Ok (record { service = service; store = store; print_image = print })

abbrev with_store : Named → ServiceOf → Result Begin Fault
with_store ms service = store_of ms >>= with_print ms service

begin_read : (ms : Named) (begin : Begin) → begin_of ms ≡ Ok begin → IsBegin begin
unfolding begin_of
begin_read ms begin h =
    let s = after (optional (codes "service") usual_service service_of ms) (with_store ms) begin h in
    let t = after (store_of ms) (with_print ms s.0) begin s.2 in
    let p = after (optional (codes "print_image") false bool_of ms) (λ print. Ok (record { service = s.0; store = t.0; print_image = print })) begin t.2 in
    let made : Begin = record { service = s.0; store = t.0; print_image = p.0 } in
    subst IsBegin {x = made} (ok_is made begin p.2) (record {
      service = optional_keeps (λ (service : ServiceOf). is_service service ≡ true) (codes "service") usual_service service_of ms s.0 usual_is service_read s.1;
      store = store_read ms t.0 t.1;
    })

abbrev with_events : Begin → List Client → List Event → Result Document Fault
with_events begin cs events = if_small (document_with begin cs events)

abbrev with_clients : Option Data → Begin → List Client → Result Document Fault
with_clients schedule begin cs = read_or (codes "schedule") [] (schedule_of (length cs) begin.service.standby) schedule >>= with_events begin cs

events_read : (schedule : Option Data) (clients : ℕ) (standby : Bool) (events : List Event) → read_or (codes "schedule") [] (schedule_of clients standby) schedule ≡ Ok events → AreEvents clients standby events
unfolding optional
events_read schedule clients standby events h =
    optional_keeps (AreEvents clients standby) (codes "schedule") [] (schedule_of clients standby) (λ _. schedule) events (no_events clients standby) (schedule_read clients standby) h

rest_read : (schedule : Option Data) (clients : Data) (begin : Begin) (document : Document) → IsBegin begin → rest_of schedule clients begin ≡ Ok document → IsDocument document
unfolding rest_of
rest_read schedule clients begin document is h =
    let cs = after (within (codes "clients") (clients_of clients)) (with_clients schedule begin) document h in
    let e = after (read_or (codes "schedule") [] (schedule_of (length cs.0) begin.service.standby) schedule) (with_events begin cs.0) document cs.2 in
    let all : Document = document_with begin cs.0 e.0 in
    let q = passed (is_small all) (Ok all) (here Limit) document e.2 in
    let clients = clients_read clients cs.0 (within_ok (escaped (codes "clients")) _ cs.0 cs.1) in
    let events = events_read schedule (length cs.0) begin.service.standby e.0 e.1 in
    subst IsDocument {x = all} (ok_is all document q.1) (record {
      service = is.service;
      tables = is.store.tables.all;
      table_names = is.store.tables.apart;
      few_tables = is.store.tables.few;
      sequences = is.store.sequences.all;
      sequence_names = is.store.sequences.apart;
      few_sequences = is.store.sequences.few;
      begins = is.store.begins;
      clients = clients.all;
      few_clients = clients.few;
      schedule = events.all;
      few_events = events.few;
      small = q.0;
    })

abbrev with_begin : Named → Data → Result Document Fault
with_begin ms clients = begin_of ms >>= λ begin. rest_of (ms (codes "schedule")) clients begin

pub document_read : (d : Data) (document : Document) → document_of d ≡ Ok document → IsDocument document
unfolding document_of
document_read d document h =
    let a = after (object_with document_members d) (λ ms. required (codes "clients") ms >>= with_begin ms) document h in
    let ms = a.0 in
    let b = after (required (codes "clients") ms) (with_begin ms) document a.2 in
    let g = after (begin_of ms) (λ begin. rest_of (ms (codes "schedule")) b.0 begin) document b.2 in
    rest_read (ms (codes "schedule")) b.0 g.0 document (begin_read ms g.0 g.1) g.2

-- the document of a JSON value keeps to what documents keep to
pub of_value : (d : Data) (result : Result Document DocFault) → Gives result (document_of d) → IfOk result IsDocument
of_value d (Ok document) h = document_read d document h
of_value d (Err e) h = tt

-- the bytes' document keeps to what documents keep to
is_document : (bytes : List ℕ) (document : Document) → document_at bytes ≡ Ok document → IsDocument document
is_document bytes document h =
    let a = after (json_at limit bytes) document_of document h in document_read a.0 document a.2

pub kept : (bytes : List ℕ) (result : Result Document DocFault) → Gives result (document_at bytes) → IfOk result IsDocument
kept bytes (Ok document) h = is_document bytes document h
kept bytes (Err e) h = tt
