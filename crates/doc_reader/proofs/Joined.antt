-- A document of which the tables, clients and events were read before its other members.
use Rattle.std.proofs.Common.{◌≡◌, ℕ, List, [], length, Bool, false, Option, Some, None, option_map, Result, Ok, codes, refl, sym, ap, ◌∙◌}
use Rattle.serde_json.specs.Data.{Members, object}
use Rattle.json_form.specs.meaning.Faults.{Fault, ◌>>=◌, within}
use Rattle.json_form.specs.meaning.Values.{bool_of}
use Rattle.json_form.specs.meaning.Objects.{Named, named, known, object_with, has, required, optional, read_or}
use Rattle.json_form.specs.Objects.{without}
use Rattle.outage_schedule.specs.declared.document.Client.{Client}
use Rattle.outage_schedule.specs.declared.document.DocTable.{DocTable}
use Rattle.outage_schedule.specs.declared.document.DocSequence.{DocSequence}
use Rattle.outage_schedule.specs.declared.document.Document.{Document}
use Rattle.outage_schedule.specs.declared.event.Event.{Event}
use Rattle.doc_reader.specs.declared.document.Store.{Store}
use Rattle.doc_reader.specs.declared.document.Begin.{Begin}
use Rattle.document_forms.specs.meaning.Tables.{tables_of, sequences_of}
use Rattle.document_forms.specs.meaning.Service.{service_of, usual_service}
use Rattle.document_forms.specs.meaning.Events.{schedule_of}
use Rattle.doc_reader.specs.meaning.Images.{image_of}
use Rattle.doc_reader.specs.meaning.Counts.{if_small}
use Rattle.doc_reader.specs.meaning.Documents.{is_alone, store_of, begin_of, document_with, clients_of, rest_of, document_members, document_of}
use Rattle.doc_reader.specs.Ahead.{held_back}
use Rattle.json_form.proofs.Offered.{after, ok_is}
use Rattle.document_forms.proofs.Offered.{gives_after, optional_apart, none_there, none_left, one_there, may_be_there, members_there, required_there}
use Rattle.doc_reader.proofs.Parts.{begin_after, served_of, print_of, made_begin}
use Rattle.doc_reader.proofs.OneByOne.{nothing_taken}

begin_held : (ms : Named) → begin_of (held_back ms) ≡ begin_of (without (codes "tables") ms)
begin_held ms = begin_after (codes "schedule") (without (codes "clients") (without (codes "tables") ms)) refl refl refl refl refl ∙ begin_after (codes "clients") (without (codes "tables") ms) refl refl refl refl refl

-- ---- no tables

pub begin_without : (ms : Named) (begin : Begin) → option_map tables_of (ms (codes "tables")) ≡ None → begin_of (held_back ms) ≡ Ok begin → begin_of ms ≡ Ok begin
begin_without ms begin none h = sym (ap begin_of (nothing_taken (codes "tables") ms (none_there tables_of (ms (codes "tables")) none))) ∙ sym (begin_held ms) ∙ h

-- ---- tables, and no image

missing_image : (ms : Named) → has (codes "image") (held_back ms) ≡ false → ms (codes "image") ≡ None
unfolding has without
missing_image ms h = none_left (ms (codes "image")) h

unread_image : (alone : Bool) (ms : Named) → ms (codes "image") ≡ None → optional (codes "image") None (image_of alone) ms ≡ Ok None
unfolding optional
unread_image alone ms none = ap (read_or (codes "image") None (image_of alone)) none

read_tables : (ms : Named) (tables : List DocTable) → option_map tables_of (ms (codes "tables")) ≡ Some (Ok tables) → optional (codes "tables") [] tables_of ms ≡ Ok tables
unfolding optional
read_tables ms tables e = may_be_there (codes "tables") [] tables_of (ms (codes "tables")) (Some tables) e

abbrev with_image : Named → List DocTable → List DocSequence → Result Store Fault
with_image ms tables sequences = optional (codes "image") None (image_of (is_alone ms)) ms >>= λ image. Ok (record { tables = tables; sequences = sequences; image = image })

abbrev with_sequences : Named → List DocTable → Result Store Fault
with_sequences ms tables = optional (codes "sequences") [] sequences_of ms >>= with_image ms tables

abbrev with_tables : List DocTable → Store → Store
with_tables tables store = record { tables = tables; sequences = store.sequences; image = store.image }

store_with : (ms : Named) (tables : List DocTable) (store : Store) → option_map tables_of (ms (codes "tables")) ≡ Some (Ok tables) → ms (codes "image") ≡ None → store_of (without (codes "tables") ms) ≡ Ok store → store_of ms ≡ Ok (with_tables tables store)
unfolding store_of
store_with ms tables store e none h =
    let others = without (codes "tables") ms in
    let t = after (optional (codes "tables") [] tables_of others) (with_sequences others) store h in
    let s = after (optional (codes "sequences") [] sequences_of others) (with_image others t.0) store t.2 in
    let i = after (optional (codes "image") None (image_of (is_alone others)) others) (λ image. Ok (record { tables = t.0; sequences = s.0; image = image })) store s.2 in
    let made : Store = record { tables = t.0; sequences = s.0; image = i.0 } in
    let sequences : optional (codes "sequences") [] sequences_of ms ≡ Ok s.0 = sym (optional_apart (codes "sequences") (codes "tables") [] sequences_of ms refl) ∙ s.1 in
    let unread : None ≡ i.0 = ok_is None i.0 (sym (unread_image (is_alone others) ms none) ∙ sym (optional_apart (codes "image") (codes "tables") None (image_of (is_alone others)) ms refl) ∙ i.1) in
    gives_after (optional (codes "tables") [] tables_of ms) tables (with_sequences ms) (with_tables tables store) (read_tables ms tables e)
    (gives_after (optional (codes "sequences") [] sequences_of ms) s.0 (with_image ms tables) (with_tables tables store) sequences
    (gives_after (optional (codes "image") None (image_of (is_alone ms)) ms) None (λ image. Ok (record { tables = tables; sequences = s.0; image = image })) (with_tables tables store) (unread_image (is_alone ms) ms none)
    (ap (λ (image : Option (List ℕ)). Ok (record { tables = tables; sequences = s.0; image = image })) unread ∙ ap (λ (one : Store). Ok (with_tables tables one)) (ok_is made store i.2))))

pub begin_with_tables : (ms : Named) (tables : List DocTable) (begin : Begin) → option_map tables_of (ms (codes "tables")) ≡ Some (Ok tables) → has (codes "image") (held_back ms) ≡ false → begin_of (held_back ms) ≡ Ok begin
    → begin_of ms ≡ Ok (record { service = begin.service; store = with_tables tables begin.store; print_image = begin.print_image })
unfolding begin_of
begin_with_tables ms tables begin e lacks h =
    let others = without (codes "tables") ms in
    let s = after (served_of others) (λ service. store_of others >>= λ store. print_of others >>= made_begin service store) begin (sym (begin_held ms) ∙ h) in
    let t = after (store_of others) (λ store. print_of others >>= made_begin s.0 store) begin s.2 in
    let p = after (print_of others) (made_begin s.0 t.0) begin t.2 in
    let made : Begin = record { service = s.0; store = t.0; print_image = p.0 } in
    let all : Begin → Begin = λ one. record { service = one.service; store = with_tables tables one.store; print_image = one.print_image } in
    gives_after (served_of ms) s.0 (λ service. store_of ms >>= λ store. print_of ms >>= made_begin service store) (all begin) (sym (optional_apart (codes "service") (codes "tables") usual_service service_of ms refl) ∙ s.1)
    (gives_after (store_of ms) (with_tables tables t.0) (λ store. print_of ms >>= made_begin s.0 store) (all begin) (store_with ms tables t.0 e (missing_image ms lacks) t.1)
    (gives_after (print_of ms) p.0 (made_begin s.0 (with_tables tables t.0)) (all begin) (sym (optional_apart (codes "print_image") (codes "tables") false bool_of ms refl) ∙ p.1)
    (ap (λ (one : Begin). Ok (all one)) (ok_is made begin p.2))))

-- ---- the whole document

pub document_joined : (ms : Members) (clients : List Client) (begin : Begin) (events : List Event) (document : Document) → known document_members ms ≡ Ok tt → option_map clients_of (named ms (codes "clients")) ≡ Some (Ok clients) → begin_of (named ms) ≡ Ok begin
    → read_or (codes "schedule") [] (schedule_of (length clients) begin.service.standby) (named ms (codes "schedule")) ≡ Ok events → if_small (document_with begin clients events) ≡ Ok document → document_of (object ms) ≡ Ok document
unfolding document_of rest_of
document_joined ms clients begin events document all hc hb hs small =
    let c = one_there clients_of (named ms (codes "clients")) clients hc in
    gives_after (object_with document_members (object ms)) (named ms) (λ found. required (codes "clients") found >>= λ cs. begin_of found >>= λ first. rest_of (found (codes "schedule")) cs first) document (members_there document_members ms all)
    (gives_after (required (codes "clients") (named ms)) c.0 (λ cs. begin_of (named ms) >>= λ first. rest_of (named ms (codes "schedule")) cs first) document (required_there (codes "clients") (named ms) c.0 c.1)
    (gives_after (begin_of (named ms)) begin (λ first. rest_of (named ms (codes "schedule")) c.0 first) document hb
    (gives_after (within (codes "clients") (clients_of c.0)) clients (λ cs. read_or (codes "schedule") [] (schedule_of (length cs) begin.service.standby) (named ms (codes "schedule")) >>= λ es. if_small (document_with begin cs es)) document (ap (within (codes "clients")) c.2)
    (gives_after (read_or (codes "schedule") [] (schedule_of (length clients) begin.service.standby) (named ms (codes "schedule"))) events (λ es. if_small (document_with begin clients es)) document hs small))))
