-- What is read of a document in a part of its own changes nothing for the others.
use Rattle.std.proofs.Common.{◌≡◌, ℕ, List, false, Result, Ok, codes, refl, sym, ap, subst, ◌∙◌, rules}
use Rattle.std.specs.Prelude.{Bool, Option}
use Rattle.std.specs.Str.{bytes_eq}
use Rattle.serde_json.specs.Data.{Data}
use Rattle.json_form.specs.declared.fault.DocFault.{DocFault}
use Rattle.json_form.specs.meaning.Faults.{Fault, ◌>>=◌}
use Rattle.json_form.specs.Faults.{Fails}
use Rattle.json_form.specs.meaning.Values.{bool_of}
use Rattle.json_form.specs.meaning.Objects.{Named, object_with, required, optional}
use Rattle.json_form.specs.Objects.{without}
use Rattle.outage_schedule.specs.declared.document.ServiceOf.{ServiceOf}
use Rattle.document_forms.specs.meaning.Service.{service_of, usual_service}
use Rattle.doc_reader.specs.declared.document.Store.{Store}
use Rattle.doc_reader.specs.declared.document.Begin.{Begin}
use Rattle.doc_reader.specs.meaning.Documents.{store_of, begin_of, rest_of, document_members, document_of}
use Rattle.json_form.proofs.Offered.{others_stay}
use Rattle.document_forms.proofs.Offered.{fails_first, fails_after, optional_apart, at_apart}

-- what the store begins with, once another member was taken out
pub store_after : (other : List ℕ) (ms : Named) → bytes_eq (codes "tables") other ≡ false → bytes_eq (codes "sequences") other ≡ false → bytes_eq (codes "image") other ≡ false → store_of (without other ms) ≡ store_of ms
unfolding store_of
store_after other ms a b c = search (rules, others_stay, a, b, c)

-- what a run begins with, once another member was taken out
pub begin_after : (other : List ℕ) (ms : Named) → bytes_eq (codes "service") other ≡ false → bytes_eq (codes "tables") other ≡ false → bytes_eq (codes "sequences") other ≡ false → bytes_eq (codes "image") other ≡ false → bytes_eq (codes "print_image") other ≡ false
    → begin_of (without other ms) ≡ begin_of ms
unfolding begin_of
begin_after other ms a b c d e = search (rules, others_stay, store_after, a, b, c, d, e)

pub ruleset parts_stay = (store_after, begin_after)

-- ---- what a run begins with

abbrev pub print_of : Named → Result Bool Fault
print_of ms = optional (codes "print_image") false bool_of ms

abbrev store_taken : Named → Named
store_taken ms = without (codes "image") (without (codes "sequences") (without (codes "tables") ms))

store_stays : (ms one : Named) → one ≡ without (codes "service") ms → store_of one ≡ store_of ms
store_stays ms one left = ap store_of left ∙ store_after (codes "service") ms refl refl refl

print_stays : (ms one two : Named) → one ≡ without (codes "service") ms → two ≡ store_taken one → print_of two ≡ print_of ms
print_stays ms one two left behind =
    ap print_of behind ∙ optional_apart (codes "print_image") (codes "image") false bool_of (without (codes "sequences") (without (codes "tables") one)) refl
    ∙ optional_apart (codes "print_image") (codes "sequences") false bool_of (without (codes "tables") one) refl ∙ optional_apart (codes "print_image") (codes "tables") false bool_of one refl
    ∙ ap print_of left ∙ optional_apart (codes "print_image") (codes "service") false bool_of ms refl

abbrev pub made_begin : ServiceOf → Store → Bool → Result Begin Fault
made_begin service store print = Ok (record { service = service; store = store; print_image = print })

abbrev pub served_of : Named → Result ServiceOf Fault
served_of ms = optional (codes "service") usual_service service_of ms

pub begin_given : (ms one two : Named) (s : ServiceOf) (t : Store) (p : Bool) → one ≡ without (codes "service") ms → two ≡ store_taken one → served_of ms ≡ Ok s → store_of one ≡ Ok t → print_of two ≡ Ok p → begin_of ms ≡ made_begin s t p
unfolding begin_of
begin_given ms one two s t p left behind hs ht hp =
    ap (λ (q : Result ServiceOf Fault). q >>= λ service. store_of ms >>= λ store. print_of ms >>= made_begin service store) hs
    ∙ ap (λ (q : Result Store Fault). q >>= λ store. print_of ms >>= made_begin s store) (sym (store_stays ms one left) ∙ ht) ∙ ap (λ (q : Result Bool Fault). q >>= made_begin s t) (sym (print_stays ms one two left behind) ∙ hp)

pub begin_fails : (ms one two : Named) (s : ServiceOf) (t : Store) (e : DocFault) → one ≡ without (codes "service") ms → two ≡ store_taken one → served_of ms ≡ Ok s → store_of one ≡ Ok t → Fails e (print_of two) → Fails e (begin_of ms)
unfolding begin_of
begin_fails ms one two s t e left behind hs ht hp =
    fails_after e (served_of ms) s (λ service. store_of ms >>= λ store. print_of ms >>= made_begin service store) hs
    (fails_after e (store_of ms) t (λ store. print_of ms >>= made_begin s store) (sym (store_stays ms one left) ∙ ht)
    (fails_first e (print_of ms) (made_begin s t) (subst (λ (q : Result Bool Fault). Fails e q) (print_stays ms one two left behind) hp)))

pub begin_left : (ms one two three : Named) → one ≡ without (codes "service") ms → two ≡ store_taken one → three ≡ without (codes "print_image") two → three ≡ without (codes "print_image") (store_taken (without (codes "service") ms))
begin_left ms one two three left behind last = last ∙ ap (without (codes "print_image")) (behind ∙ ap store_taken left)

-- ---- the whole document

begin_stays : (ms one : Named) → one ≡ without (codes "clients") ms → begin_of one ≡ begin_of ms
begin_stays ms one left = ap begin_of left ∙ begin_after (codes "clients") ms refl refl refl refl refl

abbrev begin_taken : Named → Named
begin_taken ms = without (codes "print_image") (store_taken (without (codes "service") ms))

abbrev events_at : Named → Option Data
events_at ms = ms (codes "schedule")

events_stay : (ms one two : Named) → one ≡ without (codes "clients") ms → two ≡ begin_taken one → events_at two ≡ events_at ms
events_stay ms one two left behind =
    ap events_at behind ∙ at_apart (codes "schedule") (codes "print_image") (store_taken (without (codes "service") one)) refl
    ∙ at_apart (codes "schedule") (codes "image") (without (codes "sequences") (without (codes "tables") (without (codes "service") one))) refl ∙ at_apart (codes "schedule") (codes "sequences") (without (codes "tables") (without (codes "service") one)) refl
    ∙ at_apart (codes "schedule") (codes "tables") (without (codes "service") one) refl ∙ at_apart (codes "schedule") (codes "service") one refl ∙ ap events_at left ∙ at_apart (codes "schedule") (codes "clients") ms refl

-- what was read of the clients and events is what the document is read as
pub rest_given : (d : Data) (ms one two : Named) (clients : Data) (begin : Begin) (schedule : Option Data) → object_with document_members d ≡ Ok ms → required (codes "clients") ms ≡ Ok clients → one ≡ without (codes "clients") ms → begin_of one ≡ Ok begin → two ≡ begin_taken one
    → schedule ≡ two (codes "schedule") → document_of d ≡ rest_of schedule clients begin
unfolding document_of
rest_given d ms one two clients begin schedule ho hc left hb behind hs =
    ap (λ (q : Result Named Fault). q >>= λ found. required (codes "clients") found >>= λ cs. begin_of found >>= λ first. rest_of (found (codes "schedule")) cs first) ho
    ∙ ap (λ (q : Result Data Fault). q >>= λ cs. begin_of ms >>= λ first. rest_of (ms (codes "schedule")) cs first) hc
    ∙ ap (λ (q : Result Begin Fault). q >>= λ first. rest_of (ms (codes "schedule")) clients first) (sym (begin_stays ms one left) ∙ hb)
    ∙ ap (λ (o : Option Data). rest_of o clients begin) (sym (hs ∙ events_stay ms one two left behind))
