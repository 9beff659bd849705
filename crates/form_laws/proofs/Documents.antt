-- Each call of a document that was read keeps to the limits of calls.
use Rattle.std.proofs.Common.{◌≡◌, ℕ, List, [], ◌∷◌, ◌&&◌, length, Bool, true, Option, Ok, refl, codes}
use Rattle.std.specs.List.{AllByRecursion, list_all}
use Rattle.serde_json.specs.Data.{Data}
use Rattle.json_form.specs.declared.hexadecimal.Digits.TheVariants as digits
use Rattle.json_form.specs.meaning.Arrays.{array_of, each_of, fixed, list_of, part}
use Rattle.json_form.specs.meaning.Faults.{within}
use Rattle.json_form.specs.meaning.Objects.{object_with, optional, read_or, required}
use Rattle.json_form.specs.meaning.Pointers.{escaped}
use Rattle.json_form.specs.meaning.Texts.{head_of, json_at}
use Rattle.json_form.specs.meaning.Values.{whole_of}
use Rattle.json_form.proofs.Offered.{both_true}
use Rattle.svc_values.specs.declared.call.Call.{Call}
use Rattle.svc_values.specs.meaning.Calls.{is_made}
use Rattle.outage_schedule.specs.declared.document.Client.{Client}
use Rattle.outage_schedule.specs.declared.document.Document.{Document}
use Rattle.outage_schedule.specs.declared.document.Request.{Request}
use Rattle.outage_schedule.specs.declared.event.Event.{Event}
use Rattle.call_forms.specs.meaning.Calls.{call_of}
use Rattle.call_forms.proofs.Offered.{call_read}
use Rattle.document_forms.specs.declared.event.EventWord.{EventWord}
use Rattle.document_forms.specs.declared.event.EventWord.TheVariants as word
use Rattle.document_forms.specs.meaning.Events.{ask_of, crash_of, cut_of, event_by, event_of, event_words, failover_of, go_of, outside_of, reap_of, schedule_of, serve_of, upcrash_of}
use Rattle.document_forms.specs.meaning.Scripts.{client_of, request_of}
use Rattle.doc_reader.specs.declared.document.Begin.{Begin}
use Rattle.doc_reader.specs.meaning.Documents.{begin_of, clients_of, document_at, document_members, document_of, document_with, limit, rest_of}
use Rattle.reading_laws.specs.Calls.{fits_call}
use Rattle.form_laws.specs.Laws.{event_passes, outsides_pass, scripts_pass}
use Rattle.reading_laws.proofs.Offered.{CallKept, IfRead, all_fit, any_kept, array_kept, by_reading, call_kept, if_kept, list_kept, part_then_kept, read_is, read_or_kept, then_kept, weaker, within_kept}

-- it keeps to the limits, and can be made
abbrev pub call_passes : Call → Bool
call_passes call = fits_call call && is_made call

abbrev Passes : {A : Type 0} → (A → Bool) → A → Type 0
Passes test one = test one ≡ true

abbrev calls_pass : List Call → Bool
calls_pass calls = list_all call_passes calls

call_so : (d : Data) → IfRead (Passes call_passes) (call_of digits.Any d)
call_so d =
    by_reading (Passes call_passes) (call_of digits.Any d)
    (λ call h. both_true (fits_call call) (is_made call) (read_is CallKept (call_of digits.Any d) call (call_kept digits.Any d) h).1 (call_read digits.Any d call h))

calls_so : (d : Data) → IfRead (Passes calls_pass) (array_of 1 1024 (each_of (call_of digits.Any)) d)
calls_so d =
    weaker _ (Passes calls_pass) (array_of 1 1024 (each_of (call_of digits.Any)) d) (λ calls k. all_fit call_passes calls k.1)
    (array_kept (Passes call_passes) 1 1024 (call_of digits.Any) call_so d)

-- ---- clients

abbrev request_passes : Request → Bool
request_passes request = calls_pass request.calls

request_so : (d : Data) → IfRead (Passes request_passes) (request_of d)
unfolding request_of
request_so d =
    let P : Request → Type 0 = Passes request_passes in
    any_kept P (object_with (codes "settings" ∷ codes "calls" ∷ codes "again" ∷ []) d) _ (λ ms. any_kept P (required (codes "calls") ms) _ (λ calls.
    any_kept P (optional (codes "settings") [] _ ms) _ (λ settings.
    then_kept (Passes calls_pass) P (within (codes "calls") (array_of 1 1024 (each_of (call_of digits.Any)) calls)) _
    (within_kept (Passes calls_pass) (escaped (codes "calls")) (array_of 1 1024 (each_of (call_of digits.Any)) calls) (calls_so calls)) (λ cs k.
    any_kept P (optional (codes "again") 0 (whole_of 0 4) ms) _ (λ again. if_kept P _ (record { settings = settings; calls = cs; again = again }) _ (λ h. k))))))

abbrev client_passes : Client → Bool
client_passes client = list_all request_passes client.requests

client_so : (d : Data) → IfRead (Passes client_passes) (client_of d)
unfolding client_of
client_so d =
    let P : Client → Type 0 = Passes client_passes in
    any_kept P (object_with (codes "requests" ∷ []) d) _ (λ ms. any_kept P (required (codes "requests") ms) _ (λ requests.
    then_kept (AllByRecursion (Passes request_passes)) P (within (codes "requests") (list_of (each_of request_of) requests)) _
    (within_kept (AllByRecursion (Passes request_passes)) (escaped (codes "requests")) (list_of (each_of request_of) requests) (list_kept (Passes request_passes) request_of request_so requests))
    (λ rs k. all_fit request_passes rs k)))

-- ---- events

abbrev Keeps : Event → Type 0
Keeps = Passes (event_passes call_passes)

-- by the word that an event begins with
by_word : (clients : ℕ) (standby : Bool) (w : EventWord) (d : Data) → IfRead Keeps (event_by clients standby w d)
unfolding go_of serve_of reap_of cut_of crash_of upcrash_of outside_of ask_of failover_of
by_word clients standby word.Go d = any_kept Keeps (fixed 2 d) _ (λ ds. any_kept Keeps (part 1 _ ds) _ (λ client. refl))
by_word clients standby word.Serve d = any_kept Keeps (fixed 2 d) _ (λ ds. any_kept Keeps (part 1 _ ds) _ (λ connection. refl))
by_word clients standby word.Reap d = any_kept Keeps (fixed 2 d) _ (λ ds. any_kept Keeps (part 1 _ ds) _ (λ connection. refl))
by_word clients standby word.Cut d =
    any_kept Keeps (fixed 4 d) _ (λ ds. any_kept Keeps (part 1 _ ds) _ (λ connection. any_kept Keeps (part 2 _ ds) _ (λ up. any_kept Keeps (part 3 _ ds) _ (λ down. refl))))
by_word clients standby word.Crash d =
    any_kept Keeps (fixed 4 d) _ (λ ds. any_kept Keeps (part 1 _ ds) _ (λ connection. any_kept Keeps (part 2 _ ds) _ (λ after. any_kept Keeps (part 3 _ ds) _ (λ pick. refl))))
by_word clients standby word.Up d = any_kept Keeps (fixed 1 d) _ (λ ds. refl)
by_word clients standby word.UpCrash d = any_kept Keeps (fixed 3 d) _ (λ ds. any_kept Keeps (part 1 _ ds) _ (λ after. any_kept Keeps (part 2 _ ds) _ (λ pick. refl)))
by_word clients standby word.Tick d = any_kept Keeps (fixed 1 d) _ (λ ds. refl)
by_word clients standby word.Outside d =
    any_kept Keeps (fixed 2 d) _ (λ ds. part_then_kept (Passes calls_pass) Keeps 1 (array_of 1 1024 (each_of (call_of digits.Any))) ds _ calls_so (λ calls k. k))
by_word clients standby word.Ask d = any_kept Keeps (fixed 2 d) _ (λ ds. any_kept Keeps (part 1 _ ds) _ (λ ltxid. refl))
by_word clients standby word.Drain d = any_kept Keeps (fixed 1 d) _ (λ ds. refl)
by_word clients standby word.Failover d =
    any_kept Keeps (fixed 4 d) _ (λ ds. any_kept Keeps (part 1 _ ds) _ (λ connection. any_kept Keeps (part 2 _ ds) _ (λ after. any_kept Keeps (part 3 _ ds) _ (λ pick.
    if_kept Keeps standby _ _ (λ h. refl)))))

event_so : (clients : ℕ) (standby : Bool) (d : Data) → IfRead Keeps (event_of clients standby d)
unfolding event_of
event_so clients standby d = any_kept Keeps (head_of event_words d) _ (λ w. by_word clients standby w d)

-- ---- documents

record DocumentKeeps (document : Document) : Type 0 where
  scripts : scripts_pass call_passes document ≡ true
  outsides : outsides_pass call_passes document ≡ true

schedule_so : (clients : ℕ) (standby : Bool) (d : Data) → IfRead (Passes (list_all (event_passes call_passes))) (schedule_of clients standby d)
schedule_so clients standby d =
    weaker _ (Passes (list_all (event_passes call_passes))) (schedule_of clients standby d) (λ events k. all_fit (event_passes call_passes) events k.1)
    (array_kept Keeps 0 100000 (event_of clients standby) (event_so clients standby) d)

clients_so : (d : Data) → IfRead (Passes (list_all client_passes)) (clients_of d)
clients_so d = weaker _ (Passes (list_all client_passes)) (clients_of d) (λ clients k. all_fit client_passes clients k.1) (array_kept (Passes client_passes) 0 64 client_of client_so d)

rest_so : (schedule : Option Data) (clients : Data) (begin : Begin) → IfRead DocumentKeeps (rest_of schedule clients begin)
unfolding rest_of
rest_so schedule clients begin =
    then_kept (Passes (list_all client_passes)) DocumentKeeps (within (codes "clients") (clients_of clients)) _
    (within_kept (Passes (list_all client_passes)) (escaped (codes "clients")) (clients_of clients) (clients_so clients)) (λ cs k.
    then_kept (Passes (list_all (event_passes call_passes))) DocumentKeeps (read_or (codes "schedule") [] (schedule_of (length cs) begin.service.standby) schedule) _
    (read_or_kept (Passes (list_all (event_passes call_passes))) (codes "schedule") [] (schedule_of (length cs) begin.service.standby) schedule refl (schedule_so (length cs) begin.service.standby))
    (λ events e. if_kept DocumentKeeps _ (document_with begin cs events) _ (λ h. record { scripts = k; outsides = e })))

document_so : (d : Data) → IfRead DocumentKeeps (document_of d)
unfolding document_of
document_so d =
    any_kept DocumentKeeps (object_with document_members d) _ (λ ms. any_kept DocumentKeeps (required (codes "clients") ms) _ (λ clients.
    any_kept DocumentKeeps (begin_of ms) _ (λ begin. rest_so (ms (codes "schedule")) clients begin)))

pub document_passes : (bytes : List ℕ) (document : Document) → document_at bytes ≡ Ok document → (scripts_pass call_passes document ≡ true) × (outsides_pass call_passes document ≡ true)
document_passes bytes document read =
    let keeps = read_is DocumentKeeps (document_at bytes) document (any_kept DocumentKeeps (json_at limit bytes) document_of document_so) read in (keeps.scripts, keeps.outsides)
