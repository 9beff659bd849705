-- What a run asks of a document is what a document that was read keeps to.
use Rattle.std.proofs.Common.{◌≡◌, ℕ, zero, suc, ◌≤◌, ◌^◌, ◌+◌, List, [], ◌∷◌, length, length-append, true, false, refl, arith}
use Rattle.std.specs.Prelude.{Bool, ◌||◌, nat_le, ◌==◌}
use Rattle.std.specs.List.{list_all, flat_map, AllByRecursion}
use Rattle.std.proofs.lemmas.Bool.Decides.{nat_tests}
use Rattle.json_form.proofs.Offered.{first_true, second_true, both_true}
use Rattle.svc_values.specs.declared.call.Call.{Call}
use Rattle.svc_values.specs.declared.call.Call.TheVariants as call
use Rattle.svc_values.specs.declared.entry.Ltxid.{Ltxid}
use Rattle.svc_values.specs.Identifiers.{IsLtxid}
use Rattle.svc_values.specs.meaning.Calls.{is_made}
use Rattle.svc_values.specs.Calls.{IsMade}
use Rattle.outage_schedule.specs.declared.document.ServiceOf.{ServiceOf}
use Rattle.outage_schedule.specs.declared.document.Request.{Request}
use Rattle.outage_schedule.specs.declared.document.Client.{Client}
use Rattle.outage_schedule.specs.declared.document.Document.{Document}
use Rattle.outage_schedule.specs.declared.event.Event.{Event}
use Rattle.outage_schedule.specs.declared.event.Event.TheVariants as event
use Rattle.doc_reader.specs.meaning.Counts.{is_small, calls_in_event, has_few_names, calls_in}
use Rattle.document_forms.specs.Keeping.{is_service, is_request, is_client, is_event}
use Rattle.doc_reader.specs.Keeping.{IsDocument}
use Rattle.document_forms.specs.meaning.Numbers.{is_count, is_small_ltxid}
use Rattle.document_forms.specs.Numbers.{is_between}
use Rattle.document_forms.specs.meaning.Scripts.{is_inside, is_one_transaction}
use Rattle.server_model.specs.meaning.ServiceCalls.{is_failover}
use Rattle.run_laws.specs.FinishShort.{AreLimits, calls_of_scripts, is_repeated_little}
use Rattle.world_model.specs.records.Ready.{has_calls, is_rightly_repeated, is_right_request}
use Rattle.world_model.specs.records.Ready as ready
use Rattle.cover_core.specs.Made.{has_made_calls, has_made_requests}
use Rattle.world_core.specs.Allowing.{IsAllowed}
use Rattle.world_core.specs.Among.{IsFitScript}
use Rattle.world_core.specs.Coursing.{IsFit}
use Rattle.world_run.specs.Starting.{HasRoom}

-- LISTS -------------------------------------------------------------------------------------------

all_by : {A : Type 0} (test : A → Bool) (P : A → Type 0) → ((one : A) → test one ≡ true → P one) → (all : List A) → list_all test all ≡ true → AllByRecursion P all
all_by test P holds [] are = tt
all_by test P holds (one ∷ all) are = (holds one (first_true (test one) _ are), all_by test P holds all (second_true (test one) _ are))

all_imply : {A : Type 0} (test other : A → Bool) → ((one : A) → test one ≡ true → other one ≡ true) → (all : List A) → list_all test all ≡ true → list_all other all ≡ true
all_imply test other holds [] are = refl
all_imply test other holds (one ∷ all) are = both_true _ _ (holds one (first_true (test one) _ are)) (all_imply test other holds all (second_true (test one) _ are))

-- NUMBERS -----------------------------------------------------------------------------------------

low : (least most n : ℕ) → is_between least most n ≡ true → least ≤ n
low least most n is = let one : nat_le least n ≡ true = first_true (nat_le least n) _ is in grind (arith, nat_tests)

high : (least most n : ℕ) → is_between least most n ≡ true → n ≤ most
high least most n is = let one : nat_le n most ≡ true = second_true (nat_le least n) _ is in grind (arith, nat_tests)

counted : (n : ℕ) → is_count n ≡ true → n ≤ 2 ^ 63
counted n is = grind (arith, nat_tests)

-- THE SERVICE -------------------------------------------------------------------------------------

record KeepsLimits (service : ServiceOf) : Type 0 where
  tries : 1 ≤ service.retries
  delay : service.delay ≤ 1000
  replays : service.replays ≤ 4
  recorded : service.record_limit ≤ 256
  slots : (1 ≤ service.pool.max) × (service.pool.max ≤ 64)
  wait : service.pool.wait ≤ 1000000
  retention : service.retention ≤ 1000000

keeps_limits : (service : ServiceOf) → is_service service ≡ true → KeepsLimits service
unfolding is_service
keeps_limits service is =
    let behind_retries = second_true (is_between 1 1000 service.retries) _ is in
    let behind_delay = second_true (is_between 0 1000 service.delay) _ behind_retries in
    let behind_timeout = second_true (is_between 0 1000000 service.timeout) _ behind_delay in
    let behind_replays = second_true (is_between 0 4 service.replays) _ behind_timeout in
    let behind_recorded = second_true (is_between 1 256 service.record_limit) _ behind_replays in
    let slots = first_true (is_between 1 64 service.pool.max) _ behind_recorded in
    let behind_slots = second_true (is_between 1 64 service.pool.max) _ behind_recorded in
    record {
      tries = low 1 1000 service.retries (first_true (is_between 1 1000 service.retries) _ is);
      delay = high 0 1000 service.delay (first_true (is_between 0 1000 service.delay) _ behind_retries);
      replays = high 0 4 service.replays (first_true (is_between 0 4 service.replays) _ behind_timeout);
      recorded = high 1 256 service.record_limit (first_true (is_between 1 256 service.record_limit) _ behind_replays);
      slots = (low 1 64 service.pool.max slots, high 1 64 service.pool.max slots);
      wait = high 1 1000000 service.pool.wait (first_true (is_between 1 1000000 service.pool.wait) _ behind_slots);
      retention = high 0 1000000 service.retention (second_true (is_between 1 1000000 service.pool.wait) (is_between 0 1000000 service.retention) behind_slots);
    }

pub has_room : (document : Document) → IsDocument document → HasRoom document.service
has_room document is =
    let keeps = keeps_limits document.service is.service in
    let retention : document.service.retention ≤ 1000000 = keeps.retention in
    record { slots = keeps.slots; retention = omega (arith, retention) }

-- a request tries at least once
pub may_try : (document : Document) → IsDocument document → 1 ≤ document.service.retries
may_try document is = (keeps_limits document.service is.service).tries

-- REQUESTS ----------------------------------------------------------------------------------------

record KeepsRequest (request : Request) : Type 0 where
  made : list_all is_made request.calls ≡ true
  calls : is_between 1 1024 (length request.calls) ≡ true
  again : nat_le request.again 4 ≡ true
  whole : ((request.again == 0) || is_one_transaction request.calls) ≡ true

keeps_request : (request : Request) → is_request request ≡ true → KeepsRequest request
unfolding is_request
keeps_request request is =
    let behind_made = second_true (list_all is_made request.calls) _ is in
    let behind_calls = second_true (is_between 1 1024 (length request.calls)) _ behind_made in
    record {
      made = first_true (list_all is_made request.calls) _ is;
      calls = first_true (is_between 1 1024 (length request.calls)) _ behind_made;
      again = second_true (nat_le 0 request.again) (nat_le request.again 4) (first_true (is_between 0 4 request.again) ((request.again == 0) || is_one_transaction request.calls) behind_calls);
      whole = second_true (is_between 0 4 request.again) ((request.again == 0) || is_one_transaction request.calls) behind_calls;
    }

made_all : (calls : List Call) → list_all is_made calls ≡ true → AllByRecursion IsMade calls
made_all = all_by is_made IsMade (λ call is. is)

fit_request : (request : Request) → is_request request ≡ true → IsFit request
fit_request request is =
    let keeps = keeps_request request is in
    record { some = low 1 1024 (length request.calls) keeps.calls; few = high 1 1024 (length request.calls) keeps.calls; made = made_all request.calls keeps.made }

has_call : (request : Request) → is_request request ≡ true → has_calls request ≡ true
has_call request is =
    let some : 1 ≤ length request.calls = low 1 1024 (length request.calls) (keeps_request request is).calls in
    grind (arith, nat_tests)

-- world_model's words for one transaction are the reader's
inside : (one : Call) → is_inside one ≡ true → ready.is_inside one ≡ true
inside call.Rollback is = absurd (let none : ⊥ = cc in none)
inside (call.Alter line) is = absurd (let none : ⊥ = cc in none)
inside one is = is

one_transaction : (calls : List Call) → is_one_transaction calls ≡ true → ready.is_one_transaction calls ≡ true
one_transaction [] is = absurd (let none : ⊥ = cc in none)
one_transaction (one ∷ []) is = is
one_transaction (one ∷ next ∷ calls) is =
    both_true _ _ (inside one (first_true (is_inside one) (is_one_transaction (next ∷ calls)) is)) (one_transaction (next ∷ calls) (second_true (is_inside one) (is_one_transaction (next ∷ calls)) is))

rightly_repeated : (request : Request) → is_request request ≡ true → is_rightly_repeated request ≡ true
rightly_repeated request is = by (request.again == 0) (keeps_request request is).whole
  where
    by : (once : Bool) → (once || is_one_transaction request.calls) ≡ true → (once || ready.is_one_transaction request.calls) ≡ true
    by true whole = refl
    by false whole = one_transaction request.calls whole

right_request : (request : Request) → is_request request ≡ true → is_right_request request ≡ true
right_request request is = both_true _ _ (has_call request is) (rightly_repeated request is)

repeated_little : (request : Request) → is_request request ≡ true → is_repeated_little request ≡ true
repeated_little request is = (keeps_request request is).again

of_requests : (test : Request → Bool) → ((request : Request) → is_request request ≡ true → test request ≡ true) → (client : Client) → is_client client ≡ true → list_all test client.requests ≡ true
unfolding is_client
of_requests test holds client is = all_imply is_request test holds client.requests is

fit_client : (client : Client) → is_client client ≡ true → IsFitScript client
unfolding is_client
fit_client client is = all_by is_request IsFit fit_request client.requests is

pub fit_scripts : (document : Document) → IsDocument document → AllByRecursion IsFitScript document.clients
fit_scripts document is = all_by is_client IsFitScript fit_client document.clients is.clients

-- THE LIMITS --------------------------------------------------------------------------------------

few_calls : (document : Document) → is_small document ≡ true → length (calls_of_scripts document.clients) ≤ 2048
few_calls document is =
    let few : nat_le (length (calls_in document)) 2048 ≡ true = first_true (nat_le (length (calls_in document)) 2048) (has_few_names document) is in
    let long : length (calls_in document) ≡ length (calls_of_scripts document.clients) + length (flat_map calls_in_event document.schedule) = length-append (calls_of_scripts document.clients) (flat_map calls_in_event document.schedule) in
    grind (arith, nat_tests)

pub are_limits : (document : Document) → IsDocument document → AreLimits document
are_limits document is =
    let keeps = keeps_limits document.service is.service in
    record {
      delay = keeps.delay;
      wait = keeps.wait;
      replays = keeps.replays;
      recorded = keeps.recorded;
      clients = is.few_clients;
      calls = few_calls document is.small;
      have_calls = all_imply is_client (λ client. list_all is_right_request client.requests) (of_requests is_right_request right_request) document.clients is.clients;
      again = all_imply is_client (λ client. list_all is_repeated_little client.requests) (of_requests is_repeated_little repeated_little) document.clients is.clients;
    }

-- EVENTS ------------------------------------------------------------------------------------------

one_store : (pick : ℕ) → nat_le pick 3 ≡ true → is_failover pick ≡ false
one_store zero is = refl
one_store (suc zero) is = refl
one_store (suc (suc zero)) is = refl
one_store (suc (suc (suc zero))) is = refl
one_store (suc (suc (suc (suc pick)))) is = absurd (let some : 4 ≤ suc (suc (suc (suc pick))) = omega arith in let none : ⊥ = grind (arith, nat_tests) in none)

small_ltxid : (x : Ltxid) → is_small_ltxid x ≡ true → IsLtxid x
small_ltxid x is =
    let behind = second_true (is_count x.incarnation) _ is in
    (counted x.incarnation (first_true (is_count x.incarnation) _ is), counted x.session (first_true (is_count x.session) _ behind), counted x.number (second_true (is_count x.session) (is_count x.number) behind))

allowed : (clients : ℕ) (standby : Bool) (one : Event) → is_event clients standby one ≡ true → IsAllowed clients one
unfolding is_event
allowed clients standby (event.Go client) is = (low 1 clients client is, high 1 clients client is)
allowed clients standby (event.Serve connection) is = tt
allowed clients standby (event.Cut connection up down) is = tt
allowed clients standby (event.Reap connection) is = tt
allowed clients standby (event.Crash connection after pick) is = tt
allowed clients standby event.Up is = tt
allowed clients standby (event.UpCrash after pick) is = one_store pick (second_true (is_count after) (nat_le pick 3) is)
allowed clients standby event.Tick is = tt
allowed clients standby (event.Outside calls) is = made_all calls (first_true (list_all is_made calls) _ is)
allowed clients standby (event.Ask ltxid) is = small_ltxid ltxid is
allowed clients standby event.Drain is = tt

pub events_allowed : (document : Document) → IsDocument document → AllByRecursion (IsAllowed (length document.clients)) document.schedule
events_allowed document is =
    all_by (is_event (length document.clients) document.service.standby) (IsAllowed (length document.clients)) (allowed (length document.clients) document.service.standby) document.schedule is.schedule

-- COVER -------------------------------------------------------------------------------------------

made_request : (request : Request) → is_request request ≡ true → has_made_calls request ≡ true
unfolding has_made_calls
made_request request is = (keeps_request request is).made

made_client : (client : Client) → is_client client ≡ true → has_made_requests client ≡ true
unfolding has_made_requests
made_client client is = of_requests has_made_calls made_request client is

-- each call of the scripts is one that there is
pub made_scripts : (document : Document) → IsDocument document → list_all has_made_requests document.clients ≡ true
made_scripts document is = all_imply is_client has_made_requests made_client document.clients is.clients
