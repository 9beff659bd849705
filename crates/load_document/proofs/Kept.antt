-- The document of a load keeps to what a document keeps to that was read.
use Rattle.std.proofs.Common.{◌≡◌, ◌∙◌, ℕ, zero, suc, ◌+◌, ◌*◌, ◌/◌, ◌≤◌, ◌<◌, ◌==◌, ◌&&◌, Bool, true, false, [], ◌++◌, length, nat_le, if◌then◌else◌, refl, sym, ap, subst, arith, length-append, append-nil, mod-lt, mul-le-mul}
use Rattle.std.specs.List.{list_all, flat_map}
use Rattle.std.proofs.lemmas.Bool.Decides.{nat_tests}
use Rattle.outage_schedule.specs.declared.event.Event.{Event}
use Rattle.outage_schedule.specs.declared.event.Event.TheVariants as event
use Rattle.document_forms.specs.meaning.Numbers.{is_count}
use Rattle.document_forms.specs.Numbers.{is_between}
use Rattle.document_forms.specs.Keeping.{is_service, is_table, is_request, is_client, is_event}
use Rattle.doc_reader.specs.Keeping.{IsDocument}
use Rattle.doc_reader.specs.meaning.Counts.{calls_in_request, calls_in_client, calls_in_event, names_in_statement, names_in_call, names_in_request, names_in_client, names_in_event, names_in, different, has_few_calls, has_few_names}
use Rattle.load_document.specs.meaning.Loads.{next, drawn, behind, transfer, transfers, scripts, connection_drawn, client_drawn, event_at, behind_event, events, accounts, load_service, loaded}

both : (a b : Bool) → a ≡ true → b ≡ true → (a && b) ≡ true
both true true h k = refl
both true false h k = k
both false b h k = h

between : (low high n : ℕ) → low ≤ n → n ≤ high → is_between low high n ≡ true
between low high n least most = both (nat_le low n) (nat_le n high) (grind (arith, nat_tests)) (grind (arith, nat_tests))

-- a number that is drawn below another one is below it
drawn_below : (m x : ℕ) → 1 ≤ m → drawn m x < m
unfolding drawn
drawn_below m x some = mod-lt _ some

-- THE SERVICE -------------------------------------------------------------------------------------

slots : (clients : ℕ) → clients ≤ 64 → is_between 1 64 (1 + clients / 2) ≡ true
slots clients few = between 1 64 (1 + clients / 2) (omega arith) (omega (arith, few))

service_kept : (clients : ℕ) → clients ≤ 64 → is_service (load_service clients) ≡ true
unfolding is_service
service_kept clients few = both (is_between 1 64 (1 + clients / 2)) true (slots clients few) refl

-- THE TABLE ---------------------------------------------------------------------------------------

table_kept : is_table accounts ≡ true
unfolding is_table accounts
table_kept = refl

-- THE SCRIPTS -------------------------------------------------------------------------------------

request_kept : (a b : ℕ) → is_request (transfer a b) ≡ true
unfolding is_request transfer
request_kept a b = refl

requests_kept : (n x : ℕ) → list_all is_request (transfers n x) ≡ true
requests_kept zero x = refl
requests_kept (suc n) x = both _ _ (request_kept (drawn 16 (next x)) (drawn 16 (next (next x)))) (requests_kept n (next (next x)))

client_kept : (n x : ℕ) → is_client (record { requests = transfers n x }) ≡ true
unfolding is_client
client_kept n x = requests_kept n x

clients_kept : (n requests x : ℕ) → list_all is_client (scripts n requests x) ≡ true
clients_kept zero requests x = refl
clients_kept (suc n) requests x = both _ _ (client_kept requests x) (clients_kept n requests (behind (2 * requests) x))

pub clients_counted : (n requests x : ℕ) → length (scripts n requests x) ≡ n
clients_counted zero requests x = refl
clients_counted (suc n) requests x = ap suc (clients_counted n requests (behind (2 * requests) x))

-- CALLS AND NAMES ---------------------------------------------------------------------------------

transfer_calls : (a b : ℕ) → length (calls_in_request (transfer a b)) ≡ 3
unfolding transfer
transfer_calls a b = refl

requests_calls : (n x : ℕ) → length (flat_map calls_in_request (transfers n x)) ≡ 3 * n
requests_calls zero x = refl
requests_calls (suc n) x =
    let one = transfer_calls (drawn 16 (next x)) (drawn 16 (next (next x))) in
    let others = requests_calls n (next (next x)) in
    length-append (calls_in_request (transfer (drawn 16 (next x)) (drawn 16 (next (next x))))) (flat_map calls_in_request (transfers n (next (next x)))) ∙ omega (arith, one, others)

clients_calls : (n requests x : ℕ) → requests ≤ 10 → length (flat_map calls_in_client (scripts n requests x)) ≤ 30 * n
clients_calls zero requests x few = omega arith
clients_calls (suc n) requests x few =
    let one = requests_calls requests x in
    let others = clients_calls n requests (behind (2 * requests) x) few in
    let parts = length-append (flat_map calls_in_request (transfers requests x)) (flat_map calls_in_client (scripts n requests (behind (2 * requests) x))) in
    omega (arith, one, others, parts, few)

transfer_names : (a b : ℕ) → names_in_request (transfer a b) ≡ []
unfolding transfer names_in_statement
transfer_names a b = refl

requests_names : (n x : ℕ) → flat_map names_in_request (transfers n x) ≡ []
requests_names zero x = refl
requests_names (suc n) x =
    let one = transfer_names (drawn 16 (next x)) (drawn 16 (next (next x))) in
    ap (λ names. names ++ flat_map names_in_request (transfers n (next (next x)))) one ∙ requests_names n (next (next x))

clients_names : (n requests x : ℕ) → flat_map names_in_client (scripts n requests x) ≡ []
clients_names zero requests x = refl
clients_names (suc n) requests x =
    ap (λ names. names ++ flat_map names_in_client (scripts n requests (behind (2 * requests) x))) (requests_names requests x) ∙ clients_names n requests (behind (2 * requests) x)

-- THE SCHEDULE ------------------------------------------------------------------------------------

-- no event has calls of its own
by_kind : {R : Type 0} (P : R → Type 0) (a b c : Bool) (cut tick go serve : R) → P cut → P tick → P go → P serve
    → P (if a then cut else (if b then tick else (if c then go else serve)))
by_kind P true b c cut tick go serve is_cut is_tick is_go is_serve = is_cut
by_kind P false true c cut tick go serve is_cut is_tick is_go is_serve = is_tick
by_kind P false false true cut tick go serve is_cut is_tick is_go is_serve = is_go
by_kind P false false false cut tick go serve is_cut is_tick is_go is_serve = is_serve

-- what holds of cuts of these connections, of ticks, of steps of these clients and of frames that
-- are served there
pub event_by : (P : Event → Type 0) (clients x : ℕ) → P (event.Cut (connection_drawn clients (next x)) 0 0) → P event.Tick
    → P (event.Go (client_drawn clients (next x))) → P (event.Serve (connection_drawn clients (next x))) → P (event_at clients x)
unfolding event_at
event_by P clients x is_cut is_tick is_go is_serve =
    by_kind P (drawn 16 x == 0) (drawn 16 x == 1) (nat_le (drawn 16 x) 8) (event.Cut (connection_drawn clients (next x)) 0 0) event.Tick
    (event.Go (client_drawn clients (next x))) (event.Serve (connection_drawn clients (next x))) is_cut is_tick is_go is_serve

event_calls : (clients x : ℕ) → calls_in_event (event_at clients x) ≡ []
event_calls clients x = event_by (λ one. calls_in_event one ≡ []) clients x refl refl refl refl

events_calls : (clients n x : ℕ) → flat_map calls_in_event (events clients n x) ≡ []
events_calls clients zero x = refl
events_calls clients (suc n) x =
    ap (λ calls. calls ++ flat_map calls_in_event (events clients n (behind_event (next x)))) (event_calls clients (next x)) ∙ events_calls clients n (behind_event (next x))

event_names : (clients x : ℕ) → names_in_event (event_at clients x) ≡ []
event_names clients x = ap (λ calls. flat_map names_in_call calls) (event_calls clients x)

events_names : (clients n x : ℕ) → flat_map names_in_event (events clients n x) ≡ []
events_names clients zero x = refl
events_names clients (suc n) x =
    ap (λ names. names ++ flat_map names_in_event (events clients n (behind_event (next x)))) (event_names clients (next x)) ∙ events_names clients n (behind_event (next x))

connection_kept : (clients x : ℕ) → 1 ≤ clients → clients ≤ 64 → is_count (connection_drawn clients x) ≡ true
connection_kept clients x some few =
    let below = drawn_below (2 * clients) x (omega (arith, some)) in
    let small : 1 + drawn (2 * clients) x ≤ 4611686018427387904 = omega (arith, below, few) in
    grind (arith, nat_tests)

client_drawn_kept : (clients x : ℕ) → 1 ≤ clients → is_between 1 clients (client_drawn clients x) ≡ true
client_drawn_kept clients x some =
    let below = drawn_below clients x some in
    between 1 clients (client_drawn clients x) (omega arith) (omega (arith, below))

event_kept : (clients x : ℕ) → 1 ≤ clients → clients ≤ 64 → is_event clients false (event_at clients x) ≡ true
unfolding is_event
event_kept clients x some few =
    let connection = connection_kept clients (next x) some few in
    event_by (λ one. is_event clients false one ≡ true) clients x (both _ _ connection refl) refl (client_drawn_kept clients (next x) some) connection

events_kept : (clients n x : ℕ) → 1 ≤ clients → clients ≤ 64 → list_all (is_event clients false) (events clients n x) ≡ true
events_kept clients zero x some few = refl
events_kept clients (suc n) x some few = both _ _ (event_kept clients (next x) some few) (events_kept clients n (behind_event (next x)) some few)

pub events_counted : (clients n x : ℕ) → length (events clients n x) ≡ n
events_counted clients zero x = refl
events_counted clients (suc n) x = ap suc (events_counted clients n (behind_event (next x)))

few_events : (clients requests : ℕ) → clients ≤ 64 → requests ≤ 10 → 4 * clients * requests ≤ 100000
few_events clients requests few few_requests =
    let four : 4 * clients ≤ 256 = omega (arith, few) in
    let most : 4 * clients * requests ≤ 256 * 10 = mul-le-mul four few_requests in
    omega (arith, most)

-- THE DOCUMENT ------------------------------------------------------------------------------------

few_calls : (seed clients requests : ℕ) → clients ≤ 64 → requests ≤ 10 → has_few_calls (loaded seed clients requests) ≡ true
few_calls seed clients requests few few_requests =
    let x = behind (2 * clients * requests) seed in
    let all = flat_map calls_in_client (scripts clients requests seed) in
    let none = events_calls clients (4 * clients * requests) x in
    let alone : length (all ++ flat_map calls_in_event (events clients (4 * clients * requests) x)) ≡ length all = ap (λ others. length (all ++ others)) none ∙ ap length (append-nil all) in
    let at_most = clients_calls clients requests seed few_requests in
    let small : length (all ++ flat_map calls_in_event (events clients (4 * clients * requests) x)) ≤ 2048 = omega (arith, alone, at_most, few) in
    grind (arith, nat_tests)

few_names : (seed clients requests : ℕ) → has_few_names (loaded seed clients requests) ≡ true
few_names seed clients requests =
    let x = behind (2 * clients * requests) seed in
    let none : names_in (loaded seed clients requests) ≡ [] =
    ap (λ names. names ++ flat_map names_in_event (events clients (4 * clients * requests) x)) (clients_names clients requests seed) ∙ events_names clients (4 * clients * requests) x in
    ap (λ names. nat_le (length (different names)) 16) none

pub loaded_kept : (seed clients requests : ℕ) → 1 ≤ clients → clients ≤ 64 → requests ≤ 10 → IsDocument (loaded seed clients requests)
loaded_kept seed clients requests some few few_requests =
    let x = behind (2 * clients * requests) seed in
    let counted = clients_counted clients requests seed in
    let counted_events = events_counted clients (4 * clients * requests) x in
    record {
      service = service_kept clients few;
      tables = both _ true table_kept refl;
      table_names = refl;
      few_tables = omega arith;
      sequences = refl;
      sequence_names = refl;
      few_sequences = omega arith;
      begins = refl;
      clients = clients_kept clients requests seed;
      few_clients = omega (arith, counted, few);
      schedule = subst (λ n. list_all (is_event n false) (events clients (4 * clients * requests) x) ≡ true) (sym counted) (events_kept clients (4 * clients * requests) x some few);
      few_events = subst (λ n. n ≤ 100000) (sym counted_events) (few_events clients requests few few_requests);
      small = both _ _ (few_calls seed clients requests few few_requests) (few_names seed clients requests);
    }
