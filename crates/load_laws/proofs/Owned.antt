-- Each entry of a load is a stretch of the script of a transfer: its identifier stands in a list of
-- a request, and every request is a transfer.
use Rattle.std.proofs.Common.{◌≡◌, refl, sym, ap, subst, ◌∙◌, ℕ, zero, suc, ◌+◌, ◌-◌, ◌<◌, ◌||◌, Bool, true, false, cond, filter, length, List, [], ◌∷◌, ◌++◌, Some, ◌⊎◌, inl, inr, if◌then◌else◌, arith}
use Rattle.std.specs.Prelude.{◌==◌, ◌*◌, not, nat_le, slice_get, count_by, flat_map}
use Rattle.std.specs.List.{list_all, list_any}
use Rattle.std.proofs.lemmas.Bool.{and_parts, and_from, eqb-true, or_cases}
use Rattle.std.proofs.lemmas.List.Folds.{list_any-append}
use Rattle.std.proofs.lemmas.List.Sums.{sum_by-cons}
use Rattle.svc_values.specs.declared.call.Call.{Call}
use Rattle.svc_values.specs.declared.entry.Entry.{Entry}
use Rattle.svc_values.specs.declared.entry.Ltxid.{Ltxid}
use Rattle.svc_values.specs.declared.entry.Piece.{Piece}
use Rattle.svc_values.specs.declared.entry.SessionId.{SessionId}
use Rattle.svc_values.specs.meaning.Same.{same_call}
use Rattle.svc_values.specs.meaning.SettingsList.{NamedValues, same_settings, with_set}
use Rattle.svc_values.specs.SameLaws.{same_call_decides}
use Rattle.outage_schedule.specs.declared.document.Client.{Client}
use Rattle.outage_schedule.specs.declared.document.Request.{Request}
use Rattle.outage_schedule.specs.declared.event.Event.TheVariants as event
use Rattle.outage_schedule.specs.declared.report.Report.{Report}
use Rattle.outage_schedule.specs.declared.request.RequestReport.{RequestReport}
use Rattle.run_clauses.specs.meaning.Copies.{are_in_script_order, copies_by_client, copies_of, each_copies, further_copies, has_its_reports, is_in_script_order, is_over, is_repeated, left_over, show_script, with_copy}
use Rattle.run_clauses.specs.meaning.Once.{all_tried, entries_tried_once, is_tried_once}
use Rattle.run_clauses.specs.meaning.Sessions.{outside_sessions}
use Rattle.run_clauses.specs.meaning.Tried.{holds, tried_fits}
use Rattle.run_clauses.specs.meaning.Transactions.{requests_in}
use Rattle.script_clauses.specs.meaning.Scripted.{are_scripted_copies, begins_with, has_stretches, is_scripted_request, is_stretch, stands_first}
use Rattle.load_document.specs.meaning.Loads.{behind, client_drawn, connection_drawn, drawn, event_at, behind_event, events, loaded, next, scripts, transfer, transfers}
use Rattle.load_laws.specs.Accounts.{AreTransferCalls, AreTransferEntries, AreTransferPieces, IsCommit, IsLook, IsMove, IsTransferCall}
use Rattle.load_laws.specs.Insides.{InsidesTellNone, is_outside, none_outside}
use Rattle.load_laws.specs.Loads.{LoadsRunTransfers}

-- ---- lists

at_all : {A : Type 0} (test : A → Bool) (xs : List A) (place : ℕ) (x : A) → list_all test xs ≡ true → slice_get xs place ≡ Some x → test x ≡ true
at_all test [] place x all at = absurd (let none : ⊥ = cc in none)
at_all test (y ∷ ys) zero x all at = let same : y ≡ x = cc in subst (λ z. test z ≡ true) same (and_parts (test y) (list_all test ys) all).0
at_all test (y ∷ ys) (suc place) x all at = at_all test ys place x (and_parts (test y) (list_all test ys) all).1 at

kept_at : {A : Type 0} (test keep : A → Bool) (xs : List A) (place : ℕ) (x : A) → list_all test (filter keep xs) ≡ true → slice_get xs place ≡ Some x → keep x ≡ true → test x ≡ true
kept_at test keep [] place x all at kept = absurd (let none : ⊥ = cc in none)
kept_at test keep (y ∷ ys) zero x all at kept =
    let same : y ≡ x = cc in
    subst (λ z. test z ≡ true) same (by (keep y) (ap keep same ∙ kept) all)
  where
    by : (b : Bool) → b ≡ true → list_all test (if b then y ∷ filter keep ys else filter keep ys) ≡ true → test y ≡ true
    by true is all = (and_parts (test y) (list_all test (filter keep ys)) all).0
    by false is all = absurd (let none : ⊥ = cc in none)
kept_at test keep (y ∷ ys) (suc place) x all at kept = kept_at test keep ys place x (by (keep y) all) at kept
  where
    by : (b : Bool) → list_all test (if b then y ∷ filter keep ys else filter keep ys) ≡ true → list_all test (filter keep ys) ≡ true
    by true all = (and_parts (test y) (list_all test (filter keep ys)) all).1
    by false all = all

count_none : {A : Type 0} (test : A → Bool) (xs : List A) → list_any test xs ≡ false → count_by test xs ≡ 0
count_none test [] none = refl
count_none test (x ∷ xs) none = sum_by-cons (λ y. cond (test y) 1 0) x xs ∙ by (test x) none (count_none test xs)
  where
    by : (b : Bool) → (b || list_any test xs) ≡ false → (list_any test xs ≡ false → count_by test xs ≡ 0) → cond b 1 0 + count_by test xs ≡ 0
    by true none again = absurd (let no : ⊥ = cc in no)
    by false none again = let rest : count_by test xs ≡ 0 = again none in omega (arith, rest)

-- one that is counted is there
counted : {A : Type 0} (test : A → Bool) (xs : List A) → count_by test xs ≡ 1 → list_any test xs ≡ true
counted test xs one = by (list_any test xs) refl
  where
    by : (b : Bool) → list_any test xs ≡ b → list_any test xs ≡ true
    by true is = is
    by false is = let zero_is : count_by test xs ≡ 0 = count_none test xs is in absurd (let no : ⊥ = omega (arith, zero_is, one) in no)

any_flat : {A B : Type 0} (test : B → Bool) (f : A → List B) (xs : List A) → list_any test (flat_map f xs) ≡ true → list_any (λ x. list_any test (f x)) xs ≡ true
any_flat test f [] any = any
any_flat test f (x ∷ xs) any = by (list_any test (f x)) (sym (list_any-append test (f x) (flat_map f xs)) ∙ any) (any_flat test f xs)
  where
    by : (b : Bool) → (b || list_any test (flat_map f xs)) ≡ true → (list_any test (flat_map f xs) ≡ true → list_any (λ y. list_any test (f y)) xs ≡ true) → (b || list_any (λ y. list_any test (f y)) xs) ≡ true
    by true any again = refl
    by false any again = again any

each_entry : (entries : List Entry) → ((place : ℕ) (entry : Entry) → slice_get entries place ≡ Some entry → AreTransferPieces entry.pieces) → AreTransferEntries entries
each_entry [] each = tt
each_entry (entry ∷ entries) each = (each 0 entry refl, each_entry entries (λ place one at. each (suc place) one at))

-- ---- stretches

begins_are : (script : List Call) (pieces : List Piece) → begins_with script pieces ≡ true → AreTransferCalls script → AreTransferPieces pieces
begins_are script [] begins are = tt
begins_are [] (piece ∷ pieces) begins are = absurd (let none : ⊥ = cc in none)
begins_are (call ∷ script) (piece ∷ pieces) begins are =
    let parts = and_parts (same_call piece.call call) (begins_with script pieces) begins in
    (subst IsTransferCall (sym ((same_call_decides piece.call call).0 parts.0)) are.0, begins_are script pieces parts.1 are.1)

stretch_are : (settings : NamedValues) (script : List Call) (entry : Entry) → is_stretch settings script entry ≡ true → AreTransferCalls script → AreTransferPieces entry.pieces
stretch_are settings [] entry is are = begins_are [] entry.pieces (and_parts (begins_with [] entry.pieces) (same_settings entry.settings settings) is).0 are
stretch_are settings (call ∷ script) entry is are =
    by (or_cases (stands_first settings (call ∷ script) entry) (is_stretch (with_set settings call) script entry) is) (λ later. stretch_are (with_set settings call) script entry later are.1)
  where
    by : (stands_first settings (call ∷ script) entry ≡ true) ⊎ (is_stretch (with_set settings call) script entry ≡ true) → (is_stretch (with_set settings call) script entry ≡ true → AreTransferPieces entry.pieces) → AreTransferPieces entry.pieces
    by (inl first) again = begins_are (call ∷ script) entry.pieces (and_parts (begins_with (call ∷ script) entry.pieces) (same_settings entry.settings settings) first).0 are
    by (inr later) again = again later

-- ---- the scripts of a load

abbrev AreTransferRequests : List Request → Type 0
AreTransferRequests [] = Unit {0}
AreTransferRequests (request ∷ requests) = AreTransferCalls request.calls × AreTransferRequests requests

abbrev AreTransferClients : List Client → Type 0
AreTransferClients [] = Unit {0}
AreTransferClients (client ∷ clients) = AreTransferRequests client.requests × AreTransferClients clients

drawn_less : (x : ℕ) → drawn 16 x < 16
unfolding drawn
drawn_less x = omega arith

calls_are : (a b : ℕ) → a < 16 → b < 16 → AreTransferCalls (transfer a b).calls
unfolding transfer
calls_are a b less_a less_b = (IsLook a less_a, (IsMove a b less_a less_b, (IsCommit, tt)))

requests_are : (n x : ℕ) → AreTransferRequests (transfers n x)
requests_are zero x = tt
requests_are (suc n) x = (calls_are (drawn 16 (next x)) (drawn 16 (next (next x))) (drawn_less (next x)) (drawn_less (next (next x))), requests_are n (next (next x)))

clients_are : (n requests x : ℕ) → AreTransferClients (scripts n requests x)
clients_are zero requests x = tt
clients_are (suc n) requests x = (requests_are requests x, clients_are n requests (behind (2 * requests) x))

-- ---- its events

one_inside : (clients x : ℕ) → is_outside (event_at clients x) ≡ false
unfolding event_at
one_inside clients x = by (drawn 16 x == 0) (drawn 16 x == 1) (nat_le (drawn 16 x) 8)
  where
    by : (cuts ticks goes : Bool)
        → is_outside (if cuts then event.Cut (connection_drawn clients (next x)) 0 0 else (if ticks then event.Tick else (if goes then event.Go (client_drawn clients (next x)) else event.Serve (connection_drawn clients (next x))))) ≡ false
    by true ticks goes = refl
    by false true goes = refl
    by false false true = refl
    by false false false = refl

events_inside : (clients n x : ℕ) → none_outside (events clients n x) ≡ true
events_inside clients zero x = refl
events_inside clients (suc n) x =
    and_from (not (is_outside (event_at clients (next x)))) (none_outside (events clients n (behind_event (next x)))) (ap not (one_inside clients (next x))) (events_inside clients n (behind_event (next x)))

-- ---- the copies of requests

-- the copies and what stands behind them are the reports
further_are : (allowed : ℕ) (copy : RequestReport) (reports : List RequestReport) → (further_copies allowed copy reports).0 ++ (further_copies allowed copy reports).1 ≡ reports
further_are allowed copy [] = refl
further_are allowed copy (report ∷ reports) = by (is_repeated allowed copy) (further_copies (allowed - 1) report reports) (further_are (allowed - 1) report reports)
  where
    by : (again : Bool) (more : List RequestReport × List RequestReport) → more.0 ++ more.1 ≡ reports → (with_copy again report reports more).0 ++ (with_copy again report reports more).1 ≡ report ∷ reports
    by true more is = ap (λ xs. report ∷ xs) is
    by false more is = refl

module _ (entries : List Entry) (entry : Entry) (place : ℕ) (here : slice_get entries place ≡ Some entry) where
  abbrev holds_it : List Ltxid → Bool
  holds_it ids = holds ids entry.ltxid

  abbrev of_copy : RequestReport → Bool
  of_copy copy = list_any holds_it copy.tried

  in_list : (request : Request) (lists : List (List Ltxid)) → list_all (has_stretches entries request) lists ≡ true → list_any holds_it lists ≡ true → is_stretch request.settings request.calls entry ≡ true
  in_list request [] all any = absurd (let none : ⊥ = cc in none)
  in_list request (ids ∷ lists) all any = by (or_cases (holds_it ids) (list_any holds_it lists) any) (in_list request lists parts.1)
    where
      parts : (has_stretches entries request ids ≡ true) × (list_all (has_stretches entries request) lists ≡ true)
      parts = and_parts (has_stretches entries request ids) (list_all (has_stretches entries request) lists) all

      by : (holds_it ids ≡ true) ⊎ (list_any holds_it lists ≡ true) → (list_any holds_it lists ≡ true → is_stretch request.settings request.calls entry ≡ true) → is_stretch request.settings request.calls entry ≡ true
      by (inl held) again = kept_at (is_stretch request.settings request.calls) (λ (one : Entry). holds ids one.ltxid) entries place entry parts.0 here held
      by (inr later) again = again later

  in_copy : (request : Request) (copies : List RequestReport) → list_all (is_scripted_request entries request) copies ≡ true → list_any of_copy copies ≡ true → is_stretch request.settings request.calls entry ≡ true
  in_copy request [] all any = absurd (let none : ⊥ = cc in none)
  in_copy request (copy ∷ copies) all any = by (or_cases (of_copy copy) (list_any of_copy copies) any) (in_copy request copies parts.1)
    where
      parts : (is_scripted_request entries request copy ≡ true) × (list_all (is_scripted_request entries request) copies ≡ true)
      parts = and_parts (is_scripted_request entries request copy) (list_all (is_scripted_request entries request) copies) all

      by : (of_copy copy ≡ true) ⊎ (list_any of_copy copies ≡ true) → (list_any of_copy copies ≡ true → is_stretch request.settings request.calls entry ≡ true) → is_stretch request.settings request.calls entry ≡ true
      by (inl held) again = in_list request copy.tried parts.0 held
      by (inr later) again = again later

  -- of the copies of one request, and of those behind them
  of_request : (request : Request) (first : RequestReport) (mine rest reports : List RequestReport) → mine ++ rest ≡ reports → AreTransferCalls request.calls → list_all (is_scripted_request entries request) (first ∷ mine) ≡ true
      → list_any of_copy (first ∷ reports) ≡ true → (list_any of_copy rest ≡ true → AreTransferPieces entry.pieces) → AreTransferPieces entry.pieces
  of_request request first mine rest reports are_all are all any again = by (or_cases (list_any of_copy (first ∷ mine)) (list_any of_copy rest) joined)
    where
      joined : (list_any of_copy (first ∷ mine) || list_any of_copy rest) ≡ true
      joined = sym (list_any-append of_copy (first ∷ mine) rest) ∙ (ap (λ (xs : List RequestReport). list_any of_copy (first ∷ xs)) are_all ∙ any)

      by : (list_any of_copy (first ∷ mine) ≡ true) ⊎ (list_any of_copy rest ≡ true) → AreTransferPieces entry.pieces
      by (inl held) = stretch_are request.settings request.calls entry (in_copy request (first ∷ mine) all held) are
      by (inr later) = again later

  -- of a client's requests
  of_script : (requests : List Request) (reports : List RequestReport) → AreTransferRequests requests → list_all (are_scripted_copies entries) (copies_of requests reports) ≡ true → (length (left_over requests reports) == 0) ≡ true
      → list_any of_copy reports ≡ true → AreTransferPieces entry.pieces
  of_script [] [] are all none any = absurd (let no : ⊥ = cc in no)
  of_script [] (report ∷ reports) are all none any = let zero_is : suc (length reports) ≡ 0 = eqb-true (suc (length reports)) 0 none in absurd (let no : ⊥ = omega (arith, zero_is) in no)
  of_script (request ∷ requests) [] are all none any = absurd (let no : ⊥ = cc in no)
  of_script (request ∷ requests) (first ∷ reports) are all none any =
      let found : List RequestReport × List RequestReport = further_copies request.again first reports in
      let parts : (list_all (is_scripted_request entries request) (first ∷ found.0) ≡ true) × (list_all (are_scripted_copies entries) (copies_of requests found.1) ≡ true) =
      and_parts (list_all (is_scripted_request entries request) (first ∷ found.0)) (list_all (are_scripted_copies entries) (copies_of requests found.1)) all in
      of_request request first found.0 found.1 reports (further_are request.again first reports) are.0 parts.0 any (λ later. of_script requests found.1 are.1 parts.1 none later)

  -- of all clients
  of_clients : (clients : List Client) (transcripts : List (List RequestReport)) → AreTransferClients clients → are_in_script_order clients transcripts ≡ true
      → list_all (list_all (are_scripted_copies entries)) (copies_by_client clients transcripts) ≡ true → list_any (list_any of_copy) transcripts ≡ true → AreTransferPieces entry.pieces
  of_clients [] [] are order all any = absurd (let no : ⊥ = cc in no)
  of_clients [] (transcript ∷ transcripts) are order all any = absurd (let no : ⊥ = cc in no)
  of_clients (client ∷ clients) [] are order all any = absurd (let no : ⊥ = cc in no)
  of_clients (client ∷ clients) (transcript ∷ transcripts) are order all any =
      by (or_cases (list_any of_copy transcript) (list_any (list_any of_copy) transcripts) any) (of_clients clients transcripts are.1 ordered.1 parts.1)
    where
      ordered : (is_in_script_order client.requests transcript ≡ true) × (are_in_script_order clients transcripts ≡ true)
      ordered = and_parts (is_in_script_order client.requests transcript) (are_in_script_order clients transcripts) order

      own : (list_all is_over (copies_of client.requests transcript) ≡ true) × ((length (left_over client.requests transcript) == 0) ≡ true)
      own = and_parts (list_all is_over (copies_of client.requests transcript)) (length (left_over client.requests transcript) == 0) ordered.0

      parts : (list_all (are_scripted_copies entries) (copies_of client.requests transcript) ≡ true) × (list_all (list_all (are_scripted_copies entries)) (copies_by_client clients transcripts) ≡ true)
      parts = and_parts (list_all (are_scripted_copies entries) (copies_of client.requests transcript)) (list_all (list_all (are_scripted_copies entries)) (copies_by_client clients transcripts)) all

      by : (list_any of_copy transcript ≡ true) ⊎ (list_any (list_any of_copy) transcripts ≡ true) → (list_any (list_any of_copy) transcripts ≡ true → AreTransferPieces entry.pieces) → AreTransferPieces entry.pieces
      by (inl held) again = of_script client.requests transcript are.0 parts.0 own.1 held
      by (inr later) again = again later

-- ---- the entries of a load

-- an entry that is not foreign is in a list of a request
is_listed : (report : Report) (entry : Entry) → outside_sessions report.notes ≡ [] → is_tried_once (outside_sessions report.notes) (all_tried report) entry ≡ true
    → list_any (list_any (λ (copy : RequestReport). list_any (λ ids. holds ids entry.ltxid) copy.tried)) report.clients ≡ true
is_listed report entry none once =
    let alone : (count_by (λ ids. holds ids entry.ltxid) (all_tried report) == 1) ≡ true = subst (λ (outside : List SessionId). is_tried_once outside (all_tried report) entry ≡ true) none once in
    any_flat (λ (copy : RequestReport). list_any (λ ids. holds ids entry.ltxid) copy.tried) (λ (transcript : List RequestReport). transcript) report.clients
    (any_flat (λ ids. holds ids entry.ltxid) (λ (request : RequestReport). request.tried) (requests_in report)
    (counted (λ ids. holds ids entry.ltxid) (all_tried report) (eqb-true (count_by (λ ids. holds ids entry.ltxid) (all_tried report)) 1 alone)))

pub run_transfers : InsidesTellNone → LoadsRunTransfers
run_transfers tells seed clients requests report is =
    each_entry report.entries
    (λ place entry here.
    of_clients report.entries entry place here (scripts clients requests seed) report.clients (clients_are clients requests seed) ordered is.scripted_so
    (is_listed report entry none (at_all (is_tried_once (outside_sessions report.notes) (all_tried report)) report.entries place entry tried here)))
  where
    none : outside_sessions report.notes ≡ []
    none = tells (loaded seed clients requests) report (events_inside clients (4 * clients * requests) (behind (2 * clients * requests) seed)) is.followed_so

    tried : entries_tried_once report ≡ true
    tried = (and_parts (entries_tried_once report) _ (and_parts (tried_fits report) _ is.once_so).1).0

    ordered : are_in_script_order (scripts clients requests seed) report.clients ≡ true
    ordered = (and_parts (are_in_script_order (scripts clients requests seed) report.clients) (each_copies show_script (loaded seed clients requests) report) (and_parts (has_its_reports (loaded seed clients requests) report) _ is.whole_so).0).0
