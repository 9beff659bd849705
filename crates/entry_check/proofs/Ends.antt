-- The transactions of a request, one call after the other.
use Rattle.std.proofs.Common.{◌≡◌, ℕ, zero, suc, ◌+◌, ◌<◌, ◌≤◌, get_or, List, [], ◌∷◌, length, drop, Bool, true, false, not, cond, eqb, leb, ◌&&◌, ◌||◌, refl, sym, ap, ◌∙◌, arith, add-one}
use Rattle.std.specs.Prelude.{Option, Some, None, slice_get}
use Rattle.std.specs.List.{list_all, filter, flat_map}
use Rattle.std.specs.Option.{option_map_or}
use Rattle.std.proofs.lemmas.Bool.{and_parts}
use Rattle.std.proofs.lemmas.List.{drop_more}
use Rattle.svc_values.specs.declared.answer.Answer.{Answer}
use Rattle.svc_values.specs.declared.answer.Answer.TheVariants as answer
use Rattle.svc_values.specs.declared.entry.Ltxid.{Ltxid}
use Rattle.svc_values.specs.declared.entry.Entry.{Entry}
use Rattle.svc_values.specs.meaning.Endings.{is_committed, is_conflict, is_rolled_back, last_answer, ends_committed, ends_transaction}
use Rattle.outage_schedule.specs.declared.failure.Failure.{Failure}
use Rattle.outage_schedule.specs.declared.failure.Failure.TheVariants as failure
use Rattle.outage_schedule.specs.declared.request.ShownCall.{ShownCall}
use Rattle.outage_schedule.specs.declared.request.RequestReport.{RequestReport}
use Rattle.run_clauses.specs.meaning.Tried.{holds, ids_differ, has_its_lists}
use Rattle.run_clauses.specs.meaning.Transactions.{Txn, txns, put_first, with_tried}
use Rattle.run_clauses.specs.meaning.Once.{count_in, committed_has_one, dropped_has_none, last_ends, request_ends}
use Rattle.run_clauses.specs.meaning.Once as once
use Rattle.entry_check.specs.Once.{ids_of, is_end, first_of, rest_of, may_end, ended_right, ends_from, ends_right, over_behind}
use Rattle.entry_check.proofs.Sets.{differ-append}
use Rattle.entry_check.proofs.Entries.{entry_holds, count_known}

-- ---- lists

rest_here : (lists : List (List Ltxid)) (n : ℕ) → rest_of (drop n lists) ≡ drop (suc n) lists
rest_here [] zero = refl
rest_here [] (suc n) = refl
rest_here (ids ∷ lists) zero = refl
rest_here (ids ∷ lists) (suc n) = rest_here lists n

pub list_here : (lists : List (List Ltxid)) (n : ℕ) → rest_of (drop n lists) ≡ drop (n + 1) lists
list_here lists n = rest_here lists n ∙ ap (λ k. drop k lists) (sym (add-one n))

-- the first list from a place on
pub first_here : (lists : List (List Ltxid)) (n : ℕ) → option_map_or (λ ids. ids) (slice_get lists n) [] ≡ first_of (drop n lists)
first_here [] zero = refl
first_here [] (suc n) = refl
first_here (ids ∷ lists) zero = refl
first_here (ids ∷ lists) (suc n) = first_here lists n

pub first_differs : (lists : List (List Ltxid)) → ids_differ (flat_map (λ ids. ids) lists) ≡ true → ids_differ (first_of lists) ≡ true
first_differs [] differ = refl
first_differs (ids ∷ lists) differ =
    let parts = and_parts _ _ (sym (differ-append ids (flat_map (λ one. one) lists)) ∙ differ) in
    (and_parts _ _ parts.1).0

pub rest_differs : (lists : List (List Ltxid)) → ids_differ (flat_map (λ ids. ids) lists) ≡ true → ids_differ (flat_map (λ ids. ids) (rest_of lists)) ≡ true
rest_differs [] differ = refl
rest_differs (ids ∷ lists) differ =
    let parts = and_parts _ _ (sym (differ-append ids (flat_map (λ one. one) lists)) ∙ differ) in
    (and_parts _ _ parts.1).1

-- ---- how many transactions

txns_length : (calls : List ShownCall) → length (txns calls) ≡ length (filter (λ (call : ShownCall). ends_transaction call.answers) calls) + 1
txns_length [] = refl
txns_length (call ∷ calls) = by (ends_transaction call.answers) refl (txns calls) (txns_length calls)
  where
    by : (b : Bool) → ends_transaction call.answers ≡ b → (parts : List (List ShownCall)) → length parts ≡ length (filter (λ (one : ShownCall). ends_transaction one.answers) calls) + 1
        → length (put_first (ends_transaction call.answers) call parts) ≡ length (filter (λ (one : ShownCall). ends_transaction one.answers) (call ∷ calls)) + 1
    by true is parts long = rw is (omega (arith, long))
    by false is [] long = absurd (omega (arith, long))
    by false is (part ∷ parts) long = rw is long

pub lists_counted : (request : RequestReport) (ended lists : ℕ) → ended ≡ length (filter is_end request.calls) → lists ≡ length request.tried → eqb lists (ended + 1) ≡ has_its_lists request
unfolding is_end
lists_counted request ended lists is are =
    let long = txns_length request.calls in
    let same : ended + 1 ≡ length (txns request.calls) = omega (arith, is, long) in
    ap (λ n. eqb n (ended + 1)) are ∙ ap (eqb (length request.tried)) same

-- ---- one transaction, by the last call of it that was shown

abbrev ends_any : Answer → Bool
ends_any a = is_committed a || (is_conflict a || is_rolled_back a)

abbrev test_of : List Entry → Option Failure → Txn → Bool
test_of entries failed txn = committed_has_one entries txn && (dropped_has_none entries txn && last_ends entries failed txn)

and_true : (b : Bool) → (b && true) ≡ b
and_true true = refl
and_true false = refl

-- the last answer of a call that ends a transaction
with_end : (last : Option Answer) (n : ℕ) (more : Bool) → option_map_or ends_any last false ≡ true
    → ((not (option_map_or is_committed last false) || eqb n 1)
    && ((not (option_map_or is_conflict last false || option_map_or is_rolled_back last false) || eqb n 0) && (not (not (option_map_or ends_any last false)) || more)))
    ≡ eqb n (cond (option_map_or is_committed last false) 1 0)
with_end None n more ends = absurd (let no : false ≡ true = ends in cc)
with_end (Some (answer.Done k)) n more ends = absurd (let no : false ≡ true = ends in cc)
with_end (Some (answer.Rows k)) n more ends = absurd (let no : false ≡ true = ends in cc)
with_end (Some (answer.Number k)) n more ends = absurd (let no : false ≡ true = ends in cc)
with_end (Some answer.Committed) n more ends = and_true (eqb n 1)
with_end (Some answer.Conflict) n more ends = and_true (eqb n 0)
with_end (Some answer.RolledBack) n more ends = and_true (eqb n 0)
with_end (Some answer.CommitInReplay) n more ends = absurd (let no : false ≡ true = ends in cc)
with_end (Some (answer.Refused k)) n more ends = absurd (let no : false ≡ true = ends in cc)

-- the last answer of a call that ends none
with_none : (last : Option Answer) (n : ℕ) (more : Bool) → option_map_or ends_any last false ≡ false
    → ((not (option_map_or is_committed last false) || eqb n 1)
    && ((not (option_map_or is_conflict last false || option_map_or is_rolled_back last false) || eqb n 0) && (not (not (option_map_or ends_any last false)) || more)))
    ≡ more
with_none None n more ends = refl
with_none (Some (answer.Done k)) n more ends = refl
with_none (Some (answer.Rows k)) n more ends = refl
with_none (Some (answer.Number k)) n more ends = refl
with_none (Some answer.Committed) n more ends = absurd (let no : true ≡ false = ends in cc)
with_none (Some answer.Conflict) n more ends = absurd (let no : true ≡ false = ends in cc)
with_none (Some answer.RolledBack) n more ends = absurd (let no : true ≡ false = ends in cc)
with_none (Some answer.CommitInReplay) n more ends = refl
with_none (Some (answer.Refused k)) n more ends = refl

-- a call that goes on changes nothing of its transaction
goes_on : (entries : List Entry) (failed : Option Failure) (call : ShownCall) (part : List ShownCall) (ids : List Ltxid) → ends_transaction call.answers ≡ false
    → test_of entries failed (record { shown = call ∷ part; tried = ids }) ≡ test_of entries failed (record { shown = part; tried = ids })
goes_on entries failed call [] ids ends = with_none (last_answer call.answers) (count_in entries ids) (once.may_end entries failed ids) ends
goes_on entries failed call (next ∷ part) ids ends = refl

-- the transactions, by their calls
abbrev over : List Entry → Option Failure → List (List Ltxid) → List ShownCall → Bool
over entries failed lists [] = once.may_end entries failed (first_of lists)
over entries failed lists (call ∷ calls) =
    cond (ends_transaction call.answers)
    (eqb (count_in entries (first_of lists)) (cond (ends_committed call.answers) 1 0) && over entries failed (rest_of lists) calls)
    (over entries failed lists calls)

first_txn : (entries : List Entry) (failed : Option Failure) (part : List ShownCall) (parts : List (List ShownCall)) (lists : List (List Ltxid))
    → list_all (test_of entries failed) (with_tried (part ∷ parts) lists)
    ≡ (test_of entries failed (record { shown = part; tried = first_of lists }) && list_all (test_of entries failed) (with_tried parts (rest_of lists)))
first_txn entries failed part parts [] = refl
first_txn entries failed part parts (ids ∷ lists) = refl

put_over : (entries : List Entry) (failed : Option Failure) (call : ShownCall) (calls : List ShownCall) (lists : List (List Ltxid)) (b : Bool) → ends_transaction call.answers ≡ b
    → (parts : List (List ShownCall)) (n : ℕ) → length parts ≡ n + 1
    → ((ls : List (List Ltxid)) → list_all (test_of entries failed) (with_tried parts ls) ≡ over entries failed ls calls)
    → list_all (test_of entries failed) (with_tried (put_first (ends_transaction call.answers) call parts) lists) ≡ over entries failed lists (call ∷ calls)
put_over entries failed call calls lists true is parts n long all =
    let tests = test_of entries failed in
    let more = over entries failed (rest_of lists) calls in
    ap (λ b. list_all tests (with_tried (put_first b call parts) lists)) is
    ∙ first_txn entries failed (call ∷ []) parts lists
    ∙ ap (λ b. b && list_all tests (with_tried parts (rest_of lists))) (with_end (last_answer call.answers) (count_in entries (first_of lists)) (once.may_end entries failed (first_of lists)) is)
    ∙ ap (λ b. eqb (count_in entries (first_of lists)) (cond (ends_committed call.answers) 1 0) && b) (all (rest_of lists))
    ∙ sym (ap (λ b. cond b (eqb (count_in entries (first_of lists)) (cond (ends_committed call.answers) 1 0) && more) (over entries failed lists calls)) is)
put_over entries failed call calls lists false is [] n long all = absurd (omega (arith, long))
put_over entries failed call calls lists false is (part ∷ parts) n long all =
    let tests = test_of entries failed in
    let more = over entries failed (rest_of lists) calls in
    ap (λ b. list_all tests (with_tried (put_first b call (part ∷ parts)) lists)) is
    ∙ first_txn entries failed (call ∷ part) parts lists
    ∙ ap (λ b. b && list_all tests (with_tried parts (rest_of lists))) (goes_on entries failed call part (first_of lists) is)
    ∙ sym (first_txn entries failed part parts lists)
    ∙ all lists
    ∙ sym (ap (λ b. cond b (eqb (count_in entries (first_of lists)) (cond (ends_committed call.answers) 1 0) && more) (over entries failed lists calls)) is)

txns_over : (entries : List Entry) (failed : Option Failure) (calls : List ShownCall) (lists : List (List Ltxid))
    → list_all (test_of entries failed) (with_tried (txns calls) lists) ≡ over entries failed lists calls
txns_over entries failed [] lists = first_txn entries failed [] [] lists ∙ and_true (once.may_end entries failed (first_of lists))
txns_over entries failed (call ∷ calls) lists =
    put_over entries failed call calls lists (ends_transaction call.answers) refl (txns calls) _ (txns_length calls) (λ ls. txns_over entries failed calls ls)

-- ---- by the set of the entries' identifiers

may_end_known : (entries : List Entry) → ids_differ (ids_of entries) ≡ true → (failed : Option Failure) (ids : List Ltxid) → ids_differ ids ≡ true
    → once.may_end entries failed ids ≡ may_end (holds (ids_of entries)) failed ids
may_end_known entries one None ids two = ap (λ n. eqb n 0) (count_known entries ids one two)
may_end_known entries one (Some (failure.Disabled why event)) ids two = ap (λ n. eqb n 0) (count_known entries ids one two)
may_end_known entries one (Some (failure.Mismatch call seen now)) ids two = ap (λ n. eqb n 0) (count_known entries ids one two)
may_end_known entries one (Some (failure.Incomplete x)) ids two = ap (λ b. holds ids x && b) (entry_holds entries x)
may_end_known entries one (Some (failure.Retries tries)) ids two = ap (λ n. leb n 1) (count_known entries ids one two)
may_end_known entries one (Some (failure.ReplayTimeout first ready)) ids two = ap (λ n. eqb n 0) (count_known entries ids one two)
may_end_known entries one (Some (failure.Replays limit event)) ids two = ap (λ n. eqb n 0) (count_known entries ids one two)
may_end_known entries one (Some (failure.PoolWait first now)) ids two = ap (λ n. eqb n 0) (count_known entries ids one two)
may_end_known entries one (Some (failure.Unknown x)) ids two = ap (λ n. leb n 1) (count_known entries ids one two)

over_known : (entries : List Entry) → ids_differ (ids_of entries) ≡ true → (failed : Option Failure) (lists : List (List Ltxid)) (calls : List ShownCall)
    → ids_differ (flat_map (λ ids. ids) lists) ≡ true → over entries failed lists calls ≡ ends_from (holds (ids_of entries)) failed lists calls
over_known entries one failed lists [] differ = may_end_known entries one failed (first_of lists) (first_differs lists differ)
over_known entries one failed lists (call ∷ calls) differ =
    let stored = holds (ids_of entries) in
    let wanted = cond (ends_committed call.answers) 1 0 in
    ap (λ n. cond (ends_transaction call.answers) (eqb n wanted && over entries failed (rest_of lists) calls) (over entries failed lists calls))
    (count_known entries (first_of lists) one (first_differs lists differ))
    ∙ ap (λ b. cond (ends_transaction call.answers) (ended_right stored call (first_of lists) && b) (over entries failed lists calls))
    (over_known entries one failed (rest_of lists) calls (rest_differs lists differ))
    ∙ ap (λ b. cond (ends_transaction call.answers) (ended_right stored call (first_of lists) && ends_from stored failed (rest_of lists) calls) b)
    (over_known entries one failed lists calls differ)

pub request_known : (entries : List Entry) → ids_differ (ids_of entries) ≡ true → (request : RequestReport) → ids_differ (flat_map (λ ids. ids) request.tried) ≡ true
    → request_ends entries request ≡ ends_right (holds (ids_of entries)) request
request_known entries one request differ = txns_over entries request.failed request.calls request.tried ∙ over_known entries one request.failed request.tried request.calls differ

-- one call more, in the walk over the calls
pub ends_more : (stored : Ltxid → Bool) (failed : Option Failure) (lists : List (List Ltxid)) (calls : List ShownCall) (over_now at : ℕ) (call : ShownCall) → at < length calls → call ≡ get_or calls at call
    → ends_from stored failed (drop over_now lists) (drop at calls)
    ≡ cond (ends_transaction call.answers) (ended_right stored call (first_of (drop over_now lists)) && ends_from stored failed (drop (over_now + 1) lists) (drop (at + 1) calls))
    (ends_from stored failed (drop over_now lists) (drop (at + 1) calls))
ends_more stored failed lists calls over_now at call within is =
    ap (ends_from stored failed (drop over_now lists)) (drop_more calls at call within ∙ ap (λ (one : ShownCall). one ∷ drop (at + 1) calls) (sym is))
    ∙ ap (λ (ls : List (List Ltxid)). cond (ends_transaction call.answers) (ended_right stored call (first_of (drop over_now lists)) && ends_from stored failed ls (drop (at + 1) calls))
    (ends_from stored failed (drop over_now lists) (drop (at + 1) calls))) (list_here lists over_now)

pub ends_wrong : (stored : Ltxid → Bool) (failed : Option Failure) (lists : List (List Ltxid)) (calls : List ShownCall) (over_now at : ℕ) (call : ShownCall) → at < length calls → call ≡ get_or calls at call
    → over_behind stored call lists over_now ≡ None → ends_from stored failed (drop over_now lists) (drop at calls) ≡ false
ends_wrong stored failed lists calls over_now at call within is none =
    ends_more stored failed lists calls over_now at call within is
    ∙ by (ends_transaction call.answers) (ended_right stored call (first_of (drop over_now lists))) none
  where
    by : (e r : Bool) → cond e (cond r (Some (over_now + 1)) None) (Some over_now) ≡ None
        → cond e (r && ends_from stored failed (drop (over_now + 1) lists) (drop (at + 1) calls)) (ends_from stored failed (drop over_now lists) (drop (at + 1) calls)) ≡ false
    by true true same = absurd (let not : ◌≡◌ {A = Option ℕ} (Some (over_now + 1)) None = same in cc)
    by true false same = refl
    by false r same = absurd (let not : ◌≡◌ {A = Option ℕ} (Some over_now) None = same in cc)

pub ends_on : (stored : Ltxid → Bool) (failed : Option Failure) (lists : List (List Ltxid)) (calls : List ShownCall) (over_now at behind : ℕ) (call : ShownCall) → at < length calls → call ≡ get_or calls at call
    → over_behind stored call lists over_now ≡ Some behind
    → (ends_from stored failed (drop behind lists) (drop (at + 1) calls) ≡ ends_from stored failed (drop over_now lists) (drop at calls)) × (behind ≤ over_now + 1)
ends_on stored failed lists calls over_now at behind call within is some =
    let found = by (ends_transaction call.answers) (ended_right stored call (first_of (drop over_now lists))) some in
    (found.0 ∙ sym (ends_more stored failed lists calls over_now at call within is), found.1)
  where
    by : (e r : Bool) → cond e (cond r (Some (over_now + 1)) None) (Some over_now) ≡ Some behind
        → (ends_from stored failed (drop behind lists) (drop (at + 1) calls)
        ≡ cond e (r && ends_from stored failed (drop (over_now + 1) lists) (drop (at + 1) calls)) (ends_from stored failed (drop over_now lists) (drop (at + 1) calls)))
        × (behind ≤ over_now + 1)
    by true true same =
        let is_next : over_now + 1 ≡ behind = cc in
        (sym (ap (λ k. ends_from stored failed (drop k lists) (drop (at + 1) calls)) is_next), omega (arith, is_next))
    by true false same = absurd (let not : ◌≡◌ {A = Option ℕ} None (Some behind) = same in cc)
    by false r same =
        let stays : over_now ≡ behind = cc in
        (sym (ap (λ k. ends_from stored failed (drop k lists) (drop (at + 1) calls)) stays), omega (arith, stays))
