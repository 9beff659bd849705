-- The counts of requests, one after the other.
use Rattle.std.proofs.Common.{◌≡◌, ◌∙◌, ℕ, ◌+◌, ◌<◌, ◌≤◌, Bool, true, false, cond, is_some, ℤ, List, [], ◌∷◌, ◌++◌, length, drop, get_or, filter, sym, ap, append-nil, add-zero, length-append, arith}
use Rattle.std.proofs.lemmas.List.{drop_more, drop_all}
use Rattle.std.proofs.lemmas.List.Concat.{flat_map-append}
use Rattle.std.proofs.lemmas.List.Elements.{filter-append}
use Rattle.outage_schedule.specs.declared.report.Report.{Report}
use Rattle.outage_schedule.specs.declared.request.RequestReport.{RequestReport}
use Rattle.outage_schedule.specs.declared.request.ShownCall.{ShownCall}
use Rattle.load_document.specs.declared.counts.Ends.{Ends as Counted}
use Rattle.load_document.specs.declared.line.LoadLine.{LoadLine}
use Rattle.load_document.specs.meaning.Lines.{requests_in, shown_in, was_committed, was_conflict, committed_in, conflict_in, line_of}
use Rattle.load_document.specs.meaning.Loads.{total}
use Rattle.load_document.specs.Ends.{ends_in, shown_ends, call_ends, failed_ends, plus}

three : ℕ → ℕ → ℕ → Counted
three committed conflict failed = record { committed = committed; conflict = conflict; failed = failed }

same_three : (a b c d e f : ℕ) → a ≡ d → b ≡ e → c ≡ f → three a b c ≡ three d e f
same_three a b c d e f p q r = ap (λ n. three n b c) p ∙ ap (λ n. three d n c) q ∙ ap (λ n. three d e n) r

met : {X : Type 0} (test : X → Bool) (xs ys : List X) → length (filter test (xs ++ ys)) ≡ length (filter test xs) + length (filter test ys)
met test xs ys = ap length (filter-append test xs ys) ∙ length-append (filter test xs) (filter test ys)

ends_append : (xs ys : List RequestReport) → ends_in (xs ++ ys) ≡ plus (ends_in xs) (ends_in ys)
unfolding ends_in three
ends_append xs ys =
    let shown : shown_in (xs ++ ys) ≡ shown_in xs ++ shown_in ys = flat_map-append (λ one. one.calls) xs ys in
    same_three _ _ _ _ _ _ (ap committed_in shown ∙ met _ (shown_in xs) (shown_in ys)) (ap conflict_in shown ∙ met _ (shown_in xs) (shown_in ys)) (met _ xs ys)

plus_assoc : (a b c : Counted) → plus (plus a b) c ≡ plus a (plus b c)
unfolding three
plus_assoc a b c = same_three _ _ _ _ _ _ (omega arith) (omega arith) (omega arith)

plus_none : (a : Counted) → plus a (ends_in []) ≡ a
unfolding ends_in three
plus_none a = same_three _ _ _ _ _ _ (omega arith) (omega arith) (omega arith)

-- nothing before them
pub none_before : (requests : List RequestReport) → plus (record { committed = 0; conflict = 0; failed = 0 }) (ends_in requests) ≡ ends_in requests
unfolding ends_in three
none_before requests = same_three _ _ _ _ _ _ (omega arith) (omega arith) (omega arith)

one_more : {A : Type 0} (b : Bool) (one : A) (rest : List A) → length (cond b (one ∷ rest) rest) ≡ cond b 1 0 + length rest
one_more true one rest = omega arith
one_more false one rest = omega arith

shown_more : (one : ShownCall) (calls : List ShownCall) → shown_ends (one ∷ calls) ≡ plus (call_ends one) (shown_ends calls)
unfolding shown_ends call_ends three
shown_more one calls =
    same_three _ _ _ _ _ _ (one_more (was_committed one) one (filter was_committed calls)) (one_more (was_conflict one) one (filter was_conflict calls)) (omega arith)

flag : {A : Type 0} (b : Bool) (one : A) → length (cond b (one ∷ []) []) ≡ 0 + cond b 1 0
flag true one = omega arith
flag false one = omega arith

one_request : (one : RequestReport) → ends_in (one ∷ []) ≡ plus (shown_ends one.calls) (failed_ends one)
unfolding ends_in shown_ends failed_ends three
one_request one =
    let alone = append-nil one.calls in
    same_three _ _ _ _ _ _ (ap committed_in alone ∙ sym (add-zero (committed_in one.calls))) (ap conflict_in alone ∙ sym (add-zero (conflict_in one.calls))) (flag (is_some one.failed) one)

at_item : {A : Type 0} (items : List A) (i : ℕ) (one : A) → i < length items → one ≡ get_or items i one → drop i items ≡ one ∷ drop (i + 1) items
at_item items i one lt is = drop_more items i one lt ∙ ap (λ x. x ∷ drop (i + 1) items) (sym is)

pub next_counted : (items : List RequestReport) (i : ℕ) (one : RequestReport) (ends now : Counted) → i < length items → one ≡ get_or items i one
    → now ≡ plus ends (ends_in (one ∷ [])) → plus now (ends_in (drop (i + 1) items)) ≡ plus ends (ends_in (drop i items))
next_counted items i one ends now lt is h =
    let rest = drop (i + 1) items in
    ap (λ e. plus e (ends_in rest)) h ∙ plus_assoc ends (ends_in (one ∷ [])) (ends_in rest) ∙ ap (λ e. plus ends e) (sym (ends_append (one ∷ []) rest))
    ∙ ap (λ l. plus ends (ends_in l)) (sym (at_item items i one lt is))

pub none_counted : (items : List RequestReport) (i : ℕ) (ends : Counted) → length items ≤ i → plus ends (ends_in (drop i items)) ≡ ends
none_counted items i ends over = ap (λ l. plus ends (ends_in l)) (drop_all i items over) ∙ plus_none ends

pub next_call : (items : List ShownCall) (i : ℕ) (one : ShownCall) (ends now : Counted) → i < length items → one ≡ get_or items i one
    → now ≡ plus ends (call_ends one) → plus now (shown_ends (drop (i + 1) items)) ≡ plus ends (shown_ends (drop i items))
next_call items i one ends now lt is h =
    let rest = drop (i + 1) items in
    ap (λ e. plus e (shown_ends rest)) h ∙ plus_assoc ends (call_ends one) (shown_ends rest) ∙ ap (λ e. plus ends e) (sym (shown_more one rest))
    ∙ ap (λ l. plus ends (shown_ends l)) (sym (at_item items i one lt is))

no_calls : (a : Counted) → plus a (shown_ends []) ≡ a
unfolding shown_ends three
no_calls a = same_three _ _ _ _ _ _ (omega arith) (omega arith) (omega arith)

pub none_call : (items : List ShownCall) (i : ℕ) (ends : Counted) → length items ≤ i → plus ends (shown_ends (drop i items)) ≡ ends
none_call items i ends over = ap (λ l. plus ends (shown_ends l)) (drop_all i items over) ∙ no_calls ends

-- a request's calls and its failure are the counts of the request
pub request_counted : (one : RequestReport) (before shown ends : Counted) → shown ≡ plus before (shown_ends one.calls) → ends ≡ plus shown (failed_ends one)
    → ends ≡ plus before (ends_in (one ∷ []))
request_counted one before shown ends shown_is ends_are =
    ends_are ∙ ap (λ e. plus e (failed_ends one)) shown_is ∙ plus_assoc before (shown_ends one.calls) (failed_ends one) ∙ ap (λ e. plus before e) (sym (one_request one))

pub next_client : (clients : List (List RequestReport)) (i : ℕ) (one : List RequestReport) (ends now : Counted) → i < length clients → one ≡ get_or clients i one
    → now ≡ plus ends (ends_in one) → plus now (ends_in (requests_in (drop (i + 1) clients))) ≡ plus ends (ends_in (requests_in (drop i clients)))
next_client clients i one ends now lt is h =
    let rest = requests_in (drop (i + 1) clients) in
    ap (λ e. plus e (ends_in rest)) h ∙ plus_assoc ends (ends_in one) (ends_in rest) ∙ ap (λ e. plus ends e) (sym (ends_append one rest))
    ∙ ap (λ l. plus ends (ends_in (requests_in l))) (sym (at_item clients i one lt is))

pub none_client : (clients : List (List RequestReport)) (i : ℕ) (ends : Counted) → length clients ≤ i → plus ends (ends_in (requests_in (drop i clients))) ≡ ends
none_client clients i ends over = ap (λ l. plus ends (ends_in (requests_in l))) (drop_all i clients over) ∙ plus_none ends

-- the line of a report, by its parts
pub line_so : (report : Report) (ends : Counted) (entries events : ℕ) (sum : ℤ) → ends ≡ ends_in (requests_in report.clients)
    → entries ≡ length report.entries → events ≡ length report.notes → sum ≡ total report
    → ◌≡◌ {A = LoadLine} (record { committed = ends.committed; conflict = ends.conflict; entries = entries; events = events; failed = ends.failed; total = sum }) (line_of report)
unfolding ends_in
line_so report ends entries events sum ends_are entries_are events_are sum_is =
    let line : Counted → ℕ → ℕ → ℤ → LoadLine = λ ends entries events sum.
    record { committed = ends.committed; conflict = ends.conflict; entries = entries; events = events; failed = ends.failed; total = sum } in
    ap (λ e. line e entries events sum) ends_are ∙ ap (λ n. line (ends_in (requests_in report.clients)) n events sum) entries_are
    ∙ ap (λ n. line (ends_in (requests_in report.clients)) (length report.entries) n sum) events_are
    ∙ ap (λ n. line (ends_in (requests_in report.clients)) (length report.entries) (length report.notes) n) sum_is
