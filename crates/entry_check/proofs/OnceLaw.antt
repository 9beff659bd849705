-- `Once` of a report, by sets of identifiers.
use Rattle.std.proofs.Common.{◌≡◌, ℕ, ◌+◌, List, [], ◌∷◌, ◌++◌, Bool, true, false, not, cond, eqb, leb, ◌&&◌, ◌||◌, take, drop, refl, sym, ap, ◌∙◌}
use Rattle.std.specs.Prelude.{Option, Some, None, is_some, is_none}
use Rattle.std.proofs.Math.Path.{fun_ext}
use Rattle.std.specs.List.{list_all, flat_map, count_by}
use Rattle.std.proofs.lemmas.Bool.{and_parts, not-true}
use Rattle.std.proofs.lemmas.List.Concat.{flat_map-append}
use Rattle.std.proofs.lemmas.List.Folds.{list_all-append}
use Rattle.std.proofs.lemmas.List.Sums.{sum_by-cons}
use Rattle.std.proofs.lemmas.List.{take-append-drop}
use Rattle.svc_values.specs.declared.entry.Ltxid.{Ltxid}
use Rattle.svc_values.specs.declared.entry.Entry.{Entry}
use Rattle.svc_values.specs.declared.entry.SessionId.{SessionId}
use Rattle.outage_schedule.specs.declared.document.Request.{Request}
use Rattle.outage_schedule.specs.declared.document.Client.{Client}
use Rattle.outage_schedule.specs.declared.document.Document.{Document}
use Rattle.outage_schedule.specs.declared.request.RequestReport.{RequestReport}
use Rattle.outage_schedule.specs.declared.report.Report.{Report}
use Rattle.run_clauses.specs.meaning.Sessions.{outside_sessions, is_foreign}
use Rattle.run_clauses.specs.meaning.Transactions.{each_request, requests_in}
use Rattle.run_clauses.specs.meaning.Tried.{holds, ids_differ, ids_tried, has_its_lists, tried_differ}
use Rattle.run_clauses.specs.meaning.Copies.{Copies, copies_of, copies_by_client, each_copies}
use Rattle.run_clauses.specs.meaning.Once.{count_in, all_tried, is_tried_once, entries_tried_once, entries_differ, no_list_has_two, copies_have_one, all_copies_have_one, request_ends, requests_end, once}
use Rattle.entry_check.specs.Once.{ids_of, all_ids, at_most_one, have_one, ends_right, lists_right, entries_right}
use Rattle.entry_check.specs.Copying.{copies_len}
use Rattle.entry_check.proofs.Sets.{differ-append, meet, holds-append}
use Rattle.entry_check.proofs.Entries.{differ_as_ids, count_known}
use Rattle.entry_check.proofs.Ends.{request_known}
use Rattle.entry_check.proofs.Copying.{copies_known_is, meets}
use Rattle.entry_check.proofs.CopiesCut.{copies_cut}

-- ---- lists of lists

flat_flat : {A B C : Type 0} (f : B → List C) (g : A → List B) (xs : List A) → flat_map f (flat_map g xs) ≡ flat_map (λ x. flat_map f (g x)) xs
flat_flat f g [] = refl
flat_flat f g (x ∷ xs) = flat_map-append f (g x) (flat_map g xs) ∙ ap (λ rest. flat_map f (g x) ++ rest) (flat_flat f g xs)

all_flat : {A B : Type 0} (p : B → Bool) (g : A → List B) (xs : List A) → list_all p (flat_map g xs) ≡ list_all (λ x. list_all p (g x)) xs
all_flat p g [] = refl
all_flat p g (x ∷ xs) = list_all-append p (g x) (flat_map g xs) ∙ ap (λ b. list_all p (g x) && b) (all_flat p g xs)

-- two tests that agree where identifiers differ
all_same : {A : Type 0} (f : A → List Ltxid) (p q : A → Bool) → ((a : A) → ids_differ (f a) ≡ true → p a ≡ q a)
    → (items : List A) → ids_differ (flat_map f items) ≡ true → list_all p items ≡ list_all q items
all_same f p q same [] differ = refl
all_same f p q same (a ∷ items) differ =
    let parts = and_parts (not (meet (f a) (flat_map f items))) _ (sym (differ-append (f a) (flat_map f items)) ∙ differ) in
    let each = and_parts (ids_differ (f a)) (ids_differ (flat_map f items)) parts.1 in
    ap (λ b. b && list_all p items) (same a each.0) ∙ ap (λ b. q a && b) (all_same f p q same items each.1)

all_ids_is : (report : Report) → flat_map ids_tried (requests_in report) ≡ all_ids report
all_ids_is report = flat_flat ids_tried (λ requests. requests) report.clients

all_tried_is : (report : Report) → flat_map (λ ids. ids) (all_tried report) ≡ all_ids report
all_tried_is report = flat_flat (λ ids. ids) (λ (request : RequestReport). request.tried) (requests_in report) ∙ all_ids_is report

-- each request, where identifiers differ
requests_same : (p q : RequestReport → Bool) → ((request : RequestReport) → ids_differ (ids_tried request) ≡ true → p request ≡ q request)
    → (report : Report) → ids_differ (all_ids report) ≡ true → each_request p report ≡ each_request q report
requests_same p q same report differ =
    all_same (λ requests. flat_map ids_tried requests) (list_all p) (list_all q) (λ requests apart. all_same ids_tried p q same requests apart) report.clients differ

-- ---- lists that hold an identifier

one_of : (a b : Bool) → (a && b) ≡ false → cond a 1 0 + cond b 1 0 ≡ cond (a || b) 1 0
one_of true true apart = absurd (let no : true ≡ false = apart in cc)
one_of true false apart = refl
one_of false true apart = refl
one_of false false apart = refl

lists_with : (lists : List (List Ltxid)) (x : Ltxid) → ids_differ (flat_map (λ ids. ids) lists) ≡ true
    → count_by (λ ids. holds ids x) lists ≡ cond (holds (flat_map (λ ids. ids) lists) x) 1 0
lists_with [] x differ = refl
lists_with (ids ∷ lists) x differ =
    let others = flat_map (λ one. one) lists in
    let parts = and_parts (not (meet ids others)) _ (sym (differ-append ids others) ∙ differ) in
    let each = and_parts (ids_differ ids) (ids_differ others) parts.1 in
    sum_by-cons (λ (one : List Ltxid). cond (holds one x) 1 0) ids lists
    ∙ ap (λ n. cond (holds ids x) 1 0 + n) (lists_with lists x each.1)
    ∙ one_of (holds ids x) (holds others x) (meets ids others (not-true (meet ids others) parts.0) x)
    ∙ ap (λ b. cond b 1 0) (sym (holds-append ids others x))

is_one : (b : Bool) → eqb (cond b 1 0) 1 ≡ b
is_one true = refl
is_one false = refl

tried_once_is : (outside : List SessionId) (lists : List (List Ltxid)) → ids_differ (flat_map (λ ids. ids) lists) ≡ true → (entries : List Entry)
    → list_all (is_tried_once outside lists) entries ≡ list_all (λ x. is_foreign outside x || holds (flat_map (λ ids. ids) lists) x) (ids_of entries)
tried_once_is outside lists differ [] = refl
tried_once_is outside lists differ (entry ∷ entries) =
    let x = entry.ltxid in
    ap (λ b. (is_foreign outside x || b) && list_all (is_tried_once outside lists) entries) (ap (λ n. eqb n 1) (lists_with lists x differ) ∙ is_one (holds (flat_map (λ ids. ids) lists) x))
    ∙ ap (λ b. (is_foreign outside x || holds (flat_map (λ ids. ids) lists) x) && b) (tried_once_is outside lists differ entries)

-- ---- copies

cut_differ : (n : ℕ) (reports : List RequestReport) → ids_differ (flat_map ids_tried reports) ≡ true
    → (ids_differ (flat_map ids_tried (take n reports)) ≡ true) × (ids_differ (flat_map ids_tried (drop n reports)) ≡ true)
cut_differ n reports differ =
    let front = flat_map ids_tried (take n reports) in
    let back = flat_map ids_tried (drop n reports) in
    let whole : flat_map ids_tried reports ≡ front ++ back = ap (flat_map ids_tried) (sym (take-append-drop n reports)) ∙ flat_map-append ids_tried (take n reports) (drop n reports) in
    let parts = and_parts (not (meet front back)) _ (sym (differ-append front back) ∙ sym (ap ids_differ whole) ∙ differ) in
    and_parts (ids_differ front) (ids_differ back) parts.1

copies_same : (p q : Copies → Bool) → ((copies : Copies) → ids_differ (flat_map ids_tried copies.reports) ≡ true → p copies ≡ q copies)
    → (requests : List Request) (reports : List RequestReport) → ids_differ (flat_map ids_tried reports) ≡ true
    → list_all p (copies_of requests reports) ≡ list_all q (copies_of requests reports)
copies_same p q same [] reports differ = refl
copies_same p q same (request ∷ requests) reports differ =
    let n = copies_len request.again reports in
    let first : Copies = record { request = request; reports = take n reports } in
    let rest = copies_of requests (drop n reports) in
    let parts = cut_differ n reports differ in
    ap (list_all p) (copies_cut request requests reports)
    ∙ ap (λ b. b && list_all p rest) (same first parts.0)
    ∙ ap (λ b. q first && b) (copies_same p q same requests (drop n reports) parts.1)
    ∙ sym (ap (list_all q) (copies_cut request requests reports))

clients_same : (p q : Copies → Bool) → ((copies : Copies) → ids_differ (flat_map ids_tried copies.reports) ≡ true → p copies ≡ q copies)
    → (clients : List Client) (transcripts : List (List RequestReport)) → ids_differ (flat_map (λ requests. flat_map ids_tried requests) transcripts) ≡ true
    → list_all (list_all p) (copies_by_client clients transcripts) ≡ list_all (list_all q) (copies_by_client clients transcripts)
clients_same p q same [] transcripts differ = refl
clients_same p q same (client ∷ clients) [] differ =
    ap (λ b. b && list_all (list_all p) (copies_by_client clients [])) (copies_same p q same client.requests [] refl)
    ∙ ap (λ b. list_all q (copies_of client.requests []) && b) (clients_same p q same clients [] refl)
clients_same p q same (client ∷ clients) (transcript ∷ transcripts) differ =
    let ids = flat_map ids_tried transcript in
    let others = flat_map (λ requests. flat_map ids_tried requests) transcripts in
    let parts = and_parts (not (meet ids others)) _ (sym (differ-append ids others) ∙ differ) in
    let each = and_parts (ids_differ ids) (ids_differ others) parts.1 in
    ap (λ b. b && list_all (list_all p) (copies_by_client clients transcripts)) (copies_same p q same client.requests transcript each.0)
    ∙ ap (λ b. list_all q (copies_of client.requests transcript) && b) (clients_same p q same clients transcripts each.1)

-- ---- all of it

and_given : (a x y : Bool) → (a ≡ true → x ≡ y) → (a && x) ≡ (a && y)
and_given true x y same = same refl
and_given false x y same = refl

and_apart : (a b c : Bool) → ((a && b) && c) ≡ (a && (b && c))
and_apart true b c = refl
and_apart false b c = refl

module _ (document : Document) (report : Report) (listed : ids_differ (all_ids report) ≡ true) where
  tried_once : entries_tried_once report ≡ list_all (λ x. is_foreign (outside_sessions report.notes) x || holds (all_ids report) x) (ids_of report.entries)
  tried_once =
      tried_once_is (outside_sessions report.notes) (all_tried report) (ap ids_differ (all_tried_is report) ∙ listed) report.entries
      ∙ ap (λ (ids : List Ltxid). list_all (λ x. is_foreign (outside_sessions report.notes) x || holds ids x) (ids_of report.entries)) (all_tried_is report)

  module _ (stored : ids_differ (ids_of report.entries) ≡ true) where
    two_same : (request : RequestReport) → ids_differ (ids_tried request) ≡ true
        → list_all (λ (ids : List Ltxid). leb (count_in report.entries ids) 1) request.tried ≡ list_all (at_most_one (holds (ids_of report.entries))) request.tried
    two_same request differ =
        all_same (λ ids. ids) (λ (ids : List Ltxid). leb (count_in report.entries ids) 1) (at_most_one (holds (ids_of report.entries)))
        (λ ids apart. ap (λ n. leb n 1) (count_known report.entries ids stored apart)) request.tried differ

    lists_right_is : (no_list_has_two report && (all_copies_have_one document report && requests_end report)) ≡ lists_right (holds (ids_of report.entries)) document report
    lists_right_is =
        let has = holds (ids_of report.entries) in
        let few : List Ltxid → Bool = λ ids. leb (count_in report.entries ids) 1 in
        let two : no_list_has_two report ≡ each_request (λ request. list_all (at_most_one has) request.tried) report =
        all_flat few (λ (request : RequestReport). request.tried) (requests_in report)
        ∙ all_flat (λ (request : RequestReport). list_all few request.tried) (λ requests. requests) report.clients
        ∙ requests_same (λ request. list_all few request.tried) (λ request. list_all (at_most_one has) request.tried) two_same report listed in
        let copied : all_copies_have_one document report ≡ each_copies (have_one has) document report =
        clients_same (copies_have_one report.entries) (have_one has) (copies_known_is report.entries stored) document.clients report.clients listed in
        let ended : requests_end report ≡ each_request (ends_right has) report =
        requests_same (request_ends report.entries) (ends_right has) (request_known report.entries stored) report listed in
        ap (λ b. b && (all_copies_have_one document report && requests_end report)) two
        ∙ ap (λ b. each_request (λ request. list_all (at_most_one has) request.tried) report && (b && requests_end report)) copied
        ∙ ap (λ b. each_request (λ request. list_all (at_most_one has) request.tried) report && (each_copies (have_one has) document report && b)) ended

  entries_right_is : (entries_tried_once report && (entries_differ report.entries && (no_list_has_two report && (all_copies_have_one document report && requests_end report))))
      ≡ entries_right (holds (all_ids report)) document report
  entries_right_is =
      let rest = no_list_has_two report && (all_copies_have_one document report && requests_end report) in
      let first = list_all (λ x. is_foreign (outside_sessions report.notes) x || holds (all_ids report) x) (ids_of report.entries) in
      ap (λ b. b && (entries_differ report.entries && rest)) tried_once
      ∙ ap (λ b. first && (b && rest)) (differ_as_ids report.entries)
      ∙ ap (λ b. first && b) (and_given (ids_differ (ids_of report.entries)) rest (lists_right (holds (ids_of report.entries)) document report) lists_right_is)

pub once_as : (document : Document) (report : Report)
    → once document report ≡ (each_request has_its_lists report && (ids_differ (all_ids report) && entries_right (holds (all_ids report)) document report))
once_as document report =
    let rest = entries_tried_once report && (entries_differ report.entries && (no_list_has_two report && (all_copies_have_one document report && requests_end report))) in
    and_apart (each_request has_its_lists report) (tried_differ report) rest
    ∙ ap (λ b. each_request has_its_lists report && (b && rest)) (ap ids_differ (all_ids_is report))
    ∙ ap (λ b. each_request has_its_lists report && b) (and_given (ids_differ (all_ids report)) rest _ (entries_right_is document report))

-- ---- what the walks found

pub none_of : {A : Type 0} (o : Option A) → is_some o ≡ false → o ≡ None
none_of None some = refl
none_of (Some a) some = absurd (let not : true ≡ false = some in cc)

all_alike : (p q : Ltxid → Bool) → ((x : Ltxid) → p x ≡ q x) → (ids : List Ltxid) → list_all p ids ≡ list_all q ids
all_alike p q same [] = refl
all_alike p q same (x ∷ ids) = ap (λ b. b && list_all p ids) (same x) ∙ ap (λ b. q x && b) (all_alike p q same ids)

pub some_of : {A : Type 0} (o : Option A) → is_some o ≡ true → is_none o ≡ false
some_of None some = absurd (let not : false ≡ true = some in cc)
some_of (Some a) some = refl

pub entries_right_from : (tried : Ltxid → Bool) (document : Document) (report : Report) (outside : List SessionId) (stored first second : List Ltxid) → first ≡ ids_of report.entries → second ≡ ids_of report.entries
    → ((x : Ltxid) → is_foreign outside x ≡ is_foreign (outside_sessions report.notes) x)
    → list_all (λ x. is_foreign outside x || tried x) first ≡ true → ids_differ second ≡ true → ((x : Ltxid) → holds stored x ≡ holds second x)
    → lists_right (holds stored) document report ≡ entries_right tried document report
entries_right_from tried document report outside stored first second are are_too foreign all differ same =
    let own = ids_of report.entries in
    let notes = outside_sessions report.notes in
    let rest = lists_right (holds own) document report in
    let all_own : list_all (λ x. is_foreign notes x || tried x) own ≡ true =
    sym (all_alike (λ x. is_foreign outside x || tried x) (λ x. is_foreign notes x || tried x) (λ x. ap (λ b. b || tried x) (foreign x)) own)
    ∙ sym (ap (list_all (λ x. is_foreign outside x || tried x)) are) ∙ all in
    let differ_own : ids_differ own ≡ true = sym (ap ids_differ are_too) ∙ differ in
    ap (λ (has : Ltxid → Bool). lists_right has document report) (fun_ext (λ x. same x ∙ ap (λ (now : List Ltxid). holds now x) are_too))
    ∙ sym (ap (λ b. b && (ids_differ own && rest)) all_own ∙ ap (λ b. b && rest) differ_own)

pub once_from : (document : Document) (report : Report) (tried ids : List Ltxid) → ids ≡ all_ids report → each_request has_its_lists report ≡ true → ids_differ ids ≡ true
    → ((x : Ltxid) → holds tried x ≡ holds ids x) → entries_right (holds tried) document report ≡ once document report
once_from document report tried ids are lists differ same =
    ap (λ (has : Ltxid → Bool). entries_right has document report) (fun_ext (λ x. same x ∙ ap (λ (now : List Ltxid). holds now x) are))
    ∙ sym (once_as document report
    ∙ ap (λ b. b && (ids_differ (all_ids report) && entries_right (holds (all_ids report)) document report)) lists
    ∙ ap (λ b. b && entries_right (holds (all_ids report)) document report) (sym (ap ids_differ are) ∙ differ))

pub once_not : (document : Document) (report : Report) (ids : List Ltxid) → ids ≡ all_ids report → each_request has_its_lists report ≡ true → ids_differ ids ≡ false → once document report ≡ false
once_not document report ids are lists differ =
    once_as document report
    ∙ ap (λ b. b && (ids_differ (all_ids report) && entries_right (holds (all_ids report)) document report)) lists
    ∙ ap (λ b. b && entries_right (holds (all_ids report)) document report) (sym (ap ids_differ are) ∙ differ)
