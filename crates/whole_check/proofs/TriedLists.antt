-- The list of identifiers of each shown call.
use Rattle.std.proofs.Common.{◌≡◌, refl, sym, ap, ◌∙◌, ℕ, ◌+◌, ◌<◌, ◌≤◌, Bool, true, false, cond, length, get_or, drop, List, [], ◌∷◌, ◌++◌, map, arith}
use Rattle.std.specs.Prelude.{flat_map}
use Rattle.std.proofs.lemmas.List.{drop_all, append_assoc, drop-drop, drop-map}
use Rattle.svc_values.specs.declared.call.Call.{Call}
use Rattle.svc_values.specs.declared.entry.Ltxid.{Ltxid}
use Rattle.svc_values.specs.meaning.Endings.{ends_transaction}
use Rattle.outage_schedule.specs.declared.item.Served.{Served}
use Rattle.outage_schedule.specs.declared.request.ShownCall.{ShownCall}
use Rattle.outage_schedule.specs.declared.request.RequestReport.{RequestReport}
use Rattle.run_clauses.specs.meaning.Transactions.{put_first, txns, with_tried}
use Rattle.report_moments.proofs.Offered.{left_is}
use Rattle.shown_clauses.specs.meaning.Showings.{Shown, shown_with, tried_by_call}
use Rattle.whole_check.specs.Lists.{first_list}

-- the lists behind those of so many transactions
abbrev pub lists_behind : Bool → List (List Ltxid) → List (List Ltxid)
lists_behind true lists = drop 1 lists
lists_behind false lists = lists

-- for each call the list of its transaction
abbrev pub tried_from : List (List Ltxid) → List ShownCall → List (List Ltxid)
tried_from lists [] = []
tried_from lists (call ∷ calls) = first_list lists ∷ tried_from (lists_behind (ends_transaction call.answers) lists) calls

abbrev by_part : List (List ShownCall) → List (List Ltxid) → List (List Ltxid)
by_part parts lists = flat_map (λ txn. map (λ shown. txn.tried) txn.shown) (with_tried parts lists)

first_put : (b : Bool) (call : ShownCall) (parts : List (List ShownCall)) (lists : List (List Ltxid)) → by_part (put_first b call parts) lists ≡ first_list lists ∷ by_part parts (lists_behind b lists)
first_put true call parts [] = refl
first_put true call parts (ids ∷ lists) = refl
first_put false call [] [] = refl
first_put false call [] (ids ∷ lists) = refl
first_put false call (part ∷ parts) [] = refl
first_put false call (part ∷ parts) (ids ∷ lists) = refl

tried_is : (calls : List ShownCall) (lists : List (List Ltxid)) → by_part (txns calls) lists ≡ tried_from lists calls
tried_is [] [] = refl
tried_is [] (ids ∷ lists) = refl
tried_is (call ∷ calls) lists =
    first_put (ends_transaction call.answers) call (txns calls) lists
    ∙ ap (λ (more : List (List Ltxid)). first_list lists ∷ more) (tried_is calls (lists_behind (ends_transaction call.answers) lists))

pub tried_all : (copy : RequestReport) → tried_by_call copy ≡ tried_from copy.tried copy.calls
tried_all copy = tried_is copy.calls copy.tried

-- ---- the calls from a place on

-- those from a place on, where so many transactions are over
abbrev pub shown_from : List Call → List (List Ltxid) → List ShownCall → List Served → ℕ → ℕ → List Shown
shown_from script lists calls replies over at = shown_with (drop at script) (tried_from (drop over lists) (drop at calls)) (drop at calls) (drop at replies)

pub shown_first : (script : List Call) (copy : RequestReport) (replies : List Served) (lists : List (List Ltxid)) (calls : List ShownCall) → lists ≡ copy.tried → calls ≡ copy.calls
    → shown_from script lists calls replies 0 0 ≡ shown_with script (tried_by_call copy) copy.calls replies
shown_first script copy replies lists calls lists_are calls_are =
    (λ i. shown_with script (tried_from (lists_are i) (calls_are i)) (calls_are i) replies)
    ∙ ap (λ (tried : List (List Ltxid)). shown_with script tried copy.calls replies) (sym (tried_all copy))

behind_is : (b : Bool) (lists : List (List Ltxid)) (over next : ℕ) → next ≡ cond b (over + 1) over → lists_behind b (drop over lists) ≡ drop next lists
behind_is true lists over next is = drop-drop 1 over lists ∙ ap (λ (n : ℕ). drop n lists) (sym is)
behind_is false lists over next is = ap (λ (n : ℕ). drop n lists) (sym is)

left_mapped : {A B : Type 0} (f : A → B) (xs : List A) (i : ℕ) (x : A) → i < length xs → x ≡ get_or xs i x → drop i (map f xs) ≡ f x ∷ drop (i + 1) (map f xs)
left_mapped f xs i x within is = drop-map f i xs ∙ (ap (map f) (left_is xs i x within is) ∙ ap (λ ys. f x ∷ ys) (sym (drop-map f (i + 1) xs)))

-- one call more
pub shown_next : {R : Type 0} (seen : R → Served) (script : List Call) (lists : List (List Ltxid)) (calls : List ShownCall) (replies : List R) (over next at : ℕ) (call : Call) (shown : ShownCall) (one : R) (tried : List Ltxid)
    (made more total : List Shown)
    → at < length calls → shown ≡ get_or calls at shown → at < length script → call ≡ get_or script at call → at < length replies → one ≡ get_or replies at one
    → tried ≡ first_list (drop over lists) → next ≡ cond (ends_transaction shown.answers) (over + 1) over
    → more ≡ made ++ record { call = call; tried = tried; shown = shown; showing = seen one } ∷ []
    → made ++ shown_from script lists calls (map seen replies) over at ≡ total
    → more ++ shown_from script lists calls (map seen replies) next (at + 1) ≡ total
shown_next seen script lists calls replies over next at call shown one tried made more total in_calls shown_is in_script call_is in_replies one_is tried_is next_is more_is total_is =
    let item : Shown = record { call = call; tried = tried; shown = shown; showing = seen one } in
    let later = shown_from script lists calls (map seen replies) next (at + 1) in
    let calls_left = left_is calls at shown in_calls shown_is in
    let here : shown_from script lists calls (map seen replies) over at ≡ item ∷ later =
    (λ i. shown_with (left_is script at call in_script call_is i) (tried_from (drop over lists) (calls_left i)) (calls_left i) (left_mapped seen replies at one in_replies one_is i))
    ∙ (λ i. record { call = call; tried = sym tried_is i; shown = shown; showing = seen one }
    ∷ shown_with (drop (at + 1) script) (tried_from (behind_is (ends_transaction shown.answers) lists over next next_is i) (drop (at + 1) calls)) (drop (at + 1) calls) (drop (at + 1) (map seen replies))) in
    ap (λ (front : List Shown). front ++ later) more_is
    ∙ (append_assoc made (item ∷ []) later
    ∙ (ap (λ (rest : List Shown). made ++ rest) (sym here) ∙ total_is))

none_shown : (script : List Call) (replies : List Served) → shown_with script [] [] replies ≡ []
none_shown [] replies = refl
none_shown (call ∷ script) replies = refl

pub shown_over : (script : List Call) (lists : List (List Ltxid)) (calls : List ShownCall) (replies : List Served) (over at : ℕ) → length calls ≤ at → shown_from script lists calls replies over at ≡ []
shown_over script lists calls replies over at past =
    (λ i. shown_with (drop at script) (tried_from (drop over lists) (drop_all at calls past i)) (drop_all at calls past i) (drop at replies))
    ∙ none_shown (drop at script) (drop at replies)

pub next_over : (shown : ShownCall) (over next at : ℕ) → over ≤ at → next ≡ cond (ends_transaction shown.answers) (over + 1) over → next ≤ at + 1
next_over shown over next at below is = by (ends_transaction shown.answers) is
  where
    by : (b : Bool) → next ≡ cond b (over + 1) over → next ≤ at + 1
    by true same = omega (arith, same, below)
    by false same = omega (arith, same, below)
