-- The calls with the mark that a request sent on a connection are in order the ones behind the last
-- decided of those that it was shown before it opened this connection.
use Rattle.std.proofs.Common.{◌≡◌, refl, sym, ap, subst, ◌∙◌, Bool, true, false, ℕ, zero, suc, ◌+◌, ◌-◌, ◌<◌, ◌≤◌, ◌&&◌, cond, fold, filter, length, append_assoc, List, [], ◌∷◌, ◌++◌, map, Option, Some, None, ◌⊎◌, inl, inr, if◌then◌else◌, arith}
use Rattle.std.specs.Prelude.{◌==◌, slice_get}
use Rattle.std.specs.List.{list_all}
use Rattle.std.specs.Option.{option_map_or}
use Rattle.std.proofs.lemmas.Bool.{and_parts, and_from, or_cases}
use Rattle.std.proofs.lemmas.Bool.Decides.{nat_tests}
use Rattle.std.proofs.lemmas.List.{map-append}
use Rattle.std.proofs.lemmas.List.Sums.{fold-append}
use Rattle.svc_values.specs.declared.frame.Up.{Up}
use Rattle.svc_values.specs.declared.frame.Up.TheVariants as up
use Rattle.request_bounds.specs.meaning.Replies.{ends_decided}
use Rattle.outage_schedule.specs.declared.document.Request.{Request}
use Rattle.outage_schedule.specs.declared.request.ShownCall.{ShownCall}
use Rattle.client_model.specs.meaning.Account.{Account, account_of, unheard, after_step}
use Rattle.client_model.specs.meaning.Conversation.{Done}
use Rattle.client_model.specs.meaning.Terms.{Terms}
use Rattle.run_clauses.specs.meaning.Reports.{shown_call}
use Rattle.world_model.specs.meaning.Clients.{Step}
use Rattle.invariant_laws.specs.FirstCalls.{is_behind_decided}
use Rattle.world_model.specs.meaning.Frames.{Owner, Sent}
use Rattle.invariant_laws.specs.Replayed.{shown_at, opens, before_opening}
use Rattle.world_model.specs.Sames.{is_of, owned_by}
use Rattle.world_model.specs.records.Script.{behind_decided, recorded_from}
use Rattle.invariant_laws.specs.Shown.{in_row, is_call, is_marked}
use Rattle.world_model.specs.Words.{dones_of}
use Rattle.invariant_laws.proofs.Offered.{owners_are}
use Rattle.replay_laws.proofs.MarkedFronts.{AllMarks, OneMark}
use Rattle.world_model.proofs.Offered.{ShownMore, folds_more}

-- DECIDED CALLS -----------------------------------------------------------------------------------

least_behind : (found index : ℕ) (shown : List ShownCall) → found ≤ index → found ≤ behind_decided found index shown
least_behind found index [] least = omega arith
least_behind found index (one ∷ shown) least = by (ends_decided one.answers) (λ next below. least_behind next (index + 1) shown below)
  where
    by : (test : Bool) → ((next : ℕ) → next ≤ index + 1 → next ≤ behind_decided next (index + 1) shown) → found ≤ behind_decided (cond test (index + 1) found) (index + 1) shown
    by true again = let same : index + 1 ≤ index + 1 = omega arith in let so : index + 1 ≤ behind_decided (index + 1) (index + 1) shown = again (index + 1) same in omega (arith, so, least)
    by false again = let below : found ≤ index + 1 = omega (arith, least) in again found below

-- a decided call is before that index
decided_below : (found index : ℕ) (shown : List ShownCall) (place : ℕ) (one : ShownCall) → found ≤ index → slice_get shown place ≡ Some one → ends_decided one.answers ≡ true → (index + place) + 1 ≤ behind_decided found index shown
decided_below found index [] place one least is decided = absurd (let none : ⊥ = cc in none)
decided_below found index (first ∷ shown) zero one least is decided =
    let same : first ≡ one = cc in
    let over : ends_decided first.answers ≡ true = ap (λ (s : ShownCall). ends_decided s.answers) same ∙ decided in
    let at : index + 1 ≤ index + 1 = omega arith in
    let so : index + 1 ≤ behind_decided (index + 1) (index + 1) shown = least_behind (index + 1) (index + 1) shown at in
    subst (λ (next : ℕ). (index + 0) + 1 ≤ behind_decided next (index + 1) shown) (sym (ap (λ (test : Bool). cond test (index + 1) found) over)) (omega (arith, so))
decided_below found index (first ∷ shown) (suc place) one least is decided = by (ends_decided first.answers) (λ next below. decided_below next (index + 1) shown place one below is decided)
  where
    by : (test : Bool) → ((next : ℕ) → next ≤ index + 1 → ((index + 1) + place) + 1 ≤ behind_decided next (index + 1) shown) → (index + suc place) + 1 ≤ behind_decided (cond test (index + 1) found) (index + 1) shown
    by true again = let same : index + 1 ≤ index + 1 = omega arith in let so = again (index + 1) same in omega (arith, so)
    by false again = let below : found ≤ index + 1 = omega (arith, least) in let so = again found below in omega (arith, so)

within : {A : Type 0} (xs more : List A) (place : ℕ) (x : A) → place < length xs → slice_get (xs ++ more) place ≡ Some x → slice_get xs place ≡ Some x
within [] more place x below is = absurd (let none : ⊥ = omega (arith, below) in none)
within (y ∷ xs) more zero x below is = is
within (y ∷ xs) more (suc place) x below is = let less : place < length xs = omega (arith, below) in within xs more place x less is

pub number_is : (a b : ℕ) → (a == b) ≡ true → a ≡ b
number_is a b is = grind (arith, nat_tests)

-- where it is none before that index, it is that index
pub is_behind : (shown more : List ShownCall) (call : ℕ) → is_behind_decided (shown ++ more) call ≡ true → call < length shown → recorded_from shown ≤ call → call ≡ recorded_from shown
is_behind shown more zero is below least = omega (arith, least)
is_behind shown more (suc place) is below least = by (slice_get (shown ++ more) place) refl (or_cases (suc place == 0) (option_map_or (λ (one : ShownCall). ends_decided one.answers) (slice_get (shown ++ more) (suc place - 1)) false) is)
  where
    sub : suc place - 1 ≡ place
    sub = omega arith

    by : (found : Option ShownCall) → slice_get (shown ++ more) place ≡ found → ((suc place == 0) ≡ true) ⊎ (option_map_or (λ (one : ShownCall). ends_decided one.answers) (slice_get (shown ++ more) (suc place - 1)) false ≡ true) → suc place ≡ recorded_from shown
    by found there (inl zero_is) = absurd (let none : suc place ≡ 0 = number_is (suc place) 0 zero_is in let never : ⊥ = omega (arith, none) in never)
    by None there (inr decided) =
        absurd (let e : false ≡ true = sym (ap (λ (k : ℕ). option_map_or (λ (one : ShownCall). ends_decided one.answers) (slice_get (shown ++ more) k) false) sub ∙ ap (λ (f : Option ShownCall). option_map_or (λ (one : ShownCall). ends_decided one.answers) f false) there) ∙ decided in let never : ⊥ = cc in never)
    by (Some one) there (inr decided) =
        let over : ends_decided one.answers ≡ true =
        sym (ap (λ (k : ℕ). option_map_or (λ (one : ShownCall). ends_decided one.answers) (slice_get (shown ++ more) k) false) sub ∙ ap (λ (f : Option ShownCall). option_map_or (λ (one : ShownCall). ends_decided one.answers) f false) there) ∙ decided in
        let less : place < length shown = omega (arith, below) in
        let start : 0 ≤ 0 = omega arith in
        let so : (0 + place) + 1 ≤ recorded_from shown = decided_below 0 0 shown place one start (within shown more place one less there) over in
        omega (arith, so, least)

-- OPENINGS ----------------------------------------------------------------------------------------

pub record Before (steps found : List Step) : Type 0 where
  pub rest : List Step
  pub all : steps ≡ found ++ rest

pub opening_before : (number : ℕ) (before steps found : List Step) → before_opening number before steps ≡ Some found → Before (before ++ steps) found
opening_before number before [] found is = absurd (let none : ⊥ = cc in none)
opening_before number before (step ∷ steps) found is = by (opens number step.done.input) is (λ so. opening_before number (before ++ step ∷ []) steps found so)
  where
    by : (test : Bool) → (if test then Some before else before_opening number (before ++ step ∷ []) steps) ≡ Some found → (before_opening number (before ++ step ∷ []) steps ≡ Some found → Before ((before ++ step ∷ []) ++ steps) found)
        → Before (before ++ step ∷ steps) found
    by true is again = let same : before ≡ found = cc in record { rest = step ∷ steps; all = ap (λ (b : List Step). b ++ step ∷ steps) same }
    by false is again = let so = again is in record { rest = so.rest; all = sym (append_assoc before (step ∷ []) steps) ∙ so.all }

-- more is shown behind
pub shown_behind : (terms : Terms) (request : Request) (before rest : List Step) → (more : List ShownCall) × (shown_at terms request (before ++ rest) ≡ shown_at terms request before ++ more)
shown_behind terms request before rest =
    let account : Account = account_of terms request.calls (dones_of before) in
    let more : ShownMore terms request.calls account (fold (after_step terms request.calls) account (dones_of rest)) = folds_more terms request.calls (dones_of rest) account in (
      map shown_call more.more,
      ap (λ (shown : List _). map shown_call shown)
          (ap (λ (d : List Done). (account_of terms request.calls d).shown) (map-append (λ (s : Step). s.done) before rest) ∙ ap (λ (a : Account). a.shown) (fold-append (after_step terms request.calls) unheard (dones_of before) (dones_of rest)) ∙ more.are)
          ∙ map-append shown_call account.shown more.more,
    )

-- FRAMES ------------------------------------------------------------------------------------------

-- all are of the last one's request
pub marks_owned : (owner : Owner) (one : Option Owner) (marks : List Sent) (sent : Sent) → AllMarks one (marks ++ sent ∷ []) → owned_by owner sent ≡ true
    → (is_of owner one ≡ true) × (list_all (λ (s : Sent). owned_by owner s && is_call s.frame) marks ≡ true)
marks_owned owner _ [] sent (OneMark one _ _ marked same more) mine = (ap (is_of owner) (owners_are one sent.owner same) ∙ mine, refl)
marks_owned owner _ (first ∷ marks) sent (OneMark one _ _ marked same more) mine =
    let rest = marks_owned owner first.owner marks sent more mine in
    (ap (is_of owner) (owners_are one first.owner same) ∙ rest.0, and_from (owned_by owner first && is_call first.frame) _ (and_from (owned_by owner first) (is_call first.frame) rest.0 (calls first.frame marked)) rest.1)
  where
    calls : (frame : Up) → is_marked frame ≡ true → is_call frame ≡ true
    calls (up.Call replay kept call) is = refl
    calls up.Connect is = absurd (let none : ⊥ = cc in none)
    calls (up.Begin settings) is = absurd (let none : ⊥ = cc in none)
    calls (up.Outcome x) is = absurd (let none : ⊥ = cc in none)
    calls up.End is = absurd (let none : ⊥ = cc in none)
    calls up.Close is = absurd (let none : ⊥ = cc in none)

pub filtered : {A : Type 0} (keep : A → Bool) (xs more : List A) → list_all keep xs ≡ true → filter keep (xs ++ more) ≡ xs ++ filter keep more
filtered keep [] more all = refl
filtered keep (x ∷ xs) more all =
    let parts = and_parts (keep x) (list_all keep xs) all in
    ap (λ (test : Bool). if test then x ∷ filter keep (xs ++ more) else filter keep (xs ++ more)) parts.0 ∙ ap (λ (rest : List _). x ∷ rest) (filtered keep xs more parts.1)

pub row_place : (start : ℕ) (marks : List Sent) (sent : Sent) (more : List Sent) → in_row start (marks ++ sent ∷ more) ≡ true → sent.call ≡ start + length marks
row_place start [] sent more row = let so : sent.call ≡ start = number_is sent.call start (and_parts (sent.call == start) (in_row (start + 1) more) row).0 in omega (arith, so)
row_place start (first ∷ marks) sent more row =
    let so : sent.call ≡ (start + 1) + length marks = row_place (start + 1) marks sent more (and_parts (first.call == start) (in_row (start + 1) (marks ++ sent ∷ more)) row).1 in omega (arith, so)
