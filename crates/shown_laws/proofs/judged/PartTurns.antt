-- A turn whose session was acquired by a step of a part is of the request of this part.
use Rattle.std.proofs.Common.{◌≡◌, refl, sym, ap, subst, ◌∙◌, append_assoc, Bool, true, false, ℕ, zero, suc, ◌+◌, ◌<◌, ◌≤◌, ◌&&◌, length, List, [], ◌∷◌, ◌++◌, map, cond, Option, Some, None, ◌⊎◌, inl, inr, if◌then◌else◌, arith}
use Rattle.std.specs.Prelude.{◌==◌, nat_le, slice_get, option_and_then}
use Rattle.std.specs.List.{list_all, list_any, last_or, cons_option}
use Rattle.std.proofs.lemmas.Bool.{and_parts, and_from, or_cases, or_left, or_right}
use Rattle.std.proofs.lemmas.Bool.Decides.{nat_tests}
use Rattle.std.proofs.lemmas.List.Folds.{list_any-append}
use Rattle.shown_clauses.specs.meaning.Fronts.{first_item}
use Rattle.shown_clauses.specs.meaning.Links.{Acquired, Turn}
use Rattle.shown_clauses.specs.meaning.Parts.{Part, acquires, parts_of}
use Rattle.shown_clauses.specs.meaning.Steps.{Step as StepTold}
use Rattle.shown_clauses.specs.meaning.Submissions.{Submission}
use Rattle.shown_clauses.specs.meaning.Turns.{Owned, is_turn_right, owned_if, turns_of, owned_between, owned_in, turns_right}
use Rattle.world_model.specs.meaning.Clients.{Past, Client, client_at}
use Rattle.world_model.specs.records.Conversing.{AreThrough}
use Rattle.world_model.specs.meaning.Settings.{Setting}
use Rattle.shown_laws.specs.ByPlace.{RequestSteps, requests_by_place}
use Rattle.shown_laws.specs.PartsTold.{OfEach, IsQuiet, IsPartOf, ArePartsOf, NoParts, OnePart}
use Rattle.shown_laws.specs.Submitted.{submission_of}
use Rattle.shown_laws.specs.Tellings.{Telling, steps_in_tellings, TellsRequest, TellsPast, NonePast, OnePast, TellsClient}
use Rattle.shown_laws.specs.TurnOwners.{has_step_at, IsOwned, AreOwned, NoneOwned, OneOwned}
use Rattle.shown_laws.proofs.events.Lookups.{eq_from}
use Rattle.shown_laws.proofs.steps.LoudSteps.{is_loud, quiet_silent, request_loud}
use Rattle.shown_laws.proofs.steps.PartsCut.{upto, from, cut, parts_cut}
use Rattle.shown_laws.proofs.steps.PartsSplit.{all_told, told_more}
use Rattle.shown_laws.proofs.shown.PartsTold.{parts_told}
use Rattle.shown_laws.proofs.steps.RequestsOver.{IsOver, is_over}
use Rattle.shown_laws.proofs.steps.ToldRise.{is_of, Rise, rise_behind, front_before, last_before, never_both}

-- LISTS -------------------------------------------------------------------------------------------

loud_is : (event : ℕ) (steps : List StepTold) → list_any (is_loud event) steps ≡ true → list_any (is_of event) steps ≡ true
loud_is event [] any = absurd (let none : ⊥ = cc in none)
loud_is event (step ∷ steps) any = by (or_cases (is_loud event step) (list_any (is_loud event) steps) any) (λ there. loud_is event steps there)
  where
    by : (is_loud event step ≡ true) ⊎ (list_any (is_loud event) steps ≡ true) → (list_any (is_loud event) steps ≡ true → list_any (is_of event) steps ≡ true) → list_any (is_of event) (step ∷ steps) ≡ true
    by (inl here) rest = or_left (is_of event step) (list_any (is_of event) steps) (and_parts (is_of event step) _ here).0
    by (inr there) rest = or_right (is_of event step) (list_any (is_of event) steps) (rest there)

quiet_none : (event : ℕ) (steps : List StepTold) → OfEach IsQuiet steps → list_any (is_loud event) steps ≡ true → ⊥
quiet_none event [] all any = let none : ⊥ = cc in none
quiet_none event (step ∷ steps) all any = by (or_cases (is_loud event step) (list_any (is_loud event) steps) any) (λ there. quiet_none event steps all.1 there)
  where
    by : (is_loud event step ≡ true) ⊎ (list_any (is_loud event) steps ≡ true) → (list_any (is_loud event) steps ≡ true → ⊥) → ⊥
    by (inl here) rest = quiet_silent event step all.0 here
    by (inr there) rest = rest there

any_either : (test : StepTold → Bool) (steps behind : List StepTold) → list_any test (steps ++ behind) ≡ true → (list_any test steps ≡ true) ⊎ (list_any test behind ≡ true)
any_either test steps behind any = or_cases (list_any test steps) (list_any test behind) (sym (list_any-append test steps behind) ∙ any)

any_front : (test : StepTold → Bool) (steps behind : List StepTold) → list_any test steps ≡ true → list_any test (steps ++ behind) ≡ true
any_front test steps behind any = list_any-append test steps behind ∙ or_left (list_any test steps) (list_any test behind) any

any_behind : (test : StepTold → Bool) (steps behind : List StepTold) → list_any test behind ≡ true → list_any test (steps ++ behind) ≡ true
any_behind test steps behind any = list_any-append test steps behind ∙ or_right (list_any test steps) (list_any test behind) any

-- A step between the first and the last of some is one of these.
between : (event : ℕ) (before part behind : List StepTold) (first last : StepTold) → Rise (before ++ (part ++ behind)) → first_item part ≡ Some first → last_or None part ≡ Some last → first.event ≤ event → event ≤ last.event
    → list_any (is_loud event) (before ++ (part ++ behind)) ≡ true → list_any (is_loud event) part ≡ true
between event before [] behind first last rise is_first is_last low high any = absurd (let none : ⊥ = cc in none)
between event before (one ∷ part) behind first last rise is_first is_last low high any = by (any_either (is_loud event) before (one ∷ part ++ behind) any)
  where
    its_first : one ≡ first
    its_first = cc

    by : (list_any (is_loud event) before ≡ true) ⊎ (list_any (is_loud event) (one ∷ part ++ behind) ≡ true) → list_any (is_loud event) (one ∷ part) ≡ true
    by (inl there) =
        let early : event < one.event = front_before before one (part ++ behind) event rise (loud_is event before there) in
        let same : one.event ≡ first.event = ap (λ (step : StepTold). step.event) its_first in
        absurd (let none : ⊥ = omega (arith, early, same, low) in none)
    by (inr there) = next (any_either (is_loud event) (one ∷ part) behind there)
      where
        next : (list_any (is_loud event) (one ∷ part) ≡ true) ⊎ (list_any (is_loud event) behind ≡ true) → list_any (is_loud event) (one ∷ part) ≡ true
        next (inl here) = here
        next (inr later) =
            let late : last.event < event = last_before (one ∷ part) last behind event is_last (rise_behind before (one ∷ part ++ behind) rise) (loud_is event behind later) in
            absurd (let none : ⊥ = omega (arith, late, high) in none)

-- REQUESTS ----------------------------------------------------------------------------------------

-- what is told of the request at a place is among all that is told
told_among : (test : StepTold → Bool) (told : List (List Telling)) (place : ℕ) (tellings : List Telling) → slice_get told place ≡ Some tellings → list_any test (steps_in_tellings tellings) ≡ true → list_any test (all_told told) ≡ true
told_among test [] place tellings at any = absurd (let none : ⊥ = cc in none)
told_among test (first ∷ told) zero tellings at any =
    let same : first ≡ tellings = cc in
    ap (list_any test) (told_more first told) ∙ any_front test (steps_in_tellings first) (all_told told) (ap (λ (t : List Telling). list_any test (steps_in_tellings t)) same ∙ any)
told_among test (first ∷ told) (suc place) tellings at any =
    ap (list_any test) (told_more first told) ∙ any_behind test (steps_in_tellings first) (all_told told) (told_among test told place tellings at any)

-- an event is of one request
one_place : (event : ℕ) (told : List (List Telling)) (place other : ℕ) (one two : List Telling) → Rise (all_told told) → slice_get told place ≡ Some one → slice_get told other ≡ Some two → list_any (is_of event) (steps_in_tellings one) ≡ true
    → list_any (is_of event) (steps_in_tellings two) ≡ true → place ≡ other
one_place event [] place other one two rise at there any also = absurd (let none : ⊥ = cc in none)
one_place event (first ∷ told) zero zero one two rise at there any also = refl
one_place event (first ∷ told) zero (suc other) one two rise at there any also =
    let same : first ≡ one = cc in
    absurd (never_both (steps_in_tellings first) (all_told told) event (subst Rise (told_more first told) rise) (ap (λ (t : List Telling). list_any (is_of event) (steps_in_tellings t)) same ∙ any) (told_among (is_of event) told other two there also))
one_place event (first ∷ told) (suc place) zero one two rise at there any also =
    let same : first ≡ two = cc in
    absurd (never_both (steps_in_tellings first) (all_told told) event (subst Rise (told_more first told) rise) (ap (λ (t : List Telling). list_any (is_of event) (steps_in_tellings t)) same ∙ also) (told_among (is_of event) told place one at any))
one_place event (first ∷ told) (suc place) (suc other) one two rise at there any also =
    ap suc (one_place event told place other one two (rise_behind (steps_in_tellings first) (all_told told) (subst Rise (told_more first told) rise)) at there any also)

-- what is told of the one at a place
record ToldAt (setting : Setting) (client : ℕ) (told : List (List Telling)) (place : ℕ) (one : Past) : Type 0 where
  number : ℕ
  tellings : List Telling
  at : slice_get told place ≡ Some tellings
  tells : TellsRequest setting client number one.request tellings one.steps

told_there : (setting : Setting) (client start : ℕ) (past : List Past) (told : List (List Telling)) (place : ℕ) (one : Past) → TellsPast setting client start past told → slice_get past place ≡ Some one → ToldAt setting client told place one
told_there setting client _ _ _ place one (NonePast start) at = absurd (let none : ⊥ = cc in none)
told_there setting client _ _ _ zero one (OnePast start first others tellings more tells rest) at =
    let same : first ≡ one = cc in
    record { number = start; tellings = tellings; at = refl; tells = subst (λ (p : Past). TellsRequest setting client start p.request tellings p.steps) same tells }
told_there setting client _ _ _ (suc place) one (OnePast start first others tellings more tells rest) at =
    let later : ToldAt setting client more place one = told_there setting client (start + 1) others more place one rest at in
    record { number = later.number; tellings = later.tellings; at = later.at; tells = later.tells }

-- TURNS -------------------------------------------------------------------------------------------

-- of a turn of this client: the request that has the step by which the session was acquired, for
-- which it is right
pub record IsMine (own : Client) (told : List (List Telling)) (one : Owned) : Type 0 where
  pub place : ℕ
  pub past : Past
  pub at : slice_get own.past place ≡ Some past
  pub tellings : List Telling
  pub told_at : slice_get told place ≡ Some tellings
  pub loud : list_any (is_loud one.event) (steps_in_tellings tellings) ≡ true
  pub right : is_turn_right (submission_of past) one.turn ≡ true

abbrev pub AreMine : Client → List (List Telling) → List Owned → Type 0
AreMine own told [] = Unit {0}
AreMine own told (one ∷ its) = IsMine own told one × AreMine own told its

module _ (setting : Setting) (clients : List Client) (client : ℕ) (own : Client) (here : client_at clients client ≡ Some own) (rests : own.now ≡ None) (told : List (List Telling)) (tells : TellsPast setting client 0 own.past told) where
  one_mine : (turn : Turn) (is : IsOwned clients turn) → is.acquired.client ≡ client → IsMine own told (record { event = is.acquired.event; turn = turn })
  one_mine turn is same =
      let whose : is.owner.client ≡ client = sym is.did.whose ∙ same in
      let both : Some is.did.request.own ≡ Some own = sym is.did.request.here ∙ (ap (client_at clients) whose ∙ here) in
      let it : is.did.request.own ≡ own = cc in
      let past : IsOver own.past is.owner.place is.did.one = is_over own is.owner.place is.did.one rests (ap (λ (c : Client). slice_get (requests_by_place c) is.owner.place) (sym it) ∙ is.did.request.at) in
      let tells_it : ToldAt setting client told is.owner.place past.over = told_there setting client 0 own.past told is.owner.place past.over tells past.at in
      record {
        place = is.owner.place;
        past = past.over;
        at = past.at;
        tellings = tells_it.tellings;
        told_at = tells_it.at;
        loud = request_loud setting client tells_it.number past.over.request tells_it.tellings past.over.steps is.acquired.event tells_it.tells (ap (λ (r : RequestSteps). has_step_at is.acquired.event r.steps) past.same ∙ is.did.among);
        right = is.right own past.over (ap (client_at clients) whose ∙ here) past.at;
      }

  pub all_mine : (turns : List Turn) → AreOwned clients turns → AreMine own told (turns_of client turns)
  all_mine _ NoneOwned = tt
  all_mine _ (OneOwned turn more is rest) =
      subst (λ (found : Option Owned). AreMine own told (cons_option found (turns_of client more))) (sym (ap (option_and_then (λ (acquired : Acquired). owned_if (acquired.client == client) acquired.event turn)) is.has))
      (by (is.acquired.client == client) refl (all_mine more rest))
    where
      by : (test : Bool) → (is.acquired.client == client) ≡ test → AreMine own told (turns_of client more) → AreMine own told (cons_option (owned_if test is.acquired.event turn) (turns_of client more))
      by true same others = (one_mine turn is (eq_from is.acquired.client client same), others)
      by false other others = others

-- PARTS -------------------------------------------------------------------------------------------

-- each part has the steps that come next
pub data Segments : List Part → List StepTold → Type 0 where
  NoSegments : (steps : List StepTold) → Segments [] steps
  OneSegment : (part : Part) (parts : List Part) (steps rest : List StepTold) → steps ≡ part.steps ++ rest → Segments parts rest → Segments (part ∷ parts) steps

upto_then : (count : ℕ) (steps : List StepTold) → steps ≡ upto count steps ++ from count steps
upto_then zero [] = refl
upto_then (suc count) [] = refl
upto_then zero (step ∷ steps) = by (acquires step) (upto_then zero steps)
  where
    by : (test : Bool) → steps ≡ upto zero steps ++ from zero steps → step ∷ steps ≡ cond test [] (step ∷ upto zero steps) ++ cond test (step ∷ steps) (from zero steps)
    by true rest = refl
    by false rest = ap (λ (l : List StepTold). step ∷ l) rest
upto_then (suc count) (step ∷ steps) = by (acquires step) (upto_then count steps) (upto_then (suc count) steps)
  where
    by : (test : Bool) → steps ≡ upto count steps ++ from count steps → steps ≡ upto (suc count) steps ++ from (suc count) steps
        → step ∷ steps ≡ step ∷ cond test (upto count steps) (upto (suc count) steps) ++ cond test (from count steps) (from (suc count) steps)
    by true less same = ap (λ (l : List StepTold). step ∷ l) less
    by false less same = ap (λ (l : List StepTold). step ∷ l) same

pub cut_segments : (submissions : List Submission) (steps : List StepTold) → Segments (cut submissions steps) steps
cut_segments [] steps = NoSegments steps
cut_segments (one ∷ submissions) steps =
    OneSegment (record { submission = one; steps = upto (length one.copy.sessions) steps }) (cut submissions (from (length one.copy.sessions) steps)) steps (from (length one.copy.sessions) steps)
    (upto_then (length one.copy.sessions) steps) (cut_segments submissions (from (length one.copy.sessions) steps))

low_high : (low event high : ℕ) → (nat_le low event && nat_le event high) ≡ true → (low ≤ event) × (event ≤ high)
low_high low event high is =
    let parts = and_parts (nat_le low event) (nat_le event high) is in
    ((let one : low ≤ event = grind (arith, nat_tests, parts.0) in one), (let other : event ≤ high = grind (arith, nat_tests, parts.1) in other))

module _ (own : Client) (told : List (List Telling)) (rise : Rise (all_told told)) (its : List Owned) (mine : AreMine own told its) where
  -- a turn that was acquired by one of its steps is of its request
  in_part : (place : ℕ) (past : Past) (tellings : List Telling) (part : Part) (before behind : List StepTold) (first last : StepTold) (one : Owned) → IsMine own told one → slice_get own.past place ≡ Some past → slice_get told place ≡ Some tellings
      → part.submission ≡ submission_of past → IsPartOf (steps_in_tellings tellings) part → all_told told ≡ before ++ (part.steps ++ behind) → first_item part.steps ≡ Some first → last_or None part.steps ≡ Some last
      → (nat_le first.event one.event && nat_le one.event last.event) ≡ true → is_turn_right part.submission one.turn ≡ true
  in_part place past tellings part before behind first last one is at told_at submission parts whole is_first is_last within =
      let range = low_high first.event one.event last.event within in
      let here : list_any (is_loud one.event) part.steps ≡ true =
      between one.event before part.steps behind first last (subst Rise whole rise) is_first is_last range.0 range.1
      (ap (list_any (is_loud one.event)) (sym whole) ∙ told_among (is_loud one.event) told is.place is.tellings is.told_at is.loud) in
      let mine_too : list_any (is_of one.event) (steps_in_tellings tellings) ≡ true =
      ap (list_any (is_of one.event)) parts.all ∙ any_behind (is_of one.event) parts.before parts.own (loud_is one.event parts.own (own_loud (any_either (is_loud one.event) parts.own parts.behind (ap (list_any (is_loud one.event)) (sym parts.is) ∙ here)))) in
      let same : place ≡ is.place = one_place one.event told place is.place tellings is.tellings rise told_at is.told_at mine_too (loud_is one.event (steps_in_tellings is.tellings) is.loud) in
      let both : Some past ≡ Some is.past = sym at ∙ (ap (slice_get own.past) same ∙ is.at) in
      let it : past ≡ is.past = cc in
      ap (λ (s : Submission). is_turn_right s one.turn) submission ∙ (ap (λ (p : Past). is_turn_right (submission_of p) one.turn) it ∙ is.right)
    where
      own_loud : (list_any (is_loud one.event) parts.own ≡ true) ⊎ (list_any (is_loud one.event) parts.behind ≡ true) → list_any (is_loud one.event) parts.own ≡ true
      own_loud (inl there) = there
      own_loud (inr quiet) = absurd (quiet_none one.event parts.behind parts.quiet_behind quiet)

  part_right : (place : ℕ) (past : Past) (tellings : List Telling) (part : Part) (before behind : List StepTold) → slice_get own.past place ≡ Some past → slice_get told place ≡ Some tellings → part.submission ≡ submission_of past → IsPartOf (steps_in_tellings tellings) part
      → all_told told ≡ before ++ (part.steps ++ behind) → turns_right its part ≡ true
  part_right place past tellings part before behind at told_at submission parts whole = by (first_item part.steps) (last_or None part.steps) refl refl
    where
      each : (first last : StepTold) (some : List Owned) → AreMine own told some → first_item part.steps ≡ Some first → last_or None part.steps ≡ Some last → list_all (λ one. is_turn_right part.submission one.turn) (owned_between first.event last.event some) ≡ true
      each first last [] all is_first is_last = refl
      each first last (one ∷ some) all is_first is_last = met (nat_le first.event one.event && nat_le one.event last.event) refl (each first last some all.1 is_first is_last)
        where
          met : (test : Bool) → (nat_le first.event one.event && nat_le one.event last.event) ≡ test → list_all (λ one. is_turn_right part.submission one.turn) (owned_between first.event last.event some) ≡ true
              → list_all (λ one. is_turn_right part.submission one.turn) (if test then one ∷ owned_between first.event last.event some else owned_between first.event last.event some) ≡ true
          met true within rest =
              and_from (is_turn_right part.submission one.turn) (list_all (λ one. is_turn_right part.submission one.turn) (owned_between first.event last.event some))
              (in_part place past tellings part before behind first last one all.0 at told_at submission parts whole is_first is_last within) rest
          met false beyond rest = rest

      by : (first last : Option StepTold) → first_item part.steps ≡ first → last_or None part.steps ≡ last → list_all (λ one. is_turn_right part.submission one.turn) (owned_in first last its) ≡ true
      by (Some first) (Some last) is_first is_last = each first last its mine is_first is_last
      by None last is_first is_last = refl
      by (Some first) None is_first is_last = refl

  parts_right : (start : ℕ) (past : List Past) (more : List (List Telling)) (parts : List Part) (before steps : List StepTold) → ArePartsOf past more parts → Segments parts steps → all_told told ≡ before ++ steps
      → ((index : ℕ) (one : Past) (tellings : List Telling) → slice_get past index ≡ Some one → slice_get more index ≡ Some tellings → (slice_get own.past (start + index) ≡ Some one) × (slice_get told (start + index) ≡ Some tellings)) → list_all (turns_right its) parts ≡ true
  parts_right start _ _ _ before steps NoParts segments whole at = refl
  parts_right start _ _ _ before _ (OnePart one past tellings more part parts submission is rest) (OneSegment _ _ steps behind next segments) whole at =
      let now = at 0 one tellings refl refl in
      let zero_more : start + 0 ≡ start = omega arith in
      let here : all_told told ≡ before ++ (part.steps ++ behind) = whole ∙ ap (λ (l : List StepTold). before ++ l) next in
      and_from (turns_right its part) (list_all (turns_right its) parts)
      (part_right start one tellings part before behind (ap (slice_get own.past) (sym zero_more) ∙ now.0) (ap (slice_get told) (sym zero_more) ∙ now.1) submission is here)
      (parts_right (start + 1) past more parts (before ++ part.steps) behind rest segments (here ∙ sym (append_assoc before part.steps behind))
      (λ index other its_tellings there told_there.
      let later = at (suc index) other its_tellings there told_there in
      let same : (start + 1) + index ≡ start + suc index = omega arith in
      (ap (slice_get own.past) same ∙ later.0, ap (slice_get told) same ∙ later.1)))

-- Of a client at no request, each part's turns are right.
pub client_turns_right : (setting : Setting) (client : ℕ) (own : Client) (mine : List StepTold) → AreThrough setting.terms own.past → own.now ≡ None → Rise mine → (tells : TellsClient setting client own mine) → (whole : mine ≡ all_told tells.past) → (its : List Owned) → AreMine own tells.past its
    → list_all (turns_right its) (parts_of (map submission_of own.past) mine) ≡ true
client_turns_right setting client own mine through rests rise tells whole its are =
    parts_right own tells.past (subst Rise whole rise) its are 0 own.past tells.past (parts_of (map submission_of own.past) mine) [] mine (parts_told setting client own mine through rests tells)
    (subst (λ (parts : List Part). Segments parts mine) (sym (parts_cut (map submission_of own.past) mine)) (cut_segments (map submission_of own.past) mine)) (sym whole)
    (λ index one tellings at there. let same : 0 + index ≡ index = omega arith in (ap (slice_get own.past) same ∙ at, ap (slice_get tells.past) same ∙ there))
