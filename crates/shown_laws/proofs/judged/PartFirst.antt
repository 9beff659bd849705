-- Which of all parts is the first that has a step of an event.
use Rattle.std.proofs.Common.{◌≡◌, ◌≢◌, refl, sym, ap, subst, ◌∙◌, Bool, true, false, ℕ, zero, suc, ◌+◌, List, [], ◌∷◌, ◌++◌, map, Some, None, ◌⊎◌, inl, inr, if◌then◌else◌, arith}
use Rattle.std.specs.Prelude.{◌==◌, slice_get, flat_map}
use Rattle.std.specs.List.{list_any}
use Rattle.std.proofs.lemmas.Bool.{or_left, or_right}
use Rattle.std.proofs.lemmas.List.Folds.{list_any-append}
use Rattle.outage_schedule.specs.declared.document.Client.{Client as Scripted}
use Rattle.run_clauses.specs.meaning.Copies.{copies_by_client}
use Rattle.shown_clauses.specs.meaning.Fronts.{first_of}
use Rattle.shown_clauses.specs.meaning.KeptDraws.{parts_from, is_step_of}
use Rattle.shown_clauses.specs.meaning.Parts.{Part, parts_of}
use Rattle.shown_clauses.specs.meaning.Steps.{Step as StepTold, steps_of}
use Rattle.shown_clauses.specs.meaning.Submissions.{Submission, submissions_of}
use Rattle.world_model.specs.meaning.Clients.{Past, Client, reports_of}
use Rattle.world_model.specs.meaning.Settings.{Setting}
use Rattle.shown_laws.specs.PartsTold.{OfEach, IsQuiet, IsPartOf, ArePartsOf, NoParts, OnePart}
use Rattle.shown_laws.specs.Submitted.{submission_of}
use Rattle.shown_laws.specs.Tellings.{Telling, steps_in_tellings, TellsRequest, TellsPast, OnePast}
use Rattle.shown_laws.proofs.events.Lookups.{eq_from, eq_to}
use Rattle.shown_laws.proofs.steps.PartsCut.{parts_cut}
use Rattle.shown_laws.proofs.steps.PartsSplit.{all_told, told_more}
use Rattle.shown_laws.proofs.judged.PartTurns.{Segments, NoSegments, OneSegment, cut_segments}
use Rattle.shown_laws.proofs.links.SeenLists.{first_is}
use Rattle.shown_laws.proofs.steps.StepsAmong.{IsAmong, among_front, among_behind, among_either, AnAmong, any_among, met_among, one_of_event}
use Rattle.shown_laws.proofs.steps.SubmissionsTold.{submissions_in}
use Rattle.shown_laws.proofs.steps.ToldRise.{is_of, AllAfter, Rise, rise_behind, never_both}

-- LISTS -------------------------------------------------------------------------------------------

module _ {A : Type 0} (test : A → Bool) where
  none_then : (xs ys : List A) → first_of test xs ≡ None → first_of test (xs ++ ys) ≡ first_of test ys
  none_then [] ys none = refl
  none_then (x ∷ xs) ys none = first_is test (test x) x (xs ++ ys) ∙ by (test x) (sym (first_is test (test x) x xs) ∙ none) (λ rest. none_then xs ys rest)
    where
      by : (met : Bool) → (if met then Some x else first_of test xs) ≡ None → (first_of test xs ≡ None → first_of test (xs ++ ys) ≡ first_of test ys) → (if met then Some x else first_of test (xs ++ ys)) ≡ first_of test ys
      by true is rest = absurd (let none : ⊥ = cc in none)
      by false is rest = rest is

  found_first : (xs ys : List A) (one : A) → first_of test xs ≡ Some one → first_of test (xs ++ ys) ≡ Some one
  found_first [] ys one is = absurd (let none : ⊥ = cc in none)
  found_first (x ∷ xs) ys one is = first_is test (test x) x (xs ++ ys) ∙ by (test x) (sym (first_is test (test x) x xs) ∙ is) (λ rest. found_first xs ys one rest)
    where
      by : (met : Bool) → (if met then Some x else first_of test xs) ≡ Some one → (first_of test xs ≡ Some one → first_of test (xs ++ ys) ≡ Some one) → (if met then Some x else first_of test (xs ++ ys)) ≡ Some one
      by true is rest = is
      by false is rest = rest is

any_front : (event : ℕ) (steps more : List StepTold) → list_any (is_of event) steps ≡ true → list_any (is_of event) (steps ++ more) ≡ true
any_front event steps more any = list_any-append (is_of event) steps more ∙ or_left (list_any (is_of event) steps) (list_any (is_of event) more) any

any_behind : (event : ℕ) (before steps : List StepTold) → list_any (is_of event) steps ≡ true → list_any (is_of event) (before ++ steps) ≡ true
any_behind event before steps any = list_any-append (is_of event) before steps ∙ or_right (list_any (is_of event) before) (list_any (is_of event) steps) any

pub among_any : (step : StepTold) (steps : List StepTold) → IsAmong step steps → list_any (is_of step.event) steps ≡ true
among_any step [] is = absurd is
among_any step (first ∷ steps) (inl here) = or_left (is_of step.event first) (list_any (is_of step.event) steps) (eq_to first.event step.event (ap (λ (s : StepTold). s.event) here))
among_any step (first ∷ steps) (inr there) = or_right (is_of step.event first) (list_any (is_of step.event) steps) (among_any step steps there)

-- ONE CLIENT --------------------------------------------------------------------------------------

segment_any : (event : ℕ) (front : List Part) (part : Part) (back : List Part) (steps : List StepTold) → Segments (front ++ part ∷ back) steps → list_any (is_of event) part.steps ≡ true → list_any (is_of event) steps ≡ true
segment_any event [] part back steps (OneSegment _ _ _ rest same later) any = ap (list_any (is_of event)) same ∙ any_front event part.steps rest any
segment_any event (first ∷ front) part back steps (OneSegment _ _ _ rest same later) any = ap (list_any (is_of event)) same ∙ any_behind event first.steps rest (segment_any event front part back rest later any)

pub first_part : (event : ℕ) (front : List Part) (part : Part) (back : List Part) (steps : List StepTold) → Segments (front ++ part ∷ back) steps → Rise steps → list_any (is_of event) part.steps ≡ true → first_of (is_step_of event) (front ++ part ∷ back) ≡ Some part
first_part event [] part back steps segments rise any = first_is (is_step_of event) (is_step_of event part) part back ∙ ap (λ (met : Bool). if met then Some part else first_of (is_step_of event) back) any
first_part event (first ∷ front) part back steps (OneSegment _ _ _ rest same later) rise any =
    first_is (is_step_of event) (is_step_of event first) first (front ++ part ∷ back)
    ∙ by (is_step_of event first) refl (first_part event front part back rest later (rise_behind first.steps rest (subst Rise same rise)) any)
  where
    by : (met : Bool) → is_step_of event first ≡ met → first_of (is_step_of event) (front ++ part ∷ back) ≡ Some part → (if met then Some first else first_of (is_step_of event) (front ++ part ∷ back)) ≡ Some part
    by true met found = absurd (never_both first.steps rest event (subst Rise same rise) met (segment_any event front part back rest later any))
    by false met found = found

no_part : (event : ℕ) (parts : List Part) (steps : List StepTold) → Segments parts steps → (list_any (is_of event) steps ≡ true → ⊥) → first_of (is_step_of event) parts ≡ None
no_part event _ steps (NoSegments _) none = refl
no_part event _ _ (OneSegment part parts steps rest same later) none =
    first_is (is_step_of event) (is_step_of event part) part parts
    ∙ by (is_step_of event part) refl (no_part event parts rest later (λ any. none (ap (list_any (is_of event)) same ∙ any_behind event part.steps rest any)))
  where
    by : (met : Bool) → is_step_of event part ≡ met → first_of (is_step_of event) parts ≡ None → (if met then Some part else first_of (is_step_of event) parts) ≡ None
    by true met found = absurd (none (ap (list_any (is_of event)) same ∙ any_front event part.steps rest met))
    by false met found = found

pub parts_segments : (submissions : List Submission) (steps : List StepTold) → Segments (parts_of submissions steps) steps
parts_segments submissions steps = subst (λ (parts : List Part). Segments parts steps) (sym (parts_cut submissions steps)) (cut_segments submissions steps)

-- ALL CLIENTS -------------------------------------------------------------------------------------

-- no other client has a step of the event of this one
pub not_others : (all : List StepTold) (step : StepTold) (other : ℕ) → Rise all → IsAmong step all → other ≢ step.client → list_any (is_of step.event) (steps_of other all) ≡ true → ⊥
not_others all step other rise among differ any =
    let one : AnAmong (is_of step.event) (steps_of other all) = any_among (is_of step.event) (steps_of other all) any in
    let its = met_among (λ (s : StepTold). s.client == other) one.step all one.among in
    let same : one.step ≡ step = one_of_event one.step step all rise its.0 among (eq_from one.step.event step.event one.met) in
    differ (sym (sym (ap (λ (s : StepTold). s.client) same) ∙ eq_from one.step.client other its.1))

pub found_from : (event : ℕ) (all : List StepTold) (part : Part) (number : ℕ) (submissions : List (List Submission)) (index : ℕ) (mine : List Submission) → slice_get submissions index ≡ Some mine
    → ((other : ℕ) → other ≢ number + index → list_any (is_of event) (steps_of other all) ≡ true → ⊥) → first_of (is_step_of event) (parts_of mine (steps_of (number + index) all)) ≡ Some part
    → first_of (is_step_of event) (parts_from number all submissions) ≡ Some part
found_from event all part number [] index mine at others found = absurd (let none : ⊥ = cc in none)
found_from event all part number (first ∷ more) zero mine at others found =
    let same : first ≡ mine = cc in
    let here : number + 0 ≡ number = omega arith in
    found_first (is_step_of event) (parts_of first (steps_of number all)) (parts_from (number + 1) all more) part
    (ap (λ (m : List Submission). first_of (is_step_of event) (parts_of m (steps_of number all))) same ∙ (ap (λ (n : ℕ). first_of (is_step_of event) (parts_of mine (steps_of n all))) (sym here) ∙ found))
found_from event all part number (first ∷ more) (suc index) mine at others found =
    let later : number + suc index ≡ (number + 1) + index = omega arith in
    none_then (is_step_of event) (parts_of first (steps_of number all)) (parts_from (number + 1) all more)
    (no_part event (parts_of first (steps_of number all)) (steps_of number all) (parts_segments first (steps_of number all)) (others number (λ same. let none : ⊥ = omega (arith, same) in none)))
    ∙ found_from event all part (number + 1) more index mine at (λ other differ any. others other (λ same. differ (same ∙ later)) any)
    (ap (λ (n : ℕ). first_of (is_step_of event) (parts_of mine (steps_of n all))) (sym later) ∙ found)

-- the submissions of a client
pub submissions_at : (scripts : List Scripted) (clients : List Client) (index : ℕ) (own : Client) (one : Scripted) → slice_get clients index ≡ Some own → slice_get scripts index ≡ Some one
    → slice_get (map (flat_map submissions_of) (copies_by_client scripts (map (λ client. reports_of client.past) clients))) index ≡ Some (submissions_in one.requests (reports_of own.past))
submissions_at [] clients index own one here there = absurd (let none : ⊥ = cc in none)
submissions_at (first ∷ scripts) [] index own one here there = absurd (let none : ⊥ = cc in none)
submissions_at (first ∷ scripts) (client ∷ clients) zero own one here there =
    let script : first ≡ one = cc in
    let its : client ≡ own = cc in
    ap Some (λ i. submissions_in (ap (λ (s : Scripted). s.requests) script i) (ap (λ (c : Client). reports_of c.past) its i))
submissions_at (first ∷ scripts) (client ∷ clients) (suc index) own one here there = submissions_at scripts clients index own one here there

-- ONE REQUEST -------------------------------------------------------------------------------------

-- what is told of the request at a place, and its part
pub record PartAt (setting : Setting) (client : ℕ) (told : List (List Telling)) (parts : List Part) (place : ℕ) (one : Past) : Type 0 where
  pub number : ℕ
  pub tellings : List Telling
  pub told_at : slice_get told place ≡ Some tellings
  pub tells : TellsRequest setting client number one.request tellings one.steps
  pub part : Part
  pub submission : part.submission ≡ submission_of one
  pub is : IsPartOf (steps_in_tellings tellings) part
  pub front : List Part
  pub back : List Part
  pub all : parts ≡ front ++ part ∷ back

pub part_at : (setting : Setting) (client start : ℕ) (past : List Past) (told : List (List Telling)) (parts : List Part) (place : ℕ) (one : Past) → TellsPast setting client start past told → ArePartsOf past told parts → slice_get past place ≡ Some one
    → PartAt setting client told parts place one
part_at setting client start _ _ _ place one tells NoParts at = absurd (let none : ⊥ = cc in none)
part_at setting client _ _ _ _ zero one (OnePast start _ _ _ _ here after) (OnePart first past tellings more part parts is its rest) at =
    let same : first ≡ one = cc in
    record {
      number = start;
      tellings = tellings;
      told_at = refl;
      tells = subst (λ (p : Past). TellsRequest setting client start p.request tellings p.steps) same here;
      part = part;
      submission = is ∙ ap submission_of same;
      is = its;
      front = [];
      back = parts;
      all = refl;
    }
part_at setting client _ _ _ _ (suc place) one (OnePast start _ _ _ _ here after) (OnePart first past tellings more part parts is its rest) at =
    let later : PartAt setting client more parts place one = part_at setting client (start + 1) past more parts place one after rest at in
    record {
      number = later.number;
      tellings = later.tellings;
      told_at = later.told_at;
      tells = later.tells;
      part = later.part;
      submission = later.submission;
      is = later.is;
      front = part ∷ later.front;
      back = later.back;
      all = ap (λ (l : List Part). part ∷ l) later.all;
    }

-- its steps are among all of its client, in order
pub told_in : (step : StepTold) (told : List (List Telling)) (place : ℕ) (tellings : List Telling) → slice_get told place ≡ Some tellings → IsAmong step (steps_in_tellings tellings) → IsAmong step (all_told told)
told_in step [] place tellings at among = absurd (let none : ⊥ = cc in none)
told_in step (first ∷ told) zero tellings at among =
    let same : first ≡ tellings = cc in
    subst (IsAmong step) (sym (told_more first told)) (among_front step (steps_in_tellings first) (all_told told) (subst (λ (t : List Telling). IsAmong step (steps_in_tellings t)) (sym same) among))
told_in step (first ∷ told) (suc place) tellings at among = subst (IsAmong step) (sym (told_more first told)) (among_behind step (steps_in_tellings first) (all_told told) (told_in step told place tellings at among))

after_front : (event : ℕ) (steps more : List StepTold) → AllAfter event (steps ++ more) → AllAfter event steps
after_front event [] more all = tt
after_front event (step ∷ steps) more all = (all.0, after_front event steps more all.1)

rise_front : (steps more : List StepTold) → Rise (steps ++ more) → Rise steps
rise_front [] more rise = tt
rise_front (step ∷ steps) more rise = (after_front step.event steps more rise.0, rise_front steps more rise.1)

pub rise_in : (told : List (List Telling)) (place : ℕ) (tellings : List Telling) → Rise (all_told told) → slice_get told place ≡ Some tellings → Rise (steps_in_tellings tellings)
rise_in [] place tellings rise at = absurd (let none : ⊥ = cc in none)
rise_in (first ∷ told) zero tellings rise at =
    let same : first ≡ tellings = cc in
    subst (λ (t : List Telling). Rise (steps_in_tellings t)) same (rise_front (steps_in_tellings first) (all_told told) (subst Rise (told_more first told) rise))
rise_in (first ∷ told) (suc place) tellings rise at = rise_in told place tellings (rise_behind (steps_in_tellings first) (all_told told) (subst Rise (told_more first told) rise)) at

-- a step with a session is in the part
quiet_has_none : (step : StepTold) (steps : List StepTold) → OfEach IsQuiet steps → IsAmong step steps → step.session ≡ None
quiet_has_none step [] all among = absurd among
quiet_has_none step (first ∷ steps) all (inl here) = ap (λ (s : StepTold). s.session) (sym here) ∙ all.0.has_none
quiet_has_none step (first ∷ steps) all (inr there) = quiet_has_none step steps all.1 there

pub part_has : (step : StepTold) (steps : List StepTold) (part : Part) → IsPartOf steps part → IsAmong step steps → (step.session ≡ None → ⊥) → list_any (is_of step.event) part.steps ≡ true
part_has step steps part is among some = by (among_either step is.before is.own (subst (IsAmong step) is.all among))
  where
    by : IsAmong step is.before ⊎ IsAmong step is.own → list_any (is_of step.event) part.steps ≡ true
    by (inl early) = absurd (some (quiet_has_none step is.before is.quiet early))
    by (inr own) = ap (list_any (is_of step.event)) is.is ∙ any_front step.event is.own is.behind (among_any step is.own own)
