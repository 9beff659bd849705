-- The draws that a repeated call brings are seen without ticks and lost connections.
use Rattle.std.proofs.Common.{◌≡◌, refl, sym, ap, ◌∙◌, ℕ, suc, ◌+◌, Bool, true, false, cond, length, List, [], ◌∷◌, ◌++◌, map, Option, Some, None, option_map}
use Rattle.std.specs.Prelude.{◌==◌, ◌&&◌, ◌||◌, is_some, nat_lt, slice_get}
use Rattle.std.specs.List.{list_any}
use Rattle.std.specs.Option.{option_map_or}
use Rattle.std.proofs.lemmas.List.{map-append}
use Rattle.outage_schedule.specs.declared.document.Document.{Document}
use Rattle.outage_schedule.specs.declared.report.Report.{Report}
use Rattle.shown_clauses.specs.meaning.Fronts.{front_from, front_of, rest_from, rest_of, first_from, first_of, first_item}
use Rattle.shown_clauses.specs.meaning.KeptDraws.{parts, parts_from as all_parts_from, parts_if, has_marked, is_step_of, shown_before, shown_since, draws_shown}
use Rattle.shown_clauses.specs.meaning.Parts.{Counted, acquires, counted_from, is_acquired_by, Part, parts_from, parts_of, left_from, left_of}
use Rattle.shown_clauses.specs.meaning.Showings.{showing_at}
use Rattle.shown_clauses.specs.meaning.Steps.{Step, steps, steps_of}
use Rattle.shown_clauses.specs.meaning.Submissions.{Submission, submissions_by_client}
use Rattle.told_reports.specs.Keeping.{IsTold}
use Rattle.report_story.specs.Brought.{brought}
use Rattle.report_story.specs.Kept.{kept_of}
use Rattle.report_story.specs.Passing.{Repeated, passed_by}
use Rattle.report_story.specs.Plain.{plain_step}
use Rattle.report_parts.specs.PlainParts.{plain_part}
use Rattle.report_parts.specs.Cutting.{step_in}
use Rattle.report_story.proofs.Offered.{brought_told}

-- ---- parts

abbrev plain_counted : Counted → Counted
plain_counted counted = record { acquired = counted.acquired; step = plain_step counted.step }

counted_plain : (before : ℕ) (steps : List Step) → counted_from before (map plain_step steps) ≡ map plain_counted (counted_from before steps)
counted_plain before [] = refl
counted_plain before (step ∷ steps) =
    ap (λ (rest : List Counted). record { acquired = before + cond (acquires step) 1 0; step = plain_step step } ∷ rest) (counted_plain (before + cond (acquires step) 1 0) steps)

front_from_plain : (upto : ℕ) (b : Bool) (x : Counted) (xs : List Counted) → front_from (is_acquired_by upto) b (plain_counted x) (map plain_counted xs) ≡ map plain_counted (front_from (is_acquired_by upto) b x xs)
front_from_plain upto false x xs = refl
front_from_plain upto true x [] = refl
front_from_plain upto true x (y ∷ xs) = ap (λ (rest : List Counted). plain_counted x ∷ rest) (front_from_plain upto (is_acquired_by upto y) y xs)

front_plain : (upto : ℕ) (xs : List Counted) → front_of (is_acquired_by upto) (map plain_counted xs) ≡ map plain_counted (front_of (is_acquired_by upto) xs)
front_plain upto [] = refl
front_plain upto (x ∷ xs) = front_from_plain upto (is_acquired_by upto x) x xs

rest_from_plain : (upto : ℕ) (b : Bool) (x : Counted) (xs : List Counted) → rest_from (is_acquired_by upto) b (plain_counted x) (map plain_counted xs) ≡ map plain_counted (rest_from (is_acquired_by upto) b x xs)
rest_from_plain upto false x xs = refl
rest_from_plain upto true x [] = refl
rest_from_plain upto true x (y ∷ xs) = rest_from_plain upto (is_acquired_by upto y) y xs

rest_plain : (upto : ℕ) (xs : List Counted) → rest_of (is_acquired_by upto) (map plain_counted xs) ≡ map plain_counted (rest_of (is_acquired_by upto) xs)
rest_plain upto [] = refl
rest_plain upto (x ∷ xs) = rest_from_plain upto (is_acquired_by upto x) x xs

steps_in_plain : (xs : List Counted) → map step_in (map plain_counted xs) ≡ map plain_step (map step_in xs)
steps_in_plain [] = refl
steps_in_plain (x ∷ xs) = ap (λ (rest : List Step). plain_step x.step ∷ rest) (steps_in_plain xs)

parts_from_plain : (submissions : List Submission) (before : ℕ) (xs : List Counted) → parts_from before submissions (map plain_counted xs) ≡ map plain_part (parts_from before submissions xs)
parts_from_plain [] before xs = refl
parts_from_plain (one ∷ submissions) before xs =
    let upto = before + length one.copy.sessions in
    (λ i. record { submission = one; steps = (ap (map step_in) (front_plain upto xs) ∙ steps_in_plain (front_of (is_acquired_by upto) xs)) i } ∷ parts_from upto submissions (rest_plain upto xs i))
    ∙ ap (λ (rest : List Part). plain_part (record { submission = one; steps = map step_in (front_of (is_acquired_by upto) xs) }) ∷ rest) (parts_from_plain submissions upto (rest_of (is_acquired_by upto) xs))

pub parts_plain : (submissions : List Submission) (steps : List Step) → parts_of submissions (map plain_step steps) ≡ map plain_part (parts_of submissions steps)
parts_plain submissions steps = ap (parts_from 0 submissions) (counted_plain 0 steps) ∙ parts_from_plain submissions 0 (counted_from 0 steps)

pub steps_of_plain : (client : ℕ) (all : List Step) → steps_of client (map plain_step all) ≡ map plain_step (steps_of client all)
steps_of_plain client [] = refl
steps_of_plain client (step ∷ all) = by (step.client == client) refl (steps_of_plain client all)
  where
    by : (b : Bool) → (step.client == client) ≡ b → steps_of client (map plain_step all) ≡ map plain_step (steps_of client all) → steps_of client (map plain_step (step ∷ all)) ≡ map plain_step (steps_of client (step ∷ all))
    by true is rest = rw is (ap (λ (rest : List Step). plain_step step ∷ rest) rest)
    by false is rest = rw is rest

first_item_plain : (xs : List Counted) → option_map step_in (first_item (map plain_counted xs)) ≡ option_map plain_step (option_map step_in (first_item xs))
first_item_plain [] = refl
first_item_plain (x ∷ xs) = refl

left_from_plain : (submissions : List Submission) (before : ℕ) (xs : List Counted) → left_from before submissions (map plain_counted xs) ≡ option_map plain_step (left_from before submissions xs)
left_from_plain [] before xs = ap (λ (left : List Counted). option_map step_in (first_item left)) (rest_plain before xs) ∙ first_item_plain (rest_of (is_acquired_by before) xs)
left_from_plain (one ∷ submissions) before xs = left_from_plain submissions (before + length one.copy.sessions) xs

pub left_plain : (submissions : List Submission) (steps : List Step) → left_of submissions (map plain_step steps) ≡ option_map plain_step (left_of submissions steps)
left_plain submissions steps = ap (left_from 0 submissions) (counted_plain 0 steps) ∙ left_from_plain submissions 0 (counted_from 0 steps)

all_plain : (lists : List (List Submission)) (client : ℕ) (all : List Step) → all_parts_from client (map plain_step all) lists ≡ map plain_part (all_parts_from client all lists)
all_plain [] client all = refl
all_plain (submissions ∷ lists) client all =
    (λ i. (ap (parts_of submissions) (steps_of_plain client all) ∙ parts_plain submissions (steps_of client all)) i ++ all_plain lists (client + 1) all i)
    ∙ sym (map-append plain_part (parts_of submissions (steps_of client all)) (all_parts_from (client + 1) all lists))

-- where a call with the mark was served, and where none was
pub parts_marked : (document : Document) (report : Report) → has_marked report.served ≡ true
    → all_parts_from 1 (map plain_step (steps report)) (submissions_by_client document report) ≡ map plain_part (parts document report)
parts_marked document report is =
    all_plain (submissions_by_client document report) 1 (steps report) ∙ sym (ap (λ b. map plain_part (parts_if b document report)) is)

pub parts_unmarked : (document : Document) (report : Report) → has_marked report.served ≡ false → [] ≡ map plain_part (parts document report)
parts_unmarked document report is = sym (ap (λ b. map plain_part (parts_if b document report)) is)

-- ---- what they bring

any_plain : (event : ℕ) (steps : List Step) → list_any (λ (step : Step). step.event == event) (map plain_step steps) ≡ list_any (λ (step : Step). step.event == event) steps
any_plain event [] = refl
any_plain event (step ∷ steps) = ap (λ b. (step.event == event) || b) (any_plain event steps)

before_plain : (event : ℕ) (steps : List Step) → shown_before (map plain_step steps) event ≡ shown_before steps event
before_plain event [] = refl
before_plain event (step ∷ steps) = by (is_some (showing_at step) && nat_lt step.event event) refl (before_plain event steps)
  where
    by : (b : Bool) → (is_some (showing_at step) && nat_lt step.event event) ≡ b → shown_before (map plain_step steps) event ≡ shown_before steps event → shown_before (map plain_step (step ∷ steps)) event ≡ shown_before (step ∷ steps) event
    by true is rest = rw is (ap suc rest)
    by false is rest = rw is rest

first_from_plain : (event : ℕ) (b : Bool) (x : Part) (xs : List Part) → first_from (is_step_of event) b (plain_part x) (map plain_part xs) ≡ option_map plain_part (first_from (is_step_of event) b x xs)
first_from_plain event true x xs = refl
first_from_plain event false x [] = refl
first_from_plain event false x (y ∷ xs) =
    ap (λ b. first_from (is_step_of event) b (plain_part y) (map plain_part xs)) (any_plain event y.steps) ∙ first_from_plain event (is_step_of event y) y xs

first_plain : (event : ℕ) (xs : List Part) → first_of (is_step_of event) (map plain_part xs) ≡ option_map plain_part (first_of (is_step_of event) xs)
first_plain event [] = refl
first_plain event (x ∷ xs) =
    ap (λ b. first_from (is_step_of event) b (plain_part x) (map plain_part xs)) (any_plain event x.steps) ∙ first_from_plain event (is_step_of event x) x xs

brings_plain : (parts : List Part) (repeated : Option Repeated) → brought (map plain_part parts) repeated ≡ brought parts repeated
brings_plain parts None = refl
brings_plain parts (Some one) =
    ap (λ (found : Option Part). option_map_or (draws_shown one.acquired.event one.place) found []) (first_plain one.acquired.event parts)
    ∙ by (first_of (is_step_of one.acquired.event) parts)
  where
    by : (found : Option Part) → option_map_or (draws_shown one.acquired.event one.place) (option_map plain_part found) [] ≡ option_map_or (draws_shown one.acquired.event one.place) found []
    by None = refl
    by (Some part) =
        ap (λ n. option_map_or (λ shown. shown.draws) (slice_get (shown_since n [] part.submission.copy.calls) one.place) []) (before_plain one.acquired.event part.steps)

all_bring_plain : (parts : List Part) (all : List (Option Repeated)) → map (brought (map plain_part parts)) all ≡ map (brought parts) all
all_bring_plain parts [] = refl
all_bring_plain parts (one ∷ all) = λ i. brings_plain parts one i ∷ all_bring_plain parts all i

pub kept_is : (document : Document) (report : Report) → IsTold report → (found : List Part) (repeated : List (Option Repeated))
    → found ≡ map plain_part (parts document report) → repeated ≡ (passed_by report).repeated → map (brought found) repeated ≡ kept_of document report
kept_is document report told found repeated found_is repeated_is =
    (λ i. map (brought (found_is i)) (repeated_is i))
    ∙ (all_bring_plain (parts document report) (passed_by report).repeated
    ∙ brought_told (parts document report) document report told)
