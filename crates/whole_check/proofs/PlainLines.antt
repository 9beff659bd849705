-- The lines look at no tick and at no lost connection.
use Rattle.std.proofs.Common.{◌≡◌, refl, ap, ◌∙◌, ℕ, ◌+◌, Bool, true, false, length, List, [], ◌∷◌, map, Option, Some, None, option_map}
use Rattle.std.specs.Prelude.{◌&&◌, ◌==◌, filter_map}
use Rattle.std.specs.List.{list_all, last_or}
use Rattle.std.specs.Cmp.Lexicographic.{pointwise}
use Rattle.svc_values.specs.declared.entry.SessionId.{SessionId}
use Rattle.svc_values.specs.meaning.Identifiers.{same_session}
use Rattle.outage_schedule.specs.declared.item.Served.{Served}
use Rattle.shown_clauses.specs.meaning.Fronts.{first_item}
use Rattle.shown_clauses.specs.meaning.Links.{Turn}
use Rattle.shown_clauses.specs.meaning.Steps.{Step, steps_of}
use Rattle.shown_clauses.specs.meaning.Submissions.{Submission}
use Rattle.shown_clauses.specs.meaning.Parts.{Part, parts_of, left_of, has_its_sessions}
use Rattle.shown_clauses.specs.meaning.Showings.{Shown, showing_at, shown_with, tried_by_call, is_shown_by, is_served}
use Rattle.shown_clauses.specs.meaning.Turns.{Owned, is_turn_right, owned_in, turns_of, has_request, has_client}
use Rattle.shown_clauses.specs.meaning.Whole.{took_it, takes, are_taken}
use Rattle.report_story.specs.Plain.{plain_step}
use Rattle.report_parts.specs.PlainParts.{plain_part}
use Rattle.report_parts.proofs.Offered.{parts_plain, steps_of_plain, left_plain}
use Rattle.whole_check.specs.Judging.{has_number, are_calls_right, is_part_right, is_client_right, are_clients_right, is_told_right}

took_plain : (b : Bool) (step : Step) → took_it b (plain_step step) ≡ took_it b step
took_plain true step = refl
took_plain false step = refl

taken_plain : (all : List Step) → are_taken (map plain_step all) ≡ are_taken all
taken_plain [] = refl
taken_plain (step ∷ all) = λ i. took_plain (takes step.did) step i && taken_plain all i

-- ---- a part

picked_plain : {A : Type 0} (pick : Step → Option A) → ((step : Step) → pick (plain_step step) ≡ pick step) → (all : List Step) → filter_map pick (map plain_step all) ≡ filter_map pick all
picked_plain pick same [] = refl
picked_plain pick same (step ∷ all) = by (pick step) refl (picked_plain pick same all)
  where
    by : (o : Option _) → pick step ≡ o → filter_map pick (map plain_step all) ≡ filter_map pick all → filter_map pick (map plain_step (step ∷ all)) ≡ filter_map pick (step ∷ all)
    by None is rest = rw (same step, is) rest
    by (Some a) is rest = rw (same step, is) (ap (λ more. a ∷ more) rest)

first_plain : (all : List Step) → first_item (map plain_step all) ≡ option_map plain_step (first_item all)
first_plain [] = refl
first_plain (step ∷ all) = refl

last_plain : (all : List Step) (last : Option Step) → last_or (option_map plain_step last) (map plain_step all) ≡ option_map plain_step (last_or last all)
last_plain [] last = refl
last_plain (step ∷ all) last = last_plain all (Some step)

in_plain : (first last : Option Step) (owned : List Owned) → owned_in (option_map plain_step first) (option_map plain_step last) owned ≡ owned_in first last owned
in_plain None None owned = refl
in_plain None (Some last) owned = refl
in_plain (Some first) None owned = refl
in_plain (Some first) (Some last) owned = refl

-- the lines on calls that these replies show
abbrev calls_by : (SessionId → ℕ → ℕ) → Submission → List Served → Bool
calls_by numbers one replies =
    let all : List Shown = shown_with one.request.calls (tried_by_call one.copy) one.copy.calls replies in
    ((length one.copy.calls == length replies) && list_all (λ shown. is_shown_by shown shown.showing.item) all)
    && (list_all (λ shown. is_served one.copy shown shown.showing.item) all && list_all (has_number numbers) all)

part_plain : (numbers : SessionId → ℕ → ℕ) (mine : List Owned) (part : Part) → is_part_right numbers mine (plain_part part) ≡ is_part_right numbers mine part
part_plain numbers mine part =
    let one = part.submission in
    (λ i. pointwise same_session one.copy.sessions (picked_plain (λ step. step.session) (λ step. refl) part.steps i)
    && (calls_by numbers one (picked_plain showing_at (λ step. refl) part.steps i)
    && list_all (λ (owned : Owned). is_turn_right one owned.turn) (owned_in (first_plain part.steps i) (last_plain part.steps None i) mine)))
    ∙ ap (λ (among : List Owned). has_its_sessions part && (are_calls_right numbers part && list_all (λ (owned : Owned). is_turn_right one owned.turn) among))
    (in_plain (first_item part.steps) (last_or None part.steps) mine)

parts_right : (numbers : SessionId → ℕ → ℕ) (mine : List Owned) (parts : List Part) → list_all (is_part_right numbers mine) (map plain_part parts) ≡ list_all (is_part_right numbers mine) parts
parts_right numbers mine [] = refl
parts_right numbers mine (part ∷ parts) = λ i. part_plain numbers mine part i && parts_right numbers mine parts i

-- ---- a client, and all of them

request_plain : (left : Option Step) (owned : List Owned) → list_all (has_request (option_map plain_step left)) owned ≡ list_all (has_request left) owned
request_plain None owned = refl
request_plain (Some step) owned = refl

client_plain : (numbers : SessionId → ℕ → ℕ) (steps : List Step) (turns : List Turn) (client : ℕ) (submissions : List Submission)
    → is_client_right numbers (map plain_step steps) turns client submissions ≡ is_client_right numbers steps turns client submissions
client_plain numbers steps turns client submissions =
    let mine = steps_of client steps in
    let its = turns_of client turns in
    (λ i. list_all (has_request (left_of submissions (steps_of_plain client steps i))) its && list_all (is_part_right numbers its) (parts_of submissions (steps_of_plain client steps i)))
    ∙ ((λ i. list_all (has_request (left_plain submissions mine i)) its && list_all (is_part_right numbers its) (parts_plain submissions mine i))
    ∙ (λ i. request_plain (left_of submissions mine) its i && parts_right numbers its (parts_of submissions mine) i))

clients_plain : (numbers : SessionId → ℕ → ℕ) (steps : List Step) (turns : List Turn) (lists : List (List Submission)) (client : ℕ)
    → are_clients_right numbers (map plain_step steps) turns client lists ≡ are_clients_right numbers steps turns client lists
clients_plain numbers steps turns [] client = refl
clients_plain numbers steps turns (submissions ∷ lists) client = λ i. client_plain numbers steps turns client submissions i && clients_plain numbers steps turns lists (client + 1) i

pub told_plain : (numbers : SessionId → ℕ → ℕ) (steps : List Step) (turns : List Turn) (lists : List (List Submission)) → is_told_right numbers (map plain_step steps) turns lists ≡ is_told_right numbers steps turns lists
told_plain numbers steps turns lists = λ i. taken_plain steps i && (list_all (has_client (length lists)) turns && clients_plain numbers steps turns lists 1 i)
