-- The steps that are told of a request are its conversation, and those of a client that of each
-- request that is over.
use Rattle.std.proofs.Common.{◌≡◌, ◌≢◌, refl, sym, ap, subst, ◌∙◌, append-nil, append_assoc, ℕ, ◌+◌, List, [], ◌∷◌, ◌++◌, map}
use Rattle.std.specs.Prelude.{fold, reverse, flat_map, false}
use Rattle.std.proofs.lemmas.List.{map-append}
use Rattle.client_model.specs.meaning.Conversation.{Timed}
use Rattle.client_model.specs.Conversation.{steps_of, talk_after, MayCome}
use Rattle.outage_schedule.specs.declared.document.Request.{Request}
use Rattle.run_clauses.specs.meaning.Reports.{report_of}
use Rattle.shown_clauses.specs.meaning.Steps.{Step as StepTold}
use Rattle.world_model.specs.meaning.Clients.{Step, Past}
use Rattle.world_model.specs.records.Conversing.{inputs_of, first_talk, IsThrough, AreThrough}
use Rattle.world_model.specs.meaning.Settings.{Setting}
use Rattle.caused_laws.specs.Laws.{shown_steps, IsHeard, AreHeard}
use Rattle.caused_laws.specs.Telling.{ToldStep, Before, Tells, AllTell, behind, nothing_before, inputs_of as inputs_told}
use Rattle.caused_laws.proofs.Offered.{tells_more, behind_inputs, behind_steps}
use Rattle.shown_laws.specs.Submitted.{submission_of}
use Rattle.shown_laws.specs.Tellings.{Telling, steps_in_tellings, TellsRequest, NoneYet, OneMore, TellsPast, NonePast, OnePast, joined}
use Rattle.shown_laws.proofs.heard.StepsHeard.{told_of, before_of, step_heard}

-- A REQUEST ---------------------------------------------------------------------------------------

abbrev pub all_told : List Telling → List ToldStep
all_told tellings = map told_of tellings

pub steps_same : (tellings : List Telling) → shown_steps (all_told tellings) ≡ steps_in_tellings tellings
steps_same [] = refl
steps_same (one ∷ tellings) = ap (λ (rest : List StepTold). one.step ∷ rest) (steps_same tellings)

inputs_more : (all : List ToldStep) (one : ToldStep) → inputs_told (all ++ one ∷ []) ≡ inputs_told all ++ one.inputs
inputs_more [] one = append-nil one.inputs
inputs_more (first ∷ all) one = ap (λ (rest : List Timed). first.inputs ++ rest) (inputs_more all one) ∙ sym (append_assoc first.inputs (inputs_told all) one.inputs)

pub inputs_same : (setting : Setting) (client place : ℕ) (request : Request) (tellings : List Telling) (steps : List Step) → TellsRequest setting client place request tellings steps → inputs_told (all_told tellings) ≡ inputs_of steps
inputs_same setting client place request _ _ NoneYet = refl
inputs_same setting client place request _ _ (OneMore tellings steps one was s) =
    ap inputs_told (map-append told_of tellings (one ∷ []))
    ∙ (inputs_more (all_told tellings) (told_of one)
    ∙ (ap (λ (all : List Timed). all ++ inputs_of one.acts) (inputs_same setting client place request tellings steps was)
    ∙ sym (map-append (λ (step : Step). (step.done.input, step.done.now)) steps one.acts)))

before_same : (setting : Setting) (client place : ℕ) (request : Request) (tellings : List Telling) (steps : List Step) → TellsRequest setting client place request tellings steps → fold behind nothing_before (all_told tellings) ≡ before_of tellings steps
before_same setting client place request tellings steps is =
    let told : (fold behind nothing_before (all_told tellings)).steps ≡ reverse (steps_in_tellings tellings) =
    behind_steps (all_told tellings) nothing_before ∙ (append-nil (reverse (shown_steps (all_told tellings))) ∙ ap reverse (steps_same tellings)) in
    let inputs : (fold behind nothing_before (all_told tellings)).inputs ≡ inputs_of steps = behind_inputs (all_told tellings) nothing_before ∙ inputs_same setting client place request tellings steps is in
    λ i. record { steps = told i; inputs = inputs i }

pub all_tell : (setting : Setting) (client place : ℕ) (request : Request) (tellings : List Telling) (steps : List Step) → TellsRequest setting client place request tellings steps → AllTell setting.terms request nothing_before (all_told tellings)
all_tell setting client place request _ _ NoneYet = tt
all_tell setting client place request _ _ (OneMore tellings steps one was s) =
    subst (AllTell setting.terms request nothing_before) (sym (map-append told_of tellings (one ∷ [])))
    (tells_more setting.terms request (all_told tellings) nothing_before (told_of one) (all_tell setting client place request tellings steps was)
    (subst (λ (before : Before). Tells setting.terms request before (told_of one)) (sym (before_same setting client place request tellings steps was)) (step_heard setting client place request tellings steps one was s)))

-- A CLIENT ----------------------------------------------------------------------------------------

-- The steps of a request that is over are a conversation, of which its report tells.
pub past_heard : (setting : Setting) (client place : ℕ) (past : Past) (tellings : List Telling) → past.request.calls ≢ [] → TellsRequest setting client place past.request tellings past.steps → IsThrough setting.terms past
    → IsHeard setting.terms (submission_of past) (all_told tellings)
past_heard setting client place past tellings some is through =
    let same : inputs_of past.steps ≡ inputs_told (all_told tellings) = sym (inputs_same setting client place past.request tellings past.steps is) in
    record {
      has_calls = some;
      conversation = record {
        may = subst (MayCome setting.terms (first_talk past.request) false) same through.converses.may;
        tell = all_tell setting client place past.request tellings past.steps is;
        over = ap (λ (inputs : List Timed). (talk_after setting.terms (first_talk past.request) inputs).phase) (sym same) ∙ through.ended;
      };
      reported = sym through.reported ∙ (ap (report_of setting.terms past.request) through.converses.acts ∙ ap (λ (inputs : List Timed). report_of setting.terms past.request (steps_of setting.terms (first_talk past.request) inputs)) same);
    }

-- each request that is over has a call
abbrev pub HaveCalls : List Past → Type 0
HaveCalls [] = Unit {0}
HaveCalls (past ∷ others) = (past.request.calls ≢ []) × HaveCalls others

pub pasts_heard : (setting : Setting) (client place : ℕ) (past : List Past) (told : List (List Telling)) → HaveCalls past → TellsPast setting client place past told → AreThrough setting.terms past → AreHeard setting.terms (map submission_of past) (map all_told told)
pasts_heard setting client _ _ _ some (NonePast place) through = tt
pasts_heard setting client _ _ _ some (OnePast place one others tellings more is rest) through =
    (past_heard setting client place one tellings some.0 is through.0, pasts_heard setting client (place + 1) others more some.1 rest through.1)

-- and together these are the steps that are told
pub joined_same : (told : List (List Telling)) → flat_map shown_steps (map all_told told) ≡ steps_in_tellings (joined told)
joined_same [] = refl
joined_same (tellings ∷ more) =
    ap (λ (steps : List StepTold). steps ++ flat_map shown_steps (map all_told more)) (steps_same tellings)
    ∙ (ap (λ (steps : List StepTold). steps_in_tellings tellings ++ steps) (joined_same more) ∙ sym (map-append (λ (x : Telling). x.step) tellings (joined more)))
