-- What a report of a run has answered of identifiers is what the service's history has.
use Rattle.std.proofs.Common.{◌≡◌, refl, sym, ap, ◌∙◌, true, ℕ, List, [], ◌∷◌, ◌++◌, ◌⊎◌, inl, inr}
use Rattle.std.proofs.lemmas.List.Concat.{flat_map-append}
use Rattle.svc_values.specs.declared.answer.Answer.{Answer}
use Rattle.svc_values.specs.declared.call.Call.{Call}
use Rattle.svc_values.specs.declared.draw.Draw.{Draw}
use Rattle.svc_values.specs.declared.entry.Ltxid.{Ltxid}
use Rattle.svc_values.specs.declared.entry.SessionId.{SessionId}
use Rattle.svc_values.specs.declared.frame.Up.{Up}
use Rattle.svc_values.specs.declared.frame.Up.TheVariants as up
use Rattle.svc_values.specs.SameLaws.{same_ltxid_decides}
use Rattle.outage_schedule.specs.declared.item.Item.{Item}
use Rattle.outage_schedule.specs.declared.item.Item.TheVariants as item
use Rattle.outage_schedule.specs.declared.note.AskResult.{AskResult}
use Rattle.outage_schedule.specs.declared.note.AskResult.TheVariants as told
use Rattle.run_clauses.specs.meaning.Blocks.{Answered, answered_if, answered_by_item, answered_at, answered_in}
use Rattle.run_clauses.specs.meaning.Moments.{HappenedAt}
use Rattle.run_clauses.specs.meaning.Outcomes.{is_uncommitted}
use Rattle.server_model.specs.meaning.Outcomes.{Says}
use Rattle.server_model.specs.Runs.{Happened}
use Rattle.server_model.specs.ServiceCalls.{RunsAre}
use Rattle.service_calls.specs.Answers.{runs_of}
use Rattle.world_model.specs.meaning.Crashing.{is_crashed_item}
use Rattle.world_model.specs.meaning.Machines.{Machine, next_session}
use Rattle.world_model.specs.meaning.ServiceDid.{item_telling}
use Rattle.world_model.specs.meaning.Serving.{is_item_of, commits_after, outcome_frame}
use Rattle.run_laws.proofs.BlockRuns.{answered_by_telling, answered_by_frame, answered_by_one, answered_of}
use Rattle.run_laws.proofs.EventsTell.{EventTells, TellsNothing, TellsItem, TellsRun, TellsAnswer}
use Rattle.run_laws.proofs.RunTells.{RunTells, NothingYet, TellsMore}

-- ONE EVENT ---------------------------------------------------------------------------------------

result_answers : (x : Ltxid) (result : AskResult) → answered_if (is_uncommitted result) x ≡ answered_by_telling x (Says (outcome_frame result))
result_answers x (told.Committed completed) = refl
result_answers x told.Uncommitted = refl
result_answers x (told.ServerAhead next) = refl
result_answers x (told.ClientAhead next) = refl
result_answers x (told.Forgotten horizon) = refl

item_answers : (session : SessionId) (commits : ℕ) (frame : Up) (one : Item) → (is_item_of frame one ≡ true) ⊎ (is_crashed_item frame one ≡ true) → answered_by_item one ≡ answered_by_frame frame (item_telling session commits one)
item_answers session commits (up.Outcome x) (item.Outcome asked result) (inl is) =
    result_answers asked result ∙ ap (λ (y : Ltxid). answered_by_telling y (Says (outcome_frame result))) ((same_ltxid_decides asked x).0 is)
item_answers session commits (up.Outcome x) (item.CrashedOutcome asked) (inr is) = ap (λ (y : Ltxid). record { ltxid = y; may_be = true } ∷ []) ((same_ltxid_decides asked x).0 is)
item_answers session commits (up.Outcome x) one (inl is) = absurd (let none : ⊥ = cc in none)
item_answers session commits (up.Outcome x) one (inr is) = absurd (let none : ⊥ = cc in none)
item_answers session commits frame (item.Outcome asked result) (inl is) = absurd (let none : ⊥ = cc in none)
item_answers session commits frame (item.Outcome asked result) (inr is) = absurd (let none : ⊥ = cc in none)
item_answers session commits frame (item.CrashedOutcome asked) (inl is) = absurd (let none : ⊥ = cc in none)
item_answers session commits frame (item.CrashedOutcome asked) (inr is) = absurd (let none : ⊥ = cc in none)
item_answers session commits frame one its = refl

runs_answer : (session : SessionId) (now : ℕ) (calls : List Call) (runs : List (List Answer × List Draw)) (history : List Happened) → RunsAre session now calls runs history → answered_of history ≡ []
runs_answer session now [] [] history is = ap answered_of is
runs_answer session now [] (run ∷ runs) history is = absurd is
runs_answer session now (called ∷ calls) [] history is = ap answered_of is
runs_answer session now (called ∷ calls) (run ∷ runs) history is = ap answered_of is.2.0 ∙ runs_answer session now calls runs is.1 is.2.1

event_answers : (m : Machine) (moments : List HappenedAt) (happened : List Happened) → EventTells m moments happened → answered_in moments ≡ answered_of happened
event_answers m _ _ TellsNothing = refl
event_answers m _ _ (TellsItem number front served at_front of_front its) = ap (λ (all : List Answered). all ++ []) (item_answers served.session (commits_after front.link served.item) front.first.frame served.item its)
event_answers m _ _ (TellsRun ran calls runs same are) = sym (runs_answer (next_session m.server) m.tick calls (runs_of ran) runs are)
event_answers m _ _ (TellsAnswer x told up) = ap (λ (all : List Answered). all ++ []) (result_answers x told)

-- ALL EVENTS --------------------------------------------------------------------------------------

pub run_answers : (events : ℕ) (moments : List HappenedAt) (history : List Happened) → RunTells events moments history → answered_in moments ≡ answered_of history
run_answers _ _ _ NothingYet = refl
run_answers _ _ _ (TellsMore m moments more history happened tells one) =
    flat_map-append (λ (moment : HappenedAt). answered_at moment.happened) moments more
    ∙ ((λ i. run_answers m.event moments history tells i ++ event_answers m more happened one i) ∙ sym (flat_map-append answered_by_one history happened))
