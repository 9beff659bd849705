-- A step that a client makes is one of its request, and one that was stays one.
use Rattle.std.proofs.Common.{◌≡◌, refl, sym, ap, ◌∙◌, true, ℕ, length, List, ◌++◌, Some}
use Rattle.std.specs.Prelude.{slice_get}
use Rattle.std.proofs.lemmas.Bool.{or_left, or_right}
use Rattle.std.proofs.lemmas.List.Folds.{list_any-append}
use Rattle.outage_schedule.specs.declared.note.GoNote.{GoNote}
use Rattle.shown_clauses.specs.meaning.Links.{Acquired, Seen}
use Rattle.world_model.specs.meaning.Clients.{Client}
use Rattle.world_model.specs.meaning.Frames.{Owner}
use Rattle.world_model.specs.meaning.Machines.{Machine}
use Rattle.world_model.specs.Traced.{Traced}
use Rattle.shown_laws.specs.ByPlace.{RequestSteps, doing_so, requests_by_place, IsRequestOf}
use Rattle.shown_laws.specs.RequestsGrow.{GoesOnAs}
use Rattle.shown_laws.specs.TurnOwners.{meets_at, has_step_at, IsStepOf}
use Rattle.shown_laws.proofs.steps.RequestsGrow.{AllGoOn, steps_grow, its_now}
use Rattle.shown_laws.proofs.steps.StepsTold.{StepTells, Acts}

-- what an owner did is among the steps of its request
pub has_did : (clients : List Client) (owner : Owner) (one : RequestSteps) (acquired : Acquired) → IsRequestOf clients owner one → IsStepOf clients owner acquired → has_step_at acquired.event one.steps ≡ true
has_did clients owner one acquired is did =
    let both : Some is.own ≡ Some did.request.own = sym is.here ∙ did.request.here in
    let mine : is.own ≡ did.request.own = cc in
    let its : Some one ≡ Some did.one = sym is.at ∙ (ap (λ (c : Client). slice_get (requests_by_place c) owner.place) mine ∙ did.request.at) in
    let same : one ≡ did.one = cc in
    ap (λ (r : RequestSteps). has_step_at acquired.event r.steps) same ∙ did.among

-- each step that was a request's is its still
abbrev pub Stay : List Client → List Client → Type 0
Stay clients news = (owner : Owner) (acquired : Acquired) → IsStepOf clients owner acquired → IsStepOf news owner acquired

-- so it is where requests go on
pub go_on_stay : (clients news : List Client) → AllGoOn clients news → Stay clients news
go_on_stay clients news go_on owner acquired did =
    let next : GoesOnAs news owner did.one = go_on owner did.one did.request in
    record {
      whose = did.whose;
      one = record { request = did.one.request; steps = did.one.steps ++ next.more };
      request = next.is;
      among = list_any-append (meets_at acquired.event) did.one.steps next.more ∙ or_left (has_step_at acquired.event did.one.steps) (has_step_at acquired.event next.more) did.among;
    }

pub steps_stay : (t : Traced) (seen : Seen) (client : ℕ) (did : GoNote) (n : Machine) → StepTells t seen client did n → Stay t.machine.clients n.clients
steps_stay t seen client did n tells = go_on_stay t.machine.clients n.clients (steps_grow t seen client did n tells)

-- what a client does now is a step of its request
pub acts_own : (t : Traced) (seen : Seen) (client : ℕ) (did : GoNote) (n : Machine) (acts : Acts t seen client did n) (event : ℕ) → has_step_at event acts.acts ≡ true
    → IsStepOf n.clients (record { client = client; place = length acts.own.past }) (record { client = client; event = event })
acts_own t seen client did n acts event among = record {
  whose = refl;
  one = doing_so acts.after;
  request = its_now t seen client did n acts;
  among = ap (has_step_at event) acts.steps ∙ (list_any-append (meets_at event) acts.doing.steps acts.acts ∙ or_right (has_step_at event acts.doing.steps) (has_step_at event acts.acts) among);
}
