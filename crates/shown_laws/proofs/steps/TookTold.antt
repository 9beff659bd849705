-- A step that is told to be lent a connection, or to take a reply there, is a step of its request
-- now; and what was taken, by its kind.
use Rattle.std.proofs.Common.{◌≡◌, refl, sym, ap, subst, ◌∙◌, true, ℕ, ◌+◌, List, [], ◌∷◌, Option, Some, None, if◌then◌else◌}
use Rattle.std.specs.Prelude.{◌==◌, is_some}
use Rattle.std.proofs.lemmas.Bool.{and_from, or_left}
use Rattle.svc_values.specs.declared.frame.Down.{Down}
use Rattle.client_model.specs.declared.input.Input.TheVariants.{Lent, Took}
use Rattle.outage_schedule.specs.declared.item.Served.{Served}
use Rattle.outage_schedule.specs.declared.note.GoNote.{GoNote}
use Rattle.outage_schedule.specs.declared.note.GoNote.TheVariants as go
use Rattle.shown_clauses.specs.meaning.Links.{is_connect}
use Rattle.shown_clauses.specs.meaning.Steps.{Step as StepTold}
use Rattle.world_model.specs.meaning.Clients.{Step, Doing}
use Rattle.world_model.specs.meaning.Links.{Link, link_at}
use Rattle.world_model.specs.Traced.{Traced}
use Rattle.shown_laws.specs.ClientSteps.{now_at, TellsReply, TellsKind, Rested, FoundNone, Waited, WasLent, HasOpened, HasFailed, HasTaken, HasLost}
use Rattle.shown_laws.specs.TurnOwners.{is_met, meets_at, has_step_at}
use Rattle.shown_laws.proofs.events.Lookups.{eq_to}

now_first : (event : ℕ) (first : Step) (more : List Step) → first.event ≡ event → is_met first.done.input ≡ true → has_step_at event (first ∷ more) ≡ true
now_first event first more is met = or_left (meets_at event first) (has_step_at event more) (and_from (first.event == event) (is_met first.done.input) (eq_to first.event event is) met)

abbrev connection_in : GoNote → ℕ
connection_in (go.Lent connection) = connection
connection_in (go.Took connection sent) = connection
connection_in _ = 0

module _ (t : Traced) (client place : ℕ) (doing : Doing) (step : StepTold) where
  -- lent
  pub record IsLent (acts : List Step) : Type 0 where
    pub session : is_some step.session ≡ true
    pub among : has_step_at (t.machine.event + 1) acts ≡ true

  pub lent_kind : (acts : List Step) (connection : ℕ) → step.did ≡ go.Lent connection → TellsKind t client place doing step acts → IsLent acts
  lent_kind _ connection is (WasLent number link ltxid did begun there held taken its session lost) = record { session = ap is_some session; among = now_first (t.machine.event + 1) (now_at t doing (Lent number ltxid)) [] refl refl }
  lent_kind _ connection is (Rested did early bare) = absurd (let both : go.Early ≡ go.Lent connection = sym did ∙ is in let none : ⊥ = cc in none)
  lent_kind _ connection is (FoundNone did frame bare) = absurd (let both : go.NoFrame ≡ go.Lent connection = sym did ∙ is in let none : ⊥ = cc in none)
  lent_kind _ connection is (Waited did begun bare) = absurd (let both : go.Wait ≡ go.Lent connection = sym did ∙ is in let none : ⊥ = cc in none)
  lent_kind _ connection is (HasOpened number did next begun bare) = absurd (let both : go.Open number ≡ go.Lent connection = sym did ∙ is in let none : ⊥ = cc in none)
  lent_kind _ connection is (HasFailed did begun bare) = absurd (let both : go.Down ≡ go.Lent connection = sym did ∙ is in let none : ⊥ = cc in none)
  lent_kind _ connection is (HasLost number link did has there ended bare) = absurd (let both : go.Lost number ≡ go.Lent connection = sym did ∙ is in let none : ⊥ = cc in none)
  lent_kind _ connection is (HasTaken number sent link frame served more did sends has there taken reply session lost gone) =
      absurd (let both : go.Took number sent ≡ go.Lent connection = sym did ∙ is in let none : ⊥ = cc in none)

  -- a reply was taken
  pub record IsTaken (connection : ℕ) (acts : List Step) : Type 0 where
    pub link : Link
    pub frame : Down
    pub served : Served
    pub there : link_at t.machine.links connection ≡ Some link
    pub reply : TellsReply (record { client = client; place = place }) doing.talk.phase link frame served
    pub session : step.session ≡ (if is_connect served.item then Some served.session else None)
    pub among : has_step_at (t.machine.event + 1) acts ≡ true

  pub taken_kind : (acts : List Step) (connection count : ℕ) → step.did ≡ go.Took connection count → TellsKind t client place doing step acts → IsTaken connection acts
  taken_kind _ connection count is (HasTaken number sent link frame served more did sends has there taken reply session lost gone) =
      let same : number ≡ connection = ap connection_in (sym did ∙ is) in
      record { link = link; frame = frame; served = served; there = ap (link_at t.machine.links) (sym same) ∙ there; reply = reply; session = session; among = now_first (t.machine.event + 1) (now_at t doing (Took frame link.is_open)) more refl refl }
  taken_kind _ connection count is (WasLent number link ltxid did begun there held taken its session lost) = absurd (let both : go.Lent number ≡ go.Took connection count = sym did ∙ is in let none : ⊥ = cc in none)
  taken_kind _ connection count is (Rested did early bare) = absurd (let both : go.Early ≡ go.Took connection count = sym did ∙ is in let none : ⊥ = cc in none)
  taken_kind _ connection count is (FoundNone did frame bare) = absurd (let both : go.NoFrame ≡ go.Took connection count = sym did ∙ is in let none : ⊥ = cc in none)
  taken_kind _ connection count is (Waited did begun bare) = absurd (let both : go.Wait ≡ go.Took connection count = sym did ∙ is in let none : ⊥ = cc in none)
  taken_kind _ connection count is (HasOpened number did next begun bare) = absurd (let both : go.Open number ≡ go.Took connection count = sym did ∙ is in let none : ⊥ = cc in none)
  taken_kind _ connection count is (HasFailed did begun bare) = absurd (let both : go.Down ≡ go.Took connection count = sym did ∙ is in let none : ⊥ = cc in none)
  taken_kind _ connection count is (HasLost number link did has there ended bare) = absurd (let both : go.Lost number ≡ go.Took connection count = sym did ∙ is in let none : ⊥ = cc in none)

  -- what holds of none, and of the item of each reply that it may take, holds of what it took
  pub by_taken : (P : Option Served → Type 0) → P None
      → ((connection : ℕ) (link : Link) (frame : Down) (served : Served) → doing.connection ≡ Some connection → link_at t.machine.links connection ≡ Some link → TellsReply (record { client = client; place = place }) doing.talk.phase link frame served → P (Some served))
      → (acts : List Step) → TellsKind t client place doing step acts → P step.taken
  by_taken P none reply _ (HasTaken connection sent link frame served more did sends has there taken its session lost gone) = subst P (sym taken) (reply connection link frame served has there its)
  by_taken P none reply _ (WasLent connection link ltxid did begun there held taken session its lost) = subst P (sym taken) none
  by_taken P none reply _ (Rested did early bare) = subst P (sym bare.taken) none
  by_taken P none reply _ (FoundNone did frame bare) = subst P (sym bare.taken) none
  by_taken P none reply _ (Waited did begun bare) = subst P (sym bare.taken) none
  by_taken P none reply _ (HasOpened connection did next begun bare) = subst P (sym bare.taken) none
  by_taken P none reply _ (HasFailed did begun bare) = subst P (sym bare.taken) none
  by_taken P none reply _ (HasLost connection link did has there ended bare) = subst P (sym bare.taken) none
