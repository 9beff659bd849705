-- Steps by which a request waits for a frame or a try, and the loss of its connection.
use Rattle.std.proofs.Common.{◌≡◌, ℕ, ◌+◌, Bool, true, false, List, length, Option, Some, None, refl, sym, subst, ◌∙◌}
use Rattle.svc_values.specs.declared.answer.Answer.{Answer}
use Rattle.svc_values.specs.declared.frame.Up.{Up}
use Rattle.request_bounds.specs.meaning.Rules.{Rules}
use Rattle.request_bounds.specs.declared.rule.Why.{Why}
use Rattle.outage_schedule.specs.declared.document.Request.{Request}
use Rattle.outage_schedule.specs.declared.document.ServiceOf.{ServiceOf}
use Rattle.outage_schedule.specs.declared.note.GoNote.TheVariants as go
use Rattle.outage_schedule.specs.declared.request.RequestReport.{RequestReport}
use Rattle.client_model.specs.meaning.States.{Losing}
use Rattle.client_model.specs.declared.input.Input.TheVariants.{Gone}
use Rattle.client_model.specs.meaning.Terms.{Terms, Phase, Idle, Unbegun, Queued, Seeking, Greeting, Asked, Running, Replaying}
use Rattle.client_model.specs.meaning.Talk.{loses, quiet}
use Rattle.client_model.specs.meaning.Account.{Account}
use Rattle.client_model.specs.meaning.Account as account
use Rattle.client_model.specs.Reasons.{rules_of}
use Rattle.shown_clauses.specs.meaning.Fronts.{is_empty}
use Rattle.shown_clauses.specs.meaning.Steps.{Step}
use Rattle.caused_laws.specs.ServiceTerms.{kind_of}
use Rattle.caused_laws.proofs.FactsKnown.{terms_by}
use Rattle.caused_laws.proofs.Slots.{made, early_same, never_sends}
use Rattle.caused_laws.proofs.Standing.{SoFar, behind_it, Adds, adds_none, IsAt, IsLast, IsOpen, Stands, Comes, GoesOn, is_over}
use Rattle.caused_laws.proofs.Submitting.{goes_by}

-- the request has a connection
abbrev pub is_connected : Phase → Bool
is_connected (Greeting lost) = true
is_connected (Asked state) = true
is_connected (Running state) = true
is_connected (Replaying state) = true
is_connected _ = false

-- then no try failed last
pub none_tried : (service : ServiceOf) (phase : Phase) (why : Option Why) (tries : ℕ) (s : SoFar) → is_connected phase ≡ true → IsAt service phase why tries s → tries ≡ 0
none_tried service Idle why tries s is at = absurd (let none : ⊥ = cc in none)
none_tried service Unbegun why tries s is at = absurd (let none : ⊥ = cc in none)
none_tried service (Queued from) why tries s is at = absurd (let none : ⊥ = cc in none)
none_tried service (Seeking lost) why tries s is at = absurd (let none : ⊥ = cc in none)
none_tried service (Greeting None) why tries s is at = at.1
none_tried service (Greeting (Some lost)) why tries s is at = at.1
none_tried service (Asked state) why tries s is at = at.1
none_tried service (Running state) why tries s is at = at.1
none_tried service (Replaying state) why tries s is at = at.1

-- what is so where it has a connection is so with other steps
pub at_same : (service : ServiceOf) (phase : Phase) (why : Option Why) (tries : ℕ) (s t : SoFar) → is_connected phase ≡ true → s.course ≡ t.course → IsAt service phase why tries s → IsAt service phase why tries t
at_same service Idle why tries s t is same at = absurd (let none : ⊥ = cc in none)
at_same service Unbegun why tries s t is same at = absurd (let none : ⊥ = cc in none)
at_same service (Queued from) why tries s t is same at = absurd (let none : ⊥ = cc in none)
at_same service (Seeking lost) why tries s t is same at = absurd (let none : ⊥ = cc in none)
at_same service (Greeting None) why tries s t is same at = subst (λ c. (c.submitted ≡ false) × (tries ≡ 0)) same at
at_same service (Greeting (Some lost)) why tries s t is same at = subst (λ c. IsOpen service why c × (tries ≡ 0)) same at
at_same service (Asked state) why tries s t is same at = subst (λ c. IsOpen service why c × (tries ≡ 0)) same at
at_same service (Running state) why tries s t is same at = subst (λ c. IsOpen service why c × (tries ≡ 0)) same at
at_same service (Replaying state) why tries s t is same at = subst (λ c. IsOpen service why c × (tries ≡ 0) × (c.behind + state.verified ≡ length state.track.recorder.calls)) same at

module _ (service : ServiceOf) (rules : Rules) (told : List Answer → List ℕ) (ruled : rules ≡ rules_of (kind_of service.failover service.consistency)) (request : Request) (copy : RequestReport) where
  abbrev terms : Terms
  terms = terms_by service rules told

  -- THE LOSS
  abbrev pub gone : Account → ℕ → ℕ → Account
  gone a event tick = account.after_step terms request.calls a (record { input = Gone event; now = tick; act = quiet })

  lost_at : (phase : Phase) (event : ℕ) (why : Option Why) (tries : ℕ) (s : SoFar) → is_connected phase ≡ true → IsAt service phase why tries s → IsAt service (loses phase event) why tries s
  lost_at Idle event why tries s is at = absurd (let none : ⊥ = cc in none)
  lost_at Unbegun event why tries s is at = absurd (let none : ⊥ = cc in none)
  lost_at (Queued from) event why tries s is at = absurd (let none : ⊥ = cc in none)
  lost_at (Seeking lost) event why tries s is at = absurd (let none : ⊥ = cc in none)
  lost_at (Greeting None) event why tries s is at = at.0
  lost_at (Greeting (Some lost)) event why tries s is at = at.0
  lost_at (Asked state) event why tries s is at = at.0
  lost_at (Running state) event why tries s is at = at.0
  lost_at (Replaying state) event why tries s is at = at.0

  lost_last : (phase : Phase) (event : ℕ) (last : Option Up) → is_connected phase ≡ true → IsLast (loses phase event) last
  lost_last Idle event last is = absurd (let none : ⊥ = cc in none)
  lost_last Unbegun event last is = absurd (let none : ⊥ = cc in none)
  lost_last (Queued from) event last is = absurd (let none : ⊥ = cc in none)
  lost_last (Seeking lost) event last is = absurd (let none : ⊥ = cc in none)
  lost_last (Greeting lost) event last is = tt
  lost_last (Asked state) event last is = tt
  lost_last (Running state) event last is = tt
  lost_last (Replaying state) event last is = tt

  pub gone_stands : (a : Account) (phase : Phase) (due : Bool) (s : SoFar) (event tick : ℕ) → is_connected phase ≡ true
      → Stands service rules told ruled request copy a phase due s → Stands service rules told ruled request copy (gone a event tick) (loses phase event) false s
  gone_stands a phase due s event tick is stands = record {
    knows = record { agrees = stands.knows.agrees; count = stands.knows.count; downs = stands.knows.downs };
    at = lost_at phase event a.reason a.tries s is stands.at;
    last = λ still. lost_last phase event a.last is;
  }

  pub lost_on : (phase : Phase) (event : ℕ) → is_connected phase ≡ true → is_over service rules told ruled request copy (loses phase event) ≡ false
  lost_on Idle event is = absurd (let none : ⊥ = cc in none)
  lost_on Unbegun event is = absurd (let none : ⊥ = cc in none)
  lost_on (Queued from) event is = absurd (let none : ⊥ = cc in none)
  lost_on (Seeking lost) event is = absurd (let none : ⊥ = cc in none)
  lost_on (Greeting lost) event is = refl
  lost_on (Asked state) event is = refl
  lost_on (Running state) event is = refl
  lost_on (Replaying state) event is = refl

  pub connected_on : (phase : Phase) → is_connected phase ≡ true → is_over service rules told ruled request copy phase ≡ false
  connected_on Idle is = absurd (let none : ⊥ = cc in none)
  connected_on Unbegun is = absurd (let none : ⊥ = cc in none)
  connected_on (Queued from) is = absurd (let none : ⊥ = cc in none)
  connected_on (Seeking lost) is = absurd (let none : ⊥ = cc in none)
  connected_on (Greeting lost) is = refl
  connected_on (Asked state) is = refl
  connected_on (Running state) is = refl
  connected_on (Replaying state) is = refl

  module _ (a : Account) (s : SoFar) (step : Step) where
    -- NO FRAME YET
    abbrev unanswered : Step
    unanswered = made step go.NoFrame None

    unanswered_adds : Adds s unanswered s.facts s.course
    unanswered_adds = adds_none s unanswered s.facts s.course (record { facts_are = refl; course_is = refl }) (never_sends s.course.submitted (is_empty s.course.unshown))

    pub no_frame_comes : (phase : Phase) (due : Bool) → is_connected phase ≡ true → Stands service rules told ruled request copy a phase due s → Comes service rules told ruled request copy a phase due s unanswered
    no_frame_comes phase due is stands =
        GoesOn s.facts s.course (connected_on phase is) (goes_by service rules told ruled request copy s unanswered s.facts s.course unanswered_adds refl refl) unanswered_adds
        (record {
          knows = record { agrees = stands.knows.agrees; count = stands.knows.count; downs = sym (none_tried service phase a.reason a.tries s is stands.at) };
          at = at_same service phase a.reason a.tries s (behind_it s unanswered s.facts s.course) is refl stands.at;
          last = stands.last;
        })

    -- THE CONNECTION IS LOST
    module _ (connection : ℕ) where
      abbrev loss : Step
      loss = made step (go.Lost connection) None

      loss_adds : Adds s loss s.facts s.course
      loss_adds = adds_none s loss s.facts s.course (record { facts_are = refl; course_is = refl }) (never_sends s.course.submitted (is_empty s.course.unshown))

      pub lost_comes : (phase : Phase) (due : Bool) (event : ℕ) → is_connected phase ≡ true → Stands service rules told ruled request copy a phase due s
          → Comes service rules told ruled request copy (gone a event step.tick) (loses phase event) false s loss
      lost_comes phase due event is stands =
          GoesOn s.facts s.course (lost_on phase event is) (goes_by service rules told ruled request copy s loss s.facts s.course loss_adds refl refl) loss_adds
          (gone_stands a phase due (behind_it s loss s.facts s.course) event step.tick is
          (record {
            knows = record { agrees = stands.knows.agrees; count = stands.knows.count; downs = sym (none_tried service phase a.reason a.tries s is stands.at) };
            at = at_same service phase a.reason a.tries s (behind_it s loss s.facts s.course) is refl stands.at;
            last = stands.last;
          }))

    -- TOO EARLY FOR A TRY
    abbrev early : Step
    early = made step go.Early None

    early_adds : Adds s early s.facts s.course
    early_adds = adds_none s early s.facts s.course (record { facts_are = refl; course_is = refl }) (never_sends s.course.submitted (is_empty s.course.unshown))

    still_seeks : (lost : Option Losing) → IsAt service (Seeking lost) a.reason a.tries s → IsAt service (Seeking lost) a.reason a.tries (behind_it s early s.facts s.course)
    still_seeks None at = at
    still_seeks (Some lost) at = at

    pub early_comes : (lost : Option Losing) (due : Bool) → Stands service rules told ruled request copy a (Seeking lost) due s → Comes service rules told ruled request copy a (Seeking lost) due s early
    early_comes lost due stands =
        GoesOn s.facts s.course refl (goes_by service rules told ruled request copy s early s.facts s.course early_adds refl refl) early_adds
        (record {
          knows = record { agrees = stands.knows.agrees; count = stands.knows.count; downs = early_same step s.steps ∙ stands.knows.downs };
          at = still_seeks lost stands.at;
          last = λ still. tt;
        })
