-- What becomes at an input of an outcome that a request wants: it wants it still, it is told, or
-- the request ends without knowing it. And where one on a session loses its connection it wants
-- that outcome.
use Rattle.std.proofs.Common.{◌≡◌, refl, ap, Bool, true, false, ℕ, [], ◌∷◌, Some, None, if◌then◌else◌}
use Rattle.std.specs.Prelude.{nat_le, ◌+◌, option_and_then}
use Rattle.svc_values.specs.declared.entry.Ltxid.{Ltxid}
use Rattle.svc_values.specs.declared.frame.Ahead.TheVariants as ahead
use Rattle.svc_values.specs.declared.frame.Down.{Down}
use Rattle.svc_values.specs.declared.frame.Down.TheVariants as down
use Rattle.outage_schedule.specs.declared.request.Outcome.{Outcome}
use Rattle.request_bounds.specs.meaning.Limits.{has_waited}
use Rattle.run_clauses.specs.meaning.Reports.{failure_of}
use Rattle.client_model.specs.declared.act.Failed.TheVariants as failed
use Rattle.client_model.specs.declared.act.Hold.TheVariants as hold
use Rattle.client_model.specs.declared.input.Input.{Input}
use Rattle.client_model.specs.declared.input.Input.TheVariants.{Start, Waiting, Lent, Opened, TryFailed, Took, Gone}
use Rattle.client_model.specs.declared.input.Wants.TheVariants as wants
use Rattle.client_model.specs.Conversation.{is_wanted}
use Rattle.client_model.specs.meaning.States.{next_of}
use Rattle.client_model.specs.meaning.Talk.{Step, stands, quiet, fails, with_tried, lost_of, loses, next_call, takes, talk_step, wants_in, wants_of}
use Rattle.client_model.specs.meaning.Terms.{Terms, Talk, Phase, Seeking, Greeting, Asked, Running, Replaying}
use Rattle.world_model.specs.records.Hold.{goes_by}
use Rattle.invariant_laws.specs.Lost.{ends_unknown}
use Rattle.world_model.specs.Wanted.{Wanted, wanted_in}
use Rattle.world_model.proofs.Offered.{by_reply, by_repeated}
use Rattle.invariant_laws.proofs.losses.OutcomesTold.{told_more, fits_input}
use Rattle.invariant_laws.proofs.losses.ReplyFits.{is_expected}

-- where an answer is refused, it is forgotten
abbrev pub no_ahead : Input → Bool
no_ahead (Took (down.OutcomeRefused ahead.Server next) alive) = false
no_ahead (Took (down.OutcomeRefused ahead.Client next) alive) = false
no_ahead input = true

pub data Becomes (phase : Phase) (input : Input) (wanted : Wanted) (step : Step) : Type 0 where
  StillWanted : wanted_in step.0.phase ≡ Some wanted → step.1.hold ≡ hold.Keep → Becomes phase input wanted step
  WasTold : (outcome : Outcome) → told_more input phase ≡ outcome ∷ [] → outcome.ltxid ≡ wanted.ltxid → Becomes phase input wanted step
  NotKnown : ends_unknown (option_and_then failure_of step.1.failed) ≡ true → Becomes phase input wanted step

-- FRAMES ------------------------------------------------------------------------------------------

taken_becomes : (terms : Terms) (talk : Talk) (phase : Phase) (frame : Down) (alive : Bool) (now : ℕ) (wanted : Wanted) → is_expected phase frame ≡ true → no_ahead (Took frame alive) ≡ true → wanted_in phase ≡ Some wanted
    → Becomes phase (Took frame alive) wanted (takes terms talk phase frame alive now)
taken_becomes terms talk (Greeting (Some lost)) (down.Hello x) true now wanted fits plain is = StillWanted is refl
taken_becomes terms talk (Greeting (Some lost)) (down.Hello x) false now wanted fits plain is = StillWanted is refl
taken_becomes terms talk (Greeting None) (down.Hello x) alive now wanted fits plain is = absurd (let none : ⊥ = cc in none)
taken_becomes terms talk (Asked asking) (down.OutcomeIs committed completed) alive now wanted fits plain is =
    let same : record { ltxid = asking.ltxid; event = asking.event } ≡ wanted = cc in
    WasTold (record { ltxid = asking.ltxid; committed = committed; completed = completed }) refl (ap (λ (one : Wanted). one.ltxid) same)
taken_becomes terms talk (Asked asking) (down.OutcomeRefused ahead.Forgotten horizon) alive now wanted fits plain is = NotKnown refl
taken_becomes terms talk (Asked asking) (down.OutcomeRefused who next) alive now wanted fits plain is = absurd (let none : ⊥ = cc in none)
taken_becomes terms talk (Running state) frame alive now wanted fits plain is = absurd (let none : ⊥ = cc in none)
taken_becomes terms talk (Replaying state) frame alive now wanted fits plain is = absurd (let none : ⊥ = cc in none)
taken_becomes terms talk phase frame alive now wanted fits plain is = absurd (let none : ⊥ = cc in none)

-- a connection that is gone leaves what was wanted
pub wants_on : (phase : Phase) (event : ℕ) (wanted : Wanted) → wanted_in phase ≡ Some wanted → wanted_in (loses phase event) ≡ Some wanted
wants_on (Seeking lost) event wanted is = is
wants_on (Greeting lost) event wanted is = is
wants_on (Asked asking) event wanted is = is
wants_on phase event wanted is = absurd (let none : ⊥ = cc in none)

-- OTHER INPUTS ------------------------------------------------------------------------------------

-- a slot is none of what such a request waits for
abbrev of_slots : Input → Bool
of_slots Start = true
of_slots Waiting = true
of_slots (Lent connection x) = true
of_slots input = false

never_slots : (terms : Terms) (talk : Talk) (phase : Phase) (now : ℕ) (input : Input) (wanted : Wanted) → of_slots input ≡ true → is_wanted (wants_in terms talk phase now) input ≡ true → wanted_in phase ≡ Some wanted → ⊥
never_slots terms talk (Seeking lost) now input wanted slots may is = by (has_waited talk.last_try now terms.limits.delay) input slots may
  where
    by : (waited : Bool) (input : Input) → of_slots input ≡ true → is_wanted (if waited then wants.Try else wants.Early) input ≡ true → ⊥
    by true Start slots may = let none : ⊥ = cc in none
    by true Waiting slots may = let none : ⊥ = cc in none
    by true (Lent connection x) slots may = let none : ⊥ = cc in none
    by false Start slots may = let none : ⊥ = cc in none
    by false Waiting slots may = let none : ⊥ = cc in none
    by false (Lent connection x) slots may = let none : ⊥ = cc in none
    by waited input slots may = let none : ⊥ = cc in none
never_slots terms talk (Greeting lost) now input wanted slots may is = by input slots may
  where
    by : (input : Input) → of_slots input ≡ true → is_wanted wants.Frame input ≡ true → ⊥
    by Start slots may = let none : ⊥ = cc in none
    by Waiting slots may = let none : ⊥ = cc in none
    by (Lent connection x) slots may = let none : ⊥ = cc in none
    by input slots may = let none : ⊥ = cc in none
never_slots terms talk (Asked asking) now input wanted slots may is = by input slots may
  where
    by : (input : Input) → of_slots input ≡ true → is_wanted wants.Frame input ≡ true → ⊥
    by Start slots may = let none : ⊥ = cc in none
    by Waiting slots may = let none : ⊥ = cc in none
    by (Lent connection x) slots may = let none : ⊥ = cc in none
    by input slots may = let none : ⊥ = cc in none
never_slots terms talk phase now input wanted slots may is = let none : ⊥ = cc in none

-- one that tries again asks for what it lost
tries_on : (terms : Terms) (talk : Talk) (phase : Phase) (now : ℕ) (input : Input) (wanted : Wanted) → is_wanted wants.Frame input ≡ false → is_wanted (wants_in terms talk phase now) input ≡ true → wanted_in phase ≡ Some wanted
    → wanted_in (Seeking (lost_of phase)) ≡ Some wanted
tries_on terms talk (Seeking lost) now input wanted other may is = is
tries_on terms talk (Greeting lost) now input wanted other may is = is
tries_on terms talk (Asked asking) now input wanted other may is = absurd (let none : ⊥ = cc in none)
tries_on terms talk phase now input wanted other may is = absurd (let none : ⊥ = cc in none)

pub becomes : (terms : Terms) (talk : Talk) (input : Input) (now : ℕ) (wanted : Wanted) → is_wanted (wants_of terms talk now) input ≡ true → fits_input talk.phase input ≡ true → no_ahead input ≡ true → wanted_in talk.phase ≡ Some wanted
    → Becomes talk.phase input wanted (talk_step terms talk input now)
becomes terms talk Start now wanted may fits plain is = absurd (never_slots terms talk talk.phase now Start wanted refl may is)
becomes terms talk Waiting now wanted may fits plain is = absurd (never_slots terms talk talk.phase now Waiting wanted refl may is)
becomes terms talk (Lent connection x) now wanted may fits plain is = absurd (never_slots terms talk talk.phase now (Lent connection x) wanted refl may is)
becomes terms talk (Opened connection) now wanted may fits plain is = StillWanted (tries_on terms talk talk.phase now (Opened connection) wanted refl may is) refl
becomes terms talk TryFailed now wanted may fits plain is = by (nat_le terms.limits.retries (talk.tries + 1))
  where
    by : (many : Bool) → Becomes talk.phase TryFailed wanted (if many then fails (with_tried talk now) false None (failed.Retries (talk.tries + 1)) else (stands (with_tried talk now) (Seeking (lost_of talk.phase)), quiet))
    by true = NotKnown refl
    by false = StillWanted (tries_on terms talk talk.phase now TryFailed wanted refl may is) refl
becomes terms talk (Took frame alive) now wanted may fits plain is = taken_becomes terms talk talk.phase frame alive now wanted fits plain is
becomes terms talk (Gone event) now wanted may fits plain is = StillWanted (wants_on talk.phase event wanted is) refl

-- ON A SESSION ------------------------------------------------------------------------------------

-- calls go out on its session
abbrev pub is_live : Phase → Bool
is_live (Running state) = true
is_live (Replaying state) = true
is_live phase = false

pub live_wants_none : (phase : Phase) → is_live phase ≡ true → wanted_in phase ≡ None
live_wants_none (Running state) live = refl
live_wants_none (Replaying state) live = refl
live_wants_none phase live = absurd (let none : ⊥ = cc in none)

pub live_goes : (phase : Phase) → is_live phase ≡ true → (x : Ltxid) × (goes_by phase ≡ Some x)
live_goes (Running state) live = (state.ltxid, refl)
live_goes (Replaying state) live = (state.ltxid, refl)
live_goes phase live = absurd (let none : ⊥ = cc in none)

-- it goes by an identifier still where it takes a frame and goes on
pub taken_live : (terms : Terms) (talk : Talk) (phase : Phase) (frame : Down) (alive : Bool) (now : ℕ) → talk.phase ≡ phase → is_live phase ≡ true → is_expected phase frame ≡ true → (takes terms talk phase frame alive now).1.hold ≡ hold.Keep
    → (x : Ltxid) × (goes_by (takes terms talk phase frame alive now).0.phase ≡ Some x)
taken_live terms talk (Running state) (down.Reply answers draws x) alive now same live fits keep = (x, by_reply terms talk state answers draws x alive now (next_call talk) keep)
taken_live terms talk (Running state) down.Blocked alive now same live fits keep = (state.ltxid, ap goes_by same)
taken_live terms talk (Replaying state) (down.Reply answers draws x) alive now same live fits keep = (state.ltxid, by_repeated terms talk state answers draws x alive now (next_of state) keep)
taken_live terms talk (Replaying state) down.Blocked alive now same live fits keep = (state.ltxid, ap goes_by same)
taken_live terms talk phase frame alive now same live fits keep = absurd (let none : ⊥ = cc in none)

-- and one that loses its connection then wants an outcome
pub lost_wants : (phase : Phase) (event : ℕ) (x : Ltxid) → goes_by phase ≡ Some x → (wanted : Wanted) × (wanted_in (loses phase event) ≡ Some wanted)
lost_wants (Asked asking) event x is = (record { ltxid = asking.ltxid; event = asking.event }, refl)
lost_wants (Running state) event x is = (record { ltxid = state.ltxid; event = event }, refl)
lost_wants (Replaying state) event x is = (record { ltxid = state.ltxid; event = event }, refl)
lost_wants phase event x is = absurd (let none : ⊥ = cc in none)
