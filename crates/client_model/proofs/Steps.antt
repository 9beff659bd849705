-- Each step of a conversation is good, and so is the whole.
use Rattle.std.proofs.Common.{◌≡◌, ℕ, ◌+◌, ◌≤◌, ◌<◌, ◌&&◌, ◌||◌, Bool, true, false, not, List, [], ◌∷◌, Option, Some, None, if◌then◌else◌, refl, sym, ap, subst, ◌∙◌, arith}
use Rattle.std.specs.Prelude.{fold}
use Rattle.svc_values.specs.declared.value.Value.{Value}
use Rattle.svc_values.specs.declared.call.Call.{Call}
use Rattle.svc_values.specs.declared.frame.Up.TheVariants as up
use Rattle.svc_values.specs.declared.frame.Ahead.TheVariants as ahead
use Rattle.svc_values.specs.declared.frame.Down.{Down}
use Rattle.svc_values.specs.declared.frame.Down.TheVariants as down
use Rattle.request_bounds.specs.meaning.Limits.{has_waited}
use Rattle.client_model.specs.declared.track.Track.{Track}
use Rattle.client_model.specs.meaning.States.{Losing, Living, Asking, Repeating, next_of}
use Rattle.client_model.specs.declared.input.Input.{Input}
use Rattle.client_model.specs.declared.input.Input.TheVariants.{Start, Waiting, Lent, Opened, TryFailed, Took, Gone}
use Rattle.client_model.specs.declared.input.Wants.TheVariants as wants
use Rattle.client_model.specs.declared.act.Shown.{Shown}
use Rattle.client_model.specs.declared.act.Failed.{Failed}
use Rattle.client_model.specs.declared.act.Failed.TheVariants.{Unknown}
use Rattle.client_model.specs.meaning.Terms.{Terms, Talk, Phase, Idle, Unbegun, Queued, Seeking, Greeting, Asked, Running, Replaying, requested}
use Rattle.client_model.specs.meaning.Talk.{Step, takes, next_call, lost_of, waits_from, on_waiting, talk_step, wants_in}
use Rattle.client_model.specs.meaning.Conversation.{Timed, Done, done_at}
use Rattle.client_model.specs.Conversation.{steps_of, talk_after, is_wanted, is_gone_next, may_come, MayCome}
use Rattle.client_model.specs.meaning.Account.{Account, unheard, hears, hears_outcome, shows, sends, before_sends, after_step, account_of}
use Rattle.client_model.specs.Laws.{EachStep, is_expected, MaySendAll, BegunWith, settings_known, HasCause, track_of, IsKept, ReplaysOnlyVerified, FailsForCause, FailsAtCause, FailsWhere, BeginsKnown, FewReplays, KeepsWhatIsTold, IsCaused, HoldsBy, ReleasesRightly}
use Rattle.client_model.proofs.Fits.{Tracked, Few, Fits, IsTalk, Good, is_idle}
use Rattle.client_model.proofs.Calming.{other_calm}
use Rattle.client_model.proofs.Causes.{has_one_cause}
use Rattle.client_model.proofs.Sending.{fails_good}
use Rattle.client_model.proofs.Going.{tracked_few}
use Rattle.client_model.proofs.Stepped.{Stepped, quiet_stepped, bad_stepped, hello_stepped, fresh_few}
use Rattle.client_model.proofs.Replies.{reply_stepped}
use Rattle.client_model.proofs.Repeating.{repeated_stepped}
use Rattle.client_model.proofs.Outcomes.{outcome_stepped}
use Rattle.client_model.proofs.Slots.{start_stepped, waiting_stepped, lent_stepped, opened_stepped, tried_stepped, gone_stepped, has_connection}

and_left : (a b : Bool) → (a && b) ≡ true → a ≡ true
and_left true b e = refl
and_left false b e = e

and_right : (a b : Bool) → (a && b) ≡ true → b ≡ true
and_right true b e = e
and_right false b e = absurd (let none : ⊥ = cc in none)

not_gone : (g : Bool) → (false || not g) ≡ true → g ≡ false
not_gone true e = absurd (let none : ⊥ = cc in none)
not_gone false e = refl

-- what a request without a connection may be given
abbrev is_try : Input → Bool
is_try (Opened connection) = true
is_try TryFailed = true
is_try _ = false

seeks : (b : Bool) (input : Input) → is_wanted (if b then wants.Try else wants.Early) input ≡ true → is_try input ≡ true
seeks true Start w = w
seeks true Waiting w = w
seeks true (Lent connection ltxid) w = w
seeks true (Opened connection) w = refl
seeks true TryFailed w = refl
seeks true (Took frame alive) w = w
seeks true (Gone event) w = w
seeks false input w = absurd (let none : ⊥ = cc in none)

module _ (terms : Terms) (settings : List (List ℕ × Value)) (calls : List Call) where
  -- FRAMES
  module _ (a : Account) (now : ℕ) (talk : Talk) (talks : IsTalk terms settings calls a talk) where
    greeting_stepped : (lost : Option Losing) (few : Few terms a) (frame : Down) (alive : Bool) → talk.phase ≡ Greeting lost → Fits terms calls a false (Greeting lost) → a.last ≡ Some up.Connect
        → Stepped terms settings calls a (Took frame alive) now (takes terms talk (Greeting lost) frame alive now)
    greeting_stepped lost few (down.Hello ltxid) alive is fits last = hello_stepped terms settings calls a lost ltxid alive now talk talks fits
    greeting_stepped lost few (down.Reply answers draws ltxid) alive is fits last =
        bad_stepped terms settings calls a (down.Reply answers draws ltxid) alive now talk (hears terms a (Took (down.Reply answers draws ltxid) alive) now None) refl few (ap (λ l. is_expected l (down.Reply answers draws ltxid)) last)
    greeting_stepped lost few (down.OutcomeIs committed completed) alive is fits last =
        bad_stepped terms settings calls a (down.OutcomeIs committed completed) alive now talk a (ap (hears_outcome a committed completed) last) few (ap (λ l. is_expected l (down.OutcomeIs committed completed)) last)
    greeting_stepped lost few (down.OutcomeRefused ahead next) alive is fits last =
        bad_stepped terms settings calls a (down.OutcomeRefused ahead next) alive now talk a refl few (ap (λ l. is_expected l (down.OutcomeRefused ahead next)) last)
    greeting_stepped lost few down.Blocked alive is fits last = quiet_stepped terms settings calls a (Took down.Blocked alive) now talk (Greeting lost) (other_calm terms calls a now down.Blocked alive refl refl) refl is talks fits
    greeting_stepped lost few (down.Refused cause) alive is fits last = quiet_stepped terms settings calls a (Took (down.Refused cause) alive) now talk (Greeting lost) (other_calm terms calls a now (down.Refused cause) alive refl refl) refl is talks fits

    asked_stepped : (state : Asking) (frame : Down) (alive : Bool) → talk.phase ≡ Asked state → Fits terms calls a false (Asked state)
        → Stepped terms settings calls a (Took frame alive) now (takes terms talk (Asked state) frame alive now)
    asked_stepped state (down.Hello ltxid) alive is fits =
        bad_stepped terms settings calls a (down.Hello ltxid) alive now talk (hears terms a (Took (down.Hello ltxid) alive) now None) refl (tracked_few terms settings calls a state.track fits.0.tracked) (ap (λ l. is_expected l (down.Hello ltxid)) fits.1.last)
    asked_stepped state (down.Reply answers draws ltxid) alive is fits =
        bad_stepped terms settings calls a (down.Reply answers draws ltxid) alive now talk (hears terms a (Took (down.Reply answers draws ltxid) alive) now None) refl (tracked_few terms settings calls a state.track fits.0.tracked) (ap (λ l. is_expected l (down.Reply answers draws ltxid)) fits.1.last)
    asked_stepped state (down.OutcomeIs committed completed) alive is fits = outcome_stepped terms settings calls a state alive now talk talks fits committed completed
    asked_stepped state (down.OutcomeRefused ahead.Forgotten horizon) alive is fits = record {
      shown = None;
      as_shown = λ one e. absurd (let none : ⊥ = cc in none);
      heard = a;
      is_heard = refl;
      good = fails_good terms settings calls (Took (down.OutcomeRefused ahead.Forgotten horizon) alive) now a talk alive None (Unknown state.ltxid)
          (tracked_few terms settings calls a state.track fits.0.tracked)
          (record { horizon = horizon; alive = alive; taken = refl; asked = fits.1.last; held = fits.0.held });
    }
    asked_stepped state (down.OutcomeRefused ahead.Server next) alive is fits =
        bad_stepped terms settings calls a (down.OutcomeRefused ahead.Server next) alive now talk a refl (tracked_few terms settings calls a state.track fits.0.tracked) (ap (λ l. is_expected l (down.OutcomeRefused ahead.Server next)) fits.1.last)
    asked_stepped state (down.OutcomeRefused ahead.Client next) alive is fits =
        bad_stepped terms settings calls a (down.OutcomeRefused ahead.Client next) alive now talk a refl (tracked_few terms settings calls a state.track fits.0.tracked) (ap (λ l. is_expected l (down.OutcomeRefused ahead.Client next)) fits.1.last)
    asked_stepped state down.Blocked alive is fits = quiet_stepped terms settings calls a (Took down.Blocked alive) now talk (Asked state) (other_calm terms calls a now down.Blocked alive refl refl) refl is talks fits
    asked_stepped state (down.Refused cause) alive is fits = quiet_stepped terms settings calls a (Took (down.Refused cause) alive) now talk (Asked state) (other_calm terms calls a now (down.Refused cause) alive refl refl) refl is talks fits

    running_stepped : (state : Living) (frame : Down) (alive : Bool) → talk.phase ≡ Running state → Fits terms calls a false (Running state)
        → Stepped terms settings calls a (Took frame alive) now (takes terms talk (Running state) frame alive now)
    running_stepped state (down.Hello ltxid) alive is fits =
        bad_stepped terms settings calls a (down.Hello ltxid) alive now talk (hears terms a (Took (down.Hello ltxid) alive) now None) refl (tracked_few terms settings calls a state.track fits.0.tracked) (ap (λ l. is_expected l (down.Hello ltxid)) (fits.1 refl).sent.is)
    running_stepped state (down.Reply answers draws ltxid) alive is fits = reply_stepped terms settings calls a state answers draws ltxid alive now talk talks fits (next_call talk) refl
    running_stepped state (down.OutcomeIs committed completed) alive is fits =
        bad_stepped terms settings calls a (down.OutcomeIs committed completed) alive now talk a (ap (hears_outcome a committed completed) (fits.1 refl).sent.is) (tracked_few terms settings calls a state.track fits.0.tracked) (ap (λ l. is_expected l (down.OutcomeIs committed completed)) (fits.1 refl).sent.is)
    running_stepped state (down.OutcomeRefused ahead next) alive is fits =
        bad_stepped terms settings calls a (down.OutcomeRefused ahead next) alive now talk a refl (tracked_few terms settings calls a state.track fits.0.tracked) (ap (λ l. is_expected l (down.OutcomeRefused ahead next)) (fits.1 refl).sent.is)
    running_stepped state down.Blocked alive is fits = quiet_stepped terms settings calls a (Took down.Blocked alive) now talk (Running state) (other_calm terms calls a now down.Blocked alive refl refl) refl is talks fits
    running_stepped state (down.Refused cause) alive is fits = quiet_stepped terms settings calls a (Took (down.Refused cause) alive) now talk (Running state) (other_calm terms calls a now (down.Refused cause) alive refl refl) refl is talks fits

    replaying_stepped : (state : Repeating) (frame : Down) (alive : Bool) → talk.phase ≡ Replaying state → Fits terms calls a false (Replaying state)
        → Stepped terms settings calls a (Took frame alive) now (takes terms talk (Replaying state) frame alive now)
    replaying_stepped state (down.Hello ltxid) alive is fits =
        bad_stepped terms settings calls a (down.Hello ltxid) alive now talk (hears terms a (Took (down.Hello ltxid) alive) now None) refl (tracked_few terms settings calls a state.track fits.0.tracked) (ap (λ l. is_expected l (down.Hello ltxid)) (fits.3 refl).is)
    replaying_stepped state (down.Reply answers draws ltxid) alive is fits = repeated_stepped terms settings calls a state answers draws ltxid alive now talk talks fits (next_of state) refl
    replaying_stepped state (down.OutcomeIs committed completed) alive is fits =
        bad_stepped terms settings calls a (down.OutcomeIs committed completed) alive now talk a (ap (hears_outcome a committed completed) (fits.3 refl).is) (tracked_few terms settings calls a state.track fits.0.tracked) (ap (λ l. is_expected l (down.OutcomeIs committed completed)) (fits.3 refl).is)
    replaying_stepped state (down.OutcomeRefused ahead next) alive is fits =
        bad_stepped terms settings calls a (down.OutcomeRefused ahead next) alive now talk a refl (tracked_few terms settings calls a state.track fits.0.tracked) (ap (λ l. is_expected l (down.OutcomeRefused ahead next)) (fits.3 refl).is)
    replaying_stepped state down.Blocked alive is fits = quiet_stepped terms settings calls a (Took down.Blocked alive) now talk (Replaying state) (other_calm terms calls a now down.Blocked alive refl refl) refl is talks fits
    replaying_stepped state (down.Refused cause) alive is fits = quiet_stepped terms settings calls a (Took (down.Refused cause) alive) now talk (Replaying state) (other_calm terms calls a now (down.Refused cause) alive refl refl) refl is talks fits

    took_by : (frame : Down) (alive : Bool) (phase : Phase) → talk.phase ≡ phase → Fits terms calls a false phase → is_wanted (wants_in terms talk phase now) (Took frame alive) ≡ true
        → Stepped terms settings calls a (Took frame alive) now (takes terms talk phase frame alive now)
    took_by frame alive Idle is fits w = absurd (let none : ⊥ = cc in none)
    took_by frame alive Unbegun is fits w = absurd (let none : ⊥ = cc in none)
    took_by frame alive (Queued from) is fits w = absurd (let none : ⊥ = cc in none)
    took_by frame alive (Seeking lost) is fits w =
        let never : is_try (Took frame alive) ≡ true = seeks (has_waited talk.last_try now terms.limits.delay) (Took frame alive) w in
        absurd (let none : ⊥ = cc in none)
    took_by frame alive (Greeting None) is fits w = greeting_stepped None (fresh_few terms settings calls a fits.0) frame alive is fits (fits.1 refl)
    took_by frame alive (Greeting (Some lost)) is fits w = greeting_stepped (Some lost) (tracked_few terms settings calls a lost.track fits.0.tracked) frame alive is fits (fits.1 refl)
    took_by frame alive (Asked state) is fits w = asked_stepped state frame alive is fits
    took_by frame alive (Running state) is fits w = running_stepped state frame alive is fits
    took_by frame alive (Replaying state) is fits w = replaying_stepped state frame alive is fits

  -- INPUTS
  module _ (a : Account) (gone : Bool) (now : ℕ) (talk : Talk) (talks : is_idle talk.phase ≡ false → IsTalk terms settings calls a talk) where
    start_by : (phase : Phase) → talk.phase ≡ phase → Fits terms calls a gone phase → is_wanted (wants_in terms talk phase now) Start ≡ true
        → Stepped terms settings calls a Start now (talk_step terms talk Start now)
    start_by Unbegun is fits w = start_stepped terms settings calls a now talk (talks (ap is_idle is)) fits
    start_by (Seeking lost) is fits w = let never : is_try Start ≡ true = seeks (has_waited talk.last_try now terms.limits.delay) Start w in absurd (let none : ⊥ = cc in none)
    start_by _ is fits w = absurd (let none : ⊥ = cc in none)

    waiting_by : (phase : Phase) → talk.phase ≡ phase → Fits terms calls a gone phase → is_wanted (wants_in terms talk phase now) Waiting ≡ true
        → Stepped terms settings calls a Waiting now (talk_step terms talk Waiting now)
    waiting_by (Queued from) is fits w =
        subst (λ n. Stepped terms settings calls a Waiting now (on_waiting terms talk n now)) (sym (ap (λ p. waits_from p now) is))
        (waiting_stepped terms settings calls a from now talk (talks (ap is_idle is)) fits)
    waiting_by (Seeking lost) is fits w = let never : is_try Waiting ≡ true = seeks (has_waited talk.last_try now terms.limits.delay) Waiting w in absurd (let none : ⊥ = cc in none)
    waiting_by _ is fits w = absurd (let none : ⊥ = cc in none)

    lent_by : (connection : ℕ) (ltxid : _) (phase : Phase) → talk.phase ≡ phase → Fits terms calls a gone phase → is_wanted (wants_in terms talk phase now) (Lent connection ltxid) ≡ true
        → Stepped terms settings calls a (Lent connection ltxid) now (talk_step terms talk (Lent connection ltxid) now)
    lent_by connection ltxid (Queued from) is fits w = lent_stepped terms settings calls a from now talk (talks (ap is_idle is)) fits connection ltxid
    lent_by connection ltxid (Seeking lost) is fits w = let never : is_try (Lent connection ltxid) ≡ true = seeks (has_waited talk.last_try now terms.limits.delay) (Lent connection ltxid) w in absurd (let none : ⊥ = cc in none)
    lent_by connection ltxid _ is fits w = absurd (let none : ⊥ = cc in none)

    opened_by : (connection : ℕ) (phase : Phase) → talk.phase ≡ phase → Fits terms calls a gone phase → is_wanted (wants_in terms talk phase now) (Opened connection) ≡ true
        → Stepped terms settings calls a (Opened connection) now (talk_step terms talk (Opened connection) now)
    opened_by connection (Queued from) is fits w = opened_stepped terms settings calls a connection now talk None (ap lost_of is) (talks (ap is_idle is)) fits.0
    opened_by connection (Seeking None) is fits w = opened_stepped terms settings calls a connection now talk None (ap lost_of is) (talks (ap is_idle is)) fits
    opened_by connection (Seeking (Some lost)) is fits w = opened_stepped terms settings calls a connection now talk (Some lost) (ap lost_of is) (talks (ap is_idle is)) fits
    opened_by connection _ is fits w = absurd (let none : ⊥ = cc in none)

    tried_by : (phase : Phase) → talk.phase ≡ phase → Fits terms calls a gone phase → is_wanted (wants_in terms talk phase now) TryFailed ≡ true
        → Stepped terms settings calls a TryFailed now (talk_step terms talk TryFailed now)
    tried_by (Queued from) is fits w = tried_stepped terms settings calls a now talk None (ap lost_of is) (talks (ap is_idle is)) fits.0
    tried_by (Seeking None) is fits w = tried_stepped terms settings calls a now talk None (ap lost_of is) (talks (ap is_idle is)) fits
    tried_by (Seeking (Some lost)) is fits w = tried_stepped terms settings calls a now talk (Some lost) (ap lost_of is) (talks (ap is_idle is)) fits
    tried_by _ is fits w = absurd (let none : ⊥ = cc in none)

    unidle : (phase : Phase) (input : Input) → is_wanted (wants_in terms talk phase now) input ≡ true → is_idle phase ≡ false
    unidle Idle input w = absurd (let none : ⊥ = cc in none)
    unidle Unbegun input w = refl
    unidle (Queued from) input w = refl
    unidle (Seeking lost) input w = refl
    unidle (Greeting lost) input w = refl
    unidle (Asked state) input w = refl
    unidle (Running state) input w = refl
    unidle (Replaying state) input w = refl

    connected : (event : ℕ) (phase : Phase) → is_wanted (wants_in terms talk phase now) (Gone event) ≡ true → has_connection phase ≡ true
    connected event (Seeking lost) w = let never : is_try (Gone event) ≡ true = seeks (has_waited talk.last_try now terms.limits.delay) (Gone event) w in absurd (let none : ⊥ = cc in none)
    connected event (Greeting lost) w = refl
    connected event (Asked state) w = refl
    connected event (Running state) w = refl
    connected event (Replaying state) w = refl
    connected event _ w = absurd (let none : ⊥ = cc in none)

    pub step_stepped : (input : Input) → Fits terms calls a gone talk.phase → may_come gone (wants_in terms talk talk.phase now) input ≡ true
        → Stepped terms settings calls a input now (talk_step terms talk input now)
    step_stepped Start fits may = start_by talk.phase refl fits (and_left (is_wanted (wants_in terms talk talk.phase now) Start) (false || not gone) may)
    step_stepped Waiting fits may = waiting_by talk.phase refl fits (and_left (is_wanted (wants_in terms talk talk.phase now) Waiting) (false || not gone) may)
    step_stepped (Lent connection ltxid) fits may = lent_by connection ltxid talk.phase refl fits (and_left (is_wanted (wants_in terms talk talk.phase now) (Lent connection ltxid)) (false || not gone) may)
    step_stepped (Opened connection) fits may = opened_by connection talk.phase refl fits (and_left (is_wanted (wants_in terms talk talk.phase now) (Opened connection)) (false || not gone) may)
    step_stepped TryFailed fits may = tried_by talk.phase refl fits (and_left (is_wanted (wants_in terms talk talk.phase now) TryFailed) (false || not gone) may)
    step_stepped (Took frame alive) fits may =
        let w : is_wanted (wants_in terms talk talk.phase now) (Took frame alive) ≡ true = and_left (is_wanted (wants_in terms talk talk.phase now) (Took frame alive)) (false || not gone) may in
        let still : gone ≡ false = not_gone gone (and_right (is_wanted (wants_in terms talk talk.phase now) (Took frame alive)) (false || not gone) may) in
        took_by a now talk (talks (unidle talk.phase (Took frame alive) w)) frame alive talk.phase refl (subst (λ g. Fits terms calls a g talk.phase) still fits) w
    step_stepped (Gone event) fits may =
        let w : is_wanted (wants_in terms talk talk.phase now) (Gone event) ≡ true = and_left (is_wanted (wants_in terms talk talk.phase now) (Gone event)) (true || not gone) may in
        gone_stepped terms settings calls a event now gone talk (talks (unidle talk.phase (Gone event) w)) (connected event talk.phase w) fits

  -- what was known where the frames of the step were sent
  pub heard_is : (a : Account) (input : Input) (now : ℕ) (step : Step) (s : Stepped terms settings calls a input now step)
      → before_sends terms calls a (record { input = input; now = now; act = step.1 }) ≡ s.heard
  heard_is a input now step s = ap (λ (o : Option Shown). shows terms calls (hears terms a input now o) o) s.good.shows ∙ s.is_heard

  pub next_fits : (a : Account) (input : Input) (now : ℕ) (step : Step) (s : Stepped terms settings calls a input now step)
      → Fits terms calls (after_step terms calls a (record { input = input; now = now; act = step.1 })) (is_gone_next input step.1.hold) step.0.phase
  next_fits a input now step s = subst (λ h. Fits terms calls (fold (sends terms now) h step.1.send) (is_gone_next input step.1.hold) step.0.phase) (sym (heard_is a input now step s)) s.good.fits

  pub next_talks : (a : Account) (input : Input) (now : ℕ) (step : Step) (s : Stepped terms settings calls a input now step)
      → is_idle step.0.phase ≡ false → IsTalk terms settings calls (after_step terms calls a (record { input = input; now = now; act = step.1 })) step.0
  next_talks a input now step s e = subst (λ h. IsTalk terms settings calls (fold (sends terms now) h step.1.send) step.0) (sym (heard_is a input now step s)) (s.good.talks e)

  -- what is so at each good step is so at each step of a conversation
  module _ (P : Account → Done → Type 0)
      (from : (input : Input) (now : ℕ) (shown : Option Shown) (heard : Account) (step : Step) → Good terms settings calls input now shown heard step → P heard (record { input = input; now = now; act = step.1 })) where
    pub each_step : (inputs : List Timed) (a : Account) (gone : Bool) (talk : Talk) → (is_idle talk.phase ≡ false → IsTalk terms settings calls a talk) → Fits terms calls a gone talk.phase
        → MayCome terms talk gone inputs → EachStep P terms calls a (steps_of terms talk inputs)
    each_step [] a gone talk talks fits may = tt
    each_step (one ∷ inputs) a gone talk talks fits may =
        let step : Step = talk_step terms talk one.0 one.1 in
        let s : Stepped terms settings calls a one.0 one.1 step = step_stepped a gone one.1 talk talks one.0 fits may.0 in (
          subst (λ h. P h (done_at terms talk one)) (sym (heard_is a one.0 one.1 step s)) (from one.0 one.1 s.shown s.heard step s.good),
          each_step inputs (after_step terms calls a (done_at terms talk one)) (is_gone_next one.0 step.1.hold) step.0 (next_talks a one.0 one.1 step s) (next_fits a one.0 one.1 step s) may.1,
        )

  -- where a conversation stands in the end
  pub last_fits : (inputs : List Timed) (a : Account) (gone : Bool) (talk : Talk) → (is_idle talk.phase ≡ false → IsTalk terms settings calls a talk) → Fits terms calls a gone talk.phase
      → MayCome terms talk gone inputs
      → (last : Bool) × Fits terms calls (fold (after_step terms calls) a (steps_of terms talk inputs)) last (talk_after terms talk inputs).phase
  last_fits [] a gone talk talks fits may = (gone, fits)
  last_fits (one ∷ inputs) a gone talk talks fits may =
      let step : Step = talk_step terms talk one.0 one.1 in
      let s : Stepped terms settings calls a one.0 one.1 step = step_stepped a gone one.1 talk talks one.0 fits may.0 in
      last_fits inputs (after_step terms calls a (done_at terms talk one)) (is_gone_next one.0 step.1.hold) step.0 (next_talks a one.0 one.1 step s) (next_fits a one.0 one.1 step s) may.1

  -- and what is left of it, while it is not idle
  pub last_talks : (inputs : List Timed) (a : Account) (gone : Bool) (talk : Talk) → (is_idle talk.phase ≡ false → IsTalk terms settings calls a talk) → Fits terms calls a gone talk.phase
      → MayCome terms talk gone inputs
      → is_idle (talk_after terms talk inputs).phase ≡ false → IsTalk terms settings calls (fold (after_step terms calls) a (steps_of terms talk inputs)) (talk_after terms talk inputs)
  last_talks [] a gone talk talks fits may = talks
  last_talks (one ∷ inputs) a gone talk talks fits may =
      let step : Step = talk_step terms talk one.0 one.1 in
      let s : Stepped terms settings calls a one.0 one.1 step = step_stepped a gone one.1 talk talks one.0 fits may.0 in
      last_talks inputs (after_step terms calls a (done_at terms talk one)) (is_gone_next one.0 step.1.hold) step.0 (next_talks a one.0 one.1 step s) (next_fits a one.0 one.1 step s) may.1

  keeps_none : (keeps : Bool) (all : List (List ℕ × Value)) → all ≡ (if keeps then all else all)
  keeps_none true all = refl
  keeps_none false all = refl

  pub first_talks : IsTalk terms settings calls unheard (requested settings calls)
  first_talks = record { settings_are = keeps_none terms.rules.keeps settings; sets_are = keeps_none terms.rules.keeps settings; left_are = refl; tries_are = refl; few_tries = λ some. let z : 0 < terms.limits.retries = omega arith in z }

  fits_few : (a : Account) (gone : Bool) (phase : Phase) → Fits terms calls a gone phase → Few terms a
  fits_few a gone Idle f = f
  fits_few a gone Unbegun f = subst (λ b. Few terms b) (sym f) (let z : 0 ≤ terms.limits.replays + 1 = omega arith in z)
  fits_few a gone (Queued from) f = fresh_few terms settings calls a f.0
  fits_few a gone (Seeking None) f = fresh_few terms settings calls a f
  fits_few a gone (Seeking (Some lost)) f = tracked_few terms settings calls a lost.track f.tracked
  fits_few a gone (Greeting None) f = fresh_few terms settings calls a f.0
  fits_few a gone (Greeting (Some lost)) f = tracked_few terms settings calls a lost.track f.0.tracked
  fits_few a gone (Asked state) f = tracked_few terms settings calls a state.track f.0.tracked
  fits_few a gone (Running state) f = tracked_few terms settings calls a state.track f.0.tracked
  fits_few a gone (Replaying state) f = tracked_few terms settings calls a state.track f.0.tracked

  kept_of : (a : Account) (k track : Track) → Tracked terms calls a k → Some k ≡ Some track → IsKept calls a track
  kept_of a k track t e =
      let same : k ≡ track = cc in
      subst (λ m. IsKept calls a m) same (record { call = t.call; why = t.why; recorded = t.recorded; replays = t.replays; first = t.first; set_shown = t.set_shown })

  fits_kept : (a : Account) (gone : Bool) (phase : Phase) (track : Track) → Fits terms calls a gone phase → track_of phase ≡ Some track → IsKept calls a track
  fits_kept a gone Idle track f e = absurd (let none : ⊥ = cc in none)
  fits_kept a gone Unbegun track f e = absurd (let none : ⊥ = cc in none)
  fits_kept a gone (Queued from) track f e = absurd (let none : ⊥ = cc in none)
  fits_kept a gone (Seeking None) track f e = absurd (let none : ⊥ = cc in none)
  fits_kept a gone (Seeking (Some lost)) track f e = kept_of a lost.track track f.tracked e
  fits_kept a gone (Greeting None) track f e = absurd (let none : ⊥ = cc in none)
  fits_kept a gone (Greeting (Some lost)) track f e = kept_of a lost.track track f.0.tracked e
  fits_kept a gone (Asked state) track f e = kept_of a state.track track f.0.tracked e
  fits_kept a gone (Running state) track f e = kept_of a state.track track f.0.tracked e
  fits_kept a gone (Replaying state) track f e = kept_of a state.track track f.0.tracked e

-- THE LAWS
pub replays_only_verified : ReplaysOnlyVerified
replays_only_verified terms settings calls inputs may =
    each_step terms settings calls (λ heard done. MaySendAll calls heard done.act.send) (λ input now shown heard step good. good.may) inputs unheard false (requested settings calls) (λ e. first_talks terms settings calls) refl may

pub fails_for_cause : FailsForCause
fails_for_cause terms settings calls inputs may =
    each_step terms settings calls (λ heard done. HasCause terms calls heard done) (λ input now shown heard step good. good.caused) inputs unheard false (requested settings calls) (λ e. first_talks terms settings calls) refl may

pub begins_known : BeginsKnown
begins_known terms settings calls inputs may =
    each_step terms settings calls (λ heard done. BegunWith (settings_known terms settings calls heard) done.act.send) (λ input now shown heard step good. good.begun) inputs unheard false (requested settings calls) (λ e. first_talks terms settings calls) refl may

pub few_replays : FewReplays
few_replays terms settings calls inputs may =
    let l : (last : Bool) × Fits terms calls (fold (after_step terms calls) unheard (steps_of terms (requested settings calls) inputs)) last (talk_after terms (requested settings calls) inputs).phase =
    last_fits terms settings calls inputs unheard false (requested settings calls) (λ e. first_talks terms settings calls) refl may in
    fits_few terms settings calls (account_of terms calls (steps_of terms (requested settings calls) inputs)) l.0 (talk_after terms (requested settings calls) inputs).phase l.1

pub keeps_what_is_told : KeepsWhatIsTold
keeps_what_is_told terms settings calls inputs track may is =
    let l : (last : Bool) × Fits terms calls (fold (after_step terms calls) unheard (steps_of terms (requested settings calls) inputs)) last (talk_after terms (requested settings calls) inputs).phase =
    last_fits terms settings calls inputs unheard false (requested settings calls) (λ e. first_talks terms settings calls) refl may in
    fits_kept terms settings calls (account_of terms calls (steps_of terms (requested settings calls) inputs)) l.0 (talk_after terms (requested settings calls) inputs).phase track l.1 is

pub releases_rightly : ReleasesRightly
releases_rightly terms settings calls inputs may =
    each_step terms settings calls (λ heard done. HoldsBy done.act.hold done.act.failed done.act.send) (λ input now shown heard step good. good.holds) inputs unheard false (requested settings calls) (λ e. first_talks terms settings calls) refl may

-- where a line holds the step shows its error
fails_where : (terms : Terms) (settings : List (List ℕ × Value)) (calls : List Call) (input : Input) (now : ℕ) (shown : Option Shown) (heard : Account) (step : Step) → Good terms settings calls input now shown heard step
    → (found : Option Failed) → step.1.failed ≡ found → (failed : Failed) → IsCaused terms calls heard input now failed → found ≡ Some failed
fails_where terms settings calls input now shown heard step good None none failed cause = absurd (good.calm none failed cause)
fails_where terms settings calls input now shown heard step good (Some one) is failed cause = ap Some (has_one_cause terms calls heard input now one failed (good.caused one is) cause)

pub fails_at_cause : FailsAtCause
fails_at_cause terms settings calls inputs may =
    each_step terms settings calls (λ heard done. FailsWhere terms calls heard done) (λ input now shown heard step good failed cause. fails_where terms settings calls input now shown heard step good step.1.failed refl failed cause) inputs unheard false (requested settings calls) (λ e. first_talks terms settings calls) refl may
