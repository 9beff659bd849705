-- Inputs of slots and connections.
use Rattle.std.proofs.Common.{◌≡◌, inl, ℕ, ◌+◌, ◌-◌, ◌≤◌, ◌<◌, Bool, true, false, List, Option, Some, None, if◌then◌else◌, refl, sym, ap, subst, ◌∙◌, arith, nat_le}
use Rattle.std.specs.Prelude.{unwrap_or}
use Rattle.std.specs.Option.{option_or}
use Rattle.std.proofs.lemmas.Bool.Decides.{nat_tests}
use Rattle.svc_values.specs.declared.value.Value.{Value}
use Rattle.svc_values.specs.declared.call.Call.{Call}
use Rattle.svc_values.specs.declared.entry.Ltxid.{Ltxid}
use Rattle.svc_values.specs.declared.frame.Up.TheVariants as up
use Rattle.client_model.specs.declared.track.Track.{Track}
use Rattle.client_model.specs.meaning.States.{Losing}
use Rattle.client_model.specs.declared.input.Input.TheVariants.{Start, Waiting, Lent, Opened, TryFailed, Gone}
use Rattle.client_model.specs.declared.act.Failed.TheVariants.{Retries, PoolWait}
use Rattle.client_model.specs.meaning.Terms.{Terms, Talk, Phase, Idle, Unbegun, Queued, Seeking, Greeting, Asked, Running, Replaying, unsubmitted}
use Rattle.client_model.specs.meaning.Talk.{stands, quiet, fails, lost_of, loses, with_tried, on_waiting, on_try_failed, talk_step}
use Rattle.client_model.specs.meaning.Account.{Account, session_of}
use Rattle.client_model.proofs.Fits.{Fresh, Holds, Few, Fits, IsTalk, Good, Calm}
use Rattle.client_model.proofs.Calming.{plain_calm, input_calm}
use Rattle.client_model.proofs.Sending.{fails_good}
use Rattle.client_model.proofs.Going.{tracked_same, tracked_few, talk_same, begins_first_good}
use Rattle.client_model.proofs.Stepped.{Stepped, fresh_few, fresh_same, holds_same, unsubmitted_tracked}

le_true : (a b : ℕ) → nat_le a b ≡ true → a ≤ b
le_true a b e = grind (arith, nat_tests)

le_false : (a b : ℕ) → nat_le a b ≡ false → b < a
le_false a b e = grind (arith, nat_tests)

-- the first tick, where there may be one before
waits_or : (from : Option ℕ) (now : ℕ) → option_or from (Some now) ≡ Some (unwrap_or from now)
waits_or None now = refl
waits_or (Some tick) now = refl

-- the request has a connection
abbrev pub has_connection : Phase → Bool
has_connection (Greeting lost) = true
has_connection (Asked state) = true
has_connection (Running state) = true
has_connection (Replaying state) = true
has_connection _ = false

module _ (terms : Terms) (settings : List (List ℕ × Value)) (calls : List Call) where
  -- the rest of a talk, in another phase
  talk_in : (a b : Account) (talk : Talk) (phase : Phase) → b.shown ≡ a.shown → b.purged ≡ a.purged → b.tries ≡ a.tries → IsTalk terms settings calls a talk → IsTalk terms settings calls b (stands talk phase)
  talk_in a b talk phase e-shown e-purged e-tries t =
      let s : IsTalk terms settings calls b talk = talk_same terms settings calls a b talk e-shown e-purged e-tries t in
      record { settings_are = s.settings_are; sets_are = s.sets_are; left_are = s.left_are; tries_are = s.tries_are; few_tries = s.few_tries }

  pub start_stepped : (a : Account) (now : ℕ) (talk : Talk) → IsTalk terms settings calls a talk → Fits terms calls a false Unbegun
      → Stepped terms settings calls a Start now (talk_step terms talk Start now)
  start_stepped a now talk talks fits = record {
    shown = None;
    as_shown = λ one e. absurd (let none : ⊥ = cc in none);
    heard = a;
    is_heard = refl;
    good = record {
      shows = refl;
      fits = (
        record {
          shown = ap (λ b. b.shown) fits;
          since = ap (λ b. b.since_purge) fits;
          purged = ap (λ b. b.purged) fits;
          first = ap (λ b. b.first) fits;
          reason = ap (λ b. b.reason) fits;
          outcomes = ap (λ b. b.outcomes) fits;
          begun = ap (λ b. b.begun) fits;
        },
        ap (λ b. b.slot) fits,
        ap (λ b. b.waits) fits,
      );
      talks = λ e. talk_in a a talk (Queued None) refl refl refl talks;
      may = tt;
      begun = tt;
      begins = λ b. inl b;
      holds = refl;
      calm = λ none. plain_calm terms calls a now Start refl;
      caused = λ f e. absurd (let none : ⊥ = cc in none);
    };
  }

  -- Waiting
  module _ (a : Account) (from : Option ℕ) (now : ℕ) (talk : Talk) (talks : IsTalk terms settings calls a talk) (fits : Fits terms calls a false (Queued from)) where
    abbrev waited : Account
    waited = record a { waits = option_or a.waits (Some now) }

    waits : waited.waits ≡ Some (unwrap_or from now)
    waits = ap (λ (o : Option ℕ). option_or o (Some now)) fits.2 ∙ waits_or from now

    fresh_waited : Fresh terms waited
    fresh_waited = fresh_same terms settings calls a waited refl refl refl refl refl refl refl fits.0

    waiting_calm : nat_le terms.limits.wait (now - unwrap_or from now) ≡ false → Calm terms calls waited Waiting now
    waiting_calm short = input_calm terms calls waited now Waiting refl (λ tries c. let e : Waiting ≡ TryFailed = c.failed in let no : ⊥ = cc in no)
        (λ first until c.
        let same : Some first ≡ Some (unwrap_or from now) = sym c.is_first ∙ waits in
        let e : first ≡ unwrap_or from now = cc in
        let f : until ≡ now = c.is_now in
        let l : terms.limits.wait ≤ until - first = c.long in
        let g : now - unwrap_or from now < terms.limits.wait = le_false terms.limits.wait (now - unwrap_or from now) short in
        let m : until - first ≡ now - unwrap_or from now = cc in
        let no : ⊥ = omega arith in no)

    waiting_good : (long : Bool) → nat_le terms.limits.wait (now - unwrap_or from now) ≡ long
        → Good terms settings calls Waiting now None waited
        (if long then fails talk false None (PoolWait (unwrap_or from now) now) else (stands talk (Queued (Some (unwrap_or from now))), quiet))
    waiting_good true long = fails_good terms settings calls Waiting now waited talk false None (PoolWait (unwrap_or from now) now)
        (fresh_few terms settings calls waited fresh_waited)
        (record { waits = refl; no_slot = fits.1; is_first = waits; is_now = refl; long = le_true terms.limits.wait (now - unwrap_or from now) long })
    waiting_good false long = record {
      shows = refl;
      fits = (fresh_waited, fits.1, waits);
      talks = λ e. talk_in a waited talk (Queued (Some (unwrap_or from now))) refl refl refl talks;
      may = tt;
      begun = tt;
      begins = λ b. inl b;
      holds = refl;
      calm = λ none. waiting_calm long;
      caused = λ f e. absurd (let none : ⊥ = cc in none);
    }

    pub waiting_stepped : Stepped terms settings calls a Waiting now (on_waiting terms talk (unwrap_or from now) now)
    waiting_stepped = record { shown = None; as_shown = λ one e. absurd (let none : ⊥ = cc in none); heard = waited; is_heard = refl; good = waiting_good (nat_le terms.limits.wait (now - unwrap_or from now)) refl }

    pub lent_stepped : (connection : ℕ) (ltxid : Ltxid) → Stepped terms settings calls a (Lent connection ltxid) now (talk_step terms talk (Lent connection ltxid) now)
    lent_stepped connection ltxid =
        let b : Account = record a { slot = true; session = session_of (Some ltxid) } in
        let f : Fresh terms b = fresh_same terms settings calls a b refl refl refl refl refl refl refl fits.0 in
        record {
          shown = None;
          as_shown = λ one e. absurd (let none : ⊥ = cc in none);
          heard = b;
          is_heard = refl;
          good = begins_first_good terms settings calls (Lent connection ltxid) now b talk (record { track = unsubmitted terms; ltxid = ltxid })
              f.begun (fresh_few terms settings calls b f) (talk_same terms settings calls a b talk refl refl refl talks) (unsubmitted_tracked terms settings calls b f) refl (plain_calm terms calls b now (Lent connection ltxid) refl);
        }

  -- what holds where a slot is held or granted: nothing was begun, or something is lost
  abbrev Lost : Account → Option Losing → Type 0
  Lost a None = Fresh terms a
  Lost a (Some lost) = Holds terms calls a lost.track lost.ltxid (Some lost.event)

  lost_same : (a b : Account) (lost : Option Losing) → b.shown ≡ a.shown → b.since_purge ≡ a.since_purge → b.purged ≡ a.purged → b.first ≡ a.first → b.reason ≡ a.reason → b.outcomes ≡ a.outcomes → b.begun ≡ a.begun → b.held ≡ a.held → b.ended ≡ a.ended
      → Lost a lost → Lost b lost
  lost_same a b None e1 e2 e3 e4 e5 e6 e7 e8 e9 l = fresh_same terms settings calls a b e1 e2 e3 e4 e5 e6 e7 l
  lost_same a b (Some lost) e1 e2 e3 e4 e5 e6 e7 e8 e9 l = holds_same terms settings calls a b lost.track lost.ltxid (Some lost.event) e1 e5 e2 e6 e4 e7 e8 e9 l

  lost_few : (a : Account) (lost : Option Losing) → Lost a lost → Few terms a
  lost_few a None l = fresh_few terms settings calls a l
  lost_few a (Some lost) l = tracked_few terms settings calls a lost.track l.tracked

  greeting_fits : (a : Account) (lost : Option Losing) (gone : Bool) → Lost a lost → a.last ≡ Some up.Connect → Fits terms calls a gone (Greeting lost)
  greeting_fits a None gone l e = (l, λ g. e)
  greeting_fits a (Some lost) gone l e = (l, λ g. e)

  seeking_fits : (a : Account) (lost : Option Losing) (gone : Bool) → Lost a lost → Fits terms calls a gone (Seeking lost)
  seeking_fits a None gone l = l
  seeking_fits a (Some lost) gone l = l

  pub opened_stepped : (a : Account) (connection now : ℕ) (talk : Talk) (lost : Option Losing) → lost_of talk.phase ≡ lost → IsTalk terms settings calls a talk → Lost a lost
      → Stepped terms settings calls a (Opened connection) now (talk_step terms talk (Opened connection) now)
  opened_stepped a connection now talk lost is talks l =
      let b : Account = record a { slot = true; tries = 0 } in
      let c : Account = record b { last = Some up.Connect } in
      record {
        shown = None;
        as_shown = λ one e. absurd (let none : ⊥ = cc in none);
        heard = b;
        is_heard = refl;
        good = record {
          shows = refl;
          fits = subst (λ o. Fits terms calls c false (Greeting o)) (sym is) (greeting_fits c lost false (lost_same a c lost refl refl refl refl refl refl refl refl refl l) refl);
          talks = λ e. record {
            settings_are = talks.settings_are;
            sets_are = talks.sets_are;
            left_are = talks.left_are;
            tries_are = refl;
            few_tries = λ some. let z : 0 < terms.limits.retries = omega arith in z;
          };
          may = tt;
          begun = tt;
          begins = λ b. inl b;
          holds = refl;
          calm = λ none. plain_calm terms calls b now (Opened connection) refl;
          caused = λ f e. absurd (let none : ⊥ = cc in none);
        };
      }

  -- TryFailed
  module _ (a : Account) (now : ℕ) (talk : Talk) (lost : Option Losing) (is : lost_of talk.phase ≡ lost) (talks : IsTalk terms settings calls a talk) (l : Lost a lost) where
    abbrev tried : Account
    tried = record a { slot = true; tries = a.tries + 1 }

    tried_calm : nat_le terms.limits.retries (talk.tries + 1) ≡ false → Calm terms calls tried TryFailed now
    tried_calm few = input_calm terms calls tried now TryFailed refl
        (λ tries c.
        let e : tries ≡ a.tries + 1 = c.in_a_row in
        let f : talk.tries ≡ a.tries = talks.tries_are in
        let m : terms.limits.retries ≤ tries = c.many in
        let g : talk.tries + 1 < terms.limits.retries = le_false terms.limits.retries (talk.tries + 1) few in
        let no : ⊥ = omega arith in no)
        (λ first until c. let e : TryFailed ≡ Waiting = c.waits in let no : ⊥ = cc in no)

    tried_good : (many : Bool) → nat_le terms.limits.retries (talk.tries + 1) ≡ many
        → Good terms settings calls TryFailed now None tried
        (if many then fails (with_tried talk now) false None (Retries (talk.tries + 1)) else (stands (with_tried talk now) (Seeking (lost_of talk.phase)), quiet))
    tried_good true many = fails_good terms settings calls TryFailed now tried (with_tried talk now) false None (Retries (talk.tries + 1)) (lost_few a lost l)
        (record {
          failed = refl;
          in_a_row = ap (λ n. n + 1) talks.tries_are;
          many = le_true terms.limits.retries (talk.tries + 1) many;
          none_before = λ some. let few : talk.tries < terms.limits.retries = talks.few_tries some in let h : terms.limits.retries ≤ talk.tries + 1 = le_true terms.limits.retries (talk.tries + 1) many in omega arith;
        })
    tried_good false many = record {
      shows = refl;
      fits = subst (λ o. Fits terms calls tried false (Seeking o)) (sym is) (seeking_fits tried lost false (lost_same a tried lost refl refl refl refl refl refl refl refl refl l));
      talks = λ e. record {
        settings_are = talks.settings_are;
        sets_are = talks.sets_are;
        left_are = talks.left_are;
        tries_are = ap (λ n. n + 1) talks.tries_are;
        few_tries = λ some. le_false terms.limits.retries (talk.tries + 1) many;
      };
      may = tt;
      begun = tt;
      begins = λ b. inl b;
      holds = refl;
      calm = λ none. tried_calm many;
      caused = λ f e. absurd (let none : ⊥ = cc in none);
    }

    pub tried_stepped : Stepped terms settings calls a TryFailed now (on_try_failed terms talk now)
    tried_stepped = record { shown = None; as_shown = λ one e. absurd (let none : ⊥ = cc in none); heard = tried; is_heard = refl; good = tried_good (nat_le terms.limits.retries (talk.tries + 1)) refl }

  -- Gone
  abbrev gone_on : Account → ℕ → Account
  gone_on a event = record a { ended = option_or a.ended (Some event) }

  -- the first event stands
  ended_first : (a : Account) (event first : ℕ) → a.ended ≡ Some first → option_or a.ended (Some event) ≡ Some first
  ended_first a event first e = ap (λ (o : Option ℕ). option_or o (Some event)) e

  ended_now : (a : Account) (event : ℕ) → a.ended ≡ None → option_or a.ended (Some event) ≡ Some event
  ended_now a event e = ap (λ (o : Option ℕ). option_or o (Some event)) e

  holds_gone : (a : Account) (event : ℕ) (k : Track) (ltxid : Ltxid) (before after : Option ℕ) → option_or a.ended (Some event) ≡ after
      → Holds terms calls a k ltxid before → Holds terms calls (gone_on a event) k ltxid after
  holds_gone a event k ltxid before after e h = record {
    tracked = tracked_same terms settings calls a (gone_on a event) k refl refl refl refl refl h.tracked;
    left = h.left;
    begun = h.begun;
    held = h.held;
    ended = e;
  }

  gone_fits : (a : Account) (event : ℕ) (gone : Bool) (phase : Phase) → has_connection phase ≡ true → Fits terms calls a gone phase → Fits terms calls (gone_on a event) false (loses phase event)
  gone_fits a event gone Idle c f = absurd (let none : ⊥ = cc in none)
  gone_fits a event gone Unbegun c f = absurd (let none : ⊥ = cc in none)
  gone_fits a event gone (Queued from) c f = absurd (let none : ⊥ = cc in none)
  gone_fits a event gone (Seeking lost) c f = absurd (let none : ⊥ = cc in none)
  gone_fits a event gone (Greeting None) c f = fresh_same terms settings calls a (gone_on a event) refl refl refl refl refl refl refl f.0
  gone_fits a event gone (Greeting (Some lost)) c f = holds_gone a event lost.track lost.ltxid (Some lost.event) (Some lost.event) (ended_first a event lost.event f.0.ended) f.0
  gone_fits a event gone (Asked state) c f = holds_gone a event state.track state.ltxid (Some state.event) (Some state.event) (ended_first a event state.event f.0.ended) f.0
  gone_fits a event gone (Running state) c f = holds_gone a event state.track state.ltxid None (Some event) (ended_now a event f.0.ended) f.0
  gone_fits a event gone (Replaying state) c f = holds_gone a event state.track state.ltxid None (Some event) (ended_now a event f.0.ended) f.0

  pub gone_stepped : (a : Account) (event now : ℕ) (gone : Bool) (talk : Talk) → IsTalk terms settings calls a talk → has_connection talk.phase ≡ true → Fits terms calls a gone talk.phase
      → Stepped terms settings calls a (Gone event) now (talk_step terms talk (Gone event) now)
  gone_stepped a event now gone talk talks connected fits = record {
    shown = None;
    as_shown = λ one e. absurd (let none : ⊥ = cc in none);
    heard = gone_on a event;
    is_heard = refl;
    good = record {
      shows = refl;
      fits = gone_fits a event gone talk.phase connected fits;
      talks = λ e. talk_in a (gone_on a event) talk (loses talk.phase event) refl refl refl talks;
      may = tt;
      begun = tt;
      begins = λ b. inl b;
      holds = refl;
      calm = λ none. plain_calm terms calls (gone_on a event) now (Gone event) refl;
      caused = λ f e. absurd (let none : ⊥ = cc in none);
    };
  }
