-- A step of a conversation, seen with the account behind its input and its showing.
use Rattle.std.proofs.Common.{◌≡◌, inl, ℕ, ◌+◌, ◌≤◌, Bool, true, false, List, [], length, Option, Some, None, refl, sym, ap, subst, ◌∙◌, arith}
use Rattle.svc_values.specs.declared.value.Value.{Value}
use Rattle.svc_values.specs.declared.call.Call.{Call}
use Rattle.svc_values.specs.declared.entry.Ltxid.{Ltxid}
use Rattle.svc_values.specs.declared.frame.Up.TheVariants as up
use Rattle.svc_values.specs.declared.frame.Down.{Down}
use Rattle.svc_values.specs.declared.frame.Down.TheVariants as down
use Rattle.client_model.specs.declared.track.Track.{Track}
use Rattle.client_model.specs.meaning.States.{Losing}
use Rattle.client_model.specs.declared.input.Input.{Input}
use Rattle.client_model.specs.declared.input.Input.TheVariants.{Took}
use Rattle.client_model.specs.declared.act.Shown.{Shown}
use Rattle.client_model.specs.declared.act.Hold.TheVariants.{Keep}
use Rattle.client_model.specs.declared.act.Failed.TheVariants.{BadPeer}
use Rattle.client_model.specs.meaning.Terms.{Terms, Talk, Phase, Idle, Unbegun, Queued, Seeking, Greeting, Asked, Running, Replaying, unsubmitted}
use Rattle.client_model.specs.meaning.Talk.{Step, quiet, bad_peer, tag_of, on_hello}
use Rattle.client_model.specs.Conversation.{is_gone_next}
use Rattle.client_model.specs.meaning.Account.{Account, session_of, hears, shows, shows_call}
use Rattle.client_model.specs.Account.{count_uncommitted, set_shown}
use Rattle.client_model.specs.Laws.{digests_of, is_expected}
use Rattle.client_model.proofs.Fits.{Tracked, Fresh, Holds, Few, Fits, IsTalk, Good, Calm}
use Rattle.client_model.proofs.Calming.{other_calm}
use Rattle.client_model.proofs.Sending.{fails_good}
use Rattle.client_model.proofs.Going.{tracked_same, talk_same, begins_first_good}

module _ (terms : Terms) (settings : List (List ℕ × Value)) (calls : List Call) where
  -- the step is good on what the account becomes by the input and the showing
  pub record Stepped (a : Account) (input : Input) (now : ℕ) (step : Step) : Type 0 where
    pub shown : Option Shown
    pub heard : Account
    pub is_heard : shows terms calls (hears terms a input now shown) shown ≡ heard
    pub good : Good terms settings calls input now shown heard step
    -- a call is shown only where a Begin was sent before
    pub as_shown : (one : Shown) → shown ≡ Some one → (a.begun ≡ true) × ((call : Call) × (heard ≡ shows_call terms (hears terms a input now (Some one)) one call))

  pub fits_gone : (a : Account) (phase : Phase) (gone : Bool) → Fits terms calls a false phase → Fits terms calls a gone phase
  fits_gone a Idle gone f = f
  fits_gone a Unbegun gone f = f
  fits_gone a (Queued from) gone f = f
  fits_gone a (Seeking None) gone f = f
  fits_gone a (Seeking (Some lost)) gone f = f
  fits_gone a (Greeting None) gone f = (f.0, λ e. f.1 refl)
  fits_gone a (Greeting (Some lost)) gone f = (f.0, λ e. f.1 refl)
  fits_gone a (Asked state) gone f = f
  fits_gone a (Running state) gone f = (f.0, λ e. f.1 refl)
  fits_gone a (Replaying state) gone f = (f.0, f.1, f.2, λ e. f.3 refl)

  pub fresh_few : (a : Account) → Fresh terms a → Few terms a
  fresh_few a f = subst (λ o. Few terms (record a { outcomes = o })) (sym f.outcomes) (let z : 0 ≤ terms.limits.replays + 1 = omega arith in z)

  pub fresh_same : (a b : Account) → b.shown ≡ a.shown → b.since_purge ≡ a.since_purge → b.purged ≡ a.purged → b.first ≡ a.first → b.reason ≡ a.reason → b.outcomes ≡ a.outcomes → b.begun ≡ a.begun
      → Fresh terms a → Fresh terms b
  fresh_same a b e1 e2 e3 e4 e5 e6 e7 f = record { shown = e1 ∙ f.shown; since = e2 ∙ f.since; purged = e3 ∙ f.purged; first = e4 ∙ f.first; reason = e5 ∙ f.reason; outcomes = e6 ∙ f.outcomes; begun = e7 ∙ f.begun }

  pub holds_same : (a b : Account) (k : Track) (ltxid : Ltxid) (event : Option ℕ) → b.shown ≡ a.shown → b.reason ≡ a.reason → b.since_purge ≡ a.since_purge → b.outcomes ≡ a.outcomes → b.first ≡ a.first → b.begun ≡ a.begun → b.held ≡ a.held → b.ended ≡ a.ended
      → Holds terms calls a k ltxid event → Holds terms calls b k ltxid event
  holds_same a b k ltxid event e1 e2 e3 e4 e5 e6 e7 e8 h = record {
    tracked = tracked_same terms settings calls a b k e1 e2 e3 e4 e5 h.tracked;
    left = h.left;
    begun = e6 ∙ h.begun;
    held = e7 ∙ h.held;
    ended = e8 ∙ h.ended;
  }

  -- a step in which nothing is done, in whatever phase
  pub quiet_stepped : (a : Account) (input : Input) (now : ℕ) (talk : Talk) (phase : Phase)
      → Calm terms calls a input now → hears terms a input now None ≡ a → talk.phase ≡ phase → IsTalk terms settings calls a talk → Fits terms calls a false phase
      → Stepped a input now (talk, quiet)
  quiet_stepped a input now talk phase calm same is talks fits = record {
    shown = None;
    as_shown = λ one e. absurd (let none : ⊥ = cc in none);
    heard = a;
    is_heard = same;
    good = record {
      shows = refl;
      fits = subst (λ p. Fits terms calls a (is_gone_next input Keep) p) (sym is) (fits_gone a phase (is_gone_next input Keep) fits);
      talks = λ e. talks;
      may = tt;
      begun = tt;
      begins = λ b. inl b;
      holds = refl;
      calm = λ none. calm;
      caused = λ f e. absurd (let none : ⊥ = cc in none);
    };
  }

  -- a frame that is not to be expected
  pub bad_stepped : (a : Account) (frame : Down) (alive : Bool) (now : ℕ) (talk : Talk) (heard : Account)
      → hears terms a (Took frame alive) now None ≡ heard → Few terms heard → is_expected heard.last frame ≡ false
      → Stepped a (Took frame alive) now (bad_peer talk alive frame)
  bad_stepped a frame alive now talk heard is few unexpected = record {
    shown = None;
    as_shown = λ one e. absurd (let none : ⊥ = cc in none);
    heard = heard;
    is_heard = is;
    good = fails_good terms settings calls (Took frame alive) now heard talk alive None (BadPeer (tag_of frame)) few
        (record { frame = frame; alive = alive; taken = refl; is_tag = refl; unexpected = unexpected });
  }

  -- a track before the first call
  pub unsubmitted_tracked : (a : Account) → Fresh terms a → Tracked terms calls a (unsubmitted terms)
  unsubmitted_tracked a f = record {
    call = sym (ap length f.shown);
    why = sym f.reason;
    recorded = λ e. sym f.since;
    within = let z : 0 ≤ 0 = omega arith in z;
    replays = sym (ap (λ o. count_uncommitted (record a { outcomes = o })) f.outcomes);
    few = let z : 0 ≤ terms.limits.replays = omega arith in z;
    first = sym f.first;
    set_shown = sym (ap (λ s. set_shown calls (record a { shown = s })) f.shown);
    recalls = record { before = []; since = []; shown = f.shown; digests = ap digests_of f.since };
  }

  -- Hello
  abbrev greeted : Account → Ltxid → Account
  greeted a ltxid = record a { session = session_of (Some ltxid) }

  pub hello_stepped : (a : Account) (lost : Option Losing) (ltxid : Ltxid) (alive : Bool) (now : ℕ) (talk : Talk)
      → IsTalk terms settings calls a talk → Fits terms calls a false (Greeting lost)
      → Stepped a (Took (down.Hello ltxid) alive) now (on_hello terms talk lost ltxid alive now)
  hello_stepped a None ltxid false now talk talks fits = record {
    shown = None;
    as_shown = λ one e. absurd (let none : ⊥ = cc in none);
    heard = greeted a ltxid;
    is_heard = refl;
    good = record {
      shows = refl;
      fits = (fresh_same a (greeted a ltxid) refl refl refl refl refl refl refl fits.0, λ e. absurd (let none : ⊥ = cc in none));
      talks = λ e. record { settings_are = talks.settings_are; sets_are = talks.sets_are; left_are = talks.left_are; tries_are = talks.tries_are; few_tries = talks.few_tries };
      may = tt;
      begun = tt;
      begins = λ b. inl b;
      holds = refl;
      calm = λ none. other_calm terms calls (greeted a ltxid) now (down.Hello ltxid) false refl (ap (λ l. is_expected l (down.Hello ltxid)) (fits.1 refl));
      caused = λ f e. absurd (let none : ⊥ = cc in none);
    };
  }
  hello_stepped a (Some lost) ltxid false now talk talks fits = record {
    shown = None;
    as_shown = λ one e. absurd (let none : ⊥ = cc in none);
    heard = greeted a ltxid;
    is_heard = refl;
    good = record {
      shows = refl;
      fits = (holds_same a (greeted a ltxid) lost.track lost.ltxid (Some lost.event) refl refl refl refl refl refl refl refl fits.0, λ e. absurd (let none : ⊥ = cc in none));
      talks = λ e. record { settings_are = talks.settings_are; sets_are = talks.sets_are; left_are = talks.left_are; tries_are = talks.tries_are; few_tries = talks.few_tries };
      may = tt;
      begun = tt;
      begins = λ b. inl b;
      holds = refl;
      calm = λ none. other_calm terms calls (greeted a ltxid) now (down.Hello ltxid) false refl (ap (λ l. is_expected l (down.Hello ltxid)) (fits.1 refl));
      caused = λ f e. absurd (let none : ⊥ = cc in none);
    };
  }
  hello_stepped a None ltxid true now talk talks fits =
      let f : Fresh terms (greeted a ltxid) = fresh_same a (greeted a ltxid) refl refl refl refl refl refl refl fits.0 in
      record {
        shown = None;
        as_shown = λ one e. absurd (let none : ⊥ = cc in none);
        heard = greeted a ltxid;
        is_heard = refl;
        good = begins_first_good terms settings calls (Took (down.Hello ltxid) true) now (greeted a ltxid) talk (record { track = unsubmitted terms; ltxid = ltxid })
            f.begun (fresh_few (greeted a ltxid) f) (talk_same terms settings calls a (greeted a ltxid) talk refl refl refl talks) (unsubmitted_tracked (greeted a ltxid) f) refl
            (other_calm terms calls (greeted a ltxid) now (down.Hello ltxid) true refl (ap (λ l. is_expected l (down.Hello ltxid)) (fits.1 refl)));
      }
  hello_stepped a (Some lost) ltxid true now talk talks fits =
      let b : Account = record (greeted a ltxid) { last = Some (up.Outcome lost.ltxid) } in
      record {
        shown = None;
        as_shown = λ one e. absurd (let none : ⊥ = cc in none);
        heard = greeted a ltxid;
        is_heard = refl;
        good = record {
          shows = refl;
          fits = (
            holds_same a b lost.track lost.ltxid (Some lost.event) refl refl refl refl refl refl refl refl fits.0,
            record { fresh = refl; not_first = refl; none_repeated = refl; none_sent = refl; last = refl },
          );
          talks = λ e. record { settings_are = talks.settings_are; sets_are = talks.sets_are; left_are = talks.left_are; tries_are = talks.tries_are; few_tries = talks.few_tries };
          may = tt;
          begun = tt;
          begins = λ b. inl b;
          holds = refl;
          calm = λ none. other_calm terms calls (greeted a ltxid) now (down.Hello ltxid) true refl (ap (λ l. is_expected l (down.Hello ltxid)) (fits.1 refl));
          caused = λ f e. absurd (let none : ⊥ = cc in none);
        };
      }
