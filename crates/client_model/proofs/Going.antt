-- A request that goes on: its next call, or its end.
use Rattle.std.proofs.Common.{◌≡◌, inl, ℕ, ◌≤◌, Bool, true, false, List, [], ◌∷◌, length, drop, Option, Some, None, refl, sym, ap, subst, ◌∙◌, arith}
use Rattle.std.specs.Prelude.{slice_get, fold}
use Rattle.svc_values.specs.declared.value.Value.{Value}
use Rattle.svc_values.specs.declared.call.Call.{Call}
use Rattle.svc_values.specs.declared.frame.Up.{Up}
use Rattle.client_model.specs.declared.track.Track.{Track}
use Rattle.client_model.specs.meaning.States.{Living}
use Rattle.client_model.specs.declared.input.Input.{Input}
use Rattle.client_model.specs.declared.act.Shown.{Shown}
use Rattle.client_model.specs.declared.act.Hold.TheVariants.{Keep}
use Rattle.client_model.specs.meaning.Terms.{Terms, Talk}
use Rattle.client_model.specs.meaning.Talk.{begin_of, next_call, sends_or_ends, goes_on}
use Rattle.client_model.specs.Conversation.{is_gone_next}
use Rattle.client_model.specs.meaning.Account.{Account, begins, sends}
use Rattle.client_model.specs.Account.{count_uncommitted, set_shown}
use Rattle.client_model.specs.Laws.{digests_of, FollowsOutcome, MaySendAll, BegunWith, settings_known}
use Rattle.client_model.proofs.Fits.{Tracked, Holds, Few, IsTalk, Good, Calm, settings_shown}
use Rattle.client_model.proofs.Left.{next_left}
use Rattle.client_model.proofs.Sending.{ends_good, sends_call_good}

module _ (terms : Terms) (settings : List (List ℕ × Value)) (calls : List Call) where
  -- an account that tells the same of the track
  pub tracked_same : (a b : Account) (k : Track) → b.shown ≡ a.shown → b.reason ≡ a.reason → b.since_purge ≡ a.since_purge → b.outcomes ≡ a.outcomes → b.first ≡ a.first
      → Tracked terms calls a k → Tracked terms calls b k
  tracked_same a b k e-shown e-reason e-since e-outcomes e-first t = record {
    call = t.call ∙ ap length (sym e-shown);
    why = t.why ∙ sym e-reason;
    recorded = λ none. t.recorded none ∙ sym e-since;
    within = t.within;
    replays = t.replays ∙ ap (λ o. count_uncommitted (record a { outcomes = o })) (sym e-outcomes);
    few = t.few;
    first = t.first ∙ sym e-first;
    set_shown = t.set_shown ∙ ap (λ s. set_shown calls (record a { shown = s })) (sym e-shown);
    recalls = record {
      before = t.recalls.before;
      since = t.recalls.since;
      shown = e-shown ∙ t.recalls.shown;
      digests = ap digests_of e-since ∙ t.recalls.digests;
    };
  }

  pub talk_same : (a b : Account) (talk : Talk) → b.shown ≡ a.shown → b.purged ≡ a.purged → b.tries ≡ a.tries → IsTalk terms settings calls a talk → IsTalk terms settings calls b talk
  talk_same a b talk e-shown e-purged e-tries t = record {
    settings_are = t.settings_are ∙ ap (λ n. settings_known terms settings calls (record a { purged = n })) (sym e-purged);
    sets_are = t.sets_are ∙ ap (λ s. settings_shown terms settings calls (record a { shown = s })) (sym e-shown);
    left_are = t.left_are ∙ ap (λ s. drop (length s) calls) (sym e-shown);
    tries_are = t.tries_are ∙ sym e-tries;
    few_tries = t.few_tries;
  }

  -- no more outcomes said uncommitted than there may be
  pub tracked_few : (a : Account) (k : Track) → Tracked terms calls a k → Few terms a
  tracked_few a k t = let e : k.replays ≡ count_uncommitted a = t.replays in let f : k.replays ≤ terms.limits.replays = t.few in omega arith

  -- a request that has a session
  pub record Stands (a : Account) (talk : Talk) (state : Living) : Type 0 where
    pub talks : IsTalk terms settings calls a talk
    pub tracked : Tracked terms calls a state.track
    pub begun : a.begun ≡ true
    pub held : a.held ≡ Some state.ltxid
    pub ended : a.ended ≡ None

  holds_of : (a : Account) (talk : Talk) (state : Living) (call : Call) → Stands a talk state → slice_get calls state.track.call ≡ Some call → Holds terms calls a state.track state.ltxid None
  holds_of a talk state call s is = record { tracked = s.tracked; left = record { one = call; is = is }; begun = s.begun; held = s.held; ended = s.ended }

  module _ (input : Input) (now : ℕ) (heard : Account) (talk : Talk) (state : Living) (alive : Bool) (shown : Option Shown) where
    -- behind these frames, after which the account is `after`
    pub or_ends_good : (before : List Up) (after : Account) (found : Option Call) → slice_get calls state.track.call ≡ found
        → fold (sends terms now) heard before ≡ after → Few terms heard
        → length heard.shown ≡ length after.shown
        → (alive ≡ true → Stands after talk state × FollowsOutcome (length after.shown) after.session
        × MaySendAll calls heard before × BegunWith (settings_known terms settings calls heard) before
        × (heard.begun ≡ true → FollowsOutcome (length heard.shown) heard.session))
        → (alive ≡ false → Stands heard talk state × (is_gone_next input Keep ≡ true))
        → Calm terms calls heard input now
        → Good terms settings calls input now shown heard (sends_or_ends terms talk state alive before shown now found)
    or_ends_good before after None is e few same live dead calm = ends_good terms settings calls input now heard talk alive shown few calm
    or_ends_good before after (Some call) is e few same live dead calm =
        sends_call_good terms settings calls input now heard talk state alive before shown call after e
        (λ on. let l : Stands after talk state × FollowsOutcome (length after.shown) after.session
        × MaySendAll calls heard before × BegunWith (settings_known terms settings calls heard) before
        × (heard.begun ≡ true → FollowsOutcome (length heard.shown) heard.session) = live on in (
          l.0.talks,
          holds_of after talk state call l.0 is,
          l.1,
          l.2,
          l.3,
          record { in_order = subst (λ n. slice_get calls n ≡ Some call) (l.0.tracked.call ∙ sym same) is; answered = l.4 },
        ))
        (λ off. let d : Stands heard talk state × (is_gone_next input Keep ≡ true) = dead off in
        (d.0.talks, holds_of heard talk state call d.0 is, d.1)) calm

    -- with nothing sent before
    pub goes_on_good : Few terms heard → slice_get calls state.track.call ≡ next_call talk
        → (alive ≡ true → Stands heard talk state × FollowsOutcome (length heard.shown) heard.session)
        → (alive ≡ false → Stands heard talk state × (is_gone_next input Keep ≡ true))
        → Calm terms calls heard input now
        → Good terms settings calls input now shown heard (goes_on terms talk state alive [] shown now)
    goes_on_good few is live dead calm =
        or_ends_good [] heard (next_call talk) is refl few refl
        (λ on. let l : Stands heard talk state × FollowsOutcome (length heard.shown) heard.session = live on in (l.0, l.1, tt, tt, λ b. l.1))
        dead calm

    -- behind a Begin on a later session
    begun_again : (frame : Up) → heard.begun ≡ true → (λ (b : Bool). let a : Account = record (begins heard b) { last = Some frame } in a) heard.begun ≡ record heard { last = Some frame }
    begun_again frame e = ap (λ (b : Bool). let a : Account = record (begins heard b) { last = Some frame } in a) e

    stands_last : (last : Option Up) → Stands heard talk state → Stands (record heard { last = last }) talk state
    stands_last last s = record {
      talks = talk_same heard (record heard { last = last }) talk refl refl refl s.talks;
      tracked = tracked_same heard (record heard { last = last }) state.track refl refl refl refl refl s.tracked;
      begun = s.begun;
      held = s.held;
      ended = s.ended;
    }

    pub begins_again_good : (found : Option Call) → slice_get calls state.track.call ≡ found
        → Few terms heard → IsTalk terms settings calls heard talk → heard.begun ≡ true
        → Stands heard talk state → FollowsOutcome (length heard.shown) heard.session
        → (alive ≡ false → is_gone_next input Keep ≡ true)
        → Calm terms calls heard input now
        → Good terms settings calls input now shown heard (sends_or_ends terms talk state alive (begin_of talk ∷ []) shown now found)
    begins_again_good found is few talks begun stands follows dead calm =
        or_ends_good (begin_of talk ∷ []) (record heard { last = Some (begin_of talk) }) found is
        (begun_again (begin_of talk) begun) few refl
        (λ on. (stands_last (Some (begin_of talk)) stands, follows, tt, (talks.settings_are, tt), λ b. follows))
        (λ off. (stands, dead off)) calm

  -- the request's first Begin, on a session with this identifier
  module _ (input : Input) (now : ℕ) (heard : Account) (talk : Talk) (state : Living) where
    abbrev first_begun : Up → Account
    first_begun frame = record heard { begun = true; held = heard.session.ltxid; ended = None; session = record heard.session { first = true }; last = Some frame }

    begun_first : (frame : Up) → heard.begun ≡ false → (λ (b : Bool). let a : Account = record (begins heard b) { last = Some frame } in a) heard.begun ≡ first_begun frame
    begun_first frame e = ap (λ (b : Bool). let a : Account = record (begins heard b) { last = Some frame } in a) e

    pub begins_first_good : heard.begun ≡ false → Few terms heard → IsTalk terms settings calls heard talk → Tracked terms calls heard state.track
        → heard.session.ltxid ≡ Some state.ltxid
        → Calm terms calls heard input now
        → Good terms settings calls input now None heard (goes_on terms talk state true (begin_of talk ∷ []) None now)
    begins_first_good unbegun few talks tracked is_held calm =
        or_ends_good input now heard talk state true None (begin_of talk ∷ []) (first_begun (begin_of talk)) (next_call talk)
        (next_left terms settings calls heard talk state.track talks tracked) (begun_first (begin_of talk) unbegun) few refl
        (λ on. (
          record {
            talks = talk_same heard (first_begun (begin_of talk)) talk refl refl refl talks;
            tracked = tracked_same heard (first_begun (begin_of talk)) state.track refl refl refl refl refl tracked;
            begun = refl;
            held = is_held;
            ended = refl;
          },
          inl refl,
          tt,
          (talks.settings_are, tt),
          λ b. absurd (let none : ⊥ = cc in none),
        ))
        (λ off. absurd (let none : ⊥ = cc in none)) calm
