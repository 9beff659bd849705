-- At most one line of the causes holds at a step: what is known there and the input tell which.
use Rattle.std.proofs.Common.{◌≡◌, inl, inr, ℕ, ◌+◌, ◌-◌, ◌≤◌, ◌<◌, Bool, true, false, List, [], length, Option, Some, None, refl, sym, ap, ap₂, ◌∙◌, arith, nat_le}
use Rattle.std.specs.Prelude.{slice_get, unwrap_or}
use Rattle.std.specs.Option.{option_and_then}
use Rattle.std.proofs.lemmas.Bool.Decides.{nat_tests}
use Rattle.svc_values.specs.declared.call.Call.{Call}
use Rattle.svc_values.specs.declared.entry.Ltxid.{Ltxid}
use Rattle.svc_values.specs.declared.frame.Up.{Up}
use Rattle.svc_values.specs.declared.frame.Up.TheVariants as up
use Rattle.svc_values.specs.declared.frame.Ahead.TheVariants as ahead
use Rattle.svc_values.specs.declared.frame.Down.{Down}
use Rattle.svc_values.specs.declared.frame.Down.TheVariants as down
use Rattle.request_bounds.specs.declared.rule.Why.{Why}
use Rattle.request_bounds.specs.declared.rule.Why.TheVariants as why
use Rattle.client_model.specs.declared.input.Input.{Input}
use Rattle.client_model.specs.declared.input.Input.TheVariants.{Waiting, TryFailed, Took}
use Rattle.client_model.specs.declared.act.Shown.{Shown}
use Rattle.client_model.specs.declared.act.Failed.{Failed}
use Rattle.client_model.specs.declared.act.Failed.TheVariants.{Disabled, Mismatch, Incomplete, Retries, ReplayTimeout, Replays, PoolWait, Unknown, BadPeer}
use Rattle.client_model.specs.meaning.Terms.{Terms}
use Rattle.client_model.specs.meaning.Talk.{tag_of}
use Rattle.client_model.specs.meaning.Account.{Account, Answered}
use Rattle.client_model.specs.Account.{count_uncommitted}
use Rattle.client_model.specs.Laws.{is_expected, IsCaused, WasEndedBy, Says, HasOneCause}

gt_false : (a b : ℕ) → b < a → nat_le a b ≡ false
gt_false a b e = grind (arith, nat_tests)

le_true : (a b : ℕ) → a ≤ b → nat_le a b ≡ true
le_true a b e = grind (arith, nat_tests)

module _ (terms : Terms) (heard : Account) where
  -- the event that ended the connection of the session that was asked for
  abbrev event_of : Option Answered → ℕ
  event_of answered = unwrap_or (option_and_then (λ (a : Answered). a.event) answered) 0

  abbrev error : Failed
  error = BadPeer 0

  -- the error of an outcome of this identifier that says uncommitted
  abbrev of_limits : Bool → ℕ → Failed
  of_limits true tick = ReplayTimeout (unwrap_or heard.first 0) tick
  of_limits false tick = Replays terms.limits.replays (event_of heard.session.answered)

  abbrev of_reason : Option Why → ℕ → Failed
  of_reason (Some reason) tick = Disabled reason (event_of heard.session.answered)
  of_reason None tick = of_limits (nat_le (count_uncommitted heard) terms.limits.replays) tick

  abbrev of_outcome : Ltxid → Bool → Bool → ℕ → Failed
  of_outcome ltxid true true tick = Disabled (why.StateLost (length heard.shown)) (event_of heard.session.answered)
  of_outcome ltxid true false tick = Incomplete ltxid
  of_outcome ltxid false completed tick = of_reason heard.reason tick

  -- the error of a reply to a marked call
  abbrev index_here : ℕ
  index_here = length heard.shown + length heard.session.repeated - (length heard.since_purge + 1)

  abbrev digest_at : Option Shown → List ℕ
  digest_at None = []
  digest_at (Some one) = terms.digest one.answers

  abbrev of_frame : Option Up → Down → ℕ → Failed
  of_frame (Some (up.Outcome ltxid)) (down.OutcomeIs committed completed) tick = of_outcome ltxid committed completed tick
  of_frame (Some (up.Outcome ltxid)) (down.OutcomeRefused refused next) tick = Unknown ltxid
  of_frame (Some (up.Call mark kept one)) (down.Reply answers draws ltxid) tick = Mismatch index_here (digest_at (slice_get heard.shown index_here)) (terms.digest answers)
  of_frame _ _ tick = error

  abbrev of_expected : Bool → Option Up → Down → ℕ → Failed
  of_expected true last frame tick = of_frame last frame tick
  of_expected false last frame tick = BadPeer (tag_of frame)

  -- the one error that may be caused
  abbrev of_input : Input → ℕ → Failed
  of_input TryFailed tick = Retries heard.tries
  of_input Waiting tick = PoolWait (unwrap_or heard.waits 0) tick
  of_input (Took frame alive) tick = of_expected (is_expected heard.last frame) heard.last frame tick
  of_input _ tick = error

  -- the frame answers the last one that was sent
  answers : (last : Option Up) (input : Input) (frame : Down) (alive : Bool) (tick : ℕ) → input ≡ Took frame alive → heard.last ≡ last → is_expected last frame ≡ true → of_frame last frame tick ≡ of_input input tick
  answers last input frame alive tick taken is expected =
      sym (ap (λ i. of_input i tick) taken
      ∙ ap (λ (l : Option Up). of_expected (is_expected l frame) l frame tick) is
      ∙ ap (λ (b : Bool). of_expected b last frame tick) expected)

  event_is : (event : ℕ) → WasEndedBy heard event → event_of heard.session.answered ≡ event
  event_is event w = ap event_of w.is_answered ∙ ap (λ (o : Option ℕ). unwrap_or o 0) w.ended

  outcome_is : (input : Input) (committed completed : Bool) (tick : ℕ) (says : Says heard input committed completed) → of_outcome says.ltxid committed completed tick ≡ of_input input tick
  outcome_is input committed completed tick says = answers (Some (up.Outcome says.ltxid)) input (down.OutcomeIs committed completed) says.alive tick says.taken says.asked refl

  module _ (calls : List Call) (input : Input) (tick : ℕ) where
    only_error : (failed : Failed) → IsCaused terms calls heard input tick failed → failed ≡ of_input input tick
    only_error (Retries tries) c = ap Retries c.in_a_row ∙ sym (ap (λ i. of_input i tick) c.failed)
    only_error (PoolWait first now) c =
        ap₂ PoolWait (sym (ap (λ (o : Option ℕ). unwrap_or o 0) c.is_first)) c.is_now ∙ sym (ap (λ i. of_input i tick) c.waits)
    only_error (Incomplete ltxid) c = ap Incomplete (sym c.is_ltxid) ∙ outcome_is input true false tick c.outcome
    only_error (Disabled reason event) (w, inl c) =
        ap₂ Disabled (c.1 ∙ ap why.StateLost c.2.follows) (sym (event_is event w)) ∙ outcome_is input true true tick c.2.outcome
    only_error (Disabled reason event) (w, inr c) =
        ap (Disabled reason) (sym (event_is event w)) ∙ sym (ap (λ (o : Option Why). of_reason o tick) c.stood) ∙ outcome_is input false c.outcome.0 tick c.outcome.1
    only_error (Replays limit event) (w, c) =
        ap₂ Replays c.is_limit (sym (event_is event w))
        ∙ sym (ap (λ (o : Option Why). of_reason o tick) c.no_reason ∙ ap (λ (b : Bool). of_limits b tick) (gt_false (count_uncommitted heard) terms.limits.replays (let m : count_uncommitted heard ≡ limit + 1 = c.many in let l : limit ≡ terms.limits.replays = c.is_limit in omega arith)))
        ∙ outcome_is input false c.outcome.0 tick c.outcome.1
    only_error (ReplayTimeout first ready) c =
        ap₂ ReplayTimeout (sym (ap (λ (o : Option ℕ). unwrap_or o 0) c.submitted)) c.is_now
        ∙ sym (ap (λ (o : Option Why). of_reason o tick) c.no_reason ∙ ap (λ (b : Bool). of_limits b tick) (le_true (count_uncommitted heard) terms.limits.replays c.few))
        ∙ outcome_is input false c.outcome.0 tick c.outcome.1
    only_error (Mismatch index seen now) c =
        let place : index + length heard.since_purge + 1 ≡ length heard.shown + length heard.session.repeated = c.place in
        let index_is : index ≡ index_here = omega arith in
        let seen_is : seen ≡ digest_at (slice_get heard.shown index_here) = sym c.shown.2 ∙ sym (ap digest_at (ap (slice_get heard.shown) (sym index_is) ∙ c.shown.1)) in
        let now_is : now ≡ terms.digest c.taken.0 = sym c.taken.5 in
        ap (λ i. Mismatch i seen now) index_is ∙ ap₂ (Mismatch index_here) seen_is now_is
        ∙ answers (Some (up.Call true c.marked.0 c.marked.1)) input (down.Reply c.taken.0 c.taken.1 c.taken.2) c.taken.3 tick c.taken.4 c.marked.2 refl
    only_error (Unknown ltxid) c = answers (Some (up.Outcome ltxid)) input (down.OutcomeRefused ahead.Forgotten c.horizon) c.alive tick c.taken c.asked refl
    only_error (BadPeer tag) c =
        ap BadPeer c.is_tag ∙ sym (ap (λ i. of_input i tick) c.taken ∙ ap (λ (b : Bool). of_expected b heard.last c.frame tick) c.unexpected)

pub has_one_cause : HasOneCause
has_one_cause terms calls heard input tick failed other cause one =
    only_error terms heard calls input tick failed cause ∙ sym (only_error terms heard calls input tick other one)
