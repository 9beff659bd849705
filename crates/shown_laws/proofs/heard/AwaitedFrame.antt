-- The frame that was sent last on the connection of a request is the one that the request tells as
-- its last.
use Rattle.std.proofs.Common.{◌≡◌, refl, sym, ap, subst, ◌∙◌, Bool, true, false, ℕ, ◌+◌, ◌≤◌, length, List, [], Option, Some, None, arith}
use Rattle.std.specs.Prelude.{◌==◌, ◌-◌, slice_get}
use Rattle.std.specs.Option.{option_map_or}
use Rattle.std.proofs.lemmas.Bool.{and_parts}
use Rattle.svc_values.specs.declared.call.Call.{Call}
use Rattle.svc_values.specs.declared.draw.Draw.{Draw}
use Rattle.svc_values.specs.declared.frame.Up.{Up}
use Rattle.svc_values.specs.declared.frame.Up.TheVariants as up
use Rattle.svc_values.specs.meaning.Same.{same_bool, same_call}
use Rattle.svc_values.specs.SameLaws.{same_bool_decides, same_call_decides, same_ltxid_decides}
use Rattle.call_recorder.specs.declared.recorded.Recorded.{Recorded}
use Rattle.client_model.specs.meaning.Account.{Account, unheard, account_of}
use Rattle.client_model.specs.Conversation.{steps_of}
use Rattle.client_model.specs.meaning.States.{Living, Repeating, next_of}
use Rattle.client_model.specs.meaning.Talk.{next_call}
use Rattle.client_model.specs.meaning.Terms.{Terms, Talk, Phase, Idle, Unbegun, Queued, Seeking, Greeting, Asked, Running, Replaying}
use Rattle.client_model.specs.meaning.Verifying.{index_of}
use Rattle.client_model.proofs.Offered.{Tracked, Fits, IsTalk, first_talks, last_fits, last_talks, next_left}
use Rattle.world_model.specs.meaning.Clients.{Doing, Client, client_at}
use Rattle.world_model.specs.records.Conversing.{inputs_of, first_talk, Talks, IsTalking, AllTalk}
use Rattle.world_model.specs.meaning.Frames.{Sent}
use Rattle.world_model.specs.records.Hold.{is_awaited}
use Rattle.shown_laws.proofs.steps.BeforeSession.{talks_at}
use Rattle.shown_laws.proofs.heard.CourseHeard.{awaits_behind}
use Rattle.shown_laws.proofs.steps.FrameAnswered.{LastIs, Same, SameCall}
use Rattle.shown_laws.proofs.heard.LastSent.{AwaitsIn}
use Rattle.shown_laws.proofs.events.Lookups.{eq_from}
use Rattle.shown_laws.proofs.heard.RecordedCalls.{RowOf, account_row}
use Rattle.shown_laws.proofs.shown.RequestsAdd.{is_idle}

-- OF A CLIENT -------------------------------------------------------------------------------------

pub now_talks : (terms : Terms) (clients : List Client) (number : ℕ) (own : Client) (doing : Doing) → AllTalk terms clients → client_at clients number ≡ Some own → own.now ≡ Some doing → Talks terms false doing
now_talks terms clients number own doing all here now = subst (IsTalking terms) now (talks_at terms clients number own all here).1

-- THE LAST FRAME ----------------------------------------------------------------------------------

get_same : (call : Call) (found : Option Call) → option_map_or (same_call call) found false ≡ true → found ≡ Some call
get_same call None is = absurd (let none : ⊥ = cc in none)
get_same call (Some other) is = ap Some (sym ((same_call_decides call other).0 is))

never : ◌≡◌ {A = Bool} false true → ⊥
never is = let none : ⊥ = cc in none

module _ (terms : Terms) (doing : Doing) (talks : Talks terms false doing) where
  -- what it was told so far
  abbrev pub heard : Account
  heard = account_of terms doing.request.calls (steps_of terms (first_talk doing.request) (inputs_of doing.steps))

  pub awaits : AwaitsIn doing.talk heard.last doing.talk.phase
  awaits =
      subst (λ (talk : Talk). AwaitsIn talk (account_of terms doing.request.calls (steps_of terms (first_talk doing.request) (inputs_of doing.steps))).last talk.phase) talks.stands
      (awaits_behind terms doing.request.calls (inputs_of doing.steps) unheard false (first_talk doing.request) (λ due. tt) talks.converses.may talks.loss)

  pub fits_now : (gone : Bool) × Fits terms doing.request.calls heard gone doing.talk.phase
  fits_now =
      subst (λ (talk : Talk). (gone : Bool) × Fits terms doing.request.calls (account_of terms doing.request.calls (steps_of terms (first_talk doing.request) (inputs_of doing.steps))) gone talk.phase) talks.stands
      (last_fits terms doing.request.settings doing.request.calls (inputs_of doing.steps) unheard false (first_talk doing.request) (λ e. first_talks terms doing.request.settings doing.request.calls) refl talks.converses.may)

  talk_now : is_idle doing.talk.phase ≡ false → IsTalk terms doing.request.settings doing.request.calls heard doing.talk
  talk_now busy =
      subst (IsTalk terms doing.request.settings doing.request.calls (account_of terms doing.request.calls (steps_of terms (first_talk doing.request) (inputs_of doing.steps)))) talks.stands
      (last_talks terms doing.request.settings doing.request.calls (inputs_of doing.steps) unheard false (first_talk doing.request) (λ e. first_talks terms doing.request.settings doing.request.calls) refl talks.converses.may
      (subst (λ (talk : Talk). is_idle talk.phase ≡ false) (sym talks.stands) busy))

  -- the call that is next
  next_is : (state : Living) → doing.talk.phase ≡ Running state → slice_get doing.request.calls state.track.call ≡ next_call doing.talk
  next_is state is =
      let its : (gone : Bool) × Fits terms doing.request.calls heard gone (Running state) = subst (λ (phase : Phase). (gone : Bool) × Fits terms doing.request.calls heard gone phase) is fits_now in
      next_left terms doing.request.settings doing.request.calls heard doing.talk state.track (talk_now (ap is_idle is)) its.1.0.tracked

  -- the recorded call that is next is the request's of its index
  recorded_is : (state : Repeating) (one : Recorded) → doing.talk.phase ≡ Replaying state → next_of state ≡ Some one → slice_get doing.request.calls (index_of state) ≡ Some one.call
  recorded_is state one is next =
      let its : (gone : Bool) × Fits terms doing.request.calls heard gone (Replaying state) = subst (λ (phase : Phase). (gone : Bool) × Fits terms doing.request.calls heard gone phase) is fits_now in
      let tracked : Tracked terms doing.request.calls heard state.track = its.1.0.tracked in
      let same : state.track.recorder.calls ≡ heard.since_purge = tracked.recorded its.1.1.no_reason in
      let row : RowOf doing.request.calls heard = account_row terms doing.request.calls (steps_of terms (first_talk doing.request) (inputs_of doing.steps)) in
      let at : slice_get doing.request.calls (heard.purged + state.verified) ≡ Some one.call = row.at state.verified one (ap (λ (all : List Recorded). slice_get all state.verified) (sym same) ∙ next) in
      let few : state.verified ≤ length state.track.recorder.calls = its.1.1.repeating.within in
      let long : heard.purged + length heard.since_purge ≡ length heard.shown = row.long in
      let many : length state.track.recorder.calls ≡ length heard.since_purge = ap length same in
      let shown : state.track.call ≡ length heard.shown = tracked.call in
      let place : state.track.call - (length state.track.recorder.calls - state.verified) ≡ heard.purged + state.verified = omega (arith, few, long, many, shown) in
      ap (slice_get doing.request.calls) place ∙ at

  call_last : (wanted mark : Bool) (kept other : List Draw) (call mine : Call) → mark ≡ wanted → call ≡ mine → heard.last ≡ Some (up.Call wanted other mine) → LastIs (up.Call mark kept call) heard.last
  call_last wanted mark kept other call mine marked same last =
      subst (LastIs (up.Call mark kept call)) (sym last)
      (subst (λ (m : Bool). LastIs (up.Call m kept call) (Some (up.Call wanted other mine))) (sym marked)
      (subst (λ (c : Call). LastIs (up.Call wanted kept c) (Some (up.Call wanted other mine))) (sym same) (SameCall wanted kept other mine)))

  -- a call that is awaited, where it is the request's of its index
  pub last_is : (sent : Sent) (frame : Up) (phase : Phase) → doing.talk.phase ≡ phase → AwaitsIn doing.talk heard.last phase → is_awaited phase (record sent { frame = frame }) ≡ true
      → ((mark : Bool) (kept : List Draw) (call : Call) → frame ≡ up.Call mark kept call → option_map_or (same_call call) (slice_get doing.request.calls sent.call) false ≡ true) → LastIs frame heard.last
  last_is sent up.Connect (Greeting lost) is out awaited scripted = subst (LastIs up.Connect) (sym out) (Same up.Connect)
  last_is sent (up.Outcome x) (Asked asking) is out awaited scripted =
      let same : asking.ltxid ≡ x = (same_ltxid_decides asking.ltxid x).0 awaited in
      subst (LastIs (up.Outcome x)) (sym (out ∙ ap (λ y. Some (up.Outcome y)) same)) (Same (up.Outcome x))
  last_is sent (up.Call mark kept call) (Running state) is out awaited scripted =
      let parts = and_parts (same_bool false mark) (sent.call == state.track.call) awaited in
      let at : slice_get doing.request.calls sent.call ≡ Some call = get_same call (slice_get doing.request.calls sent.call) (scripted mark kept call refl) in
      let both : Some call ≡ Some out.call = sym at ∙ (ap (slice_get doing.request.calls) (eq_from sent.call state.track.call parts.1) ∙ (next_is state is ∙ out.next)) in
      call_last false mark kept [] call out.call (sym ((same_bool_decides false mark).0 parts.0)) (let same : call ≡ out.call = cc in same) out.is
  last_is sent (up.Call mark kept call) (Replaying state) is out awaited scripted =
      let parts = and_parts (same_bool true mark) (sent.call == index_of state) awaited in
      let at : slice_get doing.request.calls sent.call ≡ Some call = get_same call (slice_get doing.request.calls sent.call) (scripted mark kept call refl) in
      let both : Some call ≡ Some out.one.call = sym at ∙ (ap (slice_get doing.request.calls) (eq_from sent.call (index_of state) parts.1) ∙ recorded_is state out.one is out.next) in
      call_last true mark kept out.one.draws call out.one.call (sym ((same_bool_decides true mark).0 parts.0)) (let same : call ≡ out.one.call = cc in same) out.is
  last_is sent frame (Greeting lost) is out awaited scripted = absurd (never awaited)
  last_is sent frame (Asked asking) is out awaited scripted = absurd (never awaited)
  last_is sent frame (Running state) is out awaited scripted = absurd (never awaited)
  last_is sent frame (Replaying state) is out awaited scripted = absurd (never awaited)
  last_is sent frame Idle is out awaited scripted = absurd (never awaited)
  last_is sent frame Unbegun is out awaited scripted = absurd (never awaited)
  last_is sent frame (Queued from) is out awaited scripted = absurd (never awaited)
  last_is sent frame (Seeking lost) is out awaited scripted = absurd (never awaited)
