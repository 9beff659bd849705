-- What a conversation keeps: where it stands fits what its steps told.
use Rattle.std.proofs.Common.{◌≡◌, ◌⊎◌, ℕ, ◌+◌, ◌≤◌, ◌<◌, Bool, true, false, List, [], ◌++◌, length, map, take, drop, Option, Some, None, if◌then◌else◌}
use Rattle.std.specs.Prelude.{slice_get, fold, IsSome}
use Rattle.svc_values.specs.declared.value.Value.{Value}
use Rattle.svc_values.specs.declared.call.Call.{Call}
use Rattle.svc_values.specs.declared.draw.Draw.{Draw}
use Rattle.svc_values.specs.declared.entry.Ltxid.{Ltxid}
use Rattle.svc_values.specs.declared.frame.Up.TheVariants as up
use Rattle.call_recorder.specs.declared.recorded.Recorded.{Recorded}
use Rattle.client_model.specs.declared.track.Track.{Track}
use Rattle.client_model.specs.meaning.States.{Asking, Repeating, next_of}
use Rattle.client_model.specs.States.{IsRepeating}
use Rattle.client_model.specs.declared.input.Input.{Input}
use Rattle.client_model.specs.declared.act.Shown.{Shown}
use Rattle.client_model.specs.declared.act.Failed.{Failed}
use Rattle.client_model.specs.meaning.Terms.{Terms, Talk, Phase, Idle, Unbegun, Queued, Seeking, Greeting, Asked, Running, Replaying}
use Rattle.svc_values.specs.meaning.SettingsList.{with_sets}
use Rattle.client_model.specs.meaning.Talk.{Step, settled}
use Rattle.client_model.specs.Conversation.{is_gone_next}
use Rattle.client_model.specs.meaning.Account.{Account, Answered, unheard, sends}
use Rattle.client_model.specs.Account.{set_shown, count_uncommitted}
use Rattle.client_model.specs.Laws.{digests_of, FollowsOutcome, MaySendAll, BegunWith, settings_known, IsCaused, HoldsBy}

-- the calls shown since the last purge are the last ones that were shown
pub record Recalls (terms : Terms) (a : Account) : Type 0 where
  pub before : List Shown
  pub since : List Shown
  pub shown : a.shown ≡ before ++ since
  pub digests : digests_of a.since_purge ≡ map (λ one. terms.digest one.answers) since

-- the track is what the steps told
pub record Tracked (terms : Terms) (calls : List Call) (a : Account) (k : Track) : Type 0 where
  pub call : k.call ≡ length a.shown
  pub why : k.why ≡ a.reason
  pub recorded : k.why ≡ None → k.recorder.calls ≡ a.since_purge
  pub within : length k.recorder.calls ≤ k.call
  pub replays : k.replays ≡ count_uncommitted a
  pub few : k.replays ≤ terms.limits.replays
  pub first : k.first ≡ a.first
  pub set_shown : k.set_shown ≡ set_shown calls a
  pub recalls : Recalls terms a

-- a call is left to be sent or answered
pub record IsLeft (calls : List Call) (k : Track) : Type 0 where
  pub one : Call
  pub is : slice_get calls k.call ≡ Some one

-- before the first Begin
pub record Fresh (terms : Terms) (a : Account) : Type 0 where
  pub shown : a.shown ≡ []
  pub since : a.since_purge ≡ []
  pub purged : a.purged ≡ 0
  pub first : a.first ≡ None
  pub reason : a.reason ≡ None
  pub outcomes : a.outcomes ≡ []
  pub begun : a.begun ≡ false

-- from it on, where this identifier is held, and this event ended its connection if one has
pub record Holds (terms : Terms) (calls : List Call) (a : Account) (k : Track) (ltxid : Ltxid) (event : Option ℕ) : Type 0 where
  pub tracked : Tracked terms calls a k
  pub left : IsLeft calls k
  pub begun : a.begun ≡ true
  pub held : a.held ≡ Some ltxid
  pub ended : a.ended ≡ event

-- the last frame was a call, with the mark or without
pub record CallSent (mark : Bool) (a : Account) : Type 0 where
  pub kept : List Draw
  pub one : Call
  pub is : a.last ≡ Some (up.Call mark kept one)

-- the outcome of this identifier was asked on a new session
pub record Asks (a : Account) (state : Asking) : Type 0 where
  pub fresh : a.session.ltxid ≡ Some state.fresh
  pub not_first : a.session.first ≡ false
  pub none_repeated : a.session.repeated ≡ []
  pub none_sent : a.session.sent ≡ 0
  pub last : a.last ≡ Some (up.Outcome state.ltxid)

-- the call that waits for its reply was sent where it may be
pub record Runs (a : Account) : Type 0 where
  pub follows : FollowsOutcome (length a.shown + 1) a.session
  pub sent : CallSent false a

-- calls are repeated after an outcome that said uncommitted
pub record Repeats (a : Account) (state : Repeating) : Type 0 where
  pub no_reason : state.track.why ≡ None
  pub repeating : IsRepeating state
  pub answered : Answered
  pub is_answered : a.session.answered ≡ Some answered
  pub asked : answered.held ≡ Some answered.outcome.ltxid
  pub uncommitted : answered.outcome.committed ≡ false
  pub recorded : answered.recorded ≡ state.track.recorder.calls
  pub lost : answered.lost ≡ length a.shown
  pub repeated : a.session.repeated ≡ digests_of (take state.verified state.track.recorder.calls)
  pub none_sent : a.session.sent ≡ 0

-- a call is left to be repeated
pub record IsNext (state : Repeating) : Type 0 where
  pub one : Recorded
  pub is : next_of state ≡ Some one

-- outcomes that said uncommitted, where no track is left
abbrev pub Few : Terms → Account → Type 0
Few terms a = count_uncommitted a ≤ terms.limits.replays + 1

-- where it stands, and whether Gone comes next
abbrev pub Fits : Terms → List Call → Account → Bool → Phase → Type 0
Fits terms calls a gone Idle = Few terms a
Fits terms calls a gone Unbegun = a ≡ unheard
Fits terms calls a gone (Queued from) = Fresh terms a × (a.slot ≡ false) × (a.waits ≡ from)
Fits terms calls a gone (Seeking None) = Fresh terms a
Fits terms calls a gone (Seeking (Some lost)) = Holds terms calls a lost.track lost.ltxid (Some lost.event)
Fits terms calls a gone (Greeting None) = Fresh terms a × (gone ≡ false → a.last ≡ Some up.Connect)
Fits terms calls a gone (Greeting (Some lost)) = Holds terms calls a lost.track lost.ltxid (Some lost.event) × (gone ≡ false → a.last ≡ Some up.Connect)
Fits terms calls a gone (Asked state) = Holds terms calls a state.track state.ltxid (Some state.event) × Asks a state
Fits terms calls a gone (Running state) = Holds terms calls a state.track state.ltxid None × (gone ≡ false → Runs a)
Fits terms calls a gone (Replaying state) = Holds terms calls a state.track state.ltxid None × Repeats a state × IsNext state × (gone ≡ false → CallSent true a)

-- the request's settings, and under a rule that keeps settings every `set` that was shown on them
abbrev pub settings_shown : Terms → List (List ℕ × Value) → List Call → Account → List (List ℕ × Value)
settings_shown terms settings calls a = if terms.rules.keeps then with_sets settings (take (length a.shown) calls) else settings

-- the rest of a talk
pub record IsTalk (terms : Terms) (settings : List (List ℕ × Value)) (calls : List Call) (a : Account) (talk : Talk) : Type 0 where
  pub settings_are : talk.settings ≡ settings_known terms settings calls a
  pub sets_are : settled talk.settings talk.sets ≡ settings_shown terms settings calls a
  pub left_are : talk.left ≡ drop (length a.shown) calls
  pub tries_are : talk.tries ≡ a.tries
  pub few_tries : 1 ≤ terms.limits.retries → talk.tries < terms.limits.retries

abbrev pub is_idle : Phase → Bool
is_idle Idle = true
is_idle _ = false

-- no line of the causes holds
abbrev pub Calm : Terms → List Call → Account → Input → ℕ → Type 0
Calm terms calls heard input now = (failed : Failed) → IsCaused terms calls heard input now failed → ⊥

-- a step keeps all this, and sends and fails as it may
pub record Good (terms : Terms) (settings : List (List ℕ × Value)) (calls : List Call) (input : Input) (now : ℕ) (shown : Option Shown) (heard : Account) (step : Step) : Type 0 where
  pub shows : step.1.shown ≡ shown
  pub fits : Fits terms calls (fold (sends terms now) heard step.1.send) (is_gone_next input step.1.hold) step.0.phase
  pub talks : is_idle step.0.phase ≡ false → IsTalk terms settings calls (fold (sends terms now) heard step.1.send) step.0
  pub may : MaySendAll calls heard step.1.send
  pub begun : BegunWith (settings_known terms settings calls heard) step.1.send
  pub begins : (fold (sends terms now) heard step.1.send).begun ≡ true → (heard.begun ≡ true) ⊎ IsSome (fold (sends terms now) heard step.1.send).first
  pub holds : HoldsBy step.1.hold step.1.failed step.1.send
  pub calm : step.1.failed ≡ None → Calm terms calls heard input now
  pub caused : (failed : Failed) → step.1.failed ≡ Some failed → IsCaused terms calls heard input now failed
