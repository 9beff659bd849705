-- What a step of a driver keeps, whatever phase follows.
use Rattle.std.proofs.Common.{◌≡◌, ℕ, zero, suc, ◌+◌, ◌≤◌, ◌<◌, Bool, true, false, List, [], ◌∷◌, ◌++◌, length, drop, Option, Some, IfSome, refl, subst, arith}
use Rattle.std.specs.Prelude.{slice_get, max}
use Rattle.std.specs.Option.{option_and_then}
use Rattle.std.specs.List.{AllByRecursion}
use Rattle.svc_values.specs.Calls.{IsMade}
use Rattle.svc_values.specs.Identifiers.{IsLtxid}
use Rattle.svc_values.specs.declared.entry.Ltxid.{Ltxid}
use Rattle.svc_values.specs.declared.frame.Up.{Up}
use Rattle.svc_values.specs.declared.frame.Up.TheVariants as up
use Rattle.canon_bytes.specs.UpBytes.{IsMadeUp}
use Rattle.request_bounds.specs.Limits.{IsPast}
use Rattle.client_model.specs.declared.track.Track.{Track}
use Rattle.client_model.specs.declared.act.Act.{Act}
use Rattle.client_model.specs.declared.act.Shown.{Shown}
use Rattle.client_model.specs.declared.act.Failed.{Failed}
use Rattle.client_model.specs.meaning.Terms.{Terms, Talk, Phase, Idle, Unbegun, Queued, Seeking, Greeting, Asked, Running, Replaying}
use Rattle.client_model.specs.meaning.Talk.{Step, stands, if_alive, closing, ending, fails, ends}
use Rattle.client_model.specs.Laws.{track_of}
use Rattle.client_model.specs.Conversation.{is_gone_next}
use Rattle.client_model.specs.declared.act.Hold.{Hold}
use Rattle.client_model.specs.declared.act.Hold.TheVariants.{Keep, GiveBack, Drop}
use Rattle.client_model.specs.declared.input.Input.{Input}
use Rattle.client_model.specs.declared.input.Input.TheVariants.{Start, Waiting, Lent, Opened, TryFailed, Took, Gone}
use Rattle.driver_core.specs.Driving.{queued_at, ArePast, tells_end, loses_next}
use Rattle.driver_core.specs.InnerSound.{IsTracked, HoldsLtxids, HasTry, IsSound}

-- LISTS -------------------------------------------------------------------------------------------

pub all-at : {X : Type 0} (P : X → Type 0) (xs : List X) (n : ℕ) (x : X) → AllByRecursion P xs → slice_get xs n ≡ Some x → P x
all-at P [] n x all e = absurd (let none : ⊥ = cc in none)
all-at P (y ∷ xs) zero x all e = let same : y ≡ x = cc in subst P same all.0
all-at P (y ∷ xs) (suc n) x all e = all-at P xs n x all.1 e

pub all-rest : {X : Type 0} (P : X → Type 0) (xs : List X) → AllByRecursion P xs → AllByRecursion P (drop 1 xs)
all-rest P [] all = tt
all-rest P (x ∷ xs) all = all.1

pub all-last : {X : Type 0} (P : X → Type 0) (xs : List X) (x : X) → AllByRecursion P xs → P x → AllByRecursion P (xs ++ x ∷ [])
all-last P [] x all one = (one, tt)
all-last P (y ∷ xs) x all one = (all.0, all-last P xs x all.1 one)

-- one less, where there is one
pub rest-length : {X : Type 0} (xs : List X) (x : X) → slice_get xs 0 ≡ Some x → length (drop 1 xs) + 1 ≡ length xs
rest-length [] x e = absurd (let none : ⊥ = cc in none)
rest-length (y ∷ xs) x e = let z : length xs + 1 ≡ suc (length xs) = omega arith in z

pub rest-shorter : {X : Type 0} (xs : List X) → length (drop 1 xs) ≤ length xs
rest-shorter [] = let z : 0 ≤ 0 = omega arith in z
rest-shorter (x ∷ xs) = let z : length xs ≤ suc (length xs) = omega arith in z

-- WHAT IS KEPT ------------------------------------------------------------------------------------

-- whatever phase follows
pub record Rests (talk : Talk) (now : ℕ) : Type 0 where
  pub made : AllByRecursion IsMade talk.left
  pub few : length talk.left ≤ 1024
  pub tried : IsPast talk.last_try now

-- after a step
pub record Kept (terms : Terms) (now : ℕ) (step : Step) : Type 0 where
  pub sound : IsSound terms.limits.retries step.0
  pub past : ArePast step.0 now
  pub made : AllByRecursion IsMadeUp step.1.send

-- on a session
pub record Lives (terms : Terms) (talk : Talk) (now : ℕ) (track : Track) (ltxid : Ltxid) : Type 0 where
  pub rests : Rests talk now
  pub tries : talk.tries < max 1 terms.limits.retries
  pub tracked : IsTracked talk.left track
  pub first : IsPast track.first now
  pub ltxid_is : IsLtxid ltxid

abbrev pub first_in : Phase → Option ℕ
first_in phase = option_and_then (λ track. track.first) (track_of phase)

pub has_try : (retries tries : ℕ) (phase : Phase) → tries < max 1 retries → HasTry retries tries phase
has_try retries tries Idle h = tt
has_try retries tries Unbegun h = h
has_try retries tries (Queued from) h = h
has_try retries tries (Seeking lost) h = h
has_try retries tries (Greeting lost) h = h
has_try retries tries (Asked state) h = h
has_try retries tries (Running state) h = h
has_try retries tries (Replaying state) h = h

pub idle_kept : (terms : Terms) (talk : Talk) (now : ℕ) (act : Act) → Rests talk now → AllByRecursion IsMadeUp act.send → Kept terms now (stands talk Idle, act)
idle_kept terms talk now act r made = record {
  sound = record { made = r.made; few = r.few; tries = tt; tracked = tt; ltxids = tt };
  past = record { tried = r.tried; queued = tt; submitted = tt };
  made = made;
}

pub kept_in : (terms : Terms) (talk : Talk) (now : ℕ) (phase : Phase) (act : Act) → Rests talk now → talk.tries < max 1 terms.limits.retries
    → IfSome (track_of phase) (IsTracked talk.left) → IsPast (first_in phase) now → IsPast (queued_at phase) now → HoldsLtxids phase → AllByRecursion IsMadeUp act.send
    → Kept terms now (stands talk phase, act)
kept_in terms talk now phase act r tries tracked first queued ltxids made = record {
  sound = record { made = r.made; few = r.few; tries = has_try terms.limits.retries talk.tries phase tries; tracked = tracked; ltxids = ltxids };
  past = record { tried = r.tried; queued = queued; submitted = first };
  made = made;
}

pub if_alive_made : (alive : Bool) (frames : List Up) → AllByRecursion IsMadeUp frames → AllByRecursion IsMadeUp (if_alive alive frames)
if_alive_made true frames made = made
if_alive_made false frames made = tt

pub fails_kept : (terms : Terms) (talk : Talk) (now : ℕ) (alive : Bool) (shown : Option Shown) (failed : Failed) → Rests talk now → Kept terms now (fails talk alive shown failed)
fails_kept terms talk now alive shown failed r = idle_kept terms talk now (closing alive shown failed) r (if_alive_made alive (up.Close ∷ []) (tt, tt))

pub ends_kept : (terms : Terms) (talk : Talk) (now : ℕ) (alive : Bool) (shown : Option Shown) → Rests talk now → Kept terms now (ends talk alive shown)
ends_kept terms talk now alive shown r = idle_kept terms talk now (ending alive shown) r (if_alive_made alive (up.End ∷ []) (tt, tt))

-- LOSSES ------------------------------------------------------------------------------------------

-- a loss comes next where a frame told of it and the request goes on
pub gone_next_so : (input : Input) (hold : Hold) → loses_next (tells_end input) hold ≡ is_gone_next input hold
gone_next_so Start hold = refl
gone_next_so Waiting hold = refl
gone_next_so (Lent connection ltxid) hold = refl
gone_next_so (Opened connection) hold = refl
gone_next_so TryFailed hold = refl
gone_next_so (Took frame true) hold = refl
gone_next_so (Took frame false) Keep = refl
gone_next_so (Took frame false) GiveBack = refl
gone_next_so (Took frame false) Drop = refl
gone_next_so (Gone event) hold = refl
