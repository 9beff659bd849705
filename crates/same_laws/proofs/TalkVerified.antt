-- Why a client sends a call: it took the reply to a call without the mark, which it shows, or the
-- digest of a repeated one is that of before; or it was lent a connection, or told an outcome.
use Rattle.std.proofs.Common.{◌≡◌, refl, sym, ap, subst, ◌∙◌, Bool, true, false, ℕ, zero, suc, ◌+◌, ◌-◌, ◌<◌, length, length-append, List, [], ◌∷◌, ◌++◌, map, Option, Some, None, if◌then◌else◌, arith}
use Rattle.std.specs.Prelude.{nat_le, slice_get, Ok, Err}
use Rattle.std.specs.List.{list_any}
use Rattle.std.specs.Str.{bytes_eq}
use Rattle.std.proofs.lemmas.List.{length-map}
use Rattle.std.proofs.lemmas.Option.{slice_get_within}
use Rattle.svc_values.specs.declared.answer.Answer.{Answer}
use Rattle.svc_values.specs.declared.call.Call.{Call}
use Rattle.svc_values.specs.declared.draw.Draw.{Draw}
use Rattle.svc_values.specs.declared.entry.Ltxid.{Ltxid}
use Rattle.svc_values.specs.declared.frame.Up.{Up}
use Rattle.svc_values.specs.declared.frame.Up.TheVariants as up
use Rattle.svc_values.specs.declared.frame.Down.{Down}
use Rattle.svc_values.specs.declared.frame.Down.TheVariants as down
use Rattle.call_recorder.specs.declared.recorded.Recorded.{Recorded}
use Rattle.client_model.specs.declared.act.Failed.TheVariants.{Retries, PoolWait}
use Rattle.client_model.specs.declared.act.Shown.{Shown}
use Rattle.client_model.specs.declared.input.Input.{Input}
use Rattle.client_model.specs.declared.input.Input.TheVariants.{Start, Waiting, Lent, Opened, TryFailed, Took, Gone}
use Rattle.client_model.specs.meaning.Account.{Account}
use Rattle.client_model.specs.meaning.States.{Living, Repeating, next_of}
use Rattle.client_model.specs.meaning.Talk.{stands, quiet, fails, with_tried, lost_of, if_alive, talk_shown, with_shown, next_call, on_reply, on_compared, on_repeated, takes, on_waiting, waits_from, on_try_failed, talk_step}
use Rattle.client_model.specs.meaning.Terms.{Terms, Talk, Phase, Queued, Seeking, Running, Replaying}
use Rattle.client_model.specs.meaning.Verifying.{index_of, verified_more, mismatch}
use Rattle.client_model.proofs.Offered.{Fits, Tracked}
use Rattle.world_model.specs.meaning.Clients.{Doing}
use Rattle.invariant_laws.specs.Shown.{is_call}
use Rattle.world_model.proofs.Offered.{get_mapped, account_now, FitsNow}
use Rattle.invariant_laws.proofs.Offered.{next_shows}

-- a call is among the frames
abbrev pub speaks : List Up → Bool
speaks send = list_any is_call send

closes_silent : {A : Type 0} (alive : Bool) → speaks (if_alive alive (up.Close ∷ [])) ≡ true → A
closes_silent true says = absurd (let none : ⊥ = cc in none)
closes_silent false says = absurd (let none : ⊥ = cc in none)

-- THE REPLY TO A CALL -----------------------------------------------------------------------------

-- without the mark: it is shown
pub record IsReplied (frame : Down) (shown : Option Shown) : Type 0 where
  pub one : Shown
  pub frame_is : frame ≡ down.Reply one.answers one.draws one.ltxid
  pub shown_is : shown ≡ Some one

replied_by : (terms : Terms) (talk : Talk) (state : Living) (answers : List Answer) (draws : List Draw) (ltxid : Ltxid) (alive : Bool) (now : ℕ) (call : Option Call)
    → speaks (on_reply terms talk state answers draws ltxid alive now call).1.send ≡ true → IsReplied (down.Reply answers draws ltxid) (on_reply terms talk state answers draws ltxid alive now call).1.shown
replied_by terms talk state answers draws ltxid alive now None says = closes_silent alive says
replied_by terms talk state answers draws ltxid alive now (Some call) says =
    let after : Talk = talk_shown terms talk call answers in
    let one : Shown = record { answers = answers; draws = draws; ltxid = ltxid } in
    record {
      one = one;
      frame_is = refl;
      shown_is = next_shows terms after (record { track = with_shown terms state.track call answers draws; ltxid = ltxid }) alive [] (Some one) now (next_call after);
    }

pub reply_speaks : (terms : Terms) (talk : Talk) (state : Living) (frame : Down) (alive : Bool) (now : ℕ) → speaks (takes terms talk (Running state) frame alive now).1.send ≡ true → IsReplied frame (takes terms talk (Running state) frame alive now).1.shown
reply_speaks terms talk state (down.Reply answers draws ltxid) alive now says = replied_by terms talk state answers draws ltxid alive now (next_call talk) says
reply_speaks terms talk state down.Blocked alive now says = absurd (let none : ⊥ = cc in none)
reply_speaks terms talk state (down.Refused cause) alive now says = absurd (let none : ⊥ = cc in none)
reply_speaks terms talk state (down.Hello ltxid) alive now says = closes_silent alive says
reply_speaks terms talk state (down.OutcomeIs committed completed) alive now says = closes_silent alive says
reply_speaks terms talk state (down.OutcomeRefused ahead horizon) alive now says = closes_silent alive says

-- with the mark: its digest is the recorded one
pub record IsCompared (terms : Terms) (state : Repeating) (frame : Down) : Type 0 where
  pub answers : List Answer
  pub draws : List Draw
  pub ltxid : Ltxid
  pub frame_is : frame ≡ down.Reply answers draws ltxid
  pub one : Recorded
  pub next : next_of state ≡ Some one
  pub same : bytes_eq one.seen.digest (terms.digest answers) ≡ true

compared_by : (terms : Terms) (talk : Talk) (state : Repeating) (answers : List Answer) (draws : List Draw) (ltxid : Ltxid) (alive : Bool) (now : ℕ) (one : Option Recorded) → next_of state ≡ one
    → speaks (on_repeated terms talk state answers draws ltxid alive now one).1.send ≡ true → IsCompared terms state (down.Reply answers draws ltxid)
compared_by terms talk state answers draws ltxid alive now None next says = closes_silent alive says
compared_by terms talk state answers draws ltxid alive now (Some one) next says = by (bytes_eq one.seen.digest (terms.digest answers)) refl says
  where
    by : (same : Bool) → bytes_eq one.seen.digest (terms.digest answers) ≡ same
        → speaks (on_compared terms talk alive now (if same then Ok (verified_more state) else Err (mismatch state one.seen.digest (terms.digest answers)))).1.send ≡ true → IsCompared terms state (down.Reply answers draws ltxid)
    by true same says = record { answers = answers; draws = draws; ltxid = ltxid; frame_is = refl; one = one; next = next; same = same }
    by false same says = closes_silent alive says

pub compared_speaks : (terms : Terms) (talk : Talk) (state : Repeating) (frame : Down) (alive : Bool) (now : ℕ) → speaks (takes terms talk (Replaying state) frame alive now).1.send ≡ true → IsCompared terms state frame
compared_speaks terms talk state (down.Reply answers draws ltxid) alive now says = compared_by terms talk state answers draws ltxid alive now (next_of state) refl says
compared_speaks terms talk state down.Blocked alive now says = absurd (let none : ⊥ = cc in none)
compared_speaks terms talk state (down.Refused cause) alive now says = absurd (let none : ⊥ = cc in none)
compared_speaks terms talk state (down.Hello ltxid) alive now says = closes_silent alive says
compared_speaks terms talk state (down.OutcomeIs committed completed) alive now says = closes_silent alive says
compared_speaks terms talk state (down.OutcomeRefused ahead horizon) alive now says = closes_silent alive says

-- INPUTS ------------------------------------------------------------------------------------------

-- the inputs behind which a call is sent
pub data Speaks : Input → Type 0 where
  AtFrame : (frame : Down) (alive : Bool) → Speaks (Took frame alive)
  AtLent : (connection : ℕ) (ltxid : Ltxid) → Speaks (Lent connection ltxid)

waited_silent : {A : Type 0} (terms : Terms) (talk : Talk) (from now : ℕ) → speaks (on_waiting terms talk from now).1.send ≡ true → A
waited_silent {A = A} terms talk from now = by (nat_le terms.limits.wait (now - from))
  where
    by : (long : Bool) → speaks (if long then fails talk false None (PoolWait from now) else (stands talk (Queued (Some from)), quiet)).1.send ≡ true → A
    by true says = absurd (let none : ⊥ = cc in none)
    by false says = absurd (let none : ⊥ = cc in none)

tried_silent : {A : Type 0} (terms : Terms) (talk : Talk) (now : ℕ) → speaks (on_try_failed terms talk now).1.send ≡ true → A
tried_silent {A = A} terms talk now = by (nat_le terms.limits.retries (talk.tries + 1))
  where
    by : (many : Bool) → speaks (if many then fails (with_tried talk now) false None (Retries (talk.tries + 1)) else (stands (with_tried talk now) (Seeking (lost_of talk.phase)), quiet)).1.send ≡ true → A
    by true says = absurd (let none : ⊥ = cc in none)
    by false says = absurd (let none : ⊥ = cc in none)

pub input_speaks : (terms : Terms) (talk : Talk) (input : Input) (now : ℕ) → speaks (talk_step terms talk input now).1.send ≡ true → Speaks input
input_speaks terms talk (Took frame alive) now says = AtFrame frame alive
input_speaks terms talk (Lent connection ltxid) now says = AtLent connection ltxid
input_speaks terms talk Start now says = absurd (let none : ⊥ = cc in none)
input_speaks terms talk Waiting now says = waited_silent terms talk (waits_from talk.phase now) now says
input_speaks terms talk (Opened connection) now says = absurd (let none : ⊥ = cc in none)
input_speaks terms talk TryFailed now says = tried_silent terms talk now says
input_speaks terms talk (Gone event) now says = absurd (let none : ⊥ = cc in none)

-- WHAT IS RECORDED --------------------------------------------------------------------------------

get_behind : {A : Type 0} (xs ys : List A) (index place : ℕ) (y : A) → place ≡ length xs + index → slice_get ys index ≡ Some y → slice_get (xs ++ ys) place ≡ Some y
get_behind [] ys index place y at is = let same : place ≡ index = omega (arith, at) in ap (slice_get ys) same ∙ is
get_behind (x ∷ xs) ys index zero y at is = absurd (let none : ⊥ = omega (arith, at) in none)
get_behind (x ∷ xs) ys index (suc place) y at is = let less : place ≡ length xs + index = omega (arith, at) in get_behind xs ys index place y less is

got_mapped : {A B : Type 0} (f : A → B) (xs : List A) (index : ℕ) (y : B) → slice_get (map f xs) index ≡ Some y → (x : A) × (slice_get xs index ≡ Some x) × (f x ≡ y)
got_mapped f [] index y is = absurd (let none : ⊥ = cc in none)
got_mapped f (x ∷ xs) zero y is = (x, refl, (let same : f x ≡ y = cc in same))
got_mapped f (x ∷ xs) (suc index) y is = got_mapped f xs index y is

-- the digest of the recorded call that is repeated next is that of what was shown at its index
pub record IsRecorded (terms : Terms) (shown : List Shown) (index : ℕ) (one : Recorded) : Type 0 where
  pub before : Shown
  pub is : slice_get shown index ≡ Some before
  pub digest : terms.digest before.answers ≡ one.seen.digest

pub next_digest : (terms : Terms) (doing : Doing) (state : Repeating) (one : Recorded) → FitsNow terms doing → doing.talk.phase ≡ Replaying state → next_of state ≡ Some one
    → IsRecorded terms (account_now terms doing).shown (index_of state) one
next_digest terms doing state one now phase next = record {
  before = found.0;
  is = ap (λ (all : List Shown). slice_get all (index_of state)) tracked.recalls.shown ∙ get_behind tracked.recalls.before tracked.recalls.since state.verified (index_of state) found.0 place found.1;
  digest = found.2;
}
  where
    account : Account
    account = account_now terms doing

    fits : Fits terms doing.request.calls account now.gone (Replaying state)
    fits = subst (λ (p : Phase). Fits terms doing.request.calls account now.gone p) phase now.fits

    tracked : Tracked terms doing.request.calls account state.track
    tracked = fits.0.tracked

    recorded : state.track.recorder.calls ≡ account.since_purge
    recorded = tracked.recorded fits.1.no_reason

    within : state.verified < length state.track.recorder.calls
    within = slice_get_within state.track.recorder.calls state.verified one next

    digests : slice_get (map (λ (s : Shown). terms.digest s.answers) tracked.recalls.since) state.verified ≡ Some one.seen.digest
    digests =
        ap (λ (all : List (List ℕ)). slice_get all state.verified) (sym tracked.recalls.digests)
        ∙ get_mapped (λ (r : Recorded). r.seen.digest) account.since_purge state.verified one (subst (λ (calls : List Recorded). slice_get calls state.verified ≡ Some one) recorded next)

    found : (shown : Shown) × (slice_get tracked.recalls.since state.verified ≡ Some shown) × (terms.digest shown.answers ≡ one.seen.digest)
    found = got_mapped (λ (s : Shown). terms.digest s.answers) tracked.recalls.since state.verified one.seen.digest digests

    place : index_of state ≡ length tracked.recalls.before + state.verified
    place =
        let same : length state.track.recorder.calls ≡ length account.since_purge = ap (λ (calls : List Recorded). length calls) recorded in
        let call : state.track.call ≡ length account.shown = tracked.call in
        let long : length account.shown ≡ length tracked.recalls.before + length tracked.recalls.since = ap (λ (s : List Shown). length s) tracked.recalls.shown ∙ length-append tracked.recalls.before tracked.recalls.since in
        let many : length account.since_purge ≡ length tracked.recalls.since =
        sym (length-map account.since_purge (λ (r : Recorded). r.seen.digest)) ∙ (ap (λ (all : List (List ℕ)). length all) tracked.recalls.digests ∙ length-map tracked.recalls.since (λ (s : Shown). terms.digest s.answers)) in
        omega (arith, within, same, call, long, many)
