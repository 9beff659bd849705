-- How many rounds of the finish a request may still take.
use Rattle.std.specs.Prelude.{ℕ, ◌+◌, ◌-◌, ◌*◌, Bool, false, nat_lt, length, Option, Some, None, unwrap_or, if◌then◌else◌}
use Rattle.std.specs.Option.{option_map_or}
use Rattle.client_model.specs.Laws.{track_of}
use Rattle.client_model.specs.meaning.Terms.{Terms, Talk, Phase, Idle, Unbegun, Queued, Seeking, Greeting, Asked, Running, Replaying}

-- TICKS -------------------------------------------------------------------------------------------

-- until a request without a slot has waited too long
abbrev pub slot_wait : Terms → ℕ → Option ℕ → ℕ
slot_wait terms now from = terms.limits.wait - (now - unwrap_or from now)

-- until one whose last try failed may try again
abbrev pub try_wait : Terms → ℕ → Option ℕ → ℕ
try_wait terms now last = option_map_or (λ tick. terms.limits.delay - (now - tick)) last 0

-- It cannot step until a tick has passed, unless a slot comes back.
abbrev pub awaits_tick : Terms → ℕ → Talk → Phase → Bool
awaits_tick terms now talk (Queued None) = false
awaits_tick terms now talk (Queued (Some from)) = nat_lt 0 (slot_wait terms now (Some from))
awaits_tick terms now talk (Seeking lost) = nat_lt 0 (try_wait terms now talk.last_try)
awaits_tick terms now talk _ = false

-- ROUNDS ------------------------------------------------------------------------------------------

-- how many replays may still be started
abbrev pub replays_left : Terms → Phase → ℕ
replays_left terms phase = terms.limits.replays
    - option_map_or (λ track. track.replays) (track_of phase) 0

-- the most rounds from the moment at which a call or a replay is used up to the next loss, and on
-- to its outcome: each recorded call, the submitted one, the wait for a try, the connection, its
-- Hello and the outcome
abbrev pub attempt : Terms → ℕ
attempt terms = terms.recorded + (terms.limits.delay + 4)

-- The rounds in this phase and in those behind it, until a call or a replay is used up. On a
-- connection that has ended the next step is its loss, or leads to it. (In the finish no connection
-- ends but by Blocked, which answers a call.)
abbrev pub rounds_in : Terms → ℕ → Bool → Option ℕ → Phase → ℕ
rounds_in terms now opens last Idle = 0
rounds_in terms now opens last Unbegun = terms.limits.delay + (terms.limits.wait + 8)
rounds_in terms now opens last (Queued from) = terms.limits.delay + (slot_wait terms now from + 7)
rounds_in terms now opens last (Seeking None) = terms.limits.delay + (try_wait terms now last + 6)
rounds_in terms now opens last (Greeting None) =
    if opens then terms.limits.delay + 5 else terms.limits.delay + (terms.limits.delay + 7)
rounds_in terms now opens last (Seeking (Some lost)) = try_wait terms now last + 3
rounds_in terms now opens last (Greeting (Some lost)) = if opens then 2 else terms.limits.delay + 4
rounds_in terms now opens last (Asked asking) = if opens then 1 else terms.limits.delay + 4
rounds_in terms now opens last (Running state) = terms.limits.delay + 4
rounds_in terms now opens last (Replaying state) =
    terms.limits.delay + (4 + (length state.track.recorder.calls - state.verified))

-- All of it: each call that is left and each replay that is left is used up once.
abbrev pub rounds_by : Terms → ℕ → Bool → Option ℕ → ℕ → Phase → ℕ
rounds_by terms now opens last left phase =
    (left + replays_left terms phase) * attempt terms + rounds_in terms now opens last phase

abbrev pub talk_rounds : Terms → ℕ → Bool → Talk → ℕ
talk_rounds terms now opens talk = rounds_by terms now opens talk.last_try (length talk.left)
    talk.phase
