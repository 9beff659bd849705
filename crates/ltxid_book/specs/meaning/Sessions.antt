-- What a book says: of each session how many commits it made, whether its next identifier is
-- blocked and what its last commit was, and below which incarnation sessions are forgotten.
use Rattle.std.specs.Prelude.{ℕ, ◌==◌, ◌&&◌, Bool, false, not, nat_lt, if◌then◌else◌}
use Rattle.svc_values.specs.declared.entry.Ltxid.{Ltxid}
use Rattle.ltxid_book.specs.declared.State.{State}

pub record Sessions : Type 0 where
  pub horizon : ℕ
  pub state : ℕ → ℕ → State

-- a session that never committed and is not blocked
abbrev pub untouched : State
untouched = record { next = 0; blocked = false; completed = false }

-- These states of sessions, of which those of incarnations below the horizon are forgotten: nothing
-- is said of them, as if they were untouched.
abbrev pub known_from : ℕ → (ℕ → ℕ → State) → Sessions
known_from horizon state = record {
  horizon = horizon;
  state = λ incarnation session. if nat_lt incarnation horizon then untouched else
      state incarnation session;
}

-- the sessions of this incarnation are forgotten
abbrev pub is_forgotten : Sessions → ℕ → Bool
is_forgotten sessions incarnation = nat_lt incarnation sessions.horizon

-- the identifier is its session's next one and is not blocked
abbrev pub can_commit : Sessions → Ltxid → Bool
can_commit sessions x =
    let state = sessions.state x.incarnation x.session in
    (x.number == state.next) && not state.blocked

-- a transaction of this identifier may commit, and so it may be blocked: its session is not
-- forgotten either
abbrev pub may_commit : Sessions → Ltxid → Bool
may_commit sessions x = not (is_forgotten sessions x.incarnation) && can_commit sessions x
