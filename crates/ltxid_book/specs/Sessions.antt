-- What a book says: of each session how many commits it made, whether its next identifier is
-- blocked and what its last commit was, and below which incarnation sessions are forgotten. Here is
-- what contracts and proofs say of it besides.
use Rattle.std.specs.Prelude.{ℕ, ◌+◌, ◌==◌, ◌&&◌, Bool, true, false, max, List, unwrap_or, if◌then◌else◌}
use Rattle.std.specs.Map.{lookup}
use Rattle.svc_values.specs.declared.entry.Ltxid.{Ltxid}
use Rattle.ltxid_book.specs.declared.State.{State}
use Rattle.svc_values.specs.meaning.Identifiers.{is_of}
use Rattle.ltxid_book.specs.meaning.Sessions.{Sessions, known_from, untouched}

-- before anything is said
abbrev pub none_yet : Sessions
none_yet = record { horizon = 0; state = λ incarnation session. untouched }

-- the identifier's session has this state, and each other session the one that it had
abbrev pub with_state : Sessions → Ltxid → State → Sessions
with_state sessions x state = record sessions {
  state =
      λ incarnation session. if is_of x incarnation session then state else
      sessions.state incarnation session;
}

-- after a commit the session is at its next identifier, which is not blocked
abbrev pub after_commit : Sessions → Ltxid → Bool → Sessions
after_commit sessions x completed = with_state sessions x (record {
  next = x.number + 1;
  blocked = false;
  completed = completed;
})

-- after a block the session is where it was, and its next identifier is blocked
abbrev pub after_block : Sessions → Ltxid → Sessions
after_block sessions x = with_state sessions x
    (record (sessions.state x.incarnation x.session) { blocked = true })

-- the sessions of all incarnations below this one are forgotten too
abbrev pub after_forgetting : Sessions → ℕ → Sessions
after_forgetting sessions below = known_from (max sessions.horizon below) sessions.state

-- ---- a book

-- what it holds: its horizon, and the states of the sessions that committed or were blocked
pub record Contents : Type 0 where
  pub horizon : ℕ
  pub sessions : List ((ℕ × ℕ) × State)

-- what it holds for a session, and else that the session is untouched
abbrev pub state_in : List ((ℕ × ℕ) × State) → ℕ → ℕ → State
state_in sessions incarnation session = unwrap_or
    (lookup (λ key. (incarnation == key.0) && (session == key.1)) sessions) untouched

-- what it says
abbrev pub sessions_in : Contents → Sessions
sessions_in book = known_from book.horizon (state_in book.sessions)
