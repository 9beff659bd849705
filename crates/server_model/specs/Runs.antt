-- A history of the plain server: what happened, one thing after the other, and where the server
-- stands then.
use Rattle.std.specs.Prelude.{◌≡◌, ◌<◌, ◌≤◌, ◌⊎◌, ◌+◌, ◌^◌, max, ℕ, Bool, true, false, IsTrue, List, [], ◌∷◌, ◌++◌}
use Rattle.svc_values.specs.declared.entry.Ltxid.{Ltxid}
use Rattle.svc_values.specs.declared.frame.Up.{Up}
use Rattle.svc_values.specs.declared.frame.Down.{Down}
use Rattle.server_model.specs.meaning.Base.{Base}
use Rattle.server_model.specs.Core.{Core, core_of, opening_after}
use Rattle.svc_values.specs.declared.entry.SessionId.{SessionId}
use Rattle.svc_values.specs.meaning.Identifiers.{session_of}
use Rattle.server_model.specs.Sessions.{Sess, made, ended}
use Rattle.server_model.specs.meaning.Outcomes.{Telling, Silent, Says, Stopped}
use Rattle.server_model.specs.Outcomes.{Outcomes}
use Rattle.server_model.specs.Serve.{Serve}

-- A frame that was served, with its session, its tick and what was told; and an identifier that was
-- asked from outside.
pub data Happened : Type 0 where
  Served : (session : SessionId) (now : ℕ) (frame : Up) (told : Telling) → Happened
  Asked : (x : Ltxid) (told : Telling) → Happened

-- Halted: the store was stopped in a call, and what the call still had to do is told to nobody.
pub data Power : Type 0 where
  Off : Power
  On : Power
  Halted : Power

-- The whole server: its core, the sessions that were made since it was opened and not reaped, and
-- how many were made.
pub record Server : Type 0 where
  pub power : Power
  pub core : Core
  pub sessions : List Sess
  pub count : ℕ

-- as it is made
abbrev pub server_of : Base → Server
server_of base = record { power = Off; core = core_of base; sessions = []; count = 0 }

abbrev pub is_answered : Telling → Bool
is_answered Silent = true
is_answered (Says frame) = true
is_answered Stopped = false

abbrev pub is_running : Power → Bool
is_running Off = false
is_running On = true
is_running Halted = true

-- the session that the server makes next
abbrev pub next_session : Server → Sess
next_session server = made (record {
  incarnation = server.core.opening.incarnation;
  session = server.count + 1;
})

abbrev pub reopened_core : Core → Core
reopened_core core = record core {
  opening =
      opening_after core.opening (core.opening.incarnation + 1);
}

-- the outcomes of all incarnations below this one are forgotten too
abbrev pub forgetting : Core → ℕ → Core
forgetting core below = record core { horizon = max core.horizon below }

-- The next incarnation can be spelled in eight bytes, and at most the incarnations so far are to be
-- forgotten: their sessions have ended.
pub record MayOpen (core : Core) (below : ℕ) : Type 0 where
  pub spelled : core.opening.incarnation + 1 < 2 ^ 64
  pub forgets : below ≤ core.opening.incarnation + 1

-- One session of the server, with those before and behind it, comes to be another, and the core
-- too.
pub record Turns (before after : Server) (old new : Sess) (core : Core)
    (power : Power) : Type 0 where
  pub front : List Sess
  pub back : List Sess
  pub split : before.sessions ≡ front ++ old ∷ back
  pub turned : after ≡ record {
    power = power;
    core = core;
    sessions = front ++ new ∷ back;
    count = before.count;
  }

-- How the server goes on, and what of it stands in the history.
pub data Moves (server : Server) : List Happened → Server → Type 0 where
  -- a connection's first frame and a run from outside make a session
  Makes : server.power ≡ On → Moves server []
      (record server {
        sessions = server.sessions ++ next_session server ∷ [];
        count =
            server.count + 1;
      })
  Answers : (old new : Sess) (now : ℕ) (frame : Up) (core : Core) (told : Telling) (after : Server)
      → server.power ≡ On → Serve server.core old now frame core new told
      → IsTrue (is_answered told)
      → Turns server after old new core On
      → Moves server (Served (session_of old.ltxid) now frame told ∷ []) after
  -- a stop in the frame, or behind it and before its answer went out
  Halts : (old new : Sess) (now : ℕ) (frame : Up) (core : Core) (told : Telling) (after : Server)
      → IsTrue (is_running server.power) → Serve server.core old now frame core new told
      → Turns server after old new core Halted
      → Moves server (Served (session_of old.ltxid) now frame Stopped ∷ []) after
  -- a frame behind a stop of the same call, of which nothing stands
  Loses : (old : Sess) (now : ℕ) (frame : Up) (after : Server) → server.power ≡ Halted
      → Turns server after old (ended old) server.core Halted
      → Moves server (Served (session_of old.ltxid) now frame Stopped ∷ []) after
  AnswersAsk : (x : Ltxid) (core : Core) (frame : Down) → server.power ≡ On
      → Outcomes server.core x core (Says frame) → Moves server (Asked x (Says frame) ∷ [])
      (record server { core = core })
  HaltsInAsk : (x : Ltxid) (core : Core) (told : Telling) → IsTrue (is_running server.power)
      → Outcomes server.core x core told
      → Moves server (Asked x Stopped ∷ []) (record server { power = Halted; core = core })
  Reaps : (front back : List Sess) (sess : Sess) → server.sessions ≡ front ++ sess ∷ back
      → Moves server [] (record server { sessions = front ++ back })
  -- a crash ends all sessions. What it leaves of a stopped call is chosen in the move of that call
  Falls : Moves server [] (record { power = Off; core = server.core; sessions = []; count = 0 })
  -- an opening stores the horizon that is wanted, and then its incarnation
  Opens : (below : ℕ) → server.power ≡ Off → MayOpen server.core below → Moves server [] (record {
    power = On;
    core = reopened_core (forgetting server.core below);
    sessions = [];
    count = 0;
  })
  -- one that is stopped has stored neither, the horizon or both
  StopsOpening : (below : ℕ) (core : Core) → server.power ≡ Off → MayOpen server.core below
      → (core ≡ server.core) ⊎ ((core ≡ forgetting server.core below) ⊎
      (core ≡ reopened_core (forgetting server.core below)))
      → Moves server [] (record { power = Off; core = core; sessions = []; count = 0 })

-- a whole history, from the server as it was made
pub data Runs (base : Base) : List Happened → Server → Type 0 where
  Start : Runs base [] (server_of base)
  Then : (history more : List Happened) (server after : Server) → Runs base history server
      → Moves server more after → Runs base (history ++ more) after
