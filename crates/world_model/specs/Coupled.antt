-- What a state of the machine and what is seen of the service have in common, at each moment
-- between two events.
use Rattle.std.specs.Prelude.{◌≡◌, ◌⊎◌, ◌||◌, ◌+◌, ◌<◌, ◌≤◌, ℕ, true, false, List, [], length, count_by, fold, Option, Some, None, if◌then◌else◌}
use Rattle.svc_values.specs.declared.entry.Entry.{Entry}
use Rattle.svc_values.specs.declared.entry.Ltxid.{Ltxid}
use Rattle.svc_values.specs.declared.entry.SessionId.{SessionId}
use Rattle.svc_values.specs.meaning.Identifiers.{same_session, session_of}
use Rattle.ltxid_book.specs.meaning.Journal.{is_blocked}
use Rattle.server_model.specs.Base.{IsSound}
use Rattle.server_model.specs.Laws.{stops_last}
use Rattle.server_model.specs.Runs.{Happened}
use Rattle.server_model.specs.Seen.{Seen, IsHistory}
use Rattle.server_model.specs.Sessions.{Life, New}
use Rattle.server_model.specs.ToldRight.{life_in, life_behind, lives_after}
use Rattle.world_model.specs.meaning.Frames.{Handled}
use Rattle.world_model.specs.meaning.Links.{Link, link_at}
use Rattle.world_model.specs.meaning.Machines.{Server}
use Rattle.world_model.specs.Traced.{Traced}

-- the session of a connection that lives, if it is one
abbrev pub living_of : Option Link → Option (Option SessionId)
living_of None = None
living_of (Some link) = if link.is_living then Some link.session else None

-- how many of the entries are of this session
abbrev pub entries_in : List Entry → SessionId → ℕ
entries_in entries session = count_by (λ entry. same_session (session_of entry.ltxid) session)
    entries

-- a session that lives has stored what it answered Committed, and no more
abbrev pub HasStored : List Entry → Option (Option SessionId) → ℕ → Type 0
HasStored entries (Some (Some session)) commits = entries_in entries session ≡ commits
HasStored entries (Some None) commits = commits ≡ 0
HasStored entries None commits = Unit {0}

-- where a session is in its life by a history
abbrev pub life_by : List Happened → SessionId → Life
life_by history session = life_in (fold lives_after [] history) session

-- where it is by the frames that it served, each of them in order
abbrev pub life_of : List Handled → Life
life_of served = fold (λ life one. life_behind one.sent.frame life) New served

-- a session that lives is by the history where the frames of its connection led it
abbrev pub HasLived : List Happened → Option (Option SessionId) → Life → Type 0
HasLived history (Some (Some session)) life = life_by history session ≡ life
HasLived history (Some None) life = Unit {0}
HasLived history None life = Unit {0}

-- the session is made later: in an incarnation to come, or in this one behind those that were made
abbrev pub IsLater : Server → SessionId → Type 0
IsLater server session = (server.incarnation < session.incarnation) ⊎ ((server.is_up ≡ true)
    × ((session.incarnation ≡ server.incarnation) × (server.sessions < session.session)))

-- The incarnation is that of the store. While the server is down openings may have been stopped
-- that stored theirs.
pub record SameServer (server : Server) (seen : Seen) : Type 0 where
  pub is_up : server.is_up ≡ seen.state.is_up
  pub per_record : server.per_record ≡ seen.state.per_record
  pub opened : seen.state.is_up ≡ true → (server.incarnation ≡ seen.state.store.incarnation)
      × ((server.sessions ≡ seen.state.sessions) × (server.stopped ≡ 0))
  pub closed : seen.state.is_up ≡ false → (server.incarnation ≤ seen.state.store.incarnation)
      × (seen.state.store.incarnation ≤ server.incarnation + server.stopped)

pub record Coupled (seen : Seen) (t : Traced) : Type 0 where
  pub history : IsHistory seen
  pub sound : IsSound seen.start
  -- nothing was served in an opening behind a frame that was stopped
  pub stops : stops_last seen.history ≡ true
  pub server : SameServer t.machine.server seen
  -- the connections that live, with their sessions
  pub living : (number : ℕ) → seen.state.living number ≡ living_of (link_at t.machine.links number)
  pub stored : (number : ℕ) (link : Link) → link_at t.machine.links number ≡ Some link
      → HasStored seen.state.store.entries (living_of (Some link)) link.commits
  -- each session that lives is where its frames led it, and one that is made later is not in the
  -- history
  pub lives : (number : ℕ) (link : Link) → link_at t.machine.links number ≡ Some link
      → HasLived seen.history (living_of (Some link)) (life_of link.served)
  pub later : (session : SessionId) → IsLater t.machine.server session
      → life_by seen.history session ≡ New
  -- the journal
  pub entries : t.entries ≡ seen.state.store.entries
  pub blocked : t.blocked ≡ seen.state.store.blocked
  pub image : t.image ≡ length seen.start.entries
  -- a block was told, or a stopped frame asked for it
  pub blocks : (x : Ltxid) → is_blocked t.blocked x ≡ true
      → (is_blocked t.machine.server.blocked x || is_blocked t.machine.server.doubtful x) ≡ true
