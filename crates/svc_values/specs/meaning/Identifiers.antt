-- Which logical transaction identifiers there are, and whose they are.
use Rattle.std.specs.Prelude.{ℕ, ◌==◌, Bool, ◌&&◌}
use Rattle.svc_values.specs.declared.entry.Ltxid.{Ltxid}
use Rattle.svc_values.specs.declared.entry.SessionId.{SessionId}

-- the identifier is one of this session of this incarnation
abbrev pub is_of : Ltxid → ℕ → ℕ → Bool
is_of x incarnation session = (x.incarnation == incarnation) && (x.session == session)

-- the two are one identifier
abbrev pub same_ltxid : Ltxid → Ltxid → Bool
same_ltxid x y = is_of x y.incarnation y.session && (x.number == y.number)

-- the two are one session
abbrev pub same_session : SessionId → SessionId → Bool
same_session a b = (a.incarnation == b.incarnation) && (a.session == b.session)

-- the session of an identifier
abbrev pub session_of : Ltxid → SessionId
session_of x = record { incarnation = x.incarnation; session = x.session }

-- the identifier is one of this session
abbrev pub is_of_session : SessionId → Ltxid → Bool
is_of_session session x = same_session (session_of x) session

-- the session's identifier of this number
abbrev pub ltxid_of : SessionId → ℕ → Ltxid
ltxid_of session number = record {
  incarnation = session.incarnation;
  session = session.session;
  number = number;
}
