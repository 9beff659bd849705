-- The session that serves a connection, and what stands beside it.
use Rattle.std.proofs.Common.{◌≡◌, ◌≢◌, ◌∙◌, ◌+◌, ◌≤◌, ℕ, Bool, true, refl, sym, ap, subst, List, [], ◌∷◌, ◌++◌, inl, inr, append-nil, arith}
use Rattle.std.proofs.lemmas.Bool.Decides.{nat_tests}
use Rattle.std.specs.Prelude.{nat_eq, Option, Some, None, Result, IfOk, if◌then◌else◌}
use Rattle.disk_model.specs.Disk.{DiskState}
use Rattle.svc_values.specs.declared.entry.SessionId.{SessionId}
use Rattle.svc_values.specs.declared.frame.Up.{Up}
use Rattle.svc_values.specs.meaning.Identifiers.{session_of}
use Rattle.mutable_values.specs.declared.grants.Grants.{Grants}
use Rattle.mutable_values.specs.Sources.{Opening}
use Rattle.commit_log.specs.declared.journal.Journal.{Journal}
use Rattle.commit_log.specs.meaning.Bases.{shape_of, start_of}
use Rattle.stmt_meaning.specs.meaning.Reads.{Read}
use Rattle.table_txn.specs.Readings.{AreReadings}
use Rattle.server_model.specs.meaning.Base.{Base}
use Rattle.server_model.specs.Core.{Core as Plain}
use Rattle.server_model.specs.meaning.Outcomes.{Telling}
use Rattle.server_model.specs.Runs.{Happened, Server, Runs, Then, Makes, next_session}
use Rattle.server_model.specs.Seen.{Store}
use Rattle.server_model.specs.ServiceCalls.{SessionOf}
use Rattle.server_model.specs.Sessions.{Sess}
use Rattle.server_model.proofs.Offered.{serve_stays}
use Rattle.server_session.specs.declared.shared.Core.{Core}
use Rattle.server_session.specs.Fits.{Fits}
use Rattle.server_session.specs.Plain.{IsStored, IsPlain}
use Rattle.server_session.specs.SeenSession.{SeenSession as Session, sess_of}
use Rattle.server_session.specs.Serving.{HasServed, served_as}
use Rattle.service_core.specs.declared.notes.Notes.{Notes}
use Rattle.service_core.specs.Held.{Held, held_at, Holds, id_of, shown}
use Rattle.service_core.specs.Seeing.{Attends, Came, StandsUp, state_of, store_of}
use Rattle.service_core.specs.Sound.{IsHeld, IsUp, unmade}
use Rattle.service_core.specs.Taking.{IsSessionOf}
use Rattle.service_core.proofs.Splits.{Between, more_between}
use Rattle.service_core.proofs.Standing.{HasNoMore, none_more, seen_with}
use Rattle.service_core.specs.InnerHonest.{store_is}

-- ---- a plain server's core

-- one stands beside every core that fits its disk: as if all had been there when the service was
-- made
plain_of : Core → Journal → Plain
plain_of core journal = record {
  base = record { shape = shape_of journal.base; sequences = []; grants = core.grants; tables = start_of journal.base; entries = []; blocked = []; alerts = []; incarnation = 0; horizon = 0 };
  opening = core.source;
  entries = journal.entries;
  blocked = journal.blocked;
  alerts = journal.alerts;
  horizon = journal.horizon;
}

-- a core of the plain server that stands beside
pub record HasPlain (core : Core) (disk : DiskState) : Type 0 where
  pub plain : Plain
  pub stands : IsPlain plain core disk

pub has_plain : (core : Core) (disk : DiskState) → Fits core disk → HasPlain core disk
unfolding plain_of
has_plain core disk fits = record {
  plain = plain_of core fits.journal;
  stands = record { stored = subst (λ (r : Result Journal ℕ). IfOk r (IsStored (plain_of core fits.journal))) (sym fits.reads) stored; opening = refl; grants = refl };
}
  where
    stored : IsStored (plain_of core fits.journal) fits.journal
    stored = record { shape = refl; entries = refl; blocked = refl; alerts = refl; horizon = refl; tables = refl; source = record { incarnation = fits.source.incarnation; sequences = fits.source.sequences } }

-- ---- the session

-- the session that serves is one of a living connection
pub taken_held : (grants : Grants) (disk : DiskState) (core : Core) (held : Held) (notes : Notes) (connection : ℕ) (session : Session) (made : ℕ) → IsUp grants disk core held notes
    → IsSessionOf core held notes.sessions connection session made → IsHeld core made session
taken_held grants disk core held notes connection session made up (inl is) =
    let one = up.each connection session is.0 in
    record { reads = one.reads; noted = one.noted; belongs = one.belongs; lives = one.lives; numbered = omega (arith, one.numbered, is.1) }
taken_held grants disk core held notes connection session made up (inr is) =
    subst (λ (s : Session). IsHeld core made s) (sym is.1) new
  where
    new : IsHeld core made (unmade core (notes.sessions + 1))
    new = record { reads = []; noted = λ at. tt; belongs = up.unmade_belong (notes.sessions + 1) (omega arith); lives = refl; numbered = omega (arith, is.2) }

-- it has committed no more often than calls were made
pub taken_counted : (grants : Grants) (disk : DiskState) (core : Core) (held : Held) (notes : Notes) (connection : ℕ) (session : Session) (made : ℕ) → IsUp grants disk core held notes
    → IsSessionOf core held notes.sessions connection session made → session.ltxid.number ≤ notes.calls
taken_counted grants disk core held notes connection session made up (inl is) = up.counted connection session is.0
taken_counted grants disk core held notes connection session made up (inr is) = let none : session.ltxid.number ≡ 0 = ap (λ (s : Session). s.ltxid.number) is.1 in omega (arith, none)

pub not_fewer : (core : Core) (held : Held) (sessions connection : ℕ) (session : Session) (made : ℕ) → IsSessionOf core held sessions connection session made → (sessions ≤ made) × (made ≤ sessions + 1)
not_fewer core held sessions connection session made (inl is) = (omega (arith, is.1), omega (arith, is.1))
not_fewer core held sessions connection session made (inr is) = (omega (arith, is.2), omega (arith, is.2))

-- its connection has none where it was taken out
left_at : (connection : ℕ) (held rest : Held) → Holds connection (Some None) held rest → held_at rest connection ≡ Some None
left_at connection held rest left = left connection ∙ ap (λ (b : Bool). if b then Some None else held_at held connection) (itself connection)
  where
    itself : (a : ℕ) → nat_eq a a ≡ true
    itself a = grind (arith, nat_tests)

-- and lives on
pub lives_on : (connection : ℕ) (held rest : Held) → Holds connection (Some None) held rest → held_at rest connection ≢ None
lives_on connection held rest left none = let e : ◌≡◌ {A = Option (Option Session)} (Some None) None = sym (left_at connection held rest left) ∙ none in cc

none_at : (connection other : ℕ) (session : Session) (held rest : Held) → Holds connection (Some None) held rest → held_at rest other ≡ Some (Some session) → other ≡ connection → ⊥
none_at connection other session held rest left at same =
    let e : ◌≡◌ {A = Option (Option Session)} (Some None) (Some (Some session)) = sym (left_at connection held rest left) ∙ ap (held_at rest) (sym same) ∙ at in
    let none : ⊥ = cc in none

-- the sessions of the other connections are others
pub others_apart : (grants : Grants) (disk : DiskState) (core : Core) (held rest : Held) (notes : Notes) (connection other : ℕ) (session another : Session) (made : ℕ) → IsUp grants disk core held notes
    → IsSessionOf core held notes.sessions connection session made → Holds connection (Some None) held rest → held_at rest other ≡ Some (Some another) → another.ltxid.session ≢ session.ltxid.session
others_apart grants disk core held rest notes connection other session another made up (inl is) left at same =
    none_at connection other another held rest left at (up.apart connection other session another is.0 (none_more connection held rest left other another at) same)
others_apart grants disk core held rest notes connection other session another made up (inr is) left at same =
    let one = up.each other another (none_more connection held rest left other another at) in
    let number : session.ltxid.session ≡ notes.sessions + 1 = ap (λ (s : Session). s.ltxid.session) is.1 in
    let none : ⊥ = omega (arith, one.numbered, number, same) in none

-- ---- what a frame leaves as it is, whatever was seen before

pub record StaysSo (core later : Core) (session new : Session) : Type 0 where
  pub grants : later.grants ≡ core.grants
  pub incarnation : later.source.incarnation ≡ core.source.incarnation
  pub number : new.ltxid.session ≡ session.ltxid.session
  pub reads : List Read
  pub noted : AreReadings new.txn.readings reads

pub stays_so : (frame : Up) (now most : ℕ) (told : Telling) (core later : Core) (disk end : DiskState) (session new : Session) (reads : List Read) → AreReadings session.txn.readings reads → Fits core disk
    → HasServed (served_as frame now) most told session core disk new later end → StaysSo core later session new
stays_so frame now most told core later disk end session new reads noted fits served =
    let beside = has_plain core disk fits in
    let steps = served.steps beside.plain reads beside.stands noted in
    let stays = serve_stays beside.plain (sess_of session reads) now frame steps.0 (sess_of new steps.1.1.reads) told steps.1.1.steps in
    record {
      grants = sym steps.1.0.grants ∙ ap (λ (b : Base). b.grants) stays.base ∙ beside.stands.grants;
      incarnation = ap (λ (o : Opening). o.incarnation) (sym steps.1.0.opening) ∙ stays.incarnation ∙ ap (λ (o : Opening). o.incarnation) beside.stands.opening;
      number = ap (λ (s : SessionId). s.session) stays.session;
      reads = steps.1.1.reads;
      noted = steps.1.1.noted;
    }

-- ---- the plain server

-- The plain server with the session that serves among its own, and those of the other connections.
pub record IsReady (disk : DiskState) (core : Core) (rest : Held) (made : ℕ) (session : Session) (server : Server) : Type 0 where
  pub stands : StandsUp disk core rest made server
  pub own : Attends server.sessions session

between_of : (sessions : List Sess) (session : Session) (attends : Attends sessions session) → Between sessions (sess_of session attends.reads)
between_of sessions session attends = record { front = attends.front; back = attends.back; split = attends.split }

pub attends_more : (sessions : List Sess) (last : Sess) (session : Session) → Attends sessions session → Attends (sessions ++ last ∷ []) session
attends_more sessions last session attends =
    let more = more_between sessions (sess_of session attends.reads) last (between_of sessions session attends) in
    record { reads = attends.reads; noted = attends.noted; front = more.front; back = more.back; split = more.split }

-- the plain server makes the next session
pub next_ready : (disk : DiskState) (core : Core) (held rest : Held) (sessions : ℕ) (start : Base) (history : List Happened) → HasNoMore held rest → Came start history (StandsUp disk core held sessions)
    → Came start history (IsReady disk core rest (sessions + 1) (unmade core (sessions + 1)))
next_ready disk core held rest sessions start history fewer came =
    record {
      server = with_next;
      runs = subst (λ (h : List Happened). Runs start h with_next) (append-nil history) (Then history [] came.server with_next came.runs (Makes came.stands.power));
      is_base = came.is_base;
      stands = record {
        stands = record {
          power = came.stands.power;
          plain = came.stands.plain;
          count = ap (λ n. n + 1) came.stands.count;
          attends = λ other another at. attends_more came.server.sessions (next_session came.server) another (came.stands.attends other another (fewer other another at));
        };
        own = record { reads = []; noted = λ at. tt; front = came.server.sessions; back = []; split = ap (λ (s : Sess). came.server.sessions ++ s ∷ []) next_is };
      };
    }
  where
    with_next : Server
    with_next = record came.server { sessions = came.server.sessions ++ next_session came.server ∷ []; count = came.server.count + 1 }

    next_is : next_session came.server ≡ sess_of (unmade core (sessions + 1)) []
    next_is = λ i. next_session (record came.server { core = record came.server.core { opening = came.stands.plain.opening i }; count = came.stands.count i })

module _ (grants : Grants) (disk : DiskState) (core : Core) (held rest : Held) (notes : Notes) (connection : ℕ) (session : Session) (made : ℕ) (start : Base) (history : List Happened) (left : Holds connection (Some None) held rest) where
  pub made_ready : IsSessionOf core held notes.sessions connection session made → Came start history (StandsUp disk core held notes.sessions) → Came start history (IsReady disk core rest made session)
  made_ready (inl is) came = record {
    server = came.server;
    runs = came.runs;
    is_base = came.is_base;
    stands = record {
      stands = record { power = came.stands.power; plain = came.stands.plain; count = came.stands.count ∙ sym is.1; attends = λ other another at. came.stands.attends other another (none_more connection held rest left other another at) };
      own = came.stands.attends connection session is.0;
    };
  }
  made_ready (inr is) came = subst (λ (s : Session). Came start history (IsReady disk core rest made s)) (sym is.1) (subst (λ n. Came start history (IsReady disk core rest n (unmade core (notes.sessions + 1)))) (sym is.2) (next_ready disk core held rest notes.sessions start history (none_more connection held rest left) came))

-- ---- what is shown of it

pub incarnation_is : (grants : Grants) (disk : DiskState) (core : Core) (held : Held) (notes : Notes) → IsUp grants disk core held notes → (store_of disk.now.seen).incarnation ≡ core.source.incarnation
incarnation_is grants disk core held notes up = ap (λ (s : Store). s.incarnation) (store_is disk.now.seen up.fits.journal up.fits.reads) ∙ sym up.fits.source.incarnation

pub session_shown : (grants : Grants) (disk : DiskState) (core : Core) (held : Held) (notes : Notes) (connection : ℕ) (session : Session) (made : ℕ) (start : Base) (history : List Happened) → IsUp grants disk core held notes
    → IsSessionOf core held notes.sessions connection session made → SessionOf (seen_with start history (state_of disk (Some core) held notes)) connection (session_of session.ltxid) made
session_shown grants disk core held notes connection session made start history up (inl is) = inl (ap shown is.0, is.1)
session_shown grants disk core held notes connection session made start history up (inr is) =
    inr (ap shown is.0, ap id_of is.1 ∙ ap (λ n. record { incarnation = n; session = notes.sessions + 1 }) (sym (incarnation_is grants disk core held notes up)), is.2)
