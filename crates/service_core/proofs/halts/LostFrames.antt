-- Frames that count as stopped before their answers, one after the other: what the plain server has
-- come to.
use Rattle.std.proofs.Common.{◌≡◌, ◌≢◌, ◌∙◌, ◌⊎◌, ◌+◌, ℕ, refl, sym, ap, subst, inl, inr, List, [], ◌∷◌, ◌++◌, map, append_assoc, append-nil}
use Rattle.std.proofs.lemmas.List.{map-append}
use Rattle.std.proofs.lemmas.List.Elements.{All-nil}
use Rattle.std.specs.Prelude.{IsTrue, Result, IfOk}
use Rattle.disk_model.specs.Disk.{DiskState}
use Rattle.svc_values.specs.declared.entry.SessionId.{SessionId}
use Rattle.svc_values.specs.declared.frame.Up.{Up}
use Rattle.svc_values.specs.meaning.Calls.{sequences_in}
use Rattle.svc_values.specs.meaning.Identifiers.{session_of}
use Rattle.mutable_values.specs.declared.grants.Grants.{Grants}
use Rattle.commit_log.specs.declared.journal.Journal.{Journal}
use Rattle.commit_log.specs.declared.records.Record.{Record}
use Rattle.commit_log.specs.Growth.{HasAdded}
use Rattle.commit_log.proofs.Offered.{adds_on, has_itself}
use Rattle.server_model.specs.meaning.Base.{Base}
use Rattle.server_model.specs.meaning.Outcomes.{Stopped, Telling}
use Rattle.server_model.specs.Runs.{Happened, Runs, Served, Server, Halted, Then, Halts, is_running}
use Rattle.server_model.specs.Seen.{Store}
use Rattle.server_model.specs.ServiceCalls.{CameFrom, Gains, WasAsked}
use Rattle.server_model.proofs.Offered.{serve_stays, stopped_adds}
use Rattle.server_session.specs.declared.shared.Core.{Core}
use Rattle.server_session.specs.Plain.{IsPlain, IsStored}
use Rattle.server_session.specs.SeenSession.{SeenSession as Session, sess_of}
use Rattle.server_session.specs.Serving.{HasServed, served_as}
use Rattle.service_core.specs.declared.notes.Notes.{Notes}
use Rattle.service_core.specs.Held.{Held}
use Rattle.service_core.specs.Seeing.{Attends, Came, store_of}
use Rattle.service_core.specs.Through.{Item, item, Through, Still, Then as Next}
use Rattle.service_core.proofs.Beside.{IsBeside, gains_on, through_beside}
use Rattle.service_core.proofs.Gained.{adds_between}

abbrev no_items : List Item
no_items = []

-- what of them stands in a history
abbrev pub lost_in : SessionId → ℕ → List Item → List Happened
lost_in session now items = map (λ one. Served session now one.frame Stopped) items

-- with one more
pub lost_more : (id other : SessionId) (now : ℕ) (history : List Happened) (items : List Item) (frame : Up) (told : Telling) → other ≡ id → (history ++ lost_in id now items) ++ Served other now frame Stopped ∷ [] ≡ history ++ lost_in id now (items ++ item frame told ∷ [])
lost_more id other now history items frame told same =
    ap (λ (s : SessionId). (history ++ lost_in id now items) ++ Served s now frame Stopped ∷ []) same
    ∙ append_assoc history (lost_in id now items) (Served id now frame Stopped ∷ [])
    ∙ ap (λ (l : List Happened). history ++ l) (sym (map-append (λ (i : Item). Served id now i.frame Stopped) items (item frame told ∷ [])))

pub lost_last : (id other : SessionId) (now : ℕ) (items : List Item) (frame : Up) (told : Telling) → other ≡ id → lost_in id now items ++ Served other now frame Stopped ∷ [] ≡ lost_in id now (items ++ item frame told ∷ [])
lost_last id other now items frame told same =
    ap (λ (s : SessionId). lost_in id now items ++ Served s now frame Stopped ∷ []) same ∙ sym (map-append (λ (i : Item). Served id now i.frame Stopped) items (item frame told ∷ []))

-- The plain server stands beside the disk, running or halted, with the session.
pub record StandsLost (disk : DiskState) (core : Core) (session : Session) (server : Server) : Type 0 where
  pub running : IsTrue (is_running server.power)
  pub plain : IsPlain server.core core disk
  pub own : Attends server.sessions session

-- What it comes to, with what the store gains.
pub record Lost (start : Base) (history more : List Happened) (disk : DiskState) (later : Core) (end : DiskState) (new : Session) (id : SessionId) : Type 0 where
  pub came : Came start (history ++ more) (StandsLost end later new)
  pub gains : Gains more (store_of disk.now.seen) (store_of end.now.seen)
  pub same : session_of new.ltxid ≡ id

-- ---- one frame

module _ (grants : Grants) (frame : Up) (now : ℕ) (told : Telling) (core later : Core) (disk end : DiskState) (held : Held) (notes : Notes) (session new : Session) (beside : IsBeside grants disk core held notes session)
    (served : HasServed (served_as frame now) (1 + sequences_in frame) told session core disk new later end) (start : Base) (history : List Happened) (ready : Came start history (StandsLost disk core session)) where
  halted_after : Server
  halted_after =
      let steps = served.steps ready.server.core ready.stands.own.reads ready.stands.plain ready.stands.own.noted in
      record { power = Halted; core = steps.0; sessions = ready.stands.own.front ++ sess_of new steps.1.1.reads ∷ ready.stands.own.back; count = ready.server.count }

  pub lost_on : (lost : Lost start history (Served (session_of session.ltxid) now frame Stopped ∷ []) disk later end new (session_of session.ltxid)) × (lost.came.server.power ≡ Halted)
  unfolding halted_after
  lost_on =
      let own = ready.stands.own in
      let steps = served.steps ready.server.core own.reads ready.stands.plain own.noted in
      let step = steps.1.1.steps in
      let old_sess = sess_of session own.reads in
      let new_sess = sess_of new steps.1.1.reads in
      let stays = serve_stays ready.server.core old_sess now frame steps.0 new_sess told step in (
        record {
          came = record {
            server = halted_after;
            runs =
                Then history (Served (session_of session.ltxid) now frame Stopped ∷ []) ready.server halted_after ready.runs
                (Halts old_sess new_sess now frame steps.0 told halted_after ready.stands.running step (record { front = own.front; back = own.back; split = own.split; turned = refl }));
            is_base = stays.base ∙ ready.is_base;
            stands = record { running = refl; plain = steps.1.0; own = record { reads = steps.1.1.reads; noted = steps.1.1.noted; front = own.front; back = own.back; split = refl } };
          };
          gains = (adds_between (Served (session_of session.ltxid) now frame Stopped) (1 + sequences_in frame) ready.server.core steps.0 (stopped_adds ready.server.core old_sess now frame steps.0 new_sess told step) disk.now.seen end.now.seen served.records
              beside.up.fits.journal served.fits.journal beside.up.fits.reads served.fits.reads (subst (λ (r : Result Journal ℕ). IfOk r (IsStored ready.server.core)) beside.up.fits.reads ready.stands.plain.stored)
              (subst (λ (r : Result Journal ℕ). IfOk r (IsStored steps.0)) served.fits.reads steps.1.0.stored) (record { base = stays.base; incarnation = stays.incarnation; horizon = stays.horizon }) served.gained.added served.few).gains;
          same = stays.session;
        },
        refl,
      )

-- ---- frame after frame

pub nothing_gained : (more : List Happened) (store : Store) → Gains more store store
nothing_gained more store = record {
  incarnation = refl;
  horizon = refl;
  more_entries = [];
  more_blocked = [];
  more_alerts = [];
  entries = sym (append-nil store.entries);
  blocked = sym (append-nil store.blocked);
  alerts = sym (append-nil store.alerts);
  own = All-nil (CameFrom more);
  asked = All-nil (WasAsked more);
}

module _ (grants : Grants) (now : ℕ) (session : Session) (core : Core) (disk : DiskState) (held : Held) (notes : Notes) (beside : IsBeside grants disk core held notes session) (start : Base) (history : List Happened) (ready : Came start history (StandsLost disk core session)) where
  -- The plain server has taken each of them for stopped; it is halted, if it was or if there was
  -- one.
  pub through_lost : (items : List Item) (new : Session) (later : Core) (end : DiskState) → Through now session core disk items new later end
      → (lost : Lost start history (lost_in (session_of session.ltxid) now items) disk later end new (session_of session.ltxid)) × ((items ≢ []) ⊎ (ready.server.power ≡ Halted) → lost.came.server.power ≡ Halted)
  through_lost _ _ _ _ Still = (
    record { came = record { server = ready.server; runs = subst (λ (h : List Happened). Runs start h ready.server) (sym (append-nil history)) ready.runs; is_base = ready.is_base; stands = ready.stands }; gains = nothing_gained [] (store_of disk.now.seen); same = refl },
    by,
  )
    where
      by : (no_items ≢ no_items) ⊎ (ready.server.power ≡ Halted) → ready.server.power ≡ Halted
      by (inl none) = absurd (none refl)
      by (inr halted) = halted
  through_lost _ _ _ _ (Next items mid between at frame told new later end through served answered) =
      let id = session_of session.ltxid in
      let first = (through_lost items mid between at through).0 in
      let next = lost_on grants frame now told between later at end held notes mid new (through_beside grants now session core disk held notes beside items mid between at through) served start (history ++ lost_in id now items) first.came in
      let all = lost_more id (session_of mid.ltxid) now history items frame told first.same in (
        record {
          came = record { server = next.0.came.server; runs = subst (λ (h : List Happened). Runs start h next.0.came.server) all next.0.came.runs; is_base = next.0.came.is_base; stands = next.0.came.stands };
          gains = subst (λ (l : List Happened). Gains l (store_of disk.now.seen) (store_of end.now.seen)) (lost_last id (session_of mid.ltxid) now items frame told first.same)
              (gains_on (lost_in id now items) (Served (session_of mid.ltxid) now frame Stopped ∷ []) (store_of disk.now.seen) (store_of at.now.seen) (store_of end.now.seen) first.gains next.0.gains);
          same = next.0.same ∙ first.same;
        },
        λ some. next.1,
      )

  -- what they added, one after the other
  pub through_added : (items : List Item) (new : Session) (later : Core) (end : DiskState) → Through now session core disk items new later end → (added : List Record) × HasAdded disk.now.seen added end.now.seen
  through_added _ _ _ _ Still = ([], has_itself disk.now.seen)
  through_added _ _ _ _ (Next items mid between at frame told new later end through served answered) =
      let first = through_added items mid between at through in
      (first.0 ++ served.records, adds_on disk.now.seen first.0 at.now.seen served.records end.now.seen first.1 served.gained.added)
