-- A session apart from the connections: what stands beside it from frame to frame.
use Rattle.std.proofs.Common.{◌≡◌, ◌≢◌, ◌∙◌, ◌+◌, ◌≤◌, ℕ, refl, sym, ap, subst, List, [], ◌∷◌, ◌++◌, append_assoc, append-nil, arith}
use Rattle.std.proofs.lemmas.List.{map-append}
use Rattle.std.proofs.lemmas.List.Elements.{All-append, All-nil, All-weaker, Contains-append_left, Contains-append_right}
use Rattle.std.specs.Prelude.{IsTrue, Some, Result, IfOk}
use Rattle.disk_model.specs.Disk.{DiskState}
use Rattle.svc_values.specs.declared.entry.Entry.{Entry}
use Rattle.svc_values.specs.declared.entry.Ltxid.{Ltxid}
use Rattle.svc_values.specs.declared.entry.SessionId.{SessionId}
use Rattle.svc_values.specs.declared.frame.Up.{Up}
use Rattle.svc_values.specs.meaning.Calls.{sequences_in}
use Rattle.svc_values.specs.meaning.Identifiers.{ltxid_of, session_of}
use Rattle.mutable_values.specs.declared.grants.Grants.{Grants}
use Rattle.commit_log.specs.declared.journal.Journal.{Journal}
use Rattle.server_model.specs.meaning.Base.{Base}
use Rattle.server_model.specs.meaning.Outcomes.{Telling}
use Rattle.server_model.specs.Runs.{Happened, Served, Server, On, Then, Answers, is_answered}
use Rattle.server_model.specs.Seen.{Store}
use Rattle.server_model.specs.ServiceCalls.{CameFrom, WasAsked, Gains}
use Rattle.server_model.specs.Sessions.{Sess}
use Rattle.server_model.proofs.Offered.{answered_adds, serve_stays}
use Rattle.server_session.specs.declared.shared.Core.{Core}
use Rattle.server_session.specs.Fits.{Belongs}
use Rattle.server_session.specs.Plain.{IsStored}
use Rattle.server_session.specs.SeenSession.{SeenSession as Session, begins, sess_of}
use Rattle.server_session.specs.Serving.{HasServed, served_as}
use Rattle.service_core.specs.declared.notes.Notes.{Notes}
use Rattle.service_core.specs.Held.{Held, held_at}
use Rattle.service_core.specs.Seeing.{Came, store_of}
use Rattle.service_core.specs.Sound.{IsUp, unmade}
use Rattle.service_core.specs.Through.{Item, item, Through, Still, Then as Next, IsGoing, happened_in}
use Rattle.service_core.proofs.Gained.{adds_between}
use Rattle.service_core.proofs.Splits.{stays_between}
use Rattle.service_core.proofs.Taken.{IsReady, stays_so}
use Rattle.service_core.proofs.Throughout.{going_on}
use Rattle.service_core.proofs.Faulty.{still_room}

-- ---- the service

pub record IsBeside (grants : Grants) (disk : DiskState) (core : Core) (held : Held) (notes : Notes) (session : Session) : Type 0 where
  pub up : IsUp grants disk core held notes
  pub going : IsGoing core disk session
  pub numbered : session.ltxid.session ≤ notes.sessions
  -- no connection has it
  pub apart : (connection : ℕ) (other : Session) → held_at held connection ≡ Some (Some other) → other.ltxid.session ≢ session.ltxid.session

pub beside_on : (grants : Grants) (frame : Up) (now most : ℕ) (told : Telling) (core later : Core) (disk end : DiskState) (held : Held) (notes : Notes) (session new : Session) → IsBeside grants disk core held notes session
    → HasServed (served_as frame now) most told session core disk new later end → IsBeside grants end later held notes new
beside_on grants frame now most told core later disk end held notes session new beside served =
    let stay = stays_so frame now most told core later disk end session new beside.going.reads beside.going.noted beside.going.fits served in
    record {
      up = record {
        fits = served.fits;
        granted = stay.grants ∙ beside.up.granted;
        faults = still_room disk.faults end.faults notes notes beside.up.faults served.gained.faults (omega arith) refl;
        settled = beside.up.settled;
        room = omega (arith, beside.up.room, stay.incarnation);
        few = beside.up.few;
        crashes = beside.up.crashes;
        each = λ connection other at.
            let one = beside.up.each connection other at in
            record { reads = one.reads; noted = one.noted; belongs = served.others other (beside.apart connection other at) one.belongs; lives = one.lives; numbered = one.numbered };
        counted = beside.up.counted;
        unmade_belong = λ number above.
            subst (λ n. Belongs later (begins (ltxid_of (record { incarnation = n; session = number }) 0))) (sym stay.incarnation)
            (served.others (unmade core number) (λ same. let no : ⊥ = omega (arith, beside.numbered, above, same) in no) (beside.up.unmade_belong number above));
        apart = beside.up.apart;
      };
      going = going_on frame now most told core later disk end session new beside.going served;
      numbered = omega (arith, beside.numbered, stay.number);
      apart = λ connection other at same. beside.apart connection other at (same ∙ stay.number);
    }

-- ---- what stores gain, one part after another

came_left : (front behind : List Happened) (entry : Entry) → CameFrom front entry → CameFrom (front ++ behind) entry
came_left front behind entry came = (came.0, (Contains-append_left front behind came.0 came.1.0, came.1.1))

came_right : (front behind : List Happened) (entry : Entry) → CameFrom behind entry → CameFrom (front ++ behind) entry
came_right front behind entry came = (came.0, (Contains-append_right front behind came.0 came.1.0, came.1.1))

asked_left : (front behind : List Happened) (x : Ltxid) → WasAsked front x → WasAsked (front ++ behind) x
asked_left front behind x asked = (asked.0, (Contains-append_left front behind asked.0 asked.1.0, asked.1.1))

asked_right : (front behind : List Happened) (x : Ltxid) → WasAsked behind x → WasAsked (front ++ behind) x
asked_right front behind x asked = (asked.0, (Contains-append_right front behind asked.0 asked.1.0, asked.1.1))

pub gains_none : (store : Store) → Gains [] store store
gains_none store = record {
  incarnation = refl;
  horizon = refl;
  more_entries = [];
  more_blocked = [];
  more_alerts = [];
  entries = sym (append-nil store.entries);
  blocked = sym (append-nil store.blocked);
  alerts = sym (append-nil store.alerts);
  own = All-nil (CameFrom []);
  asked = All-nil (WasAsked []);
}

pub gains_on : (front behind : List Happened) (old mid new : Store) → Gains front old mid → Gains behind mid new → Gains (front ++ behind) old new
gains_on front behind old mid new first second = record {
  incarnation = second.incarnation ∙ first.incarnation;
  horizon = second.horizon ∙ first.horizon;
  more_entries = first.more_entries ++ second.more_entries;
  more_blocked = first.more_blocked ++ second.more_blocked;
  more_alerts = first.more_alerts ++ second.more_alerts;
  entries = second.entries ∙ ap (λ l. l ++ second.more_entries) first.entries ∙ append_assoc old.entries first.more_entries second.more_entries;
  blocked = second.blocked ∙ ap (λ l. l ++ second.more_blocked) first.blocked ∙ append_assoc old.blocked first.more_blocked second.more_blocked;
  alerts = second.alerts ∙ ap (λ l. l ++ second.more_alerts) first.alerts ∙ append_assoc old.alerts first.more_alerts second.more_alerts;
  own = All-append (CameFrom (front ++ behind)) first.more_entries second.more_entries (All-weaker (CameFrom front) (CameFrom (front ++ behind)) (came_left front behind) first.more_entries first.own)
      (All-weaker (CameFrom behind) (CameFrom (front ++ behind)) (came_right front behind) second.more_entries second.own);
  asked = All-append (WasAsked (front ++ behind)) first.more_blocked second.more_blocked (All-weaker (WasAsked front) (WasAsked (front ++ behind)) (asked_left front behind) first.more_blocked first.asked)
      (All-weaker (WasAsked behind) (WasAsked (front ++ behind)) (asked_right front behind) second.more_blocked second.asked);
}

-- ---- the plain server

-- What the plain server comes to, with what the store gains.
pub record Follows (start : Base) (history more : List Happened) (disk : DiskState) (later : Core) (end : DiskState) (held : Held) (made : ℕ) (new : Session) (id : SessionId) : Type 0 where
  pub came : Came start (history ++ more) (IsReady end later held made new)
  pub gains : Gains more (store_of disk.now.seen) (store_of end.now.seen)
  pub same : session_of new.ltxid ≡ id

module _ (grants : Grants) (frame : Up) (now : ℕ) (told : Telling) (core later : Core) (disk end : DiskState) (held : Held) (notes : Notes) (session new : Session) (beside : IsBeside grants disk core held notes session)
    (served : HasServed (served_as frame now) (1 + sequences_in frame) told session core disk new later end) (answered : IsTrue (is_answered told)) (start : Base) (history : List Happened) (made : ℕ) (ready : Came start history (IsReady disk core held made session)) where
  pub ready_on : Follows start history (Served (session_of session.ltxid) now frame told ∷ []) disk later end held made new (session_of session.ltxid)
  ready_on =
      let own = ready.stands.own in
      let steps = served.steps ready.server.core own.reads ready.stands.stands.plain own.noted in
      let step = steps.1.1.steps in
      let old_sess = sess_of session own.reads in
      let new_sess = sess_of new steps.1.1.reads in
      let stays = serve_stays ready.server.core old_sess now frame steps.0 new_sess told step in
      let after : Server = record { power = On; core = steps.0; sessions = own.front ++ new_sess ∷ own.back; count = ready.server.count } in
      record {
        came = record {
          server = after;
          runs =
              Then history (Served (session_of session.ltxid) now frame told ∷ []) ready.server after ready.runs
              (Answers old_sess new_sess now frame steps.0 told after ready.stands.stands.power step answered (record { front = own.front; back = own.back; split = own.split; turned = refl }));
          is_base = stays.base ∙ ready.is_base;
          stands = record {
            stands = record {
              power = refl;
              plain = steps.1.0;
              count = ready.stands.stands.count;
              attends = λ connection other at.
                  let a = ready.stands.stands.attends connection other at in
                  let between = stays_between own.front own.back a.front a.back old_sess new_sess (sess_of other a.reads) (sym own.split ∙ a.split) (λ same. beside.apart connection other at (sym (ap (λ (s : Sess). s.ltxid.session) same))) in
                  record { reads = a.reads; noted = a.noted; front = between.front; back = between.back; split = between.split };
            };
            own = record { reads = steps.1.1.reads; noted = steps.1.1.noted; front = own.front; back = own.back; split = refl };
          };
        };
        gains = (adds_between (Served (session_of session.ltxid) now frame told) (1 + sequences_in frame) ready.server.core steps.0 (answered_adds ready.server.core old_sess now frame steps.0 new_sess told step answered) disk.now.seen end.now.seen served.records
            beside.up.fits.journal served.fits.journal beside.up.fits.reads served.fits.reads (subst (λ (r : Result Journal ℕ). IfOk r (IsStored ready.server.core)) beside.up.fits.reads ready.stands.stands.plain.stored)
            (subst (λ (r : Result Journal ℕ). IfOk r (IsStored steps.0)) served.fits.reads steps.1.0.stored) (record { base = stays.base; incarnation = stays.incarnation; horizon = stays.horizon }) served.gained.added served.few).gains;
        same = stays.session;
      }

-- ---- frame after frame

module _ (grants : Grants) (now : ℕ) (session : Session) (core : Core) (disk : DiskState) (held : Held) (notes : Notes) (beside : IsBeside grants disk core held notes session) where
  pub through_beside : (items : List Item) (new : Session) (later : Core) (end : DiskState) → Through now session core disk items new later end → IsBeside grants end later held notes new
  through_beside _ _ _ _ Still = beside
  through_beside _ _ _ _ (Next items mid between at frame told new later end through served answered) =
      beside_on grants frame now (1 + sequences_in frame) told between later at end held notes mid new (through_beside items mid between at through) served

  module _ (start : Base) (history : List Happened) (made : ℕ) (ready : Came start history (IsReady disk core held made session)) where
    pub through_follows : (items : List Item) (new : Session) (later : Core) (end : DiskState) → Through now session core disk items new later end → Follows start history (happened_in (session_of session.ltxid) now items) disk later end held made new (session_of session.ltxid)
    through_follows _ _ _ _ Still = record { came = subst (λ (h : List Happened). Came start h (IsReady disk core held made session)) (sym (append-nil history)) ready; gains = gains_none (store_of disk.now.seen); same = refl }
    through_follows _ _ _ _ (Next items mid between at frame told new later end through served answered) =
        let id = session_of session.ltxid in
        let first = through_follows items mid between at through in
        let next = ready_on grants frame now told between later at end held notes mid new (through_beside items mid between at through) served answered start (history ++ happened_in id now items) made first.came in
        let one : List Happened = Served id now frame told ∷ [] in
        let is_one : Served (session_of mid.ltxid) now frame told ∷ [] ≡ one = ap (λ (s : SessionId). Served s now frame told ∷ []) first.same in
        let all : happened_in id now items ++ one ≡ happened_in id now (items ++ item frame told ∷ []) = sym (map-append (λ (i : Item). Served id now i.frame i.told) items (item frame told ∷ [])) in
        record {
          came = subst (λ (h : List Happened). Came start h (IsReady end later held made new)) (ap (λ (l : List Happened). (history ++ happened_in id now items) ++ l) is_one ∙ append_assoc history (happened_in id now items) one ∙ ap (λ (l : List Happened). history ++ l) all) next.came;
          gains = subst (λ (l : List Happened). Gains l (store_of disk.now.seen) (store_of end.now.seen)) all
              (gains_on (happened_in id now items) one (store_of disk.now.seen) (store_of at.now.seen) (store_of end.now.seen) first.gains (subst (λ (l : List Happened). Gains l (store_of at.now.seen) (store_of end.now.seen)) is_one next.gains));
          same = next.same ∙ first.same;
        }
