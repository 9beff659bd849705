-- Calls from outside that count as stopped before their answer.
use Rattle.std.proofs.Common.{◌≡◌, ◌≢◌, ◌∙◌, ◌⊎◌, ◌+◌, ℕ, false, refl, sym, ap, subst, inl, List, [], ◌∷◌, ◌++◌, length-append, append_assoc, arith}
use Rattle.std.proofs.lemmas.List.Elements.{All-append, All-cons, All-nil}
use Rattle.std.specs.Prelude.{All, Option, Some}
use Rattle.disk_model.specs.Moment.{MayLeave}
use Rattle.disk_model.specs.Disk.{DiskState}
use Rattle.svc_values.specs.declared.call.Call.{Call}
use Rattle.svc_values.specs.declared.entry.SessionId.{SessionId}
use Rattle.svc_values.specs.meaning.Identifiers.{session_of}
use Rattle.outage_schedule.specs.declared.note.NoteRun.{NoteRun}
use Rattle.server_model.specs.meaning.Base.{Base}
use Rattle.server_model.specs.meaning.Outcomes.{Stopped}
use Rattle.server_model.specs.Runs.{Happened, Runs, Served, Halted, is_running}
use Rattle.server_model.specs.Seen.{Seen, Store}
use Rattle.server_model.specs.ServiceCalls.{Gains, IsOf, next_session as next_id}
use Rattle.server_session.specs.declared.shared.Core.{Core}
use Rattle.server_session.specs.SeenSession.{SeenSession as Session}
use Rattle.server_session.proofs.Offered.{left_grown}
use Rattle.service_calls.specs.Kept.{Goes}
use Rattle.service_core.specs.Seeing.{Came, SeesIn, StandsDown, StandsIn, StandsUp, Stands, state_of, store_of}
use Rattle.service_core.specs.Shipping.{halted}
use Rattle.service_core.specs.Sound.{IsSound, IsSoundWithin, IsUp}
use Rattle.service_core.specs.Through.{HasBegun, HasHaltedFrom, HasRunFrom, Item, begun_items, item}
use Rattle.service_core.specs.Unanswered.{HaltedCalls, IsHaltedAs, LiesBetween, StandsBetween}
use Rattle.service_core.specs.Within.{Within}
use Rattle.service_core.proofs.Beside.{IsBeside, gains_on, through_beside}
use Rattle.service_core.proofs.halts.LostFrames.{Lost, StandsLost, lost_in, through_lost}
use Rattle.service_core.proofs.halts.LostFronts.{FrontLost, front_lost, then_front}
use Rattle.service_core.proofs.Standing.{seen_with}
use Rattle.service_core.proofs.Taken.{IsReady, next_ready}
use Rattle.service_core.proofs.halts.Unanswering.{Halts, goes_halted}
use Rattle.service_core.proofs.Went.{made_beside, made_id, made_is_next, made_notes, made_session}

own_lost : (session id : SessionId) (now : ℕ) (items : List Item) → id ≡ session → All (IsOf session) (lost_in id now items)
own_lost session id now [] same = All-nil (IsOf session)
own_lost session id now (one ∷ items) same = All-cons (IsOf session) (Served id now one.frame Stopped) (lost_in id now items) same (own_lost session id now items same)

module _ (old : Within) (core : Core) (is_up : old.core ≡ Some core) (sound : IsSoundWithin old) (now : ℕ) where
  up : IsUp old.grants old.disk core old.held old.notes
  up = subst (λ (c : Option Core). IsSound old.grants old.disk c old.held old.notes) is_up sound

  abbrev session : Session
  session = made_session core old.notes

  abbrev id : SessionId
  id = made_id core old.notes

  -- ---- the request that was begun

  module _ (mid : Session) (between : Core) (at : DiskState) (begun : HasBegun now session core old.disk mid between at) where
    beside_mid : IsBeside old.grants at between old.held (made_notes old.notes) mid
    beside_mid = through_beside old.grants now session core old.disk old.held (made_notes old.notes) (made_beside old.grants old.disk core old.held old.notes up) _ mid between at begun.through

    module _ (start : Base) (history : List Happened) (stands : StandsIn old start history) where
      came_up : Came start history (StandsUp old.disk core old.held old.notes.sessions)
      came_up = subst (λ (c : Option Core). Stands old.grants old.disk c old.held old.notes start history) is_up stands

      ready : Came start history (IsReady old.disk core old.held (old.notes.sessions + 1) session)
      ready = next_ready old.disk core old.held old.held old.notes.sessions start history (λ connection other held. held) came_up

      first_ready : Came start history (StandsLost old.disk core session)
      first_ready = record { server = ready.server; runs = ready.runs; is_base = ready.is_base; stands = record { running = ap is_running ready.stands.stands.power; plain = ready.stands.stands.plain; own = ready.stands.own } }

      abbrev begun_lost : List Happened
      begun_lost = lost_in id now (begun_items session.ltxid)

      first : (lost : Lost start history begun_lost old.disk between at mid id) × ((begun_items session.ltxid ≢ []) ⊎ (first_ready.server.power ≡ Halted) → lost.came.server.power ≡ Halted)
      first = through_lost old.grants now session core old.disk old.held (made_notes old.notes) (made_beside old.grants old.disk core old.held old.notes up) start history first_ready _ mid between at begun.through

      some_begun : begun_items session.ltxid ≢ []
      some_begun none = let no : ⊥ = cc in no

      -- with what counts as stopped behind it
      module _ (new : Within) (live : new.notes.is_spent ≡ false) (granted : new.grants ≡ old.grants) (items : List Item)
          (fronts : (image left : List ℕ) → MayLeave new.disk.now left → LiesBetween at.now.seen image left → FrontLost old.grants start (history ++ begun_lost) (lost_in (session_of mid.ltxid) now items) at image (session_of mid.ltxid)) where
        abbrev all_lost : List Happened
        all_lost = begun_lost ++ lost_in (session_of mid.ltxid) now items

        front_at : (image left : List ℕ) → MayLeave new.disk.now left → LiesBetween old.disk.now.seen image left → FrontLost old.grants start (history ++ begun_lost) (lost_in (session_of mid.ltxid) now items) at image (session_of mid.ltxid)
        front_at image left may lies = fronts image left may (subst (λ (d : DiskState). LiesBetween d.now.seen image left) (sym begun.same) lies)

        came_at : (image left : List ℕ) → MayLeave new.disk.now left → LiesBetween old.disk.now.seen image left → Came start (history ++ all_lost) (StandsDown new.grants false image)
        came_at image left may lies =
            let front = (front_at image left may lies).came in
            record {
              server = front.server;
              runs = subst (λ (h : List Happened). Runs start h front.server) (append_assoc history begun_lost (lost_in (session_of mid.ltxid) now items)) front.runs;
              is_base = front.is_base;
              stands = record {
                power = λ on. let no : ⊥ = (let e = sym front.stands.halted ∙ on in cc) in no;
                stored = front.stands.stored;
                grants_are = front.stands.granted ∙ sym granted;
              };
            }

        gains_at : (store : Store) → StandsBetween old new store → Gains all_lost (store_of old.disk.now.seen) store
        gains_at store stood =
            let front = front_at stood.image stood.left stood.leaves stood.lies in
            subst (Gains all_lost (store_of old.disk.now.seen)) (sym stood.store_is)
            (gains_on begun_lost (lost_in (session_of mid.ltxid) now items) (store_of old.disk.now.seen) (store_of at.now.seen) (store_of stood.image) first.0.gains front.gains)

        abbrev before : Seen
        before = seen_with start history (state_of old.disk (Some core) old.held old.notes)

        is_next : id ≡ next_id before
        is_next = made_is_next old.grants old.disk core old.held old.notes start history up

        own : All (IsOf (next_id before)) all_lost
        own =
            All-append (IsOf (next_id before)) begun_lost (lost_in (session_of mid.ltxid) now items) (own_lost (next_id before) id now (begun_items session.ltxid) is_next)
            (own_lost (next_id before) (session_of mid.ltxid) now items (begun.session ∙ is_next))

        calls_at : Halts old new (λ before after. HaltedCalls before (StandsBetween old new) after) start history
        calls_at = record {
          later = history ++ all_lost;
          came = came_at;
          does = record {
            start = refl;
            more = all_lost;
            served = subst (λ (c : Option Core). All (IsOf (next_id (seen_with start history (state_of old.disk c old.held old.notes)))) all_lost) (sym is_up) own;
            history = refl;
            gains = gains_at;
          };
        }

      -- the same, from where the request was begun
      abbrev next_ready_lost : Came start (history ++ begun_lost) (StandsLost at between mid)
      next_ready_lost = first.0.came

      next_halted : next_ready_lost.server.power ≡ Halted
      next_halted = first.1 (inl some_begun)

  -- ---- by what the call came to

  module _ (new : Within) (live : new.notes.is_spent ≡ false) (granted : new.grants ≡ old.grants) where
    -- an answer that reaches nobody
    pub ran_halts : (calls : List Call) (runs : List NoteRun) (new_session : Session) (later : Core) → HasRunFrom now calls runs session core old.disk new_session later new.disk
        → Goes (SeesIn old) (IsHaltedAs old new) (λ before after. HaltedCalls before (StandsBetween old new) after)
    ran_halts calls runs new_session later ran =
        goes_halted old new (λ before after. HaltedCalls before (StandsBetween old new) after) live
        (λ start history stands.
        let mid = beside_mid ran.mid ran.between ran.at ran.begun in
        let end = through_beside old.grants now ran.mid ran.between ran.at old.held (made_notes old.notes) mid ran.ran.items new_session later new.disk ran.ran.through in
        calls_at ran.mid ran.between ran.at ran.begun start history stands new live granted ran.ran.items
        (λ image left leaves lies.
        front_lost old.grants now ran.mid ran.between ran.at old.held (made_notes old.notes) mid start (history ++ begun_lost ran.mid ran.between ran.at ran.begun start history stands) (next_ready_lost ran.mid ran.between ran.at ran.begun start history stands)
        (next_halted ran.mid ran.between ran.at ran.begun start history stands) ran.ran.items new_session later new.disk ran.ran.through image
        (subst (λ (i : List ℕ). LiesBetween ran.at.now.seen image i) (end.up.fits.log.append.settled left leaves) lies)))

    pub outside_halts : HasHaltedFrom now session core old.disk new.disk → Goes (SeesIn old) (IsHaltedAs old new) (λ before after. HaltedCalls before (StandsBetween old new) after)
    outside_halts halted =
        let last = halted.halted in
        goes_halted old new (λ before after. HaltedCalls before (StandsBetween old new) after) live
        (λ start history stands.
        let mid = beside_mid halted.mid halted.between halted.at halted.begun in
        let lost = begun_lost halted.mid halted.between halted.at halted.begun start history stands in
        let ready = next_ready_lost halted.mid halted.between halted.at halted.begun start history stands in
        let power = next_halted halted.mid halted.between halted.at halted.begun start history stands in
        calls_at halted.mid halted.between halted.at halted.begun start history stands new live granted (last.items ++ item last.frame Stopped ∷ [])
        (λ image left leaves lies.
        then_front old.grants now halted.mid halted.between halted.at old.held (made_notes old.notes) mid start (history ++ lost) ready power last.items last.mid last.between last.at last.through
        (λ earlier within. front_lost old.grants now halted.mid halted.between halted.at old.held (made_notes old.notes) mid start (history ++ lost) ready power last.items last.mid last.between last.at last.through earlier within)
        last.frame Stopped (last.stopped.records ++ last.stopped.last ∷ []) (omega (arith, last.stopped.few, length-append last.stopped.records (last.stopped.last ∷ []))) (λ some. last.stopped.steps) image left
        (left_grown last.at.now.seen last.stopped.records last.stopped.last left (last.stopped.halted.left left leaves)) lies))
