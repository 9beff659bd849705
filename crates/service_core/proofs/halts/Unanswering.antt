-- A frame that counts as stopped before its answer.
use Rattle.std.proofs.Common.{◌≡◌, ◌∙◌, ◌+◌, ◌≤◌, ℕ, false, refl, sym, ap, subst, List, [], ◌∷◌, ◌++◌, length, length-append, take, fold, arith}
use Rattle.std.proofs.lemmas.List.{length-take-le, take_all, take-take}
use Rattle.std.specs.Prelude.{◌≢◌, Option, Some, Result, Ok, Err}
use Rattle.disk_model.specs.Moment.{MayLeave}
use Rattle.redo_store.specs.Records.{record_count}
use Rattle.redo_store.specs.meaning.Records.{records_of, whole_records}
use Rattle.redo_store.proofs.Offered.{whole_of_read}
use Rattle.svc_values.specs.declared.frame.Up.{Up}
use Rattle.svc_values.specs.meaning.Calls.{sequences_in}
use Rattle.svc_values.specs.meaning.Identifiers.{session_of}
use Rattle.commit_log.specs.declared.journal.Journal.{Journal}
use Rattle.commit_log.specs.declared.records.Record.{Record}
use Rattle.commit_log.specs.Growth.{HasAdded, IsGrown, with_records}
use Rattle.commit_log.specs.meaning.Journals.{journal_in, journal_of, judged, so_far_of, with_gates}
use Rattle.commit_log.specs.meaning.Rules.{Empty, with_record}
use Rattle.commit_log.proofs.Offered.{fronts_are_grown}
use Rattle.server_model.specs.meaning.Base.{Base}
use Rattle.server_model.specs.meaning.Outcomes.{Stopped, Telling}
use Rattle.server_model.specs.Runs.{Happened, Served}
use Rattle.server_model.specs.Seen.{Seen, ServiceState, Store}
use Rattle.server_model.specs.ServiceCalls.{Adds, SessionOf}
use Rattle.server_session.specs.declared.shared.Core.{Core}
use Rattle.server_session.specs.SeenSession.{SeenSession as Session}
use Rattle.server_session.specs.Serving.{HasServed, HasStopped, StopsAtFronts, served_as}
use Rattle.server_session.proofs.Offered.{left_grown}
use Rattle.service_calls.specs.Kept.{Goes}
use Rattle.service_core.specs.Held.{Held}
use Rattle.service_core.specs.Seeing.{Came, SeesIn, StandsDown, StandsIn, Stands, state_in, state_of, store_of}
use Rattle.service_core.specs.Shipping.{count_in, halted}
use Rattle.service_core.specs.Sound.{IsHeld, IsSound, IsSoundWithin, IsUp}
use Rattle.service_core.specs.Taking.{IsTaken}
use Rattle.service_core.specs.Unanswered.{HaltedFrame, IsHaltedAs, LiesBetween, StandsBetween}
use Rattle.service_core.specs.Within.{Within}
use Rattle.service_core.proofs.halts.Fronting.{front_adds, front_came}
use Rattle.service_core.proofs.Gained.{count_more}
use Rattle.service_core.proofs.Standing.{seen_with}
use Rattle.service_core.proofs.Taken.{IsReady, made_ready, session_shown, taken_held}

-- ---- an image between two stores holds a front of what was added

pub none_read : (image : List ℕ) (journal : Journal) → journal_of image ≡ Ok journal → records_of image ≡ Ok [] → ⊥
unfolding so_far_of
none_read image journal reads none =
    let records : journal_in (with_gates (judged Empty 8 (whole_records image)) (Ok [])) ≡ Ok journal = subst (λ (r : Result (List (List ℕ)) ℕ). journal_in (with_gates (judged Empty 8 (whole_records image)) r) ≡ Ok journal) none reads in
    let e : ◌≡◌ {A = Result Journal ℕ} (Err 8) (Ok journal) = subst (λ (w : List (List ℕ)). journal_in (with_gates (judged Empty 8 w) (Ok [])) ≡ Ok journal) (whole_of_read image [] none) records in
    let no : ⊥ = cc in no

wider : (old image : List ℕ) (records : List Record) (count : ℕ) → count ≤ length records → IsGrown old (take count records) image → IsGrown old records image
wider old image records count within grown =
    let fewer : grown.count ≤ count = omega (arith, grown.within, length-take-le count records within) in
    record {
      count = grown.count;
      within = omega (arith, fewer, within);
      has = subst (λ (l : List Record). HasAdded old l image) (take-take grown.count count records fewer) grown.has;
    }

between : (old image left : List ℕ) (records : List Record) (journal : Journal) → journal_of old ≡ Ok journal → IsGrown old records left → (all some more : List (List ℕ)) → records_of old ≡ Ok all → records_of image ≡ Ok (all ++ some) → records_of left ≡ Ok (all ++ some ++ more)
    → IsGrown old records image
between old image left records journal reads grown [] some more olds images lefts = absurd (none_read old journal reads olds)
between old image left records journal reads grown (first ∷ mine) some more olds images lefts =
    wider old image records grown.count grown.within
    (fronts_are_grown old image left (take grown.count records) (fold with_record journal (take grown.count records)) first mine some more grown.has (grown.has.journal ∙ ap (with_records (take grown.count records)) reads) olds images lefts)

pub grown_between : (old image left : List ℕ) (records : List Record) (journal : Journal) → journal_of old ≡ Ok journal → IsGrown old records left → LiesBetween old image left → IsGrown old records image
grown_between old image left records journal reads grown lies = between old image left records journal reads grown lies.records lies.some lies.more lies.old_is lies.image_is lies.new_is

-- ---- what is seen then

-- a run of the plain server has come there
pub record Halts (old new : Within) (Does : Seen → Seen → Type 0) (start : Base) (history : List Happened) : Type 0 where
  pub later : List Happened
  pub came : (image left : List ℕ) → MayLeave new.disk.now left → LiesBetween old.disk.now.seen image left → Came start later (StandsDown new.grants false image)
  pub does : Does (seen_with start history (state_in old)) (seen_with start later (state_in (halted new)))

pub goes_halted : (old new : Within) (Does : Seen → Seen → Type 0) → new.notes.is_spent ≡ false → ((start : Base) (history : List Happened) → StandsIn old start history → Halts old new Does start history)
    → Goes (SeesIn old) (IsHaltedAs old new) Does
goes_halted old new Does live halts before sees =
    let h = halts before.start before.history sees.sees.stands in
    subst (λ (state : ServiceState). (after : Seen) × (IsHaltedAs old new after × Does (seen_with before.start before.history state) after)) (sym sees.sees.state_is)
    (seen_with before.start h.later (state_in (halted new)), (record { live = live; state_is = refl; came = h.came }, h.does))

-- ---- a frame

module _ (old : Within) (core : Core) (is_up : old.core ≡ Some core) (sound : IsSoundWithin old) (rest : Held) (made connection now : ℕ) (frame : Up) (session : Session) (taken : IsTaken core old.held old.notes.sessions connection session rest made)
    (records : List Record) (few : length records ≤ 1 + sequences_in frame) (fronts : StopsAtFronts (served_as frame now) session core old.disk records) where
  up : IsUp old.grants old.disk core old.held old.notes
  up = subst (λ (c : Option Core). IsSound old.grants old.disk c old.held old.notes) is_up sound

  own : IsHeld core made session
  own = taken_held old.grants old.disk core old.held old.notes connection session made up taken.session_is

  module _ (new : Within) (live : new.notes.is_spent ≡ false) (sessions : new.notes.sessions ≡ made) (granted : new.grants ≡ old.grants) (leaves : (left : List ℕ) → MayLeave new.disk.now left → IsGrown old.disk.now.seen records left) where
    grown : (image left : List ℕ) → MayLeave new.disk.now left → LiesBetween old.disk.now.seen image left → IsGrown old.disk.now.seen records image
    grown image left may lies = grown_between old.disk.now.seen image left records up.fits.journal up.fits.reads (leaves left may) lies

    module _ (start : Base) (history : List Happened) (stands : StandsIn old start history) where
      ready : Came start history (IsReady old.disk core rest made session)
      ready = made_ready old.grants old.disk core old.held rest old.notes connection session made start history taken.left taken.session_is (subst (λ (c : Option Core). Stands old.grants old.disk c old.held old.notes start history) is_up stands)

      adds_at : (store : Store) → StandsBetween old new store → Adds (Served (session_of session.ltxid) now frame Stopped ∷ []) (1 + sequences_in frame) (store_of old.disk.now.seen) store
      adds_at store at =
          subst (Adds (Served (session_of session.ltxid) now frame Stopped ∷ []) (1 + sequences_in frame) (store_of old.disk.now.seen)) (sym at.store_is)
          (front_adds old.grants old.disk core old.held old.notes now frame session own.reads own.noted up records few fronts rest made start history ready at.image (grown at.image at.left at.leaves at.lies))

      frame_does : HaltedFrame (seen_with start history (state_in old)) connection now frame (StandsBetween old new) (seen_with start (history ++ Served (session_of session.ltxid) now frame Stopped ∷ []) (state_in (halted new)))
      frame_does = record {
        start = refl;
        session = session_of session.ltxid;
        of_connection = subst (λ (n : ℕ). SessionOf (seen_with start history (state_in old)) connection (session_of session.ltxid) n) (sym sessions)
            (subst (λ (c : Option Core). SessionOf (seen_with start history (state_of old.disk c old.held old.notes)) connection (session_of session.ltxid) made) (sym is_up)
            (session_shown old.grants old.disk core old.held old.notes connection session made start history up taken.session_is));
        history = refl;
        adds = adds_at;
      }

      frame_halts_at : Halts old new (λ before after. HaltedFrame before connection now frame (StandsBetween old new) after) start history
      frame_halts_at = record {
        later = history ++ Served (session_of session.ltxid) now frame Stopped ∷ [];
        came = λ image left may lies.
            subst (λ g. Came start (history ++ Served (session_of session.ltxid) now frame Stopped ∷ []) (StandsDown g false image)) (sym granted)
            (front_came old.grants old.disk core old.held old.notes now frame session own.reads own.noted up records few fronts rest made start history ready image (grown image left may lies));
        does = frame_does;
      }

    pub frame_halts : Goes (SeesIn old) (IsHaltedAs old new) (λ before after. HaltedFrame before connection now frame (StandsBetween old new) after)
    frame_halts = goes_halted old new (λ before after. HaltedFrame before connection now frame (StandsBetween old new) after) live (λ start history stands. frame_halts_at start history stands)

-- ---- its records, by what the call came to

-- one that was answered and added none would have as many
pub some_added : (old new : List ℕ) (records : List Record) (journal : Journal) → journal_of old ≡ Ok journal → HasAdded old records new → record_count (records_of new) ≢ record_count (records_of old) → records ≢ []
some_added old new records journal reads has differ none =
    differ (omega (arith, count_more old records new journal reads has, ap length none))

-- what a crash leaves of a disk on which nothing is pending
pub whole_grown : (old new left : List ℕ) (records : List Record) → HasAdded old records new → left ≡ new → IsGrown old records left
whole_grown old new left records has same = record {
  count = length records;
  within = omega arith;
  has = subst (λ (l : List Record). HasAdded old l left) (sym (take_all (length records) records (omega arith))) (subst (λ (i : List ℕ). HasAdded old records i) (sym same) has);
}

module _ (old : Within) (core : Core) (is_up : old.core ≡ Some core) (sound : IsSoundWithin old) (rest : Held) (made connection now : ℕ) (frame : Up) (session : Session) (taken : IsTaken core old.held old.notes.sessions connection session rest made)
    (new : Within) (live : new.notes.is_spent ≡ false) (sessions : new.notes.sessions ≡ made) (granted : new.grants ≡ old.grants) where
  stood : IsUp old.grants old.disk core old.held old.notes
  stood = subst (λ (c : Option Core). IsSound old.grants old.disk c old.held old.notes) is_up sound

  -- an answer that reaches nobody
  pub served_halts : (told : Telling) (served_session : Session) (later : Core) → HasServed (served_as frame now) (1 + sequences_in frame) told session core old.disk served_session later new.disk
      → count_in new ≢ count_in old → Goes (SeesIn old) (IsHaltedAs old new) (λ before after. HaltedFrame before connection now frame (StandsBetween old new) after)
  served_halts told served_session later served differ =
      frame_halts old core is_up sound rest made connection now frame session taken served.records served.few
      (served.fronts (some_added old.disk.now.seen new.disk.now.seen served.records stood.fits.journal stood.fits.reads served.gained.added differ)) new live sessions granted
      (λ left leaves. whole_grown old.disk.now.seen new.disk.now.seen left served.records served.gained.added (served.fits.log.append.settled left leaves))

  pub stopped_halts : HasStopped (served_as frame now) (1 + sequences_in frame) session core old.disk new.disk → Goes (SeesIn old) (IsHaltedAs old new) (λ before after. HaltedFrame before connection now frame (StandsBetween old new) after)
  stopped_halts stopped =
      frame_halts old core is_up sound rest made connection now frame session taken (stopped.records ++ stopped.last ∷ []) (omega (arith, stopped.few, length-append stopped.records (stopped.last ∷ []))) stopped.steps new live sessions granted
      (λ left leaves. left_grown old.disk.now.seen stopped.records stopped.last left (stopped.halted.left left leaves))
