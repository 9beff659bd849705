-- What calls that store leave of the service itself.
use Rattle.std.proofs.Common.{◌≡◌, ◌∙◌, ◌+◌, ◌*◌, ℕ, true, false, subst, inl, inr, List, [], ◌∷◌, ◌++◌, length, length-append, take, arith}
use Rattle.std.specs.Prelude.{Option, Some, Result, Ok, Err, is_some}
use Rattle.disk_model.specs.Disk.{DiskState, IsSettled, Lowered, Meanwhile}
use Rattle.svc_values.specs.declared.call.Call.{Call}
use Rattle.svc_values.specs.declared.entry.Ltxid.{Ltxid}
use Rattle.svc_values.specs.declared.frame.Up.{Up}
use Rattle.ltxid_book.specs.declared.verdict.Verdict.{Verdict}
use Rattle.outage_schedule.specs.declared.note.NoteRun.{NoteRun}
use Rattle.commit_log.specs.declared.journal.Journal.{Journal}
use Rattle.commit_log.specs.declared.records.Record.{Record}
use Rattle.commit_log.specs.declared.records.Record.TheVariants as kept
use Rattle.commit_log.specs.Growth.{HasAdded, IsGrown, first_of_opening, horizon_of, opening_of}
use Rattle.commit_log.specs.meaning.Rules.{SoFar, Empty, Begun}
use Rattle.commit_log.specs.meaning.Journals.{journal_in, journal_of, so_far_of}
use Rattle.server_model.specs.meaning.Outcomes.{Telling}
use Rattle.server_session.specs.declared.shared.Core.{Core}
use Rattle.server_session.specs.Adding.{HasGained, HasHalted, IsLeftOf}
use Rattle.server_session.specs.SeenSession.{SeenSession as Session}
use Rattle.server_session.specs.Serving.{HasServed, HasStopped, served_as}
use Rattle.server_session.specs.Storing.{HasStoppedTelling, HasTold}
use Rattle.server_session.proofs.Offered.{gained_none, gained_then, halted_then}
use Rattle.service_core.specs.Shipping.{Broke, CountsOne, GrewBy}
use Rattle.service_core.specs.Sound.{IsSound, IsSoundWithin, IsUp}
use Rattle.service_core.specs.Through.{HasHaltedFrom, HasRunFrom, Item, Through, Still, Then as Next}
use Rattle.service_core.specs.Within.{Within}
use Rattle.service_core.proofs.halts.Halted.{IsHalted}
use Rattle.service_core.proofs.Opened.{IsOpening}
use Rattle.service_core.proofs.Reaching.{grows_now}

-- ---- while it is up

pub grew_by : (old new : Within) (core : Core) → old.core ≡ Some core → IsSoundWithin old → CountsOne old new → (records : List Record) → HasGained records old.disk new.disk → is_some new.core ≡ true → new.notes.is_settled ≡ old.notes.is_settled → GrewBy old new
grew_by old new core is_up sound counts records gained on settled =
    let up : IsUp old.grants old.disk core old.held old.notes = subst (λ (c : Option Core). IsSound old.grants old.disk c old.held old.notes) is_up sound in
    record { counts = counts; records = records; gained = gained; up = on; settled = settled ∙ up.settled }

added_of : (old : List ℕ) (records : List Record) (last : Record) (image : List ℕ) → IsLeftOf old records last image → (added : List Record) × HasAdded old added image
added_of old records last image (inl has) = (records, has)
added_of old records last image (inr has) = (records ++ last ∷ [], has)

pub broke_by : (old new : Within) → CountsOne old new → (records : List Record) (last : Record) → HasHalted records last old.disk new.disk → is_some new.core ≡ false → new.notes.is_settled ≡ false → Broke old new
broke_by old new counts records last halted off unsettled = record {
  counts = counts;
  left = λ image left. added_of old.disk.now.seen records last image (halted.left image left);
  calls = 4 * length records + 4;
  stop = halted.stop;
  faults = halted.faults;
  reached = halted.reached;
  quiet = halted.quiet;
  down = off;
  settled = unsettled;
}

-- ---- a frame, and an outcome

module _ (old new : Within) (core : Core) (is_up : old.core ≡ Some core) (sound : IsSoundWithin old) (counts : CountsOne old new) where
  pub frame_grew : (now most : ℕ) (frame : Up) (told : Telling) (session served_session : Session) (later : Core) → HasServed (served_as frame now) most told session core old.disk served_session later new.disk → is_some new.core ≡ true → new.notes.is_settled ≡ old.notes.is_settled → GrewBy old new
  frame_grew now most frame told session served_session later served on settled = grew_by old new core is_up sound counts served.records served.gained on settled

  pub frame_broke : (now most : ℕ) (frame : Up) (session : Session) → HasStopped (served_as frame now) most session core old.disk new.disk → is_some new.core ≡ false → new.notes.is_settled ≡ false → Broke old new
  frame_broke now most frame session stopped off unsettled = broke_by old new counts stopped.records stopped.last stopped.halted off unsettled

  pub ask_grew : (x : Ltxid) (judged : Verdict) (later : Core) → HasTold x judged core old.disk later new.disk → is_some new.core ≡ true → new.notes.is_settled ≡ old.notes.is_settled → GrewBy old new
  ask_grew x judged later told on settled = grew_by old new core is_up sound counts told.records told.gained on settled

  pub ask_broke : (x : Ltxid) → HasStoppedTelling x core old.disk new.disk → is_some new.core ≡ false → new.notes.is_settled ≡ false → Broke old new
  ask_broke x stopped off unsettled = broke_by old new counts [] (kept.Blocked x) stopped.halted off unsettled

-- ---- calls from outside

through_gained : (now : ℕ) (session : Session) (core : Core) (disk : DiskState) (items : List Item) (new : Session) (later : Core) (end : DiskState) → Through now session core disk items new later end → (records : List Record) × HasGained records disk end
through_gained now session core disk _ _ _ _ Still = ([], gained_none disk)
through_gained now session core disk _ _ _ _ (Next items mid between at frame told new later end through served answered) =
    let first = through_gained now session core disk items mid between at through in
    (first.0 ++ served.records, gained_then disk at end first.0 served.records first.1 served.gained)

module _ (old new : Within) (core : Core) (is_up : old.core ≡ Some core) (sound : IsSoundWithin old) (counts : CountsOne old new) (now : ℕ) (session : Session) where
  pub calls_grew : (calls : List Call) (runs : List NoteRun) (served_session : Session) (later : Core) → HasRunFrom now calls runs session core old.disk served_session later new.disk → is_some new.core ≡ true → new.notes.is_settled ≡ old.notes.is_settled → GrewBy old new
  calls_grew calls runs served_session later ran on settled =
      let first = through_gained now session core old.disk _ ran.mid ran.between ran.at ran.begun.through in
      let next = through_gained now ran.mid ran.between ran.at ran.ran.items served_session later new.disk ran.ran.through in
      grew_by old new core is_up sound counts (first.0 ++ next.0) (gained_then old.disk ran.at new.disk first.0 next.0 first.1 next.1) on settled

  pub calls_broke : HasHaltedFrom now session core old.disk new.disk → is_some new.core ≡ false → new.notes.is_settled ≡ false → Broke old new
  calls_broke halted off unsettled =
      let last = halted.halted in
      let first = through_gained now session core old.disk _ halted.mid halted.between halted.at halted.begun.through in
      let next = through_gained now halted.mid halted.between halted.at last.items last.mid last.between last.at last.through in
      broke_by old new counts ((first.0 ++ next.0) ++ last.stopped.records) last.stopped.last
      (halted_then old.disk last.at new.disk (first.0 ++ next.0) last.stopped.records last.stopped.last (gained_then old.disk halted.at last.at first.0 next.0 first.1 next.1) last.stopped.halted) off unsettled

-- ---- an opening

opening_length : (below : ℕ) (so_far : Result SoFar ℕ) (journal : Journal) → journal_in so_far ≡ Ok journal → 4 * length (first_of_opening below so_far) + 4 ≡ 4 * length (opening_of below so_far)
opening_length below (Err place) journal reads = absurd (let e : ◌≡◌ {A = Result Journal ℕ} (Err place) (Ok journal) = reads in cc)
opening_length below (Ok Empty) journal reads = absurd (let e : ◌≡◌ {A = Result Journal ℕ} (Err 8) (Ok journal) = reads in cc)
opening_length below (Ok (Begun begun is_opened has_horizon)) journal reads =
    omega (arith, length-append (horizon_of below begun has_horizon) (kept.Opened (begun.incarnation + 1) ∷ []))

module _ (old new : Within) (counts : CountsOne old new) (below : ℕ) where
  pub opened_grew : (core : Core) (journal : Journal) → journal_of old.disk.now.seen ≡ Ok journal → IsOpening below old new.disk core → new.disk.pick ≡ old.disk.pick → Meanwhile old.disk new.disk (IsGrown old.disk.now.seen (opening_of below (so_far_of old.disk.now.seen)))
      → is_some new.core ≡ true → new.notes.is_settled ≡ true → GrewBy old new
  opened_grew core journal reads opening pick run on settled = record {
    counts = counts;
    records = opening_of below (so_far_of old.disk.now.seen);
    gained = record {
      added = opening.opened.added;
      moments = run;
      stop = subst (λ (n : ℕ). Lowered n old.disk.stop new.disk.stop) (opening_length below (so_far_of old.disk.now.seen) journal reads) opening.opened.stop;
      faults = opening.faults;
      quiet = opening.quiet;
      pick = pick;
    };
    up = on;
    settled = settled;
  }

  pub opening_broke : (calls : ℕ) → IsSettled old.disk → IsHalted below calls old.disk new.disk → is_some new.core ≡ false → new.notes.is_settled ≡ false → Broke old new
  opening_broke calls settled halted off unsettled = record {
    counts = counts;
    left = λ image left. let grown = grows_now below old.disk new.disk settled halted.run image left in (take grown.count (opening_of below (so_far_of old.disk.now.seen)), grown.has);
    calls = calls;
    stop = halted.stop;
    faults = halted.faults;
    reached = halted.at_stop;
    quiet = halted.quiet;
    down = off;
    settled = unsettled;
  }
