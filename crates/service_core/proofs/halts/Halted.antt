-- What a service is seen as after an opening that was stopped.
use Rattle.std.proofs.Common.{◌≡◌, ◌≢◌, ◌∙◌, ◌+◌, ◌<◌, ◌≤◌, ◌^◌, ℕ, Bool, true, false, refl, sym, ap, subst, inl, inr, List, [], append-nil, arith}
use Rattle.std.specs.Prelude.{Option, Some, None, Result, Ok, IfOk, IsErrOf, is_some}
use Rattle.disk_model.specs.Moment.{MayLeave}
use Rattle.disk_model.specs.Disk.{DiskState, Meanwhile, LoweredByLess, Caused, with_fault}
use Rattle.redo_store.specs.meaning.Records.{records_of}
use Rattle.redo_store.specs.Records.{record_count}
use Rattle.commit_log.specs.declared.journal.Journal.{Journal}
use Rattle.commit_log.specs.Growth.{IsGrown, opening_of}
use Rattle.commit_log.specs.meaning.Journals.{so_far_of, journal_of}
use Rattle.commit_log.specs.Laws.{RaisesHorizon}
use Rattle.mutable_values.specs.declared.grants.Grants.{Grants}
use Rattle.server_model.specs.declared.fault.ServeFault.{ServeFault}
use Rattle.server_model.specs.declared.fault.ServeFault.TheVariants as fault
use Rattle.server_model.specs.meaning.Base.{Base}
use Rattle.server_model.specs.Runs.{Happened, Server, Off, On, Runs, Then, StopsOpening, MayOpen}
use Rattle.server_model.specs.Seen.{Store, HasPower}
use Rattle.server_model.specs.ServiceCalls.{StoppedOpening, OpenedSoFar, Neither, Forgets, Both, MayForget as MayForgetAt}
use Rattle.server_session.specs.declared.shared.Core.{Core}
use Rattle.server_session.specs.Plain.{IsStored}
use Rattle.service_calls.specs.Kept.{Goes, HaveOneBase}
use Rattle.service_core.specs.declared.notes.Notes.{Notes}
use Rattle.service_core.specs.Held.{Held}
use Rattle.service_core.specs.InnerHonest.{store_is}
use Rattle.service_core.specs.Within.{Within}
use Rattle.service_core.specs.Seeing.{Came, StandsDown, store_in, store_of, state_in, Stands, StandsIn, SeesIn, LeavesIn}
use Rattle.service_core.specs.Sound.{IsDown, IsSound, IsSoundWithin, Reads}
use Rattle.service_core.proofs.Falling.{one_base}
use Rattle.service_core.proofs.Faulty.{rises, never_falls, still_counted, still_none_by_less, none_before}
use Rattle.service_core.proofs.Opened.{down_of, stands_down, may_forget, may_open}
use Rattle.service_core.proofs.Reaching.{Reaches, IsPartOf, reaches, grows_now}
use Rattle.service_core.proofs.Reopening.{follows}
use Rattle.service_core.proofs.Standing.{goes_from}

-- the notes of a service whose opening was stopped
abbrev pub halted_notes : Notes → Option ℕ → Notes
halted_notes notes stop = record notes { is_settled = false; kept = stop; calls = notes.calls + 1 }

abbrev pub halted_from : Within → DiskState → Option ℕ → Within
halted_from old new stop = record old { disk = new; notes = halted_notes old.notes stop }

-- what an opening that was stopped says of its disk
pub record IsHalted (below calls : ℕ) (old new : DiskState) : Type 0 where
  pub run : Meanwhile old new (IsGrown old.now.seen (opening_of below (so_far_of old.now.seen)))
  pub stop : LoweredByLess calls old.stop new.stop
  pub faults : new.faults ≡ with_fault old.faults
  pub at_stop : old.quiet ≡ true → new.stop ≡ Some 0
  pub quiet : new.quiet ≡ old.quiet
  pub reads_now : MayLeave new.now new.now.seen

pub is_halted : (result : Result Core ServeFault) (below calls : ℕ) (old new : DiskState) → IsErrOf result fault.Stopped → MayLeave new.now new.now.seen → Meanwhile old new (IsGrown old.now.seen (opening_of below (so_far_of old.now.seen)))
    → (IsErrOf result fault.Stopped → LoweredByLess calls old.stop new.stop) → Caused (IsErrOf result fault.Stopped) old new → IsHalted below calls old new
is_halted result below calls old new stopped reads_now run stop cause = record { run = run; stop = stop stopped; faults = cause.counted stopped; at_stop = λ quiet. cause.at_stop quiet stopped; quiet = cause.still_quiet; reads_now = reads_now }

-- ---- what is left

-- whatever a crash leaves, an opening may have come to it
reaches_in : (old : Within) (new : DiskState) (below calls : ℕ) → RaisesHorizon → old.notes.is_settled ≡ true → (down : IsDown old.disk old.held old.notes) → IsHalted below calls old.disk new
    → (image : List ℕ) → MayLeave new.now image → Reaches (down.leaves old.disk.now.seen down.reads_now).journal below image
reaches_in old new below calls raises settled down halted image leaves =
    let read = down.leaves old.disk.now.seen down.reads_now in
    reaches read.journal below old.disk.now.seen image raises read.reads (grows_now below old.disk new (down.settled settled) halted.run image leaves)

part_reads : (old : Within) (stop : Option ℕ) (down : IsDown old.disk old.held old.notes) (below : ℕ) (image : List ℕ) → Reaches (down.leaves old.disk.now.seen down.reads_now).journal below image → Reads down.base (halted_notes old.notes stop) image
part_reads old stop down below image reached =
    let read = down.leaves old.disk.now.seen down.reads_now in
    record {
      journal = reached.reached;
      reads = reached.reads;
      base_is = same_base reached.part ∙ read.base_is;
      room = omega (arith, read.room, next reached.part);
    }
  where
    same_base : IsPartOf (down.leaves old.disk.now.seen down.reads_now).journal below reached.reached → reached.reached.base ≡ (down.leaves old.disk.now.seen down.reads_now).journal.base
    same_base (inl same) = ap (λ (j : Journal). j.base) same
    same_base (inr (inl same)) = ap (λ (j : Journal). j.base) same
    same_base (inr (inr same)) = ap (λ (j : Journal). j.base) same

    next : IsPartOf (down.leaves old.disk.now.seen down.reads_now).journal below reached.reached → reached.reached.incarnation ≤ (down.leaves old.disk.now.seen down.reads_now).journal.incarnation + 1
    next (inl same) = omega (arith, ap (λ (j : Journal). j.incarnation) same)
    next (inr (inl same)) = omega (arith, ap (λ (j : Journal). j.incarnation) same)
    next (inr (inr same)) = omega (arith, ap (λ (j : Journal). j.incarnation) same)

-- it stays down
still_down : (grants : Grants) (disk : DiskState) (core : Option Core) (held : Held) (notes : Notes) → is_some core ≡ false → IsDown disk held notes → IsSound grants disk core held notes
still_down grants disk None held notes off down = down
still_down grants disk (Some core) held notes off down = absurd (cc)

pub halts_soundly : (old : Within) (new : DiskState) (stop : Option ℕ) (below calls : ℕ) → RaisesHorizon → is_some old.core ≡ false → old.notes.is_settled ≡ true → IsSoundWithin old → IsHalted below calls old.disk new → IsSoundWithin (halted_from old new stop)
halts_soundly old new stop below calls raises off settled sound halted =
    let down = down_of old off sound in
    still_down old.grants new old.core old.held (halted_notes old.notes stop) off
    (record {
      none = down.none;
      base = down.base;
      leaves = λ image leaves. part_reads old stop down below image (reaches_in old new below calls raises settled down halted image leaves);
      faults = still_counted old.disk.faults new.faults old.notes (halted_notes old.notes stop) down.faults halted.faults refl refl;
      crashes = omega (arith, down.crashes);
      reads_now = halted.reads_now;
      settled = λ settled. absurd (let e : ◌≡◌ {A = Bool} false true = settled in cc);
    })

pub halts_on_base : (old : Within) (new : DiskState) (stop : Option ℕ) (below calls : ℕ) → RaisesHorizon → is_some old.core ≡ false → old.notes.is_settled ≡ true → IsSoundWithin old → IsHalted below calls old.disk new → HaveOneBase old.disk.now.seen new.now.seen
halts_on_base old new stop below calls raises off settled sound halted =
    let down = down_of old off sound in
    one_base down.base old.notes (halted_notes old.notes stop) old.disk.now.seen new.now.seen (down.leaves old.disk.now.seen down.reads_now)
    (part_reads old stop down below new.now.seen (reaches_in old new below calls raises settled down halted new.now.seen halted.reads_now))

-- ---- the plain server

down_stands : (grants : Grants) (disk : DiskState) (core : Option Core) (held : Held) (notes : Notes) (start : Base) (history : List Happened) → is_some core ≡ false → Stands grants disk None held notes start history → Stands grants disk core held notes start history
down_stands grants disk None held notes start history off stands = stands
down_stands grants disk (Some core) held notes start history off stands = absurd (cc)

never_on : Off ≢ On
never_on same = absurd (cc)

-- a plain server has come to whatever an opening reaches
pub reached_came : (old : Within) (below : ℕ) (start : Base) (history : List Happened) → old.notes.calls < 2 ^ 48 → (off : is_some old.core ≡ false) → old.notes.is_settled ≡ true → (sound : IsSoundWithin old) → MayForgetAt (state_in old) below → StandsIn old start history → (image : List ℕ)
    → Reaches ((down_of old off sound).leaves old.disk.now.seen (down_of old off sound).reads_now).journal below image → Came start history (StandsDown old.grants false image)
reached_came old below start history few off settled sound may stands image reached =
    let down = down_of old off sound in
    let read = down.leaves old.disk.now.seen down.reads_now in
    let came = stands_down old start history off stands old.disk.now.seen down.reads_now in
    let stored = subst (λ (r : Result Journal ℕ). IfOk r (IsStored came.server.core)) read.reads came.stands.stored in
    let power : came.server.power ≡ Off = subst (λ (b : Bool). HasPower false b came.server.power) settled came.stands.power in
    let opens : MayOpen came.server.core below = may_open came.server.core read.journal below stored (omega (arith, few, read.room)) (may_forget old read.journal below read.reads may) in
    let follow = follows came.server.core read.journal below reached.reached stored reached.part in
    let server : Server = record { power = Off; core = follow.core; sessions = []; count = 0 } in
    record {
      server = server;
      runs = subst (λ (h : List Happened). Runs start h server) (append-nil history) (Then history [] came.server server came.runs (StopsOpening below follow.core power opens follow.part));
      is_base = follow.base ∙ came.is_base;
      stands = record {
        power = never_on;
        stored = subst (λ (r : Result Journal ℕ). IfOk r (IsStored follow.core)) (sym reached.reads) follow.stored;
        grants_are = ap (λ (b : Base). b.grants) follow.base ∙ came.stands.grants_are;
      };
    }

halted_stands : (old : Within) (new : DiskState) (stop : Option ℕ) (below calls : ℕ) (start : Base) (history : List Happened) → RaisesHorizon → old.notes.calls < 2 ^ 48 → is_some old.core ≡ false → old.notes.is_settled ≡ true → IsSoundWithin old → MayForgetAt (state_in old) below → IsHalted below calls old.disk new
    → StandsIn old start history → StandsIn (halted_from old new stop) start history
halted_stands old new stop below calls start history raises few off settled sound may halted stands =
    down_stands old.grants new old.core old.held (halted_notes old.notes stop) start history off
    (λ image leaves. reached_came old below start history few off settled sound may stands image (reaches_in old new below calls raises settled (down_of old off sound) halted image leaves))

-- ---- the store

part_stored : (journal : Journal) (below records more : ℕ) (reached : Journal) → IsPartOf journal below reached → OpenedSoFar below (store_in (Ok journal) records) (store_in (Ok reached) more)
part_stored journal below records more reached (inl same) =
    record { lists = record { entries = ap (λ (j : Journal). j.entries) same; blocked = ap (λ (j : Journal). j.blocked) same; alerts = ap (λ (j : Journal). j.alerts) same }; so_far = Neither (ap (λ (j : Journal). j.incarnation) same) (ap (λ (j : Journal). j.horizon) same) }
part_stored journal below records more reached (inr (inl same)) =
    record { lists = record { entries = ap (λ (j : Journal). j.entries) same; blocked = ap (λ (j : Journal). j.blocked) same; alerts = ap (λ (j : Journal). j.alerts) same }; so_far = Forgets (ap (λ (j : Journal). j.incarnation) same) (ap (λ (j : Journal). j.horizon) same) }
part_stored journal below records more reached (inr (inr same)) =
    record { lists = record { entries = ap (λ (j : Journal). j.entries) same; blocked = ap (λ (j : Journal). j.blocked) same; alerts = ap (λ (j : Journal). j.alerts) same }; so_far = Both (ap (λ (j : Journal). j.incarnation) same) (ap (λ (j : Journal). j.horizon) same) }

pub so_far_stored : (journal : Journal) (below : ℕ) (old image : List ℕ) → journal_of old ≡ Ok journal → Reaches journal below image → OpenedSoFar below (store_of old) (store_of image)
so_far_stored journal below old image reads reached =
    subst (λ (s : Store). OpenedSoFar below s (store_of image)) (sym (store_is old journal reads))
    (subst (λ (s : Store). OpenedSoFar below (store_in (Ok journal) (record_count (records_of old))) s) (sym (store_is image reached.reached reached.reads))
    (part_stored journal below (record_count (records_of old)) (record_count (records_of image)) reached.reached reached.part))

pub halts : (old : Within) (new : DiskState) (stop : Option ℕ) (below calls : ℕ) → stop ≡ old.disk.stop → RaisesHorizon → old.notes.is_spent ≡ false → old.notes.calls < 2 ^ 48 → is_some old.core ≡ false → old.notes.is_settled ≡ true → IsSoundWithin old → MayForgetAt (state_in old) below → IsHalted below calls old.disk new
    → Goes (SeesIn old) (SeesIn (halted_from old new stop)) (λ before after. StoppedOpening before below (LeavesIn (halted_from old new stop)) after)
halts old new stop below calls same raises live few off settled sound may halted =
    goes_from old (halted_from old new stop) (λ before after. StoppedOpening before below (LeavesIn (halted_from old new stop)) after) live (halts_soundly old new stop below calls raises off settled sound halted)
    (λ start history stands.
    let down = down_of old off sound in
    let read = down.leaves old.disk.now.seen down.reads_now in
    let part : (image : List ℕ) → MayLeave new.now image → OpenedSoFar below (store_of old.disk.now.seen) (store_of image) =
    (λ image leaves. so_far_stored read.journal below old.disk.now.seen image read.reads (reaches_in old new below calls raises settled down halted image leaves)) in
    record {
      later = history;
      stands = halted_stands old new stop below calls start history raises few off settled sound may halted stands;
      does = record {
        keeps = record {
          start = refl;
          history = refl;
          living = λ connection. refl;
          is_quiet = halted.quiet;
          per_record = refl;
          crashes = (refl, refl, refl);
          faults = never_falls old.disk.faults new.faults old.notes down.faults few halted.faults;
          stop = λ none. still_none_by_less calls old.disk.stop new.stop halted.stop none;
          kept = same;
          calls = refl;
          is_spent = live;
        };
        is_up = (off, refl);
        so_far = part new.now.seen halted.reads_now;
        left = λ store leaves. subst (OpenedSoFar below (store_of old.disk.now.seen)) (sym leaves.store_is) (part leaves.image leaves.left);
        cause = record { rose = λ stopped. rises old.disk.faults new.faults old.notes down.faults few halted.faults; quiet = λ is_quiet changed. none_before calls old.disk.stop new.stop halted.stop (halted.at_stop is_quiet) };
      };
    })
