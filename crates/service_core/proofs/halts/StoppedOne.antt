-- A frame of a connection in which the disk failed.
use Rattle.std.proofs.Common.{◌≡◌, ◌+◌, ◌*◌, ◌<◌, ◌≤◌, ◌^◌, ℕ, false, refl, sym, subst, List, [], ◌∷◌, ◌++◌, length, arith}
use Rattle.std.specs.Prelude.{Option, Some, None}
use Rattle.disk_model.specs.Moment.{MayLeave}
use Rattle.disk_model.specs.Disk.{DiskState, LoweredByLess}
use Rattle.svc_values.specs.declared.frame.Up.{Up}
use Rattle.svc_values.specs.declared.frame.Up.TheVariants as up
use Rattle.svc_values.specs.meaning.Calls.{sequences_in}
use Rattle.svc_values.specs.meaning.Identifiers.{session_of}
use Rattle.mutable_values.specs.declared.grants.Grants.{Grants}
use Rattle.server_model.specs.meaning.Base.{Base}
use Rattle.server_model.specs.meaning.Outcomes.{Stopped}
use Rattle.server_model.specs.Runs.{Happened, Served}
use Rattle.server_model.specs.Seen.{Store, Seen, Keeps}
use Rattle.server_model.specs.ServiceCalls.{Adds, ServedOne, StopCause, TellsByTable, may_store}
use Rattle.server_model.proofs.Offered.{stopped_stored}
use Rattle.server_session.specs.declared.shared.Core.{Core}
use Rattle.server_session.specs.SeenSession.{SeenSession as Session}
use Rattle.server_session.specs.Serving.{HasStopped, served_as}
use Rattle.service_calls.specs.Kept.{HaveOneBase}
use Rattle.service_core.specs.declared.notes.Notes.{Notes}
use Rattle.service_core.specs.Held.{Held}
use Rattle.service_core.specs.Seeing.{Came, Leaves, StandsDown, StandsUp, store_of, state_of}
use Rattle.service_core.specs.Sound.{IsDown, IsHeld, IsUp}
use Rattle.service_core.specs.Taking.{IsTaken}
use Rattle.service_core.proofs.Faulty.{never_falls, rises, still_counted, still_none_by_less}
use Rattle.service_core.proofs.Standing.{seen_with}
use Rattle.service_core.proofs.Taken.{IsReady, made_ready, session_shown, taken_held}
use Rattle.service_core.proofs.halts.Stopping.{stopped_adds_at, stopped_base, stopped_came, stopped_down}

-- ---- stops and faults

-- a stop was set, and reached
pub reached_from : (n most : ℕ) (before after : Option ℕ) → LoweredByLess n before after → after ≡ Some 0 → n ≤ most → (left : ℕ) × (before ≡ Some left) × (left < most)
reached_from n most None None lowered some less = absurd (let no : ⊥ = cc in no)
reached_from n most None (Some after) lowered some less = absurd lowered
reached_from n most (Some before) None lowered some less = absurd lowered
reached_from n most (Some before) (Some after) lowered some less = let none : after ≡ 0 = cc in (before, refl, omega (arith, lowered.1, none, less))

-- nothing is told by the table at a stop
stopped_by_table : (store : Store) (frame : Up) → TellsByTable store frame Stopped
stopped_by_table store up.Connect = tt
stopped_by_table store (up.Begin settings) = tt
stopped_by_table store up.End = tt
stopped_by_table store up.Close = tt
stopped_by_table store (up.Outcome x) = tt
stopped_by_table store (up.Call replay kept called) = tt

-- ---- the service

module _ (grants : Grants) (disk end : DiskState) (core : Core) (held rest : Held) (notes : Notes) (made connection now : ℕ) (frame : Up) (session : Session) (kept : Option ℕ) (kept_is : kept ≡ disk.stop) (up : IsUp grants disk core held notes)
    (taken : IsTaken core held notes.sessions connection session rest made) (stopped : HasStopped (served_as frame now) (1 + sequences_in frame) session core disk end) (reads_now : MayLeave end.now end.now.seen) where
  abbrev pub stopped_notes : Notes
  stopped_notes = record notes { is_settled = false; sessions = made; kept = kept; calls = notes.calls + 1 }

  own : IsHeld core made session
  own = taken_held grants disk core held notes connection session made up taken.session_is

  pub one_down : IsDown end [] stopped_notes
  one_down = stopped_down grants disk end core held notes now frame session own.reads own.noted up stopped reads_now stopped_notes (omega arith) refl refl (still_counted disk.faults end.faults notes stopped_notes up.faults stopped.halted.faults refl refl)

  pub one_base : HaveOneBase disk.now.seen end.now.seen
  one_base = stopped_base grants disk end core held notes now frame session own.reads own.noted up stopped reads_now

  module _ (start : Base) (history : List Happened) (came : Came start history (StandsUp disk core held notes.sessions)) where
    ready : Came start history (IsReady disk core rest made session)
    ready = made_ready grants disk core held rest notes connection session made start history taken.left taken.session_is came

    pub one_came : (image : List ℕ) → MayLeave end.now image → Came start (history ++ Served (session_of session.ltxid) now frame Stopped ∷ []) (StandsDown grants false image)
    one_came image left = stopped_came grants disk end core held notes now frame session own.reads own.noted up stopped reads_now rest made start history ready image left

    adds_at : (image : List ℕ) → MayLeave end.now image → Adds (Served (session_of session.ltxid) now frame Stopped ∷ []) (1 + sequences_in frame) (store_of disk.now.seen) (store_of image)
    adds_at image left = stopped_adds_at grants disk end core held notes now frame session own.reads own.noted up stopped reads_now rest made start history ready image left

    -- ---- what is done

    abbrev before : Seen
    before = seen_with start history (state_of disk (Some core) held notes)

    abbrev behind : Seen
    behind = seen_with start (history ++ Served (session_of session.ltxid) now frame Stopped ∷ []) (state_of end None [] stopped_notes)

    keeps : notes.is_spent ≡ false → notes.calls < 2 ^ 48 → Keeps before behind
    keeps live few = record {
      start = refl;
      is_opened = refl;
      is_quiet = stopped.halted.quiet;
      per_record = refl;
      crashes = (refl, refl, refl);
      faults = never_falls disk.faults end.faults notes up.faults few stopped.halted.faults;
      stop = λ none. still_none_by_less (4 * length stopped.records + 4) disk.stop end.stop stopped.halted.stop none;
      calls = refl;
      is_spent = live;
    }

    cause : notes.calls < 2 ^ 48 → StopCause before behind (1 + sequences_in frame) Stopped
    cause few = record {
      rose = λ same. rises disk.faults end.faults notes up.faults few stopped.halted.faults;
      quiet = λ quiet changed. reached_from (4 * length stopped.records + 4) (4 * (1 + sequences_in frame)) disk.stop end.stop stopped.halted.stop (stopped.halted.reached quiet) (omega (arith, stopped.few));
      reached = λ left set changed answered. absurd (answered refl);
    }

    pub one_does : notes.is_spent ≡ false → notes.calls < 2 ^ 48 → (may_store frame ≡ false → ⊥) → ServedOne before connection now frame Stopped (Leaves end) behind
    one_does live few stores = record {
      keeps = keeps live few;
      session = session_of session.ltxid;
      of_connection = session_shown grants disk core held notes connection session made start history up taken.session_is;
      history = refl;
      living = λ other. refl;
      is_up = refl;
      kept = kept_is;
      outcome = stopped_by_table (store_of disk.now.seen) frame;
      adds = adds_at end.now.seen reads_now;
      left = λ store leaves. subst (Adds (Served (session_of session.ltxid) now frame Stopped ∷ []) (1 + sequences_in frame) (store_of disk.now.seen)) (sym leaves.store_is) (adds_at leaves.image leaves.left);
      stored = stopped_stored (store_of disk.now.seen) frame (store_of end.now.seen);
      blocks = λ none. absurd (let no : ⊥ = cc in no);
      cause = cause few;
      silent = λ quiet. absurd (stores quiet);
    }
