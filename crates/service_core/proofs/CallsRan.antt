-- What a service is seen as after calls that were run from outside.
use Rattle.std.proofs.Common.{◌≡◌, ◌∙◌, ◌+◌, ℕ, Bool, true, false, refl, ap, subst, List, [], ◌++◌, map, arith}
use Rattle.std.specs.Prelude.{Some}
use Rattle.disk_model.specs.Disk.{DiskState}
use Rattle.svc_values.specs.declared.call.Call.{Call}
use Rattle.svc_values.specs.declared.entry.Ltxid.{Ltxid}
use Rattle.svc_values.specs.declared.entry.SessionId.{SessionId}
use Rattle.svc_values.specs.meaning.Identifiers.{ltxid_of, session_of}
use Rattle.mutable_values.specs.declared.grants.Grants.{Grants}
use Rattle.outage_schedule.specs.declared.note.NoteRun.{NoteRun}
use Rattle.server_model.specs.meaning.Base.{Base}
use Rattle.server_model.specs.Runs.{Happened}
use Rattle.server_model.specs.Seen.{Seen}
use Rattle.server_model.specs.ServiceCalls.{Gains, RanOutside, RunsAre, begins_outside, next_session as next_id}
use Rattle.server_session.specs.declared.shared.Core.{Core}
use Rattle.server_session.specs.SeenSession.{SeenSession as Session}
use Rattle.service_calls.specs.Answers.{run_of}
use Rattle.service_calls.specs.Kept.{HaveOneBase}
use Rattle.service_core.specs.declared.notes.Notes.{Notes}
use Rattle.service_core.specs.Held.{Held}
use Rattle.service_core.specs.Seeing.{Came, StandsUp, state_of, store_of}
use Rattle.service_core.specs.Sound.{IsUp}
use Rattle.service_core.specs.Through.{HasRunFrom, begun_items, happened_in}
use Rattle.service_core.proofs.Answered.{Went, went, went_on}
use Rattle.service_core.proofs.Beside.{Follows, IsBeside, through_beside, through_follows}
use Rattle.service_core.proofs.Gained.{grew_base}
use Rattle.service_core.proofs.Standing.{seen_with}
use Rattle.service_core.proofs.Taken.{IsReady, next_ready}
use Rattle.service_core.proofs.Went.{made_beside, made_id, made_is_next, made_notes, made_session, through_grew}

module _ (grants : Grants) (now : ℕ) (calls : List Call) (runs : List NoteRun) (core later : Core) (disk end : DiskState) (held : Held) (notes : Notes) (new : Session) (up : IsUp grants disk core held notes) (ran : HasRunFrom now calls runs (made_session core notes) core disk new later end) where
  beside_begun : IsBeside grants ran.at ran.between held (made_notes notes) ran.mid
  beside_begun = through_beside grants now (made_session core notes) core disk held (made_notes notes) (made_beside grants disk core held notes up) _ ran.mid ran.between ran.at ran.begun.through

  beside_end : IsBeside grants end later held (made_notes notes) new
  beside_end = through_beside grants now ran.mid ran.between ran.at held (made_notes notes) beside_begun ran.ran.items new later end ran.ran.through

  pub ran_up : IsUp grants end later held (made_notes notes)
  ran_up = beside_end.up

  pub ran_base : HaveOneBase disk.now.seen end.now.seen
  ran_base =
      let first = through_grew now (made_session core notes) core disk up.fits.journal _ ran.mid ran.between ran.at up.fits.reads ran.begun.through in
      let next = through_grew now ran.mid ran.between ran.at first.later ran.ran.items new later end first.reads ran.ran.through in
      grew_base disk.now.seen [] up.fits.journal end.now.seen up.fits.reads (record { later = next.later; reads = next.reads; base_is = next.base_is ∙ first.base_is })

  went_all : Went disk end
  went_all =
      went_on disk ran.at end (went now (made_session core notes) core disk _ ran.mid ran.between ran.at ran.begun.through)
      (went now ran.mid ran.between ran.at ran.ran.items new later end ran.ran.through)

  module _ (start : Base) (history : List Happened) (came : Came start history (StandsUp disk core held notes.sessions)) where
    abbrev begun : List Happened
    begun = happened_in (made_id core notes) now (begun_items (made_session core notes).ltxid)

    abbrev pub behind_them : List Happened
    behind_them = happened_in (session_of ran.mid.ltxid) now ran.ran.items

    ready : Came start history (IsReady disk core held (notes.sessions + 1) (made_session core notes))
    ready = next_ready disk core held held notes.sessions start history (λ connection session at. at) came

    first : Follows start history begun disk ran.between ran.at held (notes.sessions + 1) ran.mid (made_id core notes)
    first = through_follows grants now (made_session core notes) core disk held (made_notes notes) (made_beside grants disk core held notes up) start history (notes.sessions + 1) ready _ ran.mid ran.between ran.at ran.begun.through

    second : Follows start (history ++ begun) behind_them ran.at later end held (notes.sessions + 1) new (session_of ran.mid.ltxid)
    second = through_follows grants now ran.mid ran.between ran.at held (made_notes notes) beside_begun start (history ++ begun) (notes.sessions + 1) first.came ran.ran.items new later end ran.ran.through

    pub ran_came : Came start ((history ++ begun) ++ behind_them) (StandsUp end later held (notes.sessions + 1))
    ran_came = let last = second.came in record { server = last.server; runs = last.runs; is_base = last.is_base; stands = last.stands.stands }

    abbrev pub ran_history : List Happened
    ran_history = (history ++ begun) ++ behind_them

    -- ---- what is done

    abbrev before : Seen
    before = seen_with start history (state_of disk (Some core) held notes)

    abbrev behind : Seen
    behind = seen_with start ((history ++ begun) ++ behind_them) (state_of end (Some later) held (made_notes notes))

    is_next : made_id core notes ≡ next_id before
    is_next = made_is_next grants disk core held notes start history up

    pub ran_does : (x : Ltxid) → x ≡ ltxid_of (made_id core notes) 0 → notes.is_spent ≡ false → RanOutside before calls now x (map run_of runs) behind
    ran_does x x_is live = record {
      keeps = record {
        start = refl;
        is_opened = refl;
        is_quiet = went_all.quiet;
        per_record = refl;
        crashes = (refl, refl, refl);
        faults = omega (arith, went_all.faults);
        stop = went_all.stop;
        calls = refl;
        is_spent = live;
      };
      of_session = x_is ∙ ap (λ (s : SessionId). ltxid_of s 0) is_next;
      more = behind_them;
      ran = subst (λ (s : SessionId). RunsAre s now calls (map run_of runs) behind_them) (ran.begun.session ∙ is_next) ran.ran.are;
      history = ap (λ (s : SessionId). (history ++ begins_outside s now) ++ behind_them) is_next;
      others = ((λ connection. refl), refl, refl, refl);
      gains = subst (λ (d : DiskState). Gains behind_them (store_of d.now.seen) (store_of end.now.seen)) ran.begun.same second.gains;
      cause = record { rose = λ stopped. absurd (let e : ◌≡◌ {A = Bool} false true = stopped in cc); quiet = λ quiet changed. absurd (changed went_all.faults) };
    }
