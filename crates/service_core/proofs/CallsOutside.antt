-- What a service is seen as after calls from outside.
use Rattle.std.proofs.Common.{◌≡◌, ◌+◌, ◌<◌, ◌^◌, ℕ, false, sym, subst, List, [], map, ◌++◌}
use Rattle.std.specs.Prelude.{Option, Some, None}
use Rattle.disk_model.specs.Moment.{MayLeave}
use Rattle.disk_model.specs.Disk.{DiskState}
use Rattle.svc_values.specs.declared.call.Call.{Call}
use Rattle.svc_values.specs.declared.entry.Ltxid.{Ltxid}
use Rattle.svc_values.specs.meaning.Identifiers.{ltxid_of}
use Rattle.outage_schedule.specs.declared.note.NoteRun.{NoteRun}
use Rattle.server_model.specs.ServiceCalls.{RanOutside, StoppedOutside}
use Rattle.server_session.specs.declared.shared.Core.{Core}
use Rattle.server_session.specs.SeenSession.{SeenSession as Session}
use Rattle.service_calls.specs.Answers.{run_of}
use Rattle.service_calls.specs.Kept.{Goes, HaveOneBase}
use Rattle.service_core.specs.Held.{Held}
use Rattle.service_core.specs.Seeing.{LeavesIn, SeesIn, Stands, state_of}
use Rattle.service_core.specs.Sound.{IsSound, IsSoundWithin, IsUp}
use Rattle.service_core.specs.Through.{HasHaltedFrom, HasRunFrom}
use Rattle.service_core.specs.Within.{Within}
use Rattle.service_core.proofs.halts.CallsHalted.{halted_base, halted_came, halted_does, halted_down, halted_in}
use Rattle.service_core.proofs.CallsRan.{ran_base, ran_came, ran_does, ran_history, ran_up}
use Rattle.service_core.proofs.Standing.{goes_from, seen_with}
use Rattle.service_core.proofs.Went.{made_id, made_notes, made_session}

module _ (old : Within) (core : Core) (is_up : old.core ≡ Some core) (sound : IsSoundWithin old) (now : ℕ) (session : Session) (session_is : session ≡ made_session core old.notes) (made : ℕ) (made_is : made ≡ old.notes.sessions + 1) (end : DiskState) where
  up : IsUp old.grants old.disk core old.held old.notes
  up = subst (λ (c : Option Core). IsSound old.grants old.disk c old.held old.notes) is_up sound

  -- ---- answered

  module _ (calls : List Call) (runs : List NoteRun) (later : Core) (new : Session) (ran : HasRunFrom now calls runs session core old.disk new later end) where
    ran_so : HasRunFrom now calls runs (made_session core old.notes) core old.disk new later end
    ran_so = subst (λ (s : Session). HasRunFrom now calls runs s core old.disk new later end) session_is ran

    abbrev pub with_ran : ℕ → Within
    with_ran sessions = record { grants = old.grants; disk = end; core = Some later; held = old.held; notes = record old.notes { sessions = sessions; calls = old.notes.calls + 1 } }

    of_made : (P : Within → Type 0) → P (with_ran (old.notes.sessions + 1)) → P (with_ran made)
    of_made P is = subst (λ (n : ℕ). P (with_ran n)) (sym made_is) is

    soundly : IsSoundWithin (with_ran (old.notes.sessions + 1))
    soundly = ran_up old.grants now calls runs core later old.disk end old.held old.notes new up ran_so

    pub runs_soundly : IsSoundWithin (with_ran made)
    runs_soundly = of_made IsSoundWithin soundly

    pub runs_on_base : HaveOneBase old.disk.now.seen end.now.seen
    runs_on_base = ran_base old.grants now calls runs core later old.disk end old.held old.notes new up ran_so

    pub runs_so : (x : Ltxid) → x ≡ ltxid_of (made_id core old.notes) 0 → old.notes.is_spent ≡ false → Goes (SeesIn old) (SeesIn (with_ran made)) (λ before behind. RanOutside before calls now x (map run_of runs) behind)
    runs_so x x_is live =
        of_made (λ (w : Within). Goes (SeesIn old) (SeesIn w) (λ before behind. RanOutside before calls now x (map run_of runs) behind))
        (goes_from old (with_ran (old.notes.sessions + 1)) (λ before behind. RanOutside before calls now x (map run_of runs) behind) live soundly
        (λ start history stands.
        let came = subst (λ (c : Option Core). Stands old.grants old.disk c old.held old.notes start history) is_up stands in
        record {
          later = ran_history old.grants now calls runs core later old.disk end old.held old.notes new up ran_so start history came;
          stands = ran_came old.grants now calls runs core later old.disk end old.held old.notes new up ran_so start history came;
          does =
              subst (λ (c : Option Core). RanOutside (seen_with start history (state_of old.disk c old.held old.notes)) calls now x (map run_of runs) (seen_with start (ran_history old.grants now calls runs core later old.disk end old.held old.notes new up ran_so start history came) (state_of end (Some later) old.held (made_notes old.notes)))) (sym is_up)
              (ran_does old.grants now calls runs core later old.disk end old.held old.notes new up ran_so start history came x x_is live);
        }))

  -- ---- stopped

  module _ (halted : HasHaltedFrom now session core old.disk end) (reads_now : MayLeave end.now end.now.seen) (gone : Option Core) (gone_is : gone ≡ None) (empty : Held) (empty_is : empty ≡ []) where
    halted_so : HasHaltedFrom now (made_session core old.notes) core old.disk end
    halted_so = subst (λ (s : Session). HasHaltedFrom now s core old.disk end) session_is halted

    abbrev pub with_halted : Option Core → Held → ℕ → Within
    with_halted none held sessions = record { grants = old.grants; disk = end; core = none; held = held; notes = record old.notes { is_settled = false; sessions = sessions; calls = old.notes.calls + 1 } }

    of_all : (P : Within → Type 0) → P (with_halted None [] (old.notes.sessions + 1)) → P (with_halted gone empty made)
    of_all P is =
        subst (λ (n : ℕ). P (with_halted gone empty n)) (sym made_is)
        (subst (λ (c : Option Core). P (with_halted c empty (old.notes.sessions + 1))) (sym gone_is) (subst (λ (h : Held). P (with_halted None h (old.notes.sessions + 1))) (sym empty_is) is))

    down : IsSoundWithin (with_halted None [] (old.notes.sessions + 1))
    down = halted_down old.grants now core old.disk end old.held old.notes up halted_so reads_now

    pub halts_soundly : IsSoundWithin (with_halted gone empty made)
    halts_soundly = of_all IsSoundWithin down

    pub halts_on_base : HaveOneBase old.disk.now.seen end.now.seen
    halts_on_base = halted_base old.grants now core old.disk end old.held old.notes up halted_so reads_now

    pub halts : old.notes.is_spent ≡ false → old.notes.calls < 2 ^ 48 → Goes (SeesIn old) (SeesIn (with_halted gone empty made)) (λ before behind. StoppedOutside before (LeavesIn (with_halted gone empty made)) behind)
    halts live few =
        of_all (λ (w : Within). Goes (SeesIn old) (SeesIn w) (λ before behind. StoppedOutside before (LeavesIn w) behind))
        (goes_from old (with_halted None [] (old.notes.sessions + 1)) (λ before behind. StoppedOutside before (LeavesIn (with_halted None [] (old.notes.sessions + 1))) behind) live down
        (λ start history stands.
        let came = subst (λ (c : Option Core). Stands old.grants old.disk c old.held old.notes start history) is_up stands in
        record {
          later = history ++ halted_in old.grants now core old.disk end old.held old.notes up halted_so reads_now start history came;
          stands = halted_came old.grants now core old.disk end old.held old.notes up halted_so reads_now start history came;
          does =
              subst (λ (c : Option Core). StoppedOutside (seen_with start history (state_of old.disk c old.held old.notes)) (LeavesIn (with_halted None [] (old.notes.sessions + 1))) (seen_with start (history ++ halted_in old.grants now core old.disk end old.held old.notes up halted_so reads_now start history came) (state_of end None [] (with_halted None [] (old.notes.sessions + 1)).notes))) (sym is_up)
              (halted_does old.grants now core old.disk end old.held old.notes up halted_so reads_now start history came live few);
        }))
