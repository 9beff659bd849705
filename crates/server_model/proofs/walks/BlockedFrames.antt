-- Each call that was answered Blocked would have reached its commit, under an identifier that is or
-- may be blocked.
use Rattle.std.specs.Prelude.{◌≡◌, ◌||◌, ℕ, Bool, true, not, IsTrue, List, [], Some}
use Rattle.std.proofs.Common.{refl, inl, inr, sym, ◌∙◌, ap, subst}
use Rattle.svc_values.specs.declared.draw.Draw.{Draw}
use Rattle.svc_values.specs.declared.draw.DrawKind.{DrawKind}
use Rattle.svc_values.specs.declared.statement.Statement.{Statement}
use Rattle.svc_values.specs.declared.call.Call.{Call}
use Rattle.svc_values.specs.declared.call.Call.TheVariants as call
use Rattle.svc_values.specs.declared.entry.Ltxid.{Ltxid}
use Rattle.svc_values.specs.declared.frame.Up.{Up}
use Rattle.svc_values.specs.declared.frame.Up.TheVariants as up
use Rattle.svc_values.specs.declared.frame.Down.TheVariants as down
use Rattle.svc_values.specs.meaning.Endings.{ends_committed}
use Rattle.svc_values.specs.meaning.Tables.{with_writes}
use Rattle.svc_values.specs.meaning.Identifiers.{session_of}
use Rattle.ltxid_book.specs.meaning.Journal.{is_blocked}
use Rattle.ltxid_book.specs.declared.verdict.Verdict.{Verdict}
use Rattle.ltxid_book.specs.declared.verdict.Verdict.TheVariants as verdict
use Rattle.mutable_values.specs.Sources.{Opening}
use Rattle.stmt_meaning.specs.meaning.Meaning.{Meant, mean}
use Rattle.stmt_meaning.specs.meaning.SerialTest.{is_nil}
use Rattle.server_model.specs.meaning.Base.{Base}
use Rattle.server_model.specs.Core.{Core, committed, all_blocked}
use Rattle.svc_values.specs.declared.entry.SessionId.{SessionId}
use Rattle.server_model.specs.Sessions.{Begun, Sess, with_work}
use Rattle.server_model.specs.meaning.Outcomes.{Telling, Says}
use Rattle.server_model.specs.Outcomes.{Outcomes, IsTold, BlockStops, down_of}
use Rattle.server_model.specs.Draws.{brought, DrawsAll}
use Rattle.server_model.specs.Serve.{Commits, InReplay, Blocks, Conflicts, Stores, StopsBefore, StopsAfter, Works, Answers, Reaches, HaltsInDraw, Calls, IsWork, IsSet, IsAlter, AlterStops, AlterMarked, IsDisable, IsRollback, Serve, Connects, Begins, Ends, Closes, Asks, Runs as Serves, Refuses, with_opening}
use Rattle.server_model.specs.Runs.{is_answered}
use Rattle.server_model.specs.meaning.Items.{thing_of, with_answer, without_answer}
use Rattle.server_model.specs.meaning.NewValues.{meets_with}
use Rattle.server_model.specs.meaning.Walk.{Walk, next_of, meaning}
use Rattle.server_model.specs.meaning.Legal.{thing_holds, means_commit, may_be_blocked}
use Rattle.server_model.proofs.walks.Deeds.{At}
use Rattle.server_model.proofs.PlainAnswers.{work-ending}
use Rattle.server_model.proofs.StoppedHistories.{and-both}
use Rattle.server_model.proofs.walks.BlocksTold.{IsOut, BlocksOut, or-left, or-right}
use Rattle.server_model.proofs.draws.DrawnFrames.{asked-so, unmarked}
use Rattle.server_model.proofs.draws.MeetsCommit.{meets-draws}
use Rattle.server_model.proofs.draws.Tracking.{Tracks}

is-none : (list : List Draw) → list ≡ [] → is_nil list ≡ true
is-none list none = ap is_nil none

either-out : (here : Walk) (x : Ltxid) → IsOut here x → (is_blocked here.blocked x || is_blocked here.perhaps x) ≡ true
either-out here x (inl is) = or-left _ _ is
either-out here x (inr is) = or-right _ _ is

module _ (base : Base) (core : Core) (here : Walk) (sess : Sess) (at : At base core here sess) (tracks : Tracks here.numbers core.opening) (number : next_of here (session_of sess.ltxid) ≡ sess.ltxid) (out : BlocksOut core here) where
  module _ (lives : sess.life ≡ Begun) (now : ℕ) (replay : Bool) (kept : List Draw) where
    means-here : (called : Call) (draws : List Draw) (meant : Meant) → mean core.base.shape (with_writes (committed core) sess.writes) sess.settings called draws ≡ Some meant → meaning base here (session_of sess.ltxid) called draws ≡ Some meant
    means-here called draws meant means =
        (λ i. mean (sym at.is i).shape (with_writes (at.committed i) (at.transaction lives i).writes) (at.transaction lives i).settings called draws) ∙ means

    may-block : (opening : Opening) (statements : List Statement) (commit : Bool) (draws left : List Draw) (meant : Meant)
        → mean core.base.shape (with_writes (committed core) sess.writes) sess.settings (call.Work statements commit) draws ≡ Some meant → meant.rest ≡ [] → ends_committed meant.answers ≡ true
        → DrawsAll now core.opening (brought core.base.grants core.opening replay kept) draws opening left → IsTrue (not replay) → IsTrue (is_blocked (all_blocked core) sess.ltxid)
        → may_be_blocked base here now (session_of sess.ltxid) replay (call.Work statements commit) ≡ true
    may-block opening statements commit draws left meant means used is drew not_marked blocked =
        let called : Call = call.Work statements commit in
        let own : is_blocked (all_blocked core) (next_of here (session_of sess.ltxid)) ≡ true = ap (is_blocked (all_blocked core)) number ∙ blocked in
        let meets : means_commit (meaning base here (session_of sess.ltxid) called draws) ≡ true = ap means_commit (means-here called draws meant means) ∙ and-both _ _ (is-none meant.rest used) is in
        and-both _ _ ((work-ending core.base.shape _ sess.settings statements commit draws meant means).commit is)
        (and-both _ _ (ap not (unmarked replay not_marked))
        (and-both _ _ (either-out here (next_of here (session_of sess.ltxid)) (out (next_of here (session_of sess.ltxid)) own))
        (subst (λ (asked : List DrawKind). meets_with (λ more. means_commit (meaning base here (session_of sess.ltxid) called more)) now asked here.numbers ≡ true) ((asked-so base core sess called draws meant means used).whole is)
        (meets-draws (λ more. means_commit (meaning base here (session_of sess.ltxid) called more)) now draws core.opening opening left here.numbers
        (subst (λ r. DrawsAll now core.opening (brought core.base.grants core.opening r kept) draws opening left) (unmarked replay not_marked) drew) tracks meets))))

    commits : (opening : Opening) (statements : List Statement) (commit : Bool) (draws left : List Draw) (meant : Meant) (after : Core) (new : Sess) (told : Telling)
        → mean core.base.shape (with_writes (committed core) sess.writes) sess.settings (call.Work statements commit) draws ≡ Some meant → meant.rest ≡ [] → ends_committed meant.answers ≡ true
        → DrawsAll now core.opening (brought core.base.grants core.opening replay kept) draws opening left
        → Commits (with_opening core opening) (with_work sess (committed core) meant) replay (call.Work statements commit) meant.answers draws after new told → IsTrue (is_answered told)
        → thing_holds base here now (session_of sess.ltxid) (thing_of (up.Call replay kept (call.Work statements commit)) told) ≡ true
    commits opening statements commit draws left meant _ _ _ means used is drew (InReplay marked) answered = refl
    commits opening statements commit draws left meant _ _ _ means used is drew (Blocks not_marked blocked) answered = may-block opening statements commit draws left meant means used is drew not_marked blocked
    commits opening statements commit draws left meant _ _ _ means used is drew (Conflicts not_marked free changed) answered = refl
    commits opening statements commit draws left meant _ _ _ means used is drew (Stores may) answered = refl
    commits opening statements commit draws left meant _ _ _ means used is drew (StopsBefore may) answered = refl
    commits opening statements commit draws left meant _ _ _ means used is drew (StopsAfter may) answered = refl

    works : (statements : List Statement) (commit : Bool) (after : Core) (new : Sess) (told : Telling) → Works core sess replay kept (call.Work statements commit) now after new told → IsTrue (is_answered told)
        → thing_holds base here now (session_of sess.ltxid) (thing_of (up.Call replay kept (call.Work statements commit)) told) ≡ true
    works statements commit _ _ _ (Answers opening draws left meant drew means plain) answered = refl
    works statements commit _ _ _ (Reaches opening draws left meant after new told drew means is commits_so) answered = commits opening statements commit draws left meant after new told means.run means.used is drew commits_so answered
    works statements commit _ _ _ (HaltsInDraw between opening draws next more left meant drew means halts) answered = refl

    calls : (asked : Call) (after : Core) (new : Sess) (told : Telling) → Calls core sess replay kept now asked after new told → IsTrue (is_answered told) → thing_holds base here now (session_of sess.ltxid) (thing_of (up.Call replay kept asked) told) ≡ true
    calls _ _ _ _ (IsWork statements commit after new told works_so) answered = works statements commit after new told works_so answered
    calls _ _ _ _ (IsSet name value) answered = refl
    calls _ _ _ _ (IsAlter line not_marked) answered = refl
    calls _ _ _ _ (AlterStops line after not_marked same_core) answered = refl
    calls _ _ _ _ (AlterMarked line marked) answered = refl
    calls _ _ _ _ IsDisable answered = refl
    calls _ _ _ _ IsRollback answered = refl

  asks : (now : ℕ) (x : Ltxid) (judged : Verdict) → thing_holds base here now (session_of sess.ltxid) (thing_of (up.Outcome x) (Says (down_of judged))) ≡ true
  asks now x verdict.BlockIt = refl
  asks now x verdict.AlreadyBlocked = refl
  asks now x (verdict.Committed completed) = refl
  asks now x (verdict.ServerAhead next) = refl
  asks now x (verdict.ClientAhead next) = refl
  asks now x (verdict.Forgotten horizon) = refl

  outcomes : (now : ℕ) (x : Ltxid) (after : Core) (told : Telling) → Outcomes core x after told → thing_holds base here now (session_of sess.ltxid) (thing_of (up.Outcome x) told) ≡ true
  outcomes now x _ _ (IsTold judged by) = asks now x judged
  outcomes now x _ _ (BlockStops after by same_core) = refl

  refused : (now : ℕ) (frame : Up) → thing_holds base here now (session_of sess.ltxid) (with_answer frame (down.Refused 2)) ≡ true
  refused now up.Connect = refl
  refused now (up.Begin settings) = refl
  refused now (up.Call replay kept asked) = refl
  refused now (up.Outcome x) = refl
  refused now up.End = refl
  refused now up.Close = refl

  -- a frame that is answered
  pub serve-may : (now : ℕ) (frame : Up) (after : Core) (new : Sess) (told : Telling) → Serve core sess now frame after new told → IsTrue (is_answered told) → thing_holds base here now (session_of sess.ltxid) (thing_of frame told) ≡ true
  serve-may now _ _ _ _ (Connects life) answered = refl
  serve-may now _ _ _ _ (Begins settings serving) answered = refl
  serve-may now _ _ _ _ (Ends serving) answered = refl
  serve-may now _ _ _ _ (Closes serving) answered = refl
  serve-may now _ _ _ _ (Asks x after told serving asked) answered = outcomes now x after told asked
  serve-may now _ _ _ _ (Serves replay kept asked after new told begun calls_so) answered = calls begun now replay kept asked after new told calls_so answered
  serve-may now _ _ _ _ (Refuses frame out_of) answered = refused now frame

-- a frame that was stopped was not answered Blocked
pub stopped-may : (base : Base) (here : Walk) (now : ℕ) (session : SessionId) (frame : Up) → thing_holds base here now session (without_answer frame) ≡ true
stopped-may base here now session up.Connect = refl
stopped-may base here now session (up.Begin settings) = refl
stopped-may base here now session (up.Call replay kept asked) = refl
stopped-may base here now session (up.Outcome x) = refl
stopped-may base here now session up.End = refl
stopped-may base here now session up.Close = refl
