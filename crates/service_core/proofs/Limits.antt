-- What is told of a frame keeps within the limits of frames, as its session's next identifier does.
use Rattle.std.proofs.Common.{◌+◌, ◌≤◌, ℕ, refl, List, arith}
use Rattle.std.specs.Prelude.{Bool, Option, Some, None, IfSome}
use Rattle.disk_model.specs.Disk.{DiskState}
use Rattle.svc_values.specs.declared.answer.Answer.{Answer}
use Rattle.svc_values.specs.declared.call.Call.{Call}
use Rattle.svc_values.specs.declared.draw.Draw.{Draw}
use Rattle.svc_values.specs.declared.frame.Down.{Down}
use Rattle.svc_values.specs.declared.frame.Up.{Up}
use Rattle.svc_values.specs.Identifiers.{IsLtxid}
use Rattle.canon_bytes.specs.DownBytes.{IsMadeDown}
use Rattle.ltxid_book.specs.declared.verdict.Verdict.{Verdict}
use Rattle.ltxid_book.specs.declared.verdict.Verdict.TheVariants as verdict
use Rattle.stmt_meaning.specs.meaning.Reads.{Read}
use Rattle.table_txn.specs.Readings.{AreReadings}
use Rattle.server_model.specs.Core.{Core as Plain, committed}
use Rattle.server_model.specs.meaning.Outcomes.{Telling, Silent, Says, Stopped, telling_of}
use Rattle.server_model.specs.Outcomes.{IsTold, BlockStops, down_of}
use Rattle.server_model.specs.Serve.{Commits, InReplay, Blocks, Conflicts, Stores, StopsBefore, StopsAfter, Works, Answers, Reaches, HaltsInDraw, Calls, IsWork, IsSet, IsAlter, AlterStops, AlterMarked, IsDisable, IsRollback, Serve, Connects, Begins, Ends, Closes, Asks, Runs, Refuses, with_opening}
use Rattle.server_model.specs.Sessions.{Sess, with_work}
use Rattle.server_session.specs.declared.shared.Core.{Core}
use Rattle.server_session.specs.Fits.{Fits}
use Rattle.server_session.specs.SeenSession.{SeenSession as Session, sess_of}
use Rattle.server_session.specs.Serving.{HasServed, served_as}
use Rattle.service_core.proofs.Taken.{has_plain}

abbrev pub IfMade : Telling → Type 0
IfMade Silent = Unit {0}
IfMade (Says frame) = IsMadeDown frame
IfMade Stopped = Unit {0}

-- The session's number rises by one at most, and what is told carries its identifier.
record Keeps (sess t : Sess) (told : Telling) : Type 0 where
  pub number : t.ltxid.number ≤ sess.ltxid.number + 1
  pub made : IsLtxid t.ltxid → IfMade told

same_number : (number : ℕ) → number ≤ number + 1
same_number number = omega arith

one_more : (number : ℕ) → number + 1 ≤ number + 1
one_more number = omega arith

commits_keep : (core : Plain) (sess : Sess) (replay : Bool) (called : Call) (answers : List Answer) (draws : List Draw) (after : Plain) (t : Sess) (told : Telling) → Commits core sess replay called answers draws after t told → Keeps sess t told
commits_keep core sess replay called answers draws _ _ _ (InReplay marked) = record { number = same_number sess.ltxid.number; made = λ made. made }
commits_keep core sess replay called answers draws _ _ _ (Blocks unmarked blocked) = record { number = same_number sess.ltxid.number; made = λ made. tt }
commits_keep core sess replay called answers draws _ _ _ (Conflicts unmarked free differs) = record { number = same_number sess.ltxid.number; made = λ made. made }
commits_keep core sess replay called answers draws _ _ _ (Stores may) = record { number = one_more sess.ltxid.number; made = λ made. made }
commits_keep core sess replay called answers draws _ _ _ (StopsBefore may) = record { number = same_number sess.ltxid.number; made = λ made. tt }
commits_keep core sess replay called answers draws _ _ _ (StopsAfter may) = record { number = same_number sess.ltxid.number; made = λ made. tt }

works_keep : (core : Plain) (sess : Sess) (replay : Bool) (kept : List Draw) (called : Call) (now : ℕ) (after : Plain) (t : Sess) (told : Telling) → Works core sess replay kept called now after t told → Keeps sess t told
works_keep core sess replay kept called now _ _ _ (Answers opening draws left meant drew means ends) = record { number = same_number sess.ltxid.number; made = λ made. made }
works_keep core sess replay kept called now _ _ _ (Reaches opening draws left meant after t told drew means ends commits) =
    let keeps = commits_keep (with_opening core opening) (with_work sess (committed core) meant) replay called meant.answers draws after t told commits in
    record { number = keeps.number; made = keeps.made }
works_keep core sess replay kept called now _ _ _ (HaltsInDraw between opening draws next more left meant drew means halts) = record { number = same_number sess.ltxid.number; made = λ made. tt }

calls_keep : (core : Plain) (sess : Sess) (replay : Bool) (kept : List Draw) (now : ℕ) (called : Call) (after : Plain) (t : Sess) (told : Telling) → Calls core sess replay kept now called after t told → Keeps sess t told
calls_keep core sess replay kept now _ _ _ _ (IsWork statements commit after t told works) = works_keep core sess replay kept _ now after t told works
calls_keep core sess replay kept now _ _ _ _ (IsSet name value) = record { number = same_number sess.ltxid.number; made = λ made. made }
calls_keep core sess replay kept now _ _ _ _ (IsAlter line unmarked) = record { number = same_number sess.ltxid.number; made = λ made. made }
calls_keep core sess replay kept now _ _ _ _ (AlterStops line after unmarked same) = record { number = same_number sess.ltxid.number; made = λ made. tt }
calls_keep core sess replay kept now _ _ _ _ (AlterMarked line marked) = record { number = same_number sess.ltxid.number; made = λ made. refl }
calls_keep core sess replay kept now _ _ _ _ IsDisable = record { number = same_number sess.ltxid.number; made = λ made. made }
calls_keep core sess replay kept now _ _ _ _ IsRollback = record { number = same_number sess.ltxid.number; made = λ made. made }

verdict_made : (judged : Verdict) → IfMade (Says (down_of judged))
verdict_made verdict.BlockIt = tt
verdict_made verdict.AlreadyBlocked = tt
verdict_made (verdict.Committed completed) = tt
verdict_made (verdict.ServerAhead next) = tt
verdict_made (verdict.ClientAhead next) = tt
verdict_made (verdict.Forgotten horizon) = tt

serve_keeps : (core : Plain) (sess : Sess) (now : ℕ) (frame : Up) (after : Plain) (t : Sess) (told : Telling) → Serve core sess now frame after t told → Keeps sess t told
serve_keeps core sess now _ _ _ _ (Connects life) = record { number = same_number sess.ltxid.number; made = λ made. made }
serve_keeps core sess now _ _ _ _ (Begins settings serving) = record { number = same_number sess.ltxid.number; made = λ made. tt }
serve_keeps core sess now _ _ _ _ (Ends serving) = record { number = same_number sess.ltxid.number; made = λ made. tt }
serve_keeps core sess now _ _ _ _ (Closes serving) = record { number = same_number sess.ltxid.number; made = λ made. tt }
serve_keeps core sess now _ _ _ _ (Asks x _ _ serving (IsTold judged by)) = record { number = same_number sess.ltxid.number; made = λ made. verdict_made judged }
serve_keeps core sess now _ _ _ _ (Asks x _ _ serving (BlockStops after by same)) = record { number = same_number sess.ltxid.number; made = λ made. tt }
serve_keeps core sess now _ _ _ _ (Runs replay kept called after t told begun calls) = calls_keep core sess replay kept now called after t told calls
serve_keeps core sess now _ _ _ _ (Refuses frame out) = record { number = same_number sess.ltxid.number; made = λ made. refl }

-- the same of a session
pub record Limits (session new : Session) (told : Telling) : Type 0 where
  pub number : new.ltxid.number ≤ session.ltxid.number + 1
  pub made : IsLtxid new.ltxid → IfMade told

pub limits_so : (frame : Up) (now most : ℕ) (told : Telling) (core later : Core) (disk end : DiskState) (session new : Session) (reads : List Read) → AreReadings session.txn.readings reads → Fits core disk
    → HasServed (served_as frame now) most told session core disk new later end → Limits session new told
limits_so frame now most told core later disk end session new reads noted fits served =
    let beside = has_plain core disk fits in
    let steps = served.steps beside.plain reads beside.stands noted in
    let keeps = serve_keeps beside.plain (sess_of session reads) now frame steps.0 (sess_of new steps.1.1.reads) told steps.1.1.steps in
    record { number = keeps.number; made = keeps.made }

-- an answer
pub told_made : (told : Option Down) → IfMade (telling_of told) → IfSome told IsMadeDown
told_made None made = tt
told_made (Some frame) made = made
