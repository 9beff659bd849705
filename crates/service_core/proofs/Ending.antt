-- Which answers end a session, and what is told of an outcome.
use Rattle.std.specs.Prelude.{◌≡◌, ℕ, Bool, true, false, not, IsTrue, List}
use Rattle.std.proofs.Common.{refl, inl, inr, sym, ◌∙◌, ap}
use Rattle.svc_values.specs.declared.draw.Draw.{Draw}
use Rattle.svc_values.specs.declared.call.Call.{Call}
use Rattle.svc_values.specs.declared.answer.Answer.{Answer}
use Rattle.svc_values.specs.declared.entry.Ltxid.{Ltxid}
use Rattle.svc_values.specs.declared.frame.Up.{Up}
use Rattle.svc_values.specs.declared.frame.Up.TheVariants as up
use Rattle.svc_values.specs.declared.frame.Down.TheVariants as down
use Rattle.ltxid_book.specs.declared.verdict.Verdict.{Verdict}
use Rattle.ltxid_book.specs.declared.verdict.Verdict.TheVariants as verdict
use Rattle.ltxid_book.specs.meaning.Outcomes.{verdict_of}
use Rattle.ltxid_book.specs.meaning.Sessions.{Sessions}
use Rattle.server_model.specs.Core.{Core, book, committed}
use Rattle.server_model.specs.Sessions.{Life, New, Idle, Begun, Ended, Sess, with_work}
use Rattle.server_model.specs.meaning.Outcomes.{Telling, Says}
use Rattle.server_model.specs.Outcomes.{IsTold, BlockStops, down_of}
use Rattle.server_model.specs.Serve.{Commits, InReplay, Blocks, Conflicts, Stores, StopsBefore, StopsAfter, Works, Answers, Reaches, HaltsInDraw, Calls, IsWork, IsSet, IsAlter, AlterStops, AlterMarked, IsDisable, IsRollback, Serve, Connects, Begins, Ends, Closes, Asks, Runs, Refuses, is_serving, with_opening}
use Rattle.server_model.specs.Runs.{is_answered}
use Rattle.server_model.specs.Seen.{Store, book_in}
use Rattle.server_model.specs.ServiceCalls.{TellsByTable, ends_session}
use Rattle.server_session.specs.SeenSession.{is_alive}

-- the session is at its end exactly where the answer ends it
abbrev pub EndsBy : Up → Telling → Sess → Type 0
EndsBy frame told t = IsTrue (is_answered told) → is_alive t.life ≡ not (ends_session frame told)

alive_begun : (life : Life) → life ≡ Begun → is_alive life ≡ true
alive_begun life begun = ap is_alive begun

alive_serving : (life : Life) → IsTrue (is_serving life) → is_alive life ≡ true
alive_serving New serving = absurd (let none : ⊥ = cc in none)
alive_serving Idle serving = refl
alive_serving Begun serving = refl
alive_serving Ended serving = absurd (let none : ⊥ = cc in none)

commits_end : (core : Core) (sess : Sess) (replay : Bool) (kept : List Draw) (called : Call) (answers : List Answer) (draws : List Draw) (after : Core) (t : Sess) (told : Telling) → sess.life ≡ Begun
    → Commits core sess replay called answers draws after t told → EndsBy (up.Call replay kept called) told t
commits_end core sess replay kept called answers draws _ _ _ begun (InReplay marked) answered = alive_begun sess.life begun
commits_end core sess replay kept called answers draws _ _ _ begun (Blocks unmarked blocked) answered = refl
commits_end core sess replay kept called answers draws _ _ _ begun (Conflicts unmarked free differs) answered = alive_begun sess.life begun
commits_end core sess replay kept called answers draws _ _ _ begun (Stores may) answered = alive_begun sess.life begun
commits_end core sess replay kept called answers draws _ _ _ begun (StopsBefore may) answered = absurd (let none : ⊥ = cc in none)
commits_end core sess replay kept called answers draws _ _ _ begun (StopsAfter may) answered = absurd (let none : ⊥ = cc in none)

works_end : (core : Core) (sess : Sess) (replay : Bool) (kept : List Draw) (called : Call) (now : ℕ) (after : Core) (t : Sess) (told : Telling) → sess.life ≡ Begun
    → Works core sess replay kept called now after t told → EndsBy (up.Call replay kept called) told t
works_end core sess replay kept called now _ _ _ begun (Answers opening draws left meant drew means ends) answered = alive_begun sess.life begun
works_end core sess replay kept called now _ _ _ begun (Reaches opening draws left meant after t told drew means ends commits) answered =
    commits_end (with_opening core opening) (with_work sess (committed core) meant) replay kept called meant.answers draws after t told begun commits answered
works_end core sess replay kept called now _ _ _ begun (HaltsInDraw between opening draws next more left meant drew means halts) answered = absurd (let none : ⊥ = cc in none)

calls_end : (core : Core) (sess : Sess) (replay : Bool) (kept : List Draw) (now : ℕ) (called : Call) (after : Core) (t : Sess) (told : Telling) → sess.life ≡ Begun
    → Calls core sess replay kept now called after t told → EndsBy (up.Call replay kept called) told t
calls_end core sess replay kept now _ _ _ _ begun (IsWork statements commit after t told works) answered = works_end core sess replay kept _ now after t told begun works answered
calls_end core sess replay kept now _ _ _ _ begun (IsSet name value) answered = alive_begun sess.life begun
calls_end core sess replay kept now _ _ _ _ begun (IsAlter line unmarked) answered = alive_begun sess.life begun
calls_end core sess replay kept now _ _ _ _ begun (AlterStops line after unmarked same) answered = absurd (let none : ⊥ = cc in none)
calls_end core sess replay kept now _ _ _ _ begun (AlterMarked line marked) answered = refl
calls_end core sess replay kept now _ _ _ _ begun IsDisable answered = alive_begun sess.life begun
calls_end core sess replay kept now _ _ _ _ begun IsRollback answered = alive_begun sess.life begun

-- an outcome ends no session
lives_on : (judged : Verdict) (x : Ltxid) → ends_session (up.Outcome x) (Says (down_of judged)) ≡ false
lives_on verdict.BlockIt x = refl
lives_on verdict.AlreadyBlocked x = refl
lives_on (verdict.Committed completed) x = refl
lives_on (verdict.ServerAhead next) x = refl
lives_on (verdict.ClientAhead next) x = refl
lives_on (verdict.Forgotten horizon) x = refl

refused_end : (frame : Up) → ends_session frame (Says (down.Refused 2)) ≡ true
refused_end up.Connect = refl
refused_end (up.Begin settings) = refl
refused_end up.End = refl
refused_end up.Close = refl
refused_end (up.Outcome x) = refl
refused_end (up.Call replay kept called) = refl

pub serve_ends : (core : Core) (sess : Sess) (now : ℕ) (frame : Up) (after : Core) (t : Sess) (told : Telling) → Serve core sess now frame after t told → EndsBy frame told t
serve_ends core sess now _ _ _ _ (Connects life) answered = refl
serve_ends core sess now _ _ _ _ (Begins settings serving) answered = refl
serve_ends core sess now _ _ _ _ (Ends serving) answered = refl
serve_ends core sess now _ _ _ _ (Closes serving) answered = refl
serve_ends core sess now _ _ _ _ (Asks x _ _ serving (IsTold judged by)) answered = alive_serving sess.life serving ∙ ap not (sym (lives_on judged x))
serve_ends core sess now _ _ _ _ (Asks x _ _ serving (BlockStops after by same)) answered = absurd (let none : ⊥ = cc in none)
serve_ends core sess now _ _ _ _ (Runs replay kept called after t told begun calls) answered = calls_end core sess replay kept now called after t told begun calls answered
serve_ends core sess now _ _ _ _ (Refuses frame out) answered = ap not (sym (refused_end frame))

-- ---- outcomes

refused_by_table : (store : Store) (frame : Up) → TellsByTable store frame (Says (down.Refused 2))
refused_by_table store up.Connect = tt
refused_by_table store (up.Begin settings) = tt
refused_by_table store up.End = tt
refused_by_table store up.Close = tt
refused_by_table store (up.Outcome x) = inl refl
refused_by_table store (up.Call replay kept called) = tt

-- by the table on what the store says
pub serve_tells : (store : Store) (core : Core) (sess : Sess) (now : ℕ) (frame : Up) (after : Core) (t : Sess) (told : Telling) → book core ≡ book_in store → Serve core sess now frame after t told → TellsByTable store frame told
serve_tells store core sess now _ _ _ _ same (Connects life) = tt
serve_tells store core sess now _ _ _ _ same (Begins settings serving) = tt
serve_tells store core sess now _ _ _ _ same (Ends serving) = tt
serve_tells store core sess now _ _ _ _ same (Closes serving) = tt
serve_tells store core sess now _ _ _ _ same (Asks x _ _ serving (IsTold judged by)) = inr (ap down_of (sym by ∙ ap (λ (s : Sessions). verdict_of s x) same))
serve_tells store core sess now _ _ _ _ same (Asks x _ _ serving (BlockStops after by is)) = tt
serve_tells store core sess now _ _ _ _ same (Runs replay kept called after t told begun calls) = tt
serve_tells store core sess now _ _ _ _ same (Refuses frame out) = refused_by_table store frame
