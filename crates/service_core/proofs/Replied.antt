-- What is told of the frames of a request without replays.
use Rattle.std.specs.Prelude.{◌≡◌, ℕ, Bool, true, false, IsTrue, List}
use Rattle.std.proofs.Common.{refl, subst}
use Rattle.svc_values.specs.declared.answer.Answer.{Answer}
use Rattle.svc_values.specs.declared.call.Call.{Call}
use Rattle.svc_values.specs.declared.draw.Draw.{Draw}
use Rattle.svc_values.specs.declared.entry.Ltxid.{Ltxid}
use Rattle.svc_values.specs.declared.frame.Down.TheVariants as down
use Rattle.svc_values.specs.declared.frame.Up.TheVariants as up
use Rattle.svc_values.specs.meaning.SettingsList.{NamedValues}
use Rattle.server_model.specs.Core.{Core, committed}
use Rattle.server_model.specs.meaning.Outcomes.{Telling, Silent, Says, Stopped}
use Rattle.server_model.specs.Serve.{Commits, InReplay, Blocks, Conflicts, Stores, StopsBefore, StopsAfter, Works, Answers, Reaches, HaltsInDraw, Calls, IsWork, IsSet, IsAlter, AlterStops, AlterMarked, IsDisable, IsRollback, Serve, Connects, Begins, Runs, Refuses, is_out_of_order, with_opening}
use Rattle.server_model.specs.Sessions.{Life, New, Idle, Begun, Sess, with_work}

pub connect_tells : (core : Core) (sess : Sess) (now : ℕ) (after : Core) (t : Sess) (told : Telling) → Serve core sess now up.Connect after t told → sess.life ≡ New → (told ≡ Says (down.Hello sess.ltxid)) × (t.life ≡ Idle)
connect_tells core sess now _ _ _ (Connects life) new = (refl, refl)
connect_tells core sess now _ _ _ (Refuses _ out) new = absurd (let no : false ≡ true = subst (λ (l : Life). IsTrue (is_out_of_order l up.Connect)) new out in let none : ⊥ = cc in none)

pub begin_tells : (core : Core) (sess : Sess) (now : ℕ) (settings : NamedValues) (after : Core) (t : Sess) (told : Telling) → Serve core sess now (up.Begin settings) after t told → sess.life ≡ Idle → (told ≡ Silent) × (t.life ≡ Begun)
begin_tells core sess now settings _ _ _ (Begins _ serving) idle = (refl, refl)
begin_tells core sess now settings _ _ _ (Refuses _ out) idle = absurd (let no : false ≡ true = subst (λ (l : Life). IsTrue (is_out_of_order l (up.Begin settings))) idle out in let none : ⊥ = cc in none)

-- a call is answered by a reply, behind which the request goes on, or Blocked, or it is stopped
pub data CallTold (life : Life) : Telling → Type 0 where
  Replies : (answers : List Answer) (draws : List Draw) (x : Ltxid) → life ≡ Begun → CallTold life (Says (down.Reply answers draws x))
  IsBlocked : CallTold life (Says down.Blocked)
  IsStopped : CallTold life Stopped

-- so nothing else is told of it
abbrev pub MayTell : Telling → Type 0
MayTell (Says (down.Reply answers draws x)) = Unit {0}
MayTell (Says down.Blocked) = Unit {0}
MayTell Stopped = Unit {0}
MayTell _ = ⊥

pub may_tell : (life : Life) (told : Telling) → CallTold life told → MayTell told
may_tell life _ (Replies answers draws x begun) = tt
may_tell life _ IsBlocked = tt
may_tell life _ IsStopped = tt

commits_told : (core : Core) (sess : Sess) (replay : Bool) (called : Call) (answers : List Answer) (draws : List Draw) (after : Core) (t : Sess) (told : Telling) → sess.life ≡ Begun → Commits core sess replay called answers draws after t told → CallTold t.life told
commits_told core sess replay called answers draws _ _ _ begun (InReplay marked) = Replies _ draws sess.ltxid begun
commits_told core sess replay called answers draws _ _ _ begun (Blocks unmarked blocked) = IsBlocked
commits_told core sess replay called answers draws _ _ _ begun (Conflicts unmarked free differs) = Replies _ draws sess.ltxid begun
commits_told core sess replay called answers draws _ _ _ begun (Stores may) = Replies answers draws _ begun
commits_told core sess replay called answers draws _ _ _ begun (StopsBefore may) = IsStopped
commits_told core sess replay called answers draws _ _ _ begun (StopsAfter may) = IsStopped

works_told : (core : Core) (sess : Sess) (replay : Bool) (kept : List Draw) (called : Call) (now : ℕ) (after : Core) (t : Sess) (told : Telling) → sess.life ≡ Begun → Works core sess replay kept called now after t told → CallTold t.life told
works_told core sess replay kept called now _ _ _ begun (Answers opening draws left meant drew means ends) = Replies meant.answers draws sess.ltxid begun
works_told core sess replay kept called now _ _ _ begun (Reaches opening draws left meant after t told drew means ends commits) = commits_told (with_opening core opening) (with_work sess (committed core) meant) replay called meant.answers draws after t told begun commits
works_told core sess replay kept called now _ _ _ begun (HaltsInDraw between opening draws next more left meant drew means halts) = IsStopped

calls_told : (core : Core) (sess : Sess) (kept : List Draw) (now : ℕ) (called : Call) (after : Core) (t : Sess) (told : Telling) → sess.life ≡ Begun → Calls core sess false kept now called after t told → CallTold t.life told
calls_told core sess kept now _ _ _ _ begun (IsWork statements commit after t told works) = works_told core sess false kept _ now after t told begun works
calls_told core sess kept now _ _ _ _ begun (IsSet name value) = Replies _ _ sess.ltxid begun
calls_told core sess kept now _ _ _ _ begun (IsAlter line unmarked) = Replies _ _ sess.ltxid begun
calls_told core sess kept now _ _ _ _ begun (AlterStops line after unmarked same) = IsStopped
calls_told core sess kept now _ _ _ _ begun (AlterMarked line marked) = absurd (let none : ⊥ = cc in none)
calls_told core sess kept now _ _ _ _ begun IsDisable = Replies _ _ sess.ltxid begun
calls_told core sess kept now _ _ _ _ begun IsRollback = Replies _ _ sess.ltxid begun

pub call_tells : (core : Core) (sess : Sess) (now : ℕ) (kept : List Draw) (called : Call) (after : Core) (t : Sess) (told : Telling) → Serve core sess now (up.Call false kept called) after t told → sess.life ≡ Begun → CallTold t.life told
call_tells core sess now kept called _ _ _ (Runs _ _ _ after t told begun calls) is = calls_told core sess kept now called after t told begun calls
call_tells core sess now kept called _ _ _ (Refuses _ out) is = absurd (let no : false ≡ true = subst (λ (l : Life). IsTrue (is_out_of_order l (up.Call false kept called))) is out in let none : ⊥ = cc in none)
