-- One frame adds no entry, or one of its session, under its identifier, which is not blocked.
use Rattle.std.specs.Prelude.{◌≡◌, ℕ, Bool, List}
use Rattle.std.proofs.Common.{refl, inl, inr, ap}
use Rattle.svc_values.specs.declared.draw.Draw.{Draw}
use Rattle.svc_values.specs.declared.call.Call.{Call}
use Rattle.svc_values.specs.declared.answer.Answer.{Answer}
use Rattle.svc_values.specs.declared.entry.Ltxid.{Ltxid}
use Rattle.svc_values.specs.declared.frame.Up.{Up}
use Rattle.ltxid_book.specs.declared.verdict.Verdict.{Verdict}
use Rattle.ltxid_book.specs.declared.verdict.Verdict.TheVariants as verdict
use Rattle.svc_values.specs.declared.tables.PlainRow.{PlainRow}
use Rattle.stmt_meaning.specs.meaning.Meaning.{Meant}
use Rattle.mutable_values.specs.Sources.{Opening}
use Rattle.server_model.specs.Core.{Core, committed}
use Rattle.server_model.specs.Sessions.{Sess, with_work}
use Rattle.server_model.specs.meaning.Outcomes.{Telling}
use Rattle.server_model.specs.Outcomes.{Outcomes, IsTold, BlockStops, if_blocks}
use Rattle.server_model.specs.Serve.{Commits, InReplay, Blocks, Conflicts, Stores, StopsBefore, StopsAfter, Works, Answers, Reaches, HaltsInDraw, Calls, IsWork, IsSet, IsAlter, AlterStops, AlterMarked, IsDisable, IsRollback, Serve, Connects, Begins, Ends, Closes, Asks, Runs, Refuses, with_opening}
use Rattle.server_model.specs.Laws.{Grows, Same, One}

-- what was drawn and read makes no difference
moved : (core : Core) (opening : Opening) (sess : Sess) (rows : List PlainRow) (meant : Meant) (after : Core) → Grows (with_opening core opening) (with_work sess rows meant) after → Grows core sess after
moved core opening sess rows meant after (Same kept) = Same kept
moved core opening sess rows meant after (One entry more mine free) = One entry more mine free

pub commits_grow : (core : Core) (sess : Sess) (replay : Bool) (called : Call) (answers : List Answer) (draws : List Draw) (after : Core) (t : Sess) (told : Telling) → Commits core sess replay called answers draws after t told → Grows core sess after
commits_grow core sess replay called answers draws _ _ _ (InReplay marked) = Same refl
commits_grow core sess replay called answers draws _ _ _ (Blocks unmarked blocked) = Same refl
commits_grow core sess replay called answers draws _ _ _ (Conflicts unmarked free differs) = Same refl
commits_grow core sess replay called answers draws _ _ _ (Stores may) = One _ refl refl may.free
commits_grow core sess replay called answers draws _ _ _ (StopsBefore may) = Same refl
commits_grow core sess replay called answers draws _ _ _ (StopsAfter may) = One _ refl refl may.free

pub works_grow : (core : Core) (sess : Sess) (replay : Bool) (kept : List Draw) (called : Call) (now : ℕ) (after : Core) (t : Sess) (told : Telling) → Works core sess replay kept called now after t told → Grows core sess after
works_grow core sess replay kept called now _ _ _ (Answers opening draws left meant drew means ends) = Same refl
works_grow core sess replay kept called now _ _ _ (Reaches opening draws left meant after t told drew means ends commits) =
    moved core opening sess (committed core) meant after (commits_grow (with_opening core opening) _ replay called meant.answers draws after t told commits)
works_grow core sess replay kept called now _ _ _ (HaltsInDraw between opening draws next more left meant drew means halts) = Same refl

pub calls_grow : (core : Core) (sess : Sess) (replay : Bool) (kept : List Draw) (now : ℕ) (called : Call) (after : Core) (t : Sess) (told : Telling) → Calls core sess replay kept now called after t told → Grows core sess after
calls_grow core sess replay kept now _ _ _ _ (IsWork statements commit after t told works) = works_grow core sess replay kept _ now after t told works
calls_grow core sess replay kept now _ _ _ _ (IsSet name value) = Same refl
calls_grow core sess replay kept now _ _ _ _ (IsAlter line unmarked) = Same refl
calls_grow core sess replay kept now _ _ _ _ (AlterStops line after unmarked (inl same)) = Same (ap (λ (c : Core). c.entries) same)
calls_grow core sess replay kept now _ _ _ _ (AlterStops line after unmarked (inr same)) = Same (ap (λ (c : Core). c.entries) same)
calls_grow core sess replay kept now _ _ _ _ (AlterMarked line marked) = Same refl
calls_grow core sess replay kept now _ _ _ _ IsDisable = Same refl
calls_grow core sess replay kept now _ _ _ _ IsRollback = Same refl

blocks-entries : (judged : Verdict) (core : Core) (x : Ltxid) → (if_blocks judged core x).entries ≡ core.entries
blocks-entries verdict.BlockIt core x = refl
blocks-entries verdict.AlreadyBlocked core x = refl
blocks-entries (verdict.Committed completed) core x = refl
blocks-entries (verdict.ServerAhead next) core x = refl
blocks-entries (verdict.ClientAhead next) core x = refl
blocks-entries (verdict.Forgotten horizon) core x = refl

pub outcomes-entries : (core : Core) (x : Ltxid) (after : Core) (told : Telling) → Outcomes core x after told → after.entries ≡ core.entries
outcomes-entries core x _ _ (IsTold judged by) = blocks-entries judged core x
outcomes-entries core x _ _ (BlockStops after by (inl same)) = ap (λ (c : Core). c.entries) same
outcomes-entries core x _ _ (BlockStops after by (inr same)) = ap (λ (c : Core). c.entries) same

pub serve_grows : (core : Core) (sess : Sess) (now : ℕ) (frame : Up) (after : Core) (t : Sess) (told : Telling) → Serve core sess now frame after t told → Grows core sess after
serve_grows core sess now _ _ _ _ (Connects life) = Same refl
serve_grows core sess now _ _ _ _ (Begins settings serving) = Same refl
serve_grows core sess now _ _ _ _ (Ends serving) = Same refl
serve_grows core sess now _ _ _ _ (Closes serving) = Same refl
serve_grows core sess now _ _ _ _ (Asks x after told serving asked) = Same (outcomes-entries core x after told asked)
serve_grows core sess now _ _ _ _ (Runs replay kept called after t told begun calls) = calls_grow core sess replay kept now called after t told calls
serve_grows core sess now _ _ _ _ (Refuses frame out) = Same refl
