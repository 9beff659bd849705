-- What one frame does to the entries, to the blocked identifiers and to its session's own
-- identifier.
use Rattle.std.specs.Prelude.{◌≡◌, ◌⊎◌, ◌+◌, ◌==◌, ◌&&◌, nat_lt, ℕ, Bool, true, false, not, IsTrue, List, [], ◌∷◌, ◌++◌, if◌then◌else◌}
use Rattle.std.proofs.Common.{refl, inl, inr, sym, ◌∙◌, ap}
use Rattle.svc_values.specs.declared.draw.Draw.{Draw}
use Rattle.svc_values.specs.declared.call.Call.{Call}
use Rattle.svc_values.specs.declared.answer.Answer.{Answer}
use Rattle.svc_values.specs.declared.entry.Ltxid.{Ltxid}
use Rattle.svc_values.specs.declared.entry.Entry.{Entry}
use Rattle.svc_values.specs.declared.frame.Up.{Up}
use Rattle.svc_values.specs.declared.tables.PlainRow.{PlainRow}
use Rattle.stmt_meaning.specs.meaning.Meaning.{Meant}
use Rattle.ltxid_book.specs.declared.State.{State}
use Rattle.ltxid_book.specs.meaning.Sessions.{is_forgotten, can_commit, may_commit}
use Rattle.ltxid_book.specs.meaning.Journal.{is_blocked}
use Rattle.mutable_values.specs.Sources.{Opening}
use Rattle.ltxid_book.specs.declared.verdict.Verdict.{Verdict}
use Rattle.ltxid_book.specs.declared.verdict.Verdict.TheVariants as verdict
use Rattle.ltxid_book.specs.meaning.Outcomes.{outcome_in}
use Rattle.server_model.specs.Core.{Core, committed, all_blocked, book}
use Rattle.server_model.specs.Sessions.{Life, New, Idle, Begun, Ended, Sess, with_work}
use Rattle.svc_values.specs.meaning.Identifiers.{session_of, ltxid_of}
use Rattle.server_model.specs.meaning.Outcomes.{Telling, Silent, Says, Stopped}
use Rattle.server_model.specs.Outcomes.{Outcomes, IsTold, BlockStops, if_blocks, verdict_on}
use Rattle.server_model.specs.Serve.{Commits, InReplay, Blocks, Conflicts, Stores, StopsBefore, StopsAfter, Works, Answers, Reaches, HaltsInDraw, Calls, IsWork, IsSet, IsAlter, AlterStops, AlterMarked, IsDisable, IsRollback, Serve, Connects, Begins, Ends, Closes, Asks, Runs, Refuses, with_opening, if_told, is_serving, is_out_of_order}

-- the identifier is its session's next one, and not blocked
abbrev pub IsNext : Core → Ltxid → Type 0
IsNext core x = IsTrue (may_commit (book core) x)

pub data Steps (core : Core) (sess : Sess) (after : Core) (t : Sess) : Type 0 where
  Keeps : after.entries ≡ core.entries → after.blocked ≡ core.blocked → t.ltxid ≡ sess.ltxid → Steps core sess after t
  BlocksOne : (x : Ltxid) → after.entries ≡ core.entries → after.blocked ≡ core.blocked ++ x ∷ [] → IsNext core x → t.ltxid ≡ sess.ltxid → Steps core sess after t
  StoresOne : (entry : Entry) → after.entries ≡ core.entries ++ entry ∷ [] → after.blocked ≡ core.blocked → entry.ltxid ≡ sess.ltxid → IsTrue (not (is_blocked (all_blocked core) sess.ltxid))
      → (t.ltxid ≡ ltxid_of (session_of sess.ltxid) (sess.ltxid.number + 1)) ⊎ ((t.life ≡ Ended) × (t.ltxid ≡ sess.ltxid)) → Steps core sess after t

moved : (core : Core) (opening : Opening) (sess : Sess) (rows : List PlainRow) (meant : Meant) (after : Core) (t : Sess) → Steps (with_opening core opening) (with_work sess rows meant) after t → Steps core sess after t
moved core opening sess rows meant after t (Keeps entries blocked same) = Keeps entries blocked same
moved core opening sess rows meant after t (BlocksOne x entries blocked next same) = BlocksOne x entries blocked next same
moved core opening sess rows meant after t (StoresOne entry entries blocked mine free here) = StoresOne entry entries blocked mine free here

commits_step : (core : Core) (sess : Sess) (replay : Bool) (called : Call) (answers : List Answer) (draws : List Draw) (after : Core) (t : Sess) (told : Telling) → Commits core sess replay called answers draws after t told → Steps core sess after t
commits_step core sess replay called answers draws _ _ _ (InReplay marked) = Keeps refl refl refl
commits_step core sess replay called answers draws _ _ _ (Blocks unmarked blocked) = Keeps refl refl refl
commits_step core sess replay called answers draws _ _ _ (Conflicts unmarked free differs) = Keeps refl refl refl
commits_step core sess replay called answers draws _ _ _ (Stores may) = StoresOne _ refl refl refl may.free (inl refl)
commits_step core sess replay called answers draws _ _ _ (StopsBefore may) = Keeps refl refl refl
commits_step core sess replay called answers draws _ _ _ (StopsAfter may) = StoresOne _ refl refl refl may.free (inr (refl, refl))

works_step : (core : Core) (sess : Sess) (replay : Bool) (kept : List Draw) (called : Call) (now : ℕ) (after : Core) (t : Sess) (told : Telling) → Works core sess replay kept called now after t told → Steps core sess after t
works_step core sess replay kept called now _ _ _ (Answers opening draws left meant drew means ends) = Keeps refl refl refl
works_step core sess replay kept called now _ _ _ (Reaches opening draws left meant after t told drew means ends commits) =
    moved core opening sess (committed core) meant after t (commits_step (with_opening core opening) _ replay called meant.answers draws after t told commits)
works_step core sess replay kept called now _ _ _ (HaltsInDraw between opening draws next more left meant drew means halts) = Keeps refl refl refl

calls_step : (core : Core) (sess : Sess) (replay : Bool) (kept : List Draw) (now : ℕ) (called : Call) (after : Core) (t : Sess) (told : Telling) → Calls core sess replay kept now called after t told → Steps core sess after t
calls_step core sess replay kept now _ _ _ _ (IsWork statements commit after t told works) = works_step core sess replay kept _ now after t told works
calls_step core sess replay kept now _ _ _ _ (IsSet name value) = Keeps refl refl refl
calls_step core sess replay kept now _ _ _ _ (IsAlter line unmarked) = Keeps refl refl refl
calls_step core sess replay kept now _ _ _ _ (AlterStops line after unmarked (inl same)) = Keeps (ap (λ (c : Core). c.entries) same) (ap (λ (c : Core). c.blocked) same) refl
calls_step core sess replay kept now _ _ _ _ (AlterStops line after unmarked (inr same)) = Keeps (ap (λ (c : Core). c.entries) same) (ap (λ (c : Core). c.blocked) same) refl
calls_step core sess replay kept now _ _ _ _ (AlterMarked line marked) = Keeps refl refl refl
calls_step core sess replay kept now _ _ _ _ IsDisable = Keeps refl refl refl
calls_step core sess replay kept now _ _ _ _ IsRollback = Keeps refl refl refl

-- ---- outcomes

if_else : (b : Bool) (x y : Verdict) → (y ≡ verdict.BlockIt → ⊥) → (if b then x else y) ≡ verdict.BlockIt → b ≡ true
if_else true x y never is = refl
if_else false x y never is = absurd (never is)

if_never : (b : Bool) (x y : Verdict) → (x ≡ verdict.BlockIt → ⊥) → (y ≡ verdict.BlockIt → ⊥) → (if b then x else y) ≡ verdict.BlockIt → ⊥
if_never true x y one other is = one is
if_never false x y one other is = other is

-- the table says to block exactly what is next and not blocked
blocks-next : (state : State) (number : ℕ) → outcome_in state number ≡ verdict.BlockIt → IsTrue ((number == state.next) && not state.blocked)
blocks-next state number is =
    if_else ((number == state.next) && not state.blocked) verdict.BlockIt _
    (if_never ((number == state.next) && state.blocked) verdict.AlreadyBlocked _ (λ e. let none : ⊥ = cc in none)
    (if_never (number + 1 == state.next) (verdict.Committed state.completed) _ (λ e. let none : ⊥ = cc in none)
    (if_never (nat_lt (number + 1) state.next) (verdict.ServerAhead state.next) (verdict.ClientAhead state.next) (λ e. let none : ⊥ = cc in none) (λ e. let none : ⊥ = cc in none)))) is

pub blocks-IsNext : (core : Core) (x : Ltxid) → verdict_on core x ≡ verdict.BlockIt → IsNext core x
blocks-IsNext core x = by (is_forgotten (book core) x.incarnation)
  where
    by : (lost : Bool) → (if lost then verdict.Forgotten core.horizon else outcome_in ((book core).state x.incarnation x.session) x.number) ≡ verdict.BlockIt → IsTrue (not lost && can_commit (book core) x)
    by true is = let none : ⊥ = cc in absurd none
    by false is = blocks-next ((book core).state x.incarnation x.session) x.number is

told_step : (core : Core) (sess t : Sess) (x : Ltxid) (judged : Verdict) → verdict_on core x ≡ judged → t.ltxid ≡ sess.ltxid → Steps core sess (if_blocks judged core x) t
told_step core sess t x verdict.BlockIt by same = BlocksOne x refl refl (blocks-IsNext core x by) same
told_step core sess t x verdict.AlreadyBlocked by same = Keeps refl refl same
told_step core sess t x (verdict.Committed completed) by same = Keeps refl refl same
told_step core sess t x (verdict.ServerAhead next) by same = Keeps refl refl same
told_step core sess t x (verdict.ClientAhead next) by same = Keeps refl refl same
told_step core sess t x (verdict.Forgotten horizon) by same = Keeps refl refl same

pub outcomes_step : (core : Core) (sess t : Sess) (x : Ltxid) (after : Core) (told : Telling) → Outcomes core x after told → t.ltxid ≡ sess.ltxid → Steps core sess after t
outcomes_step core sess t x _ _ (IsTold judged by) same = told_step core sess t x judged by same
outcomes_step core sess t x _ _ (BlockStops after by (inl kept)) same = Keeps (ap (λ (c : Core). c.entries) kept) (ap (λ (c : Core). c.blocked) kept) same
outcomes_step core sess t x _ _ (BlockStops after by (inr kept)) same = BlocksOne x (ap (λ (c : Core). c.entries) kept) (ap (λ (c : Core). c.blocked) kept) (blocks-IsNext core x by) same

told-ltxid : (told : Telling) (sess : Sess) → (if_told told sess).ltxid ≡ sess.ltxid
told-ltxid Silent sess = refl
told-ltxid (Says frame) sess = refl
told-ltxid Stopped sess = refl

-- ---- a frame

pub serve_step : (core : Core) (sess : Sess) (now : ℕ) (frame : Up) (after : Core) (t : Sess) (told : Telling) → Serve core sess now frame after t told → Steps core sess after t
serve_step core sess now _ _ _ _ (Connects life) = Keeps refl refl refl
serve_step core sess now _ _ _ _ (Begins settings serving) = Keeps refl refl refl
serve_step core sess now _ _ _ _ (Ends serving) = Keeps refl refl refl
serve_step core sess now _ _ _ _ (Closes serving) = Keeps refl refl refl
serve_step core sess now _ _ _ _ (Asks x after told serving asked) = outcomes_step core sess (if_told told sess) x after told asked (told-ltxid told sess)
serve_step core sess now _ _ _ _ (Runs replay kept called after t told begun calls) = calls_step core sess replay kept now called after t told calls
serve_step core sess now _ _ _ _ (Refuses frame out) = Keeps refl refl refl

-- at its end a session serves nothing
never : false ≡ true → ⊥
never e = let none : ⊥ = cc in none

is_ended : Life → Bool
is_ended New = false
is_ended Idle = false
is_ended Begun = false
is_ended Ended = true

pub serve_alive : (core : Core) (sess : Sess) (now : ℕ) (frame : Up) (after : Core) (t : Sess) (told : Telling) → Serve core sess now frame after t told → sess.life ≡ Ended → ⊥
unfolding is_ended
serve_alive core sess now _ _ _ _ (Connects life) ended = never (ap is_ended (sym life ∙ ended))
serve_alive core sess now _ _ _ _ (Begins settings serving) ended = never (sym (ap is_serving ended) ∙ serving)
serve_alive core sess now _ _ _ _ (Ends serving) ended = never (sym (ap is_serving ended) ∙ serving)
serve_alive core sess now _ _ _ _ (Closes serving) ended = never (sym (ap is_serving ended) ∙ serving)
serve_alive core sess now _ _ _ _ (Asks x after told serving asked) ended = never (sym (ap is_serving ended) ∙ serving)
serve_alive core sess now _ _ _ _ (Runs replay kept called after t told begun calls) ended = never (ap is_ended (sym begun ∙ ended))
serve_alive core sess now _ _ _ _ (Refuses frame out) ended = never (sym (ap (λ life. is_out_of_order life frame) ended) ∙ out)
