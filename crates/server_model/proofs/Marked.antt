-- A marked call is answered Committed in no run.
use Rattle.std.specs.Prelude.{◌≡◌, ◌&&◌, ℕ, Bool, true, false, not, List, [], ◌∷◌, All}
use Rattle.std.specs.List.{list_all}
use Rattle.std.proofs.Common.{refl, ◌∙◌}
use Rattle.std.proofs.lemmas.Bool.{and_parts, and_from, not-true}
use Rattle.std.proofs.lemmas.List.Elements.{All-nil, All-cons, All-contains}
use Rattle.std.proofs.lemmas.List.Folds.{list_all-append}
use Rattle.svc_values.specs.declared.draw.Draw.{Draw}
use Rattle.svc_values.specs.declared.call.Call.{Call}
use Rattle.svc_values.specs.declared.answer.Answer.{Answer}
use Rattle.svc_values.specs.declared.answer.Answer.TheVariants as answer
use Rattle.svc_values.specs.declared.frame.Up.{Up}
use Rattle.svc_values.specs.declared.frame.Up.TheVariants as up
use Rattle.svc_values.specs.declared.frame.Down.TheVariants as down
use Rattle.svc_values.specs.meaning.Endings.{ends_committed}
use Rattle.server_model.specs.meaning.Base.{Base}
use Rattle.server_model.specs.Core.{Core}
use Rattle.server_model.specs.Sessions.{Sess}
use Rattle.server_model.specs.meaning.Outcomes.{Telling, Says}
use Rattle.server_model.specs.Serve.{Commits, InReplay, Blocks, Conflicts, Stores, StopsBefore, StopsAfter, Works, Answers as AnswersCall, Reaches, HaltsInDraw, Calls, IsWork, IsSet, IsAlter, AlterStops, AlterMarked, IsDisable, IsRollback, Serve, Connects, Begins, Ends, Closes, Asks, Runs as Serves, Refuses}
use Rattle.server_model.specs.Runs.{Happened, Served, Asked, Server, Moves, Makes, Answers, Halts, Loses, AnswersAsk, HaltsInAsk, Reaps, Falls, Opens, StopsOpening, Runs, Start, Then}
use Rattle.server_model.specs.Laws.{MarkedStoresNone}
use Rattle.server_model.proofs.Answered.{not-committed}

abbrev is_marked : Up → Bool
is_marked (up.Call replay kept called) = replay
is_marked _ = false

abbrev tells_commit : Telling → Bool
tells_commit (Says (down.Reply answers draws x)) = ends_committed answers
tells_commit _ = false

-- it is not a marked call that was answered Committed
abbrev is_right : Happened → Bool
is_right (Served session now frame told) = not (is_marked frame && tells_commit told)
is_right (Asked x told) = true

-- ONE FRAME ---------------------------------------------------------------------------------------

commits_none : (core : Core) (sess : Sess) (called : Call) (answers : List Answer) (draws : List Draw) (after : Core) (t : Sess) (told : Telling) → Commits core sess true called answers draws after t told → tells_commit told ≡ false
commits_none core sess called answers draws _ _ _ (InReplay marked) = not-committed answers answer.CommitInReplay refl
commits_none core sess called answers draws _ _ _ (Blocks unmarked blocked) = refl
commits_none core sess called answers draws _ _ _ (Conflicts unmarked free differs) = not-committed answers answer.Conflict refl
commits_none core sess called answers draws _ _ _ (Stores may) = absurd (let marked : false ≡ true = may.unmarked in let none : ⊥ = cc in none)
commits_none core sess called answers draws _ _ _ (StopsBefore may) = refl
commits_none core sess called answers draws _ _ _ (StopsAfter may) = refl

works_none : (core : Core) (sess : Sess) (kept : List Draw) (called : Call) (now : ℕ) (after : Core) (t : Sess) (told : Telling) → Works core sess true kept called now after t told → tells_commit told ≡ false
works_none core sess kept called now _ _ _ (AnswersCall opening draws left meant drew means none) = none
works_none core sess kept called now _ _ _ (Reaches opening draws left meant after t told drew means ends commits) = commits_none _ _ called meant.answers draws after t told commits
works_none core sess kept called now _ _ _ (HaltsInDraw between opening draws next more left meant drew means halts) = refl

calls_none : (core : Core) (sess : Sess) (kept : List Draw) (now : ℕ) (called : Call) (after : Core) (t : Sess) (told : Telling) → Calls core sess true kept now called after t told → tells_commit told ≡ false
calls_none core sess kept now _ _ _ _ (IsWork statements commit after t told works) = works_none core sess kept _ now after t told works
calls_none core sess kept now _ _ _ _ (IsSet name value) = refl
calls_none core sess kept now _ _ _ _ (IsAlter line unmarked) = refl
calls_none core sess kept now _ _ _ _ (AlterStops line after unmarked same) = refl
calls_none core sess kept now _ _ _ _ (AlterMarked line marked) = refl
calls_none core sess kept now _ _ _ _ IsDisable = refl
calls_none core sess kept now _ _ _ _ IsRollback = refl

never_both : (marked : Bool) → (marked && false) ≡ false
never_both true = refl
never_both false = refl

call_right : (core : Core) (sess : Sess) (replay : Bool) (kept : List Draw) (now : ℕ) (called : Call) (after : Core) (t : Sess) (told : Telling) → Calls core sess replay kept now called after t told → (replay && tells_commit told) ≡ false
call_right core sess true kept now called after t told calls = calls_none core sess kept now called after t told calls
call_right core sess false kept now called after t told calls = refl

serve_right : (core : Core) (sess : Sess) (now : ℕ) (frame : Up) (after : Core) (t : Sess) (told : Telling) → Serve core sess now frame after t told → (is_marked frame && tells_commit told) ≡ false
serve_right core sess now _ _ _ _ (Connects life) = refl
serve_right core sess now _ _ _ _ (Begins settings serving) = refl
serve_right core sess now _ _ _ _ (Ends serving) = refl
serve_right core sess now _ _ _ _ (Closes serving) = refl
serve_right core sess now _ _ _ _ (Asks x after told serving asked) = refl
serve_right core sess now _ _ _ _ (Serves replay kept called after t told begun calls) = call_right core sess replay kept now called after t told calls
serve_right core sess now _ _ _ _ (Refuses frame out) = never_both (is_marked frame)

-- RUNS --------------------------------------------------------------------------------------------

one_right : (test : Bool) → test ≡ false → (not test && true) ≡ true
one_right false is = refl
one_right true is = absurd (let none : ⊥ = cc in none)

moves_right : (server after : Server) (more : List Happened) → Moves server more after → list_all is_right more ≡ true
moves_right server _ _ (Makes on) = refl
moves_right server _ _ (Answers old new now frame core told after on serve answered turns) = one_right (is_marked frame && tells_commit told) (serve_right server.core old now frame core new told serve)
moves_right server _ _ (Halts old new now frame core told after running serve turns) = one_right (is_marked frame && false) (never_both (is_marked frame))
moves_right server _ _ (Loses old now frame after halted turns) = one_right (is_marked frame && false) (never_both (is_marked frame))
moves_right server _ _ (AnswersAsk x core frame on asks) = refl
moves_right server _ _ (HaltsInAsk x core told running asks) = refl
moves_right server _ _ (Reaps front back sess split) = refl
moves_right server _ _ Falls = refl
moves_right server _ _ (Opens below off may) = refl
moves_right server _ _ (StopsOpening below core off may same) = refl

runs_right : (base : Base) (history : List Happened) (server : Server) → Runs base history server → list_all is_right history ≡ true
runs_right base _ _ Start = refl
runs_right base _ _ (Then history more server after runs moves) =
    list_all-append is_right history more ∙ and_from (list_all is_right history) (list_all is_right more) (runs_right base history server runs) (moves_right server after more moves)

each_right : (history : List Happened) → list_all is_right history ≡ true → All (λ happened. is_right happened ≡ true) history
each_right [] all = All-nil (λ happened. is_right happened ≡ true)
each_right (happened ∷ more) all =
    let parts = and_parts (is_right happened) (list_all is_right more) all in All-cons (λ (h : Happened). is_right h ≡ true) happened more parts.0 (each_right more parts.1)

pub marked_stores_none : MarkedStoresNone
marked_stores_none base history server runs session now kept called answers draws x contains =
    not-true (ends_committed answers)
    (All-contains (λ (h : Happened). is_right h ≡ true) history (Served session now (up.Call true kept called) (Says (down.Reply answers draws x))) (each_right history (runs_right base history server runs)) contains)
