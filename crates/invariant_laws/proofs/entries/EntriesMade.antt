-- Each entry that a service's store has gained is completed exactly where the call that committed
-- it has no statement.
use Rattle.std.proofs.Common.{◌≡◌, refl, sym, ap, ◌∙◌, Bool, true, ℕ, length, List, [], ◌∷◌, ◌++◌, inl, inr, drop}
use Rattle.std.specs.List.{list_all}
use Rattle.std.proofs.Math.Seq.{drop-append_seam}
use Rattle.std.proofs.lemmas.Bool.{and_from}
use Rattle.std.proofs.lemmas.List.Folds.{list_all-append}
use Rattle.svc_values.specs.declared.answer.Answer.{Answer}
use Rattle.svc_values.specs.declared.call.Call.{Call}
use Rattle.svc_values.specs.declared.draw.Draw.{Draw}
use Rattle.svc_values.specs.declared.entry.Entry.{Entry}
use Rattle.svc_values.specs.declared.entry.Ltxid.{Ltxid}
use Rattle.svc_values.specs.declared.entry.Piece.{Piece}
use Rattle.svc_values.specs.declared.frame.Up.{Up}
use Rattle.svc_values.specs.meaning.Calls.{is_lone_commit}
use Rattle.svc_values.specs.SameLaws.{same_bool_decides}
use Rattle.server_model.specs.meaning.Base.{Base}
use Rattle.server_model.specs.Core.{Core}
use Rattle.server_model.specs.meaning.Outcomes.{Telling}
use Rattle.server_model.specs.Outcomes.{Outcomes, IsTold, BlockStops, if_blocks}
use Rattle.server_model.specs.Runs.{Happened, Server, Power, Turns, Moves, Makes, Answers, Halts, Loses, AnswersAsk, HaltsInAsk, Reaps, Falls, Opens, StopsOpening, Runs, Start, Then}
use Rattle.server_model.specs.Seen.{Seen}
use Rattle.server_model.specs.Serve.{Commits, InReplay, Blocks, Conflicts, Stores, StopsBefore, StopsAfter, Works, Answers as AnswersCall, Reaches, HaltsInDraw, Calls, IsWork, IsSet, IsAlter, AlterStops, AlterMarked, IsDisable, IsRollback, Serve, Connects, Begins, Ends, Closes, Asks, Runs as Serves, Refuses}
use Rattle.server_model.specs.Sessions.{Sess, entry_of, piece_of}
use Rattle.world_model.specs.Coupled.{Coupled}
use Rattle.invariant_laws.specs.Once.{last_lone, is_completed_rightly}
use Rattle.world_model.specs.Traced.{Traced}
use Rattle.world_model.proofs.Offered.{blocks_none}

abbrev all_right : List Entry → Type 0
all_right entries = list_all is_completed_rightly entries ≡ true

-- ONE ENTRY ---------------------------------------------------------------------------------------

last_made : (pieces : List Piece) (piece : Piece) → last_lone (pieces ++ piece ∷ []) ≡ is_lone_commit piece.call
last_made [] piece = refl
last_made (first ∷ []) piece = refl
last_made (first ∷ next ∷ pieces) piece = last_made (next ∷ pieces) piece

made_right : (sess : Sess) (called : Call) (answers : List Answer) (draws : List Draw) → is_completed_rightly (entry_of sess called answers draws) ≡ true
made_right sess called answers draws = (same_bool_decides (is_lone_commit called) (last_lone (sess.pieces ++ piece_of called answers draws ∷ []))).1 (sym (last_made sess.pieces (piece_of called answers draws)))

one_more : (entries : List Entry) (entry : Entry) → all_right entries → is_completed_rightly entry ≡ true → all_right (entries ++ entry ∷ [])
one_more entries entry all here =
    list_all-append is_completed_rightly entries (entry ∷ [])
    ∙ and_from (list_all is_completed_rightly entries) (list_all is_completed_rightly (entry ∷ [])) all (and_from (is_completed_rightly entry) true here refl)

same_right : (old new : List Entry) → new ≡ old → all_right old → all_right new
same_right old new same all = ap (list_all is_completed_rightly) same ∙ all

-- A FRAME -----------------------------------------------------------------------------------------

commits_right : (core : Core) (sess : Sess) (replay : Bool) (called : Call) (answers : List Answer) (draws : List Draw) (after : Core) (t : Sess) (told : Telling) → Commits core sess replay called answers draws after t told → all_right core.entries → all_right after.entries
commits_right core sess replay called answers draws _ _ _ (InReplay marked) all = all
commits_right core sess replay called answers draws _ _ _ (Blocks not_marked blocked) all = all
commits_right core sess replay called answers draws _ _ _ (Conflicts not_marked free differs) all = all
commits_right core sess replay called answers draws _ _ _ (Stores may) all = one_more core.entries (entry_of sess called answers draws) all (made_right sess called answers draws)
commits_right core sess replay called answers draws _ _ _ (StopsBefore may) all = all
commits_right core sess replay called answers draws _ _ _ (StopsAfter may) all = one_more core.entries (entry_of sess called answers draws) all (made_right sess called answers draws)

works_right : (core : Core) (sess : Sess) (replay : Bool) (kept : List Draw) (called : Call) (now : ℕ) (after : Core) (t : Sess) (told : Telling) → Works core sess replay kept called now after t told → all_right core.entries → all_right after.entries
works_right core sess replay kept called now _ _ _ (AnswersCall opening draws left meant drew means not) all = all
works_right core sess replay kept called now _ _ _ (Reaches opening draws left meant after t told drew means ends commits) all = commits_right _ _ replay called meant.answers draws after t told commits all
works_right core sess replay kept called now _ _ _ (HaltsInDraw between opening draws next more left meant drew means halts) all = all

calls_right : (core : Core) (sess : Sess) (replay : Bool) (kept : List Draw) (now : ℕ) (called : Call) (after : Core) (t : Sess) (told : Telling) → Calls core sess replay kept now called after t told → all_right core.entries → all_right after.entries
calls_right core sess replay kept now _ _ _ _ (IsWork statements commit after t told works) all = works_right core sess replay kept _ now after t told works all
calls_right core sess replay kept now _ _ _ _ (IsSet name value) all = all
calls_right core sess replay kept now _ _ _ _ (IsAlter line not_marked) all = all
calls_right core sess replay kept now _ _ _ _ (AlterStops line after not_marked (inl same)) all = same_right core.entries after.entries (ap (λ (c : Core). c.entries) same) all
calls_right core sess replay kept now _ _ _ _ (AlterStops line after not_marked (inr same)) all = same_right core.entries after.entries (ap (λ (c : Core). c.entries) same) all
calls_right core sess replay kept now _ _ _ _ (AlterMarked line marked) all = all
calls_right core sess replay kept now _ _ _ _ IsDisable all = all
calls_right core sess replay kept now _ _ _ _ IsRollback all = all

asked_right : (core : Core) (x : Ltxid) (after : Core) (told : Telling) → Outcomes core x after told → all_right core.entries → all_right after.entries
asked_right core x _ _ (IsTold judged is) all = same_right core.entries (if_blocks judged core x).entries (blocks_none judged core x) all
asked_right core x _ _ (BlockStops after is (inl same)) all = same_right core.entries after.entries (ap (λ (c : Core). c.entries) same) all
asked_right core x _ _ (BlockStops after is (inr same)) all = same_right core.entries after.entries (ap (λ (c : Core). c.entries) same) all

serve_right : (core : Core) (sess : Sess) (now : ℕ) (frame : Up) (after : Core) (t : Sess) (told : Telling) → Serve core sess now frame after t told → all_right core.entries → all_right after.entries
serve_right core sess now _ _ _ _ (Connects life) all = all
serve_right core sess now _ _ _ _ (Begins settings serving) all = all
serve_right core sess now _ _ _ _ (Ends serving) all = all
serve_right core sess now _ _ _ _ (Closes serving) all = all
serve_right core sess now _ _ _ _ (Asks x after told serving asked) all = asked_right core x after told asked all
serve_right core sess now _ _ _ _ (Serves replay kept called after t told begun calls) all = calls_right core sess replay kept now called after t told calls all
serve_right core sess now _ _ _ _ (Refuses frame out) all = all

-- A RUN -------------------------------------------------------------------------------------------

turned_right : (server after : Server) (old new : Sess) (core : Core) (power : Power) → Turns server after old new core power → all_right core.entries → all_right after.core.entries
turned_right server after old new core power turns all = same_right core.entries after.core.entries (ap (λ (s : Server). s.core.entries) turns.turned) all

moves_right : (server after : Server) (more : List Happened) → Moves server more after → all_right server.core.entries → all_right after.core.entries
moves_right server _ _ (Makes on) all = all
moves_right server _ _ (Answers old new now frame core told after on serve answered turns) all = turned_right server after old new core _ turns (serve_right server.core old now frame core new told serve all)
moves_right server _ _ (Halts old new now frame core told after running serve turns) all = turned_right server after old new core _ turns (serve_right server.core old now frame core new told serve all)
moves_right server _ _ (Loses old now frame after halted turns) all = turned_right server after old _ server.core _ turns all
moves_right server _ _ (AnswersAsk x core frame on asks) all = asked_right server.core x core _ asks all
moves_right server _ _ (HaltsInAsk x core told running asks) all = asked_right server.core x core told asks all
moves_right server _ _ (Reaps front back sess split) all = all
moves_right server _ _ Falls all = all
moves_right server _ _ (Opens below off may) all = all
moves_right server _ _ (StopsOpening below core off may (inl same)) all = same_right server.core.entries core.entries (ap (λ (c : Core). c.entries) same) all
moves_right server _ _ (StopsOpening below core off may (inr (inl same))) all = same_right server.core.entries core.entries (ap (λ (c : Core). c.entries) same) all
moves_right server _ _ (StopsOpening below core off may (inr (inr same))) all = same_right server.core.entries core.entries (ap (λ (c : Core). c.entries) same) all

runs_right : (base : Base) (history : List Happened) (server : Server) → Runs base history server → all_right server.core.entries
runs_right base _ _ Start = refl
runs_right base _ _ (Then history more server after runs moves) = moves_right server after more moves (runs_right base history server runs)

-- what it gained is behind what it began with
pub gained_right : (seen : Seen) (t : Traced) → Coupled seen t → list_all is_completed_rightly (drop t.image t.entries) ≡ true
gained_right seen t coupled =
    same_right coupled.history.server.core.entries (drop t.image t.entries)
    (ap (λ (n : ℕ). drop n t.entries) coupled.image ∙ (ap (drop (length seen.start.entries)) (coupled.entries ∙ coupled.history.entries) ∙ drop-append_seam seen.start.entries coupled.history.server.core.entries))
    (runs_right seen.start seen.history coupled.history.server coupled.history.runs)
