-- Frames and whole runs leave the names of sequences and whether they are kept.
use Rattle.std.specs.Prelude.{◌≡◌, ℕ, Bool, List, map}
use Rattle.std.proofs.Common.{refl, inl, inr, ◌∙◌, ap}
use Rattle.svc_values.specs.declared.draw.Draw.{Draw}
use Rattle.svc_values.specs.declared.call.Call.{Call}
use Rattle.svc_values.specs.declared.answer.Answer.{Answer}
use Rattle.svc_values.specs.declared.frame.Up.{Up}
use Rattle.stmt_meaning.specs.Asked.{kind_drawn}
use Rattle.server_model.specs.meaning.Base.{Base}
use Rattle.server_model.specs.meaning.Core.{sequence_at}
use Rattle.server_model.specs.Core.{Core}
use Rattle.server_model.specs.Sessions.{Sess}
use Rattle.server_model.specs.meaning.Outcomes.{Telling}
use Rattle.server_model.specs.Serve.{Commits, InReplay, Blocks, Conflicts, Stores, StopsBefore, StopsAfter, Works, Answers as AnswersCall, Reaches, HaltsInDraw, Calls, IsWork, IsSet, IsAlter, AlterStops, AlterMarked, IsDisable, IsRollback, Serve, Connects, Begins, Ends, Closes, Asks, Runs as Serves, Refuses}
use Rattle.server_model.specs.Runs.{Happened, Server, Turns, Moves, Makes, Answers, Halts, Loses, AnswersAsk, HaltsInAsk, Reaps, Falls, Opens, StopsOpening, Runs, Start, Then, Power}
use Rattle.server_model.proofs.Stays.{outcomes_stay}
use Rattle.server_model.proofs.draws.KeptDraws.{SameKept}
use Rattle.server_model.proofs.draws.SameNames.{tag_of, tags, all-tags, halt-tags, reopened-tags, tags-kept}

commits-tags : (core : Core) (sess : Sess) (replay : Bool) (called : Call) (answers : List Answer) (draws : List Draw) (after : Core) (t : Sess) (told : Telling) → Commits core sess replay called answers draws after t told → tags after.opening ≡ tags core.opening
commits-tags core sess replay called answers draws _ _ _ (InReplay marked) = refl
commits-tags core sess replay called answers draws _ _ _ (Blocks unmarked blocked) = refl
commits-tags core sess replay called answers draws _ _ _ (Conflicts unmarked free differs) = refl
commits-tags core sess replay called answers draws _ _ _ (Stores may) = refl
commits-tags core sess replay called answers draws _ _ _ (StopsBefore may) = refl
commits-tags core sess replay called answers draws _ _ _ (StopsAfter may) = refl

works-tags : (core : Core) (sess : Sess) (replay : Bool) (kept : List Draw) (called : Call) (now : ℕ) (after : Core) (t : Sess) (told : Telling) → Works core sess replay kept called now after t told → tags after.opening ≡ tags core.opening
works-tags core sess replay kept called now _ _ _ (AnswersCall opening draws left meant drew means ends) = all-tags now draws core.opening _ opening left drew
works-tags core sess replay kept called now _ _ _ (Reaches opening draws left meant after t told drew means ends commits) = commits-tags _ _ replay called meant.answers draws after t told commits ∙ all-tags now draws core.opening _ opening left drew
works-tags core sess replay kept called now _ _ _ (HaltsInDraw between opening draws next more left meant drew means halts) = halt-tags now left (kind_drawn next) between opening halts ∙ all-tags now draws core.opening _ between left drew

calls-tags : (core : Core) (sess : Sess) (replay : Bool) (kept : List Draw) (now : ℕ) (called : Call) (after : Core) (t : Sess) (told : Telling) → Calls core sess replay kept now called after t told → tags after.opening ≡ tags core.opening
calls-tags core sess replay kept now _ _ _ _ (IsWork statements commit after t told works) = works-tags core sess replay kept _ now after t told works
calls-tags core sess replay kept now _ _ _ _ (IsSet name value) = refl
calls-tags core sess replay kept now _ _ _ _ (IsAlter line unmarked) = refl
calls-tags core sess replay kept now _ _ _ _ (AlterStops line after unmarked (inl same)) = ap (λ (c : Core). tags c.opening) same
calls-tags core sess replay kept now _ _ _ _ (AlterStops line after unmarked (inr same)) = ap (λ (c : Core). tags c.opening) same
calls-tags core sess replay kept now _ _ _ _ (AlterMarked line marked) = refl
calls-tags core sess replay kept now _ _ _ _ IsDisable = refl
calls-tags core sess replay kept now _ _ _ _ IsRollback = refl

pub serve-tags : (core : Core) (sess : Sess) (now : ℕ) (frame : Up) (after : Core) (t : Sess) (told : Telling) → Serve core sess now frame after t told → tags after.opening ≡ tags core.opening
serve-tags core sess now _ _ _ _ (Connects life) = refl
serve-tags core sess now _ _ _ _ (Begins settings serving) = refl
serve-tags core sess now _ _ _ _ (Ends serving) = refl
serve-tags core sess now _ _ _ _ (Closes serving) = refl
serve-tags core sess now _ _ _ _ (Asks x after told serving asked) = ap tags (outcomes_stay core x after told asked).1
serve-tags core sess now _ _ _ _ (Serves replay kept called after t told begun calls) = calls-tags core sess replay kept now called after t told calls
serve-tags core sess now _ _ _ _ (Refuses frame out) = refl

turned : (server after : Server) (old new : Sess) (core : Core) (power : Power) → Turns server after old new core power → tags after.core.opening ≡ tags core.opening
turned server after old new core power turns = ap (λ (s : Server). tags s.core.opening) turns.turned

moves-tags : (server after : Server) (more : List Happened) → Moves server more after → tags after.core.opening ≡ tags server.core.opening
moves-tags server _ _ (Makes on) = refl
moves-tags server _ _ (Answers old new now frame core told after on serve answered turns) = turned server after old new core _ turns ∙ serve-tags server.core old now frame core new told serve
moves-tags server _ _ (Halts old new now frame core told after running serve turns) = turned server after old new core _ turns ∙ serve-tags server.core old now frame core new told serve
moves-tags server _ _ (Loses old now frame after halted turns) = turned server after old _ server.core _ turns
moves-tags server _ _ (AnswersAsk x core frame on asked) = ap tags (outcomes_stay server.core x core _ asked).1
moves-tags server _ _ (HaltsInAsk x core told running asked) = ap tags (outcomes_stay server.core x core told asked).1
moves-tags server _ _ (Reaps front back sess split) = refl
moves-tags server _ _ Falls = refl
moves-tags server _ _ (Opens below off may) = reopened-tags server.core.opening.sequences
moves-tags server _ _ (StopsOpening below core off may (inl same)) = ap (λ (c : Core). tags c.opening) same
moves-tags server _ _ (StopsOpening below core off may (inr (inl same))) = ap (λ (c : Core). tags c.opening) same
moves-tags server _ _ (StopsOpening below core off may (inr (inr same))) = ap (λ (c : Core). tags c.opening) same ∙ reopened-tags server.core.opening.sequences

pub runs-tags : (base : Base) (history : List Happened) (server : Server) → Runs base history server → tags server.core.opening ≡ map tag_of (map sequence_at base.sequences)
runs-tags base _ _ Start = refl
runs-tags base _ _ (Then history more server after runs moves) = moves-tags server after more moves ∙ runs-tags base history server runs

-- What a run's opening keeps is what its base keeps.
pub runs-kept : (base : Base) (history : List Happened) (server : Server) → Runs base history server → SameKept base server.core.opening
runs-kept base history server runs = tags-kept base server.core.opening (runs-tags base history server runs)
