-- The alerts of a run are the answered lines in order, with some of those that were stopped.
use Rattle.std.specs.Prelude.{◌≡◌, ◌⊎◌, ◌+◌, ◌&&◌, ◌||◌, ℕ, Bool, true, false, not, IsTrue, List, [], ◌∷◌, ◌++◌}
use Rattle.std.specs.Str.{bytes_eq}
use Rattle.std.proofs.Common.{refl, inl, inr, sym, ◌∙◌, ap, append-nil, append_assoc}
use Rattle.svc_values.specs.declared.statement.Statement.{Statement}
use Rattle.svc_values.specs.declared.draw.Draw.{Draw}
use Rattle.svc_values.specs.declared.call.Call.{Call}
use Rattle.svc_values.specs.declared.call.Call.TheVariants as call
use Rattle.svc_values.specs.declared.answer.Answer.{Answer}
use Rattle.svc_values.specs.declared.entry.Ltxid.{Ltxid}
use Rattle.svc_values.specs.declared.frame.Up.{Up}
use Rattle.svc_values.specs.declared.frame.Up.TheVariants as up
use Rattle.svc_values.specs.declared.frame.Down.TheVariants as down
use Rattle.svc_values.specs.SameLaws.{bytes_decide}
use Rattle.ltxid_book.specs.declared.verdict.Verdict.{Verdict}
use Rattle.ltxid_book.specs.declared.verdict.Verdict.TheVariants as verdict
use Rattle.mutable_values.specs.Sources.{Opening}
use Rattle.server_model.specs.meaning.Base.{Base}
use Rattle.server_model.specs.Core.{Core}
use Rattle.svc_values.specs.declared.entry.SessionId.{SessionId}
use Rattle.server_model.specs.Sessions.{Sess}
use Rattle.svc_values.specs.meaning.Identifiers.{session_of}
use Rattle.server_model.specs.meaning.Outcomes.{Telling, Silent, Says, Stopped}
use Rattle.server_model.specs.Outcomes.{Outcomes, IsTold, BlockStops, down_of, if_blocks}
use Rattle.server_model.specs.Serve.{Commits, InReplay, Blocks, Conflicts, Stores, StopsBefore, StopsAfter, Works, Answers as AnswersCall, Reaches, HaltsInDraw, Calls, IsWork, IsSet, IsAlter, AlterStops, AlterMarked, IsDisable, IsRollback, Serve, Connects, Begins, Ends, Closes, Asks, Runs as Serves, Refuses, with_opening}
use Rattle.server_model.specs.Runs.{Happened, Served, Asked, Server, Turns, Moves, Makes, Answers, Halts, Loses, AnswersAsk, HaltsInAsk, Reaps, Falls, Opens, StopsOpening, Runs, Start, Then, Power}
use Rattle.server_model.specs.meaning.Items.{thing_of, without_answer}
use Rattle.server_model.specs.Items.{items_from}
use Rattle.server_model.specs.meaning.Legal.{Line, line_in, lines_of, lines_stand}
use Rattle.server_model.specs.Laws.{RunsAlerts}

-- ---- lines that stand, one after the other

and-left : (a b : Bool) → (a && b) ≡ true → a ≡ true
and-left true b is = refl
and-left false b is = cc

and-right : (a b : Bool) → (a && b) ≡ true → b ≡ true
and-right true b is = is
and-right false b is = let none : ⊥ = cc in absurd none

and-both : (a b : Bool) → a ≡ true → b ≡ true → (a && b) ≡ true
and-both true b one other = other
and-both false b one other = let none : ⊥ = cc in absurd none

or-left : (a b : Bool) → a ≡ true → (a || b) ≡ true
or-left true b is = refl
or-left false b is = let none : ⊥ = cc in absurd none

or-right : (a b : Bool) → b ≡ true → (a || b) ≡ true
or-right true b is = refl
or-right false b is = is

or-cases : (a b : Bool) → (a || b) ≡ true → (a ≡ true) ⊎ (b ≡ true)
or-cases true b is = inl refl
or-cases false b is = inr is

-- a line that was not answered may be left out
skips : (line : Line) (lines : List Line) (alerts : List (List ℕ)) → not line.is_answered ≡ true → lines_stand lines alerts ≡ true → lines_stand (line ∷ lines) alerts ≡ true
skips line lines [] not_answered stand = and-both _ _ not_answered stand
skips line lines (alert ∷ alerts) not_answered stand = or-right _ _ (and-both _ _ not_answered stand)

either : (a b c d b' d' : Bool) → (b ≡ true → b' ≡ true) → (d ≡ true → d' ≡ true) → ((a && b) || (c && d)) ≡ true → ((a && b') || (c && d')) ≡ true
either a b c d b' d' first second is = by (or-cases (a && b) (c && d) is)
  where
    by : ((a && b) ≡ true) ⊎ ((c && d) ≡ true) → ((a && b') || (c && d')) ≡ true
    by (inl both) = or-left (a && b') (c && d') (and-both a b' (and-left a b both) (first (and-right a b both)))
    by (inr both) = or-right (a && b') (c && d') (and-both c d' (and-left c d both) (second (and-right c d both)))

stand-append : (lines more : List Line) (alerts others : List (List ℕ)) → lines_stand lines alerts ≡ true → lines_stand more others ≡ true → lines_stand (lines ++ more) (alerts ++ others) ≡ true
stand-append [] more [] others one other = other
stand-append [] more (alert ∷ alerts) others one other = let none : ⊥ = cc in absurd none
stand-append (line ∷ lines) more [] others one other = skips line (lines ++ more) others (and-left _ _ one) (stand-append lines more [] others (and-right (not line.is_answered) _ one) other)
stand-append (line ∷ lines) more (alert ∷ alerts) others one other =
    either (bytes_eq line.text alert) (lines_stand lines alerts) (not line.is_answered) (lines_stand lines (alert ∷ alerts)) (lines_stand (lines ++ more) (alerts ++ others)) (lines_stand (lines ++ more) (alert ∷ (alerts ++ others)))
    (λ is. stand-append lines more alerts others is other) (λ is. stand-append lines more (alert ∷ alerts) others is other) one

-- ---- the lines of a history

lines_in : List Happened → List Line
lines_in [] = []
lines_in (Served session now frame told ∷ more) = line_in (thing_of frame told) ++ lines_in more
lines_in (Asked x told ∷ more) = lines_in more

lines_in-append : (history more : List Happened) → lines_in (history ++ more) ≡ lines_in history ++ lines_in more
unfolding lines_in
lines_in-append [] more = refl
lines_in-append (Served session now frame told ∷ history) more = ap (λ l. line_in (thing_of frame told) ++ l) (lines_in-append history more) ∙ sym (append_assoc (line_in (thing_of frame told)) (lines_in history) (lines_in more))
lines_in-append (Asked x told ∷ history) more = lines_in-append history more

lines-items : (event : ℕ) (history : List Happened) → lines_of (items_from event history) ≡ lines_in history
unfolding lines_in
lines-items event [] = refl
lines-items event (Served session now frame told ∷ history) = ap (λ l. line_in (thing_of frame told) ++ l) (lines-items (event + 1) history)
lines-items event (Asked x Silent ∷ history) = lines-items (event + 1) history
lines-items event (Asked x (Says (down.Hello y)) ∷ history) = lines-items (event + 1) history
lines-items event (Asked x (Says (down.Reply answers draws y)) ∷ history) = lines-items (event + 1) history
lines-items event (Asked x (Says (down.OutcomeIs committed completed)) ∷ history) = lines-items (event + 1) history
lines-items event (Asked x (Says (down.OutcomeRefused ahead next)) ∷ history) = lines-items (event + 1) history
lines-items event (Asked x (Says down.Blocked) ∷ history) = lines-items (event + 1) history
lines-items event (Asked x (Says (down.Refused cause)) ∷ history) = lines-items (event + 1) history
lines-items event (Asked x Stopped ∷ history) = lines-items (event + 1) history

-- ---- one frame

-- what a frame added to the alerts is what its line lets stand, as it was told and where it was not
pub record Lined (core : Core) (frame : Up) (told : Telling) (after : Core) : Type 0 where
  pub more : List (List ℕ)
  pub alerts : after.alerts ≡ core.alerts ++ more
  pub answered : lines_stand (line_in (thing_of frame told)) more ≡ true
  pub stopped : lines_stand (line_in (without_answer frame)) more ≡ true

-- a frame that adds nothing is right if it is told no line; a stopped line may be left out
lost_line : (replay : Bool) (called : Call) → lines_stand (line_in (without_answer (up.Call replay [] called))) [] ≡ true
lost_line true called = refl
lost_line false (call.Work statements commit) = refl
lost_line false (call.Set name value) = refl
lost_line false (call.Alter line) = refl
lost_line false call.Disable = refl
lost_line false call.Rollback = refl

pub lost : (frame : Up) → lines_stand (line_in (without_answer frame)) [] ≡ true
lost up.Connect = refl
lost (up.Begin settings) = refl
lost (up.Call replay kept called) = lost_line replay called
lost (up.Outcome x) = refl
lost up.End = refl
lost up.Close = refl

nothing : (core : Core) (frame : Up) (told : Telling) (after : Core) → after.alerts ≡ core.alerts → lines_stand (line_in (thing_of frame told)) [] ≡ true → Lined core frame told after
nothing core frame told after same right = record { more = []; alerts = same ∙ sym (append-nil core.alerts); answered = right; stopped = lost frame }

-- a work call has no line, whatever it is told
work_line : (replay : Bool) (kept : List Draw) (statements : List Statement) (commit : Bool) (told : Telling) → lines_stand (line_in (thing_of (up.Call replay kept (call.Work statements commit)) told)) [] ≡ true
work_line replay kept statements commit Silent = lost_line replay (call.Work statements commit)
work_line replay kept statements commit (Says (down.Hello y)) = refl
work_line replay kept statements commit (Says (down.Reply answers draws y)) = refl
work_line replay kept statements commit (Says (down.OutcomeIs committed completed)) = refl
work_line replay kept statements commit (Says (down.OutcomeRefused ahead next)) = refl
work_line replay kept statements commit (Says down.Blocked) = refl
work_line replay kept statements commit (Says (down.Refused cause)) = refl
work_line replay kept statements commit Stopped = lost_line replay (call.Work statements commit)

commits_alerts : (core : Core) (opening : Opening) (sess : Sess) (replay : Bool) (called : Call) (answers : List Answer) (draws : List Draw) (after : Core) (t : Sess) (told : Telling) → Commits (with_opening core opening) sess replay called answers draws after t told → after.alerts ≡ core.alerts
commits_alerts core opening sess replay called answers draws _ _ _ (InReplay marked) = refl
commits_alerts core opening sess replay called answers draws _ _ _ (Blocks unmarked blocked) = refl
commits_alerts core opening sess replay called answers draws _ _ _ (Conflicts unmarked free differs) = refl
commits_alerts core opening sess replay called answers draws _ _ _ (Stores may) = refl
commits_alerts core opening sess replay called answers draws _ _ _ (StopsBefore may) = refl
commits_alerts core opening sess replay called answers draws _ _ _ (StopsAfter may) = refl

works_alerts : (core : Core) (sess : Sess) (replay : Bool) (kept : List Draw) (called : Call) (now : ℕ) (after : Core) (t : Sess) (told : Telling) → Works core sess replay kept called now after t told → after.alerts ≡ core.alerts
works_alerts core sess replay kept called now _ _ _ (AnswersCall opening draws left meant drew means ends) = refl
works_alerts core sess replay kept called now _ _ _ (Reaches opening draws left meant after t told drew means ends commits) = commits_alerts core opening _ replay called meant.answers draws after t told commits
works_alerts core sess replay kept called now _ _ _ (HaltsInDraw between opening draws next more left meant drew means halts) = refl

same_bytes : (line : List ℕ) → bytes_eq line line ≡ true
same_bytes line = (bytes_decide line line).1 refl

line_stands : (answered : Bool) (line : List ℕ) → lines_stand ((record { text = line; is_answered = answered }) ∷ []) (line ∷ []) ≡ true
line_stands answered line = or-left _ _ (and-both _ _ (same_bytes line) refl)

-- an alter without the mark that was stopped
alter_stands : (replay : Bool) (line : List ℕ) → IsTrue (not replay) → lines_stand (line_in (without_answer (up.Call replay [] (call.Alter line)))) (line ∷ []) ≡ true
alter_stands true line unmarked = let none : ⊥ = cc in absurd none
alter_stands false line unmarked = line_stands false line

calls_lined : (core : Core) (sess : Sess) (replay : Bool) (kept : List Draw) (now : ℕ) (called : Call) (after : Core) (t : Sess) (told : Telling) → Calls core sess replay kept now called after t told → Lined core (up.Call replay kept called) told after
calls_lined core sess replay kept now _ _ _ _ (IsWork statements commit after t told works) = nothing core (up.Call replay kept (call.Work statements commit)) told after (works_alerts core sess replay kept _ now after t told works) (work_line replay kept statements commit told)
calls_lined core sess replay kept now _ _ _ _ (IsSet name value) = nothing core (up.Call replay kept (call.Set name value)) _ core refl refl
calls_lined core sess replay kept now _ _ _ _ (IsAlter line unmarked) = record { more = line ∷ []; alerts = refl; answered = line_stands true line; stopped = alter_stands replay line unmarked }
calls_lined core sess replay kept now _ _ _ _ (AlterStops line after unmarked (inl same)) = nothing core (up.Call replay kept (call.Alter line)) Stopped after (ap (λ (c : Core). c.alerts) same) (lost_line replay (call.Alter line))
calls_lined core sess replay kept now _ _ _ _ (AlterStops line after unmarked (inr same)) =
    record { more = line ∷ []; alerts = ap (λ (c : Core). c.alerts) same; answered = alter_stands replay line unmarked; stopped = alter_stands replay line unmarked }
calls_lined core sess replay kept now _ _ _ _ (AlterMarked line marked) = nothing core (up.Call replay kept (call.Alter line)) (Says (down.Refused 2)) core refl refl
calls_lined core sess replay kept now _ _ _ _ IsDisable = nothing core (up.Call replay kept call.Disable) _ core refl refl
calls_lined core sess replay kept now _ _ _ _ IsRollback = nothing core (up.Call replay kept call.Rollback) _ core refl refl

told_lined : (judged : Verdict) (core : Core) (x : Ltxid) → Lined core (up.Outcome x) (Says (down_of judged)) (if_blocks judged core x)
told_lined verdict.BlockIt core x = nothing core (up.Outcome x) _ _ refl refl
told_lined verdict.AlreadyBlocked core x = nothing core (up.Outcome x) _ _ refl refl
told_lined (verdict.Committed completed) core x = nothing core (up.Outcome x) (Says (down_of (verdict.Committed completed))) _ refl refl
told_lined (verdict.ServerAhead next) core x = nothing core (up.Outcome x) (Says (down_of (verdict.ServerAhead next))) _ refl refl
told_lined (verdict.ClientAhead next) core x = nothing core (up.Outcome x) (Says (down_of (verdict.ClientAhead next))) _ refl refl
told_lined (verdict.Forgotten horizon) core x = nothing core (up.Outcome x) (Says (down_of (verdict.Forgotten horizon))) _ refl refl

outcomes_lined : (core : Core) (x : Ltxid) (after : Core) (told : Telling) → Outcomes core x after told → Lined core (up.Outcome x) told after
outcomes_lined core x _ _ (IsTold judged by) = told_lined judged core x
outcomes_lined core x _ _ (BlockStops after by (inl same)) = nothing core (up.Outcome x) Stopped after (ap (λ (c : Core). c.alerts) same) refl
outcomes_lined core x _ _ (BlockStops after by (inr same)) = nothing core (up.Outcome x) Stopped after (ap (λ (c : Core). c.alerts) same) refl

refused_line : (frame : Up) → lines_stand (line_in (thing_of frame (Says (down.Refused 2)))) [] ≡ true
refused_line up.Connect = refl
refused_line (up.Begin settings) = refl
refused_line (up.Call replay kept called) = refl
refused_line (up.Outcome x) = refl
refused_line up.End = refl
refused_line up.Close = refl

pub serve_lined : (core : Core) (sess : Sess) (now : ℕ) (frame : Up) (after : Core) (t : Sess) (told : Telling) → Serve core sess now frame after t told → Lined core frame told after
serve_lined core sess now _ _ _ _ (Connects life) = nothing core up.Connect _ core refl refl
serve_lined core sess now _ _ _ _ (Begins settings serving) = nothing core (up.Begin settings) Silent core refl refl
serve_lined core sess now _ _ _ _ (Ends serving) = nothing core up.End Silent core refl refl
serve_lined core sess now _ _ _ _ (Closes serving) = nothing core up.Close Silent core refl refl
serve_lined core sess now _ _ _ _ (Asks x after told serving asked) = outcomes_lined core x after told asked
serve_lined core sess now _ _ _ _ (Serves replay kept called after t told begun calls) = calls_lined core sess replay kept now called after t told calls
serve_lined core sess now _ _ _ _ (Refuses frame out) = nothing core frame (Says (down.Refused 2)) core refl (refused_line frame)

-- ---- moves and runs

record LinedMove (server : Server) (more : List Happened) (after : Server) : Type 0 where
  gained : List (List ℕ)
  alerts : after.core.alerts ≡ server.core.alerts ++ gained
  stand : lines_stand (lines_in more) gained ≡ true

-- a move that adds no line
quiet_move : (server after : Server) (more : List Happened) → lines_in more ≡ [] → after.core.alerts ≡ server.core.alerts → LinedMove server more after
quiet_move server after more none same = record { gained = []; alerts = same ∙ sym (append-nil server.core.alerts); stand = ap (λ l. lines_stand l []) none }

turned_alerts : (server after : Server) (old new : Sess) (core : Core) (power : Power) → Turns server after old new core power → after.core.alerts ≡ core.alerts
turned_alerts server after old new core power turns = ap (λ (s : Server). s.core.alerts) turns.turned

one_line : (session : SessionId) (now : ℕ) (frame : Up) (told : Telling) (more : List (List ℕ)) → lines_stand (line_in (thing_of frame told)) more ≡ true → lines_stand (lines_in (Served session now frame told ∷ [])) more ≡ true
unfolding lines_in
one_line session now frame told more stand = ap (λ l. lines_stand l more) (append-nil (line_in (thing_of frame told))) ∙ stand

asked_alerts : (core : Core) (x : Ltxid) (after : Core) (told : Telling) → Outcomes core x after told → after.alerts ≡ core.alerts
asked_alerts core x _ _ (IsTold verdict.BlockIt by) = refl
asked_alerts core x _ _ (IsTold verdict.AlreadyBlocked by) = refl
asked_alerts core x _ _ (IsTold (verdict.Committed completed) by) = refl
asked_alerts core x _ _ (IsTold (verdict.ServerAhead next) by) = refl
asked_alerts core x _ _ (IsTold (verdict.ClientAhead next) by) = refl
asked_alerts core x _ _ (IsTold (verdict.Forgotten horizon) by) = refl
asked_alerts core x _ _ (BlockStops after by (inl same)) = ap (λ (c : Core). c.alerts) same
asked_alerts core x _ _ (BlockStops after by (inr same)) = ap (λ (c : Core). c.alerts) same

moves_lined : (server after : Server) (more : List Happened) → Moves server more after → LinedMove server more after
unfolding lines_in
moves_lined server _ _ (Makes on) = quiet_move server _ [] refl refl
moves_lined server _ _ (Answers old new now frame core told after on serve answered turns) =
    let lined = serve_lined server.core old now frame core new told serve in
    record { gained = lined.more; alerts = turned_alerts server after old new core _ turns ∙ lined.alerts; stand = one_line (session_of old.ltxid) now frame told lined.more lined.answered }
moves_lined server _ _ (Halts old new now frame core told after running serve turns) =
    let lined = serve_lined server.core old now frame core new told serve in
    record { gained = lined.more; alerts = turned_alerts server after old new core _ turns ∙ lined.alerts; stand = one_line (session_of old.ltxid) now frame Stopped lined.more lined.stopped }
moves_lined server _ _ (Loses old now frame after halted turns) =
    record { gained = []; alerts = turned_alerts server after old _ server.core _ turns ∙ sym (append-nil server.core.alerts); stand = one_line (session_of old.ltxid) now frame Stopped [] (lost frame) }
moves_lined server _ _ (AnswersAsk x core frame on asks) = quiet_move server _ _ refl (asked_alerts server.core x core _ asks)
moves_lined server _ _ (HaltsInAsk x core told running asks) = quiet_move server _ _ refl (asked_alerts server.core x core told asks)
moves_lined server _ _ (Reaps front back sess split) = quiet_move server _ [] refl refl
moves_lined server _ _ Falls = quiet_move server _ [] refl refl
moves_lined server _ _ (Opens below off may) = quiet_move server _ [] refl refl
moves_lined server _ _ (StopsOpening below core off may (inl same)) = quiet_move server _ [] refl (ap (λ (c : Core). c.alerts) same)
moves_lined server _ _ (StopsOpening below core off may (inr (inl same))) = quiet_move server _ [] refl (ap (λ (c : Core). c.alerts) same)
moves_lined server _ _ (StopsOpening below core off may (inr (inr same))) = quiet_move server _ [] refl (ap (λ (c : Core). c.alerts) same)

runs_lined : (base : Base) (history : List Happened) (server : Server) → Runs base history server → lines_stand (lines_in history) server.core.alerts ≡ true
unfolding lines_in
runs_lined base _ _ Start = refl
runs_lined base _ _ (Then history more server after runs moves) =
    let move = moves_lined server after more moves in
    ap (λ l. lines_stand l after.core.alerts) (lines_in-append history more)
    ∙ ap (λ a. lines_stand (lines_in history ++ lines_in more) a) move.alerts
    ∙ stand-append (lines_in history) (lines_in more) server.core.alerts move.gained (runs_lined base history server runs) move.stand

pub runs_alerts : RunsAlerts
runs_alerts base history server runs = ap (λ l. lines_stand l server.core.alerts) (lines-items 0 history) ∙ runs_lined base history server runs
