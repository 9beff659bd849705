-- What is told of commits and blocks is stored, and every entry comes from a call.
use Rattle.std.specs.Prelude.{◌≡◌, ◌+◌, ℕ, Bool, true, false, not, List, [], ◌∷◌, ◌++◌, All, Contains, Option, Some, None}
use Rattle.std.specs.List.{last_or}
use Rattle.std.specs.Option.{option_map_or}
use Rattle.std.proofs.Common.{refl, sym, ◌∙◌, ap, subst}
use Rattle.std.proofs.lemmas.List.Elements.{Contains-push, Contains-append_left, All-nil, All-cons, All-contains}
use Rattle.svc_values.specs.declared.draw.Draw.{Draw}
use Rattle.svc_values.specs.declared.call.Call.{Call}
use Rattle.svc_values.specs.declared.answer.Answer.{Answer}
use Rattle.svc_values.specs.declared.answer.Answer.TheVariants as answer
use Rattle.svc_values.specs.declared.entry.Ltxid.{Ltxid}
use Rattle.svc_values.specs.declared.entry.Entry.{Entry}
use Rattle.svc_values.specs.declared.frame.Up.{Up}
use Rattle.svc_values.specs.declared.frame.Up.TheVariants as up
use Rattle.svc_values.specs.declared.frame.Down.TheVariants as down
use Rattle.svc_values.specs.meaning.Endings.{is_committed, ends_committed}
use Rattle.mutable_values.specs.Sources.{Opening}
use Rattle.ltxid_book.specs.declared.verdict.Verdict.{Verdict}
use Rattle.ltxid_book.specs.declared.verdict.Verdict.TheVariants as verdict
use Rattle.svc_values.specs.declared.tables.PlainRow.{PlainRow}
use Rattle.stmt_meaning.specs.meaning.Meaning.{Meant}
use Rattle.server_model.specs.meaning.Base.{Base}
use Rattle.server_model.specs.Core.{Core, committed}
use Rattle.server_model.specs.Sessions.{Sess, with_work}
use Rattle.svc_values.specs.meaning.Identifiers.{session_of}
use Rattle.server_model.specs.meaning.Outcomes.{Telling, Silent, Says, Stopped}
use Rattle.server_model.specs.Outcomes.{Outcomes, IsTold, BlockStops, down_of, if_blocks}
use Rattle.server_model.specs.Serve.{Commits, InReplay, Blocks, Conflicts, Stores, StopsBefore, StopsAfter, Works, Answers as AnswersCall, Reaches, HaltsInDraw, Calls, IsWork, IsSet, IsAlter, AlterStops, AlterMarked, IsDisable, IsRollback, Serve, Connects, Begins, Ends, Closes, Asks, Runs as Serves, Refuses, with_opening, with_last}
use Rattle.server_model.specs.Runs.{Happened, Served, Asked, Server, Turns, Moves, Makes, Answers, Halts, Loses, AnswersAsk, HaltsInAsk, Reaps, Falls, Opens, StopsOpening, Runs, Start, Then, Power}
use Rattle.server_model.specs.Laws.{AnswersStand, IsFront}
use Rattle.server_model.proofs.Fronts.{moves_front}

-- ---- answers that end with Committed

last-with : (before : Option Answer) (first : Answer) (more : List Answer) (last : Answer) → last_or before (with_last (first ∷ more) last) ≡ Some last
last-with before first [] last = refl
last-with before first (next ∷ more) last = last-with (Some first) next more last

pub not-committed : (answers : List Answer) (last : Answer) → is_committed last ≡ false → ends_committed (with_last answers last) ≡ false
not-committed [] last not = refl
not-committed (first ∷ more) last not = ap (λ a. option_map_or is_committed a false) (last-with None first more last) ∙ not

-- a frame that is answered Committed stored an entry of its session, with the number before that of
-- the reply
pub record Stored (core : Core) (sess : Sess) (x : Ltxid) (after : Core) : Type 0 where
  pub entry : Entry
  pub entries : after.entries ≡ core.entries ++ entry ∷ []
  pub session : session_of sess.ltxid ≡ session_of entry.ltxid
  pub number : entry.ltxid.number + 1 ≡ x.number

abbrev pub IfCommitted : Telling → Core → Sess → Core → Type 0
IfCommitted Silent core sess after = Unit {0}
IfCommitted (Says (down.Hello x)) core sess after = Unit {0}
IfCommitted (Says (down.Reply answers draws x)) core sess after = ends_committed answers ≡ true → Stored core sess x after
IfCommitted (Says (down.OutcomeIs committed completed)) core sess after = Unit {0}
IfCommitted (Says (down.OutcomeRefused ahead next)) core sess after = Unit {0}
IfCommitted (Says down.Blocked) core sess after = Unit {0}
IfCommitted (Says (down.Refused cause)) core sess after = Unit {0}
IfCommitted Stopped core sess after = Unit {0}

never : {A : Type 0} (b : Bool) → b ≡ false → b ≡ true → A
never b not is = let none : ⊥ = (let e : true ≡ false = sym is ∙ not in cc) in absurd none

commits_stored : (core : Core) (opening : Opening) (sess : Sess) (rows : List PlainRow) (meant : Meant) (replay : Bool) (called : Call) (draws : List Draw) (after : Core) (t : Sess) (told : Telling)
    → Commits (with_opening core opening) (with_work sess rows meant) replay called meant.answers draws after t told → IfCommitted told core sess after
commits_stored core opening sess rows meant replay called draws _ _ _ (InReplay marked) = λ ends. never _ (not-committed meant.answers answer.CommitInReplay refl) ends
commits_stored core opening sess rows meant replay called draws _ _ _ (Blocks unmarked blocked) = tt
commits_stored core opening sess rows meant replay called draws _ _ _ (Conflicts unmarked free differs) = λ ends. never _ (not-committed meant.answers answer.Conflict refl) ends
commits_stored core opening sess rows meant replay called draws _ _ _ (Stores may) = λ ends. record { entry = _; entries = refl; session = refl; number = refl }
commits_stored core opening sess rows meant replay called draws _ _ _ (StopsBefore may) = tt
commits_stored core opening sess rows meant replay called draws _ _ _ (StopsAfter may) = tt

works_stored : (core : Core) (sess : Sess) (replay : Bool) (kept : List Draw) (called : Call) (now : ℕ) (after : Core) (t : Sess) (told : Telling) → Works core sess replay kept called now after t told → IfCommitted told core sess after
works_stored core sess replay kept called now _ _ _ (AnswersCall opening draws left meant drew means not) = λ ends. never _ not ends
works_stored core sess replay kept called now _ _ _ (Reaches opening draws left meant after t told drew means ends commits) = commits_stored core opening sess (committed core) meant replay called draws after t told commits
works_stored core sess replay kept called now _ _ _ (HaltsInDraw between opening draws next more left meant drew means halts) = tt

calls_stored : (core : Core) (sess : Sess) (replay : Bool) (kept : List Draw) (now : ℕ) (called : Call) (after : Core) (t : Sess) (told : Telling) → Calls core sess replay kept now called after t told → IfCommitted told core sess after
calls_stored core sess replay kept now _ _ _ _ (IsWork statements commit after t told works) = works_stored core sess replay kept _ now after t told works
calls_stored core sess replay kept now _ _ _ _ (IsSet name value) = λ ends. never _ refl ends
calls_stored core sess replay kept now _ _ _ _ (IsAlter line unmarked) = λ ends. never _ refl ends
calls_stored core sess replay kept now _ _ _ _ (AlterStops line after unmarked same) = tt
calls_stored core sess replay kept now _ _ _ _ (AlterMarked line marked) = tt
calls_stored core sess replay kept now _ _ _ _ IsDisable = λ ends. never _ refl ends
calls_stored core sess replay kept now _ _ _ _ IsRollback = λ ends. never _ refl ends

outcomes_stored : (core : Core) (sess : Sess) (x : Ltxid) (after : Core) (told : Telling) → Outcomes core x after told → IfCommitted told core sess after
outcomes_stored core sess x _ _ (IsTold judged by) = told_of judged
  where
    told_of : (judged : Verdict) → IfCommitted (Says (down_of judged)) core sess (if_blocks judged core x)
    told_of verdict.BlockIt = tt
    told_of verdict.AlreadyBlocked = tt
    told_of (verdict.Committed completed) = tt
    told_of (verdict.ServerAhead next) = tt
    told_of (verdict.ClientAhead next) = tt
    told_of (verdict.Forgotten horizon) = tt
outcomes_stored core sess x _ _ (BlockStops after by same) = tt

pub serve_stored : (core : Core) (sess : Sess) (now : ℕ) (frame : Up) (after : Core) (t : Sess) (told : Telling) → Serve core sess now frame after t told → IfCommitted told core sess after
serve_stored core sess now _ _ _ _ (Connects life) = tt
serve_stored core sess now _ _ _ _ (Begins settings serving) = tt
serve_stored core sess now _ _ _ _ (Ends serving) = tt
serve_stored core sess now _ _ _ _ (Closes serving) = tt
serve_stored core sess now _ _ _ _ (Asks x after told serving asked) = outcomes_stored core sess x after told asked
serve_stored core sess now _ _ _ _ (Serves replay kept called after t told begun calls) = calls_stored core sess replay kept now called after t told calls
serve_stored core sess now _ _ _ _ (Refuses frame out) = tt

-- ---- over runs

-- a thing of a history that was answered Committed
abbrev pub IfStored : Happened → Server → Type 0
IfStored (Served session now frame (Says (down.Reply answers draws x))) server =
    ends_committed answers ≡ true → (entry : Entry) × (Contains server.core.entries entry × ((session ≡ session_of entry.ltxid) × (entry.ltxid.number + 1 ≡ x.number)))
IfStored _ server = Unit {0}

-- what is stored stays stored
stays_stored : (happened : Happened) (server after : Server) → IsFront server after → IfStored happened server → IfStored happened after
stays_stored (Served session now frame Silent) server after front stored = tt
stays_stored (Served session now frame (Says (down.Hello x))) server after front stored = tt
stays_stored (Served session now frame (Says (down.Reply answers draws x))) server after front stored =
    λ ends. ((stored ends).0, (subst (λ (l : List Entry). Contains l (stored ends).0) (sym front.entries) (Contains-append_left server.core.entries front.more_entries (stored ends).0 (stored ends).1.0), (stored ends).1.1))
stays_stored (Served session now frame (Says (down.OutcomeIs committed completed))) server after front stored = tt
stays_stored (Served session now frame (Says (down.OutcomeRefused ahead next))) server after front stored = tt
stays_stored (Served session now frame (Says down.Blocked)) server after front stored = tt
stays_stored (Served session now frame (Says (down.Refused cause))) server after front stored = tt
stays_stored (Served session now frame Stopped) server after front stored = tt
stays_stored (Asked x told) server after front stored = tt

told_stored : (told : Telling) (core : Core) (sess : Sess) (now : ℕ) (frame : Up) (after : Server) → IfCommitted told core sess after.core → IfStored (Served (session_of sess.ltxid) now frame told) after
told_stored Silent core sess now frame after is = tt
told_stored (Says (down.Hello x)) core sess now frame after is = tt
told_stored (Says (down.Reply answers draws x)) core sess now frame after is =
    λ ends. let stored = is ends in (stored.entry, (subst (λ (l : List Entry). Contains l stored.entry) (sym stored.entries) (Contains-push core.entries stored.entry), (stored.session, stored.number)))
told_stored (Says (down.OutcomeIs committed completed)) core sess now frame after is = tt
told_stored (Says (down.OutcomeRefused ahead next)) core sess now frame after is = tt
told_stored (Says down.Blocked) core sess now frame after is = tt
told_stored (Says (down.Refused cause)) core sess now frame after is = tt
told_stored Stopped core sess now frame after is = tt

-- everything in these things is stored
abbrev pub AllStored : List Happened → Server → Type 0
AllStored [] server = Unit {0}
AllStored (happened ∷ more) server = IfStored happened server × AllStored more server

all-stay : (history : List Happened) (server after : Server) → IsFront server after → AllStored history server → AllStored history after
all-stay [] server after front stored = tt
all-stay (happened ∷ more) server after front stored = (stays_stored happened server after front stored.0, all-stay more server after front stored.1)

all-more : (history more : List Happened) (server : Server) → AllStored history server → AllStored more server → AllStored (history ++ more) server
all-more [] more server stored here = here
all-more (happened ∷ history) more server stored here = (stored.0, all-more history more server stored.1 here)

turned_core : (server after : Server) (old new : Sess) (core : Core) (power : Power) → Turns server after old new core power → core ≡ after.core
turned_core server after old new core power turns = sym (ap (λ (s : Server). s.core) turns.turned)

moves_stored : (server after : Server) (more : List Happened) → Moves server more after → AllStored more after
moves_stored server _ _ (Makes on) = tt
moves_stored server _ _ (Answers old new now frame core told after on serve answered turns) =
    (told_stored told server.core old now frame after (subst (IfCommitted told server.core old) (turned_core server after old new core _ turns) (serve_stored server.core old now frame core new told serve)), tt)
moves_stored server _ _ (Halts old new now frame core told after running serve turns) = (tt, tt)
moves_stored server _ _ (Loses old now frame after halted turns) = (tt, tt)
moves_stored server _ _ (AnswersAsk x core frame on asks) = (tt, tt)
moves_stored server _ _ (HaltsInAsk x core told running asks) = (tt, tt)
moves_stored server _ _ (Reaps front back sess split) = tt
moves_stored server _ _ Falls = tt
moves_stored server _ _ (Opens below off may) = tt
moves_stored server _ _ (StopsOpening below core off may same) = tt

pub runs_stored : (base : Base) (history : List Happened) (server : Server) → Runs base history server → AllStored history server
runs_stored base _ _ Start = tt
runs_stored base _ _ (Then history more server after runs moves) = all-more history more after (all-stay history server after (moves_front server after more moves) (runs_stored base history server runs)) (moves_stored server after more moves)

all-listed : (history : List Happened) (server : Server) → AllStored history server → All (λ happened. IfStored happened server) history
all-listed [] server stored = All-nil (λ happened. IfStored happened server)
all-listed (happened ∷ more) server stored = All-cons (λ (h : Happened). IfStored h server) happened more stored.0 (all-listed more server stored.1)

pub answers_stand : AnswersStand
answers_stand base history server runs session now kept called answers draws x contains ends =
    All-contains (λ (h : Happened). IfStored h server) history (Served session now (up.Call false kept called) (Says (down.Reply answers draws x))) (all-listed history server (runs_stored base history server runs)) contains ends
