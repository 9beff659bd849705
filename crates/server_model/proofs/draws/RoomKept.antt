-- An opening's numbers stay such as can be spelled: a source gives a value only where it has room,
-- so it has counted at most 2 ^ 60 identifiers.
use Rattle.std.specs.Prelude.{◌≡◌, ◌+◌, ◌<◌, ◌≤◌, ◌^◌, ℕ, Bool, List, [], ◌∷◌}
use Rattle.std.proofs.Common.{inl, inr, sym, ap, subst, arith}
use Rattle.svc_values.specs.declared.answer.Answer.{Answer}
use Rattle.svc_values.specs.declared.call.Call.{Call}
use Rattle.svc_values.specs.declared.draw.Draw.{Draw}
use Rattle.svc_values.specs.declared.draw.DrawKind.{DrawKind}
use Rattle.svc_values.specs.declared.frame.Up.{Up}
use Rattle.stmt_meaning.specs.Asked.{kind_drawn}
use Rattle.mutable_values.specs.Sources.{Opening, HasRoom}
use Rattle.server_model.specs.meaning.Base.{Base}
use Rattle.server_model.specs.Base.{IsSound}
use Rattle.server_model.specs.Core.{Core, opening_after}
use Rattle.server_model.specs.Draws.{Draws, Gives, Reserves, DrawsAll, HaltsAt, BlockLost, BlockStands}
use Rattle.server_model.specs.meaning.Outcomes.{Telling}
use Rattle.server_model.specs.Runs.{Happened, Server, Turns, Moves, Makes, Answers, Halts, Loses, AnswersAsk, HaltsInAsk, Reaps, Falls, Opens, StopsOpening, Runs, Start, Then, Power}
use Rattle.server_model.specs.Serve.{Commits, InReplay, Blocks, Conflicts, Stores, StopsBefore, StopsAfter, Works, Answers as AnswersCall, Reaches, HaltsInDraw, Calls, IsWork, IsSet, IsAlter, AlterStops, AlterMarked, IsDisable, IsRollback, Serve, Connects, Begins, Ends, Closes, Asks, Runs as Serves, Refuses, with_opening}
use Rattle.server_model.specs.Sessions.{Sess, ended}
use Rattle.server_model.proofs.Stays.{outcomes_stay, serve_stays}
use Rattle.server_model.proofs.draws.Takings.{Takes, TakesKept, TakesTick, TakesName, TakesNext, takes}

-- at most so many as there is room for
abbrev pub Few : ℕ → Type 0
Few identifiers = identifiers ≤ 2 ^ 60

-- ---- draws

room-of : (kept : List Draw) (asked : DrawKind) (now : ℕ) (before : Opening) (given : Draw) (after : Opening) (left : List Draw) → Draws kept asked now before given after left → HasRoom before
room-of kept asked now _ _ _ _ (Gives before after given left room is) = room
room-of kept asked now _ _ _ _ (Reserves before between after name upto same given left room wants is) = room

-- a value takes one identifier at most
one-more : (kept : List Draw) (now : ℕ) (before : Opening) (given : Draw) (after : Opening) (left : List Draw) → Takes kept now before given after left → after.identifiers ≤ before.identifiers + 1
one-more kept now before given after left (TakesKept found same rest) = let is = ap (λ (o : Opening). o.identifiers) same in omega (arith, is)
one-more kept now before given after left (TakesTick none is_tick same rest) = let is = ap (λ (o : Opening). o.identifiers) same in omega (arith, is)
one-more kept now before given after left (TakesName none is_name same rest) = let is = ap (λ (o : Opening). o.identifiers) same in omega (arith, is)
one-more kept now before given after left (TakesNext sequence none there is_next incarnation identifiers each rest) = omega (arith, identifiers)

one-few : (kept : List Draw) (now : ℕ) (before : Opening) (given : Draw) (after : Opening) (left : List Draw) → Draws kept (kind_drawn given) now before given after left → Few after.identifiers
one-few kept now before given after left drew =
    let room = (room-of kept (kind_drawn given) now before given after left drew).identifiers in
    let more = one-more kept now before given after left (takes kept given now before after left drew) in
    omega (arith, room, more)

all-few : (now : ℕ) (draws : List Draw) (before : Opening) (kept : List Draw) (after : Opening) (left : List Draw) → DrawsAll now before kept draws after left → Few before.identifiers → Few after.identifiers
all-few now [] before kept after left drew few = subst (λ (o : Opening). Few o.identifiers) (sym drew.0) few
all-few now (given ∷ more) before kept after left drew few = all-few now more drew.0 drew.1 after left drew.2.1 (one-few kept now before given drew.0 drew.1 drew.2.0)

halt-few : (now : ℕ) (kept : List Draw) (asked : DrawKind) (before after : Opening) → HaltsAt now kept asked before after → Few before.identifiers → Few after.identifiers
halt-few now kept asked before _ (BlockLost name upto is) few = few
halt-few now kept asked before _ (BlockStands name upto is) few = few

-- ---- frames

same-few : (core after : Core) → after.opening ≡ core.opening → Few core.opening.identifiers → Few after.opening.identifiers
same-few core after same few = subst (λ (o : Opening). Few o.identifiers) (sym same) few

commits-few : (core : Core) (sess : Sess) (replay : Bool) (called : Call) (answers : List Answer) (draws : List Draw) (after : Core) (t : Sess) (told : Telling) → Commits core sess replay called answers draws after t told → Few core.opening.identifiers → Few after.opening.identifiers
commits-few core sess replay called answers draws _ _ _ (InReplay marked) few = few
commits-few core sess replay called answers draws _ _ _ (Blocks unmarked blocked) few = few
commits-few core sess replay called answers draws _ _ _ (Conflicts unmarked free differs) few = few
commits-few core sess replay called answers draws _ _ _ (Stores may) few = few
commits-few core sess replay called answers draws _ _ _ (StopsBefore may) few = few
commits-few core sess replay called answers draws _ _ _ (StopsAfter may) few = few

works-few : (core : Core) (sess : Sess) (replay : Bool) (kept : List Draw) (called : Call) (now : ℕ) (after : Core) (t : Sess) (told : Telling) → Works core sess replay kept called now after t told → Few core.opening.identifiers → Few after.opening.identifiers
works-few core sess replay kept called now _ _ _ (AnswersCall opening draws left meant drew means ends) few = all-few now draws core.opening _ opening left drew few
works-few core sess replay kept called now _ _ _ (Reaches opening draws left meant after t told drew means ends commits) few =
    commits-few (with_opening core opening) _ replay called meant.answers draws after t told commits (all-few now draws core.opening _ opening left drew few)
works-few core sess replay kept called now _ _ _ (HaltsInDraw between opening draws next more left meant drew means halts) few =
    halt-few now left (kind_drawn next) between opening halts (all-few now draws core.opening _ between left drew few)

calls-few : (core : Core) (sess : Sess) (replay : Bool) (kept : List Draw) (now : ℕ) (called : Call) (after : Core) (t : Sess) (told : Telling) → Calls core sess replay kept now called after t told → Few core.opening.identifiers → Few after.opening.identifiers
calls-few core sess replay kept now _ _ _ _ (IsWork statements commit after t told works) few = works-few core sess replay kept _ now after t told works few
calls-few core sess replay kept now _ _ _ _ (IsSet name value) few = few
calls-few core sess replay kept now _ _ _ _ (IsAlter line unmarked) few = few
calls-few core sess replay kept now _ _ _ _ (AlterStops line after unmarked (inl same)) few = same-few core after (ap (λ (c : Core). c.opening) same) few
calls-few core sess replay kept now _ _ _ _ (AlterStops line after unmarked (inr same)) few = same-few core after (ap (λ (c : Core). c.opening) same) few
calls-few core sess replay kept now _ _ _ _ (AlterMarked line marked) few = few
calls-few core sess replay kept now _ _ _ _ IsDisable few = few
calls-few core sess replay kept now _ _ _ _ IsRollback few = few

serve-few : (core : Core) (sess : Sess) (now : ℕ) (frame : Up) (after : Core) (t : Sess) (told : Telling) → Serve core sess now frame after t told → Few core.opening.identifiers → Few after.opening.identifiers
serve-few core sess now _ _ _ _ (Connects life) few = few
serve-few core sess now _ _ _ _ (Begins settings serving) few = few
serve-few core sess now _ _ _ _ (Ends serving) few = few
serve-few core sess now _ _ _ _ (Closes serving) few = few
serve-few core sess now _ _ _ _ (Asks x after told serving asked) few = same-few core after (outcomes_stay core x after told asked).1 few
serve-few core sess now _ _ _ _ (Serves replay kept called after t told begun calls) few = calls-few core sess replay kept now called after t told calls few
serve-few core sess now _ _ _ _ (Refuses frame out) few = few

-- ---- moves

-- the numbers of an opening
pub record Spelled (opening : Opening) : Type 0 where
  pub incarnation : opening.incarnation < 2 ^ 64
  pub few : Few opening.identifiers

same-spelled : (opening after : Opening) → after ≡ opening → Spelled opening → Spelled after
same-spelled opening after same spelled = subst Spelled (sym same) spelled

opened-spelled : (opening : Opening) → opening.incarnation + 1 < 2 ^ 64 → Spelled (opening_after opening (opening.incarnation + 1))
opened-spelled opening next = record { incarnation = next; few = omega arith }

turned-spelled : (server after : Server) (old new : Sess) (core : Core) (power : Power) → Turns server after old new core power → Spelled core.opening → Spelled after.core.opening
turned-spelled server after old new core power turns spelled = subst (λ (s : Server). Spelled s.core.opening) (sym turns.turned) spelled

serve-spelled : (core : Core) (sess : Sess) (now : ℕ) (frame : Up) (after : Core) (t : Sess) (told : Telling) → Serve core sess now frame after t told → Spelled core.opening → Spelled after.opening
serve-spelled core sess now frame after t told serve spelled = record {
  incarnation = subst (λ n. n < 2 ^ 64) (sym (serve_stays core sess now frame after t told serve).incarnation) spelled.incarnation;
  few = serve-few core sess now frame after t told serve spelled.few;
}

pub moves-spelled : (server after : Server) (more : List Happened) → Moves server more after → Spelled server.core.opening → Spelled after.core.opening
moves-spelled server _ _ (Makes on) spelled = spelled
moves-spelled server _ _ (Answers old new now frame core told after on serve answered turns) spelled = turned-spelled server after old new core _ turns (serve-spelled server.core old now frame core new told serve spelled)
moves-spelled server _ _ (Halts old new now frame core told after running serve turns) spelled = turned-spelled server after old new core _ turns (serve-spelled server.core old now frame core new told serve spelled)
moves-spelled server _ _ (Loses old now frame after halted turns) spelled = turned-spelled server after old (ended old) server.core _ turns spelled
moves-spelled server _ _ (AnswersAsk x core frame on asks) spelled = same-spelled server.core.opening core.opening (outcomes_stay server.core x core _ asks).1 spelled
moves-spelled server _ _ (HaltsInAsk x core told running asks) spelled = same-spelled server.core.opening core.opening (outcomes_stay server.core x core told asks).1 spelled
moves-spelled server _ _ (Reaps front back sess split) spelled = spelled
moves-spelled server _ _ Falls spelled = spelled
moves-spelled server _ _ (Opens below off may) spelled = opened-spelled server.core.opening may.spelled
moves-spelled server _ _ (StopsOpening below core off may (inl same)) spelled = same-spelled server.core.opening core.opening (ap (λ (c : Core). c.opening) same) spelled
moves-spelled server _ _ (StopsOpening below core off may (inr (inl same))) spelled = same-spelled server.core.opening core.opening (ap (λ (c : Core). c.opening) same) spelled
moves-spelled server _ _ (StopsOpening below core off may (inr (inr same))) spelled =
    same-spelled (opening_after server.core.opening (server.core.opening.incarnation + 1)) core.opening (ap (λ (c : Core). c.opening) same) (opened-spelled server.core.opening may.spelled)

-- Each run keeps them.
pub runs-spelled : (base : Base) (history : List Happened) (server : Server) → IsSound base → Runs base history server → Spelled server.core.opening
runs-spelled base _ _ sound Start = record { incarnation = sound.spelled; few = omega arith }
runs-spelled base _ _ sound (Then history more server after runs moves) = moves-spelled server after more moves (runs-spelled base history server sound runs)
