-- A session answers Blocked only to a call without the mark, so no call with the mark met a block
-- on a connection.
use Rattle.std.proofs.Common.{◌≡◌, refl, sym, ap, subst, ◌∙◌, Bool, true, false, ℕ, suc, ◌&&◌, ◌||◌, List, [], ◌∷◌, map, Option, Some, None, ◌⊎◌, inl, inr, if◌then◌else◌}
use Rattle.std.specs.Prelude.{◌==◌, not, is_some, is_none, length, slice_get}
use Rattle.std.specs.List.{list_all}
use Rattle.std.specs.Option.{option_map_or}
use Rattle.std.proofs.lemmas.Bool.{and_parts, and_from, or_cases}
use Rattle.std.proofs.lemmas.List.{nil_from_length}
use Rattle.std.proofs.lemmas.List.Folds.{list_all-append}
use Rattle.svc_values.specs.declared.answer.Answer.{Answer}
use Rattle.svc_values.specs.declared.call.Call.{Call}
use Rattle.svc_values.specs.declared.draw.Draw.{Draw}
use Rattle.svc_values.specs.declared.entry.SessionId.{SessionId}
use Rattle.svc_values.specs.declared.frame.Down.{Down}
use Rattle.svc_values.specs.declared.frame.Down.TheVariants as down
use Rattle.svc_values.specs.declared.frame.Up.{Up}
use Rattle.svc_values.specs.declared.frame.Up.TheVariants as up
use Rattle.svc_values.specs.meaning.Identifiers.{same_session, session_of}
use Rattle.svc_values.specs.meaning.Same.{same_bool}
use Rattle.outage_schedule.specs.declared.item.Item.{Item}
use Rattle.outage_schedule.specs.declared.item.Item.TheVariants as item
use Rattle.server_model.specs.meaning.Base.{Base}
use Rattle.server_model.specs.Core.{Core}
use Rattle.server_model.specs.meaning.Outcomes.{Telling, Says, Stopped, telling_of}
use Rattle.server_model.specs.Runs.{Happened, Served, Asked, Server, Moves, Makes, Answers, Halts, Loses, AnswersAsk, HaltsInAsk, Reaps, Falls, Opens, StopsOpening, Runs, Start, Then}
use Rattle.server_model.specs.Serve.{Commits, InReplay, Blocks, Conflicts, Stores, StopsBefore, StopsAfter, Works, Answers as AnswersCall, Reaches, HaltsInDraw, Calls, IsWork, IsSet, IsAlter, AlterStops, AlterMarked, IsDisable, IsRollback, Serve, Connects, Begins, Ends, Closes, Asks, Runs as Serves, Refuses}
use Rattle.server_model.specs.Sessions.{Sess}
use Rattle.world_model.specs.records.Basic.{first_is_connect, is_named}
use Rattle.world_model.specs.Coupled.{Coupled}
use Rattle.world_model.specs.meaning.Crashing.{is_crashed_item}
use Rattle.world_model.specs.meaning.Frames.{Handled}
use Rattle.invariant_laws.specs.Invariant.{Invariant}
use Rattle.invariant_laws.specs.KeptLaws.{RunsKeepInvariant}
use Rattle.world_model.specs.meaning.Links.{Link}
use Rattle.world_model.specs.Parts.{implies}
use Rattle.invariant_laws.specs.SameLaws.{HoldsAtEnds, HoldsInRuns, RunsServe}
use Rattle.world_model.specs.meaning.Serving.{is_blocked, is_item_of, reply_of}
use Rattle.invariant_laws.specs.SessionHistory.{served_in, told_with, told_of}
use Rattle.invariant_laws.specs.Shown.{is_marked}
use Rattle.world_model.specs.records.Wire.{is_handled, counted_with, handled_from, same_replies}
use Rattle.shown_laws.specs.ServedSent.{none_blocked}
use Rattle.shown_laws.specs.Unblocked.{serves_unblocked, serve_unblocked}
use Rattle.shown_laws.proofs.events.FinishesReached.{finishing_reached, reached_coupled}
use Rattle.shown_laws.proofs.events.Lookups.{eq_from}
use Rattle.shown_laws.proofs.links.SessionsApart.{at_link}

-- ONE FRAME ---------------------------------------------------------------------------------------

abbrev tells_block : Telling → Bool
tells_block (Says down.Blocked) = true
tells_block _ = false

abbrev is_plain : Up → Telling → Bool
is_plain frame told = not (is_marked frame && tells_block told)

commits_none : (core : Core) (sess : Sess) (called : Call) (answers : List Answer) (draws : List Draw) (after : Core) (t : Sess) (told : Telling) → Commits core sess true called answers draws after t told → tells_block told ≡ false
commits_none core sess called answers draws _ _ _ (InReplay marked) = refl
commits_none core sess called answers draws _ _ _ (Blocks unmarked blocked) = absurd (let marked : false ≡ true = unmarked in let none : ⊥ = cc in none)
commits_none core sess called answers draws _ _ _ (Conflicts unmarked free differs) = refl
commits_none core sess called answers draws _ _ _ (Stores may) = refl
commits_none core sess called answers draws _ _ _ (StopsBefore may) = refl
commits_none core sess called answers draws _ _ _ (StopsAfter may) = refl

works_none : (core : Core) (sess : Sess) (kept : List Draw) (called : Call) (now : ℕ) (after : Core) (t : Sess) (told : Telling) → Works core sess true kept called now after t told → tells_block told ≡ false
works_none core sess kept called now _ _ _ (AnswersCall opening draws left meant drew means none) = refl
works_none core sess kept called now _ _ _ (Reaches opening draws left meant after t told drew means ends commits) = commits_none _ _ called meant.answers draws after t told commits
works_none core sess kept called now _ _ _ (HaltsInDraw between opening draws next more left meant drew means halts) = refl

calls_none : (core : Core) (sess : Sess) (kept : List Draw) (now : ℕ) (called : Call) (after : Core) (t : Sess) (told : Telling) → Calls core sess true kept now called after t told → tells_block told ≡ false
calls_none core sess kept now _ _ _ _ (IsWork statements commit after t told works) = works_none core sess kept _ now after t told works
calls_none core sess kept now _ _ _ _ (IsSet name value) = refl
calls_none core sess kept now _ _ _ _ (IsAlter line unmarked) = refl
calls_none core sess kept now _ _ _ _ (AlterStops line after unmarked same) = refl
calls_none core sess kept now _ _ _ _ (AlterMarked line marked) = refl
calls_none core sess kept now _ _ _ _ IsDisable = refl
calls_none core sess kept now _ _ _ _ IsRollback = refl

call_plain : (core : Core) (sess : Sess) (replay : Bool) (kept : List Draw) (now : ℕ) (called : Call) (after : Core) (t : Sess) (told : Telling) → Calls core sess replay kept now called after t told → is_plain (up.Call replay kept called) told ≡ true
call_plain core sess true kept now called after t told calls = ap not (calls_none core sess kept now called after t told calls)
call_plain core sess false kept now called after t told calls = refl

untold_plain : (frame : Up) (told : Telling) → tells_block told ≡ false → is_plain frame told ≡ true
untold_plain frame told none = by (is_marked frame)
  where
    by : (marked : Bool) → not (marked && tells_block told) ≡ true
    by true = ap not none
    by false = refl

serve_plain : (core : Core) (sess : Sess) (now : ℕ) (frame : Up) (after : Core) (t : Sess) (told : Telling) → Serve core sess now frame after t told → is_plain frame told ≡ true
serve_plain core sess now _ _ _ _ (Connects life) = refl
serve_plain core sess now _ _ _ _ (Begins settings serving) = refl
serve_plain core sess now _ _ _ _ (Ends serving) = refl
serve_plain core sess now _ _ _ _ (Closes serving) = refl
serve_plain core sess now _ _ _ _ (Asks x after told serving asked) = refl
serve_plain core sess now _ _ _ _ (Serves replay kept called after t told begun calls) = call_plain core sess replay kept now called after t told calls
serve_plain core sess now _ _ _ _ (Refuses frame out) = untold_plain frame (Says (down.Refused 2)) refl

-- HISTORIES ---------------------------------------------------------------------------------------

abbrev plain : Happened → Bool
plain (Served session now frame told) = is_plain frame told
plain (Asked x told) = true

one_plain : (frame : Up) (told : Telling) → is_plain frame told ≡ true → (is_plain frame told && true) ≡ true
one_plain frame told is = and_from (is_plain frame told) true is refl

moves_plain : (server after : Server) (more : List Happened) → Moves server more after → list_all plain more ≡ true
moves_plain server _ _ (Makes on) = refl
moves_plain server _ _ (Answers old new now frame core told after on serve answered turns) = one_plain frame told (serve_plain server.core old now frame core new told serve)
moves_plain server _ _ (Halts old new now frame core told after running serve turns) = one_plain frame Stopped (untold_plain frame Stopped refl)
moves_plain server _ _ (Loses old now frame after halted turns) = one_plain frame Stopped (untold_plain frame Stopped refl)
moves_plain server _ _ (AnswersAsk x core frame on asks) = refl
moves_plain server _ _ (HaltsInAsk x core told running asks) = refl
moves_plain server _ _ (Reaps front back sess split) = refl
moves_plain server _ _ Falls = refl
moves_plain server _ _ (Opens below off may) = refl
moves_plain server _ _ (StopsOpening below core off may same) = refl

history_plain : (base : Base) (history : List Happened) (server : Server) → Runs base history server → list_all plain history ≡ true
history_plain base _ _ Start = refl
history_plain base _ _ (Then history more server after runs moves) =
    list_all-append plain history more ∙ and_from (list_all plain history) (list_all plain more) (history_plain base history server runs) (moves_plain server after more moves)

-- what it has of one session
abbrev pair_plain : Up × Telling → Bool
pair_plain pair = is_plain pair.0 pair.1

session_plain : (history : List Happened) (session : SessionId) → list_all plain history ≡ true → list_all pair_plain (served_in history session) ≡ true
session_plain [] session all = refl
session_plain (Asked x told ∷ history) session all = session_plain history session all
session_plain (Served other now frame told ∷ history) session all = by (same_session other session) (session_plain history session parts.1)
  where
    parts : (is_plain frame told ≡ true) × (list_all plain history ≡ true)
    parts = and_parts (is_plain frame told) (list_all plain history) all

    by : (test : Bool) → list_all pair_plain (served_in history session) ≡ true → list_all pair_plain (if test then (frame, told) ∷ served_in history session else served_in history session) ≡ true
    by true rest = and_from (is_plain frame told) (list_all pair_plain (served_in history session)) parts.0 rest
    by false rest = rest

-- CONNECTIONS -------------------------------------------------------------------------------------

crashed_not : {A : Type 0} (frame : Up) (called : Call) → is_crashed_item frame (item.Blocked called) ≡ true → A
crashed_not (up.Call replay kept sent) called is = absurd (let none : ⊥ = cc in none)
crashed_not (up.Outcome x) called is = absurd (let none : ⊥ = cc in none)
crashed_not frame called is = absurd (let none : ⊥ = cc in none)

-- the item of a call that met a block, by what its reply tells
block_plain : (frame : Up) (reply : Option Down) → same_replies reply (Some down.Blocked) ≡ true → is_plain frame (telling_of reply) ≡ true → not (true && is_marked frame) ≡ true
block_plain frame (Some down.Blocked) same is = by (is_marked frame) is
  where
    by : (marked : Bool) → not (marked && true) ≡ true → not marked ≡ true
    by true is = is
    by false is = refl
block_plain frame None same is = absurd (let none : ⊥ = cc in none)
block_plain frame (Some reply) same is = absurd (let none : ⊥ = cc in none)

handled_plain : (commits : ℕ) (one : Handled) → is_handled commits one ≡ true → is_plain one.sent.frame (told_with one.served.item one.reply) ≡ true → not (is_blocked one.served.item && is_marked one.sent.frame) ≡ true
handled_plain commits one handled is = by one.served.item handled is
  where
    by : (it : Item) → ((is_item_of one.sent.frame it && same_replies one.reply (reply_of one.served.session commits it)) || (is_crashed_item one.sent.frame it && is_none one.reply)) ≡ true → is_plain one.sent.frame (told_with it one.reply) ≡ true
        → not (is_blocked it && is_marked one.sent.frame) ≡ true
    by (item.Blocked called) so is = cases (or_cases (is_item_of one.sent.frame (item.Blocked called) && same_replies one.reply (Some down.Blocked)) (is_crashed_item one.sent.frame (item.Blocked called) && is_none one.reply) so)
      where
        cases : ((is_item_of one.sent.frame (item.Blocked called) && same_replies one.reply (Some down.Blocked)) ≡ true) ⊎ ((is_crashed_item one.sent.frame (item.Blocked called) && is_none one.reply) ≡ true) → not (true && is_marked one.sent.frame) ≡ true
        cases (inl so) = block_plain one.sent.frame one.reply (and_parts (is_item_of one.sent.frame (item.Blocked called)) (same_replies one.reply (Some down.Blocked)) so).1 is
        cases (inr so) = crashed_not one.sent.frame called (and_parts (is_crashed_item one.sent.frame (item.Blocked called)) (is_none one.reply) so).0
    by it so is = refl

all_plain : (commits : ℕ) (served : List Handled) → handled_from commits served ≡ true → list_all pair_plain (map told_of served) ≡ true → none_blocked served ≡ true
all_plain commits [] handled is = refl
all_plain commits (one ∷ served) handled is =
    let now : ℕ = counted_with commits one.served.item in
    let parts = and_parts (is_handled now one) (handled_from now served) handled in
    let both = and_parts (is_plain one.sent.frame (told_with one.served.item one.reply)) (list_all pair_plain (map told_of served)) is in
    and_from (not (is_blocked one.served.item && is_marked one.sent.frame)) (none_blocked served) (handled_plain now one parts.0 both.0) (all_plain now served parts.1 both.1)

-- one without a session served nothing
unnamed_none : (link : Link) → is_named link ≡ true → link.session ≡ None → link.served ≡ []
unnamed_none link named none =
    let rest : Bool = list_all (λ h. option_map_or (same_session h.served.session) link.session false) link.served && option_map_or (λ x. option_map_or (same_session (session_of x)) link.session false) link.held true in
    let one = and_parts (same_bool (is_some link.session) (first_is_connect link.served)) (implies (is_none link.session) (length link.served == 0) && rest) named in
    let two = and_parts (implies (is_none link.session) (length link.served == 0)) rest one.1 in
    nil_from_length link.served (eq_from (length link.served) 0 (subst (λ (s : Option SessionId). implies (is_none s) (length link.served == 0) ≡ true) none two.0))

each_plain : (links : List Link) → ((index : ℕ) (link : Link) → slice_get links index ≡ Some link → serves_unblocked link ≡ true) → list_all serves_unblocked links ≡ true
each_plain [] each = refl
each_plain (link ∷ links) each = and_from (serves_unblocked link) (list_all serves_unblocked links) (each 0 link refl) (each_plain links (λ index one there. each (suc index) one there))

-- wherever a run has come to, and at its end
pub runs_unblocked : RunsKeepInvariant → RunsServe → HoldsInRuns serve_unblocked
runs_unblocked keeps serve document events notes items seen t calls reached = each_plain t.machine.links (λ index link there. by index link there link.session refl)
  where
    inv : Invariant t
    inv = keeps document events notes items seen t calls reached

    whole : list_all plain seen.history ≡ true
    whole = let coupled : Coupled seen t = reached_coupled document events notes items seen t reached in history_plain seen.start seen.history coupled.history.server coupled.history.runs

    by : (index : ℕ) (link : Link) → slice_get t.machine.links index ≡ Some link → (session : Option SessionId) → link.session ≡ session → serves_unblocked link ≡ true
    by index link there None is = ap none_blocked (unnamed_none link (at_link is_named t.machine.links (suc index) link inv.orderly.basic.named there) is)
    by index link there (Some session) is =
        all_plain 0 link.served (at_link (λ l. handled_from 0 l.served) t.machine.links (suc index) link inv.orderly.wire.handled there)
        (ap (list_all pair_plain) (sym (serve document events notes items seen t calls reached (suc index) link session there is)) ∙ session_plain seen.history session whole)

pub ends_unblocked : RunsKeepInvariant → RunsServe → HoldsAtEnds serve_unblocked
ends_unblocked keeps serve document notes items seen t calls run =
    let so = finishing_reached document run.place notes items seen t run.finishing in runs_unblocked keeps serve document so.0 notes items seen t calls so.1
