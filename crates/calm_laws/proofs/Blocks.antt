-- A service that is asked for no outcome blocks nothing, so what meets a block met one of the time
-- before it was made.
use Rattle.std.proofs.Common.{◌≡◌, refl, sym, ap, ap₂, ◌∙◌, append-nil, Bool, true, false, ℕ, ◌&&◌, List, [], ◌∷◌, ◌++◌, inl, inr}
use Rattle.std.specs.List.{list_all}
use Rattle.std.proofs.lemmas.Bool.{and_parts, and_from}
use Rattle.std.proofs.lemmas.List.Folds.{list_all-append}
use Rattle.svc_values.specs.declared.answer.Answer.{Answer}
use Rattle.svc_values.specs.declared.call.Call.{Call}
use Rattle.svc_values.specs.declared.draw.Draw.{Draw}
use Rattle.svc_values.specs.declared.entry.Ltxid.{Ltxid}
use Rattle.svc_values.specs.declared.entry.SessionId.{SessionId}
use Rattle.svc_values.specs.declared.frame.Up.{Up}
use Rattle.svc_values.specs.declared.frame.Down.{Down}
use Rattle.svc_values.specs.declared.frame.Down.TheVariants as down
use Rattle.svc_values.specs.meaning.Identifiers.{session_of}
use Rattle.ltxid_book.specs.meaning.Journal.{is_blocked}
use Rattle.server_model.specs.meaning.Base.{Base}
use Rattle.server_model.specs.Core.{Core, committed, all_blocked}
use Rattle.server_model.specs.Laws.{RunsLast}
use Rattle.server_model.specs.meaning.Outcomes.{Telling, Says}
use Rattle.server_model.specs.Runs.{Happened, Served, Asked, Server, Moves, Makes, Answers, Halts, Loses, AnswersAsk, HaltsInAsk, Reaps, Falls, Opens, StopsOpening, Runs, Start, Then}
use Rattle.server_model.specs.Serve.{with_opening, Commits, InReplay, Blocks, Conflicts, Stores, StopsBefore, StopsAfter, Works, Answers as AnswersCall, Reaches, HaltsInDraw, Calls, IsWork, IsSet, IsAlter, AlterStops, AlterMarked, IsDisable, IsRollback, Serve, Connects, Begins, Ends, Closes, Asks, Runs as Serves, Refuses}
use Rattle.server_model.specs.Sessions.{Sess, with_work}
use Rattle.calm_laws.proofs.Talks.{asks_none}

-- WHAT IS BLOCKED ---------------------------------------------------------------------------------

-- the base is the same, and so is what was blocked
record SameBlocks (core after : Core) : Type 0 where
  base : after.base ≡ core.base
  blocked : after.blocked ≡ core.blocked

same_blocks : (core : Core) → SameBlocks core core
same_blocks core = record { base = refl; blocked = refl }

core_blocks : (core after : Core) → after ≡ core → SameBlocks core after
core_blocks core after same = record { base = ap (λ (one : Core). one.base) same; blocked = ap (λ (one : Core). one.blocked) same }

commits_keep : (core : Core) (sess : Sess) (replay : Bool) (called : Call) (answers : List Answer) (draws : List Draw) (after : Core) (t : Sess) (told : Telling) → Commits core sess replay called answers draws after t told → SameBlocks core after
commits_keep core sess replay called answers draws _ _ _ (InReplay marked) = same_blocks core
commits_keep core sess replay called answers draws _ _ _ (Blocks unmarked blocked) = same_blocks core
commits_keep core sess replay called answers draws _ _ _ (Conflicts unmarked free differs) = same_blocks core
commits_keep core sess replay called answers draws _ _ _ (Stores may) = record { base = refl; blocked = refl }
commits_keep core sess replay called answers draws _ _ _ (StopsBefore may) = same_blocks core
commits_keep core sess replay called answers draws _ _ _ (StopsAfter may) = record { base = refl; blocked = refl }

works_keep : (core : Core) (sess : Sess) (replay : Bool) (kept : List Draw) (called : Call) (now : ℕ) (after : Core) (t : Sess) (told : Telling) → Works core sess replay kept called now after t told → SameBlocks core after
works_keep core sess replay kept called now _ _ _ (AnswersCall opening draws left meant drew means none) = record { base = refl; blocked = refl }
works_keep core sess replay kept called now _ _ _ (Reaches opening draws left meant after t told drew means ends commits) =
    let kept = commits_keep (with_opening core opening) (with_work sess (committed core) meant) replay called meant.answers draws after t told commits in record { base = kept.base; blocked = kept.blocked }
works_keep core sess replay kept called now _ _ _ (HaltsInDraw between opening draws next more left meant drew means halts) = record { base = refl; blocked = refl }

calls_keep : (core : Core) (sess : Sess) (replay : Bool) (kept : List Draw) (now : ℕ) (called : Call) (after : Core) (t : Sess) (told : Telling) → Calls core sess replay kept now called after t told → SameBlocks core after
calls_keep core sess replay kept now _ _ _ _ (IsWork statements commit after t told works) = works_keep core sess replay kept _ now after t told works
calls_keep core sess replay kept now _ _ _ _ (IsSet name value) = same_blocks core
calls_keep core sess replay kept now _ _ _ _ (IsAlter line unmarked) = record { base = refl; blocked = refl }
calls_keep core sess replay kept now _ _ _ _ (AlterStops line after unmarked (inl same)) = core_blocks core after same
calls_keep core sess replay kept now _ _ _ _ (AlterStops line after unmarked (inr same)) = record { base = ap (λ (one : Core). one.base) same; blocked = ap (λ (one : Core). one.blocked) same }
calls_keep core sess replay kept now _ _ _ _ (AlterMarked line marked) = same_blocks core
calls_keep core sess replay kept now _ _ _ _ IsDisable = same_blocks core
calls_keep core sess replay kept now _ _ _ _ IsRollback = same_blocks core

serve_keeps : (core : Core) (sess : Sess) (now : ℕ) (frame : Up) (after : Core) (t : Sess) (told : Telling) → Serve core sess now frame after t told → asks_none frame ≡ true → SameBlocks core after
serve_keeps core sess now _ _ _ _ (Connects life) quiet = same_blocks core
serve_keeps core sess now _ _ _ _ (Begins settings serving) quiet = same_blocks core
serve_keeps core sess now _ _ _ _ (Ends serving) quiet = same_blocks core
serve_keeps core sess now _ _ _ _ (Closes serving) quiet = same_blocks core
serve_keeps core sess now _ _ _ _ (Asks x after told serving asked) quiet = absurd (let none : ⊥ = cc in none)
serve_keeps core sess now _ _ _ _ (Serves replay kept called after t told begun calls) quiet = calls_keep core sess replay kept now called after t told calls
serve_keeps core sess now _ _ _ _ (Refuses frame out) quiet = same_blocks core

-- no outcome was asked for, neither by a frame nor from outside
abbrev pub is_quiet : Happened → Bool
is_quiet (Served session now frame told) = asks_none frame
is_quiet (Asked x told) = false

turned_blocks : (before core : Core) (after : Server) → after.core ≡ core → SameBlocks before core → SameBlocks before after.core
turned_blocks before core after is same = record { base = ap (λ (one : Core). one.base) is ∙ same.base; blocked = ap (λ (one : Core). one.blocked) is ∙ same.blocked }

first_quiet : (frame : Up) → (asks_none frame && true) ≡ true → asks_none frame ≡ true
first_quiet frame quiet = (and_parts (asks_none frame) true quiet).0

moves_keep : (server after : Server) (more : List Happened) → Moves server more after → list_all is_quiet more ≡ true → SameBlocks server.core after.core
moves_keep server _ _ (Makes on) quiet = same_blocks server.core
moves_keep server _ _ (Answers old new now frame core told after on serve answered turns) quiet =
    turned_blocks server.core core after (ap (λ (one : Server). one.core) turns.turned) (serve_keeps server.core old now frame core new told serve (first_quiet frame quiet))
moves_keep server _ _ (Halts old new now frame core told after running serve turns) quiet =
    turned_blocks server.core core after (ap (λ (one : Server). one.core) turns.turned) (serve_keeps server.core old now frame core new told serve (first_quiet frame quiet))
moves_keep server _ _ (Loses old now frame after halted turns) quiet = core_blocks server.core after.core (ap (λ (one : Server). one.core) turns.turned)
moves_keep server _ _ (AnswersAsk x core frame on asks) quiet = absurd (let none : ⊥ = cc in none)
moves_keep server _ _ (HaltsInAsk x core told running asks) quiet = absurd (let none : ⊥ = cc in none)
moves_keep server _ _ (Reaps front back sess split) quiet = same_blocks server.core
moves_keep server _ _ Falls quiet = same_blocks server.core
moves_keep server _ _ (Opens below off may) quiet = record { base = refl; blocked = refl }
moves_keep server _ _ (StopsOpening below core off may (inl same)) quiet = core_blocks server.core core same
moves_keep server _ _ (StopsOpening below core off may (inr (inl same))) quiet = record { base = ap (λ (one : Core). one.base) same; blocked = ap (λ (one : Core). one.blocked) same }
moves_keep server _ _ (StopsOpening below core off may (inr (inr same))) quiet = record { base = ap (λ (one : Core). one.base) same; blocked = ap (λ (one : Core). one.blocked) same }

-- a server that blocked nothing since it was made
record BlocksNone (base : Base) (server : Server) : Type 0 where
  is_base : server.core.base ≡ base
  none : server.core.blocked ≡ []

runs_block_none : (base : Base) (history : List Happened) (server : Server) → Runs base history server → list_all is_quiet history ≡ true → BlocksNone base server
runs_block_none base _ _ Start quiet = record { is_base = refl; none = refl }
runs_block_none base _ _ (Then history more server after runs moves) quiet =
    let parts = and_parts (list_all is_quiet history) (list_all is_quiet more) (sym (list_all-append is_quiet history more) ∙ quiet) in
    let so = runs_block_none base history server runs parts.0 in
    let kept = moves_keep server after more moves parts.1 in
    record { is_base = kept.base ∙ so.is_base; none = kept.blocked ∙ so.none }

-- WHAT MET A BLOCK --------------------------------------------------------------------------------

abbrev MeetsIn : Core → Sess → Telling → Type 0
MeetsIn core sess (Says down.Blocked) = is_blocked (all_blocked core) sess.ltxid ≡ true
MeetsIn core sess told = Unit {0}

commits_meet : (core : Core) (sess : Sess) (replay : Bool) (called : Call) (answers : List Answer) (draws : List Draw) (after : Core) (t : Sess) (told : Telling) → Commits core sess replay called answers draws after t told → MeetsIn core sess told
commits_meet core sess replay called answers draws _ _ _ (InReplay marked) = tt
commits_meet core sess replay called answers draws _ _ _ (Blocks unmarked blocked) = blocked
commits_meet core sess replay called answers draws _ _ _ (Conflicts unmarked free differs) = tt
commits_meet core sess replay called answers draws _ _ _ (Stores may) = tt
commits_meet core sess replay called answers draws _ _ _ (StopsBefore may) = tt
commits_meet core sess replay called answers draws _ _ _ (StopsAfter may) = tt

-- drawn values and what a call read leave the blocks and the identifier
same_meeting : (core between : Core) (sess worked : Sess) (told : Telling) → all_blocked between ≡ all_blocked core → worked.ltxid ≡ sess.ltxid → MeetsIn between worked told → MeetsIn core sess told
same_meeting core between sess worked (Says down.Blocked) blocks same meets = sym (ap₂ is_blocked blocks same) ∙ meets
same_meeting core between sess worked (Says frame) blocks same meets = others frame meets
  where
    others : (frame : Down) → MeetsIn between worked (Says frame) → MeetsIn core sess (Says frame)
    others down.Blocked meets = sym (ap₂ is_blocked blocks same) ∙ meets
    others frame meets = tt
same_meeting core between sess worked told blocks same meets = tt

works_meet : (core : Core) (sess : Sess) (replay : Bool) (kept : List Draw) (called : Call) (now : ℕ) (after : Core) (t : Sess) (told : Telling) → Works core sess replay kept called now after t told → MeetsIn core sess told
works_meet core sess replay kept called now _ _ _ (AnswersCall opening draws left meant drew means none) = tt
works_meet core sess replay kept called now _ _ _ (Reaches opening draws left meant after t told drew means ends commits) =
    same_meeting core (with_opening core opening) sess (with_work sess (committed core) meant) told refl refl (commits_meet (with_opening core opening) (with_work sess (committed core) meant) replay called meant.answers draws after t told commits)
works_meet core sess replay kept called now _ _ _ (HaltsInDraw between opening draws next more left meant drew means halts) = tt

calls_meet : (core : Core) (sess : Sess) (replay : Bool) (kept : List Draw) (now : ℕ) (called : Call) (after : Core) (t : Sess) (told : Telling) → Calls core sess replay kept now called after t told → MeetsIn core sess told
calls_meet core sess replay kept now _ _ _ _ (IsWork statements commit after t told works) = works_meet core sess replay kept _ now after t told works
calls_meet core sess replay kept now _ _ _ _ (IsSet name value) = tt
calls_meet core sess replay kept now _ _ _ _ (IsAlter line unmarked) = tt
calls_meet core sess replay kept now _ _ _ _ (AlterStops line after unmarked same) = tt
calls_meet core sess replay kept now _ _ _ _ (AlterMarked line marked) = tt
calls_meet core sess replay kept now _ _ _ _ IsDisable = tt
calls_meet core sess replay kept now _ _ _ _ IsRollback = tt

serve_meets : (core : Core) (sess : Sess) (now : ℕ) (frame : Up) (after : Core) (t : Sess) (told : Telling) → Serve core sess now frame after t told → asks_none frame ≡ true → MeetsIn core sess told
serve_meets core sess now _ _ _ _ (Connects life) quiet = tt
serve_meets core sess now _ _ _ _ (Begins settings serving) quiet = tt
serve_meets core sess now _ _ _ _ (Ends serving) quiet = tt
serve_meets core sess now _ _ _ _ (Closes serving) quiet = tt
serve_meets core sess now _ _ _ _ (Asks x after told serving asked) quiet = absurd (let none : ⊥ = cc in none)
serve_meets core sess now _ _ _ _ (Serves replay kept called after t told begun calls) quiet = calls_meet core sess replay kept now called after t told calls
serve_meets core sess now _ _ _ _ (Refuses frame out) quiet = tt

-- the session's own identifier stands among these blocks
pub record MeetsBlock (blocks : List Ltxid) (session : SessionId) : Type 0 where
  pub x : Ltxid
  pub own : session_of x ≡ session
  pub stands : is_blocked blocks x ≡ true

abbrev Meets : Core → List Happened → Type 0
Meets core (Served session now frame (Says down.Blocked) ∷ []) = MeetsBlock (all_blocked core) session
Meets core more = Unit {0}

moves_meet : (server after : Server) (more : List Happened) → Moves server more after → list_all is_quiet more ≡ true → Meets server.core more
moves_meet server _ _ (Makes on) quiet = tt
moves_meet server _ _ (Answers old new now frame core told after on serve answered turns) quiet = by told (serve_meets server.core old now frame core new told serve (first_quiet frame quiet))
  where
    said : (reply : Down) → MeetsIn server.core old (Says reply) → Meets server.core (Served (session_of old.ltxid) now frame (Says reply) ∷ [])
    said down.Blocked meets = record { x = old.ltxid; own = refl; stands = meets }
    said reply meets = tt

    by : (told : Telling) → MeetsIn server.core old told → Meets server.core (Served (session_of old.ltxid) now frame told ∷ [])
    by (Says reply) meets = said reply meets
    by told meets = tt
moves_meet server _ _ (Halts old new now frame core told after running serve turns) quiet = tt
moves_meet server _ _ (Loses old now frame after halted turns) quiet = tt
moves_meet server _ _ (AnswersAsk x core frame on asks) quiet = tt
moves_meet server _ _ (HaltsInAsk x core told running asks) quiet = tt
moves_meet server _ _ (Reaps front back sess split) quiet = tt
moves_meet server _ _ Falls quiet = tt
moves_meet server _ _ (Opens below off may) quiet = tt
moves_meet server _ _ (StopsOpening below core off may same) quiet = tt

-- A session that is told of a block was blocked before the service was made, where no outcome was
-- asked for since.
pub met_before : RunsLast → (base : Base) (history : List Happened) (server : Server) (session : SessionId) (now : ℕ) (frame : Up) → Runs base (history ++ Served session now frame (Says down.Blocked) ∷ []) server
    → list_all is_quiet history ≡ true → asks_none frame ≡ true → MeetsBlock base.blocked session
met_before last base history server session now frame runs quiet plain =
    let one = last base history (Served session now frame (Says down.Blocked)) server runs in
    let so = runs_block_none base history one.before one.runs quiet in
    let meets : MeetsBlock (all_blocked one.before.core) session = moves_meet one.before one.behind (Served session now frame (Says down.Blocked) ∷ []) one.moves (and_from (asks_none frame) true plain refl) in
    let blocks : all_blocked one.before.core ≡ base.blocked = ap₂ (λ (a b : List Ltxid). a ++ b) (ap (λ (one : Base). one.blocked) so.is_base) so.none ∙ append-nil base.blocked in
    record { x = meets.x; own = meets.own; stands = ap (λ (all : List Ltxid). is_blocked all meets.x) (sym blocks) ∙ meets.stands }
