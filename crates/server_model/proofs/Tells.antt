-- What a frame is told is the right thing at that moment.
use Rattle.std.specs.Prelude.{◌≡◌, ◌⊎◌, ℕ, Bool, List, [], ◌∷◌, ◌++◌, map, Option, Some, None}
use Rattle.std.proofs.Common.{refl, inl, inr, sym, ◌∙◌, ap, subst, append-nil}
use Rattle.svc_values.specs.declared.draw.Draw.{Draw}
use Rattle.svc_values.specs.declared.call.Call.{Call}
use Rattle.svc_values.specs.declared.answer.Answer.{Answer}
use Rattle.svc_values.specs.declared.entry.Ltxid.{Ltxid}
use Rattle.svc_values.specs.declared.entry.Entry.{Entry}
use Rattle.svc_values.specs.declared.frame.Up.{Up}
use Rattle.svc_values.specs.declared.frame.Up.TheVariants as up
use Rattle.svc_values.specs.declared.frame.Down.{Down}
use Rattle.svc_values.specs.declared.frame.Down.TheVariants as down
use Rattle.ltxid_book.specs.meaning.Journal.{next_ltxid, committed_of}
use Rattle.ltxid_book.specs.declared.verdict.Verdict.{Verdict}
use Rattle.ltxid_book.specs.declared.verdict.Verdict.TheVariants as verdict
use Rattle.server_model.specs.meaning.Base.{Base}
use Rattle.server_model.specs.Core.{Core, all_entries, committed}
use Rattle.server_model.specs.Sessions.{Life, Begun, Ended, Sess, with_work}
use Rattle.svc_values.specs.declared.entry.SessionId.{SessionId}
use Rattle.svc_values.specs.meaning.Identifiers.{session_of}
use Rattle.server_model.specs.meaning.Outcomes.{Telling, Silent, Says, Stopped}
use Rattle.server_model.specs.Outcomes.{Outcomes, IsTold, BlockStops, down_of, verdict_on}
use Rattle.server_model.specs.Serve.{Commits, InReplay, Blocks, Conflicts, Stores, StopsBefore, StopsAfter, Works, Answers as AnswersCall, Reaches, HaltsInDraw, Calls, IsWork, IsSet, IsAlter, AlterStops, AlterMarked, IsDisable, IsRollback, Serve, Connects, Begins, Ends, Closes, Asks, Runs as Serves, Refuses, with_opening}
use Rattle.server_model.specs.Runs.{Happened, Served, Asked, Server, Moves, Makes, Answers, Halts, Loses, AnswersAsk, HaltsInAsk, Reaps, Falls, Opens, StopsOpening, Runs, Start, Then}
use Rattle.server_model.specs.Laws.{SameStore, LastOf, RunsLast, identifier_in, TellsNext, TellsOutcomes, TellsAsks}
use Rattle.server_model.proofs.Stays.{serve_stays}
use Rattle.server_model.proofs.Fronts.{AtMostOne, None1, Some1, moves_one, but_last, but_last-push}
use Rattle.server_model.proofs.Counts.{next-is}
use Rattle.server_model.proofs.Numbers.{Mine, AllMine, mine-at, Numbered}
use Rattle.server_model.proofs.NumberRuns.{runs_number, moves_number}

some-same : {A : Type 0} (a b : A) → Some a ≡ Some b → a ≡ b
some-same a b same = cc

none-some : {A B : Type 0} (a : A) → None ≡ Some a → B
none-some a same = let none : ⊥ = cc in absurd none

-- ---- one frame

pub record SaysRight (frame : Up) (told : Down) (core : Core) (t : Sess) : Type 0 where
  pub next : (x : Ltxid) → identifier_in told ≡ Some x → (t.ltxid ≡ x) × (t.life ≡ Ended → ⊥)
  pub outcome : (x : Ltxid) → frame ≡ up.Outcome x → (told ≡ down.Refused 2) ⊎ (told ≡ down_of (verdict_on core x))

abbrev pub IfSays : Up → Telling → Core → Sess → Type 0
IfSays frame Silent core t = Unit {0}
IfSays frame (Says told) core t = SaysRight frame told core t
IfSays frame Stopped core t = Unit {0}

-- an answer to a call: with an identifier, or with none
replied : (replay : Bool) (kept : List Draw) (called : Call) (answers : List Answer) (draws : List Draw) (core : Core) (t : Sess) (y : Ltxid) → t.ltxid ≡ y → (t.life ≡ Ended → ⊥) → SaysRight (up.Call replay kept called) (down.Reply answers draws y) core t
replied replay kept called answers draws core t y same alive = record { next = λ x is. (same ∙ some-same y x is, alive); outcome = λ x is. let none : ⊥ = cc in absurd none }

without : (frame : Up) (told : Down) (core : Core) (t : Sess) → identifier_in told ≡ None → ((x : Ltxid) → frame ≡ up.Outcome x → (told ≡ down.Refused 2) ⊎ (told ≡ down_of (verdict_on core x))) → SaysRight frame told core t
without frame told core t no_one outcome = record { next = λ x is. none-some x (sym no_one ∙ is); outcome = outcome }

no_outcome : {A : Type 0} (replay : Bool) (kept : List Draw) (called : Call) (x : Ltxid) → up.Call replay kept called ≡ up.Outcome x → A
no_outcome replay kept called x is = let none : ⊥ = cc in absurd none

commits_say : (core before : Core) (sess : Sess) (replay : Bool) (kept : List Draw) (called : Call) (answers : List Answer) (draws : List Draw) (after : Core) (t : Sess) (told : Telling) → (sess.life ≡ Ended → ⊥)
    → Commits before sess replay called answers draws after t told → IfSays (up.Call replay kept called) told core t
commits_say core before sess replay kept called answers draws _ _ _ alive (InReplay marked) = replied replay kept called _ draws core _ sess.ltxid refl alive
commits_say core before sess replay kept called answers draws _ _ _ alive (Blocks unmarked blocked) = without (up.Call replay kept called) down.Blocked core _ refl (λ x is. no_outcome replay kept called x is)
commits_say core before sess replay kept called answers draws _ _ _ alive (Conflicts unmarked free differs) = replied replay kept called _ draws core _ sess.ltxid refl alive
commits_say core before sess replay kept called answers draws _ _ _ alive (Stores may) = replied replay kept called answers draws core _ _ refl alive
commits_say core before sess replay kept called answers draws _ _ _ alive (StopsBefore may) = tt
commits_say core before sess replay kept called answers draws _ _ _ alive (StopsAfter may) = tt

works_say : (core : Core) (sess : Sess) (replay : Bool) (kept : List Draw) (called : Call) (now : ℕ) (after : Core) (t : Sess) (told : Telling) → (sess.life ≡ Ended → ⊥) → Works core sess replay kept called now after t told → IfSays (up.Call replay kept called) told core t
works_say core sess replay kept called now _ _ _ alive (AnswersCall opening draws left meant drew means ends) = replied replay kept called meant.answers draws core _ sess.ltxid refl alive
works_say core sess replay kept called now _ _ _ alive (Reaches opening draws left meant after t told drew means ends commits) = commits_say core (with_opening core opening) (with_work sess (committed core) meant) replay kept called meant.answers draws after t told alive commits
works_say core sess replay kept called now _ _ _ alive (HaltsInDraw between opening draws next more left meant drew means halts) = tt

calls_say : (core : Core) (sess : Sess) (replay : Bool) (kept : List Draw) (now : ℕ) (called : Call) (after : Core) (t : Sess) (told : Telling) → (sess.life ≡ Ended → ⊥) → Calls core sess replay kept now called after t told → IfSays (up.Call replay kept called) told core t
calls_say core sess replay kept now _ _ _ _ alive (IsWork statements commit after t told works) = works_say core sess replay kept _ now after t told alive works
calls_say core sess replay kept now _ _ _ _ alive (IsSet name value) = replied replay kept _ _ [] core _ sess.ltxid refl alive
calls_say core sess replay kept now _ _ _ _ alive (IsAlter line unmarked) = replied replay kept _ _ [] core _ sess.ltxid refl alive
calls_say core sess replay kept now _ _ _ _ alive (AlterStops line after unmarked same) = tt
calls_say core sess replay kept now _ _ _ _ alive (AlterMarked line marked) = without _ (down.Refused 2) core _ refl (λ x is. inl refl)
calls_say core sess replay kept now _ _ _ _ alive IsDisable = replied replay kept _ _ [] core _ sess.ltxid refl alive
calls_say core sess replay kept now _ _ _ _ alive IsRollback = replied replay kept _ _ [] core _ sess.ltxid refl alive

no_identifier : (judged : Verdict) → identifier_in (down_of judged) ≡ None
no_identifier verdict.BlockIt = refl
no_identifier verdict.AlreadyBlocked = refl
no_identifier (verdict.Committed completed) = refl
no_identifier (verdict.ServerAhead next) = refl
no_identifier (verdict.ClientAhead next) = refl
no_identifier (verdict.Forgotten horizon) = refl

outcomes_say : (core : Core) (t : Sess) (y : Ltxid) (after : Core) (told : Telling) → Outcomes core y after told → IfSays (up.Outcome y) told core t
outcomes_say core t y _ _ (IsTold judged by) =
    without (up.Outcome y) (down_of judged) core t (no_identifier judged) (λ x is. let same : y ≡ x = cc in inr (ap down_of (sym by) ∙ ap (λ z. down_of (verdict_on core z)) same))
outcomes_say core t y _ _ (BlockStops after by same) = tt

life-not : (life : Life) → life ≡ Begun → life ≡ Ended → ⊥
life-not life begun ended = let none : Begun ≡ Ended = sym begun ∙ ended in let no : ⊥ = cc in no

pub serve_says : (core : Core) (sess : Sess) (now : ℕ) (frame : Up) (after : Core) (t : Sess) (told : Telling) → Serve core sess now frame after t told → IfSays frame told core t
serve_says core sess now _ _ _ _ (Connects life) = record { next = λ x is. (some-same sess.ltxid x is, λ ended. let none : ⊥ = cc in none); outcome = λ x is. let none : ⊥ = cc in absurd none }
serve_says core sess now _ _ _ _ (Begins settings serving) = tt
serve_says core sess now _ _ _ _ (Ends serving) = tt
serve_says core sess now _ _ _ _ (Closes serving) = tt
serve_says core sess now _ _ _ _ (Asks x after told serving asked) = outcomes_say core _ x after told asked
serve_says core sess now _ _ _ _ (Serves replay kept called after t told begun calls) = calls_say core sess replay kept now called after t told (life-not sess.life begun) calls
serve_says core sess now _ _ _ _ (Refuses frame out) = without frame (down.Refused 2) core _ refl (λ x is. inl refl)

-- ---- one move

-- what a move that adds this to the history has told, and of which servers
pub record TellsServed (session : SessionId) (frame : Up) (told : Down) (before after : Server) : Type 0 where
  pub next : (x : Ltxid) → identifier_in told ≡ Some x → x ≡ next_ltxid (map committed_of (all_entries after.core)) session.incarnation session.session
  pub outcome : (x : Ltxid) → frame ≡ up.Outcome x → (told ≡ down.Refused 2) ⊎ (told ≡ down_of (verdict_on before.core x))

abbrev pub TellsOf : Happened → Server → Server → Type 0
TellsOf (Served session now frame Silent) before after = Unit {0}
TellsOf (Served session now frame (Says told)) before after = TellsServed session frame told before after
TellsOf (Served session now frame Stopped) before after = Unit {0}
TellsOf (Asked x Silent) before after = Unit {0}
TellsOf (Asked x (Says told)) before after = told ≡ down_of (verdict_on before.core x)
TellsOf (Asked x Stopped) before after = Unit {0}

abbrev pub AllTell : List Happened → Server → Server → Type 0
AllTell [] before after = Unit {0}
AllTell (happened ∷ more) before after = TellsOf happened before after × AllTell more before after

served_tells : (told : Telling) (server after : Server) (old new : Sess) (now : ℕ) (frame : Up) → session_of new.ltxid ≡ session_of old.ltxid → Mine after.core after.count new → IfSays frame told server.core new → TellsOf (Served (session_of old.ltxid) now frame told) server after
served_tells Silent server after old new now frame same mine says = tt
served_tells (Says told) server after old new now frame same mine says = record {
  next = λ x is.
      let both = says.next x is in
      let next : new.ltxid ≡ next_ltxid (map committed_of (all_entries after.core)) new.ltxid.incarnation new.ltxid.session = next-is (map committed_of (all_entries after.core)) new.ltxid (mine.number both.1) in
      sym both.0 ∙ next ∙ ap (λ (s : SessionId). next_ltxid (map committed_of (all_entries after.core)) s.incarnation s.session) same;
  outcome = says.outcome;
}
served_tells Stopped server after old new now frame same mine says = tt

outcomes_tell : (core : Core) (x : Ltxid) (after : Core) (told : Telling) → Outcomes core x after told → (before behind : Server) → before.core ≡ core → TellsOf (Asked x told) before behind
outcomes_tell core x _ _ (IsTold judged by) before behind same = ap down_of (sym by) ∙ ap (λ (c : Core). down_of (verdict_on c x)) (sym same)
outcomes_tell core x _ _ (BlockStops after by is) before behind same = tt

moves_tell : (base : Base) (server after : Server) (more : List Happened) → Numbered base server → Moves server more after → AllTell more server after
moves_tell base server _ _ numbered (Makes on) = tt
moves_tell base server _ _ numbered (Answers old new now frame core told after on serve answered turns) =
    let behind = moves_number base server after _ numbered (Answers old new now frame core told after on serve answered turns) in
    let sessions : after.sessions ≡ turns.front ++ new ∷ turns.back = ap (λ (s : Server). s.sessions) turns.turned in
    let mine = mine-at after.core after.count turns.front turns.back new (subst (AllMine after.core after.count) sessions behind.mine) in
    (served_tells told server after old new now frame (serve_stays server.core old now frame core new told serve).session mine (serve_says server.core old now frame core new told serve), tt)
moves_tell base server _ _ numbered (Halts old new now frame core told after running serve turns) = (tt, tt)
moves_tell base server _ _ numbered (Loses old now frame after halted turns) = (tt, tt)
moves_tell base server _ _ numbered (AnswersAsk x core frame on asks) = (outcomes_tell server.core x core (Says frame) asks server server refl, tt)
moves_tell base server _ _ numbered (HaltsInAsk x core told running asks) = (tt, tt)
moves_tell base server _ _ numbered (Reaps front back sess split) = tt
moves_tell base server _ _ numbered Falls = tt
moves_tell base server _ _ numbered (Opens below off may) = tt
moves_tell base server _ _ numbered (StopsOpening below core off may same) = tt

-- ---- the last thing of a history

last_of : List Happened → Option Happened
last_of [] = None
last_of (happened ∷ []) = Some happened
last_of (happened ∷ next ∷ more) = last_of (next ∷ more)

last_of-push : (history : List Happened) (last : Happened) → last_of (history ++ last ∷ []) ≡ Some last
unfolding last_of
last_of-push [] last = refl
last_of-push (first ∷ []) last = refl
last_of-push (first ∷ next ∷ more) last = last_of-push (next ∷ more) last

some_none : {A : Type 0} {happened : Happened} → happened ∷ [] ≡ [] → A
some_none none = let no : ⊥ = cc in absurd no

-- a move that adds nothing to the history leaves the entries
still : (server after : Server) (more : List Happened) → Moves server more after → more ≡ [] → SameStore server after
still server _ _ (Makes on) none = record { base = refl; entries = refl }
still server _ _ (Answers old new now frame core told after on serve answered turns) none = some_none none
still server _ _ (Halts old new now frame core told after running serve turns) none = some_none none
still server _ _ (Loses old now frame after halted turns) none = some_none none
still server _ _ (AnswersAsk x core frame on asks) none = some_none none
still server _ _ (HaltsInAsk x core told running asks) none = some_none none
still server _ _ (Reaps front back sess split) none = record { base = refl; entries = refl }
still server _ _ Falls none = record { base = refl; entries = refl }
still server _ _ (Opens below off may) none = record { base = refl; entries = refl }
still server _ _ (StopsOpening below core off may (inl same)) none = record { base = ap (λ (c : Core). c.base) same; entries = ap (λ (c : Core). c.entries) same }
still server _ _ (StopsOpening below core off may (inr (inl same))) none = record { base = ap (λ (c : Core). c.base) same; entries = ap (λ (c : Core). c.entries) same }
still server _ _ (StopsOpening below core off may (inr (inr same))) none = record { base = ap (λ (c : Core). c.base) same; entries = ap (λ (c : Core). c.entries) same }

last-more : (base : Base) (earlier moved : List Happened) (server after : Server) → Runs base earlier server → Moves server moved after → (earlier ≡ earlier → (history : List Happened) (last : Happened) → earlier ≡ history ++ last ∷ [] → LastOf base history last server)
    → AtMostOne moved → (history : List Happened) (last : Happened) → earlier ++ moved ≡ history ++ last ∷ [] → LastOf base history last after
last-more base earlier _ server after runs moves inner None1 history last same =
    let found = inner refl history last (sym (append-nil earlier) ∙ same) in
    let kept = still server after [] moves refl in
    record {
      before = found.before;
      behind = found.behind;
      runs = found.runs;
      moves = found.moves;
      same = record { base = kept.base ∙ found.same.base; entries = kept.entries ∙ found.same.entries };
    }
last-more base earlier _ server after runs moves inner (Some1 here) history last same =
    let front : earlier ≡ history = sym (but_last-push earlier here) ∙ ap but_last same ∙ but_last-push history last in
    let one : here ≡ last = some-same here last (sym (last_of-push earlier here) ∙ ap last_of same ∙ last_of-push history last) in
    record {
      before = server;
      behind = after;
      runs = subst (λ h. Runs base h server) front runs;
      moves = subst (λ (h : Happened). Moves server (h ∷ []) after) one moves;
      same = record { base = refl; entries = refl };
    }

last-at : (base : Base) (whole : List Happened) (after : Server) → Runs base whole after → (history : List Happened) (last : Happened) → whole ≡ history ++ last ∷ [] → LastOf base history last after
unfolding last_of
last-at base _ _ Start history last same = none-some last (ap last_of same ∙ last_of-push history last)
last-at base _ _ (Then earlier moved server after runs moves) history last same =
    last-more base earlier moved server after runs moves (λ is h l e. last-at base earlier server runs h l e) (moves_one server after moved moves) history last same

pub runs_last : RunsLast
runs_last base history last after runs = last-at base (history ++ last ∷ []) after runs history last refl

-- ---- runs

next_on : (behind after : Server) (i s : ℕ) → SameStore behind after → next_ltxid (map committed_of (all_entries behind.core)) i s ≡ next_ltxid (map committed_of (all_entries after.core)) i s
next_on behind after i s same = ap (λ (e : List Entry). next_ltxid (map committed_of e) i s) (λ j. (sym same.base j).entries ++ sym same.entries j)

pub tells_next : TellsNext
tells_next base history server sound session now frame told x runs is =
    let last = last-at base (history ++ Served session now frame (Says told) ∷ []) server runs history (Served session now frame (Says told)) refl in
    let tells = moves_tell base last.before last.behind _ (runs_number base history last.before sound last.runs) last.moves in
    tells.0.next x is ∙ next_on last.behind server session.incarnation session.session last.same

-- what a move tells by the table
abbrev pub TableOf : Happened → Core → Type 0
TableOf (Served session now frame Silent) core = Unit {0}
TableOf (Served session now frame (Says told)) core = (x : Ltxid) → frame ≡ up.Outcome x → (told ≡ down.Refused 2) ⊎ (told ≡ down_of (verdict_on core x))
TableOf (Served session now frame Stopped) core = Unit {0}
TableOf (Asked x Silent) core = Unit {0}
TableOf (Asked x (Says told)) core = told ≡ down_of (verdict_on core x)
TableOf (Asked x Stopped) core = Unit {0}

abbrev pub AllTable : List Happened → Core → Type 0
AllTable [] core = Unit {0}
AllTable (happened ∷ more) core = TableOf happened core × AllTable more core

served_table : (told : Telling) (session : SessionId) (now : ℕ) (frame : Up) (core : Core) (t : Sess) → IfSays frame told core t → TableOf (Served session now frame told) core
served_table Silent session now frame core t says = tt
served_table (Says told) session now frame core t says = says.outcome
served_table Stopped session now frame core t says = tt

asked_table : (core : Core) (x : Ltxid) (after : Core) (told : Telling) → Outcomes core x after told → TableOf (Asked x told) core
asked_table core x _ _ (IsTold judged by) = ap down_of (sym by)
asked_table core x _ _ (BlockStops after by is) = tt

moves_table : (server after : Server) (more : List Happened) → Moves server more after → AllTable more server.core
moves_table server _ _ (Makes on) = tt
moves_table server _ _ (Answers old new now frame core told after on serve answered turns) = (served_table told (session_of old.ltxid) now frame server.core new (serve_says server.core old now frame core new told serve), tt)
moves_table server _ _ (Halts old new now frame core told after running serve turns) = (tt, tt)
moves_table server _ _ (Loses old now frame after halted turns) = (tt, tt)
moves_table server _ _ (AnswersAsk x core frame on asks) = (asked_table server.core x core (Says frame) asks, tt)
moves_table server _ _ (HaltsInAsk x core told running asks) = (tt, tt)
moves_table server _ _ (Reaps front back sess split) = tt
moves_table server _ _ Falls = tt
moves_table server _ _ (Opens below off may) = tt
moves_table server _ _ (StopsOpening below core off may same) = tt

pub tells_outcomes : TellsOutcomes
tells_outcomes base history server session now x told runs =
    let last = last-at base (history ++ Served session now (up.Outcome x) (Says told) ∷ []) server runs history (Served session now (up.Outcome x) (Says told)) refl in
    (last.before, (last.runs, (moves_table last.before last.behind _ last.moves).0 x refl))

pub tells_asks : TellsAsks
tells_asks base history server x told runs =
    let last = last-at base (history ++ Asked x (Says told) ∷ []) server runs history (Asked x (Says told)) refl in
    (last.before, (last.runs, (moves_table last.before last.behind _ last.moves).0))
