-- Every entry comes from a call of its session.
use Rattle.std.specs.Prelude.{◌≡◌, ◌⊎◌, ℕ, Bool, true, false, not, IsTrue, List, [], ◌∷◌, ◌++◌, Contains}
use Rattle.std.proofs.Common.{refl, inl, inr, sym, ◌∙◌, ap, subst}
use Rattle.std.proofs.lemmas.List.Elements.{Contains-push, Contains-append_left, Contains-append_cases, All-nil, All-cons, All-contains}
use Rattle.svc_values.specs.declared.draw.Draw.{Draw}
use Rattle.svc_values.specs.declared.call.Call.{Call}
use Rattle.svc_values.specs.declared.entry.Entry.{Entry}
use Rattle.svc_values.specs.declared.frame.Up.{Up}
use Rattle.svc_values.specs.declared.frame.Up.TheVariants as up
use Rattle.svc_values.specs.meaning.Endings.{ends_committed}
use Rattle.svc_values.specs.declared.tables.PlainRow.{PlainRow}
use Rattle.stmt_meaning.specs.meaning.Meaning.{Meant}
use Rattle.mutable_values.specs.Sources.{Opening}
use Rattle.server_model.specs.meaning.Base.{Base}
use Rattle.server_model.specs.Core.{Core, committed}
use Rattle.server_model.specs.Sessions.{Sess, with_work}
use Rattle.svc_values.specs.meaning.Identifiers.{session_of}
use Rattle.server_model.specs.meaning.Outcomes.{Telling, Stopped}
use Rattle.server_model.specs.Serve.{Commits, InReplay, Blocks, Conflicts, Stores, StopsBefore, StopsAfter, Works, Answers as AnswersCall, Reaches, HaltsInDraw, Calls, IsWork, IsSet, IsAlter, AlterStops, AlterMarked, IsDisable, IsRollback, Serve, Connects, Begins, Ends, Closes, Asks, Runs as Serves, Refuses, with_opening}
use Rattle.server_model.specs.Runs.{Happened, Served, Server, Turns, Moves, Makes, Answers, Halts, Loses, AnswersAsk, HaltsInAsk, Reaps, Falls, Opens, StopsOpening, Runs, Start, Then, Power, is_answered}
use Rattle.server_model.specs.Laws.{CommitsAs, EntryFromItem}
use Rattle.server_model.proofs.Growth.{outcomes-entries}

pub data From (core : Core) (sess : Sess) (now : ℕ) (frame : Up) (told : Telling) (after : Core) : Type 0 where
  NoEntry : after.entries ≡ core.entries → From core sess now frame told after
  NewEntry : (entry : Entry) → after.entries ≡ core.entries ++ entry ∷ [] → (IsTrue (is_answered told) → CommitsAs entry (Served (session_of sess.ltxid) now frame told)) → CommitsAs entry (Served (session_of sess.ltxid) now frame Stopped)
      → From core sess now frame told after

unmarked : (replay : Bool) → IsTrue (not replay) → replay ≡ false
unmarked true is = let none : ⊥ = cc in absurd none
unmarked false is = refl

never : false ≡ true → ⊥
never is = let none : ⊥ = cc in none

commits_from : (core : Core) (opening : Opening) (sess : Sess) (rows : List PlainRow) (meant : Meant) (replay : Bool) (kept : List Draw) (called : Call) (draws : List Draw) (now : ℕ) (after : Core) (t : Sess) (told : Telling)
    → ends_committed meant.answers ≡ true → Commits (with_opening core opening) (with_work sess rows meant) replay called meant.answers draws after t told → From core sess now (up.Call replay kept called) told after
commits_from core opening sess rows meant replay kept called draws now _ _ _ ends (InReplay marked) = NoEntry refl
commits_from core opening sess rows meant replay kept called draws now _ _ _ ends (Blocks not_marked blocked) = NoEntry refl
commits_from core opening sess rows meant replay kept called draws now _ _ _ ends (Conflicts not_marked free differs) = NoEntry refl
commits_from core opening sess rows meant replay kept called draws now _ _ _ ends (Stores may) = NewEntry _ refl (λ answered. (refl, unmarked replay may.unmarked, ends, refl)) (refl, unmarked replay may.unmarked)
commits_from core opening sess rows meant replay kept called draws now _ _ _ ends (StopsBefore may) = NoEntry refl
commits_from core opening sess rows meant replay kept called draws now _ _ _ ends (StopsAfter may) = NewEntry _ refl (λ answered. absurd (never answered)) (refl, unmarked replay may.unmarked)

works_from : (core : Core) (sess : Sess) (replay : Bool) (kept : List Draw) (called : Call) (now : ℕ) (after : Core) (t : Sess) (told : Telling) → Works core sess replay kept called now after t told → From core sess now (up.Call replay kept called) told after
works_from core sess replay kept called now _ _ _ (AnswersCall opening draws left meant drew means not) = NoEntry refl
works_from core sess replay kept called now _ _ _ (Reaches opening draws left meant after t told drew means ends commits) = commits_from core opening sess (committed core) meant replay kept called draws now after t told ends commits
works_from core sess replay kept called now _ _ _ (HaltsInDraw between opening draws next more left meant drew means halts) = NoEntry refl

calls_from : (core : Core) (sess : Sess) (replay : Bool) (kept : List Draw) (now : ℕ) (called : Call) (after : Core) (t : Sess) (told : Telling) → Calls core sess replay kept now called after t told → From core sess now (up.Call replay kept called) told after
calls_from core sess replay kept now _ _ _ _ (IsWork statements commit after t told works) = works_from core sess replay kept _ now after t told works
calls_from core sess replay kept now _ _ _ _ (IsSet name value) = NoEntry refl
calls_from core sess replay kept now _ _ _ _ (IsAlter line not_marked) = NoEntry refl
calls_from core sess replay kept now _ _ _ _ (AlterStops line after not_marked (inl same)) = NoEntry (ap (λ (c : Core). c.entries) same)
calls_from core sess replay kept now _ _ _ _ (AlterStops line after not_marked (inr same)) = NoEntry (ap (λ (c : Core). c.entries) same)
calls_from core sess replay kept now _ _ _ _ (AlterMarked line marked) = NoEntry refl
calls_from core sess replay kept now _ _ _ _ IsDisable = NoEntry refl
calls_from core sess replay kept now _ _ _ _ IsRollback = NoEntry refl

-- what a frame adds to the entries
pub serve_from : (core : Core) (sess : Sess) (now : ℕ) (frame : Up) (after : Core) (t : Sess) (told : Telling) → Serve core sess now frame after t told → From core sess now frame told after
serve_from core sess now _ _ _ _ (Connects life) = NoEntry refl
serve_from core sess now _ _ _ _ (Begins settings serving) = NoEntry refl
serve_from core sess now _ _ _ _ (Ends serving) = NoEntry refl
serve_from core sess now _ _ _ _ (Closes serving) = NoEntry refl
serve_from core sess now _ _ _ _ (Asks x after told serving asked) = NoEntry (outcomes-entries core x after told asked)
serve_from core sess now _ _ _ _ (Serves replay kept called after t told begun calls) = calls_from core sess replay kept now called after t told calls
serve_from core sess now _ _ _ _ (Refuses frame out) = NoEntry refl

-- ---- moves

data Gains (server : Server) (more : List Happened) (after : Server) : Type 0 where
  Nothing : after.core.entries ≡ server.core.entries → Gains server more after
  Entry1 : (entry : Entry) (happened : Happened) → after.core.entries ≡ server.core.entries ++ entry ∷ [] → more ≡ happened ∷ [] → CommitsAs entry happened → Gains server more after

turned_entries : (server after : Server) (old new : Sess) (core : Core) (power : Power) → Turns server after old new core power → after.core.entries ≡ core.entries
turned_entries server after old new core power turns = ap (λ (s : Server). s.core.entries) turns.turned

answers_gain : (server after : Server) (old new : Sess) (now : ℕ) (frame : Up) (core : Core) (told : Telling) (power : Power) → Turns server after old new core power → IsTrue (is_answered told) → From server.core old now frame told core → Gains server (Served (session_of old.ltxid) now frame told ∷ []) after
answers_gain server after old new now frame core told power turns answered (NoEntry same) = Nothing (turned_entries server after old new core power turns ∙ same)
answers_gain server after old new now frame core told power turns answered (NewEntry entry more as_told as_stopped) = Entry1 entry _ (turned_entries server after old new core power turns ∙ more) refl (as_told answered)

halts_gain : (server after : Server) (old new : Sess) (now : ℕ) (frame : Up) (core : Core) (told : Telling) (power : Power) → Turns server after old new core power → From server.core old now frame told core → Gains server (Served (session_of old.ltxid) now frame Stopped ∷ []) after
halts_gain server after old new now frame core told power turns (NoEntry same) = Nothing (turned_entries server after old new core power turns ∙ same)
halts_gain server after old new now frame core told power turns (NewEntry entry more as_told as_stopped) = Entry1 entry _ (turned_entries server after old new core power turns ∙ more) refl as_stopped

moves_gain : (server after : Server) (more : List Happened) → Moves server more after → Gains server more after
moves_gain server _ _ (Makes on) = Nothing refl
moves_gain server _ _ (Answers old new now frame core told after on serve answered turns) = answers_gain server after old new now frame core told _ turns answered (serve_from server.core old now frame core new told serve)
moves_gain server _ _ (Halts old new now frame core told after running serve turns) = halts_gain server after old new now frame core told _ turns (serve_from server.core old now frame core new told serve)
moves_gain server _ _ (Loses old now frame after halted turns) = Nothing (turned_entries server after old _ server.core _ turns)
moves_gain server _ _ (AnswersAsk x core frame on asks) = Nothing (outcomes-entries server.core x core _ asks)
moves_gain server _ _ (HaltsInAsk x core told running asks) = Nothing (outcomes-entries server.core x core told asks)
moves_gain server _ _ (Reaps front back sess split) = Nothing refl
moves_gain server _ _ Falls = Nothing refl
moves_gain server _ _ (Opens below off may) = Nothing refl
moves_gain server _ _ (StopsOpening below core off may (inl same)) = Nothing (ap (λ (c : Core). c.entries) same)
moves_gain server _ _ (StopsOpening below core off may (inr (inl same))) = Nothing (ap (λ (c : Core). c.entries) same)
moves_gain server _ _ (StopsOpening below core off may (inr (inr same))) = Nothing (ap (λ (c : Core). c.entries) same)

-- ---- runs

pub Source : List Happened → Entry → Type 0
Source history entry = (happened : Happened) × (Contains history happened × CommitsAs entry happened)

sourced : (history more : List Happened) (entry : Entry) → Source history entry → Source (history ++ more) entry
unfolding Source
sourced history more entry source = (source.0, (Contains-append_left history more source.0 source.1.0, source.1.1))

one_of : (entry other : Entry) → Contains (entry ∷ []) other → entry ≡ other
one_of entry other contains = All-contains (λ (e : Entry). entry ≡ e) (entry ∷ []) other (All-cons (λ (e : Entry). entry ≡ e) entry [] refl (All-nil (λ (e : Entry). entry ≡ e))) contains

none_of : (entry : Entry) → Contains [] entry → ⊥
none_of entry contains = All-contains (λ (e : Entry). ⊥) [] entry (All-nil (λ (e : Entry). ⊥)) contains

gained : (history more : List Happened) (server after : Server) → Gains server more after → ((entry : Entry) → Contains server.core.entries entry → Source history entry) → (entry : Entry) → Contains after.core.entries entry → Source (history ++ more) entry
unfolding Source
gained history more server after (Nothing same) before entry contains = sourced history more entry (before entry (subst (λ (l : List Entry). Contains l entry) same contains))
gained history more server after (Entry1 new happened grown one commits) before entry contains = by (Contains-append_cases server.core.entries (new ∷ []) entry (subst (λ (l : List Entry). Contains l entry) grown contains))
  where
    by : Contains server.core.entries entry ⊎ Contains (new ∷ []) entry → Source (history ++ more) entry
    by (inl old) = sourced history more entry (before entry old)
    by (inr here) = (happened, (subst (λ m. Contains (history ++ m) happened) (sym one) (Contains-push history happened), subst (λ (e : Entry). CommitsAs e happened) (one_of new entry here) commits))

runs_from : (base : Base) (history : List Happened) (server : Server) → Runs base history server → (entry : Entry) → Contains server.core.entries entry → Source history entry
runs_from base _ _ Start entry contains = absurd (none_of entry contains)
runs_from base _ _ (Then history more server after runs moves) entry contains = gained history more server after (moves_gain server after more moves) (runs_from base history server runs) entry contains

pub entry_from_item : EntryFromItem
unfolding Source
entry_from_item base history server runs entry contains = runs_from base history server runs entry contains
