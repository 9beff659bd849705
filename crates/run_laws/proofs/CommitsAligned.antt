-- The entries that a run of the plain server gained are those of the commits that its report tells
-- of, one each, in order.
use Rattle.std.proofs.Common.{◌≡◌, refl, sym, ap, subst, ◌∙◌, append-nil, append_assoc, false, ℕ, List, [], ◌∷◌, ◌++◌, map}
use Rattle.std.specs.Prelude.{All}
use Rattle.std.proofs.lemmas.List.{map-append}
use Rattle.std.proofs.lemmas.List.Elements.{All-nil, All-append, All-weaker, Contains-append_left, Contains-append_right, Contains-push}
use Rattle.svc_values.specs.declared.call.Call.{Call}
use Rattle.svc_values.specs.declared.entry.Entry.{Entry}
use Rattle.svc_values.specs.declared.entry.Ltxid.{Ltxid}
use Rattle.svc_values.specs.declared.entry.SessionId.{SessionId}
use Rattle.svc_values.specs.declared.frame.Up.TheVariants as up
use Rattle.svc_values.specs.declared.frame.Down.TheVariants as down
use Rattle.svc_values.specs.meaning.Endings.{ends_committed}
use Rattle.svc_values.specs.meaning.Identifiers.{ltxid_of}
use Rattle.outage_schedule.specs.declared.note.NoteRun.{NoteRun}
use Rattle.run_clauses.specs.meaning.EntryEvents.{Commit, commit_if, run_commits}
use Rattle.server_model.specs.meaning.Base.{Base}
use Rattle.server_model.specs.Laws.{CommitsAs, LastOf}
use Rattle.server_model.specs.meaning.Outcomes.{Silent, Says}
use Rattle.server_model.specs.Runs.{Happened, Served as ServedFrame, Server, Runs}
use Rattle.server_model.specs.ServiceCalls.{CameFrom, RunsAre, begins_outside}
use Rattle.server_model.proofs.Offered.{runs_last}
use Rattle.service_calls.specs.Answers.{run_of}
use Rattle.run_laws.proofs.CommitsGrow.{session_in, session_at, AreOf}
use Rattle.run_laws.proofs.CommitsStored.{no_entries, reply_are}
use Rattle.run_laws.proofs.EntriesSince.{AddsFew, move_adds}

came_left : (happened more : List Happened) (entry : Entry) → CameFrom happened entry → CameFrom (happened ++ more) entry
came_left happened more entry came = (came.0, (Contains-append_left happened more came.0 came.1.0, came.1.1))

pub came_right : (happened more : List Happened) (entry : Entry) → CameFrom more entry → CameFrom (happened ++ more) entry
came_right happened more entry came = (came.0, (Contains-append_right happened more came.0 came.1.0, came.1.1))

pub all_came : (happened more : List Happened) (few gained : List Entry) → All (CameFrom happened) few → All (CameFrom more) gained → All (CameFrom (happened ++ more)) (few ++ gained)
all_came happened more few gained one other =
    All-append (CameFrom (happened ++ more)) few gained (All-weaker (CameFrom happened) (CameFrom (happened ++ more)) (came_left happened more) few one)
    (All-weaker (CameFrom more) (CameFrom (happened ++ more)) (came_right happened more) gained other)

pub own_came : (one : Happened) (few : List Entry) → All (λ entry. CommitsAs entry one) few → All (CameFrom (one ∷ [])) few
own_came one few own = All-weaker (λ (entry : Entry). CommitsAs entry one) (CameFrom (one ∷ [])) (λ entry commits. (one, (Contains-push [] one, commits))) few own

pub are_more : (few others : List Entry) (commits more : List Commit) → AreOf few commits → AreOf others more → AreOf (few ++ others) (commits ++ more)
are_more few others commits more one other = map-append session_in few others ∙ ((λ i. one i ++ other i) ∙ sym (map-append session_at commits more))

module _ (base : Base) where
  -- behind a run to this history, what happened then gained these entries
  pub record Gains (history happened : List Happened) (server : Server) : Type 0 where
    pub before : Server
    pub runs : Runs base history before
    pub few : List Entry
    pub entries : server.core.entries ≡ before.core.entries ++ few
    pub came : All (CameFrom happened) few

  -- and they are of these commits
  pub record Since (history happened : List Happened) (server : Server) (commits : List Commit) : Type 0 where
    pub gains : Gains history happened server
    pub are : AreOf gains.few commits

  gains_none : (history : List Happened) (server : Server) → Runs base history server → Gains history [] server
  gains_none history server runs = record { before = server; runs = runs; few = []; entries = sym (append-nil server.core.entries); came = All-nil (CameFrom []) }

  gains_then : (history happened more : List Happened) (server : Server) (later : Gains (history ++ happened) more server) → Gains history happened later.before → Gains history (happened ++ more) server
  gains_then history happened more server later first = record {
    before = first.before;
    runs = first.runs;
    few = first.few ++ later.few;
    entries = later.entries ∙ (ap (λ (l : List Entry). l ++ later.few) first.entries ∙ append_assoc first.before.core.entries first.few later.few);
    came = all_came happened more first.few later.few first.came later.came;
  }

  pub since_none : (history : List Happened) (server : Server) → Runs base history server → Since history [] server []
  unfolding gains_none
  since_none history server runs = record { gains = gains_none history server runs; are = refl }

  since_then : (history happened more : List Happened) (server : Server) (commits others : List Commit) (later : Since (history ++ happened) more server others) → Since history happened later.gains.before commits
      → Since history (happened ++ more) server (commits ++ others)
  unfolding gains_then
  since_then history happened more server commits others later first = record {
    gains = gains_then history happened more server later.gains first.gains;
    are = are_more first.gains.few later.gains.few commits others first.are later.are;
  }

  -- THE LAST THING --------------------------------------------------------------------------------

  module _ (history : List Happened) (one : Happened) (server : Server) (runs : Runs base (history ++ one ∷ []) server) where
    pub last : LastOf base history one server
    last = runs_last base history one server runs

    pub adds : AddsFew one last.before last.behind
    adds = move_adds last.before last.behind (one ∷ []) last.moves

    pub entries_now : server.core.entries ≡ last.before.core.entries ++ adds.few
    entries_now = last.same.entries ∙ adds.entries

    gains_last : Gains history (one ∷ []) server
    gains_last = record { before = last.before; runs = last.runs; few = adds.few; entries = entries_now; came = own_came one adds.few adds.own }

    pub since_last : (commits : List Commit) → AreOf adds.few commits → Since history (one ∷ []) server commits
    unfolding gains_last
    since_last commits are = record { gains = gains_last; are = are }

    pub since_quiet : ((entry : Entry) → CommitsAs entry one → ⊥) → Since history (one ∷ []) server []
    since_quiet never = since_last [] (ap (map session_in) (no_entries adds.few (λ (entry : Entry). CommitsAs entry one) adds.own never))

  -- whatever happened
  pub gains_since : (history happened : List Happened) (server : Server) → Runs base (history ++ happened) server → Gains history happened server
  gains_since history [] server runs = gains_none history server (subst (λ (h : List Happened). Runs base h server) (append-nil history) runs)
  gains_since history (one ∷ happened) server runs =
      let later : Gains (history ++ one ∷ []) happened server = gains_since (history ++ one ∷ []) happened server (subst (λ (h : List Happened). Runs base h server) (sym (append_assoc history (one ∷ []) happened)) runs) in
      gains_then history (one ∷ []) happened server later (gains_last history one later.before later.runs)

  -- A RUN OUTSIDE ---------------------------------------------------------------------------------

  call_since : (history : List Happened) (session : SessionId) (now event : ℕ) (called : Call) (run : NoteRun) (x : Ltxid) (server : Server)
      → Runs base (history ++ ServedFrame session now (up.Call false [] called) (Says (down.Reply run.answers run.draws x)) ∷ []) server
      → Since history (ServedFrame session now (up.Call false [] called) (Says (down.Reply run.answers run.draws x)) ∷ []) server (commit_if (ends_committed run.answers) session event)
  call_since history session now event called run x server runs =
      let what : Happened = ServedFrame session now (up.Call false [] called) (Says (down.Reply run.answers run.draws x)) in
      let few = adds history what server runs in
      since_last history what server runs (commit_if (ends_committed run.answers) session event) (reply_are session now false [] called run.answers run.draws x event few.few few.own few.stored)

  calls_since : (session : SessionId) (now event : ℕ) (calls : List Call) (runs : List NoteRun) (history happened : List Happened) → RunsAre session now calls (map run_of runs) happened → (server : Server)
      → Runs base (history ++ happened) server → Since history happened server (run_commits session event runs)
  calls_since session now event [] [] history happened is server runs =
      subst (λ (h : List Happened). Since history h server []) (sym is) (since_none history server (subst (λ (h : List Happened). Runs base h server) (ap (λ (h : List Happened). history ++ h) is ∙ append-nil history) runs))
  calls_since session now event [] (run ∷ rest) history happened is server runs = absurd is
  calls_since session now event (called ∷ calls) [] history happened is server runs =
      subst (λ (h : List Happened). Since history h server []) (sym is)
      (since_quiet history (ServedFrame session now (up.Call false [] called) (Says down.Blocked)) server (subst (λ (h : List Happened). Runs base (history ++ h) server) is runs) (λ entry commits. commits))
  calls_since session now event (called ∷ calls) (run ∷ rest) history happened is server runs =
      let what : Happened = ServedFrame session now (up.Call false [] called) (Says (down.Reply run.answers run.draws is.0)) in
      let whole : Runs base ((history ++ what ∷ []) ++ is.1) server = subst (λ (h : List Happened). Runs base h server) (ap (λ (h : List Happened). history ++ h) is.2.0 ∙ sym (append_assoc history (what ∷ []) is.1)) runs in
      let later : Since (history ++ what ∷ []) is.1 server (run_commits session event rest) = calls_since session now event calls rest (history ++ what ∷ []) is.1 is.2.1 server whole in
      subst (λ (h : List Happened). Since history h server (commit_if (ends_committed run.answers) session event ++ run_commits session event rest)) (sym is.2.0)
      (since_then history (what ∷ []) is.1 server (commit_if (ends_committed run.answers) session event) (run_commits session event rest) later (call_since history session now event called run is.0 later.gains.before later.gains.runs))

  pub outside_since : (session : SessionId) (now event : ℕ) (calls : List Call) (runs : List NoteRun) (history happened : List Happened) → RunsAre session now calls (map run_of runs) happened → (server : Server)
      → Runs base (history ++ (begins_outside session now ++ happened)) server → Since history (begins_outside session now ++ happened) server (run_commits session event runs)
  outside_since session now event calls runs history happened are server whole =
      since_then history (begins_outside session now) happened server [] (run_commits session event runs) later
      (since_then history (first ∷ []) (second ∷ []) later.gains.before [] [] begun (since_quiet history first begun.gains.before begun.gains.runs (λ entry commits. commits)))
    where
      first : Happened
      first = ServedFrame session now up.Connect (Says (down.Hello (ltxid_of session 0)))

      second : Happened
      second = ServedFrame session now (up.Begin []) Silent

      later : Since (history ++ begins_outside session now) happened server (run_commits session event runs)
      later = calls_since session now event calls runs (history ++ begins_outside session now) happened are server (subst (λ (h : List Happened). Runs base h server) (sym (append_assoc history (begins_outside session now) happened)) whole)

      begun : Since (history ++ first ∷ []) (second ∷ []) later.gains.before []
      begun =
          since_quiet (history ++ first ∷ []) second later.gains.before
          (subst (λ (h : List Happened). Runs base h later.gains.before) (sym (append_assoc history (first ∷ []) (second ∷ []))) later.gains.runs) (λ entry commits. commits)
