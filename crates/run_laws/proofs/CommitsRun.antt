-- Along a run, the entries that its server gained are those of the commits that the report tells
-- of, one each, in order.
use Rattle.std.proofs.Common.{◌≡◌, refl, sym, ap, subst, ◌∙◌, append-nil, append_assoc, Bool, true, ℕ, ◌+◌, List, [], ◌∷◌, ◌++◌, map, ◌⊎◌, inl, inr, arith}
use Rattle.std.specs.Prelude.{All, Contains}
use Rattle.std.proofs.lemmas.Bool.{and_parts}
use Rattle.std.proofs.lemmas.List.Elements.{Contains-append_left, Contains-push}
use Rattle.svc_values.specs.declared.call.Call.{Call}
use Rattle.svc_values.specs.declared.draw.Draw.{Draw}
use Rattle.svc_values.specs.declared.entry.Entry.{Entry}
use Rattle.svc_values.specs.declared.entry.SessionId.{SessionId}
use Rattle.svc_values.specs.declared.frame.Up.{Up}
use Rattle.svc_values.specs.declared.frame.Up.TheVariants as up
use Rattle.svc_values.specs.declared.frame.Down.TheVariants as down
use Rattle.svc_values.specs.meaning.Identifiers.{session_of}
use Rattle.svc_values.specs.meaning.Same.{same_bool, same_call}
use Rattle.svc_values.specs.SameLaws.{same_bool_decides, same_call_decides}
use Rattle.outage_schedule.specs.declared.item.Item.{Item}
use Rattle.outage_schedule.specs.declared.item.Item.TheVariants as item
use Rattle.run_clauses.specs.meaning.EntryEvents.{Commit, commits_by, commit_if, has_crashed_commit, item_commits, run_commits, commits_from, entries_of}
use Rattle.run_clauses.specs.meaning.Moments.{HappenedAt}
use Rattle.server_model.specs.meaning.Base.{Base}
use Rattle.server_model.specs.Base.{IsSound}
use Rattle.server_model.specs.Laws.{CommitsAs, EntryNumbers, is_behind, stops_last}
use Rattle.server_model.specs.meaning.Outcomes.{Says, Stopped}
use Rattle.server_model.specs.Runs.{Happened, Served as ServedFrame, Asked as WasAsked, Server, Runs}
use Rattle.server_model.specs.ServiceCalls.{CameFrom, begins_outside}
use Rattle.server_model.proofs.Offered.{entry_from_item}
use Rattle.world_model.specs.meaning.Crashing.{is_crashed_item}
use Rattle.world_model.specs.meaning.Machines.{Machine, next_session}
use Rattle.world_model.specs.records.Number.{numbered_after}
use Rattle.world_model.specs.meaning.ServiceDid.{item_telling}
use Rattle.world_model.specs.meaning.Serving.{is_item_of, commits_after, identifier, outcome_frame}
use Rattle.run_laws.proofs.CommitsAligned.{Gains, Since, since_none, last, adds, entries_now, since_last, since_quiet, outside_since, all_came, own_came, are_more}
use Rattle.run_laws.proofs.CommitsGrow.{session_in, session_at, AreOf, commits_behind, commits_more, behind_counts, same_counts}
use Rattle.run_laws.proofs.CommitsStored.{no_entries, reply_are, none_later, stops_rest, run_numbered, stopped_are}
use Rattle.run_laws.proofs.EntriesSince.{move_of_later}
use Rattle.run_laws.proofs.EventsTell.{EventTells, TellsNothing, TellsItem, TellsRun, TellsAnswer}
use Rattle.world_model.proofs.Offered.{item_commits as no_commit, none_in}
use Rattle.run_laws.proofs.RunTells.{RunTells, NothingYet, TellsMore}

empty_run : (entries : List Entry) → ((entry : Entry) → Contains entries entry → ⊥) → entries ≡ []
empty_run [] never = refl
empty_run (entry ∷ entries) never = absurd (never entry (Contains-append_left (entry ∷ []) entries entry (Contains-push [] entry)))

module _ (base : Base) (sound : IsSound base) (numbers : EntryNumbers) (final : List Entry) (numbered : numbered_after [] (base.entries ++ final) ≡ true) where
  -- AN ITEM ---------------------------------------------------------------------------------------

  -- what came of a frame, with what is known of the store before it and behind it
  record Stood (history later : List Happened) (what : Happened) (session : SessionId) (server : Server) (commits : List Commit) (gained : List Entry) : Type 0 where
    runs : Runs base (history ++ what ∷ []) server
    stops : stops_last (what ∷ later) ≡ true
    split : final ≡ server.core.entries ++ gained
    came : All (CameFrom later) gained
    counts : entries_of (last base history what server runs).before.core.entries session ≡ commits_by session commits

  module _ (history later : List Happened) (session : SessionId) (server : Server) (commits : List Commit) (gained : List Entry) where
    crashed_are : (now : ℕ) (replay : Bool) (kept : List Draw) (called : Call) (stood : Stood history later (ServedFrame session now (up.Call replay kept called) Stopped) session server commits gained) (event : ℕ)
        → AreOf (adds base history (ServedFrame session now (up.Call replay kept called) Stopped) server stood.runs).few (commit_if (has_crashed_commit final commits session replay called) session event)
    crashed_are now replay kept called stood event =
        let what : Happened = ServedFrame session now (up.Call replay kept called) Stopped in
        let before = last base history what server stood.runs in
        let few = adds base history what server stood.runs in
        let there = entries_now base history what server stood.runs in
        stopped_are base sound numbers final numbered session before.before.core.entries commits
        (move_of_later base history before.before before.behind (what ∷ []) sound before.runs before.moves)
        (run_numbered base sound numbers final numbered history before.before before.runs) stood.counts now replay kept called event few.few gained
        (stood.split ∙ ap (λ (l : List Entry). l ++ gained) there)
        (subst (λ (l : List Entry). numbered_after [] (base.entries ++ l) ≡ true) there (run_numbered base sound numbers final numbered (history ++ what ∷ []) server stood.runs))
        few.short few.own few.called
        (none_later session later gained (and_parts (stops_last later) (is_behind session.incarnation later) stood.stops).1 stood.came)

    -- nothing is stored by a frame whose item is no call
    quiet_are : (what : Happened) (runs : Runs base (history ++ what ∷ []) server) → ((entry : Entry) → CommitsAs entry what → ⊥) → AreOf (adds base history what server runs).few []
    quiet_are what runs never = let few = adds base history what server runs in ap (map session_in) (no_entries few.few (λ (entry : Entry). CommitsAs entry what) few.own never)

    item_are : (now : ℕ) (frame : Up) (one : Item) (count : ℕ) → (is_item_of frame one ≡ true) ⊎ (is_crashed_item frame one ≡ true)
        → (stood : Stood history later (ServedFrame session now frame (item_telling session count one)) session server commits gained) (event : ℕ)
        → AreOf (adds base history (ServedFrame session now frame (item_telling session count one)) server stood.runs).few (item_commits final commits event session one)
    item_are now (up.Call replay kept called) (item.Call marked call answers draws) count its stood event =
        let few = adds base history (ServedFrame session now (up.Call replay kept called) (Says (down.Reply answers draws (identifier session count)))) server stood.runs in
        reply_are session now replay kept called answers draws (identifier session count) event few.few few.own few.stored
    item_are now frame (item.Call marked call answers draws) count (inl is) stood event = absurd (let none : ⊥ = cc in none)
    item_are now frame (item.Call marked call answers draws) count (inr is) stood event = absurd (let none : ⊥ = cc in none)
    item_are now (up.Call replay kept called) (item.CrashedCall marked call) count (inl is) stood event = absurd (let none : ⊥ = cc in none)
    item_are now (up.Call replay kept called) (item.CrashedCall marked call) count (inr is) stood event =
        let parts = and_parts (same_bool marked replay) (same_call call called) is in
        let mark : marked ≡ replay = (same_bool_decides marked replay).0 parts.0 in
        let named : call ≡ called = (same_call_decides call called).0 parts.1 in
        crashed_are now replay kept called stood event ∙ (λ i. map session_at (commit_if (has_crashed_commit final commits session (sym mark i) (sym named i)) session event))
    item_are now frame (item.CrashedCall marked call) count (inl is) stood event = absurd (let none : ⊥ = cc in none)
    item_are now frame (item.CrashedCall marked call) count (inr is) stood event = absurd (let none : ⊥ = cc in none)
    item_are now (up.Outcome x) (item.CrashedOutcome asked) count its stood event = quiet_are (ServedFrame session now (up.Outcome x) Stopped) stood.runs (λ entry commits_as. commits_as)
    item_are now frame (item.CrashedOutcome asked) count (inl is) stood event = absurd (let none : ⊥ = cc in none)
    item_are now frame (item.CrashedOutcome asked) count (inr is) stood event = absurd (let none : ⊥ = cc in none)
    item_are now frame one count its stood event =
        quiet_are (ServedFrame session now frame (item_telling session count one)) stood.runs (λ entry commits_as. no_commit entry session now frame count one commits_as refl (λ stopped. let none : ⊥ = cc in none))

  -- AN EVENT --------------------------------------------------------------------------------------

  -- as many entries of each session as commits, in each run to this history that goes on so
  abbrev CountsAre : List Happened → List Happened → Server → List Commit → Type 0
  CountsAre history happened server commits = (gains : Gains base history happened server) (session : SessionId) → entries_of gains.before.core.entries session ≡ commits_by session commits

  event_since : (m : Machine) (more : List HappenedAt) (happened : List Happened) → EventTells m more happened → (history later : List Happened) (server : Server) (commits : List Commit) (gained : List Entry)
      → Runs base (history ++ happened) server → stops_last (happened ++ later) ≡ true → final ≡ server.core.entries ++ gained → All (CameFrom later) gained → CountsAre history happened server commits
      → Since base history happened server (commits_from final commits more)
  event_since m _ _ TellsNothing history later server commits gained runs stops split came counts = since_none base history server (subst (λ (h : List Happened). Runs base h server) (append-nil history) runs)
  event_since m _ _ (TellsItem number front served at_front of_front its) history later server commits gained runs stops split came counts =
      let what : Happened = ServedFrame served.session m.tick front.first.frame (item_telling served.session (commits_after front.link served.item) served.item) in
      let here : List Commit = item_commits final commits served.event served.session served.item in
      let few = adds base history what server runs in
      let before = last base history what server runs in
      let gains : Gains base history (what ∷ []) server = record { before = before.before; runs = before.runs; few = few.few; entries = entries_now base history what server runs; came = own_came what few.few few.own } in
      let stood : Stood history later what served.session server commits gained = record { runs = runs; stops = stops; split = split; came = came; counts = counts gains served.session } in
      subst (Since base history (what ∷ []) server) (sym (append-nil here))
      (since_last base history what server runs here (item_are history later served.session server commits gained m.tick front.first.frame served.item (commits_after front.link served.item) its stood served.event))
  event_since m _ _ (TellsRun ran calls happened named are) history later server commits gained runs stops split came counts =
      subst (Since base history (begins_outside (next_session m.server) m.tick ++ happened) server)
      (ap (λ (session : SessionId). run_commits session (m.event + 1) ran.runs) (sym (ap session_of named)) ∙ sym (append-nil (run_commits (session_of ran.ltxid) (m.event + 1) ran.runs)))
      (outside_since base (next_session m.server) m.tick (m.event + 1) calls ran.runs history happened are server runs)
  event_since m _ _ (TellsAnswer x told up) history later server commits gained runs stops split came counts = since_quiet base history (WasAsked x (Says (outcome_frame told))) server runs (λ entry commits_as. commits_as)

  -- ALL EVENTS ------------------------------------------------------------------------------------

  event_aligned : (m : Machine) (moments more : List HappenedAt) (history happened : List Happened) → EventTells m more happened → (later : List Happened) (server : Server) → Runs base (history ++ happened) server
      → stops_last ((history ++ happened) ++ later) ≡ true → (gained : List Entry) → final ≡ server.core.entries ++ gained → All (CameFrom later) gained
      → ((before : Server) → Runs base history before → (few : List Entry) → final ≡ before.core.entries ++ few → All (CameFrom (happened ++ later)) few → AreOf before.core.entries (commits_from final [] moments))
      → AreOf server.core.entries (commits_from final [] (moments ++ more))
  event_aligned m moments more history happened one later server runs stops gained split came again =
      ap (map session_in) since.gains.entries
      ∙ (are_more since.gains.before.core.entries since.gains.few (commits_from final [] moments) (commits_from final behind more) (earlier since.gains) since.are
      ∙ ap (map session_at) (sym (commits_more final [] moments more)))
    where
      behind : List Commit
      behind = commits_behind final [] moments

      earlier : (gains : Gains base history happened server) → AreOf gains.before.core.entries (commits_from final [] moments)
      earlier gains =
          again gains.before gains.runs (gains.few ++ gained)
          (split ∙ (ap (λ (l : List Entry). l ++ gained) gains.entries ∙ append_assoc gains.before.core.entries gains.few gained))
          (all_came happened later gains.few gained gains.came came)

      counts : CountsAre history happened server behind
      counts gains session =
          let so_far : entries_of gains.before.core.entries session ≡ commits_by session (commits_from final [] moments) = same_counts session gains.before.core.entries (commits_from final [] moments) (earlier gains) in
          let all : commits_by session behind ≡ commits_by session (commits_from final [] moments) + 0 = behind_counts session final [] moments in
          omega (arith, so_far, all)

      since : Since base history happened server (commits_from final behind more)
      since =
          event_since m more happened one history later server behind gained runs
          (stops_rest history (happened ++ later) (subst (λ (h : List Happened). stops_last h ≡ true) (append_assoc history happened later) stops)) split came counts

  -- The entries of a run so far are of the commits so far, where those that the report has behind
  -- them come from what happened later.
  pub aligned : (events : ℕ) (moments : List HappenedAt) (history : List Happened) → RunTells events moments history → (later : List Happened) (server : Server) → Runs base history server → stops_last (history ++ later) ≡ true
      → (gained : List Entry) → final ≡ server.core.entries ++ gained → All (CameFrom later) gained → AreOf server.core.entries (commits_from final [] moments)
  aligned _ _ _ NothingYet later server runs stops gained split came =
      ap (map session_in) (empty_run server.core.entries (λ entry contains. let from = entry_from_item base [] server runs entry contains in none_in from.0 from.1.0))
  aligned _ _ _ (TellsMore m moments more history happened tells one) later server runs stops gained split came =
      event_aligned m moments more history happened one later server runs stops gained split came
      (λ before runs_before few all from. aligned m.event moments history tells (happened ++ later) before runs_before (subst (λ (h : List Happened). stops_last h ≡ true) (append_assoc history happened later) stops) few all from)
