-- How many entries the session has whose frame an event serves, before it and behind it.
use Rattle.std.proofs.Common.{◌≡◌, refl, sym, ap, subst, ◌∙◌, Bool, true, false, ℕ, ◌+◌, ◌<◌, ◌≤◌, cond, List, [], ◌∷◌, ◌++◌, Some, arith}
use Rattle.std.specs.Prelude.{All, Contains, nat_lt}
use Rattle.std.proofs.lemmas.List.Elements.{Contains-append_right, Contains-push}
use Rattle.svc_values.specs.declared.call.Call.{Call}
use Rattle.svc_values.specs.declared.draw.Draw.{Draw}
use Rattle.svc_values.specs.declared.entry.Entry.{Entry}
use Rattle.svc_values.specs.declared.entry.Ltxid.{Ltxid}
use Rattle.svc_values.specs.declared.entry.SessionId.{SessionId}
use Rattle.svc_values.specs.declared.frame.Up.{Up}
use Rattle.svc_values.specs.declared.frame.Up.TheVariants as up
use Rattle.svc_values.specs.declared.frame.Down.TheVariants as down
use Rattle.svc_values.specs.meaning.Calls.{has_commit}
use Rattle.svc_values.specs.meaning.Endings.{ends_committed}
use Rattle.svc_values.specs.meaning.Identifiers.{session_of}
use Rattle.outage_schedule.specs.declared.note.AskResult.{AskResult}
use Rattle.outage_schedule.specs.declared.note.AskResult.TheVariants as told
use Rattle.outage_schedule.specs.declared.item.Item.{Item}
use Rattle.outage_schedule.specs.declared.item.Item.TheVariants as item
use Rattle.outage_schedule.specs.declared.item.Served.{Served}
use Rattle.run_clauses.specs.meaning.EntryEvents.{entries_of}
use Rattle.server_model.specs.meaning.Base as base
use Rattle.server_model.specs.meaning.Outcomes.{Says, Stopped}
use Rattle.server_model.specs.Runs.{Happened, Served as ServedFrame, Server, On, Runs}
use Rattle.server_model.specs.Laws.{CommitsAs, EntryNumbers}
use Rattle.server_model.specs.Seen.{Seen, HasPower}
use Rattle.server_model.specs.ServiceCalls.{CameFrom}
use Rattle.server_model.proofs.Offered.{answers_stand, marked_stores_none}
use Rattle.world_model.specs.Coupled.{Coupled}
use Rattle.world_model.specs.meaning.Links.{link_at}
use Rattle.world_model.specs.records.Number.{numbered_after}
use Rattle.world_model.specs.Parts.{is_commit_frame, is_unmarked_frame}
use Rattle.world_model.specs.meaning.ServiceDid.{item_telling, front_telling}
use Rattle.world_model.specs.meaning.Serving.{Front, is_commit, commits_after, identifier, is_item_of}
use Rattle.world_model.specs.Traced.{Traced}
use Rattle.world_model.proofs.number.Gaining.{commits_unmarked, one_of, gains_none}
use Rattle.world_model.proofs.number.GainedQuiet.{entries_more, number_named, stored_now}
use Rattle.world_model.proofs.number.GainedOne.{all_contains, after_few, after_none}
use Rattle.world_model.proofs.number.Numbered.{all_below}
use Rattle.world_model.proofs.events.Tests.{lt_from}

-- WHAT A FRAME STORES -----------------------------------------------------------------------------

-- what is told of an outcome stores none
says_none : (entry : Entry) (session : SessionId) (now : ℕ) (replay : Bool) (kept : List Draw) (called : Call) (commits : ℕ) (asked : Ltxid) (result : AskResult) → CommitsAs entry (ServedFrame session now (up.Call replay kept called) (item_telling session commits (item.Outcome asked result))) → ⊥
says_none entry session now replay kept called commits asked (told.Committed completed) so = so
says_none entry session now replay kept called commits asked told.Uncommitted so = so
says_none entry session now replay kept called commits asked (told.ServerAhead next) so = so
says_none entry session now replay kept called commits asked (told.ClientAhead next) so = so
says_none entry session now replay kept called commits asked (told.Forgotten horizon) so = so

-- an entry comes of an item that says Committed, or that was stopped
pub item_commits : (entry : Entry) (session : SessionId) (now : ℕ) (frame : Up) (commits : ℕ) (one : Item) → CommitsAs entry (ServedFrame session now frame (item_telling session commits one)) → is_commit one ≡ false → (item_telling session commits one ≡ Stopped → ⊥) → ⊥
item_commits entry session now (up.Call replay kept called) commits item.Connect so none going = absurd so
item_commits entry session now (up.Call replay kept called) commits (item.Begin settings) so none going = absurd so
item_commits entry session now (up.Call replay kept called) commits (item.Call marked call answers draws) so none going = let ends : ends_committed answers ≡ true = so.2 in let never : ⊥ = cc in never
item_commits entry session now (up.Call replay kept called) commits (item.Blocked call) so none going = absurd so
item_commits entry session now (up.Call replay kept called) commits (item.CrashedCall marked call) so none going = going refl
item_commits entry session now (up.Call replay kept called) commits (item.CrashedOutcome asked) so none going = going refl
item_commits entry session now (up.Call replay kept called) commits item.End so none going = absurd so
item_commits entry session now (up.Call replay kept called) commits item.Close so none going = absurd so
item_commits entry session now (up.Call replay kept called) commits (item.Refused cause) so none going = absurd so
item_commits entry session now (up.Call replay kept called) commits (item.Outcome asked result) so none going = says_none entry session now replay kept called commits asked result so
item_commits entry session now frame commits one so none going = absurd so

-- THE SESSION OF A FRAME --------------------------------------------------------------------------

power_on : (is_up is_settled : Bool) (server : Server) → is_up ≡ true → HasPower is_up is_settled server.power → server.power ≡ On
power_on true is_settled server up has = has
power_on false is_settled server up has = absurd (let none : ⊥ = cc in none)

module _ (before after : Seen) (old new : Traced) (was : Coupled before old) (now : Coupled after new) (begun : after.start ≡ before.start) (numbered : numbered_after [] old.entries ≡ true) (still : numbered_after [] new.entries ≡ true)
    (numbers : EntryNumbers) (more : List Entry) (entries : new.entries ≡ old.entries ++ more) (happened : List Happened) (came : All (CameFrom happened) more) (history : after.history ≡ before.history ++ happened)
    (number : ℕ) (front : Front) (served : Served) (there : link_at old.machine.links number ≡ Some front.link) (living : front.link.is_living ≡ true)
    (is : happened ≡ ServedFrame served.session old.machine.tick front.first.frame (front_telling front served) ∷ []) where
  abbrev what : Happened
  what = ServedFrame served.session old.machine.tick front.first.frame (front_telling front served)

  -- nothing is stored by a frame that is no call without the mark
  pub marked_none : is_unmarked_frame front.first.frame ≡ false → (session : SessionId) → entries_of more session ≡ 0
  marked_none marked session =
      gains_none happened session more came
      (λ one contains entry commits same.
      let equal : what ≡ one = one_of what one (subst (λ (list : List Happened). Contains list one) is contains) in
      let plain : is_unmarked_frame front.first.frame ≡ true = commits_unmarked entry served.session old.machine.tick front.first.frame (front_telling front served) (subst (CommitsAs entry) (sym equal) commits) in
      let never : ⊥ = cc in never)

  -- nor by one whose item does not say Committed, and was not stopped
  pub uncommitted_none : is_commit served.item ≡ false → (front_telling front served ≡ Stopped → ⊥) → (session : SessionId) → entries_of more session ≡ 0
  uncommitted_none none going session =
      gains_none happened session more came
      (λ one contains entry commits same.
      let equal : what ≡ one = one_of what one (subst (λ (list : List Happened). Contains list one) is contains) in
      item_commits entry served.session old.machine.tick front.first.frame (commits_after front.link served.item) served.item (subst (CommitsAs entry) (sym equal) commits) none going)

  module _ (has : front.link.session ≡ Some served.session) (runs_on : before.state.is_up ≡ true) (present : served.session.incarnation ≡ before.state.store.incarnation) where
    abbrev count : ℕ
    count = entries_of old.entries served.session

    pub count_is : count ≡ front.link.commits
    count_is = sym (number_named old.entries front.link served.session has) ∙ stored_now before old number front.link was there living

    pub count_more : entries_of new.entries served.session ≡ count + entries_of more served.session
    count_more = ap (λ (all : List Entry). entries_of all served.session) entries ∙ entries_more old.entries more served.session

    stored_old : before.start.entries ++ was.history.server.core.entries ≡ old.entries
    stored_old = sym (was.entries ∙ was.history.entries)

    stored_new : before.start.entries ++ now.history.server.core.entries ≡ new.entries
    stored_new = sym (now.entries ∙ (now.history.entries ∙ ap (λ (b : base.Base). b.entries ++ now.history.server.core.entries) begun))

    under : (entry : Entry) → Contains (before.start.entries ++ was.history.server.core.entries) entry → session_of entry.ltxid ≡ served.session → entry.ltxid.number < count
    under entry contains same =
        let below = all_contains (λ (one : Entry). nat_lt one.ltxid.number (entries_of old.entries (session_of one.ltxid))) old.entries entry (all_below old.entries numbered) (subst (λ (all : List Entry). Contains all entry) stored_old contains) in
        subst (λ (s : SessionId). entry.ltxid.number < entries_of old.entries s) same (lt_from entry.ltxid.number (entries_of old.entries (session_of entry.ltxid)) below)

    on : was.history.server.power ≡ On
    on = power_on before.state.is_up before.state.is_settled was.history.server runs_on was.history.power

    at_present : served.session.incarnation ≡ was.history.server.core.opening.incarnation
    at_present = present ∙ was.history.incarnation

    numbered_old : numbered_after [] (before.start.entries ++ was.history.server.core.entries) ≡ true
    numbered_old = subst (λ (all : List Entry). numbered_after [] all ≡ true) (sym stored_old) numbered

    later : Runs before.start (before.history ++ what ∷ []) now.history.server
    later = subst (λ (b : base.Base). Runs b (before.history ++ what ∷ []) now.history.server) begun (subst (λ (all : List Happened). Runs after.start all now.history.server) (history ∙ ap (λ (list : List Happened). before.history ++ list) is) now.history.runs)

    -- one entry at most
    pub count_few : entries_of new.entries served.session ≤ count + 1
    count_few =
        subst (λ (all : List Entry). entries_of all served.session ≤ count + 1) stored_new
        (after_few before.start was.sound before.history was.history.server was.history.runs on served.session at_present count under numbers numbered_old served.session old.machine.tick front.first.frame (front_telling front served) now.history.server later)

    -- none of a call without a commit
    plain_none : (replay : Bool) (kept : List Draw) (called : Call) → front.first.frame ≡ up.Call replay kept called → has_commit called ≡ false → entries_of new.entries served.session ≤ count
    plain_none replay kept called same none =
        subst (λ (all : List Entry). entries_of all served.session ≤ count) stored_new
        (after_none before.start was.sound before.history was.history.server was.history.runs on served.session at_present count under numbers numbered_old served.session old.machine.tick replay kept called (front_telling front served) now.history.server
        (subst (λ (f : Up). Runs before.start (before.history ++ ServedFrame served.session old.machine.tick f (front_telling front served) ∷ []) now.history.server) same later) none)

    -- where it gained one, the frame is a commit call without the mark
    pub grew_commit : 1 ≤ entries_of more served.session → is_commit_frame front.first.frame ≡ true
    grew_commit grew = by front.first.frame refl
      where
        never : is_unmarked_frame front.first.frame ≡ false → ⊥
        never marked = let none : entries_of more served.session ≡ 0 = marked_none marked served.session in let no : ⊥ = omega (arith, none, grew) in no

        commit : (kept : List Draw) (called : Call) → front.first.frame ≡ up.Call false kept called → (test : Bool) → has_commit called ≡ test → test ≡ true
        commit kept called same true has_it = refl
        commit kept called same false has_it = let few = plain_none false kept called same has_it in absurd (let no : ⊥ = omega (arith, few, count_more, grew) in no)

        by : (frame : Up) → front.first.frame ≡ frame → is_commit_frame frame ≡ true
        by (up.Call true kept called) same = absurd (never (ap is_unmarked_frame same))
        by (up.Call false kept called) same = commit kept called same (has_commit called) refl
        by up.Connect same = absurd (never (ap is_unmarked_frame same))
        by (up.Begin settings) same = absurd (never (ap is_unmarked_frame same))
        by (up.Outcome x) same = absurd (never (ap is_unmarked_frame same))
        by up.End same = absurd (never (ap is_unmarked_frame same))
        by up.Close same = absurd (never (ap is_unmarked_frame same))

    -- one for an item that says Committed
    committed_by : (frame : Up) (one : Item) → front.first.frame ≡ frame → served.item ≡ one → is_item_of frame one ≡ true → is_commit one ≡ true → count + 1 ≤ entries_of new.entries served.session
    committed_by (up.Call replay kept called) (item.Call marked call answers draws) same it is_item commits =
        let number_is : ℕ = commits_after front.link served.item in
        let equal : what ≡ ServedFrame served.session old.machine.tick (up.Call replay kept called) (item_telling served.session number_is (item.Call marked call answers draws)) =
        ap (λ (f : Up). ServedFrame served.session old.machine.tick f (front_telling front served)) same ∙ ap (λ (i : Item). ServedFrame served.session old.machine.tick (up.Call replay kept called) (item_telling served.session number_is i)) it in
        let told_now : Contains after.history (ServedFrame served.session old.machine.tick (up.Call replay kept called) (Says (down.Reply answers draws (identifier served.session number_is)))) =
        subst (λ (list : List Happened). Contains list (ServedFrame served.session old.machine.tick (up.Call replay kept called) (Says (down.Reply answers draws (identifier served.session number_is))))) (sym (history ∙ ap (λ (list : List Happened). before.history ++ list) (is ∙ ap (λ (h : Happened). h ∷ []) equal)))
        (Contains-push before.history (ServedFrame served.session old.machine.tick (up.Call replay kept called) (Says (down.Reply answers draws (identifier served.session number_is))))) in
        by replay told_now (ap (λ (i : Item). commits_after front.link i) it) commits
      where
        add_one : (test : Bool) → test ≡ true → front.link.commits + cond test 1 0 ≡ front.link.commits + 1
        add_one true yes_is = refl
        add_one false yes_is = absurd (let none : ⊥ = cc in none)

        by : (mark : Bool) → Contains after.history (ServedFrame served.session old.machine.tick (up.Call mark kept called) (Says (down.Reply answers draws (identifier served.session (commits_after front.link served.item)))))
            → commits_after front.link served.item ≡ front.link.commits + cond (ends_committed answers) 1 0 → ends_committed answers ≡ true → count + 1 ≤ entries_of new.entries served.session
        by true told_now number_is commits =
            let none : ends_committed answers ≡ false = marked_stores_none after.start after.history now.history.server now.history.runs served.session old.machine.tick kept called answers draws (identifier served.session (commits_after front.link served.item)) told_now in
            absurd (let never : ⊥ = cc in never)
        by false told_now number_is commits =
            let stored = answers_stand after.start after.history now.history.server now.history.runs served.session old.machine.tick kept called answers draws (identifier served.session (commits_after front.link served.item)) told_now commits in
            let contains : Contains new.entries stored.0 = subst (λ (all : List Entry). Contains all stored.0) (sym (now.entries ∙ now.history.entries)) (Contains-append_right after.start.entries now.history.server.core.entries stored.0 stored.1.0) in
            let below = all_contains (λ (one : Entry). nat_lt one.ltxid.number (entries_of new.entries (session_of one.ltxid))) new.entries stored.0 (all_below new.entries still) contains in
            let less : stored.0.ltxid.number < entries_of new.entries (session_of stored.0.ltxid) = lt_from stored.0.ltxid.number (entries_of new.entries (session_of stored.0.ltxid)) below in
            let mine : stored.0.ltxid.number < entries_of new.entries served.session = subst (λ (s : SessionId). stored.0.ltxid.number < entries_of new.entries s) (sym stored.1.1.0) less in
            let at : stored.0.ltxid.number + 1 ≡ commits_after front.link served.item = stored.1.1.1 in
            let sum : commits_after front.link served.item ≡ front.link.commits + 1 = number_is ∙ add_one (ends_committed answers) commits in
            let same : count ≡ front.link.commits = count_is in
            omega arith
    committed_by up.Connect (item.Call marked call answers draws) same it is_item commits = absurd (let none : ⊥ = cc in none)
    committed_by (up.Begin settings) (item.Call marked call answers draws) same it is_item commits = absurd (let none : ⊥ = cc in none)
    committed_by (up.Outcome x) (item.Call marked call answers draws) same it is_item commits = absurd (let none : ⊥ = cc in none)
    committed_by up.End (item.Call marked call answers draws) same it is_item commits = absurd (let none : ⊥ = cc in none)
    committed_by up.Close (item.Call marked call answers draws) same it is_item commits = absurd (let none : ⊥ = cc in none)
    committed_by frame one same it is_item commits = absurd (let none : ⊥ = cc in none)

    pub count_committed : is_item_of front.first.frame served.item ≡ true → is_commit served.item ≡ true → count + 1 ≤ entries_of new.entries served.session
    count_committed is_item commits = committed_by front.first.frame served.item refl refl is_item commits
