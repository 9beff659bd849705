-- Behind an event each connection's session is as far ahead of what is held as what is out
-- explains.
use Rattle.std.proofs.Common.{◌≡◌, ◌≢◌, refl, sym, ap, subst, ◌∙◌, Bool, true, false, ℕ, ◌+◌, ◌≤◌, ◌&&◌, List, [], ◌∷◌, count_by, Option, Some, None, ◌⊎◌, inl, inr, arith, if◌then◌else◌, le_refl}
use Rattle.std.specs.Prelude.{◌==◌, ◌||◌, not, is_some, option_and_then}
use Rattle.std.specs.List.{list_all}
use Rattle.std.specs.Option.{option_map_or}
use Rattle.std.proofs.lemmas.Bool.{and_parts, not-true}
use Rattle.svc_values.specs.declared.entry.Entry.{Entry}
use Rattle.svc_values.specs.declared.entry.SessionId.{SessionId}
use Rattle.svc_values.specs.declared.frame.Up.{Up}
use Rattle.svc_values.specs.declared.frame.Up.TheVariants as up
use Rattle.svc_values.specs.meaning.Identifiers.{session_of}
use Rattle.client_model.specs.declared.input.Input.TheVariants.{Took}
use Rattle.outage_schedule.specs.declared.event.Event.{Event}
use Rattle.outage_schedule.specs.declared.item.Served.{Served}
use Rattle.outage_schedule.specs.declared.note.Note.{Note}
use Rattle.run_clauses.specs.meaning.EntryEvents.{entries_of}
use Rattle.server_model.specs.Laws.{EntryNumbers}
use Rattle.server_model.specs.Runs.{Served as ServedFrame}
use Rattle.server_model.specs.Seen.{Seen}
use Rattle.world_model.specs.records.Basic.{is_made, is_named, sessions_of}
use Rattle.world_model.specs.meaning.Frames.{Sent, Handled}
use Rattle.world_model.specs.records.Hold.{is_connect}
use Rattle.world_model.specs.Orderly.{Orderly}
use Rattle.world_model.specs.meaning.Links.{Link, new_link, link_at, sends, takes}
use Rattle.world_model.specs.meaning.Acting.{sent_by}
use Rattle.world_model.specs.meaning.Machines.{Machine, next_session}
use Rattle.world_model.specs.meaning.Matching.{Noted, ServedOn, Crashed}
use Rattle.world_model.specs.records.Number.{numbered_after, is_known, is_near, is_counted, ahead_rightly, is_told, served_near}
use Rattle.world_model.specs.OneEvent.{OneEvent}
use Rattle.world_model.specs.Parts.{number_of, is_commit_call, is_commit_frame, is_unmarked_frame, implies}
use Rattle.world_model.specs.meaning.Serving.{Front, front_at, is_of_front, is_ordinary, is_item_of, is_served_by, is_commit, is_last, commits_after, after_front, handled}
use Rattle.world_model.specs.meaning.Cutting.{cut_link, reaped_link}
use Rattle.world_model.specs.meaning.Crashing.{is_crashed_item, fallen_link}
use Rattle.world_model.specs.meaning.ServiceDid.{front_telling}
use Rattle.world_model.specs.ServiceDid.{front_served}
use Rattle.world_model.specs.Traced.{Traced}
use Rattle.world_model.specs.meaning.Walking.{by_kind}
use Rattle.world_model.specs.records.Wire.{is_fresh, is_sent_front, is_reply_front, handled_from, one_is_out}
use Rattle.world_model.proofs.basic.Ends.{sends_alike, handled_alike, cut_case, fallen_case}
use Rattle.world_model.proofs.events.AllLinks.{IsFront, front_is, at_link}
use Rattle.world_model.proofs.basic.BasicSessions.{all_wired}
use Rattle.world_model.proofs.wire.Fronts.{connect_first}
use Rattle.world_model.proofs.number.Gaining.{did_kind, DidOf, links_apart, session_in, made_before}
use Rattle.world_model.proofs.number.GainedQuiet.{entries_more, number_named, number_none, stored_now, serves_at, IsQuiet, Owns, quiet_none}
use Rattle.world_model.proofs.number.GainedFront.{marked_none, uncommitted_none, count_is, count_few, grew_commit, count_committed}
use Rattle.world_model.proofs.events.Happened.{Followed, follow_happens, at_event}
use Rattle.world_model.proofs.hold.Held.{held_now}
use Rattle.world_model.proofs.number.KeptEntries.{numbered_now}
use Rattle.world_model.proofs.number.LinkAhead.{served_right, stopped_right}
use Rattle.world_model.proofs.number.LinkCounts.{Known, Right}
use Rattle.world_model.proofs.basic.LinkLives.{counts_commits, implied}
use Rattle.world_model.proofs.basic.LinkNamed.{other_session}
use Rattle.world_model.proofs.number.LinkRight.{idle_right, taken_right, cut_right, reaped_right, fallen_right}
use Rattle.world_model.proofs.number.LinkServed.{held_some}
use Rattle.world_model.proofs.basic.NamesKept.{is_wired, wired_sent, wired_right, serving}
use Rattle.world_model.proofs.number.NumbersTurn.{front_follows, none_of_session}
use Rattle.world_model.proofs.events.Tests.{eq_from, not_both, same_session_is}
use Rattle.world_model.proofs.events.Turning.{Turns, Stays, IsSaid, IsTaken, IsServed, IsCut, IsReaped, HasFallen, WasStopped, WasServed, ComesFrom, IsNew, IsOld, all_turn}
use Rattle.world_model.proofs.number.NumbersItems.{commit_connects, connect_marked, crashed_commit, crashed_rep, is_front_link, is_halted, not_connect_last, not_last_committed, one_or_none, ordinary_going, plus_cond, plus_cond_one, right_from, told_item, too_short}

-- THE EVENT ---------------------------------------------------------------------------------------

module _ (before after : Seen) (old new : Traced) (event : Event) (note : Note) (items left : List Served) (one : OneEvent before old event note items left after new) (inv : Orderly old) where
  abbrev m : Machine
  m = at_event old.machine

  abbrev links : List Link
  links = old.machine.links

  abbrev pub by : Followed old.setting old.machine event note items left new.machine
  by = follow_happens old.setting old.machine event note items left new.machine one.follows

  abbrev pub kind : Noted
  kind = by.kind

  pub did : DidOf old.machine items kind one.happened
  did = did_kind old.machine event note items kind one.happened by.is_kind one.did

  follows : by_kind old.setting m items kind ≡ Some (new.machine, left)
  follows = sym (ap (option_and_then (by_kind old.setting m items)) by.is_kind) ∙ one.follows

  pub apart : (i j : ℕ) (a b : Link) (s r : SessionId) → i ≢ j → link_at links i ≡ Some a → link_at links j ≡ Some b → a.session ≡ Some s → b.session ≡ Some r → s ≡ r → ⊥
  apart i j a b s r differ here there is at = links_apart links i j a b s r differ here there is at (and_parts _ (list_all _ (sessions_of old)) inv.basic.apart).0

  pub made : (number : ℕ) (link : Link) (a : SessionId) → link_at links number ≡ Some link → link.session ≡ Some a → a ≡ next_session old.machine.server → ⊥
  made number link a there is same = made_before old.machine.server a (session_in (is_made old) links number link a there is (and_parts (list_all (is_made old) (sessions_of old)) _ inv.basic.made).0) same

  -- where a session lives the server is up
  up_by : (number : ℕ) (link : Link) → link_at links number ≡ Some link → link.is_living ≡ true → old.machine.server.is_up ≡ true
  up_by number link there living = either_up old.machine.server.is_up inv.basic.down
    where
      either_up : (is_up : Bool) → (is_up || list_all (λ l. not l.is_open && not l.is_living) links) ≡ true → is_up ≡ true
      either_up true down = refl
      either_up false down =
          let dead : not link.is_living ≡ true = (and_parts (not link.is_open) (not link.is_living) (at_link (λ l. not l.is_open && not l.is_living) links number link down there)).1 in
          absurd (not_both link.is_living living (not-true link.is_living dead))

  seen_up : old.machine.server.is_up ≡ true → before.state.is_up ≡ true
  seen_up runs = sym one.coupled_before.server.is_up ∙ runs

  pub owns : Owns old items one.more_entries one.happened one.own apart made kind
  owns front served rest number serves at same connects =
      let is = front_is links number front at in
      let met = front_follows old.setting m new.machine items left kind follows (up_by number front.link is.there is.living) number serves front served rest at same in
      other_session old.machine.server front.link front.first.frame served.session connects (serving m front served met.of_front)

  quiet : (number : ℕ) (link : Link) (session : SessionId) → link_at links number ≡ Some link → link.session ≡ Some session → IsQuiet old.machine items kind number → entries_of one.more_entries session ≡ 0
  quiet number link session there has silent = quiet_none old items one.more_entries one.happened one.own apart made number link session there has kind did silent owns

  -- as many as before, where the event serves nothing of it
  number_quiet : (number : ℕ) (link next : Link) → link_at links number ≡ Some link → next.session ≡ link.session → IsQuiet old.machine items kind number → number_of new.entries next ≡ number_of old.entries link
  number_quiet number link next there same silent = cases link.session refl
    where
      cases : (found : Option SessionId) → link.session ≡ found → number_of new.entries next ≡ number_of old.entries link
      cases None none = number_none new.entries next (same ∙ none) ∙ sym (number_none old.entries link none)
      cases (Some session) has =
          let more : entries_of new.entries session ≡ entries_of old.entries session + entries_of one.more_entries session = ap (λ (all : List Entry). entries_of all session) one.entries ∙ entries_more old.entries one.more_entries session in
          let none : entries_of one.more_entries session ≡ 0 = quiet number link session there has silent in
          let equal : entries_of new.entries session ≡ entries_of old.entries session = omega arith in
          number_named new.entries next session (same ∙ has) ∙ (equal ∙ sym (number_named old.entries link session has))

  number_same : (number : ℕ) (link next : Link) → link_at links number ≡ Some link → link_at new.machine.links number ≡ Some next → next.session ≡ link.session → next.commits ≡ link.commits → next.is_living ≡ link.is_living
      → number_of new.entries next ≡ number_of old.entries link
  number_same number link next there here session commits living = cases link.is_living refl
    where
      cases : (lives : Bool) → link.is_living ≡ lives → number_of new.entries next ≡ number_of old.entries link
      cases true is = stored_now after new number next one.coupled_after here (living ∙ is) ∙ (commits ∙ sym (stored_now before old number link one.coupled_before there is))
      cases false is =
          number_quiet number link next there session
          (λ front served rest serves at same. not_both link.is_living (is_front_link links number front link at there).1 is)

  known : (number : ℕ) (link : Link) → link_at links number ≡ Some link → Known link
  known number link there = record {
    sent = at_link is_sent_front links number link inv.wire.sent there;
    replies = at_link is_reply_front links number link inv.wire.replies there;
    handled = at_link (λ l. handled_from 0 l.served) links number link inv.wire.handled there;
    out = at_link one_is_out links number link inv.wire.out there;
    near = at_link served_near links number link inv.number.served there;
    counts = at_link counts_commits links number link inv.basic.commits there;
    held = at_link is_told links number link inv.number.told there;
  }

  right : (number : ℕ) (link : Link) → link_at links number ≡ Some link → Right (number_of old.entries link) link
  right number link there =
      right_from old link (at_link (is_near old) links number link inv.number.near there) (at_link (is_counted old) links number link inv.number.counted there) (at_link (ahead_rightly old) links number link inv.number.ahead there)

  pub happens_one : (number : ℕ) (front : Front) (served : Served) → front_at links number ≡ Some front → items ≡ served ∷ left → serves_at kind ≡ Some number → one.happened ≡ ServedFrame served.session old.machine.tick front.first.frame (front_telling front served) ∷ []
  happens_one number front served at same serves = cases kind serves did
    where
      told_front : one.happened ≡ front_served old.machine.tick (front_at links number) items → one.happened ≡ ServedFrame served.session old.machine.tick front.first.frame (front_telling front served) ∷ []
      told_front is = is ∙ (ap (λ (f : Option Front). front_served old.machine.tick f items) at ∙ ap (front_served old.machine.tick (Some front)) same)

      cases : (what : Noted) → serves_at what ≡ Some number → DidOf old.machine items what one.happened → one.happened ≡ ServedFrame served.session old.machine.tick front.first.frame (front_telling front served) ∷ []
      cases (ServedOn other frame) serves is = let equal : other ≡ number = cc in told_front (is ∙ ap (λ (n : ℕ). front_served old.machine.tick (front_at links n) items) equal)
      cases (Crashed other after_so failover down) serves is =
          let equal : other ≡ number = cc in
          let there = front_is links number front at in
          told_front (is ∙ (ap (λ (test : Bool). if test then front_served old.machine.tick (front_at links other) items else []) (up_by number front.link there.there there.living) ∙ ap (λ (n : ℕ). front_served old.machine.tick (front_at links n) items) equal))
      cases what serves is = absurd (let none : ⊥ = cc in none)

  module _ (numbers : EntryNumbers) where
    -- A FRAME THAT IS SERVED ----------------------------------------------------------------------

    module _ (number : ℕ) (front : Front) (served : Served) (at : front_at links number ≡ Some front) (happens : one.happened ≡ ServedFrame served.session old.machine.tick front.first.frame (front_telling front served) ∷ [])
        (of_front : is_of_front m front served ≡ true) where
      abbrev session : SessionId
      session = served.session

      is : IsFront links number front
      is = front_is links number front at

      still : numbered_after [] new.entries ≡ true
      still = numbered_now before after old new one.coupled_before one.coupled_after one.start inv.number.entries

      has : is_connect front.first.frame ≡ false → front.link.session ≡ Some session
      has connects = other_session old.machine.server front.link front.first.frame session connects (serving m front served of_front)

      runs_on : old.machine.server.is_up ≡ true
      runs_on = up_by number front.link is.there is.living

      present : is_connect front.first.frame ≡ false → session.incarnation ≡ before.state.store.incarnation
      present connects =
          let lives : option_map_or (λ s. implies front.link.is_living (s.incarnation == old.machine.server.incarnation)) front.link.session true ≡ true =
          at_link (λ l. option_map_or (λ s. implies l.is_living (s.incarnation == old.machine.server.incarnation)) l.session true) links number front.link inv.basic.now is.there in
          let mine : implies front.link.is_living (session.incarnation == old.machine.server.incarnation) ≡ true =
          subst (λ (found : Option SessionId). option_map_or (λ s. implies front.link.is_living (s.incarnation == old.machine.server.incarnation)) found true ≡ true) (has connects) lives in
          eq_from session.incarnation old.machine.server.incarnation (implied front.link.is_living (session.incarnation == old.machine.server.incarnation) is.living mine)
          ∙ (one.coupled_before.server.opened (seen_up runs_on)).0

      abbrev entries_new : ℕ
      entries_new = entries_of new.entries session

      abbrev entries_more_here : ℕ
      entries_more_here = entries_of one.more_entries session

      abbrev entries_old : ℕ
      entries_old = entries_of old.entries session

      sum_new : entries_new ≡ entries_old + entries_more_here
      sum_new = ap (λ (all : List Entry). entries_of all session) one.entries ∙ entries_more old.entries one.more_entries session

      unmarked_none : is_unmarked_frame front.first.frame ≡ false → entries_more_here ≡ 0
      unmarked_none marked =
          marked_none before after old new one.coupled_before one.coupled_after one.start inv.number.entries still numbers one.more_entries one.entries one.happened one.own one.history number front served is.there is.living happens marked session

      plain_none : is_commit served.item ≡ false → is_halted served.item ≡ false → entries_more_here ≡ 0
      plain_none none going =
          uncommitted_none before after old new one.coupled_before one.coupled_after one.start inv.number.entries still numbers one.more_entries one.entries one.happened one.own one.history number front served is.there is.living happens none
          (told_item served.session (commits_after front.link served.item) served.item going) session

      old_count : is_connect front.first.frame ≡ false → entries_old ≡ front.link.commits
      old_count connects =
          count_is before after old new one.coupled_before one.coupled_after one.start inv.number.entries still numbers one.more_entries one.entries one.happened one.own one.history number front served is.there is.living happens
          (has connects) (seen_up runs_on) (present connects)

      new_few : is_connect front.first.frame ≡ false → entries_new ≤ entries_old + 1
      new_few connects =
          count_few before after old new one.coupled_before one.coupled_after one.start inv.number.entries still numbers one.more_entries one.entries one.happened one.own one.history number front served is.there is.living happens
          (has connects) (seen_up runs_on) (present connects)

      grew : is_connect front.first.frame ≡ false → 1 ≤ entries_more_here → is_commit_frame front.first.frame ≡ true
      grew connects more =
          grew_commit before after old new one.coupled_before one.coupled_after one.start inv.number.entries still numbers one.more_entries one.entries one.happened one.own one.history number front served is.there is.living happens
          (has connects) (seen_up runs_on) (present connects) more

      committed_more : is_connect front.first.frame ≡ false → is_item_of front.first.frame served.item ≡ true → is_commit served.item ≡ true → entries_old + 1 ≤ entries_new
      committed_more connects item_is commits =
          count_committed before after old new one.coupled_before one.coupled_after one.start inv.number.entries still numbers one.more_entries one.entries one.happened one.own one.history number front served is.there is.living happens
          (has connects) (seen_up runs_on) (present connects) item_is commits

      held_now_some : is_connect front.first.frame ≡ false → is_some front.link.held ≡ true
      held_now_some connects =
          held_some front.link session front.first front.later (at_link is_named links number front.link inv.basic.named is.there) (has connects) is.up (at_link is_sent_front links number front.link inv.wire.sent is.there)
          (at_link is_fresh links number front.link inv.wire.fresh is.there)

      -- what is counted then
      abbrev total : ℕ
      total = number_of new.entries (handled m.event front served)

      total_is : total ≡ entries_new
      total_is = number_named new.entries (handled m.event front served) session (handled_alike (λ l. l.session ≡ Some session) m.event front served (λ reply. refl) (λ reply. refl))

      commits_is : (handled m.event front served).commits ≡ commits_after front.link served.item
      commits_is = handled_alike (λ l. l.commits ≡ commits_after front.link served.item) m.event front served (λ reply. refl) (λ reply. refl)

      last_total : is_item_of front.first.frame served.item ≡ true → is_last served.item ≡ true → total ≡ commits_after front.link served.item
      last_total item_is last =
          let connects : is_connect front.first.frame ≡ false = not_connect_last front.first.frame served.item item_is last in
          let none : is_commit served.item ≡ false = not_last_committed served.item last in
          let more : entries_more_here ≡ 0 = plain_none none (ordinary_going front.first.frame served.item item_is) in
          let count : entries_old ≡ front.link.commits = old_count connects in
          let sum : commits_after front.link served.item ≡ front.link.commits = plus_cond front.link.commits (is_commit served.item) none in
          omega (arith, total_is, sum_new, more, count, sum)

      served_total : link_at new.machine.links number ≡ Some (handled m.event front served) → is_item_of front.first.frame served.item ≡ true → total ≡ commits_after front.link served.item
      served_total here item_is = cases (is_last served.item) refl
        where
          cases : (last : Bool) → is_last served.item ≡ last → total ≡ commits_after front.link served.item
          cases true last = last_total item_is last
          cases false going =
              stored_now after new number (handled m.event front served) one.coupled_after here
              (handled_alike (λ l. l.is_living ≡ not (is_last served.item)) m.event front served (λ reply. refl) (λ reply. refl) ∙ ap not going) ∙ commits_is

      -- in a crash the session is gone behind it
      crashed_total : is_item_of front.first.frame served.item ≡ true → total ≡ commits_after front.link served.item
      crashed_total item_is = cases (is_connect front.first.frame) (is_commit served.item) refl refl
        where
          cases : (connects commits : Bool) → is_connect front.first.frame ≡ connects → is_commit served.item ≡ commits → total ≡ commits_after front.link served.item
          cases true true connects commits = absurd (not_both (is_connect front.first.frame) connects (commit_connects front.first.frame served.item item_is commits))
          cases true false connects none =
              let made_next : session ≡ next_session old.machine.server = connected front.first.frame connects (serving m front served of_front) in
              let zero_old : entries_old ≡ 0 = ap (entries_of old.entries) made_next ∙ none_of_session old.machine.server old.entries (and_parts (list_all (λ entry. is_known old (session_of entry.ltxid)) old.entries) _ inv.number.known).0 in
              let more : entries_more_here ≡ 0 = unmarked_none (connect_marked front.first.frame connects) in
              let wired : is_wired front.link ≡ true = at_link is_wired links number front.link (all_wired links inv.wire.sent inv.wire.grammar inv.wire.replies inv.wire.handled) is.there in
              let served_none : front.link.served ≡ [] = connect_first front.link front.first front.later (wired_sent front.link wired) (wired_right front.link wired) is.up connects in
              let zero_commits : front.link.commits ≡ 0 =
              eq_from front.link.commits _ (at_link counts_commits links number front.link inv.basic.commits is.there) ∙ ap (λ (all : List Handled). count_by (λ h. is_commit h.served.item) all) served_none in
              let sum : commits_after front.link served.item ≡ front.link.commits = plus_cond front.link.commits (is_commit served.item) none in
              omega (arith, total_is, sum_new, zero_old, more, zero_commits, sum)
            where
              connected : (frame : Up) → is_connect frame ≡ true → is_served_by m.server front.link frame session ≡ true → session ≡ next_session old.machine.server
              connected up.Connect connects by_it = same_session_is session (next_session old.machine.server) by_it
              connected (up.Begin settings) connects by_it = absurd (let no : ⊥ = cc in no)
              connected (up.Call replay kept called) connects by_it = absurd (let no : ⊥ = cc in no)
              connected (up.Outcome x) connects by_it = absurd (let no : ⊥ = cc in no)
              connected up.End connects by_it = absurd (let no : ⊥ = cc in no)
              connected up.Close connects by_it = absurd (let no : ⊥ = cc in no)
          cases false true connects commits =
              let few : entries_new ≤ entries_old + 1 = new_few connects in
              let more : entries_old + 1 ≤ entries_new = committed_more connects item_is commits in
              let count : entries_old ≡ front.link.commits = old_count connects in
              let sum : commits_after front.link served.item ≡ front.link.commits + 1 = plus_cond_one front.link.commits (is_commit served.item) commits in
              omega (arith, total_is, few, more, count, sum)
          cases false false connects none =
              let more : entries_more_here ≡ 0 = plain_none none (ordinary_going front.first.frame served.item item_is) in
              let count : entries_old ≡ front.link.commits = old_count connects in
              let sum : commits_after front.link served.item ≡ front.link.commits = plus_cond front.link.commits (is_commit served.item) none in
              omega (arith, total_is, sum_new, more, count, sum)

      commits_out : is_item_of front.first.frame served.item ≡ true → total ≡ commits_after front.link served.item → is_commit served.item ≡ true → (is_commit_call front.first ≡ true) × (is_some front.link.held ≡ true)
      commits_out item_is count commits =
          let connects : is_connect front.first.frame ≡ false = commit_connects front.first.frame served.item item_is commits in
          let here : entries_old ≡ front.link.commits = old_count connects in
          let sum : commits_after front.link served.item ≡ front.link.commits + 1 = plus_cond_one front.link.commits (is_commit served.item) commits in
          let some : 1 ≤ entries_more_here = omega (arith, total_is, sum_new, count, here, sum) in
          (grew connects some, held_now_some connects)

      handled_right : is_item_of front.first.frame served.item ≡ true → total ≡ commits_after front.link served.item → Right total (handled m.event front served)
      handled_right item_is count =
          served_right front served (number_of old.entries front.link) (known number front.link is.there) (right number front.link is.there) is.up (stored_now before old number front.link one.coupled_before is.there is.living) total count (commits_out item_is count) m.event

      -- stopped
      stopped_total : (next : ℕ) → next ≡ entries_new → is_crashed_item front.first.frame served.item ≡ true → Right next (fallen_link m.event (after_front front served None))
      stopped_total next same crashed =
          let facts = crashed_rep front.first.frame served.item crashed in
          let count : number_of old.entries front.link ≡ entries_old = number_named old.entries front.link session (has facts.1) in
          let sum : next ≡ number_of old.entries front.link + entries_more_here = omega (arith, same, sum_new, count) in
          let few : next ≤ number_of old.entries front.link + 1 = let most : entries_new ≤ entries_old + 1 = new_few facts.1 in omega (arith, same, most, count) in
          stopped_right front served (number_of old.entries front.link) (known number front.link is.there) (right number front.link is.there) is.up (stored_now before old number front.link one.coupled_before is.there is.living) next
          (one_or_none (number_of old.entries front.link) entries_more_here next sum few) facts.0 facts.2
          (λ more. let commit : is_commit_frame front.first.frame ≡ true = grew facts.1 (let some : 1 ≤ entries_more_here = omega (arith, more, sum) in some) in
          (commit, crashed_commit front.first.frame served.item crashed commit, held_now_some facts.1)) m.event

    -- EACH CONNECTION -----------------------------------------------------------------------------

    turned : (number : ℕ) (link next : Link) → link_at links number ≡ Some link → link_at new.machine.links number ≡ Some next → Turns m items left kind number link next → Right (number_of new.entries next) next
    turned number link _ there here (Stays _) = subst (λ (n : ℕ). Right n link) (sym (number_same number link link there here refl refl refl)) (right number link there)
    turned number link _ there here (IsSaid frames _ idle) =
        subst (λ (n : ℕ). Right n (sends m.event frames link))
        (sym (number_same number link (sends m.event frames link) there here (sends_alike (λ l. l.session ≡ link.session) m.event frames link refl refl) (sends_alike (λ l. l.commits ≡ link.commits) m.event frames link refl refl)
        (sends_alike (λ l. l.is_living ≡ link.is_living) m.event frames link refl refl)))
        (idle_right (number_of old.entries link) m.event frames link idle (right number link there))
    turned number link _ there here (IsTaken frames reply later _ out down) =
        let taken : Link = takes (Took reply.frame link.is_open) reply later link in
        subst (λ (n : ℕ). Right n (sends m.event frames taken))
        (sym (number_same number link (sends m.event frames taken) there here (sends_alike (λ l. l.session ≡ link.session) m.event frames taken refl refl) (sends_alike (λ l. l.commits ≡ link.commits) m.event frames taken refl refl)
        (sends_alike (λ l. l.is_living ≡ link.is_living) m.event frames taken refl refl)))
        (taken_right (number_of old.entries link) m.event frames link reply later (known number link there) (right number link there) down)
    turned number _ _ there here (IsServed frame front served kind_is at ordinary same) =
        let parts = and_parts (is_of_front m front served) (is_item_of front.first.frame served.item) ordinary in
        let happens = happens_one number front served at same (ap serves_at kind_is) in
        handled_right number front served at happens parts.0 parts.1 (served_total number front served at happens parts.0 here parts.1)
    turned number link _ there here (IsCut ups downs _ opens) =
        subst (λ (n : ℕ). Right n (cut_link m.event ups downs link))
        (sym (number_same number link (cut_link m.event ups downs link) there here (cut_case (λ l. l.session ≡ link.session) m.event ups downs link opens refl) (cut_case (λ l. l.commits ≡ link.commits) m.event ups downs link opens refl)
        (cut_case (λ l. l.is_living ≡ link.is_living) m.event ups downs link opens refl)))
        (cut_right (number_of old.entries link) m.event ups downs link opens (right number link there))
    turned number link _ there here (IsReaped other reaped _ kind_is) =
        subst (λ (n : ℕ). Right n (reaped_link link))
        (sym (number_quiet number link (reaped_link link) there refl (λ front served rest serves at same. let never : None ≡ Some number = sym (ap serves_at kind_is) ∙ serves in let none : ⊥ = cc in none)))
        (reaped_right (number_of old.entries link) link (right number link there))
    turned number link _ there here (HasFallen other after_so failover down _ kind_is apart_or) =
        subst (λ (n : ℕ). Right n (fallen_link m.event link))
        (sym (number_quiet number link (fallen_link m.event link) there (fallen_case (λ l. l.session ≡ link.session) m.event link (λ opens. refl) (λ closed. refl))
        (λ front served rest serves at same.
        let equal : Some other ≡ Some number = sym (ap serves_at kind_is) ∙ serves in
        let other_is : other ≡ number = cc in
        by_either other_is apart_or front served rest serves at same)))
        (fallen_right (number_of old.entries link) m.event link (right number link there))
      where
        by_either : other ≡ number → (number ≢ other) ⊎ (items ≡ left) → (front : Front) (served : Served) (rest : List Served) → serves_at kind ≡ Some number → front_at links number ≡ Some front → items ≡ served ∷ rest → ⊥
        by_either other_is (inl differ) front served rest serves at same = differ (sym other_is)
        by_either other_is (inr all_left) front served rest serves at same =
            let found = front_is links number front at in
            let met = front_follows old.setting m new.machine items left kind follows (up_by number front.link found.there found.living) number serves front served rest at same in
            too_short served left (sym all_left ∙ (same ∙ ap (λ (list : List Served). served ∷ list) met.left_is))
    turned number _ _ there here (WasStopped after_so failover down front served kind_is at stopped same) =
        let parts = and_parts (is_of_front m front served) _ stopped in
        let crashed = (and_parts (is_crashed_item front.first.frame served.item) _ parts.1).0 in
        let happens = happens_one number front served at same (ap serves_at kind_is) in
        stopped_total number front served at happens parts.0 (number_of new.entries (fallen_link m.event (after_front front served None)))
        (number_named new.entries (fallen_link m.event (after_front front served None)) served.session (fallen_case (λ l. l.session ≡ Some served.session) m.event (after_front front served None) (λ opens. refl) (λ closed. refl))) crashed
    turned number _ _ there here (WasServed after_so failover down front served kind_is at over same) =
        let parts = and_parts (is_of_front m front served) (is_item_of front.first.frame served.item) (and_parts (is_ordinary m front served) _ over).0 in
        let happens = happens_one number front served at same (ap serves_at kind_is) in
        let count : number_of new.entries (handled m.event front served) ≡ commits_after front.link served.item = crashed_total number front served at happens parts.0 parts.1 in
        subst (λ (n : ℕ). Right n (fallen_link m.event (handled m.event front served)))
        (sym (fallen_case (λ l. number_of new.entries l ≡ number_of new.entries (handled m.event front served)) m.event (handled m.event front served) (λ opens. refl) (λ closed. refl)))
        (fallen_right (number_of new.entries (handled m.event front served)) m.event (handled m.event front served) (handled_right number front served at happens parts.0 parts.1 count))

    new_right : (frames : List Sent) → Right (number_of new.entries (sends m.event frames new_link)) (sends m.event frames new_link)
    new_right frames =
        sends_alike (λ l. Right (number_of new.entries l) l) m.event frames new_link
        (record { least = le_refl 0; most = le_refl 0; counted = refl; ahead = λ over. absurd (let never : ⊥ = cc in never) })
        (record { least = le_refl 0; most = le_refl 0; counted = refl; ahead = λ over. absurd (let never : ⊥ = cc in never) })

    pub right_now : (number : ℕ) (next : Link) → link_at new.machine.links number ≡ Some next → Right (number_of new.entries next) next
    right_now number next here = cases (all_turn old.setting m (held_now old inv) items left kind new.machine by.happens number next here)
      where
        cases : ComesFrom m items left kind number next → Right (number_of new.entries next) next
        cases (IsNew owner same) = subst (λ (l : Link). Right (number_of new.entries l) l) (sym same) (new_right (sent_by owner 0 up.Connect ∷ []))
        cases (IsOld link there turn) = turned number link next there here turn
