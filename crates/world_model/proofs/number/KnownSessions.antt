-- Each entry is of a session that was made, and one of the run is of a connection's session or of
-- one that was made outside.
use Rattle.std.proofs.Common.{◌≡◌, refl, sym, ap, subst, ◌∙◌, Bool, true, false, ℕ, suc, zero, ◌+◌, ◌<◌, ◌≤◌, ◌||◌, length, List, [], ◌∷◌, ◌++◌, filter_map, Option, Some, None, ◌⊎◌, inl, inr, arith, append_assoc, append-nil, if◌then◌else◌}
use Rattle.std.specs.Prelude.{Result, Ok, Err, All, Contains, nat_lt, drop, slice_get}
use Rattle.std.specs.List.{list_all, list_any, cons_option}
use Rattle.std.specs.Option.{option_map_or}
use Rattle.std.proofs.Math.Seq.{drop-append_seam}
use Rattle.std.proofs.lemmas.Bool.{and_parts, and_from, or_left, or_right, or_cases}
use Rattle.std.proofs.lemmas.Bool.Decides.{nat_tests}
use Rattle.std.proofs.lemmas.List.Elements.{All-head, All-tail, All-contains}
use Rattle.std.proofs.lemmas.List.Folds.{list_any-append, list_all-append}
use Rattle.svc_values.specs.declared.entry.Entry.{Entry}
use Rattle.svc_values.specs.declared.entry.SessionId.{SessionId}
use Rattle.svc_values.specs.declared.frame.Up.{Up}
use Rattle.svc_values.specs.declared.frame.Up.TheVariants as up
use Rattle.svc_values.specs.meaning.Identifiers.{same_session, session_of}
use Rattle.commit_log.specs.declared.base.Base.{Base}
use Rattle.commit_log.specs.declared.journal.Journal.{Journal}
use Rattle.commit_log.specs.meaning.Journals.{journal_of}
use Rattle.commit_log.specs.Keeping.{EachKeeps}
use Rattle.outage_schedule.specs.declared.event.Event.{Event}
use Rattle.outage_schedule.specs.declared.item.Served.{Served}
use Rattle.outage_schedule.specs.declared.note.Note.{Note}
use Rattle.run_clauses.specs.meaning.Before.{base_of, read_journal, given_journal, journal_before}
use Rattle.server_model.specs.meaning.Outcomes.{Telling}
use Rattle.server_model.specs.Runs.{Happened, Served as ServedFrame, Asked as WasAsked}
use Rattle.server_model.specs.Laws.{CommitsAs}
use Rattle.server_model.specs.Seen.{Seen}
use Rattle.server_model.specs.ServiceCalls.{CameFrom, IsOf}
use Rattle.world_model.specs.records.Basic.{is_made, sessions_of}
use Rattle.world_model.specs.records.Hold.{is_connect}
use Rattle.world_model.specs.Orderly.{Orderly}
use Rattle.world_model.specs.OrderlyLaws.{IsKept}
use Rattle.world_model.specs.meaning.Links.{Link, link_at}
use Rattle.world_model.specs.meaning.Machines.{next_session}
use Rattle.world_model.specs.meaning.Matching.{Noted, Went, ServedOn, CutOff, Reaped, Crashed, Opened, OpeningStopped, Ticked, RanOutside, Asked, Drained}
use Rattle.world_model.specs.Parts.{is_unmarked_frame}
use Rattle.world_model.specs.records.Number.{is_known, is_of_run, known_so_far}
use Rattle.world_model.specs.OneEvent.{OneEvent}
use Rattle.world_model.specs.Reached.{traced_start}
use Rattle.world_model.specs.meaning.ServiceDid.{front_telling}
use Rattle.world_model.specs.ServiceDid.{front_served}
use Rattle.world_model.specs.meaning.Serving.{Front, front_at}
use Rattle.world_model.specs.Traced.{Traced}
use Rattle.world_model.proofs.events.AllLists.{weaker_all}
use Rattle.world_model.proofs.events.AllLinks.{front_is}
use Rattle.world_model.proofs.basic.BasicSessions.{all_wired}
use Rattle.world_model.proofs.basic.Census.{Census, next_of, Grows, Stands, Connects, Outside, Reopens, made_in, made_more, made_before}
use Rattle.world_model.proofs.number.Gaining.{commits_session, commits_unmarked, one_of, none_in, DidOf}
use Rattle.world_model.proofs.number.GainedQuiet.{serves_at}
use Rattle.world_model.proofs.events.Happened.{Followed, follow_happens, at_event}
use Rattle.world_model.proofs.hold.Inserted.{Inserted, Here, There}
use Rattle.world_model.proofs.basic.KeptSessions.{outside_is, made_law}
use Rattle.world_model.proofs.number.NumbersEvent.{owns as owns_now, did as did_now}
use Rattle.world_model.proofs.basic.SessionsGrow.{census, made_by}
use Rattle.world_model.proofs.basic.SessionsKept.{happens_grows}
use Rattle.world_model.proofs.events.Tests.{lt_to, same_session_is, session_self}

-- SESSIONS OF A RUN -------------------------------------------------------------------------------

abbrev among : SessionId → List SessionId → List SessionId → Bool
among session here outside = list_any (same_session session) here || list_any (same_session session) outside

pub any_links : (session : SessionId) (links : List Link) → list_any (λ link. option_map_or (same_session session) link.session false) links ≡ list_any (same_session session) (filter_map (λ link. link.session) links)
any_links session [] = refl
any_links session (link ∷ links) = by link.session (any_links session links)
  where
    by : (found : Option SessionId) → list_any (λ l. option_map_or (same_session session) l.session false) links ≡ list_any (same_session session) (filter_map (λ l. l.session) links)
        → (option_map_or (same_session session) found false || list_any (λ l. option_map_or (same_session session) l.session false) links) ≡ list_any (same_session session) (cons_option found (filter_map (λ l. l.session) links))
    by None rest = rest
    by (Some one) rest = ap (λ (test : Bool). same_session session one || test) rest

any_inserted : (session next : SessionId) (xs ys : List SessionId) → Inserted next xs ys → list_any (same_session session) xs ≡ true → list_any (same_session session) ys ≡ true
any_inserted session next xs _ (Here _) is = or_right (same_session session next) (list_any (same_session session) xs) is
any_inserted session next _ _ (There y xs ys more) is = by (or_cases (same_session session y) (list_any (same_session session) xs) is) (any_inserted session next xs ys more)
  where
    by : (same_session session y ≡ true) ⊎ (list_any (same_session session) xs ≡ true) → (list_any (same_session session) xs ≡ true → list_any (same_session session) ys ≡ true) → (same_session session y || list_any (same_session session) ys) ≡ true
    by (inl here) again = or_left (same_session session y) (list_any (same_session session) ys) here
    by (inr later) again = or_right (same_session session y) (list_any (same_session session) ys) (again later)

either_among : (a b c d : Bool) → (a ≡ true → c ≡ true) → (b ≡ true → d ≡ true) → (a || b) ≡ true → (c || d) ≡ true
either_among a b c d first second is = by (or_cases a b is)
  where
    by : (a ≡ true) ⊎ (b ≡ true) → (c || d) ≡ true
    by (inl here) = or_left c d (first here)
    by (inr here) = or_right c d (second here)

grows_among : (a b : Census) → Grows a b → (session : SessionId) → among session a.here a.outside ≡ true → among session b.here b.outside ≡ true
grows_among a _ Stands session is = is
grows_among a _ (Connects here more) session is =
    either_among (list_any (same_session session) a.here) (list_any (same_session session) a.outside) (list_any (same_session session) here) (list_any (same_session session) a.outside) (any_inserted session (next_of a) a.here here more) (λ x. x) is
grows_among a _ Outside session is =
    either_among (list_any (same_session session) a.here) (list_any (same_session session) a.outside) (list_any (same_session session) a.here) (list_any (same_session session) (a.outside ++ next_of a ∷ [])) (λ x. x)
    (λ x. list_any-append (same_session session) a.outside (next_of a ∷ []) ∙ or_left (list_any (same_session session) a.outside) (list_any (same_session session) (next_of a ∷ [])) x) is
grows_among a _ (Reopens incarnation below) session is = is

pub grows_made : (a b : Census) → Grows a b → (session : SessionId) → made_in a.incarnation a.count session ≡ true → made_in b.incarnation b.count session ≡ true
grows_made a _ Stands session is = is
grows_made a _ (Connects here more) session is = made_more a.incarnation a.count session is
grows_made a _ Outside session is = made_more a.incarnation a.count session is
grows_made a _ (Reopens incarnation below) session is = made_before a.incarnation a.count incarnation session below is

-- of an incarnation before this one, or made in it
abbrev pub known_in : ℕ → ℕ → SessionId → Bool
known_in incarnation count session = nat_lt session.incarnation incarnation || made_in incarnation count session

grows_later : (a b : Census) → Grows a b → a.incarnation ≤ b.incarnation
grows_later a _ Stands = omega arith
grows_later a _ (Connects here more) = omega arith
grows_later a _ Outside = omega arith
grows_later a _ (Reopens incarnation below) = omega (arith, below)

lt_later : (n a b : ℕ) → a ≤ b → nat_lt n a ≡ true → nat_lt n b ≡ true
lt_later n a b most is = grind (arith, nat_tests)

grows_known : (a b : Census) → Grows a b → (session : SessionId) → known_in a.incarnation a.count session ≡ true → known_in b.incarnation b.count session ≡ true
grows_known a b grows session is = by (or_cases (nat_lt session.incarnation a.incarnation) (made_in a.incarnation a.count session) is)
  where
    by : (nat_lt session.incarnation a.incarnation ≡ true) ⊎ (made_in a.incarnation a.count session ≡ true) → known_in b.incarnation b.count session ≡ true
    by (inl before) = or_left (nat_lt session.incarnation b.incarnation) (made_in b.incarnation b.count session) (lt_later session.incarnation a.incarnation b.incarnation (grows_later a b grows) before)
    by (inr made) = or_right (nat_lt session.incarnation b.incarnation) (made_in b.incarnation b.count session) (grows_made a b grows session made)

made_among : (test : SessionId → Bool) (session : SessionId) (sessions : List SessionId) → list_all test sessions ≡ true → list_any (same_session session) sessions ≡ true → test session ≡ true
made_among test session [] all is = absurd (let none : ⊥ = cc in none)
made_among test session (one ∷ sessions) all is = by (or_cases (same_session session one) (list_any (same_session session) sessions) is) (made_among test session sessions parts.1)
  where
    parts : (test one ≡ true) × (list_all test sessions ≡ true)
    parts = and_parts (test one) (list_all test sessions) all

    by : (same_session session one ≡ true) ⊎ (list_any (same_session session) sessions ≡ true) → (list_any (same_session session) sessions ≡ true → test session ≡ true) → test session ≡ true
    by (inl here) again = subst (λ (s : SessionId). test s ≡ true) (sym (same_session_is session one here)) parts.0
    by (inr later) again = again later

link_among : (links : List Link) (index : ℕ) (link : Link) (session : SessionId) → slice_get links index ≡ Some link → link.session ≡ Some session → list_any (λ one. option_map_or (same_session session) one.session false) links ≡ true
link_among [] index link session there is = absurd (let none : ⊥ = cc in none)
link_among (first ∷ links) zero link session there is =
    let same : first ≡ link = cc in
    or_left (option_map_or (same_session session) first.session false) (list_any (λ one. option_map_or (same_session session) one.session false) links)
    (ap (λ (found : Option SessionId). option_map_or (same_session session) found false) (ap (λ (l : Link). l.session) same ∙ is) ∙ session_self session)
link_among (first ∷ links) (suc index) link session there is =
    or_right (option_map_or (same_session session) first.session false) (list_any (λ one. option_map_or (same_session session) one.session false) links) (link_among links index link session there is)

pub number_among : (links : List Link) (number : ℕ) (link : Link) (session : SessionId) → link_at links number ≡ Some link → link.session ≡ Some session → list_any (same_session session) (filter_map (λ one. one.session) links) ≡ true
number_among links zero link session there is = absurd (let none : ⊥ = cc in none)
number_among links (suc index) link session there is = sym (any_links session links) ∙ link_among links index link session there is

-- THE EVENT ---------------------------------------------------------------------------------------

unmarked_other : (frame : Up) (connects : Bool) → is_connect frame ≡ connects → is_unmarked_frame frame ≡ true → connects ≡ false
unmarked_other frame false is plain = refl
unmarked_other up.Connect true is plain = absurd (let none : ⊥ = cc in none)
unmarked_other (up.Begin settings) true is plain = absurd (let none : ⊥ = cc in none)
unmarked_other (up.Call replay kept called) true is plain = absurd (let none : ⊥ = cc in none)
unmarked_other (up.Outcome x) true is plain = absurd (let none : ⊥ = cc in none)
unmarked_other up.End true is plain = absurd (let none : ⊥ = cc in none)
unmarked_other up.Close true is plain = absurd (let none : ⊥ = cc in none)

module _ (before after : Seen) (old new : Traced) (event : Event) (note : Note) (items left : List Served) (one : OneEvent before old event note items left after new) (inv : Orderly old) where
  abbrev by : Followed old.setting old.machine event note items left new.machine
  by = follow_happens old.setting old.machine event note items left new.machine one.follows

  pub grown : Grows (census (at_event old.machine) old.outside) (census new.machine new.outside)
  grown =
      happens_grows old.setting (at_event old.machine) old.outside new.outside (all_wired old.machine.links inv.wire.sent inv.wire.grammar inv.wire.replies inv.wire.handled) inv.basic.named items left by.kind new.machine by.happens
      (one.outside ∙ ap (λ (more : List SessionId). old.outside ++ more) (outside_is old event note by.kind by.is_kind))

  -- the session of each entry that was gained
  from_old : (number : ℕ) (front : Front) (served : Served) (rest : List Served) → serves_at by.kind ≡ Some number → front_at old.machine.links number ≡ Some front → items ≡ served ∷ rest → (entry : Entry) (told : Telling)
      → CommitsAs entry (ServedFrame served.session old.machine.tick front.first.frame told) → among (session_of entry.ltxid) (sessions_of new) new.outside ≡ true
  from_old number front served rest serves at same entry told commits =
      let connects : is_connect front.first.frame ≡ false = (unmarked_other front.first.frame (is_connect front.first.frame) refl (commits_unmarked entry served.session old.machine.tick front.first.frame told commits)) in
      let has : front.link.session ≡ Some served.session = owns_now before after old new event note items left one inv front served rest number serves at same connects in
      let mine : served.session ≡ session_of entry.ltxid = commits_session entry served.session old.machine.tick front.first.frame told commits in
      subst (λ (s : SessionId). among s (sessions_of new) new.outside ≡ true) mine
      (grows_among _ _ grown served.session
      (or_left (list_any (same_session served.session) (sessions_of old)) (list_any (same_session served.session) old.outside) (number_among old.machine.links number front.link served.session (front_is old.machine.links number front at).there has)))

  from_front : (number : ℕ) (front : Option Front) (all : List Served) → serves_at by.kind ≡ Some number → front_at old.machine.links number ≡ front → items ≡ all → one.happened ≡ front_served old.machine.tick front all
      → (what : Happened) → Contains one.happened what → (entry : Entry) → CommitsAs entry what → among (session_of entry.ltxid) (sessions_of new) new.outside ≡ true
  from_front number None all serves at same is what contains entry commits = absurd (none_in what (subst (λ (list : List Happened). Contains list what) is contains))
  from_front number (Some front) [] serves at same is what contains entry commits = absurd (none_in what (subst (λ (list : List Happened). Contains list what) is contains))
  from_front number (Some front) (served ∷ rest) serves at same is what contains entry commits =
      let this : Happened = ServedFrame served.session old.machine.tick front.first.frame (front_telling front served) in
      let equal : this ≡ what = one_of this what (subst (λ (list : List Happened). Contains list what) is contains) in
      from_old number front served rest serves at same entry (front_telling front served) (subst (CommitsAs entry) (sym equal) commits)

  from_none : one.happened ≡ [] → (what : Happened) → Contains one.happened what → (entry : Entry) → CommitsAs entry what → among (session_of entry.ltxid) (sessions_of new) new.outside ≡ true
  from_none is what contains entry commits = absurd (none_in what (subst (λ (list : List Happened). Contains list what) is contains))

  next_outside : (s : SessionId) → s ≡ next_session old.machine.server → new.outside ≡ old.outside ++ next_session old.machine.server ∷ [] → among s (sessions_of new) new.outside ≡ true
  next_outside s same is =
      or_right (list_any (same_session s) (sessions_of new)) (list_any (same_session s) new.outside)
      (ap (list_any (same_session s)) is ∙ (list_any-append (same_session s) old.outside (next_session old.machine.server ∷ [])
      ∙ or_right (list_any (same_session s) old.outside) (same_session s (next_session old.machine.server) || false)
      (or_left (same_session s (next_session old.machine.server)) false (subst (λ (r : SessionId). same_session s r ≡ true) same (session_self s)))))

  of_next : (what : Happened) (entry : Entry) → IsOf (next_session old.machine.server) what → CommitsAs entry what → session_of entry.ltxid ≡ next_session old.machine.server
  of_next (ServedFrame session now frame told) entry is commits = sym (commits_session entry session now frame told commits) ∙ is
  of_next (WasAsked x told) entry is commits = absurd is

  gained_by : (kind : Noted) → by.kind ≡ kind → DidOf old.machine items kind one.happened → (what : Happened) → Contains one.happened what → (entry : Entry) → CommitsAs entry what → among (session_of entry.ltxid) (sessions_of new) new.outside ≡ true
  gained_by (Went client did) is done what contains entry commits = from_none done what contains entry commits
  gained_by (ServedOn number frame) is done what contains entry commits = from_front number (front_at old.machine.links number) items (ap serves_at is) refl refl done what contains entry commits
  gained_by (CutOff at ups downs reached) is done what contains entry commits = from_none done what contains entry commits
  gained_by (Reaped at reaped) is done what contains entry commits = from_none done what contains entry commits
  gained_by (Crashed number after_so failover down) is done what contains entry commits = crashed old.machine.server.is_up done what contains entry commits
    where
      crashed : (is_up : Bool) → one.happened ≡ (if is_up then front_served old.machine.tick (front_at old.machine.links number) items else [])
          → (what : Happened) → Contains one.happened what → (entry : Entry) → CommitsAs entry what → among (session_of entry.ltxid) (sessions_of new) new.outside ≡ true
      crashed true does = from_front number (front_at old.machine.links number) items (ap serves_at is) refl refl does
      crashed false does = from_none does
  gained_by (Opened incarnation) is done what contains entry commits = from_none done what contains entry commits
  gained_by (OpeningStopped stopped) is done what contains entry commits = from_none done what contains entry commits
  gained_by Ticked is done what contains entry commits = from_none done what contains entry commits
  gained_by (RanOutside None) is done what contains entry commits = from_none done what contains entry commits
  gained_by (RanOutside (Some ran)) is done what contains entry commits =
      next_outside (session_of entry.ltxid) (of_next what entry (All-contains (IsOf (next_session old.machine.server)) one.happened what done contains) commits)
      (one.outside ∙ ap (λ (more : List SessionId). old.outside ++ more) (outside_is old event note by.kind by.is_kind ∙ ap (made_by old.machine.server) is))
  gained_by (Asked x told) is done what contains entry commits = absurd (done what contains entry commits)
  gained_by (Drained closed) is done what contains entry commits = from_none done what contains entry commits

  gained_all : (more : List Entry) → All (CameFrom one.happened) more → list_all (is_of_run new) more ≡ true
  gained_all [] came = refl
  gained_all (entry ∷ more) came =
      let from = All-head (CameFrom one.happened) entry more came in
      let is : among (session_of entry.ltxid) (sessions_of new) new.outside ≡ true = gained_by by.kind refl (did_now before after old new event note items left one inv) from.0 from.1.0 entry from.1.1 in
      and_from (is_of_run new entry) (list_all (is_of_run new) more) (run_from entry is) (gained_all more (All-tail (CameFrom one.happened) entry more came))
    where
      run_from : (entry : Entry) → among (session_of entry.ltxid) (sessions_of new) new.outside ≡ true → is_of_run new entry ≡ true
      run_from entry is = ap (λ (test : Bool). test || list_any (same_session (session_of entry.ltxid)) new.outside) (any_links (session_of entry.ltxid) new.machine.links) ∙ is

  run_among : (t : Traced) (entry : Entry) → is_of_run t entry ≡ true → among (session_of entry.ltxid) (sessions_of t) t.outside ≡ true
  run_among t entry is = ap (λ (test : Bool). test || list_any (same_session (session_of entry.ltxid)) t.outside) (sym (any_links (session_of entry.ltxid) t.machine.links)) ∙ is

  among_run : (t : Traced) (entry : Entry) → among (session_of entry.ltxid) (sessions_of t) t.outside ≡ true → is_of_run t entry ≡ true
  among_run t entry is = ap (λ (test : Bool). test || list_any (same_session (session_of entry.ltxid)) t.outside) (any_links (session_of entry.ltxid) t.machine.links) ∙ is

  made_new : (entry : Entry) → is_of_run new entry ≡ true → is_made new (session_of entry.ltxid) ≡ true
  made_new entry is =
      let made = and_parts (list_all (is_made new) (sessions_of new)) (list_all (is_made new) new.outside) (made_law.at_event before after old new event note items left one inv) in
      by_either (or_cases (list_any (same_session (session_of entry.ltxid)) (sessions_of new)) (list_any (same_session (session_of entry.ltxid)) new.outside) (run_among new entry is)) made.0 made.1
    where
      by_either : (list_any (same_session (session_of entry.ltxid)) (sessions_of new) ≡ true) ⊎ (list_any (same_session (session_of entry.ltxid)) new.outside ≡ true) → list_all (is_made new) (sessions_of new) ≡ true → list_all (is_made new) new.outside ≡ true
          → is_made new (session_of entry.ltxid) ≡ true
      by_either (inl here) first second = made_among (is_made new) (session_of entry.ltxid) (sessions_of new) first here
      by_either (inr here) first second = made_among (is_made new) (session_of entry.ltxid) new.outside second here

  pub known_now : known_so_far new ≡ true
  known_now =
      let was = and_parts (list_all (λ entry. is_known old (session_of entry.ltxid)) old.entries) (list_all (is_of_run old) (drop old.image old.entries)) inv.number.known in
      let own : list_all (is_of_run new) one.more_entries ≡ true = gained_all one.more_entries one.own in
      let first : list_all (λ entry. is_known new (session_of entry.ltxid)) old.entries ≡ true =
      weaker_all (λ entry. is_known old (session_of entry.ltxid)) (λ entry. is_known new (session_of entry.ltxid)) old.entries (λ entry is. grows_known _ _ grown (session_of entry.ltxid) is) was.0 in
      let second : list_all (λ entry. is_known new (session_of entry.ltxid)) one.more_entries ≡ true = weaker_all (is_of_run new) (λ entry. is_known new (session_of entry.ltxid)) one.more_entries (λ entry is. or_right (nat_lt entry.ltxid.incarnation new.machine.server.incarnation) (is_made new (session_of entry.ltxid)) (made_new entry is)) own in
      let third : list_all (is_of_run new) (drop old.image old.entries) ≡ true = weaker_all (is_of_run old) (is_of_run new) (drop old.image old.entries) (λ entry is. among_run new entry (grows_among _ _ grown (session_of entry.ltxid) (run_among old entry is))) was.1 in
      and_from (list_all (λ entry. is_known new (session_of entry.ltxid)) new.entries) (list_all (is_of_run new) (drop new.image new.entries))
      (ap (list_all (λ entry. is_known new (session_of entry.ltxid))) one.entries ∙ (list_all-append (λ (entry : Entry). is_known new (session_of entry.ltxid)) old.entries one.more_entries
      ∙ and_from (list_all (λ entry. is_known new (session_of entry.ltxid)) old.entries) (list_all (λ entry. is_known new (session_of entry.ltxid)) one.more_entries) first second))
      (ap (list_all (is_of_run new)) later ∙ (list_all-append (is_of_run new) (drop old.image old.entries) one.more_entries ∙ and_from (list_all (is_of_run new) (drop old.image old.entries)) (list_all (is_of_run new) one.more_entries) third own))
    where
      whole : old.entries ≡ before.start.entries ++ one.coupled_before.history.server.core.entries
      whole = one.coupled_before.entries ∙ one.coupled_before.history.entries

      behind : (more : List Entry) → drop (length before.start.entries) ((before.start.entries ++ one.coupled_before.history.server.core.entries) ++ more) ≡ one.coupled_before.history.server.core.entries ++ more
      behind more = ap (drop (length before.start.entries)) (append_assoc before.start.entries one.coupled_before.history.server.core.entries more) ∙ drop-append_seam before.start.entries (one.coupled_before.history.server.core.entries ++ more)

      image_is : old.image ≡ length before.start.entries
      image_is = one.coupled_before.image

      later : drop new.image new.entries ≡ drop old.image old.entries ++ one.more_entries
      later =
          ap (λ (n : ℕ). drop n new.entries) (one.image ∙ image_is) ∙ (ap (drop (length before.start.entries)) (one.entries ∙ ap (λ (all : List Entry). all ++ one.more_entries) whole) ∙ (behind one.more_entries
          ∙ ap (λ (all : List Entry). all ++ one.more_entries) (sym (ap (λ (n : ℕ). drop n old.entries) image_is ∙ (ap (drop (length before.start.entries)) whole ∙ drop-append_seam before.start.entries one.coupled_before.history.server.core.entries)))))

-- THE START ---------------------------------------------------------------------------------------

known_image : (journal : Journal) → (entries : List Entry) → All (λ entry. entry.ltxid.incarnation ≤ journal.incarnation) entries → list_all (λ entry. known_in (journal.incarnation + 1) 0 (session_of entry.ltxid)) entries ≡ true
known_image journal [] earlier = refl
known_image journal (entry ∷ entries) earlier =
    let most : entry.ltxid.incarnation ≤ journal.incarnation = All-head (λ (e : Entry). e.ltxid.incarnation ≤ journal.incarnation) entry entries earlier in
    let below : entry.ltxid.incarnation < journal.incarnation + 1 = omega arith in
    and_from (known_in (journal.incarnation + 1) 0 (session_of entry.ltxid)) (list_all (λ one. known_in (journal.incarnation + 1) 0 (session_of one.ltxid)) entries)
    (or_left (nat_lt entry.ltxid.incarnation (journal.incarnation + 1)) (made_in (journal.incarnation + 1) 0 (session_of entry.ltxid)) (lt_to entry.ltxid.incarnation (journal.incarnation + 1) below))
    (known_image journal entries (All-tail (λ (e : Entry). e.ltxid.incarnation ≤ journal.incarnation) entry entries earlier))

given_known : EachKeeps → (base : Base) (image : Option (List ℕ)) → list_all (λ entry. known_in ((given_journal base image).incarnation + 1) 0 (session_of entry.ltxid)) (given_journal base image).entries ≡ true
given_known keeps base None = refl
given_known keeps base (Some image) = by (journal_of image) refl
  where
    by : (read : Result Journal ℕ) → journal_of image ≡ read → list_all (λ entry. known_in ((read_journal base read).incarnation + 1) 0 (session_of entry.ltxid)) (read_journal base read).entries ≡ true
    by (Err place) is = refl
    by (Ok journal) is = known_image journal journal.entries (keeps image journal is).commits.earlier

pub none_later : (test : Entry → Bool) (entries : List Entry) → list_all test (drop (length entries) entries) ≡ true
none_later test entries = ap (list_all test) (ap (drop (length entries)) (sym (append-nil entries)) ∙ drop-append_seam entries [])

pub known_law : EachKeeps → IsKept known_so_far
known_law keeps = record {
  at_start = λ document.
      let journal : Journal = journal_before document in
      and_from (list_all (λ entry. known_in (journal.incarnation + 1) 0 (session_of entry.ltxid)) journal.entries) (list_all (is_of_run (traced_start document)) (drop (length journal.entries) journal.entries))
      (given_known keeps (base_of document) document.image) (none_later (is_of_run (traced_start document)) journal.entries);
  at_event = λ before after old new event note items left one inv. known_now before after old new event note items left one inv;
}
