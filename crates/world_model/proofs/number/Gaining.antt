-- Of which sessions an event stores entries: of the one whose frame was served, or of the one that
-- was made outside.
use Rattle.std.proofs.Common.{◌≡◌, ◌≢◌, refl, sym, ap, subst, ◌∙◌, Bool, true, false, ℕ, suc, zero, ◌+◌, ◌<◌, ◌≤◌, ◌&&◌, cond, List, [], ◌∷◌, ◌++◌, filter_map, Option, Some, None, arith, if◌then◌else◌}
use Rattle.std.specs.Prelude.{◌==◌, ◌||◌, not, nat_lt, nat_le, slice_get, All, Contains, ◌⊎◌}
use Rattle.std.proofs.Common.{inl, inr}
use Rattle.std.specs.List.{list_all, cons_option}
use Rattle.std.proofs.lemmas.Bool.{and_parts, or_cases}
use Rattle.std.proofs.lemmas.List.Elements.{All-nil, All-cons, All-head, All-tail, All-contains}
use Rattle.svc_values.specs.declared.answer.Answer.{Answer}
use Rattle.svc_values.specs.declared.call.Call.{Call}
use Rattle.svc_values.specs.declared.draw.Draw.{Draw}
use Rattle.svc_values.specs.declared.entry.Ltxid.{Ltxid}
use Rattle.svc_values.specs.declared.entry.Entry.{Entry}
use Rattle.svc_values.specs.declared.entry.SessionId.{SessionId}
use Rattle.svc_values.specs.declared.frame.Up.{Up}
use Rattle.svc_values.specs.declared.frame.Up.TheVariants as up
use Rattle.svc_values.specs.declared.frame.Down.TheVariants as down
use Rattle.svc_values.specs.meaning.Identifiers.{same_session, session_of, is_of_session, ltxid_of}
use Rattle.outage_schedule.specs.declared.event.Event.{Event}
use Rattle.outage_schedule.specs.declared.event.Event.TheVariants as event
use Rattle.outage_schedule.specs.declared.note.Note.{Note}
use Rattle.outage_schedule.specs.declared.note.Note.TheVariants as note
use Rattle.outage_schedule.specs.declared.item.Served.{Served}
use Rattle.run_clauses.specs.meaning.EntryEvents.{entries_of}
use Rattle.server_model.specs.meaning.Outcomes.{Telling, Silent, Says, Stopped}
use Rattle.server_model.specs.Runs.{Happened, Served as ServedFrame, Asked as WasAsked}
use Rattle.server_model.specs.Laws.{CommitsAs}
use Rattle.server_model.specs.ServiceCalls.{CameFrom, RunsAre, IsOf, begins_outside}
use Rattle.world_model.specs.meaning.Links.{Link, link_at}
use Rattle.world_model.specs.meaning.Machines.{Machine, Server, next_session}
use Rattle.world_model.specs.meaning.Matching.{Noted, Went, ServedOn, CutOff, Reaped, Crashed, Opened, OpeningStopped, Ticked, RanOutside, Asked, Drained, matched}
use Rattle.world_model.specs.meaning.Noting.{only_if}
use Rattle.world_model.specs.ServiceDid.{ServiceDid, front_served}
use Rattle.world_model.specs.meaning.Serving.{front_at}
use Rattle.world_model.specs.Parts.{is_unmarked_frame}
use Rattle.world_model.specs.Sames.{all_with, each_pair}
use Rattle.world_model.proofs.hold.Inserted.{as_with}
use Rattle.world_model.proofs.events.Kept.{only_is}
use Rattle.world_model.proofs.number.Numbered.{entries_cons}
use Rattle.world_model.proofs.events.Tests.{same_session_is, session_self, lt_from, le_from}

-- ENTRIES AND WHAT THEY COME FROM -----------------------------------------------------------------

pub commits_session : (entry : Entry) (session : SessionId) (now : ℕ) (frame : Up) (told : Telling) → CommitsAs entry (ServedFrame session now frame told) → session ≡ session_of entry.ltxid
commits_session entry session now (up.Call replay kept called) (Says (down.Reply answers draws x)) commits = commits.0
commits_session entry session now (up.Call replay kept called) Stopped commits = commits.0
commits_session entry session now frame told commits = absurd commits

unmarked_call : (replay : Bool) (kept : List Draw) (called : Call) → replay ≡ false → is_unmarked_frame (up.Call replay kept called) ≡ true
unmarked_call true kept called is = absurd (let none : ⊥ = cc in none)
unmarked_call false kept called is = refl

pub commits_unmarked : (entry : Entry) (session : SessionId) (now : ℕ) (frame : Up) (told : Telling) → CommitsAs entry (ServedFrame session now frame told) → is_unmarked_frame frame ≡ true
commits_unmarked entry session now (up.Call replay kept called) (Says (down.Reply answers draws x)) commits = unmarked_call replay kept called commits.1
commits_unmarked entry session now (up.Call replay kept called) Stopped commits = unmarked_call replay kept called commits.1
commits_unmarked entry session now frame told commits = absurd commits

pub one_of : {A : Type 0} (one other : A) → Contains (one ∷ []) other → one ≡ other
one_of {A} one other contains = All-contains (λ (e : A). one ≡ e) (one ∷ []) other (All-cons (λ (e : A). one ≡ e) one [] refl (All-nil (λ (e : A). one ≡ e))) contains

pub none_in : {A : Type 0} (other : A) → Contains [] other → ⊥
none_in {A} other contains = All-contains (λ (e : A). ⊥) [] other (All-nil (λ (e : A). ⊥)) contains

not_of : (entry : Entry) (session : SessionId) (count : ℕ) (test : Bool) → is_of_session session entry.ltxid ≡ test → (session_of entry.ltxid ≡ session → ⊥) → count ≡ 0 → cond test 1 0 + count ≡ 0
not_of entry session count true is other none = absurd (other (same_session_is (session_of entry.ltxid) session is))
not_of entry session count false is other none = let zero_is : 0 + count ≡ 0 = omega (arith, none) in zero_is

-- none of a session from which nothing of that comes
pub gains_none : (happened : List Happened) (session : SessionId) (more : List Entry) → All (CameFrom happened) more
    → ((one : Happened) → Contains happened one → (entry : Entry) → CommitsAs entry one → session_of entry.ltxid ≡ session → ⊥) → entries_of more session ≡ 0
gains_none happened session [] came never = refl
gains_none happened session (entry ∷ more) came never =
    let from = All-head (CameFrom happened) entry more came in
    entries_cons entry more session
    ∙ not_of entry session (entries_of more session) (is_of_session session entry.ltxid) refl (λ same. never from.0 from.1.0 entry from.1.1 same) (gains_none happened session more (All-tail (CameFrom happened) entry more came) never)

-- WHAT HAPPENED -----------------------------------------------------------------------------------

-- all of the session that is made next
abbrev pub AllNext : Server → List Happened → Type 0
AllNext server happened = All (IsOf (next_session server)) happened

-- by the kind of the event
abbrev pub DidOf : Machine → List Served → Noted → List Happened → Type 0
DidOf m items (ServedOn number frame) happened = happened ≡ front_served m.tick (front_at m.links number) items
DidOf m items (Crashed number after failover down) happened = happened ≡ (if m.server.is_up then front_served m.tick (front_at m.links number) items else [])
DidOf m items (RanOutside (Some ran)) happened = AllNext m.server happened
DidOf m items (Asked x told) happened = (one : Happened) → Contains happened one → (entry : Entry) → CommitsAs entry one → ⊥
DidOf m items _ happened = happened ≡ []

by_test : (m : Machine) (items : List Served) (happened : List Happened) (test : Bool) (one kind : Noted) → only_if test one ≡ Some kind → DidOf m items one happened → DidOf m items kind happened
by_test m items happened test one kind is did = subst (λ (k : Noted). DidOf m items k happened) (only_is test one kind is) did

runs_next : (server : Server) (now : ℕ) (calls : List Call) (runs : List (List Answer × List Draw)) (happened : List Happened) → RunsAre (next_session server) now calls runs happened → AllNext server happened
runs_next server now [] [] happened is = subst (All (IsOf (next_session server))) (sym is) (All-nil (IsOf (next_session server)))
runs_next server now [] (run ∷ runs) happened is = absurd is
runs_next server now (called ∷ calls) [] happened is = subst (All (IsOf (next_session server))) (sym is) (All-cons (IsOf (next_session server)) _ [] refl (All-nil (IsOf (next_session server))))
runs_next server now (called ∷ calls) (run ∷ runs) happened is =
    subst (All (IsOf (next_session server))) (sym is.2.0) (All-cons (IsOf (next_session server)) _ is.1 refl (runs_next server now calls runs is.1 is.2.1))

pub outside_next : (server : Server) (now : ℕ) (calls : List Call) (runs : List (List Answer × List Draw)) (happened more : List Happened) → happened ≡ begins_outside (next_session server) now ++ more → RunsAre (next_session server) now calls runs more → AllNext server happened
outside_next server now calls runs happened more is are =
    let session : SessionId = next_session server in
    let first : Happened = ServedFrame session now up.Connect (Says (down.Hello (ltxid_of session 0))) in
    let second : Happened = ServedFrame session now (up.Begin []) Silent in
    subst (All (IsOf session)) (sym is) (All-cons (IsOf session) first (second ∷ more) refl (All-cons (IsOf session) second more refl (runs_next server now calls runs more are)))

none_asked : (happened : List Happened) → happened ≡ [] → (one : Happened) → Contains happened one → (entry : Entry) → CommitsAs entry one → ⊥
none_asked happened is one contains entry commits = none_in one (subst (λ (all : List Happened). Contains all one) is contains)

asked_none : (happened : List Happened) (x : Ltxid) (told : Telling) → happened ≡ WasAsked x told ∷ [] → (one : Happened) → Contains happened one → (entry : Entry) → CommitsAs entry one → ⊥
asked_none happened x told is one contains entry commits =
    let same : WasAsked x told ≡ one = one_of (WasAsked x told) one (subst (λ (all : List Happened). Contains all one) is contains) in
    subst (CommitsAs entry) (sym same) commits

pub did_kind : (m : Machine) (event : Event) (note : Note) (items : List Served) (kind : Noted) (happened : List Happened) → matched event note ≡ Some kind → ServiceDid m event note items happened → DidOf m items kind happened
did_kind m (event.Go client) (note.Go named did) items kind happened is done = by_test m items happened _ (Went client did) kind is done
did_kind m (event.Serve connection) (note.Serve named frame) items kind happened is done = by_test m items happened _ (ServedOn connection frame) kind is done
did_kind m (event.Cut connection up down) (note.Cut named reached) items kind happened is done = by_test m items happened _ (CutOff connection up down reached) kind is done
did_kind m (event.Reap connection) (note.Reap named reaped) items kind happened is done = by_test m items happened _ (Reaped connection reaped) kind is done
did_kind m (event.Crash connection after pick) (note.Crash named down) items kind happened is done = by_test m items happened _ (Crashed connection after _ down) kind is done
did_kind m event.Up (note.Up incarnation) items kind happened is done = by_test m items happened true (Opened incarnation) kind is done
did_kind m (event.UpCrash after pick) (note.UpCrash made) items kind happened is done = by_test m items happened true (OpeningStopped made) kind is done
did_kind m event.Tick note.Tick items kind happened is done = by_test m items happened true Ticked kind is done
did_kind m (event.Outside calls) (note.Outside None) items kind happened is done = by_test m items happened true (RanOutside None) kind is done
did_kind m (event.Outside calls) (note.Outside (Some ran)) items kind happened is done = by_test m items happened true (RanOutside (Some ran)) kind is (outside_next m.server m.tick calls _ happened done.0 done.1.0 done.1.1)
did_kind m (event.Ask x) (note.Ask named None) items kind happened is done = by_test m items happened _ (Asked x None) kind is (none_asked happened done)
did_kind m (event.Ask x) (note.Ask named (Some told)) items kind happened is done = by_test m items happened _ (Asked x (Some told)) kind is (asked_none happened x _ done)
did_kind m event.Drain (note.Drain closed) items kind happened is done = by_test m items happened true (Drained closed) kind is done
did_kind m event note items kind happened is done = absurd (let never : ⊥ = cc in never)

-- SESSIONS ----------------------------------------------------------------------------------------

abbrev apart_test : SessionId → SessionId → Bool
apart_test a b = not (same_session a b)

abbrev sessions_in : List Link → List SessionId
sessions_in links = filter_map (λ link. link.session) links

with_first : (first : Option SessionId) (rest : List SessionId) (a : SessionId) → first ≡ Some a → each_pair apart_test (cons_option first rest) ≡ true → all_with (apart_test a) rest ≡ true
with_first None rest a is pairs = absurd (let none : ⊥ = cc in none)
with_first (Some one) rest a is pairs = let same : one ≡ a = cc in subst (λ (s : SessionId). all_with (apart_test s) rest ≡ true) same (and_parts (all_with (apart_test one) rest) (each_pair apart_test rest) pairs).0

without_first : (first : Option SessionId) (rest : List SessionId) → each_pair apart_test (cons_option first rest) ≡ true → each_pair apart_test rest ≡ true
without_first None rest pairs = pairs
without_first (Some one) rest pairs = (and_parts (all_with (apart_test one) rest) (each_pair apart_test rest) pairs).1

all_among : (test : SessionId → Bool) (links : List Link) (index : ℕ) (link : Link) (a : SessionId) → slice_get links index ≡ Some link → link.session ≡ Some a → all_with test (sessions_in links) ≡ true → test a ≡ true
all_among test [] index link a there is all = absurd (let none : ⊥ = cc in none)
all_among test (first ∷ links) zero link a there is all =
    let same : first ≡ link = cc in by first.session (ap (λ (l : Link). l.session) same ∙ is) all
  where
    by : (found : Option SessionId) → found ≡ Some a → all_with test (cons_option found (sessions_in links)) ≡ true → test a ≡ true
    by None is all = absurd (let none : ⊥ = cc in none)
    by (Some one) is all = let same : one ≡ a = cc in subst (λ (s : SessionId). test s ≡ true) same (and_parts (test one) (all_with test (sessions_in links)) all).0
all_among test (first ∷ links) (suc index) link a there is all = all_among test links index link a there is (by first.session all)
  where
    by : (found : Option SessionId) → all_with test (cons_option found (sessions_in links)) ≡ true → all_with test (sessions_in links) ≡ true
    by None all = all
    by (Some one) all = (and_parts (test one) (all_with test (sessions_in links)) all).1

never_same : (a b : SessionId) → apart_test a b ≡ true → a ≡ b → ⊥
never_same a b apart same = by (same_session a b) apart (subst (λ (s : SessionId). same_session a s ≡ true) same (session_self a))
  where
    by : (test : Bool) → not test ≡ true → test ≡ true → ⊥
    by true is here = let none : ⊥ = cc in none
    by false is here = let none : ⊥ = cc in none

-- two connections have no session in common
sessions_apart : (links : List Link) (i j : ℕ) (one other : Link) (a b : SessionId) → i ≢ j → slice_get links i ≡ Some one → slice_get links j ≡ Some other → one.session ≡ Some a → other.session ≡ Some b → each_pair apart_test (sessions_in links) ≡ true → a ≡ b → ⊥
sessions_apart [] i j one other a b differ here there is at pairs = absurd (let none : ⊥ = cc in none)
sessions_apart (first ∷ links) zero zero one other a b differ here there is at pairs = absurd (differ refl)
sessions_apart (first ∷ links) zero (suc j) one other a b differ here there is at pairs =
    let same : first ≡ one = cc in
    never_same a b (all_among (apart_test a) links j other b there at (with_first first.session (sessions_in links) a (ap (λ (l : Link). l.session) same ∙ is) pairs))
sessions_apart (first ∷ links) (suc i) zero one other a b differ here there is at pairs =
    let same : first ≡ other = cc in
    λ equal. never_same b a (all_among (apart_test b) links i one a here is (with_first first.session (sessions_in links) b (ap (λ (l : Link). l.session) same ∙ at) pairs)) (sym equal)
sessions_apart (first ∷ links) (suc i) (suc j) one other a b differ here there is at pairs =
    sessions_apart links i j one other a b (λ same. differ (ap suc same)) here there is at (without_first first.session (sessions_in links) pairs)

pub links_apart : (links : List Link) (i j : ℕ) (one other : Link) (a b : SessionId) → i ≢ j → link_at links i ≡ Some one → link_at links j ≡ Some other → one.session ≡ Some a → other.session ≡ Some b → each_pair (λ x y. not (same_session x y)) (filter_map (λ link. link.session) links) ≡ true → a ≡ b → ⊥
links_apart links zero j one other a b differ here there is at pairs = absurd (let none : ⊥ = cc in none)
links_apart links (suc i) zero one other a b differ here there is at pairs = absurd (let none : ⊥ = cc in none)
links_apart links (suc i) (suc j) one other a b differ here there is at pairs = sessions_apart links i j one other a b (λ same. differ (ap suc same)) here there is at pairs

-- what holds of all sessions holds of a connection's
pub session_in : (test : SessionId → Bool) (links : List Link) (number : ℕ) (link : Link) (a : SessionId) → link_at links number ≡ Some link → link.session ≡ Some a → list_all test (filter_map (λ one. one.session) links) ≡ true → test a ≡ true
session_in test links zero link a there is all = absurd (let none : ⊥ = cc in none)
session_in test links (suc index) link a there is all = all_among test links index link a there is (as_with test (sessions_in links) all)

-- a session that was made is not the one that is made next
pub made_before : (server : Server) (session : SessionId) → (nat_lt 0 session.session && (nat_lt session.incarnation server.incarnation || ((session.incarnation == server.incarnation) && nat_le session.session server.sessions))) ≡ true → session ≡ next_session server → ⊥
made_before server session made same = by (or_cases (nat_lt session.incarnation server.incarnation) ((session.incarnation == server.incarnation) && nat_le session.session server.sessions) (and_parts (nat_lt 0 session.session) _ made).1)
  where
    incarnation : session.incarnation ≡ server.incarnation
    incarnation = ap (λ (s : SessionId). s.incarnation) same

    number : session.session ≡ server.sessions + 1
    number = ap (λ (s : SessionId). s.session) same

    by : (nat_lt session.incarnation server.incarnation ≡ true) ⊎ (((session.incarnation == server.incarnation) && nat_le session.session server.sessions) ≡ true) → ⊥
    by (inl below) = let less : session.incarnation < server.incarnation = lt_from session.incarnation server.incarnation below in let never : ⊥ = omega (arith, incarnation) in never
    by (inr at) = let less : session.session ≤ server.sessions = le_from session.session server.sessions (and_parts (session.incarnation == server.incarnation) (nat_le session.session server.sessions) at).1 in let never : ⊥ = omega (arith, number) in never
