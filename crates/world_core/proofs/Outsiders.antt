-- Calls run from outside, in a session of their own.
use Rattle.std.proofs.Common.{◌≡◌, ◌≤◌, ℕ, ◌+◌, true, false, List, [], ◌∷◌, ◌++◌, Option, Some, None, refl, sym, ap, ◌∙◌, subst, arith, append_assoc, inl, inr}
use Rattle.std.specs.Prelude.{All}
use Rattle.std.proofs.lemmas.List.{append-nil}
use Rattle.std.proofs.lemmas.List.Elements.{All-nil, All-cons, All-head, All-tail, Contains-append_right}
use Rattle.svc_values.specs.declared.answer.Answer.{Answer}
use Rattle.svc_values.specs.declared.call.Call.{Call}
use Rattle.svc_values.specs.declared.draw.Draw.{Draw}
use Rattle.svc_values.specs.declared.entry.Entry.{Entry}
use Rattle.svc_values.specs.declared.entry.Ltxid.{Ltxid}
use Rattle.svc_values.specs.declared.entry.SessionId.{SessionId}
use Rattle.svc_values.specs.declared.frame.Up.TheVariants as up
use Rattle.svc_values.specs.declared.frame.Down.TheVariants as down
use Rattle.svc_values.specs.meaning.Identifiers.{ltxid_of}
use Rattle.svc_values.specs.Laws.{AreExact}
use Rattle.outage_schedule.specs.declared.event.Event.TheVariants as event
use Rattle.outage_schedule.specs.declared.note.Note.TheVariants as note
use Rattle.outage_schedule.specs.declared.note.OutsideNote.{OutsideNote}
use Rattle.server_model.specs.Laws.{stops_last}
use Rattle.server_model.specs.meaning.Outcomes.{Silent, Says}
use Rattle.server_model.specs.Runs.{Happened, Served}
use Rattle.server_model.specs.Sessions.{New}
use Rattle.server_model.specs.Seen.{Store, Seen, IsHistory}
use Rattle.server_model.specs.ServiceCalls.{CameFrom, WasAsked, IsOf, RunsAre, begins_outside, RanOutside, next_session as next_at_service}
use Rattle.service_calls.specs.Answers.{runs_of}
use Rattle.service_calls.specs.Kept.{Goes}
use Rattle.world_model.specs.OrderlyLaws.{OrderlyIsKept}
use Rattle.world_model.specs.OneEvent.{OneEvent, drawn_outside}
use Rattle.world_model.specs.records.Basic.{are_made}
use Rattle.world_model.specs.Coupled.{living_of, HasStored, life_by, life_of, HasLived, IsLater, entries_in, SameServer, Coupled}
use Rattle.world_model.specs.meaning.Links.{Link, link_at}
use Rattle.world_model.specs.meaning.Machines.{Server, Machine, next_session}
use Rattle.world_model.specs.meaning.Serving.{identifier}
use Rattle.world_model.specs.ToldByStore.{AreByStore}
use Rattle.world_model.specs.Traced.{Traced}
use Rattle.world_model.specs.meaning.Walking.{follow}
use Rattle.world_core.specs.declared.traffic.Traffic.{Traffic}
use Rattle.world_core.specs.Underway.{IsUnderway}
use Rattle.world_core.specs.Making.{Makes}
use Rattle.world_core.proofs.Readiness.{stays_ready, up_not_down}
use Rattle.world_core.proofs.frames.Blocking.{AsksNone, none_blocked, known_blocks, known_same}
use Rattle.world_core.proofs.frames.Living.{all_apart, life_apart, still_lived}
use Rattle.world_core.proofs.Coupling.{begun, one_alone, one_call, made, made_alone}
use Rattle.world_core.proofs.Opening.{any_server}
use Rattle.world_core.proofs.frames.Stops.{AreFrom, stops_behind}
use Rattle.world_core.proofs.frames.Storing.{others_counted, came_of, next_apart}

-- the server is down
pub outsides_none : OrderlyIsKept → (sees : Seen → Type 0) (before after : Traffic) (calls : List Call) → ((seen : Seen) → sees seen → seen.state.is_up ≡ false) → ((m : Machine) → IsUnderway before m → IsUnderway after (begun m))
    → Makes sees before sees after (event.Outside calls) (note.Outside None) []
outsides_none kept sees before after calls down goes below seen t is =
    let server_down : t.machine.server.is_up ≡ false = is.coupled.server.is_up ∙ down seen is.seen_so in
    let follows : follow t.setting t.machine (event.Outside calls) (note.Outside None) [] ≡ Some (begun t.machine, []) = rw server_down refl in
    made_alone kept sees before after below (event.Outside calls) (note.Outside None) seen t (begun t.machine) is (one_alone seen t (event.Outside calls) (note.Outside None) (begun t.machine) is.coupled follows refl refl refl refl refl refl) refl (goes t.machine is.underway)

-- WHAT RAN ----------------------------------------------------------------------------------------

-- frames of one session, none of them stopped, and none a question or an outcome
record Ran (session : SessionId) (more : List Happened) : Type 0 where
  lasts : stops_last more ≡ true
  from : AreFrom session.incarnation more
  of : All (IsOf session) more
  asks : All AsksNone more
  told : (store : Store) → AreByStore store more

same_itself : (n : ℕ) → n ≤ n
same_itself n = omega arith

ran_none : (session : SessionId) → Ran session []
ran_none session = record { lasts = refl; from = tt; of = All-nil (IsOf session); asks = All-nil AsksNone; told = λ store. tt }

runs_are : (session : SessionId) (now : ℕ) (calls : List Call) (runs : List (List Answer × List Draw)) (more : List Happened) → RunsAre session now calls runs more → Ran session more
runs_are session now [] [] more are = subst (Ran session) (sym are) (ran_none session)
runs_are session now [] (run ∷ runs) more are = absurd are
runs_are session now (called ∷ calls) [] more are =
    subst (Ran session) (sym are) (record {
      lasts = refl;
      from = (same_itself session.incarnation, tt);
      of = All-cons (IsOf session) (Served session now (up.Call false [] called) (Says down.Blocked)) [] refl (All-nil (IsOf session));
      asks = All-cons AsksNone (Served session now (up.Call false [] called) (Says down.Blocked)) [] (λ x asks. asks) (All-nil AsksNone);
      told = λ store. (tt, tt);
    })
runs_are session now (called ∷ calls) (run ∷ runs) more are =
    let rest = runs_are session now calls runs are.1 are.2.1 in
    subst (Ran session) (sym are.2.0)
    (record {
      lasts = rest.lasts;
      from = (same_itself session.incarnation, rest.from);
      of = All-cons (IsOf session) (Served session now (up.Call false [] called) (Says (down.Reply run.0 run.1 are.0))) are.1 refl rest.of;
      asks = All-cons AsksNone (Served session now (up.Call false [] called) (Says (down.Reply run.0 run.1 are.0))) are.1 (λ x asks. asks) rest.asks;
      told = λ store. (tt, rest.told store);
    })

-- with Connect and Begin before them
ran_outside : (session : SessionId) (now : ℕ) (more : List Happened) → Ran session more → Ran session (begins_outside session now ++ more)
ran_outside session now more ran = record {
  lasts = ran.lasts;
  from = (same_itself session.incarnation, (same_itself session.incarnation, ran.from));
  of = All-cons (IsOf session) (Served session now up.Connect (Says (down.Hello (ltxid_of session 0)))) (Served session now (up.Begin []) Silent ∷ more) refl (All-cons (IsOf session) (Served session now (up.Begin []) Silent) more refl ran.of);
  asks = All-cons AsksNone (Served session now up.Connect (Says (down.Hello (ltxid_of session 0)))) (Served session now (up.Begin []) Silent ∷ more) (λ x asks. asks) (All-cons AsksNone (Served session now (up.Begin []) Silent) more (λ x asks. asks) ran.asks);
  told = λ store. (tt, (tt, ran.told store));
}

-- what came from these came from all of it
came_later : (first more : List Happened) (entries : List Entry) → All (CameFrom more) entries → All (CameFrom (first ++ more)) entries
came_later first more [] came = All-nil (CameFrom (first ++ more))
came_later first more (entry ∷ entries) came =
    let from = All-head (CameFrom more) entry entries came in
    All-cons (CameFrom (first ++ more)) entry entries (from.0, (Contains-append_right first more from.0 from.1.0, from.1.1)) (came_later first more entries (All-tail (CameFrom more) entry entries came))

asked_later : (first more : List Happened) (blocks : List Ltxid) → All (WasAsked more) blocks → All (WasAsked (first ++ more)) blocks
asked_later first more [] asked = All-nil (WasAsked (first ++ more))
asked_later first more (x ∷ blocks) asked =
    let from = All-head (WasAsked more) x blocks asked in
    All-cons (WasAsked (first ++ more)) x blocks (from.0, (Contains-append_right first more from.0 from.1.0, from.1.1)) (asked_later first more blocks (All-tail (WasAsked more) x blocks asked))

-- COUPLED AGAIN -----------------------------------------------------------------------------------

abbrev session_at : ℕ → ℕ → SessionId
session_at incarnation sessions = record { incarnation = incarnation; session = sessions + 1 }

same_next : (server : Server) (seen : Seen) → SameServer server seen → seen.state.is_up ≡ true → next_at_service seen ≡ next_session server
same_next server seen same up =
    let opened = same.opened up in
    ap (λ i. session_at i seen.state.sessions) (sym opened.0) ∙ ap (λ n. session_at server.incarnation n) (sym opened.1.0)

abbrev outside_server : Server → Server
outside_server server = record server { sessions = server.sessions + 1 }

abbrev outside_machine : Machine → Machine
outside_machine m = record (begun m) { server = outside_server m.server }

server_behind : (server : Server) (old new : Seen) (calls : List Call) (now : ℕ) (x : Ltxid) (runs : List (List Answer × List Draw)) → SameServer server old → old.state.is_up ≡ true → RanOutside old calls now x runs new
    → SameServer (outside_server server) new
server_behind server old new calls now x runs same up did =
    let opened = same.opened up in
    record {
      is_up = same.is_up ∙ up ∙ sym did.others.1;
      per_record = same.per_record ∙ sym did.keeps.per_record;
      opened = λ is. (opened.0 ∙ sym did.gains.incarnation, (ap (λ (n : ℕ). n + 1) opened.1.0 ∙ sym did.others.3, opened.1.1));
      closed = λ down. absurd (let clash : true ≡ false = sym did.others.1 ∙ down in let nothing : ⊥ = cc in nothing);
    }

-- one that is made later is not the next one, and was made later before
not_next : (server : Server) (session : SessionId) → IsLater (outside_server server) session → session ≡ next_session server → ⊥
not_next server session (inl later) same = let one : session.incarnation ≡ server.incarnation = ap (λ (s : SessionId). s.incarnation) same in omega (arith, later, one)
not_next server session (inr (up, (of, later))) same = let one : session.session ≡ server.sessions + 1 = ap (λ (s : SessionId). s.session) same in omega (arith, later, one)

later_outside : (server : Server) (session : SessionId) → IsLater (outside_server server) session → IsLater server session
later_outside server session (inl later) = inl later
later_outside server session (inr (up, (of, later))) = inr (up, (of, omega (arith, later)))

still_stored : (old new : List Entry) (living : Option (Option SessionId)) (commits : ℕ) → ((session : SessionId) → living ≡ Some (Some session) → entries_in new session ≡ entries_in old session) → HasStored old living commits → HasStored new living commits
still_stored old new None commits same has = tt
still_stored old new (Some None) commits same has = has
still_stored old new (Some (Some session)) commits same has = same session refl ∙ has

-- the state behind it
abbrev traced_behind : Traced → Seen → List Draw → Traced
traced_behind t new draws = record t {
  machine = outside_machine t.machine;
  entries = new.state.store.entries;
  blocked = new.state.store.blocked;
  outside = t.outside ++ next_session t.machine.server ∷ [];
  outside_draws = t.outside_draws ++ draws;
}

-- the server is up, and so many calls ran
module _ (old new : Seen) (t : Traced) (calls : List Call) (ran : OutsideNote) (exact : AreExact) (coupled : Coupled old t) (up : old.state.is_up ≡ true) (are : are_made t ≡ true) (history : IsHistory new)
    (did : RanOutside old calls t.machine.tick ran.ltxid (runs_of ran) new) where
  abbrev session : SessionId
  session = next_at_service old

  abbrev happened : List Happened
  happened = begins_outside session t.machine.tick ++ did.more

  same : session ≡ next_session t.machine.server
  same = same_next t.machine.server old coupled.server up

  called : Ran session did.more
  called = runs_are session t.machine.tick calls (runs_of ran) did.more did.ran

  whole : Ran session happened
  whole = ran_outside session t.machine.tick did.more called

  -- nothing is blocked
  unblocked : new.state.store.blocked ≡ old.state.store.blocked
  unblocked = did.gains.blocked ∙ ap (λ more. old.state.store.blocked ++ more) (none_blocked did.more did.gains.more_blocked called.asks did.gains.asked) ∙ append-nil old.state.store.blocked

  added : new.history ≡ old.history ++ happened
  added = did.history ∙ append_assoc old.history (begins_outside session t.machine.tick) did.more

  stored : (number : ℕ) (link : Link) → link_at t.machine.links number ≡ Some link → HasStored new.state.store.entries (living_of (Some link)) link.commits
  stored number link there =
      still_stored old.state.store.entries new.state.store.entries (living_of (Some link)) link.commits
      (λ other living.
      ap (λ e. entries_in e other) did.gains.entries
      ∙ others_counted exact session other old.state.store.entries did.gains.more_entries (came_of session happened did.gains.more_entries whole.of (came_later (begins_outside session t.machine.tick) did.more did.gains.more_entries did.gains.own))
      (λ is. next_apart t are number link there (living ∙ ap (λ s. Some (Some s)) (is ∙ same))))
      (coupled.stored number link there)

  lives : (number : ℕ) (link : Link) → link_at t.machine.links number ≡ Some link → HasLived new.history (living_of (Some link)) (life_of link.served)
  lives number link there =
      still_lived old.history new.history (living_of (Some link)) (life_of link.served)
      (λ other living.
      ap (λ h. life_by h other) added
      ∙ life_apart exact old.history happened other (all_apart session other happened whole.of (λ is. next_apart t are number link there (living ∙ ap (λ s. Some (Some s)) (sym is ∙ same)))))
      (coupled.lives number link there)

  later : (other : SessionId) → IsLater (outside_server t.machine.server) other → life_by new.history other ≡ New
  later other is =
      ap (λ h. life_by h other) added
      ∙ life_apart exact old.history happened other (all_apart session other happened whole.of (λ one. not_next t.machine.server other is (sym one ∙ same)))
      ∙ coupled.later other (later_outside t.machine.server other is)

  pub outside_coupled : (draws : List Draw) → Coupled new (traced_behind t new draws)
  outside_coupled draws = record {
    history = history;
    sound = rw did.keeps.start coupled.sound;
    stops = ap stops_last added ∙ stops_behind old happened coupled.sound coupled.history up coupled.stops whole.lasts whole.from;
    server = server_behind t.machine.server old new calls t.machine.tick ran.ltxid (runs_of ran) coupled.server up did;
    living = λ number. did.others.0 number ∙ coupled.living number;
    stored = stored;
    lives = lives;
    later = later;
    entries = refl;
    blocked = refl;
    image = rw did.keeps.start coupled.image;
    blocks = known_same t.machine.server old.state.store.blocked new.state.store.blocked unblocked (known_blocks old t coupled);
  }

  follows : follow t.setting t.machine (event.Outside calls) (note.Outside (Some ran)) [] ≡ Some (outside_machine t.machine, [])
  follows =
      let named : ran.ltxid ≡ identifier (next_session t.machine.server) 0 = did.of_session ∙ ap (λ s. identifier s 0) same in
      rw (coupled.server.is_up ∙ up, (exact.identifiers ran.ltxid (identifier (next_session t.machine.server) 0)).1 named) refl

  pub outside_event : OneEvent old t (event.Outside calls) (note.Outside (Some ran)) [] [] new (traced_behind t new (drawn_outside (note.Outside (Some ran))))
  outside_event = record {
    follows = follows;
    happened = happened;
    did = (did.more, (ap (λ s. begins_outside s t.machine.tick ++ did.more) same, subst (λ s. RunsAre s t.machine.tick calls (runs_of ran) did.more) same did.ran));
    told = whole.told old.state.store;
    history = added;
    start = did.keeps.start;
    rises = let same = did.gains.incarnation in omega (arith, same);
    crashes = did.keeps.crashes.0;
    coupled_before = coupled;
    coupled_after = outside_coupled (drawn_outside (note.Outside (Some ran)));
    more_entries = did.gains.more_entries;
    entries = did.gains.entries ∙ ap (λ e. e ++ did.gains.more_entries) (sym coupled.entries);
    own = came_later (begins_outside session t.machine.tick) did.more did.gains.more_entries did.gains.own;
    more_blocked = did.gains.more_blocked;
    blocked = did.gains.blocked ∙ ap (λ e. e ++ did.gains.more_blocked) (sym coupled.blocked);
    asked = asked_later (begins_outside session t.machine.tick) did.more did.gains.more_blocked did.gains.asked;
    setting = refl;
    image = refl;
    outside = refl;
    outside_draws = refl;
  }

pub outsides_some : OrderlyIsKept → (sees sees_later : Seen → Type 0) (before after : Traffic) (calls : List Call) (ran : OutsideNote) → AreExact
    → ((seen : Seen) → sees seen → seen.state.is_up ≡ true)
    → ((seen : Seen) → sees_later seen → IsHistory seen)
    → Goes sees sees_later (λ old new. RanOutside old calls after.tick ran.ltxid (runs_of ran) new)
    → ((m : Machine) → IsUnderway before m → IsUnderway after (begun m))
    → Makes sees before sees_later after (event.Outside calls) (note.Outside (Some ran)) []
outsides_some kept sees sees_later before after calls ran exact up honest goes leads below seen t is =
    let gone = goes seen is.seen_so in
    let new = gone.0 in
    let is_up = up seen is.seen_so in
    let later = leads t.machine is.underway in
    let did : RanOutside seen calls t.machine.tick ran.ltxid (runs_of ran) new = subst (λ now. RanOutside seen calls now ran.ltxid (runs_of ran) new) (sym later.tick) gone.1.1 in
    let draws = drawn_outside (note.Outside (Some ran)) in
    made kept sees sees_later before after below (event.Outside calls) (note.Outside (Some ran)) [] seen new t (traced_behind t new draws) is
    (outside_event seen new t calls ran exact is.coupled is_up is.orderly.basic.made (honest new gone.1.0) did) did.gains.horizon gone.1.0 (stays_ready seen new did.keeps is.ready (λ up. is_up) (up_not_down new.state did.others.1))
    (one_call seen.state.calls new.state.calls did.keeps.calls)
    (any_server after (begun t.machine) (outside_server t.machine.server) later)
