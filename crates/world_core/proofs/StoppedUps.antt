-- An opening that is stopped, or not, and the crash behind it.
use Rattle.std.proofs.Common.{◌≡◌, ◌≤◌, ℕ, zero, suc, ◌+◌, Bool, true, false, List, [], Option, Some, None, refl, sym, ap, ◌∙◌, subst, arith, inl, inr}
use Rattle.std.specs.Prelude.{◌&&◌, ◌||◌, ◌⊎◌, max, not, if◌then◌else◌}
use Rattle.std.specs.List.{list_all}
use Rattle.std.proofs.lemmas.List.{append-nil}
use Rattle.outage_schedule.specs.declared.event.Event.TheVariants as event
use Rattle.outage_schedule.specs.declared.note.Note.TheVariants as note
use Rattle.server_model.specs.Seen.{Store, Seen, IsHistory}
use Rattle.server_model.specs.meaning.ServiceCalls.{is_failover}
use Rattle.server_model.specs.ServiceCalls.{Crashed, SameLists, HasSoFar, Neither, Forgets, Both}
use Rattle.service_calls.specs.Kept.{Goes}
use Rattle.world_model.specs.records.Basic.{is_down}
use Rattle.world_model.specs.CrashCount.{Counted}
use Rattle.world_model.specs.Coupled.{living_of, life_by, life_of, SameServer, Coupled}
use Rattle.world_model.specs.OrderlyLaws.{OrderlyIsKept}
use Rattle.world_model.specs.OneEvent.{OneEvent}
use Rattle.world_model.specs.meaning.Links.{Link, link_at}
use Rattle.world_model.specs.meaning.Machines.{Server, Machine}
use Rattle.world_model.specs.Traced.{Traced}
use Rattle.world_model.specs.meaning.Walking.{follow}
use Rattle.world_core.specs.declared.traffic.Traffic.{Traffic}
use Rattle.world_core.specs.Underway.{IsUnderway}
use Rattle.world_core.specs.Making.{Makes, MakesBelow}
use Rattle.world_core.specs.Stopping.{BegunOpening}
use Rattle.world_core.proofs.frames.Living.{same_lived}
use Rattle.world_core.proofs.frames.Blocking.{known_blocks, known_same}
use Rattle.world_core.proofs.Coupling.{begun, one_alone, made, made_alone, none_came, none_asked}
use Rattle.world_core.proofs.Opening.{any_server}
use Rattle.world_core.proofs.Readiness.{up_not_opened}
use Rattle.world_core.proofs.frames.Storing.{both, all_at}

-- the server is up
pub crashes_no_opening : OrderlyIsKept → (sees : Seen → Type 0) (before after : Traffic) (calls pick : ℕ) → ((seen : Seen) → sees seen → seen.state.is_up ≡ true) → ((m : Machine) → IsUnderway before m → IsUnderway after (begun m))
    → Makes sees before sees after (event.UpCrash calls pick) (note.UpCrash false) []
crashes_no_opening kept sees before after calls pick up goes below seen t is =
    let server_up : t.machine.server.is_up ≡ true = is.coupled.server.is_up ∙ up seen is.seen_so in
    let follows : follow t.setting t.machine (event.UpCrash calls pick) (note.UpCrash false) [] ≡ Some (begun t.machine, []) = rw server_up refl in
    made_alone kept sees before after below (event.UpCrash calls pick) (note.UpCrash false) seen t (begun t.machine) is (one_alone seen t (event.UpCrash calls pick) (note.UpCrash false) (begun t.machine) is.coupled follows refl refl refl refl refl refl) refl (goes t.machine is.underway)

-- NO SESSION LIVES --------------------------------------------------------------------------------

gone : (link : Link) (living : Bool) → not living ≡ true → (if living then Some link.session else None) ≡ None
gone link true e = absurd (let nothing : ⊥ = cc in nothing)
gone link false e = refl

none_lives : (links : List Link) (number : ℕ) (found : Option Link) → list_all (λ link. not link.is_open && not link.is_living) links ≡ true → link_at links number ≡ found → living_of found ≡ None
none_lives links number None all there = refl
none_lives links zero (Some link) all there = absurd (let nothing : ⊥ = cc in nothing)
none_lives links (suc index) (Some link) all there = gone link link.is_living (both (not link.is_open) (not link.is_living) (all_at (λ one. not one.is_open && not one.is_living) links index link all there)).1

are_down : (up : Bool) (none : Bool) → up ≡ false → (up || none) ≡ true → none ≡ true
are_down true none down e = absurd (let nothing : ⊥ = cc in nothing)
are_down false none down e = e

-- WHAT IS LEFT ------------------------------------------------------------------------------------

-- behind the crash, whether the stop was reached or not
record Left (old new : Seen) (below after pick : ℕ) : Type 0 where
  start : new.start ≡ old.start
  history : new.history ≡ old.history
  lists : SameLists old.state.store new.state.store
  low : old.state.store.incarnation ≤ new.state.store.incarnation
  high : new.state.store.incarnation ≤ old.state.store.incarnation + 1
  quiet : new.state.is_quiet ≡ old.state.is_quiet
  per_record : new.state.per_record ≡ old.state.per_record
  calls : new.state.calls ≡ old.state.calls + 1 + 1 + 1
  horizon : (new.state.store.horizon ≡ old.state.store.horizon) ⊎ (new.state.store.horizon ≡ max old.state.store.horizon below)
  counted : Counted pick old.state new.state × (new.state.last_stop ≡ Some after)

so_far_near : (old new : Store) (below : ℕ) → HasSoFar old below new → (old.incarnation ≤ new.incarnation) × (new.incarnation ≤ old.incarnation + 1)
so_far_near old new below (Neither same horizon) = (omega (arith, same), omega (arith, same))
so_far_near old new below (Forgets same horizon) = (omega (arith, same), omega (arith, same))
so_far_near old new below (Both next horizon) = (omega (arith, next), omega (arith, next))

so_far_horizon : (old new : Store) (below : ℕ) → HasSoFar old below new → (new.horizon ≡ old.horizon) ⊎ (new.horizon ≡ max old.horizon below)
so_far_horizon old new below (Neither same horizon) = inl horizon
so_far_horizon old new below (Forgets same horizon) = inr horizon
so_far_horizon old new below (Both next horizon) = inr horizon

-- the crash is counted, and has the stop that was set
counts_one : (old between new : Seen) (after pick : ℕ) → between.state.crashes ≡ old.state.crashes → between.state.kept ≡ Some after → Crashed between pick new → Counted pick old.state new.state × (new.state.last_stop ≡ Some after)
counts_one old between new after pick same kept fell = (record { crashes = fell.crashes.0 ∙ ap (λ (n : ℕ). n + 1) same; pick_is = fell.crashes.1 }, fell.crashes.2 ∙ kept)

same_records : (old between new : Seen) (pick : ℕ) → is_failover pick ≡ false → between.state.per_record ≡ old.state.per_record → Crashed between pick new → new.state.per_record ≡ old.state.per_record
same_records old between new pick one kept fell = fell.per_record ∙ ap (λ b. if b then 4 else between.state.per_record) one ∙ kept

left_by : (old between new : Seen) (below after pick : ℕ) (leaves : Store → Type 0) → is_failover pick ≡ false → BegunOpening old below after leaves between → leaves new.state.store → Crashed between pick new → Left old new below after pick
left_by old between new below after pick leaves one (inl opened) left fell =
    let same = fell.store (inl opened.is_up.0) in
    record {
      start = fell.start ∙ opened.keeps.start;
      history = fell.history ∙ opened.keeps.history;
      lists = subst (SameLists old.state.store) (sym same) opened.lists;
      low = let is : new.state.store.incarnation ≡ old.state.store.incarnation + 1 = ap (λ (s : Store). s.incarnation) same ∙ opened.incarnation in omega (arith, is);
      high = let is : new.state.store.incarnation ≡ old.state.store.incarnation + 1 = ap (λ (s : Store). s.incarnation) same ∙ opened.incarnation in omega (arith, is);
      quiet = fell.is_quiet ∙ opened.keeps.is_quiet;
      per_record = same_records old between new pick one opened.keeps.per_record fell;
      calls = fell.calls ∙ ap (λ (n : ℕ). n + 1) opened.keeps.calls;
      horizon = inr (ap (λ (s : Store). s.horizon) same ∙ opened.horizon);
      counted = counts_one old between new after pick opened.keeps.crashes.0 opened.keeps.kept fell;
    }
left_by old between new below after pick leaves one (inr stopped) left fell =
    let has = stopped.left new.state.store left in
    let near = so_far_near old.state.store new.state.store below has.so_far in
    record {
      start = fell.start ∙ stopped.keeps.start;
      history = fell.history ∙ stopped.keeps.history;
      lists = has.lists;
      low = near.0;
      high = near.1;
      quiet = fell.is_quiet ∙ stopped.keeps.is_quiet;
      per_record = same_records old between new pick one stopped.keeps.per_record fell;
      calls = fell.calls ∙ ap (λ (n : ℕ). n + 1) stopped.keeps.calls;
      horizon = so_far_horizon old.state.store new.state.store below has.so_far;
      counted = counts_one old between new after pick stopped.keeps.crashes.0 stopped.keeps.kept fell;
    }

three_calls : (old new : ℕ) → new ≡ old + 1 + 1 + 1 → new ≤ old + 4
three_calls old new is = omega (arith, is)

-- COUPLED AGAIN -----------------------------------------------------------------------------------

abbrev stopped_server : Server → Server
stopped_server server = record server { stopped = server.stopped + 1 }

abbrev stopped_machine : Machine → Machine
stopped_machine m = record (begun m) { server = stopped_server m.server }

abbrev traced_behind : Traced → Seen → Traced
traced_behind t new = record t { machine = stopped_machine t.machine; entries = new.state.store.entries; blocked = new.state.store.blocked }

server_behind : (server : Server) (old new : Seen) (below after pick : ℕ) → SameServer server old → old.state.is_up ≡ false → Left old new below after pick → new.state.is_up ≡ false → SameServer (stopped_server server) new
server_behind server old new below after pick same down left fell =
    let near = same.closed down in
    let low = near.0 in
    let high = near.1 in
    let more = left.low in
    let most = left.high in
    record {
      is_up = same.is_up ∙ down ∙ sym fell;
      per_record = same.per_record ∙ sym left.per_record;
      opened = λ up. absurd (let clash : true ≡ false = sym up ∙ fell in let nothing : ⊥ = cc in nothing);
      closed = λ is. (omega (arith, low, more), omega (arith, high, most));
    }

stopped_coupled : (old new : Seen) (below after pick : ℕ) (t : Traced) → Coupled old t → old.state.is_up ≡ false → is_down t ≡ true → IsHistory new → Left old new below after pick → new.state.is_up ≡ false → ((number : ℕ) → new.state.living number ≡ None) → Coupled new (traced_behind t new)
stopped_coupled old new below after pick t coupled down fallen history left fell living =
    let none = are_down t.machine.server.is_up (list_all (λ link. not link.is_open && not link.is_living) t.machine.links) (coupled.server.is_up ∙ down) fallen in
    record {
      history = history;
      sound = rw left.start coupled.sound;
      stops = rw left.history coupled.stops;
      server = server_behind t.machine.server old new below after pick coupled.server down left fell;
      living = λ number. living number ∙ sym (none_lives t.machine.links number (link_at t.machine.links number) none refl);
      stored = λ number link there. rw left.lists.entries (coupled.stored number link there);
      lives = λ number link there. same_lived old.history new.history (living_of (Some link)) (life_of link.served) left.history (coupled.lives number link there);
      later = λ session is. ap (λ h. life_by h session) left.history ∙ coupled.later session is;
      entries = refl;
      blocked = refl;
      image = rw left.start coupled.image;
      blocks = known_same t.machine.server old.state.store.blocked new.state.store.blocked left.lists.blocked (known_blocks old t coupled);
    }

pub crashes_opening : OrderlyIsKept → (sees sees_between sees_later : Seen → Type 0) (leaves : Store → Type 0) (before after : Traffic) (horizon calls pick : ℕ) → is_failover pick ≡ false
    → ((seen : Seen) → sees seen → seen.state.is_up ≡ false)
    → ((seen : Seen) → sees_later seen → IsHistory seen)
    → ((seen : Seen) → sees_later seen → leaves seen.state.store)
    → Goes sees sees_between (λ old new. BegunOpening old horizon calls leaves new)
    → Goes sees_between sees_later (λ old new. Crashed old pick new)
    → ((m : Machine) → IsUnderway before m → IsUnderway after (begun m))
    → MakesBelow horizon sees before sees_later after (event.UpCrash calls pick) (note.UpCrash true) []
crashes_opening kept sees sees_between sees_later leaves before after horizon calls pick one down honest remains begins falls leads seen t is =
    let begun_so = begins seen is.seen_so in
    let between = begun_so.0 in
    let fell = falls between begun_so.1.0 in
    let new = fell.0 in
    let crashed : Crashed between pick new = fell.1.1 in
    let closed = down seen is.seen_so in
    let server_down : t.machine.server.is_up ≡ false = is.coupled.server.is_up ∙ closed in
    let left = left_by seen between new horizon calls pick leaves one begun_so.1.1 (remains new fell.1.0) crashed in
    let m = stopped_machine t.machine in
    let follows : follow t.setting t.machine (event.UpCrash calls pick) (note.UpCrash true) [] ≡ Some (m, []) = rw server_down refl in
    let coupled : Coupled new (traced_behind t new) = stopped_coupled seen new horizon calls pick t is.coupled closed is.orderly.basic.down (honest new fell.1.0) left crashed.down.0 crashed.living in
    let event_made : OneEvent seen t (event.UpCrash calls pick) (note.UpCrash true) [] [] new (traced_behind t new) = record {
      follows = follows;
      happened = [];
      did = refl;
      told = tt;
      history = left.history ∙ sym (append-nil seen.history);
      start = left.start;
      rises = left.low;
      crashes = left.counted;
      coupled_before = is.coupled;
      coupled_after = coupled;
      more_entries = [];
      entries = left.lists.entries ∙ sym is.coupled.entries ∙ sym (append-nil t.entries);
      own = none_came [];
      more_blocked = [];
      blocked = left.lists.blocked ∙ sym is.coupled.blocked ∙ sym (append-nil t.blocked);
      asked = none_asked [];
      setting = refl;
      image = refl;
      outside = sym (append-nil t.outside);
      outside_draws = sym (append-nil t.outside_draws);
    } in
    made kept sees sees_later before after horizon (event.UpCrash calls pick) (note.UpCrash true) [] seen new t (traced_behind t new) is event_made left.horizon fell.1.0
    (record { live = crashed.is_spent; quiet = left.quiet ∙ is.ready.quiet; unstopped = crashed.stop.0; opened = up_not_opened new.state crashed.down.0; settled = λ falls. crashed.down.1 }) (three_calls seen.state.calls new.state.calls left.calls)
    (any_server after (begun t.machine) (stopped_server t.machine.server) (leads t.machine is.underway))
