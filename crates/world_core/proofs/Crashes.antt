-- A crash, behind the frame that was served last.
use Rattle.std.proofs.Common.{◌≡◌, ◌<◌, ◌≤◌, ℕ, zero, suc, ◌+◌, Bool, true, false, List, [], ◌∷◌, ◌++◌, Option, Some, None, map, refl, sym, ap, ◌∙◌, subst, arith, eq-eqb, inl, inr}
use Rattle.std.specs.Prelude.{◌^◌, slice_get, fold, option_map, if◌then◌else◌}
use Rattle.std.proofs.lemmas.List.{append-nil}
use Rattle.outage_schedule.specs.declared.event.Event.TheVariants as event
use Rattle.outage_schedule.specs.declared.note.Note.TheVariants as note
use Rattle.outage_schedule.specs.declared.item.Served.{Served}
use Rattle.pool_core.specs.meaning.Slots.{after_gone}
use Rattle.svc_values.specs.declared.entry.Entry.{Entry}
use Rattle.svc_values.specs.declared.entry.SessionId.{SessionId}
use Rattle.server_model.specs.Laws.{stops_last}
use Rattle.server_model.specs.Runs.{Happened}
use Rattle.server_model.specs.Seen.{Store, ServiceState, Seen, IsHistory}
use Rattle.server_model.specs.meaning.ServiceCalls.{is_failover}
use Rattle.server_model.specs.ServiceCalls.{Gains, Crashed}
use Rattle.service_calls.specs.Kept.{Goes}
use Rattle.world_model.specs.Coupled.{living_of, HasStored, life_by, life_of, IsLater, SameServer, Coupled}
use Rattle.world_model.specs.meaning.Crashing.{fallen_link, fallen_server, falls, crashes, follow_crash}
use Rattle.world_model.specs.meaning.Links.{Link, link_at, open_from}
use Rattle.world_model.specs.meaning.Machines.{Server, Machine}
use Rattle.world_model.specs.meaning.Noting.{only_if}
use Rattle.world_model.specs.OrderlyLaws.{OrderlyIsKept}
use Rattle.world_model.specs.OneEvent.{OneEvent}
use Rattle.world_model.specs.ServiceDid.{front_served}
use Rattle.world_model.specs.meaning.Serving.{front_at}
use Rattle.world_model.specs.Traced.{Traced}
use Rattle.world_model.specs.meaning.Walking.{follow}
use Rattle.world_core.specs.declared.traffic.Traffic.{Traffic}
use Rattle.world_core.specs.Underway.{IsUnderway}
use Rattle.world_core.specs.Making.{Makes, IsSomewhere}
use Rattle.world_core.specs.Stopping.{ServedLast, LeadsLast}
use Rattle.world_core.proofs.frames.Living.{none_lived}
use Rattle.world_core.proofs.Coupling.{begun, one_alone, made, made_alone}
use Rattle.world_core.proofs.Opening.{any_server}
use Rattle.world_core.proofs.Readiness.{up_not_opened}

-- the server is down
pub crashes_none : OrderlyIsKept → (sees : Seen → Type 0) (before after : Traffic) (number calls pick : ℕ) → ((seen : Seen) → sees seen → seen.state.is_up ≡ false) → ((m : Machine) → IsUnderway before m → IsUnderway after (begun m))
    → Makes sees before sees after (event.Crash number calls pick) (note.Crash number true) []
crashes_none kept sees before after number calls pick down goes below seen t is =
    let server_down : t.machine.server.is_up ≡ false = is.coupled.server.is_up ∙ down seen is.seen_so in
    let follows : follow t.setting t.machine (event.Crash number calls pick) (note.Crash number true) [] ≡ Some (begun t.machine, []) = rw (eq-eqb number number refl, server_down) refl in
    made_alone kept sees before after below (event.Crash number calls pick) (note.Crash number true) seen t (begun t.machine) is
    (one_alone seen t (event.Crash number calls pick) (note.Crash number true) (begun t.machine) is.coupled follows (rw server_down refl) refl refl refl refl refl) refl (goes t.machine is.underway)

-- NOTHING LIVES -----------------------------------------------------------------------------------

none_at : (event : ℕ) (links : List Link) (index : ℕ) → living_of (slice_get (map (fallen_link event) links) index) ≡ None
none_at event [] index = refl
none_at event (link ∷ links) zero = refl
none_at event (link ∷ links) (suc index) = none_at event links index

none_living : (event : ℕ) (links : List Link) (number : ℕ) → living_of (link_at (map (fallen_link event) links) number) ≡ None
none_living event links zero = refl
none_living event links (suc index) = none_at event links index

none_stored : (entries : List Entry) (living : Option (Option SessionId)) (commits : ℕ) → living ≡ None → HasStored entries living commits
none_stored entries living commits none = subst (λ l. HasStored entries l commits) (sym none) tt

-- COUPLED AGAIN -----------------------------------------------------------------------------------

abbrev traced_behind : Traced → Machine → Seen → Traced
traced_behind t m new = record t { machine = m; entries = new.state.store.entries; blocked = new.state.store.blocked }

by_failover : (failover : Bool) (a b c : ℕ) → a ≡ b → c ≡ (if failover then 4 else b) → (if failover then 4 else a) ≡ c
by_failover true a b c same is = sym is
by_failover false a b c same is = same ∙ sym is

same_least : (a b : ℕ) → a ≡ b → a ≤ b
same_least a b same = omega (arith, same)

same_most : (a b c : ℕ) → a ≡ b → b ≤ a + c
same_most a b c same = omega (arith, same)

server_fallen : (server : Server) (failover : Bool) (incarnation per_record : ℕ) (new : Seen) → server.incarnation ≡ incarnation → server.per_record ≡ per_record → new.state.is_up ≡ false → new.state.store.incarnation ≡ incarnation
    → new.state.per_record ≡ (if failover then 4 else per_record) → SameServer (fallen_server failover server) new
server_fallen server failover incarnation per_record new same records down store told =
    let is : server.incarnation ≡ new.state.store.incarnation = same ∙ sym store in
    record {
      is_up = sym down;
      per_record = by_failover failover server.per_record per_record new.state.per_record records told;
      opened = λ up. absurd (let clash : true ≡ false = sym up ∙ down in let nothing : ⊥ = cc in nothing);
      closed = λ none. (same_least server.incarnation new.state.store.incarnation is, same_most server.incarnation new.state.store.incarnation server.stopped is);
    }

-- a session that is made later is of an incarnation to come
later_fallen : (server : Server) (failover : Bool) (incarnation : ℕ) (session : SessionId) → server.incarnation ≡ incarnation → IsLater (fallen_server failover server) session → incarnation < session.incarnation
later_fallen server failover incarnation session same (inl later) = omega (arith, same, later)
later_fallen server failover incarnation session same (inr (up, later)) = absurd (let clash : false ≡ true = up in let nothing : ⊥ = cc in nothing)

when_up : {A : Type 0} (up : Bool) (a b : A) → up ≡ true → (if up then a else b) ≡ a
when_up true a b e = refl
when_up false a b e = absurd (let nothing : ⊥ = cc in nothing)

module _ (seen between new : Seen) (t : Traced) (number calls pick : ℕ) (items : List Served) (leaves : Store → Type 0) (m : Machine) (coupled : Coupled seen t) (up : seen.state.is_up ≡ true) (history : IsHistory new)
    (last : ServedLast seen t number calls items leaves between m) (crashed : Crashed between pick new) (remains : leaves new.state.store) where
  abbrev happened : List Happened
  happened = front_served t.machine.tick (front_at t.machine.links number) items

  abbrev fallen : Machine
  fallen = falls (is_failover pick) m

  gains : Gains happened seen.state.store new.state.store
  gains = last.left new.state.store remains (λ up. crashed.store (inl up))

  server : SameServer fallen.server new
  server =
      server_fallen m.server (is_failover pick) t.machine.server.incarnation t.machine.server.per_record new last.server.0 last.server.1 crashed.down.0 (gains.incarnation ∙ sym (coupled.server.opened up).0)
      (crashed.per_record ∙ ap (λ n. if is_failover pick then 4 else n) (last.per_record ∙ sym coupled.server.per_record))

  pub crash_coupled : Coupled new (traced_behind t fallen new)
  crash_coupled = record {
    history = history;
    sound = rw (crashed.start ∙ last.start) coupled.sound;
    stops = ap stops_last crashed.history ∙ last.lasts;
    server = server;
    living = λ other. crashed.living other ∙ sym (none_living m.event m.links other);
    stored = λ other link there. none_stored new.state.store.entries (living_of (Some link)) link.commits (ap living_of (sym there) ∙ none_living m.event m.links other);
    lives = λ other link there. none_lived new.history (living_of (Some link)) (life_of link.served) (ap living_of (sym there) ∙ none_living m.event m.links other);
    later = λ session is.
        let above = later_fallen m.server (is_failover pick) t.machine.server.incarnation session last.server.0 is in
        ap (λ h. life_by h session) crashed.history ∙ last.later session above ∙ coupled.later session (inl above);
    entries = refl;
    blocked = refl;
    image = rw (crashed.start ∙ last.start) coupled.image;
    blocks = last.blocks new.state.store remains (λ up. crashed.store (inl up));
  }

  follows : follow t.setting t.machine (event.Crash number calls pick) (note.Crash number false) items ≡ Some (fallen, [])
  follows =
      let goes = ap (λ (next : Option (Machine × List Served)). option_map (λ (n : Machine × List Served). (falls (is_failover pick) n.0, n.1)) next) last.follows in
      let followed : follow_crash (begun t.machine) number calls (is_failover pick) false items ≡ Some (fallen, []) =
      when_up t.machine.server.is_up (crashes (begun t.machine) number calls (is_failover pick) items) (only_if false (begun t.machine, items)) (coupled.server.is_up ∙ up) ∙ goes in
      rw (eq-eqb number number refl, followed) refl

  pub crash_event : OneEvent seen t (event.Crash number calls pick) (note.Crash number false) items [] new (traced_behind t fallen new)
  crash_event = record {
    follows = follows;
    happened = happened;
    did = rw (coupled.server.is_up ∙ up) refl;
    told = last.told;
    history = crashed.history ∙ last.history;
    start = crashed.start ∙ last.start;
    rises = let same = gains.incarnation in omega (arith, same);
    crashes = (record { crashes = crashed.crashes.0 ∙ ap (λ (n : ℕ). n + 1) last.crashes; pick_is = crashed.crashes.1 }, last.kept new.state crashed.crashes.2);
    coupled_before = coupled;
    coupled_after = crash_coupled;
    more_entries = gains.more_entries;
    entries = gains.entries ∙ ap (λ e. e ++ gains.more_entries) (sym coupled.entries);
    own = gains.own;
    more_blocked = gains.more_blocked;
    blocked = gains.blocked ∙ ap (λ e. e ++ gains.more_blocked) (sym coupled.blocked);
    asked = gains.asked;
    setting = refl;
    image = refl;
    outside = sym (append-nil t.outside);
    outside_draws = sym (append-nil t.outside_draws);
  }

more_calls : (old between new : ℕ) → between ≤ old + 2 → new ≡ between + 1 → new ≤ old + 4
more_calls old between new most is = omega (arith, most, is)

pub crashes_served : OrderlyIsKept → (sees sees_between sees_later : Seen → Type 0) (leaves : Store → Type 0) (before between after : Traffic) (number calls pick : ℕ) (items : List Served)
    → ((seen : Seen) → sees seen → seen.state.is_up ≡ true)
    → ((seen : Seen) → sees_later seen → IsHistory seen)
    → ((seen : Seen) → sees_later seen → leaves seen.state.store)
    → LeadsLast sees before sees_between leaves between number calls items
    → Goes sees_between sees_later (λ old new. Crashed old pick new)
    → ((m : Machine) → IsUnderway between m → IsUnderway after (record m { links = map (fallen_link m.event) m.links; pool = fold after_gone m.pool (open_from 1 m.links) }))
    → Makes sees before sees_later after (event.Crash number calls pick) (note.Crash number false) items
crashes_served kept sees sees_between sees_later leaves before between after number calls pick items up honest remains leads falls_so goes below seen t is =
    let led = leads seen t is in
    let m = led.1.0 in
    let last = led.1.1.1.0 in
    let fell = falls_so led.0 led.1.1.0 in
    let new = fell.0 in
    let crashed : Crashed led.0 pick new = fell.1.1 in
    let fallen = falls (is_failover pick) m in
    made kept sees sees_later before after below (event.Crash number calls pick) (note.Crash number false) items seen new t (traced_behind t fallen new) is
    (crash_event seen led.0 new t number calls pick items leaves m is.coupled (up seen is.seen_so) (honest new fell.1.0) last crashed (remains new fell.1.0)) (last.left new.state.store (remains new fell.1.0) (λ up. crashed.store (inl up))).horizon fell.1.0
    (record { live = crashed.is_spent; quiet = crashed.is_quiet ∙ last.ready.1 ∙ is.ready.quiet; unstopped = crashed.stop.0; opened = up_not_opened new.state crashed.down.0; settled = λ down. crashed.down.1 }) (more_calls seen.state.calls led.0.state.calls new.state.calls last.ready.3 crashed.calls)
    (any_server after (record m { links = map (fallen_link m.event) m.links; pool = fold after_gone m.pool (open_from 1 m.links) }) fallen.server (goes m led.1.1.1.1))

-- what a service that is up is like behind the frame that is served last: it may be crashed, with
-- any pick
pub record MayFall (old new : ServiceState) : Type 0 where
  pub live : new.is_spent ≡ false
  pub few : new.calls ≤ old.calls + 2
  pub opened : new.is_opened ≡ true

pub few_between : (old new : ℕ) → new ≤ old + 2 → old + 2 < 2 ^ 48 → new < 2 ^ 48
few_between old new most few = omega (arith, most, few)

pub may_fall : (sees sees_between : Seen → Type 0) (leaves : Store → Type 0) (before between : Traffic) (number calls : ℕ) (items : List Served) (old new : ServiceState) → IsSomewhere sees before → old.is_up ≡ true
    → LeadsLast sees before sees_between leaves between number calls items → ((seen : Seen) → sees seen → seen.state ≡ old) → ((seen : Seen) → sees_between seen → seen.state ≡ new) → MayFall old new
may_fall sees sees_between leaves before between number calls items old new there up leads old_is new_is =
    let seen = there.0 in
    let is = there.1.1 in
    let led = leads seen there.1.0 is in
    let ready = led.1.1.1.0.ready in
    let was = old_is seen is.seen_so in
    let opened = is.ready.opened (ap (λ (s : ServiceState). s.is_up) was ∙ up) in
    subst (λ (s : ServiceState). MayFall old s) (new_is led.0 led.1.1.0) (subst (λ (s : ServiceState). MayFall s led.0.state) was (record { live = ready.0; few = ready.3; opened = ready.2 ∙ opened }))
