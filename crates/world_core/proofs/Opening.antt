-- The store is opened, or the server is up already.
use Rattle.std.proofs.Common.{◌≡◌, ◌<◌, ◌≤◌, ℕ, ◌+◌, Bool, true, false, [], Some, None, refl, sym, ap, ◌∙◌, arith, inl, inr}
use Rattle.svc_values.specs.declared.entry.SessionId.{SessionId}
use Rattle.std.proofs.lemmas.List.{append-nil}
use Rattle.std.proofs.lemmas.Bool.{le-leb}
use Rattle.outage_schedule.specs.declared.event.Event.TheVariants as event
use Rattle.outage_schedule.specs.declared.note.Note.TheVariants as note
use Rattle.server_model.specs.Seen.{Seen, IsHistory}
use Rattle.server_model.specs.ServiceCalls.{Opened}
use Rattle.service_calls.specs.Kept.{Goes}
use Rattle.world_model.specs.meaning.Machines.{Server, Machine}
use Rattle.world_model.specs.Traced.{Traced}
use Rattle.world_model.specs.meaning.Opening.{may_open, opened}
use Rattle.world_model.specs.meaning.Walking.{follow}
use Rattle.world_model.specs.Coupled.{living_of, life_by, life_of, IsLater, SameServer, Coupled}
use Rattle.world_model.specs.OrderlyLaws.{OrderlyIsKept}
use Rattle.world_model.specs.OneEvent.{OneEvent}
use Rattle.world_core.specs.declared.traffic.Traffic.{Traffic}
use Rattle.world_core.specs.Underway.{IsUnderway}
use Rattle.world_core.specs.Making.{Makes, MakesBelow}
use Rattle.world_core.proofs.Readiness.{opened_ready}
use Rattle.world_core.proofs.frames.Living.{same_lived}
use Rattle.world_core.proofs.Coupling.{moved, begun, one_alone, one_call, made, made_alone, none_came, none_asked}

-- what is underway knows nothing of the server
pub any_server : (held : Traffic) (m : Machine) (server : Server) → IsUnderway held m → IsUnderway held (record m { server = server })
any_server held m server is = record { event = is.event; tick = is.tick; links = is.links; pool = is.pool; opened = is.opened }

-- it was up
pub ups_none : OrderlyIsKept → (sees : Seen → Type 0) (before after : Traffic) → ((seen : Seen) → sees seen → seen.state.is_up ≡ true) → ((m : Machine) → IsUnderway before m → IsUnderway after (begun m))
    → Makes sees before sees after event.Up (note.Up None) []
ups_none kept sees before after up goes below seen t is =
    let server_up : t.machine.server.is_up ≡ true = is.coupled.server.is_up ∙ up seen is.seen_so in
    let follows : follow t.setting t.machine event.Up (note.Up None) [] ≡ Some (begun t.machine, []) = rw server_up refl in
    made_alone kept sees before after below event.Up (note.Up None) seen t (begun t.machine) is (one_alone seen t event.Up (note.Up None) (begun t.machine) is.coupled follows refl refl refl refl refl refl) refl (goes t.machine is.underway)

-- the next incarnation is one that may open
may_open_next : (server : Server) (store incarnation : ℕ) → server.incarnation ≤ store → store ≤ server.incarnation + server.stopped → incarnation ≡ store + 1 → may_open server incarnation ≡ true
may_open_next server store incarnation low high is =
    rw (le-leb (server.incarnation + 1) incarnation (omega (arith, low, is)), le-leb incarnation (server.incarnation + 1 + server.stopped) (omega (arith, high, is))) refl

up_false : {A : Type 0} (b : Bool) → b ≡ true → b ≡ false → A
up_false b t f = absurd (let same : true ≡ false = sym t ∙ f in let nothing : ⊥ = cc in nothing)

server_opened : (server : Server) (old new : Seen) (horizon incarnation : ℕ) → SameServer server old → Opened old horizon new → incarnation ≡ new.state.store.incarnation → SameServer (opened server incarnation) new
server_opened server old new horizon incarnation same did told = record {
  is_up = sym did.is_up.0;
  per_record = same.per_record ∙ sym did.keeps.per_record;
  opened = λ up. (told, (sym did.sessions, refl));
  closed = λ down. up_false new.state.is_up did.is_up.0 down;
}

abbrev opened_machine : Machine → ℕ → Machine
opened_machine m incarnation = record (begun m) { server = opened m.server incarnation }

-- a session that is made later was made later before
later_opened : (server : Server) (incarnation : ℕ) (session : SessionId) → server.incarnation < incarnation → IsLater (opened server incarnation) session → server.incarnation < session.incarnation
later_opened server incarnation session above (inl later) = omega (arith, above, later)
later_opened server incarnation session above (inr (up, (same, later))) = omega (arith, above, same)

opened_coupled : (old new : Seen) (t : Traced) (horizon incarnation : ℕ) → Coupled old t → IsHistory new → Opened old horizon new → incarnation ≡ new.state.store.incarnation → t.machine.server.incarnation < incarnation
    → Coupled new (moved t (opened_machine t.machine incarnation))
opened_coupled old new t horizon incarnation coupled history did told above = record {
  history = history;
  sound = rw did.keeps.start coupled.sound;
  stops = rw did.keeps.history coupled.stops;
  server = server_opened t.machine.server old new horizon incarnation coupled.server did told;
  living = λ number. did.keeps.living number ∙ coupled.living number;
  stored = λ number link there. rw did.lists.entries (coupled.stored number link there);
  lives = λ number link there. same_lived old.history new.history (living_of (Some link)) (life_of link.served) did.keeps.history (coupled.lives number link there);
  later = λ session is. ap (λ h. life_by h session) did.keeps.history ∙ coupled.later session (inl (later_opened t.machine.server incarnation session above is));
  entries = coupled.entries ∙ sym did.lists.entries;
  blocked = coupled.blocked ∙ sym did.lists.blocked;
  image = rw did.keeps.start coupled.image;
  blocks = coupled.blocks;
}

-- it was opened
pub ups_some : OrderlyIsKept → (sees sees_later : Seen → Type 0) (before after : Traffic) (horizon incarnation : ℕ)
    → ((seen : Seen) → sees seen → seen.state.is_up ≡ false)
    → ((seen : Seen) → sees_later seen → IsHistory seen)
    → ((seen : Seen) → sees_later seen → seen.state.is_up ≡ true → incarnation ≡ seen.state.store.incarnation)
    → Goes sees sees_later (λ old new. Opened old horizon new)
    → ((m : Machine) → IsUnderway before m → IsUnderway after (begun m))
    → MakesBelow horizon sees before sees_later after event.Up (note.Up (Some incarnation)) []
ups_some kept sees sees_later before after horizon incarnation down honest told goes leads seen t is =
    let gone = goes seen is.seen_so in
    let new = gone.0 in
    let did : Opened seen horizon new = gone.1.1 in
    let is_down = down seen is.seen_so in
    let server_down : t.machine.server.is_up ≡ false = is.coupled.server.is_up ∙ is_down in
    let near = is.coupled.server.closed is_down in
    let is_now = told new gone.1.0 did.is_up.0 in
    let next : incarnation ≡ seen.state.store.incarnation + 1 = is_now ∙ did.incarnation in
    let may = may_open_next t.machine.server seen.state.store.incarnation incarnation near.0 near.1 next in
    let m = opened_machine t.machine incarnation in
    let follows : follow t.setting t.machine event.Up (note.Up (Some incarnation)) [] ≡ Some (m, []) = rw (server_down, may) refl in
    let coupled : Coupled new (moved t m) = opened_coupled seen new t horizon incarnation is.coupled (honest new gone.1.0) did is_now (let low = near.0 in omega (arith, low, next)) in
    let one : OneEvent seen t event.Up (note.Up (Some incarnation)) [] [] new (moved t m) = record {
      follows = follows;
      happened = [];
      did = refl;
      told = tt;
      history = did.keeps.history ∙ sym (append-nil seen.history);
      start = did.keeps.start;
      rises = let one_more = did.incarnation in omega (arith, one_more);
      crashes = did.keeps.crashes.0;
      coupled_before = is.coupled;
      coupled_after = coupled;
      more_entries = [];
      entries = sym (append-nil t.entries);
      own = none_came [];
      more_blocked = [];
      blocked = sym (append-nil t.blocked);
      asked = none_asked [];
      setting = refl;
      image = refl;
      outside = sym (append-nil t.outside);
      outside_draws = sym (append-nil t.outside_draws);
    } in
    made kept sees sees_later before after horizon event.Up (note.Up (Some incarnation)) [] seen new t (moved t m) is one did.horizon gone.1.0 (opened_ready seen new did.keeps is.ready did.is_up) (one_call seen.state.calls new.state.calls did.keeps.calls)
    (any_server after (begun t.machine) (opened t.machine.server incarnation) (leads t.machine is.underway))
