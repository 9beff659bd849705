-- The session of an orphan ends, at the machine and at the service.
use Rattle.std.proofs.Common.{◌≡◌, ◌≤◌, ℕ, zero, suc, ◌+◌, ◌==◌, Bool, true, false, List, [], Option, Some, None, refl, sym, ap, ◌∙◌, subst, eq-eqb, inl, inr, arith}
use Rattle.std.proofs.lemmas.Bool.Decides.{eqb_tells}
use Rattle.std.specs.Prelude.{◌⊎◌, if◌then◌else◌}
use Rattle.std.specs.Option.{option_map_or}
use Rattle.std.proofs.lemmas.List.{append-nil}
use Rattle.svc_values.specs.meaning.Same.{same_bool}
use Rattle.outage_schedule.specs.declared.event.Event.TheVariants as event
use Rattle.outage_schedule.specs.declared.note.Note.TheVariants as note
use Rattle.server_model.specs.Seen.{Store, Seen, IsHistory, Keeps, KeepsStore}
use Rattle.server_model.specs.ServiceCalls.{Reaped}
use Rattle.service_calls.specs.Kept.{Goes}
use Rattle.world_model.specs.meaning.Links.{Link, link_at, with_link, changed, is_orphan}
use Rattle.world_model.specs.meaning.Machines.{Server, Machine}
use Rattle.world_model.specs.Traced.{Traced}
use Rattle.world_model.specs.meaning.Noting.{only_if}
use Rattle.world_model.specs.meaning.Cutting.{has_orphan, reaped_link, follow_reap}
use Rattle.world_model.specs.meaning.Walking.{follow}
use Rattle.world_model.specs.Coupled.{living_of, HasStored, life_by, life_of, HasLived, IsLater, SameServer, Coupled}
use Rattle.world_model.specs.OrderlyLaws.{OrderlyIsKept}
use Rattle.world_model.specs.OneEvent.{OneEvent}
use Rattle.world_core.specs.declared.traffic.Traffic.{Traffic}
use Rattle.world_core.specs.Underway.{IsUnderway, Leads}
use Rattle.world_core.specs.Making.{Makes}
use Rattle.world_core.specs.Stopping.{AreKnown}
use Rattle.world_core.proofs.Places.{slice_same, slice_other}
use Rattle.world_core.proofs.Readiness.{store_ready}
use Rattle.world_core.proofs.frames.Living.{same_lived}
use Rattle.world_core.proofs.Coupling.{moved, begun, one_alone, one_call, made, made_alone, none_came, none_asked}

-- ONE OF MANY -------------------------------------------------------------------------------------

pub link_same : (links : List Link) (number : ℕ) (old new : Link) → link_at links number ≡ Some old → link_at (with_link links number new) number ≡ Some new
link_same links zero old new there = absurd (let nothing : ⊥ = cc in nothing)
link_same links (suc index) old new there = slice_same links index old new there

pub link_other : (links : List Link) (number other : ℕ) (new : Link) → (other ≡ number → ⊥) → link_at (with_link links number new) other ≡ link_at links other
link_other links zero other new apart = refl
link_other links (suc index) zero new apart = refl
link_other links (suc index) (suc other) new apart = slice_other links index other new (λ same. apart (ap suc same))

-- A CALL THAT KEEPS THE STORE ---------------------------------------------------------------------

same_server : (server : Server) (old new : Seen) → SameServer server old → Keeps old new → KeepsStore old new → SameServer server new
same_server server old new same keeps store = record {
  is_up = same.is_up ∙ sym store.is_up;
  per_record = same.per_record ∙ sym keeps.per_record;
  opened = λ up.
      let before = same.opened (sym store.is_up ∙ up) in
      (before.0 ∙ ap (λ s. s.incarnation) (sym store.store), (before.1.0 ∙ sym store.sessions, before.1.1));
  closed = λ down.
      let before = same.closed (sym store.is_up ∙ down) in
      subst (λ s. (server.incarnation ≤ s.incarnation) × (s.incarnation ≤ server.incarnation + server.stopped)) (sym store.store) before;
}

pub kept_coupled : (old new : Seen) (t : Traced) (m : Machine) → Coupled old t → IsHistory new → Keeps old new → KeepsStore old new → m.server ≡ t.machine.server
    → ((number : ℕ) → new.state.living number ≡ living_of (link_at m.links number))
    → ((number : ℕ) (link : Link) → link_at m.links number ≡ Some link → HasStored old.state.store.entries (living_of (Some link)) link.commits)
    → ((number : ℕ) (link : Link) → link_at m.links number ≡ Some link → HasLived old.history (living_of (Some link)) (life_of link.served))
    → Coupled new (moved t m)
kept_coupled old new t m coupled history keeps store server living stored lives = record {
  history = history;
  sound = rw keeps.start coupled.sound;
  stops = rw store.history coupled.stops;
  server = rw server (same_server t.machine.server old new coupled.server keeps store);
  living = living;
  stored = λ number link there. rw store.store (stored number link there);
  lives = λ number link there. same_lived old.history new.history (living_of (Some link)) (life_of link.served) store.history (lives number link there);
  later = λ session is. ap (λ h. life_by h session) store.history ∙ coupled.later session (subst (λ s. IsLater s session) server is);
  entries = coupled.entries ∙ ap (λ s. s.entries) (sym store.store);
  blocked = coupled.blocked ∙ ap (λ s. s.blocked) (sym store.store);
  image = rw keeps.start coupled.image;
  blocks = subst (λ s. AreKnown s t.blocked) (sym server) coupled.blocks;
}

-- REAPING -----------------------------------------------------------------------------------------

some_same : {A : Type 0} (a b : A) → ◌≡◌ {A = Option A} (Some a) (Some b) → a ≡ b
some_same a b e = cc

only_true : (test : Bool) (a b : Machine) → only_if test a ≡ Some b → (test ≡ true) × (b ≡ a)
only_true true a b e = (refl, sym (some_same a b e))
only_true false a b e = absurd (let nothing : ⊥ = cc in nothing)

true_same : (b : Bool) → same_bool true b ≡ true → b ≡ true
true_same true e = refl
true_same false e = absurd (let nothing : ⊥ = cc in nothing)

found_orphan : (found : Option Link) → option_map_or is_orphan found false ≡ true → (link : Link) × (found ≡ Some link)
found_orphan None e = absurd (let nothing : ⊥ = cc in nothing)
found_orphan (Some link) e = (link, refl)

reaped_at : (links : List Link) (number : ℕ) (link : Link) → link_at links number ≡ Some link → changed reaped_link links number ≡ with_link links number (reaped_link link)
reaped_at links number link there = ap (λ found. option_map_or (λ one. with_link links number (reaped_link one)) found links) there

-- none was there
pub reaps_none : OrderlyIsKept → (sees : Seen → Type 0) (before after : Traffic) (number : ℕ) → ((m : Machine) → IsUnderway before m → Leads (follow_reap (begun m) number false) after)
    → Makes sees before sees after (event.Reap number) (note.Reap number false) []
reaps_none kept sees before after number goes below seen t is =
    let led = goes t.machine is.underway in
    let same = only_true (same_bool false (has_orphan t.machine.links number)) (begun t.machine) led.0 led.1.0 in
    let follows : follow t.setting t.machine (event.Reap number) (note.Reap number false) [] ≡ Some (led.0, []) = rw (eq-eqb number number refl, led.1.0) refl in
    let server : led.0.server ≡ t.machine.server = ap (λ m. m.server) same.1 in
    let alike = ap (λ m. m.links) same.1 in
    made_alone kept sees before after below (event.Reap number) (note.Reap number false) seen t led.0 is (one_alone seen t (event.Reap number) (note.Reap number false) led.0 is.coupled follows refl refl refl refl server (rw alike refl)) refl led.1.1

-- one was
living_apart : (old new : Seen) (t : Traced) (number other : ℕ) (link : Link) → Coupled old t → Reaped old number new → link_at t.machine.links number ≡ Some link
    → new.state.living other ≡ living_of (link_at (with_link t.machine.links number (reaped_link link)) other)
living_apart old new t number other link coupled reaped there = by (eqb_tells other number)
  where
    by : (((other == number) ≡ true) × (other ≡ number)) ⊎ (((other == number) ≡ false) × (other ≡ number → ⊥)) → new.state.living other ≡ living_of (link_at (with_link t.machine.links number (reaped_link link)) other)
    by (inl (told, same)) =
        let gone : living_of (link_at (with_link t.machine.links number (reaped_link link)) other) ≡ None =
        ap (λ n. living_of (link_at (with_link t.machine.links number (reaped_link link)) n)) same ∙ ap living_of (link_same t.machine.links number link (reaped_link link) there) in
        reaped.living other ∙ ap (λ b. if b then None else old.state.living other) told ∙ sym gone
    by (inr (told, apart)) =
        reaped.living other ∙ ap (λ b. if b then None else old.state.living other) told ∙ coupled.living other ∙ ap living_of (sym (link_other t.machine.links number other (reaped_link link) apart))

stored_apart : (old : Seen) (t : Traced) (number other : ℕ) (link one : Link) → Coupled old t → link_at t.machine.links number ≡ Some link → link_at (with_link t.machine.links number (reaped_link link)) other ≡ Some one
    → HasStored old.state.store.entries (living_of (Some one)) one.commits
stored_apart old t number other link one coupled there found = by (eqb_tells other number)
  where
    by : (((other == number) ≡ true) × (other ≡ number)) ⊎ (((other == number) ≡ false) × (other ≡ number → ⊥)) → HasStored old.state.store.entries (living_of (Some one)) one.commits
    by (inl (told, same)) =
        let is : reaped_link link ≡ one = some_same (reaped_link link) one (sym (link_same t.machine.links number link (reaped_link link) there) ∙ ap (λ n. link_at (with_link t.machine.links number (reaped_link link)) n) (sym same) ∙ found) in
        subst (λ l. HasStored old.state.store.entries (living_of (Some l)) l.commits) is tt
    by (inr (told, apart)) = coupled.stored other one (sym (link_other t.machine.links number other (reaped_link link) apart) ∙ found)

lives_apart : (old : Seen) (t : Traced) (number other : ℕ) (link one : Link) → Coupled old t → link_at t.machine.links number ≡ Some link → link_at (with_link t.machine.links number (reaped_link link)) other ≡ Some one
    → HasLived old.history (living_of (Some one)) (life_of one.served)
lives_apart old t number other link one coupled there found = by (eqb_tells other number)
  where
    by : (((other == number) ≡ true) × (other ≡ number)) ⊎ (((other == number) ≡ false) × (other ≡ number → ⊥)) → HasLived old.history (living_of (Some one)) (life_of one.served)
    by (inl (told, same)) =
        let is : reaped_link link ≡ one = some_same (reaped_link link) one (sym (link_same t.machine.links number link (reaped_link link) there) ∙ ap (λ n. link_at (with_link t.machine.links number (reaped_link link)) n) (sym same) ∙ found) in
        subst (λ l. HasLived old.history (living_of (Some l)) (life_of l.served)) is tt
    by (inr (told, apart)) = coupled.lives other one (sym (link_other t.machine.links number other (reaped_link link) apart) ∙ found)

abbrev reaped_machine : Machine → ℕ → Link → Machine
reaped_machine m number link = record (begun m) { links = with_link m.links number (reaped_link link) }

pub reaps_one : OrderlyIsKept → (sees sees_later : Seen → Type 0) (before after : Traffic) (number : ℕ) → ((seen : Seen) → sees_later seen → IsHistory seen) → Goes sees sees_later (λ old new. Reaped old number new)
    → ((m : Machine) → IsUnderway before m → Leads (follow_reap (begun m) number true) after) → Makes sees before sees_later after (event.Reap number) (note.Reap number true) []
reaps_one kept sees sees_later before after number honest goes leads below seen t is =
    let led = leads t.machine is.underway in
    let followed = only_true (same_bool true (has_orphan t.machine.links number)) (record (begun t.machine) { links = changed reaped_link t.machine.links number }) led.0 led.1.0 in
    let found = found_orphan (link_at t.machine.links number) (true_same (has_orphan t.machine.links number) followed.0) in
    let becomes : led.0 ≡ reaped_machine t.machine number found.0 = followed.1 ∙ ap (λ links. record (begun t.machine) { links = links }) (reaped_at t.machine.links number found.0 found.1) in
    let goal : Machine → Type 0 = λ m. IsUnderway after m × (follow t.setting t.machine (event.Reap number) (note.Reap number true) [] ≡ Some (m, [])) in
    let follows : follow t.setting t.machine (event.Reap number) (note.Reap number true) [] ≡ Some (led.0, []) = rw (eq-eqb number number refl, led.1.0) refl in
    let there = subst goal becomes (led.1.1, follows) in
    let m = reaped_machine t.machine number found.0 in
    let gone = goes seen is.seen_so in
    let new = gone.0 in
    let reaped : Reaped seen number new = gone.1.1 in
    let coupled : Coupled new (moved t m) = kept_coupled seen new t m is.coupled (honest new gone.1.0) reaped.keeps reaped.keeps_store refl
    (λ other. living_apart seen new t number other found.0 is.coupled reaped found.1)
    (λ other one at. stored_apart seen t number other found.0 one is.coupled found.1 at)
    (λ other one at. lives_apart seen t number other found.0 one is.coupled found.1 at) in
    let event_made : OneEvent seen t (event.Reap number) (note.Reap number true) [] [] new (moved t m) = record {
      follows = there.1;
      happened = [];
      did = refl;
      told = tt;
      history = reaped.keeps_store.history ∙ sym (append-nil seen.history);
      start = reaped.keeps.start;
      rises = let same = ap (λ (store : Store). store.incarnation) reaped.keeps_store.store in omega (arith, same);
      crashes = reaped.keeps.crashes.0;
      coupled_before = is.coupled;
      coupled_after = coupled;
      more_entries = [];
      entries = sym (append-nil t.entries);
      own = none_came [];
      more_blocked = [];
      blocked = sym (append-nil t.blocked);
      asked = none_asked [];
      setting = refl;
      image = refl;
      outside = sym (append-nil t.outside);
      outside_draws = sym (append-nil t.outside_draws);
    } in
    made kept sees sees_later before after below (event.Reap number) (note.Reap number true) [] seen new t (moved t m) is event_made (ap (λ (store : Store). store.horizon) reaped.keeps_store.store) gone.1.0 (store_ready seen new reaped.keeps reaped.keeps_store is.ready) (one_call seen.state.calls new.state.calls reaped.keeps.calls) there.0
