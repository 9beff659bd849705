-- A step of a client, as an event: machine and service go on together, and the client with them.
use Rattle.std.proofs.Common.{◌≡◌, ℕ, zero, suc, ◌+◌, ◌≤◌, ◌==◌, Bool, true, false, List, [], ◌∷◌, ◌++◌, Option, Some, None, length, refl, sym, ap, subst, ◌∙◌, inl, inr, eq-eqb, add-one, arith}
use Rattle.std.proofs.lemmas.Bool.Decides.{eqb_tells}
use Rattle.std.proofs.lemmas.List.{append-nil}
use Rattle.std.proofs.lemmas.Option.{slice_get_past}
use Rattle.std.specs.Prelude.{◌⊎◌, slice_get, if◌then◌else◌}
use Rattle.svc_values.specs.declared.entry.SessionId.{SessionId}
use Rattle.request_bounds.specs.meaning.Rules.{Rules}
use Rattle.outage_schedule.specs.declared.document.Request.{Request}
use Rattle.outage_schedule.specs.declared.event.Event.TheVariants as event
use Rattle.outage_schedule.specs.declared.note.GoNote.{GoNote}
use Rattle.outage_schedule.specs.declared.note.Note.TheVariants as note
use Rattle.server_model.specs.Seen.{Store, Seen, IsHistory}
use Rattle.server_model.specs.ServiceCalls.{Connected, if_connected}
use Rattle.service_calls.specs.Kept.{Goes as Carries}
use Rattle.world_model.specs.meaning.Clients.{Client}
use Rattle.world_model.specs.Coupled.{living_of, HasStored, life_of, HasLived, Coupled}
use Rattle.world_model.specs.meaning.Going.{follow_go}
use Rattle.world_model.specs.OrderlyLaws.{OrderlyIsKept}
use Rattle.world_model.specs.meaning.Links.{Link, new_link, link_at}
use Rattle.world_model.specs.meaning.Machines.{Machine}
use Rattle.world_model.specs.OneEvent.{OneEvent}
use Rattle.world_model.specs.Traced.{Traced}
use Rattle.world_model.specs.meaning.Walking.{follow}
use Rattle.world_core.specs.declared.traffic.Traffic.{Traffic}
use Rattle.world_core.specs.Beside.{opened_in, StandsFor, SomeBeside, StepMade, MakesStep}
use Rattle.world_core.specs.Coursing.{Held, IsClient}
use Rattle.world_core.specs.Making.{IsReady, IsAt, IsSomewhere}
use Rattle.world_core.specs.Stepping.{at_next, IsStanding, SomeStanding, Goes}
use Rattle.world_core.specs.Underway.{IsUnderway}
use Rattle.world_core.proofs.Coupling.{view, views, StoredIn, LivedIn, same_living, same_found, moved, none_came, none_asked, one_alone, most_calls, most_ticks, same_calls, one_call}
use Rattle.world_core.proofs.Places.{last_there, slice_added, slice_before}
use Rattle.world_core.proofs.Readiness.{store_ready}
use Rattle.world_core.proofs.Reaping.{kept_coupled}
use Rattle.world_core.proofs.steps.Unseen.{Leaves, go_leaves}

-- ONE CONNECTION MORE -----------------------------------------------------------------------------

link_added : (links : List Link) (number : ℕ) (one : Link) → link_at (links ++ new_link ∷ []) number ≡ Some one → (link_at links number ≡ Some one) ⊎ (new_link ≡ one)
link_added links zero one is = absurd (let none : ⊥ = cc in none)
link_added links (suc index) one is = by (slice_added links new_link index one is)
  where
    by : (slice_get links index ≡ Some one) ⊎ ((index ≡ length links) × (new_link ≡ one)) → (slice_get links index ≡ Some one) ⊎ (new_link ≡ one)
    by (inl before) = inl before
    by (inr last) = inr last.1

-- what lives of the connections with the one that was opened last
living_added : (links : List Link) (next number : ℕ) → next ≡ suc (length links) → living_of (link_at (links ++ new_link ∷ []) number) ≡ (if number == next then Some None else living_of (link_at links number))
living_added links next number is = by (eqb_tells number next)
  where
    before : (other : ℕ) → (other ≡ next → ⊥) → link_at (links ++ new_link ∷ []) other ≡ link_at links other
    before zero apart = refl
    before (suc index) apart = slice_before links new_link index (λ same. apart (ap suc same ∙ sym is))

    by : (((number == next) ≡ true) × (number ≡ next)) ⊎ (((number == next) ≡ false) × (number ≡ next → ⊥)) → living_of (link_at (links ++ new_link ∷ []) number) ≡ (if number == next then Some None else living_of (link_at links number))
    by (inl (told, same)) =
        ap (λ (n : ℕ). living_of (link_at (links ++ new_link ∷ []) n)) (same ∙ is) ∙ ap living_of (last_there links new_link)
        ∙ sym (ap (λ (b : Bool). if b then Some None else living_of (link_at links number)) told)
    by (inr (told, apart)) = ap living_of (before number apart) ∙ sym (ap (λ (b : Bool). if b then Some None else living_of (link_at links number)) told)

-- AT THE SERVICE ----------------------------------------------------------------------------------

module _ (seen : Seen) (t : Traced) (coupled : Coupled seen t) (later : List Link) (alike : views later ≡ views (t.machine.links ++ new_link ∷ [])) where
  opened_stored : (number : ℕ) (link : Link) → link_at later number ≡ Some link → HasStored seen.state.store.entries (living_of (Some link)) link.commits
  opened_stored number link there = by (link_added t.machine.links number other.0 other.1.0)
    where
      other : (one : Link) × ((link_at (t.machine.links ++ new_link ∷ []) number ≡ Some one) × (view one ≡ view link))
      other = same_found later (t.machine.links ++ new_link ∷ []) number link alike there

      by : (link_at t.machine.links number ≡ Some other.0) ⊎ (new_link ≡ other.0) → HasStored seen.state.store.entries (living_of (Some link)) link.commits
      by (inl before) = subst (StoredIn seen.state.store.entries) other.1.1 (coupled.stored number other.0 before)
      by (inr new) = subst (StoredIn seen.state.store.entries) (ap view new ∙ other.1.1) refl

  opened_lives : (number : ℕ) (link : Link) → link_at later number ≡ Some link → HasLived seen.history (living_of (Some link)) (life_of link.served)
  opened_lives number link there = by (link_added t.machine.links number other.0 other.1.0)
    where
      other : (one : Link) × ((link_at (t.machine.links ++ new_link ∷ []) number ≡ Some one) × (view one ≡ view link))
      other = same_found later (t.machine.links ++ new_link ∷ []) number link alike there

      by : (link_at t.machine.links number ≡ Some other.0) ⊎ (new_link ≡ other.0) → HasLived seen.history (living_of (Some link)) (life_of link.served)
      by (inl before) = subst (LivedIn seen.history) other.1.1 (coupled.lives number other.0 before)
      by (inr new) = subst (LivedIn seen.history) (ap view new ∙ other.1.1) tt

  opened_living : (new : Seen) (next : ℕ) (answer : Bool) → Connected seen next answer new → answer ≡ true → next ≡ length t.machine.links + 1 → (number : ℕ) → new.state.living number ≡ living_of (link_at later number)
  opened_living new next answer connected up is number =
      connected.living number
      ∙ ap (λ (b : Bool). if_connected b next seen.state.living number) up
      ∙ ap (λ (one : Option (Option SessionId)). if number == next then Some None else one) (coupled.living number)
      ∙ sym (same_living later (t.machine.links ++ new_link ∷ []) number alike ∙ living_added t.machine.links next number (is ∙ add-one (length t.machine.links)))

-- THE EVENT ---------------------------------------------------------------------------------------

module _ (R : Type 0) (rules : R → Rules) (sees : Seen → Type 0) (script : List Request) (number : ℕ) (before begun : Traffic) (old : Held R) (begins : (m : Machine) → IsUnderway before m → IsUnderway begun (record m { event = m.event + 1 })) where
  standing_so : (seen : Seen) (t : Traced) (client : Client) → IsAt sees before seen t → StandsFor R rules script number old t client → IsStanding R rules script number begun old t client
  standing_so seen t client is stands = record { orderly = is.orderly; scripted = stands.scripted; there = stands.there; underway = begins t.machine is.underway; stands = stands.stands; going = stands.going }

  pub some_standing : SomeBeside R rules sees script number before old → SomeStanding R rules script number begun old
  some_standing some = record { traced = some.traced; client = some.client; standing = standing_so some.seen some.traced some.client some.place some.stands }

  pub some_place : SomeBeside R rules sees script number before old → IsSomewhere sees before
  some_place some = (some.seen, (some.traced, some.place))

  module _ (is_up : Bool) (did : GoNote) (after : Traffic) (new : Held R)
      (up : (seen : Seen) → sees seen → seen.state.is_up ≡ is_up)
      (goes : (t : Traced) (client : Client) → IsStanding R rules script number begun old t client → t.machine.server.is_up ≡ is_up → Goes R rules t.setting (at_next t) number (follow_go t.setting (at_next t) number did) after new) where
    module _ (seen : Seen) (t : Traced) (client : Client) (is : IsAt sees before seen t) (stands : StandsFor R rules script number old t client) where
      went : Goes R rules t.setting (at_next t) number (follow_go t.setting (at_next t) number did) after new
      went = goes t client (standing_so seen t client is stands) (is.coupled.server.is_up ∙ up seen is.seen_so)

      leaves : Leaves t.machine.links t.machine.server.is_up (opened_in did) went.after.links
      leaves = go_leaves t.setting number did went.after (at_next t) went.followed

      follows : follow t.setting t.machine (event.Go number) (note.Go number did) [] ≡ Some (went.after, [])
      follows = rw (eq-eqb number number refl, went.followed) refl

      stands_then : StandsFor R rules script number new (moved t went.after) went.client
      stands_then = record { scripted = stands.scripted; there = went.placed; stands = subst (λ (tick : ℕ). IsClient R rules t.setting number tick false new went.client) (sym went.same.1) went.stands; going = went.going }

      others_then : (other : ℕ) (own : List Request) (kept : Held R) (one : Client) → (other ≡ number → ⊥) → StandsFor R rules own other kept t one → StandsFor R rules own other kept (moved t went.after) one
      others_then other own kept one apart is = record {
        scripted = is.scripted;
        there = went.others other apart ∙ is.there;
        stands = subst (λ (tick : ℕ). IsClient R rules t.setting other tick false kept one) (sym went.same.1) is.stands;
        going = is.going;
      }

      step_made : OrderlyIsKept → (sees_later : Seen → Type 0) (later : Seen) → sees_later later → IsReady later.state → later.state.calls ≤ seen.state.calls + 4 → OneEvent seen t (event.Go number) (note.Go number did) [] [] later (moved t went.after)
          → later.state.store.horizon ≡ seen.state.store.horizon → StepMade R rules sees_later script number after new seen t (note.Go number did)
      step_made kept sees_later later seen_so ready few one horizon = record {
        seen_later = later;
        later = moved t went.after;
        client = went.client;
        made = one;
        forgets = λ below. horizon;
        place = record {
          seen_so = seen_so;
          ready = ready;
          coupled = one.coupled_after;
          underway = went.underway;
          orderly = kept.at_event seen later t (moved t went.after) (event.Go number) (note.Go number did) [] [] one is.orderly;
          calls = most_calls seen.state.calls later.state.calls t.machine.event went.after.event is.calls few went.same.0;
          ticks = most_ticks t.machine.tick went.after.tick t.machine.event went.after.event is.ticks (let clock : went.after.tick ≤ t.machine.tick + 1 = omega (arith, went.same.1) in clock) went.same.0;
        };
        stands = stands_then;
        same = went.others;
        others = others_then;
      }

      -- no connection was opened
      alone : opened_in did ≡ None → OneEvent seen t (event.Go number) (note.Go number did) [] [] seen (moved t went.after)
      alone none =
          one_alone seen t (event.Go number) (note.Go number did) went.after is.coupled follows refl refl refl refl went.same.2
          (subst (λ (opened : Option ℕ). Leaves t.machine.links t.machine.server.is_up opened went.after.links) none leaves)

      -- one was
      module _ (connection : ℕ) (opens : opened_in did ≡ Some connection) where
        leaves_new : Leaves t.machine.links t.machine.server.is_up (Some connection) went.after.links
        leaves_new = subst (λ (opened : Option ℕ). Leaves t.machine.links t.machine.server.is_up opened went.after.links) opens leaves

        none_there : seen.state.living connection ≡ None
        none_there =
            is.coupled.living connection
            ∙ ap (λ (n : ℕ). living_of (link_at t.machine.links n)) (leaves_new.0 ∙ add-one (length t.machine.links))
            ∙ ap living_of (slice_get_past t.machine.links (length t.machine.links) (omega arith))

        opening : (later : Seen) (answer : Bool) → IsHistory later → Connected seen connection answer later → OneEvent seen t (event.Go number) (note.Go number did) [] [] later (moved t went.after)
        opening later answer history connected = record {
          follows = follows;
          happened = [];
          did = refl;
          told = tt;
          history = connected.keeps_store.history ∙ sym (append-nil seen.history);
          start = connected.keeps.start;
          rises = let same = ap (λ (store : Store). store.incarnation) connected.keeps_store.store in omega (arith, same);
          crashes = connected.keeps.crashes.0;
          coupled_before = is.coupled;
          coupled_after = kept_coupled seen later t went.after is.coupled history connected.keeps connected.keeps_store went.same.2
              (opened_living seen t is.coupled went.after.links leaves_new.2 later connection answer connected (connected.answered ∙ sym is.coupled.server.is_up ∙ leaves_new.1) leaves_new.0)
              (opened_stored seen t is.coupled went.after.links leaves_new.2)
              (opened_lives seen t is.coupled went.after.links leaves_new.2);
          more_entries = [];
          entries = sym (append-nil t.entries);
          own = none_came [];
          more_blocked = [];
          blocked = sym (append-nil t.blocked);
          asked = none_asked [];
          setting = refl;
          image = refl;
          outside = sym (append-nil t.outside);
          outside_draws = sym (append-nil t.outside_draws);
        }

    pub makes_alone : OrderlyIsKept → opened_in did ≡ None → MakesStep R rules sees before sees after script number old new (note.Go number did)
    makes_alone kept none seen t client is stands = step_made seen t client is stands kept sees seen is.seen_so is.ready (same_calls seen.state.calls) (alone seen t client is stands none) refl

    pub may_connect : (connection : ℕ) → opened_in did ≡ Some connection → SomeBeside R rules sees script number before old → (seen : Seen) × (sees seen × (seen.state.living connection ≡ None))
    may_connect connection opens some = (some.seen, (some.place.seen_so, none_there some.seen some.traced some.client some.place some.stands connection opens))

    pub makes_opening : OrderlyIsKept → (sees_later : Seen → Type 0) (connection : ℕ) (answer : Bool) → opened_in did ≡ Some connection → ((seen : Seen) → sees_later seen → IsHistory seen) → Carries sees sees_later (λ a b. Connected a connection answer b)
        → MakesStep R rules sees before sees_later after script number old new (note.Go number did)
    makes_opening kept sees_later connection answer opens honest connects seen t client is stands =
        let gone = connects seen is.seen_so in
        step_made seen t client is stands kept sees_later gone.0 gone.1.0 (store_ready seen gone.0 gone.1.1.keeps gone.1.1.keeps_store is.ready) (one_call seen.state.calls gone.0.state.calls gone.1.1.keeps.calls)
        (opening seen t client is stands connection opens gone.0 answer (honest gone.0 gone.1.0) gone.1.1) (ap (λ (store : Store). store.horizon) gone.1.1.keeps_store.store)
