-- Wherever a run has come to, no connection was closed that a request in course held.
use Rattle.std.proofs.Common.{◌≡◌, refl, sym, ap, ◌∙◌, Bool, true, false, ℕ, zero, suc, ◌+◌, List, [], ◌∷◌, map, fold, Some, None, ◌⊎◌, inl, inr, IsTrue}
use Rattle.std.specs.Prelude.{◌==◌, slice_get}
use Rattle.std.proofs.lemmas.Bool.{or_cases}
use Rattle.pool_core.specs.meaning.Slots.{is_among}
use Rattle.outage_schedule.specs.declared.document.Document.{Document}
use Rattle.outage_schedule.specs.declared.document.Request.{Request}
use Rattle.outage_schedule.specs.declared.event.Event.{Event}
use Rattle.outage_schedule.specs.declared.item.Served.{Served}
use Rattle.outage_schedule.specs.declared.note.Note.{Note}
use Rattle.server_model.specs.Seen.{Seen}
use Rattle.world_model.proofs.Offered.{AreOpenOnce}
use Rattle.world_model.specs.meaning.Clients.{Client, Doing, resting, client_at}
use Rattle.world_model.specs.meaning.Crashing.{after_stopped, falls}
use Rattle.world_model.specs.meaning.Cutting.{cut_link, after_cut, reaped_link}
use Rattle.world_model.specs.meaning.Finishing.{Place}
use Rattle.invariant_laws.specs.Invariant.{Invariant}
use Rattle.invariant_laws.specs.KeptLaws.{RunsKeepInvariant, FinishesKeepInvariant}
use Rattle.world_model.specs.meaning.Links.{Link, link_at, with_link, changed, sends}
use Rattle.world_model.specs.meaning.Machines.{Machine, start_of}
use Rattle.world_model.specs.meaning.Outside.{closed_by_drain, drained}
use Rattle.world_model.specs.Reached.{Reached, Begins, GoesOn, IsFinishing, Scheduled, Finishes}
use Rattle.world_model.specs.records.Ready.{all_requests_right}
use Rattle.world_model.specs.meaning.Serving.{after_front, handled, after_served}
use Rattle.world_model.specs.Traced.{Traced}
use Rattle.shown_laws.specs.Closing.{IsUnclosed, AllUnclosed, RunsLeaveUnclosed, FinishesLeaveUnclosed}
use Rattle.shown_laws.proofs.links.EventsTold.{Stands, open_is}
use Rattle.shown_laws.proofs.events.Following.{at_event, Does, Goes, ServesNone, Serves, CutsNone, Cuts, ReapsNone, Reaps, IsDown, Crashes, CrashStops, CrashServes, Ticks, Drains, IsServers, follow_does}
use Rattle.shown_laws.proofs.events.GoNotes.{follow_goes}
use Rattle.shown_laws.proofs.links.ItemsTold.{front_is}
use Rattle.shown_laws.proofs.links.LinksStay.{AllStay, front_stays, handled_stays, cut_stays, then_stay, with_stay, changed_stay, fallen_stay, drains_stay}
use Rattle.shown_laws.proofs.links.LinksTold.{AllStand}
use Rattle.shown_laws.proofs.events.Lookups.{eq_from}
use Rattle.shown_laws.proofs.links.Single.{is_busy}
use Rattle.shown_laws.proofs.links.Unclosed.{all_still}
use Rattle.shown_laws.proofs.links.UnclosedTakes.{goes_all}

-- DRAINS ------------------------------------------------------------------------------------------

-- each that is idle is open
open_among : (links : List Link) (numbers : List ℕ) (number : ℕ) (link : Link) → AreOpenOnce links numbers → is_among number numbers ≡ true → link_at links number ≡ Some link → link.is_open ≡ true
open_among links [] number link all among there = absurd (let none : ⊥ = cc in none)
open_among links (one ∷ numbers) number link all among there = by (or_cases (one == number) (is_among number numbers) among) (open_among links numbers number link all.1.1)
  where
    by : ((one == number) ≡ true) ⊎ (is_among number numbers ≡ true) → (is_among number numbers ≡ true → link_at links number ≡ Some link → link.is_open ≡ true) → link.is_open ≡ true
    by (inl same) rest = all.0 link (ap (link_at links) (eq_from one number same) ∙ there)
    by (inr later) rest = rest later there

module _ (t : Traced) (inv : Invariant t) (stands : Stands (at_event t.machine)) (before : AllUnclosed t.machine) where
  drain_stay : (client : ℕ) (own : Client) (doing : Doing) (number : ℕ) → client_at t.machine.clients client ≡ Some own → own.now ≡ Some doing → IsUnclosed t.machine.links doing number
      → AllStay t.machine.links (fold (changed (sends (t.machine.event + 1) (closed_by_drain ∷ []))) t.machine.links t.machine.pool.idle) number
  drain_stay client own doing number here now is = by (is_among number t.machine.pool.idle) refl is.had
    where
      by : (test : Bool) → is_among number t.machine.pool.idle ≡ test → (doing.connection ≡ Some number) ⊎ (is.link.is_open ≡ false)
          → AllStay t.machine.links (fold (changed (sends (t.machine.event + 1) (closed_by_drain ∷ []))) t.machine.links t.machine.pool.idle) number
      by false among had = drains_stay (sends (t.machine.event + 1) (closed_by_drain ∷ [])) t.machine.pool.idle t.machine.links number among
      by true among (inl has) = let busy : is_among number t.machine.pool.idle ≡ false = is_busy t inv client own doing number here now has in absurd (let never : ⊥ = cc in never)
      by true among (inr shut) = let opens : is.link.is_open ≡ true = open_among t.machine.links t.machine.pool.idle number is.link stands.idle among is.there in absurd (let never : ⊥ = cc in never)

  -- EVENTS ----------------------------------------------------------------------------------------

  still : (n : Machine) → n.clients ≡ t.machine.clients → ((number : ℕ) → AllStay t.machine.links n.links number) → AllUnclosed n
  still n same stay = all_still t.machine n same (λ client own doing number here now is. stay number) before

  does_all : (one : Note) (items : List Served) (n : Machine) → Does t.setting (at_event t.machine) one items n → AllUnclosed n
  does_all _ _ _ (Goes client did n goes) = goes_all t inv stands.speaks before client did n (follow_goes t.setting (at_event t.machine) client did n goes)
  does_all _ _ _ (ServesNone connection) = before
  does_all _ _ _ (Serves connection name front served at ordinary) =
      still (after_served (at_event t.machine) connection front served) refl (with_stay t.machine.links connection front.link (handled (t.machine.event + 1) front served) (front_is t.machine.links connection front at).there (handled_stays (t.machine.event + 1) front served))
  does_all _ _ _ (CutsNone connection) = before
  does_all _ _ _ (Cuts connection up down reached link at) =
      still (after_cut (at_event t.machine) connection up down link) refl (with_stay t.machine.links connection link (cut_link (t.machine.event + 1) up down link) (open_is t.machine.links connection link at).0 (cut_stays (t.machine.event + 1) up down link))
  does_all _ _ _ (ReapsNone connection) = before
  does_all _ _ _ (Reaps connection) = still (record (at_event t.machine) { links = changed reaped_link t.machine.links connection }) refl (changed_stay reaped_link t.machine.links connection (λ link there. record { closed = refl; shut = λ shut. shut }))
  does_all _ _ _ (IsDown connection) = before
  does_all _ _ _ (Crashes connection failover) = still (falls failover (at_event t.machine)) refl (λ number. fallen_stay (t.machine.event + 1) t.machine.links number)
  does_all _ _ _ (CrashStops connection after failover front served at stopped) =
      still (falls failover (after_stopped (at_event t.machine) connection front served)) refl (λ number.
      then_stay t.machine.links (with_link t.machine.links connection (after_front front served None)) (falls failover (after_stopped (at_event t.machine) connection front served)).links number
      (with_stay t.machine.links connection front.link (after_front front served None) (front_is t.machine.links connection front at).there (front_stays front served None) number)
      (fallen_stay (t.machine.event + 1) (with_link t.machine.links connection (after_front front served None)) number))
  does_all _ _ _ (CrashServes connection failover front served at ordinary) =
      still (falls failover (after_served (at_event t.machine) connection front served)) refl (λ number.
      then_stay t.machine.links (with_link t.machine.links connection (handled (t.machine.event + 1) front served)) (falls failover (after_served (at_event t.machine) connection front served)).links number
      (with_stay t.machine.links connection front.link (handled (t.machine.event + 1) front served) (front_is t.machine.links connection front at).there (handled_stays (t.machine.event + 1) front served) number)
      (fallen_stay (t.machine.event + 1) (with_link t.machine.links connection (handled (t.machine.event + 1) front served)) number))
  does_all _ _ _ Ticks = before
  does_all _ _ _ (Drains closed) = all_still t.machine (drained (at_event t.machine)) refl (λ client own doing number here now is. drain_stay client own doing number here now is) before
  does_all _ _ _ (IsServers one server is) = before

-- THE START ---------------------------------------------------------------------------------------

none_at : {A : Type 0} (script : A → List Request) (all : List A) (index : ℕ) (own : Client) → slice_get (map (λ one. resting (script one) []) all) index ≡ Some own → own.now ≡ None
none_at script [] index own is = absurd (let none : ⊥ = cc in none)
none_at script (one ∷ all) zero own is = let same : resting (script one) [] ≡ own = cc in ap (λ (c : Client). c.now) (sym same)
none_at script (one ∷ all) (suc index) own is = none_at script all index own is

start_all : (document : Document) → AllUnclosed (start_of document)
start_all document zero own doing here now = absurd (let none : ⊥ = cc in none)
start_all document (suc index) own doing here now =
    let none : own.now ≡ None = none_at (λ client. client.requests) document.clients index own here in
    absurd (let both : None ≡ Some doing = sym none ∙ now in let never : ⊥ = cc in never)

-- RUNS --------------------------------------------------------------------------------------------

module _ (kept : RunsKeepInvariant) (stand : AllStand) (document : Document) (right : IsTrue (all_requests_right document)) where
  pub reached_unclosed : (events : List Event) (notes : List Note) (items : List Served) (seen : Seen) (t : Traced) → Reached document events notes items seen t → AllUnclosed t.machine
  reached_unclosed _ _ _ _ _ (Begins seen start history horizon coupled) = start_all document
  reached_unclosed _ _ _ _ _ (GoesOn events notes items more before after old new event note reached one forgets) =
      let inv : Invariant old = kept document events notes items before old right reached in
      does_all old inv (stand old inv) (reached_unclosed events notes items before old reached) note more new.machine (follow_does old.setting old.machine event note more new.machine one.follows)

  pub finishing_unclosed : FinishesKeepInvariant → (place : Place) (notes : List Note) (items : List Served) (seen : Seen) (t : Traced) → IsFinishing document place notes items seen t → AllUnclosed t.machine
  finishing_unclosed all _ _ _ _ _ (Scheduled notes items seen t reached) = reached_unclosed document.schedule notes items seen t reached
  finishing_unclosed all _ _ _ _ _ (Finishes place later notes items more before after old new event note finishing next one forgets) =
      let inv : Invariant old = all document place notes items before old right finishing in
      does_all old inv (stand old inv) (finishing_unclosed all place notes items before old finishing) note more new.machine (follow_does old.setting old.machine event note more new.machine one.follows)

pub runs_unclosed : RunsKeepInvariant → AllStand → RunsLeaveUnclosed
runs_unclosed kept stand document events notes items seen t right reached = reached_unclosed kept stand document right events notes items seen t reached

pub finishes_unclosed : RunsKeepInvariant → FinishesKeepInvariant → AllStand → FinishesLeaveUnclosed
finishes_unclosed kept all stand document place notes items seen t right finishing = finishing_unclosed kept stand document right all place notes items seen t finishing
