-- What a request did stays in front of its steps.
use Rattle.std.proofs.Common.{◌≡◌, ◌≢◌, refl, sym, ap, subst, ◌∙◌, append-nil, ℕ, ◌+◌, length, List, [], ◌∷◌, ◌++◌, map, Option, Some, None, option_map, ◌⊎◌, inl, inr}
use Rattle.std.specs.Prelude.{slice_get}
use Rattle.std.specs.Option.{option_or, option_map_or}
use Rattle.std.proofs.lemmas.List.{map-append, length-map}
use Rattle.outage_schedule.specs.declared.item.Served.{Served}
use Rattle.outage_schedule.specs.declared.note.GoNote.{GoNote}
use Rattle.outage_schedule.specs.declared.note.Note.{Note}
use Rattle.shown_clauses.specs.meaning.Links.{Seen as AllSeen}
use Rattle.world_model.specs.meaning.Clients.{Step, Doing, Client, client_at, begun, past_of}
use Rattle.world_model.specs.meaning.Frames.{Owner}
use Rattle.invariant_laws.specs.Invariant.{Invariant}
use Rattle.invariant_laws.specs.KeptLaws.{RunsKeepInvariant}
use Rattle.world_model.specs.meaning.Machines.{Machine}
use Rattle.world_model.specs.meaning.Settings.{Setting}
use Rattle.world_model.specs.Traced.{Traced}
use Rattle.shown_laws.specs.ByPlace.{RequestSteps, over_so, doing_so, requests_by_place, IsRequestOf}
use Rattle.shown_laws.specs.Closing.{AllUnclosed}
use Rattle.shown_laws.specs.ConnectionLaws.{AreTold}
use Rattle.shown_laws.specs.RequestsGrow.{GoesOnAs, RequestsGrow}
use Rattle.shown_laws.specs.Telling.{seen_told}
use Rattle.shown_laws.proofs.events.ClientsMove.{Leads, GoesOn, IsOver, client_own, client_other}
use Rattle.shown_laws.proofs.events.Following.{at_event, Does, Goes, ServesNone, Serves, CutsNone, Cuts, ReapsNone, Reaps, IsDown, Crashes, CrashStops, CrashServes, Ticks, Drains, IsServers, follow_does}
use Rattle.shown_laws.proofs.events.GoNotes.{follow_goes}
use Rattle.shown_laws.proofs.links.LinksTold.{AllStand, runs_told}
use Rattle.shown_laws.proofs.events.Lookups.{either}
use Rattle.shown_laws.proofs.events.Places.{get_front, get_last, get_push}
use Rattle.shown_laws.proofs.steps.StepsTold.{StepTells, TellsNone, TellsOne, Acts, step_tells}
use Rattle.shown_laws.proofs.links.UnclosedRuns.{reached_unclosed}

-- A CLIENT ----------------------------------------------------------------------------------------

abbrev past_so : Client → List RequestSteps
past_so own = map over_so own.past

next_so : (setting : Setting) (number : ℕ) (own : Client) (after : Doing) (next : Client) → Leads setting number own after next → requests_by_place next ≡ past_so own ++ doing_so after ∷ []
next_so setting number own after _ GoesOn = refl
next_so setting number own after _ IsOver = append-nil (map over_so (own.past ++ past_of setting.terms after ∷ [])) ∙ map-append over_so own.past (past_of setting.terms after ∷ [])

-- at its place there is this request, with more steps
record HasMore (own : Client) (place : ℕ) (one : RequestSteps) : Type 0 where
  more : List Step
  at : slice_get (requests_by_place own) place ≡ Some (record { request = one.request; steps = one.steps ++ more })

no_more : (own : Client) (place : ℕ) (one : RequestSteps) → slice_get (requests_by_place own) place ≡ Some one → HasMore own place one
no_more own place one at = record { more = []; at = at ∙ ap (λ (steps : List Step). Some (record { request = one.request; steps = steps })) (sym (append-nil one.steps)) }

-- each request goes on, or stays as it is
abbrev pub AllGoOn : List Client → List Client → Type 0
AllGoOn clients news = (owner : Owner) (one : RequestSteps) → IsRequestOf clients owner one → GoesOnAs news owner one

pub same_more : (clients : List Client) → AllGoOn clients clients
same_more clients owner one is =
    let has : HasMore is.own owner.place one = no_more is.own owner.place one is.at in
    record { more = has.more; is = record { own = is.own; here = is.here; at = has.at } }

module _ (t : Traced) (seen : AllSeen) (client : ℕ) (did : GoNote) (n : Machine) (acts : Acts t seen client did n) where
  all_next : requests_by_place acts.moves.next ≡ past_so acts.own ++ doing_so acts.after ∷ []
  all_next = next_so t.setting client acts.own acts.after acts.moves.next acts.moves.leads

  goes_on : (place : ℕ) (one : RequestSteps) → slice_get (requests_by_place acts.own) place ≡ Some one → HasMore acts.moves.next place one
  goes_on place one at = by acts.own.now refl at
    where
      in_past : slice_get (past_so acts.own) place ≡ Some one → HasMore acts.moves.next place one
      in_past there = no_more acts.moves.next place one (ap (λ (all : List RequestSteps). slice_get all place) all_next ∙ get_front (past_so acts.own) (doing_so acts.after ∷ []) place one there)

      same_doing : (doing : Doing) → acts.own.now ≡ Some doing → doing ≡ acts.doing
      same_doing doing now =
          let both : Some doing ≡ Some acts.doing = sym (ap (λ (found : Option Doing). option_or found (option_map (begun t.setting.terms (t.machine.event + 1) t.machine.tick) acts.own.next)) now) ∙ acts.does in
          let same : doing ≡ acts.doing = cc in
          same

      in_course : (doing : Doing) → acts.own.now ≡ Some doing → (slice_get (past_so acts.own) place ≡ Some one) ⊎ ((place ≡ length (past_so acts.own)) × (doing_so doing ≡ one)) → HasMore acts.moves.next place one
      in_course doing now (inl there) = in_past there
      in_course doing now (inr last) = record {
        more = acts.acts;
        at =
            ap (λ (all : List RequestSteps). slice_get all place) all_next
            ∙ (ap (slice_get (past_so acts.own ++ doing_so acts.after ∷ [])) last.0
            ∙ (get_last (past_so acts.own) (doing_so acts.after)
            ∙ ap Some (λ i. record { request = (acts.request ∙ its_request) i; steps = (acts.steps ∙ ap (λ (l : List Step). l ++ acts.acts) its_steps) i })));
      }
        where
          its_request : acts.doing.request ≡ one.request
          its_request = ap (λ (d : Doing). d.request) (sym (same_doing doing now)) ∙ ap (λ (s : RequestSteps). s.request) last.1

          its_steps : acts.doing.steps ≡ one.steps
          its_steps = ap (λ (d : Doing). d.steps) (sym (same_doing doing now)) ∙ ap (λ (s : RequestSteps). s.steps) last.1

      by : (now : Option Doing) → acts.own.now ≡ now → slice_get (past_so acts.own ++ option_map_or (λ (doing : Doing). doing_so doing ∷ []) now []) place ≡ Some one → HasMore acts.moves.next place one
      by None now there = in_past (ap (λ (all : List RequestSteps). slice_get all place) (sym (append-nil (past_so acts.own))) ∙ there)
      by (Some doing) now there = in_course doing now (get_push (past_so acts.own) (doing_so doing) one place there)

  here_now : client_at n.clients client ≡ Some acts.moves.next
  here_now = ap (λ (c : List Client). client_at c client) acts.moves.clients ∙ client_own t.machine.clients client acts.own acts.moves.next acts.here

  -- what it is at stands behind those that are over
  pub its_now : IsRequestOf n.clients (record { client = client; place = length acts.own.past }) (doing_so acts.after)
  its_now = record {
    own = acts.moves.next;
    here = here_now;
    at =
        ap (λ (all : List RequestSteps). slice_get all (length acts.own.past)) all_next
        ∙ (ap (slice_get (past_so acts.own ++ doing_so acts.after ∷ [])) (sym (length-map acts.own.past over_so)) ∙ get_last (past_so acts.own) (doing_so acts.after));
  }

  acts_grow : AllGoOn t.machine.clients n.clients
  acts_grow owner one is = by (either owner.client client)
    where
      by : (owner.client ≡ client) ⊎ (owner.client ≢ client) → GoesOnAs n.clients owner one
      by (inr differ) =
          same_more n.clients owner one (record { own = is.own; here = ap (λ (c : List Client). client_at c owner.client) acts.moves.clients ∙ (client_other t.machine.clients client owner.client acts.moves.next differ ∙ is.here); at = is.at })
      by (inl same) =
          let both : Some is.own ≡ Some acts.own = sym is.here ∙ (ap (client_at t.machine.clients) same ∙ acts.here) in
          let mine : is.own ≡ acts.own = cc in
          let has : HasMore acts.moves.next owner.place one = goes_on owner.place one (ap (λ (c : Client). slice_get (requests_by_place c) owner.place) (sym mine) ∙ is.at) in
          record { more = has.more; is = record { own = acts.moves.next; here = ap (client_at n.clients) same ∙ here_now; at = has.at } }

pub steps_grow : (t : Traced) (seen : AllSeen) (client : ℕ) (did : GoNote) (n : Machine) → StepTells t seen client did n → AllGoOn t.machine.clients n.clients
steps_grow t seen client did n (TellsNone none same) = subst (AllGoOn t.machine.clients) (sym same) (same_more t.machine.clients)
steps_grow t seen client did n (TellsOne acts) = acts_grow t seen client did n acts

-- EVENTS ------------------------------------------------------------------------------------------

module _ (t : Traced) (inv : Invariant t) (notes : List Note) (items : List Served) (are : AreTold notes items t) (unclosed : AllUnclosed t.machine) where
  pub does_grow : (note : Note) (more : List Served) (n : Machine) → Does t.setting (at_event t.machine) note more n → AllGoOn t.machine.clients n.clients
  does_grow _ _ _ (Goes client did n goes) = steps_grow t (seen_told notes items) client did n (step_tells t inv (seen_told notes items) are.links.at are.sessions unclosed client did n (follow_goes t.setting (at_event t.machine) client did n goes))
  does_grow _ _ _ (ServesNone connection) = same_more t.machine.clients
  does_grow _ _ _ (Serves connection name front served at ordinary) = same_more t.machine.clients
  does_grow _ _ _ (CutsNone connection) = same_more t.machine.clients
  does_grow _ _ _ (Cuts connection up down reached link at) = same_more t.machine.clients
  does_grow _ _ _ (ReapsNone connection) = same_more t.machine.clients
  does_grow _ _ _ (Reaps connection) = same_more t.machine.clients
  does_grow _ _ _ (IsDown connection) = same_more t.machine.clients
  does_grow _ _ _ (Crashes connection failover) = same_more t.machine.clients
  does_grow _ _ _ (CrashStops connection after failover front served at stopped) = same_more t.machine.clients
  does_grow _ _ _ (CrashServes connection failover front served at ordinary) = same_more t.machine.clients
  does_grow _ _ _ Ticks = same_more t.machine.clients
  does_grow _ _ _ (Drains closed) = same_more t.machine.clients
  does_grow _ _ _ (IsServers event server same) = same_more t.machine.clients

pub requests_grow : RunsKeepInvariant → AllStand → RequestsGrow
requests_grow kept stand document events notes items more before after old new event note right reached one =
    does_grow old (kept document events notes items before old right reached) notes items (runs_told kept stand document events notes items before old right reached) (reached_unclosed kept stand document right events notes items before old reached) note more new.machine
    (follow_does old.setting old.machine event note more new.machine one.follows)
