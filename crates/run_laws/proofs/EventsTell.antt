-- What an event tells, beside what the service did in it: the frame that an item is of, a run
-- outside, or a question.
use Rattle.std.proofs.Common.{◌≡◌, refl, sym, ap, subst, append-nil, Bool, true, false, ℕ, ◌+◌, ◌&&◌, List, [], ◌∷◌, ◌++◌, map, Option, Some, None, ◌⊎◌, inl, inr, if◌then◌else◌}
use Rattle.std.specs.Prelude.{◌==◌, option_and_then}
use Rattle.std.specs.List.{list_all}
use Rattle.std.proofs.lemmas.Bool.{and_parts, and_from}
use Rattle.svc_values.specs.declared.call.Call.{Call}
use Rattle.svc_values.specs.declared.entry.Ltxid.{Ltxid}
use Rattle.svc_values.specs.meaning.Identifiers.{same_ltxid}
use Rattle.svc_values.specs.SameLaws.{same_ltxid_decides}
use Rattle.outage_schedule.specs.declared.event.Event.{Event}
use Rattle.outage_schedule.specs.declared.event.Event.TheVariants as event
use Rattle.outage_schedule.specs.declared.item.Served.{Served}
use Rattle.outage_schedule.specs.declared.note.AskResult.{AskResult}
use Rattle.outage_schedule.specs.declared.note.FrameName.{FrameName}
use Rattle.outage_schedule.specs.declared.note.Note.{Note}
use Rattle.outage_schedule.specs.declared.note.Note.TheVariants as note
use Rattle.outage_schedule.specs.declared.note.OutsideNote.{OutsideNote}
use Rattle.run_clauses.specs.meaning.Moments.{HappenedAt, RanOutside, Asked, moment_of_item}
use Rattle.server_model.specs.meaning.Outcomes.{Says}
use Rattle.server_model.specs.Runs.{Happened, Served as ServedFrame, Asked as WasAsked}
use Rattle.server_model.specs.meaning.ServiceCalls.{is_failover}
use Rattle.server_model.specs.ServiceCalls.{RunsAre, begins_outside}
use Rattle.service_calls.specs.Answers.{runs_of}
use Rattle.world_model.specs.meaning.Cutting.{follow_cut, follow_reap}
use Rattle.world_model.specs.meaning.Crashing.{is_crashed_item, is_stopped, is_over, serves_last, after_stopped, falls}
use Rattle.world_model.specs.meaning.Machines.{Machine, next_session}
use Rattle.world_model.specs.meaning.Going.{follow_go}
use Rattle.world_model.specs.meaning.Matching.{Noted, Went, ServedOn, CutOff, Reaped, Crashed, Asked as AskedThen}
use Rattle.world_model.specs.meaning.Noting.{only_if, same_name, name_of}
use Rattle.world_model.specs.meaning.Opening.{follow_up, follow_upcrash}
use Rattle.world_model.specs.meaning.Outside.{ticked, after_asked, follow_outside, follow_ask, follow_drain}
use Rattle.world_model.specs.meaning.ServiceDid.{front_telling}
use Rattle.world_model.specs.ServiceDid.{ServiceDid, front_served}
use Rattle.world_model.specs.meaning.Serving.{Front, front_at, is_of_front, is_item_of, is_ordinary, serves, after_served, outcome_frame, identifier}
use Rattle.world_model.specs.meaning.Settings.{Setting}
use Rattle.world_model.specs.meaning.Walking.{leaving, by_kind, follow}
use Rattle.world_model.proofs.Offered.{at_event, left_or, reaches, reaches_if, mapped, only_is, event_of_item, only_met, eq_to}
use Rattle.run_laws.proofs.MomentsGrow.{event_moments}

-- the item is the frame's, whether it was answered or stopped
abbrev pub IsItsItem : Front → Served → Type 0
IsItsItem front served = (is_item_of front.first.frame served.item ≡ true) ⊎ (is_crashed_item front.first.frame served.item ≡ true)

pub data EventTells (m : Machine) : List HappenedAt → List Happened → Type 0 where
  TellsNothing : EventTells m [] []
  TellsItem : (number : ℕ) (front : Front) (served : Served) → front_at m.links number ≡ Some front → is_of_front (at_event m) front served ≡ true → IsItsItem front served
      → EventTells m (moment_of_item served ∷ []) (ServedFrame served.session m.tick front.first.frame (front_telling front served) ∷ [])
  TellsRun : (ran : OutsideNote) (calls : List Call) (runs : List Happened) → ran.ltxid ≡ identifier (next_session m.server) 0 → RunsAre (next_session m.server) m.tick calls (runs_of ran) runs
      → EventTells m (record { event = m.event + 1; happened = RanOutside ran } ∷ []) (begins_outside (next_session m.server) m.tick ++ runs)
  TellsAnswer : (x : Ltxid) (told : AskResult) → m.server.is_up ≡ true → EventTells m (record { event = m.event + 1; happened = Asked x told } ∷ []) (WasAsked x (Says (outcome_frame told)) ∷ [])

-- its items are its own, and so is what it tells
pub record HasTold (m : Machine) (one : Note) (items : List Served) (happened : List Happened) : Type 0 where
  pub now : list_all (λ served. served.event == m.event + 1) items ≡ true
  pub tells : EventTells m (event_moments (m.event + 1) one items) happened

module _ (setting : Setting) (m n : Machine) where
  -- a note that names what its event names
  met : (items left : List Served) (test : Bool) (kind : Noted) → option_and_then (by_kind setting (at_event m) items) (only_if test kind) ≡ Some (n, left) → by_kind setting (at_event m) items kind ≡ Some (n, left)
  met items left true kind is = is
  met items left false kind is = absurd (let none : ⊥ = cc in none)

  test_met : (items left : List Served) (test : Bool) (kind : Noted) → option_and_then (by_kind setting (at_event m) items) (only_if test kind) ≡ Some (n, left) → test ≡ true
  test_met items left true kind is = refl
  test_met items left false kind is = absurd (let none : ⊥ = cc in none)

  -- EVENTS WITHOUT AN ITEM ------------------------------------------------------------------------

  none_left : (items left : List Served) (next : Option Machine) → leaving items next ≡ Some (n, left) → items ≡ left
  none_left items left None is = absurd (let none : ⊥ = cc in none)
  none_left items left (Some next) is = ap (left_or items) is

  -- where something is reached, the test is met
  may_be : (items : List Served) (test : Bool) (next : Machine) → leaving items (only_if test next) ≡ Some (n, []) → test ≡ true
  may_be items true next is = refl
  may_be items false next is = absurd (let none : ⊥ = cc in none)

  -- by its note alone
  by_note : (one : Note) (items : List Served) (happened : List Happened) → items ≡ [] → EventTells m (event_moments (m.event + 1) one []) happened → HasTold m one items happened
  by_note one items happened none tells = subst (λ (all : List Served). HasTold m one all happened) (sym none) (record { now = refl; tells = tells })

  quiet : (one : Note) (items : List Served) (happened : List Happened) (next : Option Machine) → leaving items next ≡ Some (n, []) → event_moments (m.event + 1) one [] ≡ [] → happened ≡ [] → HasTold m one items happened
  quiet one items happened next is silent none =
      by_note one items happened (none_left items [] next is)
      (subst (λ (moments : List HappenedAt). EventTells m moments happened) (sym silent) (subst (EventTells m []) (sym none) TellsNothing))

  -- EVENTS THAT SERVE A FRAME ---------------------------------------------------------------------

  -- an event whose note tells nothing
  abbrev IsSilent : Note → Type 0
  IsSilent one = (items : List Served) → event_moments (m.event + 1) one items ≡ map moment_of_item items

  tells_none : (one : Note) (items : List Served) (happened : List Happened) → IsSilent one → items ≡ [] → happened ≡ [] → HasTold m one items happened
  tells_none one items happened silent none did = by_note one items happened none (subst (λ (moments : List HappenedAt). EventTells m moments happened) (sym (silent [])) (subst (EventTells m []) (sym did) TellsNothing))

  tells_item : (one : Note) (happened : List Happened) (number : ℕ) (front : Front) (served : Served) (rest : List Served) → front_at m.links number ≡ Some front → IsSilent one → rest ≡ [] → is_of_front (at_event m) front served ≡ true → IsItsItem front served
      → happened ≡ front_served m.tick (Some front) (served ∷ rest) → HasTold m one (served ∷ rest) happened
  tells_item one happened number front served rest at silent none of_front its did =
      subst (λ (all : List Served). HasTold m one (served ∷ all) happened) (sym none)
      (record {
        now = and_from (served.event == m.event + 1) true (eq_to served.event (m.event + 1) (event_of_item (at_event m) front served of_front)) refl;
        tells = subst (λ (moments : List HappenedAt). EventTells m moments happened) (sym (silent (served ∷ []))) (subst (EventTells m (moment_of_item served ∷ [])) (sym did) (TellsItem number front served at of_front its));
      })

  serves_tell : (one : Note) (number : ℕ) (name : Option FrameName) (items : List Served) (happened : List Happened) (front : Option Front) → front_at m.links number ≡ front → IsSilent one
      → serves (at_event m) number name items front ≡ Some (n, []) → happened ≡ front_served m.tick front items → HasTold m one items happened
  serves_tell one number None items happened None at silent is did = tells_none one items happened silent (ap (left_or items) is) did
  serves_tell one number None items happened (Some front) at silent is did = absurd (let none : ⊥ = cc in none)
  serves_tell one number (Some name) [] happened None at silent is did = absurd (let none : ⊥ = cc in none)
  serves_tell one number (Some name) (served ∷ rest) happened None at silent is did = absurd (let none : ⊥ = cc in none)
  serves_tell one number (Some name) [] happened (Some front) at silent is did = absurd (let none : ⊥ = cc in none)
  serves_tell one number (Some name) (served ∷ rest) happened (Some front) at silent is did =
      let named : Bool = same_name name (name_of front.first.frame) in
      let ordinary : Bool = is_ordinary (at_event m) front served in
      let same : (after_served (at_event m) number front served, rest) ≡ (n, []) = only_is (named && ordinary) (after_served (at_event m) number front served, rest) (n, []) is in
      let parts = and_parts (is_of_front (at_event m) front served) (is_item_of front.first.frame served.item) (and_parts named ordinary (only_met (named && ordinary) (after_served (at_event m) number front served, rest) (n, []) is)).1 in
      tells_item one happened number front served rest at silent (ap (λ (next : Machine × List Served). next.1) same) parts.0 (inl parts.1) did

  -- a crash may serve one
  stops_tell : (one : Note) (number after : ℕ) (failover : Bool) (happened : List Happened) (front : Front) (served : Served) (rest : List Served) (stopped : Bool) → front_at m.links number ≡ Some front → IsSilent one → is_stopped (at_event m) after front served ≡ stopped
      → mapped (falls failover) (if stopped then reaches (after_stopped (at_event m) number front served) rest else reaches_if (is_over (at_event m) after front served) (after_served (at_event m) number front served) rest) ≡ Some (n, [])
      → happened ≡ front_served m.tick (Some front) (served ∷ rest) → HasTold m one (served ∷ rest) happened
  stops_tell one number after failover happened front served rest true at silent stopped is did =
      let parts = and_parts (is_of_front (at_event m) front served) _ stopped in
      tells_item one happened number front served rest at silent (ap (left_or rest) is) parts.0 (inr (and_parts (is_crashed_item front.first.frame served.item) _ parts.1).0) did
  stops_tell one number after failover happened front served rest false at silent stopped is did = by (is_over (at_event m) after front served) refl is
    where
      by : (over : Bool) → is_over (at_event m) after front served ≡ over → mapped (falls failover) (reaches_if over (after_served (at_event m) number front served) rest) ≡ Some (n, []) → HasTold m one (served ∷ rest) happened
      by true over is =
          let parts = and_parts (is_of_front (at_event m) front served) (is_item_of front.first.frame served.item) (and_parts (is_ordinary (at_event m) front served) _ over).0 in
          tells_item one happened number front served rest at silent (ap (left_or rest) is) parts.0 (inl parts.1) did
      by false over is = absurd (let none : ⊥ = cc in none)

  last_tells : (one : Note) (number after : ℕ) (failover : Bool) (items : List Served) (happened : List Happened) (front : Option Front) → front_at m.links number ≡ front → IsSilent one
      → mapped (falls failover) (serves_last (at_event m) number after items front) ≡ Some (n, []) → happened ≡ front_served m.tick front items → HasTold m one items happened
  last_tells one number after failover items happened None at silent is did = tells_none one items happened silent (ap (left_or items) is) did
  last_tells one number after failover [] happened (Some front) at silent is did = absurd (let none : ⊥ = cc in none)
  last_tells one number after failover (served ∷ rest) happened (Some front) at silent is did =
      stops_tell one number after failover happened front served rest (is_stopped (at_event m) after front served) at silent refl is did

  crash_tells : (one : Note) (number after : ℕ) (failover down is_up : Bool) (items : List Served) (happened : List Happened) → IsSilent one
      → (if is_up then (if down then None else mapped (falls failover) (serves_last (at_event m) number after items (front_at m.links number))) else reaches_if down (at_event m) items) ≡ Some (n, [])
      → happened ≡ (if is_up then front_served m.tick (front_at m.links number) items else []) → HasTold m one items happened
  crash_tells one number after failover true true items happened silent is did = absurd (let none : ⊥ = cc in none)
  crash_tells one number after failover false true items happened silent is did = last_tells one number after failover items happened (front_at m.links number) refl silent is did
  crash_tells one number after failover true false items happened silent is did = tells_none one items happened silent (ap (left_or items) is) did
  crash_tells one number after failover false false items happened silent is did = absurd (let none : ⊥ = cc in none)

  -- EACH EVENT ------------------------------------------------------------------------------------

  -- One event, by its kind.
  pub event_tells : (event : Event) (one : Note) (items : List Served) (happened : List Happened) → follow setting m event one items ≡ Some (n, []) → ServiceDid m event one items happened → HasTold m one items happened
  event_tells (event.Go client) (note.Go named did) items happened is done = quiet (note.Go named did) items happened (follow_go setting (at_event m) client did) (met items [] (named == client) (Went client did) is) refl done
  event_tells (event.Serve connection) (note.Serve named frame) items happened is done =
      serves_tell (note.Serve named frame) connection frame items happened (front_at m.links connection) refl (λ all. append-nil (map moment_of_item all)) (met items [] (named == connection) (ServedOn connection frame) is) done
  event_tells (event.Cut connection up down) (note.Cut named reached) items happened is done =
      quiet (note.Cut named reached) items happened (follow_cut (at_event m) connection up down reached) (met items [] (named == connection) (CutOff connection up down reached) is) refl done
  event_tells (event.Reap connection) (note.Reap named reaped) items happened is done =
      quiet (note.Reap named reaped) items happened (follow_reap (at_event m) connection reaped) (met items [] (named == connection) (Reaped connection reaped) is) refl done
  event_tells (event.Crash connection after pick) (note.Crash named down) items happened is done =
      crash_tells (note.Crash named down) connection after (is_failover pick) down m.server.is_up items happened (λ all. append-nil (map moment_of_item all)) (met items [] (named == connection) (Crashed connection after (is_failover pick) down) is) done
  event_tells event.Up (note.Up incarnation) items happened is done = quiet (note.Up incarnation) items happened (follow_up (at_event m) incarnation) is refl done
  event_tells (event.UpCrash after pick) (note.UpCrash made) items happened is done = quiet (note.UpCrash made) items happened (follow_upcrash (at_event m) made) is refl done
  event_tells event.Tick note.Tick items happened is done = quiet note.Tick items happened (Some (ticked (at_event m))) is refl done
  event_tells (event.Outside calls) (note.Outside None) items happened is done = quiet (note.Outside None) items happened (follow_outside (at_event m) None) is refl done
  event_tells (event.Outside calls) (note.Outside (Some ran)) items happened is done =
      by_note (note.Outside (Some ran)) items happened (none_left items [] (follow_outside (at_event m) (Some ran)) is)
      (subst (EventTells m (record { event = m.event + 1; happened = RanOutside ran } ∷ [])) (sym done.1.0)
      (TellsRun ran calls done.0 ((same_ltxid_decides ran.ltxid (identifier (next_session m.server) 0)).0 (and_parts m.server.is_up (same_ltxid ran.ltxid (identifier (next_session m.server) 0)) (may_be items (m.server.is_up && same_ltxid ran.ltxid (identifier (next_session m.server) 0)) (record (at_event m) { server = record m.server { sessions = m.server.sessions + 1 } }) is)).1) done.1.1))
  event_tells (event.Ask x) (note.Ask named None) items happened is done =
      quiet (note.Ask named None) items happened (follow_ask (at_event m) x None) (met items [] (same_ltxid named x) (AskedThen x None) is) refl done
  event_tells (event.Ask x) (note.Ask named (Some told)) items happened is done =
      by_note (note.Ask named (Some told)) items happened (none_left items [] (follow_ask (at_event m) x (Some told)) (met items [] (same_ltxid named x) (AskedThen x (Some told)) is))
      (subst (EventTells m (record { event = m.event + 1; happened = Asked named told } ∷ [])) (sym done)
      (subst (λ (y : Ltxid). EventTells m (record { event = m.event + 1; happened = Asked named told } ∷ []) (WasAsked y (Says (outcome_frame told)) ∷ [])) ((same_ltxid_decides named x).0 (test_met items [] (same_ltxid named x) (AskedThen x (Some told)) is))
      (TellsAnswer named told (may_be items m.server.is_up (record (at_event m) { server = after_asked m.server x told }) (met items [] (same_ltxid named x) (AskedThen x (Some told)) is)))))
  event_tells event.Drain (note.Drain closed) items happened is done = quiet (note.Drain closed) items happened (follow_drain (at_event m) closed) is refl done
  event_tells event one items happened is done = absurd (let none : ⊥ = cc in none)
