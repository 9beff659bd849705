-- The events of a whole run are those of the schedule, and then those of the finish, of which none
-- runs calls from outside.
use Rattle.std.proofs.Common.{◌≡◌, refl, sym, subst, append_assoc, append-nil, ℕ, Bool, true, false, List, [], ◌∷◌, ◌++◌, Option, Some, None, if◌then◌else◌}
use Rattle.std.specs.Prelude.{is_some}
use Rattle.std.specs.List.{list_any}
use Rattle.std.specs.Option.{option_map_or}
use Rattle.svc_values.specs.declared.call.Call.{Call}
use Rattle.outage_schedule.specs.declared.document.Document.{Document}
use Rattle.outage_schedule.specs.declared.event.Event.{Event}
use Rattle.outage_schedule.specs.declared.event.Event.TheVariants as event
use Rattle.outage_schedule.specs.declared.item.Served.{Served}
use Rattle.outage_schedule.specs.declared.note.Note.{Note}
use Rattle.server_model.specs.Seen.{Seen}
use Rattle.shown_clauses.specs.meaning.Fronts.{first_item, rest_items}
use Rattle.world_model.specs.meaning.Clients.{is_unfinished}
use Rattle.world_model.specs.meaning.Finishing.{Place, AtServer, AtOrphans, AtRound, AtClients, AtLinks, Next, first_behind, serves_or_ticks, goes_or_serves, next_round, reaps_or_goes, opens_or_reaps, next_finish}
use Rattle.world_model.specs.meaning.Links.{is_orphan}
use Rattle.world_model.specs.meaning.Machines.{Machine}
use Rattle.world_model.specs.Reached.{Reached, GoesOn, IsFinishing, Scheduled, Finishes}
use Rattle.world_model.specs.meaning.Serving.{front_of}
use Rattle.world_model.specs.Traced.{Traced}
use Rattle.legal_laws.proofs.EventsTold.{IsScheduled}

-- NO CALLS FROM OUTSIDE ---------------------------------------------------------------------------

abbrev pub NotOutside : Event → Type 0
NotOutside one = (calls : List Call) → one ≡ event.Outside calls → ⊥

abbrev pub NoneOutside : List Event → Type 0
NoneOutside [] = Unit {0}
NoneOutside (one ∷ events) = NotOutside one × NoneOutside events

none_more : (events : List Event) (one : Event) → NoneOutside events → NotOutside one → NoneOutside (events ++ one ∷ [])
none_more [] one none not = (not, tt)
none_more (first ∷ events) one none not = (none.0, none_more events one none.1 not)

abbrev IsQuiet : Next → Type 0
IsQuiet None = Unit {0}
IsQuiet (Some next) = NotOutside next.0

serves_quiet : (m : Machine) → IsQuiet (serves_or_ticks m)
serves_quiet m = by (first_behind (λ link. is_some (front_of link)) 0 m.links)
  where
    by : (found : Option ℕ) → IsQuiet (option_map_or (λ number. Some (event.Serve number, AtLinks)) found (Some (event.Tick, AtRound)))
    by None = λ calls is. let none : ⊥ = cc in none
    by (Some number) = λ calls is. let none : ⊥ = cc in none

goes_quiet : (m : Machine) (last : ℕ) → IsQuiet (goes_or_serves m last)
goes_quiet m last = by (first_behind is_unfinished last m.clients)
  where
    by : (found : Option ℕ) → IsQuiet (option_map_or (λ number. Some (event.Go number, AtClients number)) found (serves_or_ticks m))
    by None = serves_quiet m
    by (Some number) = λ calls is. let none : ⊥ = cc in none

round_quiet : (m : Machine) → IsQuiet (next_round m)
round_quiet m = by (list_any is_unfinished m.clients)
  where
    by : (some : Bool) → IsQuiet (if some then goes_or_serves m 0 else None)
    by true = goes_quiet m 0
    by false = tt

reaps_quiet : (m : Machine) → IsQuiet (reaps_or_goes m)
reaps_quiet m = by (first_behind is_orphan 0 m.links)
  where
    by : (found : Option ℕ) → IsQuiet (option_map_or (λ number. Some (event.Reap number, AtOrphans)) found (next_round m))
    by None = round_quiet m
    by (Some number) = λ calls is. let none : ⊥ = cc in none

opens_quiet : (m : Machine) → IsQuiet (opens_or_reaps m)
opens_quiet m = by m.server.is_up
  where
    by : (up : Bool) → IsQuiet (if up then reaps_or_goes m else Some (event.Up, AtOrphans))
    by true = reaps_quiet m
    by false = λ calls is. let none : ⊥ = cc in none

next_quiet : (m : Machine) (place : Place) → IsQuiet (next_finish m place)
next_quiet m AtServer = opens_quiet m
next_quiet m AtOrphans = reaps_quiet m
next_quiet m AtRound = round_quiet m
next_quiet m (AtClients last) = goes_quiet m last
next_quiet m AtLinks = serves_quiet m

-- WHOLE RUNS --------------------------------------------------------------------------------------

-- it has come to by the schedule and some events of the finish
pub record IsPastSchedule (document : Document) (notes : List Note) (items : List Served) (seen : Seen) (t : Traced) : Type 0 where
  pub finish : List Event
  pub none : NoneOutside finish
  pub reached : Reached document (document.schedule ++ finish) notes items seen t

pub past_schedule : (document : Document) (place : Place) (notes : List Note) (items : List Served) (seen : Seen) (t : Traced) → IsFinishing document place notes items seen t → IsPastSchedule document notes items seen t
past_schedule document _ _ _ _ _ (Scheduled notes items seen t reached) =
    record { finish = []; none = tt; reached = subst (λ (events : List Event). Reached document events notes items seen t) (sym (append-nil document.schedule)) reached }
past_schedule document _ _ _ _ _ (Finishes place later notes items more before after old new event note finishing next one forgets) =
    let so = past_schedule document place notes items before old finishing in
    record {
      finish = so.finish ++ event ∷ [];
      none = none_more so.finish event so.none (subst IsQuiet next (next_quiet old.machine place));
      reached =
          subst (λ (events : List Event). Reached document events (notes ++ note ∷ []) (items ++ more) after new) (append_assoc document.schedule so.finish (event ∷ []))
          (GoesOn (document.schedule ++ so.finish) notes items more before after old new event note so.reached one forgets);
    }

-- THE SCHEDULE ------------------------------------------------------------------------------------

-- each event `outside` of these is that of the schedule
abbrev pub FitsSchedule : List Event → List Event → Type 0
FitsSchedule schedule [] = Unit {0}
FitsSchedule schedule (one ∷ events) = IsScheduled (first_item schedule) one × FitsSchedule (rest_items schedule) events

fits_finish : (finish : List Event) → NoneOutside finish → FitsSchedule [] finish
fits_finish [] none = tt
fits_finish (one ∷ finish) none = ((λ calls is. absurd (none.0 calls is)), fits_finish finish none.1)

pub fits_schedule : (schedule finish : List Event) → NoneOutside finish → FitsSchedule schedule (schedule ++ finish)
fits_schedule [] finish none = fits_finish finish none
fits_schedule (one ∷ schedule) finish none = ((λ calls is. refl), fits_schedule schedule finish none)
