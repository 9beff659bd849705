-- The finish: the events that are made after the schedule, each by the state that it finds.
use Rattle.std.specs.Prelude.{ℕ, ◌+◌, Bool, List, [], ◌∷◌, drop, position, Option, Some, None, is_none, is_some, option_map, option_and_then, if◌then◌else◌}
use Rattle.std.specs.List.{list_any}
use Rattle.std.specs.Option.{option_map_or}
use Rattle.outage_schedule.specs.declared.event.Event.{Event}
use Rattle.outage_schedule.specs.declared.event.Event.TheVariants as event
use Rattle.outage_schedule.specs.declared.note.Note.{Note}
use Rattle.outage_schedule.specs.declared.item.Served.{Served}
use Rattle.world_model.specs.meaning.Settings.{Setting}
use Rattle.world_model.specs.meaning.Links.{is_orphan}
use Rattle.world_model.specs.meaning.Clients.{is_unfinished}
use Rattle.world_model.specs.meaning.Machines.{Machine}
use Rattle.world_model.specs.meaning.Serving.{front_of}
use Rattle.world_model.specs.meaning.Walking.{follow}

-- How far the finish has come: before all, at the orphans, at the start of a round, in a round at
-- the clients behind this one, or at the connections.
pub data Place : Type 0 where
  AtServer : Place
  AtOrphans : Place
  AtRound : Place
  AtClients : (last : ℕ) → Place
  AtLinks : Place

-- the next event, and how far the finish has come then
abbrev pub Next : Type 0
Next = Option (Event × Place)

-- the number of the first one behind so many that meets the test
abbrev pub first_behind : {A : Type 0} → (A → Bool) → ℕ → List A → Option ℕ
first_behind test passed all = option_map (λ index. passed + index + 1)
    (position test (drop passed all))

-- the first connection on which a whole frame may be served, and else one tick
abbrev pub serves_or_ticks : Machine → Next
serves_or_ticks m = option_map_or (λ number. Some (event.Serve number, AtLinks))
    (first_behind (λ link. is_some (front_of link)) 0 m.links) (Some (event.Tick, AtRound))

-- the next client that is not finished, and else the connections
abbrev pub goes_or_serves : Machine → ℕ → Next
goes_or_serves m last = option_map_or (λ number. Some (event.Go number, AtClients number))
    (first_behind is_unfinished last m.clients) (serves_or_ticks m)

-- a round, as long as a client is not finished
abbrev pub next_round : Machine → Next
next_round m = if list_any is_unfinished m.clients then goes_or_serves m 0 else None

-- the next orphan, and else the rounds
abbrev pub reaps_or_goes : Machine → Next
reaps_or_goes m = option_map_or (λ number. Some (event.Reap number, AtOrphans))
    (first_behind is_orphan 0 m.links) (next_round m)

-- the server is opened where it is down
abbrev pub opens_or_reaps : Machine → Next
opens_or_reaps m = if m.server.is_up then reaps_or_goes m else Some (event.Up, AtOrphans)

abbrev pub next_finish : Machine → Place → Next
next_finish m AtServer = opens_or_reaps m
next_finish m AtOrphans = reaps_or_goes m
next_finish m AtRound = next_round m
next_finish m (AtClients last) = goes_or_serves m last
next_finish m AtLinks = serves_or_ticks m

-- where the walk ends, with the items that are left
abbrev pub Finished : Type 0
Finished = Option (Machine × List Served)

-- The walk over the finish has one note for each of its events, and no more.
abbrev pub walk_finish : Setting → Machine → Place → List Note → List Served → Finished
walk_finish setting m place [] items = if is_none (next_finish m place) then Some (m, items) else
    None
walk_finish setting m place (note ∷ notes) items =
    option_and_then (λ made. option_and_then
    (λ next. walk_finish setting next.0 made.1 notes next.1)
    (follow setting m made.0 note items)) (next_finish m place)
