-- The requests of a client with their steps, by place.
use Rattle.std.specs.Prelude.{◌≡◌, List, [], ◌∷◌, ◌++◌, map, slice_get, Some}
use Rattle.std.specs.Option.{option_map_or}
use Rattle.outage_schedule.specs.declared.document.Request.{Request}
use Rattle.world_model.specs.meaning.Clients.{Step, Past, Doing, Client, client_at}
use Rattle.world_model.specs.meaning.Frames.{Owner}

-- a request with its steps so far
pub record RequestSteps : Type 0 where
  pub request : Request
  pub steps : List Step

abbrev pub over_so : Past → RequestSteps
over_so past = record { request = past.request; steps = past.steps }

abbrev pub doing_so : Doing → RequestSteps
doing_so doing = record { request = doing.request; steps = doing.steps }

-- those of a client, in order, the one in course last
abbrev pub requests_by_place : Client → List RequestSteps
requests_by_place own = map over_so own.past
    ++ option_map_or (λ doing. doing_so doing ∷ []) own.now []

-- the owner submitted this request, and these are its steps
pub record IsRequestOf (clients : List Client) (owner : Owner) (one : RequestSteps) : Type 0 where
  pub own : Client
  pub here : client_at clients owner.client ≡ Some own
  pub at : slice_get (requests_by_place own) owner.place ≡ Some one
