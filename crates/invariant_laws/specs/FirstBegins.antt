-- A request begins on a connection before it sends a call there, and not again behind one.
use Rattle.std.specs.Prelude.{◌&&◌, Bool, true, not, List, [], ◌∷◌, ◌++◌, Option}
use Rattle.std.specs.List.{list_all}
use Rattle.svc_values.specs.declared.frame.Up.{Up}
use Rattle.svc_values.specs.declared.frame.Up.TheVariants as up
use Rattle.world_model.specs.meaning.Frames.{Owner, Sent}
use Rattle.world_model.specs.meaning.Links.{Link}
use Rattle.world_model.specs.Sames.{same_owners}
use Rattle.invariant_laws.specs.Shown.{is_call}
use Rattle.world_model.specs.Traced.{Traced}

abbrev pub is_call_by : Option Owner → Sent → Bool
is_call_by owner sent = same_owners owner sent.owner && is_call sent.frame

-- Who begins sent no call before.
abbrev pub begins_new : List Sent → Sent → Up → Bool
begins_new before sent (up.Begin settings) =
    list_all (λ one. not (is_call_by sent.owner one)) before
begins_new before sent _ = true

abbrev pub begin_new : List Sent → List Sent → Bool
begin_new before [] = true
begin_new before (sent ∷ more) = begins_new before sent sent.frame
    && begin_new (before ++ sent ∷ []) more

-- so it is on each connection
abbrev pub begins_once : Link → Bool
begins_once link = begin_new [] link.sent

abbrev pub begin_once : Traced → Bool
begin_once t = list_all begins_once t.machine.links
