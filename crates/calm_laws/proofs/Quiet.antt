-- A calm event adds no question for an outcome to the service's history, if no frame that may be
-- served asks for one.
use Rattle.std.proofs.Common.{◌≡◌, refl, sym, ap, ◌∙◌, Bool, true, false, ℕ, List, [], ◌∷◌, Option, Some, None}
use Rattle.std.specs.List.{list_all}
use Rattle.std.proofs.lemmas.Bool.{and_parts, and_from}
use Rattle.svc_values.specs.declared.answer.Answer.{Answer}
use Rattle.svc_values.specs.declared.call.Call.{Call}
use Rattle.svc_values.specs.declared.draw.Draw.{Draw}
use Rattle.svc_values.specs.declared.entry.SessionId.{SessionId}
use Rattle.outage_schedule.specs.declared.event.Event.{Event}
use Rattle.outage_schedule.specs.declared.event.Event.TheVariants as event
use Rattle.outage_schedule.specs.declared.item.Served.{Served}
use Rattle.outage_schedule.specs.declared.note.FrameName.{FrameName}
use Rattle.outage_schedule.specs.declared.note.Note.{Note}
use Rattle.outage_schedule.specs.declared.note.Note.TheVariants as note
use Rattle.server_model.specs.Runs.{Happened}
use Rattle.server_model.specs.meaning.ServiceCalls.{is_failover}
use Rattle.server_model.specs.ServiceCalls.{RunsAre}
use Rattle.service_calls.specs.Answers.{runs_of}
use Rattle.world_model.specs.meaning.Frames.{Sent}
use Rattle.world_model.specs.meaning.Links.{Link}
use Rattle.world_model.specs.meaning.Machines.{Machine, next_session}
use Rattle.world_model.specs.meaning.Matching.{Noted, Went, ServedOn, CutOff, Reaped, Crashed, Opened, OpeningStopped, Ticked, RanOutside, Asked, Drained, matched}
use Rattle.world_model.specs.meaning.Noting.{only_if}
use Rattle.world_model.specs.ServiceDid.{ServiceDid, front_served}
use Rattle.world_model.specs.meaning.Serving.{Front, front_at}
use Rattle.world_model.proofs.Offered.{IsFront, front_is, at_link, only_is}
use Rattle.calm_laws.specs.meaning.Calm.{is_calm_event}
use Rattle.calm_laws.proofs.Blocks.{is_quiet}
use Rattle.calm_laws.proofs.Talks.{asks_none}

-- no frame that may be served asks for an outcome
abbrev pub sends_quietly : Sent → Bool
sends_quietly sent = asks_none sent.frame

abbrev pub is_quiet_link : Link → Bool
is_quiet_link link = list_all sends_quietly link.up

-- THE FRAME THAT STANDS FIRST ---------------------------------------------------------------------

pub front_quiet : (links : List Link) (number : ℕ) (front : Front) → list_all is_quiet_link links ≡ true → front_at links number ≡ Some front → asks_none front.first.frame ≡ true
front_quiet links number front quiet at =
    let is : IsFront links number front = front_is links number front at in
    (and_parts (asks_none front.first.frame) (list_all sends_quietly front.later) (ap (list_all sends_quietly) (sym is.up) ∙ at_link is_quiet_link links number front.link quiet is.there)).0

served_quiet : (now : ℕ) (front : Option Front) (items : List Served) → ((one : Front) → front ≡ Some one → asks_none one.first.frame ≡ true) → list_all is_quiet (front_served now front items) ≡ true
served_quiet now None items quiet = refl
served_quiet now (Some front) [] quiet = refl
served_quiet now (Some front) (served ∷ items) quiet = and_from (asks_none front.first.frame) true (quiet front refl) refl

-- EVENTS ------------------------------------------------------------------------------------------

runs_quiet : (session : SessionId) (now : ℕ) (calls : List Call) (runs : List (List Answer × List Draw)) (more : List Happened) → RunsAre session now calls runs more → list_all is_quiet more ≡ true
runs_quiet session now [] [] more is = ap (list_all is_quiet) is
runs_quiet session now [] (run ∷ runs) more is = absurd is
runs_quiet session now (called ∷ calls) [] more is = ap (list_all is_quiet) is
runs_quiet session now (called ∷ calls) (run ∷ runs) more is = ap (list_all is_quiet) is.2.0 ∙ runs_quiet session now calls runs is.1 is.2.1

pub adds_quietly : (m : Machine) (event : Event) (note : Note) (items : List Served) (more : List Happened) → list_all is_quiet_link m.links ≡ true → is_calm_event event ≡ true → ServiceDid m event note items more → list_all is_quiet more ≡ true
adds_quietly m (event.Serve connection) note items more quiet calm did =
    ap (list_all is_quiet) did ∙ served_quiet m.tick (front_at m.links connection) items (λ one at. front_quiet m.links connection one quiet at)
adds_quietly m (event.Outside calls) (note.Outside (Some ran)) items more quiet calm did =
    ap (list_all is_quiet) did.1.0 ∙ runs_quiet (next_session m.server) m.tick calls (runs_of ran) did.0 did.1.1
adds_quietly m (event.Crash connection after pick) note items more quiet calm did = absurd (let none : ⊥ = cc in none)
adds_quietly m (event.Ask x) note items more quiet calm did = absurd (let none : ⊥ = cc in none)
adds_quietly m event note items more quiet calm did = ap (list_all is_quiet) did

-- KINDS -------------------------------------------------------------------------------------------

abbrev pub is_calm_kind : Noted → Bool
is_calm_kind (CutOff connection up down reached) = false
is_calm_kind (Crashed connection after failover down) = false
is_calm_kind (OpeningStopped made) = false
is_calm_kind (Asked x told) = false
is_calm_kind _ = true

only_calm : (test : Bool) (kind found : Noted) → is_calm_kind kind ≡ true → only_if test kind ≡ Some found → is_calm_kind found ≡ true
only_calm test kind found calm is = ap is_calm_kind (sym (only_is test kind found is)) ∙ calm

pub kind_calm : (event : Event) (note : Note) (kind : Noted) → is_calm_event event ≡ true → matched event note ≡ Some kind → is_calm_kind kind ≡ true
kind_calm (event.Go client) (note.Go named did) kind calm is = only_calm _ (Went client did) kind refl is
kind_calm (event.Serve connection) (note.Serve named frame) kind calm is = only_calm _ (ServedOn connection frame) kind refl is
kind_calm (event.Reap connection) (note.Reap named reaped) kind calm is = only_calm _ (Reaped connection reaped) kind refl is
kind_calm event.Up (note.Up incarnation) kind calm is = let same : Opened incarnation ≡ kind = cc in ap is_calm_kind (sym same)
kind_calm event.Tick note.Tick kind calm is = let same : Ticked ≡ kind = cc in ap is_calm_kind (sym same)
kind_calm (event.Outside calls) (note.Outside ran) kind calm is = let same : RanOutside ran ≡ kind = cc in ap is_calm_kind (sym same)
kind_calm event.Drain (note.Drain closed) kind calm is = let same : Drained closed ≡ kind = cc in ap is_calm_kind (sym same)
kind_calm (event.Cut connection up down) note kind calm is = absurd (let none : ⊥ = cc in none)
kind_calm (event.Crash connection after pick) note kind calm is = absurd (let none : ⊥ = cc in none)
kind_calm (event.UpCrash after pick) note kind calm is = absurd (let none : ⊥ = cc in none)
kind_calm (event.Ask x) note kind calm is = absurd (let none : ⊥ = cc in none)
kind_calm event note kind calm is = absurd (let none : ⊥ = cc in none)

-- an event at which a frame is served is a `serve` of its connection
pub kind_serves : (one : Event) (note : Note) (number : ℕ) (frame : Option FrameName) → matched one note ≡ Some (ServedOn number frame) → one ≡ event.Serve number
kind_serves (event.Serve connection) (note.Serve named name) number frame is =
    let same : ServedOn connection name ≡ ServedOn number frame = only_is _ (ServedOn connection name) (ServedOn number frame) is in let it : connection ≡ number = cc in ap event.Serve it
kind_serves (event.Go client) (note.Go named did) number frame is = absurd (let same = only_is _ (Went client did) (ServedOn number frame) is in let none : ⊥ = cc in none)
kind_serves (event.Cut connection up down) (note.Cut named reached) number frame is = absurd (let same = only_is _ (CutOff connection up down reached) (ServedOn number frame) is in let none : ⊥ = cc in none)
kind_serves (event.Reap connection) (note.Reap named reaped) number frame is = absurd (let same = only_is _ (Reaped connection reaped) (ServedOn number frame) is in let none : ⊥ = cc in none)
kind_serves (event.Crash connection after pick) (note.Crash named down) number frame is =
    absurd (let same = only_is _ (Crashed connection after (is_failover pick) down) (ServedOn number frame) is in let none : ⊥ = cc in none)
kind_serves (event.Ask x) (note.Ask named told) number frame is = absurd (let same = only_is _ (Asked x told) (ServedOn number frame) is in let none : ⊥ = cc in none)
kind_serves event.Up (note.Up incarnation) number frame is = absurd (let none : ⊥ = cc in none)
kind_serves (event.UpCrash after pick) (note.UpCrash made) number frame is = absurd (let none : ⊥ = cc in none)
kind_serves event.Tick note.Tick number frame is = absurd (let none : ⊥ = cc in none)
kind_serves (event.Outside calls) (note.Outside ran) number frame is = absurd (let none : ⊥ = cc in none)
kind_serves event.Drain (note.Drain closed) number frame is = absurd (let none : ⊥ = cc in none)
kind_serves one note number frame is = absurd (let none : ⊥ = cc in none)
