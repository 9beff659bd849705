-- The items of an event are those of what its service did then, but for their numbers, and look at
-- no item that it does not take.
use Rattle.std.proofs.Common.{◌≡◌, refl, sym, ap, ◌∙◌, ℕ, ◌+◌, Bool, true, false, List, [], ◌∷◌, ◌++◌, map, Option, Some, None, if◌then◌else◌}
use Rattle.svc_values.specs.declared.call.Call.{Call}
use Rattle.svc_values.specs.declared.entry.SessionId.{SessionId}
use Rattle.outage_schedule.specs.declared.event.Event.{Event}
use Rattle.outage_schedule.specs.declared.event.Event.TheVariants as event
use Rattle.outage_schedule.specs.declared.item.Served.{Served}
use Rattle.outage_schedule.specs.declared.note.AskResult.{AskResult}
use Rattle.outage_schedule.specs.declared.note.FrameName.{FrameName}
use Rattle.outage_schedule.specs.declared.note.Note.{Note}
use Rattle.outage_schedule.specs.declared.note.Note.TheVariants as note
use Rattle.outage_schedule.specs.declared.note.NoteRun.{NoteRun}
use Rattle.server_model.specs.meaning.Items.{Connected, Began, Called, Item, Did, asked_of}
use Rattle.server_model.specs.meaning.Outcomes.{Says}
use Rattle.server_model.specs.Runs.{Happened, Asked}
use Rattle.server_model.specs.meaning.ServiceCalls.{is_failover}
use Rattle.server_model.specs.ServiceCalls.{RunsAre}
use Rattle.service_calls.specs.Answers.{run_of}
use Rattle.world_model.specs.meaning.Crashing.{serves_last, falls, crashes}
use Rattle.world_model.specs.meaning.Judged.{front_items, things_outside, next_items}
use Rattle.world_model.specs.meaning.Machines.{Machine, next_session}
use Rattle.world_model.specs.meaning.Matching.{ServedOn, Crashed}
use Rattle.world_model.specs.ServiceDid.{ServiceDid, front_served}
use Rattle.world_model.specs.meaning.Serving.{Front, front_at, serves, outcome_frame}
use Rattle.world_model.specs.meaning.Settings.{Setting}
use Rattle.world_model.specs.meaning.Walking.{After, follow}
use Rattle.world_model.proofs.Offered.{at_event, reaches_if, mapped}
use Rattle.legal_laws.proofs.JudgedAlike.{plain_items, plain_of, asked_plain}
use Rattle.invariant_laws.proofs.Offered.{noted_kind}

-- THE ITEMS THAT IT TAKES -------------------------------------------------------------------------

served_takes : (m n : Machine) (number : ℕ) (frame : Option FrameName) (items left new : List Served) (front : Option Front) → serves m number frame items front ≡ Some (n, left)
    → front_items m front (items ++ new) ≡ front_items m front items
served_takes m n number frame items left new None e = refl
served_takes m n number frame (served ∷ items) left new (Some front) e = refl
served_takes m n number None [] left new (Some front) e = absurd (let none : ⊥ = cc in none)
served_takes m n number (Some name) [] left new (Some front) e = absurd (let none : ⊥ = cc in none)

last_takes : (m : Machine) (number after : ℕ) (items new : List Served) (front : Option Front) (so : Machine × List Served) → serves_last m number after items front ≡ Some so
    → front_items m front (items ++ new) ≡ front_items m front items
last_takes m number after items new None so e = refl
last_takes m number after (served ∷ items) new (Some front) so e = refl
last_takes m number after [] new (Some front) so e = absurd (let none : ⊥ = cc in none)

falls_takes : (m n : Machine) (number after : ℕ) (failover : Bool) (items left new : List Served) (so : After) → serves_last m number after items (front_at m.links number) ≡ so → mapped (falls failover) so ≡ Some (n, left)
    → front_items m (front_at m.links number) (items ++ new) ≡ front_items m (front_at m.links number) items
falls_takes m n number after failover items left new None is e = absurd (let none : ⊥ = cc in none)
falls_takes m n number after failover items left new (Some so) is e = last_takes m number after items new (front_at m.links number) so is

crash_takes : (m n : Machine) (number after : ℕ) (failover is_up down : Bool) (items left new : List Served)
    → (if is_up then (if down then None else crashes m number after failover items) else reaches_if down m items) ≡ Some (n, left)
    → (if is_up then front_items m (front_at m.links number) (items ++ new) else []) ≡ (if is_up then front_items m (front_at m.links number) items else [])
crash_takes m n number after failover true true items left new e = absurd (let none : ⊥ = cc in none)
crash_takes m n number after failover true false items left new e = falls_takes m n number after failover items left new (serves_last m number after items (front_at m.links number)) refl e
crash_takes m n number after failover false down items left new e = refl

pub event_takes : (setting : Setting) (m n : Machine) (event : Event) (note : Note) (items left new : List Served) → follow setting m event note items ≡ Some (n, left)
    → next_items m event note (items ++ new) ≡ next_items m event note items
event_takes setting m n (event.Serve connection) (note.Serve named frame) items left new e =
    served_takes (at_event m) n connection frame items left new (front_at m.links connection) (noted_kind setting (at_event m) n items left _ (ServedOn connection frame) e)
event_takes setting m n (event.Crash connection after pick) (note.Crash named down) items left new e =
    crash_takes (at_event m) n connection after (is_failover pick) m.server.is_up down items left new (noted_kind setting (at_event m) n items left _ (Crashed connection after (is_failover pick) down) e)
event_takes setting m n (event.Outside calls) (note.Outside None) items left new e = refl
event_takes setting m n (event.Outside calls) (note.Outside (Some ran)) items left new e = refl
event_takes setting m n (event.Ask x) (note.Ask named None) items left new e = refl
event_takes setting m n (event.Ask x) (note.Ask named (Some answer)) items left new e = refl
event_takes setting m n (event.Go client) note items left new e = refl
event_takes setting m n (event.Cut connection up down) note items left new e = refl
event_takes setting m n (event.Reap connection) note items left new e = refl
event_takes setting m n event.Up note items left new e = refl
event_takes setting m n (event.UpCrash after pick) note items left new e = refl
event_takes setting m n event.Tick note items left new e = refl
event_takes setting m n event.Drain note items left new e = refl
event_takes setting m n event note items left new e = absurd (let never : ⊥ = cc in never)

-- WHAT THE SERVICE DID ----------------------------------------------------------------------------

front_did : (m : Machine) (front : Option Front) (items : List Served) → plain_items (front_items m front items) ≡ map plain_of (front_served m.tick front items)
front_did m None items = refl
front_did m (Some front) [] = refl
front_did m (Some front) (served ∷ items) = refl

crash_did : (m : Machine) (is_up : Bool) (front : Option Front) (items : List Served) → plain_items (if is_up then front_items m front items else []) ≡ map plain_of (if is_up then front_served m.tick front items else [])
crash_did m true front items = front_did m front items
crash_did m false front items = refl

-- calls that were run outside
calls_did : (event now : ℕ) (session : SessionId) (calls : List Call) (runs : List NoteRun) (happened : List Happened) → RunsAre session now calls (map run_of runs) happened
    → plain_items (map (Did event now session) (things_outside calls runs)) ≡ map plain_of happened
calls_did event now session [] [] happened are = ap (map plain_of) (sym are)
calls_did event now session [] (run ∷ runs) happened are = absurd are
calls_did event now session (call ∷ calls) [] happened are = ap (map plain_of) (sym are)
calls_did event now session (call ∷ calls) (run ∷ runs) happened (x, more, (is, are)) =
    ap (λ (items : List Item). Did 0 now session (Called false [] call run.answers run.draws) ∷ items) (calls_did event now session calls runs more are) ∙ ap (map plain_of) (sym is)

answer_did : (event : ℕ) (x : _) (answer : AskResult) → plain_items (asked_of event x (Says (outcome_frame answer)) ∷ []) ≡ plain_of (Asked x (Says (outcome_frame answer))) ∷ []
answer_did event x answer = ap (λ (item : Item). item ∷ []) (asked_plain event x (Says (outcome_frame answer)))

pub event_did : (m : Machine) (event : Event) (note : Note) (items : List Served) (happened : List Happened) → ServiceDid m event note items happened → plain_items (next_items m event note items) ≡ map plain_of happened
event_did m (event.Serve connection) note items happened did = front_did (at_event m) (front_at m.links connection) items ∙ ap (map plain_of) (sym did)
event_did m (event.Crash connection after pick) note items happened did = crash_did (at_event m) m.server.is_up (front_at m.links connection) items ∙ ap (map plain_of) (sym did)
event_did m (event.Outside calls) (note.Outside (Some ran)) items happened (runs, (is, are)) =
    ap (λ (more : List Item). Did 0 m.tick (next_session m.server) Connected ∷ Did 0 m.tick (next_session m.server) (Began []) ∷ more) (calls_did (m.event + 1) m.tick (next_session m.server) calls ran.runs runs are)
    ∙ ap (map plain_of) (sym is)
event_did m (event.Ask x) (note.Ask named (Some answer)) items happened did = answer_did (m.event + 1) x answer ∙ ap (map plain_of) (sym did)
event_did m event note items happened did = ap (map plain_of) (sym did)
