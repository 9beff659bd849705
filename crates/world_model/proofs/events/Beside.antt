-- What an event leaves: no event but a step of a client changes a client, none turns the clock
-- back, and each is one event, with one opening at most.
use Rattle.std.proofs.Common.{◌≡◌, refl, sym, ap, ◌∙◌, arith, ℕ, ◌+◌, ◌≤◌, ◌&&◌, Bool, true, false, List, ◌∷◌, Some, if◌then◌else◌}
use Rattle.std.specs.Prelude.{not, nat_le}
use Rattle.std.proofs.lemmas.Bool.{and_parts}
use Rattle.svc_values.specs.declared.entry.Ltxid.{Ltxid}
use Rattle.outage_schedule.specs.declared.event.Event.{Event}
use Rattle.outage_schedule.specs.declared.event.Event.TheVariants as event
use Rattle.outage_schedule.specs.declared.note.Note.{Note}
use Rattle.outage_schedule.specs.declared.note.Note.TheVariants as note
use Rattle.outage_schedule.specs.declared.note.GoNote.{GoNote}
use Rattle.outage_schedule.specs.declared.note.AskResult.{AskResult}
use Rattle.outage_schedule.specs.declared.item.Item.{Item}
use Rattle.outage_schedule.specs.declared.item.Item.TheVariants as item
use Rattle.outage_schedule.specs.declared.item.Served.{Served}
use Rattle.run_clauses.specs.meaning.Outcomes.{is_uncommitted}
use Rattle.world_model.specs.meaning.Machines.{Server, Machine}
use Rattle.world_model.specs.meaning.Matching.{Noted, Went, matched}
use Rattle.world_model.specs.Matching.{is_go}
use Rattle.world_model.specs.meaning.Noting.{only_if}
use Rattle.world_model.specs.meaning.Settings.{Setting}
use Rattle.world_model.specs.meaning.Serving.{server_after}
use Rattle.world_model.specs.meaning.Crashing.{with_doubt, falls}
use Rattle.world_model.specs.meaning.Opening.{may_open, opened, follow_up}
use Rattle.world_model.specs.meaning.Outside.{after_asked}
use Rattle.world_model.specs.meaning.Walking.{follow}
use Rattle.world_model.proofs.events.Kept.{only_is}
use Rattle.world_model.proofs.basic.Servers.{goes_same, event_kept}
use Rattle.world_model.proofs.events.Tests.{le_from}
use Rattle.world_model.proofs.events.Happened.{Followed, follow_happens, leaves, at_event}
use Rattle.world_model.proofs.events.Moves.{ServesLast, LastNone, LastStopped, LastServed, Happens, Nothing, IsStep, Serves, Cuts, Reaps, Crashes, OpensUp, StopsOpening, Ticks, RunsOutside, Asks, Drains}

-- these are the clients, and it is no earlier
abbrev pub Rest : Machine → Machine → Type 0
Rest m n = (n.clients ≡ m.clients) × (m.tick ≤ n.tick)

last_rest : (m : Machine) (number after : ℕ) (items left : List Served) (a : Machine) → ServesLast m number after items left a → Rest m a
last_rest m number after items left _ (LastNone same) = (refl, omega arith)
last_rest m number after items left _ (LastStopped front served at stopped same) = (refl, omega arith)
last_rest m number after items left _ (LastServed front served at over same) = (refl, omega arith)

happens_rest : (setting : Setting) (m : Machine) (items left : List Served) (kind : Noted) (n : Machine) → Happens setting m items left kind n → ((number : ℕ) (did : GoNote) → kind ≡ Went number did → ⊥) → Rest m n
happens_rest setting m items left _ _ (Nothing kind none) other = (refl, omega arith)
happens_rest setting m items left _ _ (IsStep number did n goes) other = absurd (other number did refl)
happens_rest setting m items left _ _ (Serves number frame front served at ordinary same) other = (refl, omega arith)
happens_rest setting m items left _ _ (Cuts number ups downs reached link opens) other = (refl, omega arith)
happens_rest setting m items left _ _ (Reaps number reaped orphan) other = (refl, omega arith)
happens_rest setting m items left _ _ (Crashes number after failover down a up last) other = last_rest m number after items left a last
happens_rest setting m items left _ _ (OpensUp incarnation down may) other = (refl, omega arith)
happens_rest setting m items left _ _ (StopsOpening made down) other = (refl, omega arith)
happens_rest setting m items left _ _ Ticks other = (refl, omega arith)
happens_rest setting m items left _ _ (RunsOutside ran up) other = (refl, omega arith)
happens_rest setting m items left _ _ (Asks x result up) other = (refl, omega arith)
happens_rest setting m items left _ _ (Drains closed) other = (refl, omega arith)

only_same : (b : Bool) (x y : Noted) → only_if b x ≡ Some y → x ≡ y
only_same true x y is = cc
only_same false x y is = absurd (let never : ⊥ = cc in never)

never_went : (event : Event) (note : Note) → is_go event ≡ false → (number : ℕ) (did : GoNote) → matched event note ≡ Some (Went number did) → ⊥
never_went (event.Serve connection) (note.Serve named frame) other number did is = let same = only_same _ _ _ is in cc
never_went (event.Cut connection ups downs) (note.Cut named reached) other number did is = let same = only_same _ _ _ is in cc
never_went (event.Reap connection) (note.Reap named reaped) other number did is = let same = only_same _ _ _ is in cc
never_went (event.Crash connection after pick) (note.Crash named down) other number did is = let same = only_same _ _ _ is in cc
never_went event.Up (note.Up incarnation) other number did is = cc
never_went (event.UpCrash after pick) (note.UpCrash made) other number did is = cc
never_went event.Tick note.Tick other number did is = cc
never_went (event.Outside calls) (note.Outside ran) other number did is = cc
never_went (event.Ask ltxid) (note.Ask named told) other number did is = let same = only_same _ _ _ is in cc
never_went event.Drain (note.Drain closed) other number did is = cc
never_went event note other number did is = cc

pub others_rest : (setting : Setting) (m n : Machine) (event : Event) (note : Note) (items left : List Served) → is_go event ≡ false → follow setting m event note items ≡ Some (n, left) → Rest m n
others_rest setting m n event note items left other is =
    let by : Followed setting m event note items left n = follow_happens setting m event note items left n is in
    happens_rest setting (at_event m) items left by.kind n by.happens (λ number did same. never_went event note other number did (by.is_kind ∙ ap Some same))

-- OPENINGS ----------------------------------------------------------------------------------------

-- the last incarnation that the store may have
abbrev pub last_incarnation : Server → ℕ
last_incarnation server = server.incarnation + server.stopped

served_last : (server : Server) (one : Item) → last_incarnation (server_after server one) ≡ last_incarnation server
served_last server (item.Outcome asked result) = by (is_uncommitted result)
  where
    by : (told : Bool) → last_incarnation (if told then record server { blocked = asked ∷ server.blocked } else server) ≡ last_incarnation server
    by true = refl
    by false = refl
served_last server one = refl

doubted_last : (server : Server) (one : Item) → last_incarnation (with_doubt server one) ≡ last_incarnation server
doubted_last server (item.CrashedOutcome asked) = refl
doubted_last server one = refl

asked_last : (server : Server) (ltxid : Ltxid) (result : AskResult) → last_incarnation (after_asked server ltxid result) ≡ last_incarnation server
asked_last server ltxid result = by (is_uncommitted result)
  where
    by : (told : Bool) → last_incarnation (if told then record server { blocked = ltxid ∷ server.blocked } else server) ≡ last_incarnation server
    by true = refl
    by false = refl

crashed_last : (m : Machine) (number after : ℕ) (failover : Bool) (items left : List Served) (a : Machine) → ServesLast m number after items left a → last_incarnation (falls failover a).server ≡ last_incarnation m.server
crashed_last m number after failover items left _ (LastNone same) = refl
crashed_last m number after failover items left _ (LastStopped front served is stopped same) = doubted_last m.server served.item
crashed_last m number after failover items left _ (LastServed front served is over same) = served_last m.server served.item

happens_last : (setting : Setting) (m : Machine) (items left : List Served) (kind : Noted) (n : Machine) → Happens setting m items left kind n → last_incarnation n.server ≤ last_incarnation m.server + 1
happens_last setting m items left _ _ (Nothing kind none) = omega arith
happens_last setting m items left _ _ (IsStep number did n goes) = let same : last_incarnation n.server ≡ last_incarnation m.server = ap last_incarnation (goes_same setting m number n goes).server in omega (arith, same)
happens_last setting m items left _ _ (Serves number frame front served at ordinary same) = let kept = served_last m.server served.item in omega (arith, kept)
happens_last setting m items left _ _ (Cuts number ups downs reached link opens) = omega arith
happens_last setting m items left _ _ (Reaps number reaped orphan) = omega arith
happens_last setting m items left _ _ (Crashes number after failover down a up last) = let kept = crashed_last m number after failover items left a last in omega (arith, kept)
happens_last setting m items left _ _ (OpensUp incarnation down may) =
    let most = le_from incarnation (m.server.incarnation + 1 + m.server.stopped) (and_parts (nat_le (m.server.incarnation + 1) incarnation) (nat_le incarnation (m.server.incarnation + 1 + m.server.stopped)) may).1 in
    omega (arith, most)
happens_last setting m items left _ _ (StopsOpening made down) = omega arith
happens_last setting m items left _ _ Ticks = omega arith
happens_last setting m items left _ _ (RunsOutside ran up) = omega arith
happens_last setting m items left _ _ (Asks x result up) = let kept = asked_last m.server x result in omega (arith, kept)
happens_last setting m items left _ _ (Drains closed) = omega arith

-- it is one event more, and one opening more at most
pub opens_once : (setting : Setting) (m n : Machine) (event : Event) (note : Note) (items left : List Served) → follow setting m event note items ≡ Some (n, left) → (n.event ≡ m.event + 1) × (last_incarnation n.server ≤ last_incarnation m.server + 1)
opens_once setting m n event note items left is =
    let by : Followed setting m event note items left n = follow_happens setting m event note items left n is in
    (event_kept setting (at_event m) items left by.kind n by.happens, happens_last setting (at_event m) items left by.kind n by.happens)

-- an opening that is noted opened the server, with this incarnation
pub opens_noted : (setting : Setting) (m n : Machine) (event : Event) (incarnation : ℕ) (items left : List Served) → follow setting m event (note.Up (Some incarnation)) items ≡ Some (n, left) → (n.server.is_up ≡ true) × (n.server.incarnation ≡ incarnation)
opens_noted setting m n event.Up incarnation items left is =
    let same : record (at_event m) { server = opened m.server incarnation } ≡ n =
    only_is (not m.server.is_up && may_open m.server incarnation) (record (at_event m) { server = opened m.server incarnation }) n (leaves (follow_up (at_event m) (Some incarnation)) n items left is) in
    (ap (λ (a : Machine). a.server.is_up) (sym same), ap (λ (a : Machine). a.server.incarnation) (sym same))
opens_noted setting m n event incarnation items left is = absurd (let never : ⊥ = cc in never)

-- THE CLOCK ---------------------------------------------------------------------------------------

last_ticks : (m : Machine) (number after : ℕ) (items left : List Served) (a : Machine) → ServesLast m number after items left a → a.tick ≤ m.tick + 1
last_ticks m number after items left _ (LastNone same) = omega arith
last_ticks m number after items left _ (LastStopped front served at stopped same) = omega arith
last_ticks m number after items left _ (LastServed front served at over same) = omega arith

happens_ticks : (setting : Setting) (m : Machine) (items left : List Served) (kind : Noted) (n : Machine) → Happens setting m items left kind n → n.tick ≤ m.tick + 1
happens_ticks setting m items left _ _ (Nothing kind none) = omega arith
happens_ticks setting m items left _ _ (IsStep number did n goes) = let same : n.tick ≡ m.tick = (goes_same setting m number n goes).tick in omega arith
happens_ticks setting m items left _ _ (Serves number frame front served at ordinary same) = omega arith
happens_ticks setting m items left _ _ (Cuts number ups downs reached link opens) = omega arith
happens_ticks setting m items left _ _ (Reaps number reaped orphan) = omega arith
happens_ticks setting m items left _ _ (Crashes number after failover down a up last) = last_ticks m number after items left a last
happens_ticks setting m items left _ _ (OpensUp incarnation down may) = omega arith
happens_ticks setting m items left _ _ (StopsOpening made down) = omega arith
happens_ticks setting m items left _ _ Ticks = omega arith
happens_ticks setting m items left _ _ (RunsOutside ran up) = omega arith
happens_ticks setting m items left _ _ (Asks x result up) = omega arith
happens_ticks setting m items left _ _ (Drains closed) = omega arith

-- an event is at most a tick
pub ticks_once : (setting : Setting) (m n : Machine) (event : Event) (note : Note) (items left : List Served) → follow setting m event note items ≡ Some (n, left) → n.tick ≤ m.tick + 1
ticks_once setting m n event note items left is =
    let by : Followed setting m event note items left n = follow_happens setting m event note items left n is in
    happens_ticks setting (at_event m) items left by.kind n by.happens
