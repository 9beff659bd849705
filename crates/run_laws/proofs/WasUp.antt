-- A server that is up behind an event was up before it, or the event opened it, with the
-- incarnation that its note tells.
use Rattle.std.proofs.Common.{◌≡◌, sym, ap, ◌∙◌, refl, Bool, true, false, ℕ, List, Some, None}
use Rattle.std.specs.Prelude.{◌+◌, ◌&&◌, not}
use Rattle.svc_values.specs.meaning.Same.{same_bool}
use Rattle.outage_schedule.specs.declared.event.Event.{Event}
use Rattle.outage_schedule.specs.declared.event.Event.TheVariants as event
use Rattle.outage_schedule.specs.declared.note.Note.{Note}
use Rattle.outage_schedule.specs.declared.note.Note.TheVariants as note
use Rattle.outage_schedule.specs.declared.item.Served.{Served}
use Rattle.run_clauses.specs.meaning.Horizons.{incarnation_after}
use Rattle.world_model.specs.meaning.Settings.{Setting}
use Rattle.world_model.specs.meaning.Machines.{Machine}
use Rattle.world_model.specs.meaning.Matching.{Noted, Opened, matched}
use Rattle.world_model.specs.meaning.Opening.{follow_up, follow_upcrash, may_open, opened}
use Rattle.world_model.specs.meaning.Walking.{follow}
use Rattle.world_model.proofs.Offered.{up_of, served_up, Followed, follow_happens, leaves, at_event, only_is, Happens, Nothing, IsStep, Serves, Cuts, Reaps, Crashes, OpensUp, StopsOpening, Ticks, RunsOutside, MovesAsks as Asks, Drains, only_met, ServersStands as Stands, ServersAsBefore as AsBefore, Fell, Opened as OpenedThen, goes_same, happens_stands}

-- the note of an opening
abbrev pub is_opening : Note → Bool
is_opening (note.Up (Some incarnation)) = true
is_opening _ = false

never_opens : (event : Event) (note : Note) → is_opening note ≡ false → (incarnation : ℕ) → matched event note ≡ Some (Opened (Some incarnation)) → ⊥
never_opens event.Up (note.Up (Some other)) quiet incarnation is = cc
never_opens event.Up (note.Up None) quiet incarnation is = cc
never_opens (event.Go client) (note.Go named did) quiet incarnation is = let same = only_is _ _ _ is in cc
never_opens (event.Serve connection) (note.Serve named frame) quiet incarnation is = let same = only_is _ _ _ is in cc
never_opens (event.Cut connection ups downs) (note.Cut named reached) quiet incarnation is = let same = only_is _ _ _ is in cc
never_opens (event.Reap connection) (note.Reap named reaped) quiet incarnation is = let same = only_is _ _ _ is in cc
never_opens (event.Crash connection after pick) (note.Crash named down) quiet incarnation is = let same = only_is _ _ _ is in cc
never_opens (event.UpCrash after pick) (note.UpCrash made) quiet incarnation is = cc
never_opens event.Tick note.Tick quiet incarnation is = cc
never_opens (event.Outside calls) (note.Outside ran) quiet incarnation is = cc
never_opens (event.Ask ltxid) (note.Ask named told) quiet incarnation is = let same = only_is _ _ _ is in cc
never_opens event.Drain (note.Drain closed) quiet incarnation is = cc
never_opens event note quiet incarnation is = cc

happens_up : (setting : Setting) (m : Machine) (items left : List Served) (kind : Noted) (n : Machine) → Happens setting m items left kind n → ((incarnation : ℕ) → kind ≡ Opened (Some incarnation) → ⊥) → n.server.is_up ≡ true → m.server.is_up ≡ true
happens_up setting m items left kind _ (Nothing happened other) never up = up
happens_up setting m items left _ _ (IsStep number did n moves) never up = sym (ap up_of (goes_same setting m number n moves).server) ∙ up
happens_up setting m items left _ _ (Serves number frame front served is ordinary same) never up = sym (served_up m.server served.item) ∙ up
happens_up setting m items left _ _ (Cuts number one other reached link is) never up = up
happens_up setting m items left _ _ (Reaps number reaped orphan) never up = up
happens_up setting m items left _ _ (Crashes number after failover down a runs last) never up = runs
happens_up setting m items left _ _ (OpensUp incarnation down may) never up = absurd (never incarnation refl)
happens_up setting m items left _ _ (StopsOpening made down) never up = up
happens_up setting m items left _ _ Ticks never up = up
happens_up setting m items left _ _ (RunsOutside ran runs) never up = up
happens_up setting m items left _ _ (Asks ltxid result runs) never up = runs
happens_up setting m items left _ _ (Drains closed) never up = up

pub was_up : (setting : Setting) (m n : Machine) (event : Event) (note : Note) (items left : List Served) → follow setting m event note items ≡ Some (n, left) → is_opening note ≡ false → n.server.is_up ≡ true → m.server.is_up ≡ true
was_up setting m n event note items left is quiet up =
    let by : Followed setting m event note items left n = follow_happens setting m event note items left n is in
    happens_up setting (at_event m) items left by.kind n by.happens (λ incarnation same. never_opens event note quiet incarnation (by.is_kind ∙ ap Some same)) up

-- behind an opening that was stopped it is down
pub stopped_down : (setting : Setting) (m n : Machine) (event : Event) (items left : List Served) → follow setting m event (note.UpCrash true) items ≡ Some (n, left) → n.server.is_up ≡ false
stopped_down setting m n (event.UpCrash after pick) items left is = ap (λ (a : Machine). a.server.is_up) (sym same) ∙ down m.server.is_up met
  where
    stops : follow_upcrash (at_event m) true ≡ Some n
    stops = leaves (follow_upcrash (at_event m) true) n items left is

    same : record (at_event m) { server = record m.server { stopped = m.server.stopped + 1 } } ≡ n
    same = only_is (same_bool true (not m.server.is_up)) (record (at_event m) { server = record m.server { stopped = m.server.stopped + 1 } }) n stops

    met : same_bool true (not m.server.is_up) ≡ true
    met = only_met (same_bool true (not m.server.is_up)) (record (at_event m) { server = record m.server { stopped = m.server.stopped + 1 } }) n stops

    down : (up : Bool) → same_bool true (not up) ≡ true → up ≡ false
    down true met = absurd (let never : ⊥ = cc in never)
    down false met = refl
stopped_down setting m n event items left is = absurd (let never : ⊥ = cc in never)

-- THE INCARNATION ---------------------------------------------------------------------------------

opened_as : (setting : Setting) (m n : Machine) (event : Event) (incarnation : ℕ) (items left : List Served) → follow setting m event (note.Up (Some incarnation)) items ≡ Some (n, left) → n.server.incarnation ≡ incarnation
opened_as setting m n event.Up incarnation items left is = ap (λ (a : Machine). a.server.incarnation) (sym same)
  where
    opens : follow_up (at_event m) (Some incarnation) ≡ Some n
    opens = leaves (follow_up (at_event m) (Some incarnation)) n items left is

    same : record (at_event m) { server = opened m.server incarnation } ≡ n
    same = only_is (not m.server.is_up && may_open m.server incarnation) (record (at_event m) { server = opened m.server incarnation }) n opens
opened_as setting m n event incarnation items left is = absurd (let never : ⊥ = cc in never)

-- no other event changes it
incarnation_kept : (setting : Setting) (m n : Machine) (event : Event) (note : Note) (items left : List Served) → follow setting m event note items ≡ Some (n, left) → is_opening note ≡ false → n.server.incarnation ≡ m.server.incarnation
incarnation_kept setting m n event note items left is quiet = by (happens_stands setting (at_event m) items left followed.kind n followed.happens)
  where
    followed : Followed setting m event note items left n
    followed = follow_happens setting m event note items left n is

    by : Stands (at_event m) n → n.server.incarnation ≡ m.server.incarnation
    by (AsBefore same) = same.incarnation
    by (Fell links same down kept) = kept
    by (OpenedThen same down up later fresh) = absurd (let clash : true ≡ false = sym (was_up setting m n event note items left is quiet up) ∙ down in let none : ⊥ = cc in none)

pub incarnation_noted : (setting : Setting) (m n : Machine) (event : Event) (note : Note) (items left : List Served) → follow setting m event note items ≡ Some (n, left) → n.server.incarnation ≡ incarnation_after m.server.incarnation note
incarnation_noted setting m n event (note.Up (Some incarnation)) items left is = opened_as setting m n event incarnation items left is
incarnation_noted setting m n event (note.Up None) items left is = incarnation_kept setting m n event (note.Up None) items left is refl
incarnation_noted setting m n event note items left is = incarnation_kept setting m n event note items left is refl
