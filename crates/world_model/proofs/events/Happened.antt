-- Where the machine follows an event, it does what its kind says.
use Rattle.std.proofs.Common.{◌≡◌, refl, ap, subst, ◌∙◌, Bool, true, false, ℕ, ◌+◌, ◌&&◌, List, [], ◌∷◌, Option, Some, None, if◌then◌else◌}
use Rattle.std.specs.Prelude.{option_and_then, not}
use Rattle.std.proofs.lemmas.Bool.{and_parts, not-true}
use Rattle.svc_values.specs.declared.entry.Ltxid.{Ltxid}
use Rattle.svc_values.specs.meaning.Same.{same_bool}
use Rattle.outage_schedule.specs.declared.event.Event.{Event}
use Rattle.outage_schedule.specs.declared.note.Note.{Note}
use Rattle.outage_schedule.specs.declared.note.GoNote.{GoNote}
use Rattle.outage_schedule.specs.declared.note.FrameName.{FrameName}
use Rattle.outage_schedule.specs.declared.note.Reached.{Reached}
use Rattle.outage_schedule.specs.declared.note.AskResult.{AskResult}
use Rattle.outage_schedule.specs.declared.note.OutsideNote.{OutsideNote}
use Rattle.outage_schedule.specs.declared.item.Served.{Served}
use Rattle.world_model.specs.meaning.Settings.{Setting}
use Rattle.world_model.specs.meaning.Links.{Link, changed}
use Rattle.world_model.specs.meaning.Machines.{Machine, next_session}
use Rattle.world_model.specs.meaning.Noting.{only_if, same_name, name_of}
use Rattle.world_model.specs.meaning.Matching.{Noted, Went, ServedOn, CutOff, Reaped, Crashed, Opened, OpeningStopped, Ticked, RanOutside, Asked, Drained, matched}
use Rattle.world_model.specs.meaning.Going.{follow_go}
use Rattle.world_model.specs.meaning.Serving.{Front, front_at, is_ordinary, serves, after_served, identifier}
use Rattle.world_model.specs.meaning.Cutting.{open_at, cuts, follow_cut, after_cut, follow_reap, has_orphan, reaped_link}
use Rattle.world_model.specs.meaning.Crashing.{is_stopped, is_over, serves_last, crashes, falls, after_stopped}
use Rattle.world_model.specs.meaning.Opening.{may_open, follow_up, follow_upcrash}
use Rattle.world_model.specs.meaning.Outside.{ticked, follow_outside, follow_ask, drained, follow_drain}
use Rattle.world_model.specs.meaning.Noting.{same_reached}
use Rattle.world_model.specs.meaning.Cutting.{reached_of}
use Rattle.svc_values.specs.meaning.Identifiers.{same_ltxid}
use Rattle.world_model.specs.meaning.Walking.{After, leaving, by_kind, follow}
use Rattle.world_model.proofs.events.Items.{reaches, reaches_if, mapped}
use Rattle.world_model.proofs.events.Kept.{only_is, pair_is, reached_is}
use Rattle.world_model.proofs.events.Moves.{only_met, Goes, ServesLast, LastNone, LastStopped, LastServed, Happens, Nothing, IsStep, Serves, Cuts, Reaps, Crashes, OpensUp, StopsOpening, Ticks, RunsOutside, Asks, Drains}
use Rattle.world_model.proofs.events.Resting.{goes_of, going_by}

-- A STEP OF A CLIENT ------------------------------------------------------------------------------

go_goes : (setting : Setting) (m : Machine) (number : ℕ) (did : GoNote) (n : Machine) → follow_go setting m number did ≡ Some n → Goes setting m number n
go_goes setting m number did n e = goes_of setting m number n (going_by setting m number did n e)

-- SERVE AND CRASH ---------------------------------------------------------------------------------

-- the items that are left, or else these
abbrev pub left_or : List Served → After → List Served
left_or items None = items
left_or items (Some next) = next.1

pair_left : (test : Bool) (a n : Machine) (items left : List Served) → reaches_if test a items ≡ Some (n, left) → items ≡ left
pair_left true a n items left e = ap (left_or items) e
pair_left false a n items left e = absurd (let none : ⊥ = cc in none)

pair_met : (test : Bool) (a n : Machine) (items left : List Served) → reaches_if test a items ≡ Some (n, left) → test ≡ true
pair_met true a n items left e = refl
pair_met false a n items left e = absurd (let none : ⊥ = cc in none)

serves_happens : (setting : Setting) (m : Machine) (number : ℕ) (frame : Option FrameName) (items left : List Served) (front : Option Front) → front_at m.links number ≡ front → (n : Machine)
    → serves m number frame items front ≡ Some (n, left) → Happens setting m items left (ServedOn number frame) n
serves_happens setting m number None items left None is n e = subst (Happens setting m items left (ServedOn number None)) (reached_is m n items left e) (Nothing (ServedOn number None) refl)
serves_happens setting m number None items left (Some front) is n e = absurd (let none : ⊥ = cc in none)
serves_happens setting m number (Some name) [] left None is n e = absurd (let none : ⊥ = cc in none)
serves_happens setting m number (Some name) (served ∷ items) left None is n e = absurd (let none : ⊥ = cc in none)
serves_happens setting m number (Some name) [] left (Some front) is n e = absurd (let none : ⊥ = cc in none)
serves_happens setting m number (Some name) (served ∷ items) left (Some front) is n e =
    let same : Bool = same_name name (name_of front.first.frame) in
    let ordinary : Bool = is_ordinary m front served in
    subst (Happens setting m (served ∷ items) left (ServedOn number (Some name))) (pair_is (same && ordinary) (after_served m number front served) n items left e)
    (Serves number (Some name) front served is (and_parts same ordinary (pair_met (same && ordinary) (after_served m number front served) n items left e)).1 (ap (λ later. served ∷ later) (pair_left (same && ordinary) (after_served m number front served) n items left e)))

stops_last : (m : Machine) (number after : ℕ) (front : Front) (served : Served) (items left : List Served) (stopped over : Bool) → front_at m.links number ≡ Some front
    → is_stopped m after front served ≡ stopped → is_over m after front served ≡ over → (n : Machine)
    → (if stopped then reaches (after_stopped m number front served) items else reaches_if over (after_served m number front served) items) ≡ Some (n, left)
    → ServesLast m number after (served ∷ items) left n
stops_last m number after front served items left true over is stopped_is over_is n e =
    subst (ServesLast m number after (served ∷ items) left) (reached_is (after_stopped m number front served) n items left e)
    (LastStopped front served is stopped_is (ap (λ later. served ∷ later) (ap (left_or items) e)))
stops_last m number after front served items left false over is stopped_is over_is n e =
    subst (ServesLast m number after (served ∷ items) left) (pair_is over (after_served m number front served) n items left e)
    (LastServed front served is (over_is ∙ pair_met over (after_served m number front served) n items left e) (ap (λ later. served ∷ later) (pair_left over (after_served m number front served) n items left e)))

serves_last_is : (m : Machine) (number after : ℕ) (items left : List Served) (front : Option Front) → front_at m.links number ≡ front → (n : Machine)
    → serves_last m number after items front ≡ Some (n, left) → ServesLast m number after items left n
serves_last_is m number after items left None is n e = subst (ServesLast m number after items left) (reached_is m n items left e) (LastNone (ap (left_or items) e))
serves_last_is m number after [] left (Some front) is n e = absurd (let none : ⊥ = cc in none)
serves_last_is m number after (served ∷ items) left (Some front) is n e =
    stops_last m number after front served items left (is_stopped m after front served) (is_over m after front served) is refl refl n e

falls_happens : (setting : Setting) (m : Machine) (number after : ℕ) (failover down : Bool) (items left : List Served) → m.server.is_up ≡ true
    → (so : After) → ((a : Machine) (rest : List Served) → so ≡ Some (a, rest) → ServesLast m number after items rest a)
    → (n : Machine) → mapped (falls failover) so ≡ Some (n, left) → Happens setting m items left (Crashed number after failover down) n
falls_happens setting m number after failover down items left up None last n e = absurd (let none : ⊥ = cc in none)
falls_happens setting m number after failover down items left up (Some (a, rest)) last n e =
    let same : rest ≡ left = ap (left_or rest) e in
    let now : ServesLast m number after items left a = subst (λ (l : List Served). ServesLast m number after items l a) same (last a rest refl) in
    subst (Happens setting m items left (Crashed number after failover down)) (reached_is (falls failover a) n rest left e) (Crashes number after failover down a up now)

crash_happens : (setting : Setting) (m : Machine) (number after : ℕ) (failover is_up down : Bool) (items left : List Served) → m.server.is_up ≡ is_up → (n : Machine)
    → (if is_up then (if down then None else crashes m number after failover items) else reaches_if down m items) ≡ Some (n, left)
    → Happens setting m items left (Crashed number after failover down) n
crash_happens setting m number after failover true true items left up n e = absurd (let none : ⊥ = cc in none)
crash_happens setting m number after failover true false items left up n e =
    falls_happens setting m number after failover false items left up (serves_last m number after items (front_at m.links number))
    (λ a rest is. serves_last_is m number after items rest (front_at m.links number) refl a is) n e
crash_happens setting m number after failover false down items left up n e =
    subst (Happens setting m items left (Crashed number after failover down)) (pair_is down m n items left e) (Nothing (Crashed number after failover down) refl)

-- OTHERS ------------------------------------------------------------------------------------------

-- a state alone is reached
pub leaves : (next : Option Machine) (n : Machine) (items left : List Served) → leaving items next ≡ Some (n, left) → next ≡ Some n
leaves None n items left e = absurd (let none : ⊥ = cc in none)
leaves (Some a) n items left e = ap Some (reached_is a n items left e)

-- by the test, with the state that is reached
tested : (setting : Setting) (m : Machine) (items left : List Served) (happened : Noted) (test : Bool) (a n : Machine) → (test ≡ true → Happens setting m items left happened a) → only_if test a ≡ Some n
    → Happens setting m items left happened n
tested setting m items left happened test a n does e = subst (Happens setting m items left happened) (only_is test a n e) (does (only_met test a n e))

cuts_happens : (setting : Setting) (m : Machine) (items left : List Served) (number up down : ℕ) (reached : Option Reached) (link : Option Link) → open_at m.links number ≡ link → (n : Machine)
    → cuts m number up down reached link ≡ Some n → Happens setting m items left (CutOff number up down reached) n
cuts_happens setting m items left number up down None None is n e = let same : m ≡ n = cc in subst (Happens setting m items left (CutOff number up down None)) same (Nothing (CutOff number up down None) refl)
cuts_happens setting m items left number up down None (Some link) is n e = absurd (let none : ⊥ = cc in none)
cuts_happens setting m items left number up down (Some reached) None is n e = absurd (let none : ⊥ = cc in none)
cuts_happens setting m items left number up down (Some reached) (Some link) is n e =
    tested setting m items left _ (same_reached reached (reached_of link up down)) (after_cut m number up down link) n (λ met. Cuts number up down (Some reached) link is) e

same_true : (a b : Bool) → a ≡ true → same_bool a b ≡ true → b ≡ true
same_true true true is e = refl
same_true true false is e = absurd (let none : ⊥ = cc in none)
same_true false b is e = absurd (let none : ⊥ = cc in none)

reaps_happens : (setting : Setting) (m : Machine) (items left : List Served) (number : ℕ) (reaped : Bool) → same_bool reaped (has_orphan m.links number) ≡ true
    → Happens setting m items left (Reaped number reaped) (if reaped then record m { links = changed reaped_link m.links number } else m)
reaps_happens setting m items left number true met = Reaps number true (same_true true (has_orphan m.links number) refl met)
reaps_happens setting m items left number false met = Nothing (Reaped number false) refl

up_happens : (setting : Setting) (m : Machine) (items left : List Served) (incarnation : Option ℕ) (n : Machine) → follow_up m incarnation ≡ Some n → Happens setting m items left (Opened incarnation) n
up_happens setting m items left None n e = tested setting m items left (Opened None) m.server.is_up m n (λ met. Nothing (Opened None) refl) e
up_happens setting m items left (Some incarnation) n e =
    tested setting m items left (Opened (Some incarnation)) (not m.server.is_up && may_open m.server incarnation) _ n
    (λ met. let parts = and_parts (not m.server.is_up) (may_open m.server incarnation) met in OpensUp incarnation (not-true m.server.is_up parts.0) parts.1) e

upcrash_happens : (setting : Setting) (m : Machine) (items left : List Served) (made : Bool) → same_bool made (not m.server.is_up) ≡ true
    → Happens setting m items left (OpeningStopped made) (if made then record m { server = record m.server { stopped = m.server.stopped + 1 } } else m)
upcrash_happens setting m items left true met = StopsOpening true (not-true m.server.is_up (same_true true (not m.server.is_up) refl met))
upcrash_happens setting m items left false met = Nothing (OpeningStopped false) refl

outside_happens : (setting : Setting) (m : Machine) (items left : List Served) (ran : Option OutsideNote) (n : Machine) → follow_outside m ran ≡ Some n → Happens setting m items left (RanOutside ran) n
outside_happens setting m items left None n e = tested setting m items left (RanOutside None) (not m.server.is_up) m n (λ met. Nothing (RanOutside None) refl) e
outside_happens setting m items left (Some ran) n e =
    tested setting m items left (RanOutside (Some ran)) (m.server.is_up && same_ltxid ran.ltxid (identifier (next_session m.server) 0)) _ n
    (λ met. RunsOutside ran (and_parts m.server.is_up (same_ltxid ran.ltxid (identifier (next_session m.server) 0)) met).0) e

ask_happens : (setting : Setting) (m : Machine) (items left : List Served) (ltxid : Ltxid) (told : Option AskResult) (n : Machine) → follow_ask m ltxid told ≡ Some n → Happens setting m items left (Asked ltxid told) n
ask_happens setting m items left ltxid None n e = tested setting m items left (Asked ltxid None) (not m.server.is_up) m n (λ met. Nothing (Asked ltxid None) refl) e
ask_happens setting m items left ltxid (Some result) n e = tested setting m items left (Asked ltxid (Some result)) m.server.is_up _ n (λ met. Asks ltxid result met) e

-- What happens in an event that the machine follows.
pub kind_happens : (setting : Setting) (m : Machine) (items left : List Served) (happened : Noted) (n : Machine) → by_kind setting m items happened ≡ Some (n, left) → Happens setting m items left happened n
kind_happens setting m items left (Went number did) n e = IsStep number did n (go_goes setting m number did n (leaves (follow_go setting m number did) n items left e))
kind_happens setting m items left (ServedOn number frame) n e = serves_happens setting m number frame items left (front_at m.links number) refl n e
kind_happens setting m items left (CutOff number up down reached) n e =
    cuts_happens setting m items left number up down reached (open_at m.links number) refl n (leaves (follow_cut m number up down reached) n items left e)
kind_happens setting m items left (Reaped number reaped) n e =
    tested setting m items left (Reaped number reaped) (same_bool reaped (has_orphan m.links number)) _ n (reaps_happens setting m items left number reaped) (leaves (follow_reap m number reaped) n items left e)
kind_happens setting m items left (Crashed number after failover down) n e = crash_happens setting m number after failover m.server.is_up down items left refl n e
kind_happens setting m items left (Opened incarnation) n e = up_happens setting m items left incarnation n (leaves (follow_up m incarnation) n items left e)
kind_happens setting m items left (OpeningStopped made) n e =
    tested setting m items left (OpeningStopped made) (same_bool made (not m.server.is_up)) _ n (upcrash_happens setting m items left made) (leaves (follow_upcrash m made) n items left e)
kind_happens setting m items left Ticked n e = subst (Happens setting m items left Ticked) (reached_is (ticked m) n items left e) Ticks
kind_happens setting m items left (RanOutside ran) n e = outside_happens setting m items left ran n (leaves (follow_outside m ran) n items left e)
kind_happens setting m items left (Asked ltxid told) n e = ask_happens setting m items left ltxid told n (leaves (follow_ask m ltxid told) n items left e)
kind_happens setting m items left (Drained closed) n e = tested setting m items left (Drained closed) _ (drained m) n (λ met. Drains closed) (leaves (follow_drain m closed) n items left e)

-- the machine at the event's number
abbrev pub at_event : Machine → Machine
at_event m = record m { event = m.event + 1 }

-- An event that the machine follows is of some kind, and that happens.
pub record Followed (setting : Setting) (m : Machine) (event : Event) (note : Note) (items left : List Served) (n : Machine) : Type 0 where
  pub kind : Noted
  pub is_kind : matched event note ≡ Some kind
  pub happens : Happens setting (at_event m) items left kind n

by_matched : (setting : Setting) (m : Machine) (event : Event) (note : Note) (items left : List Served) (kind : Option Noted) → matched event note ≡ kind → (n : Machine)
    → option_and_then (by_kind setting (at_event m) items) kind ≡ Some (n, left) → Followed setting m event note items left n
by_matched setting m event note items left None is n e = absurd (let none : ⊥ = cc in none)
by_matched setting m event note items left (Some kind) is n e = record { kind = kind; is_kind = is; happens = kind_happens setting (at_event m) items left kind n e }

pub follow_happens : (setting : Setting) (m : Machine) (event : Event) (note : Note) (items left : List Served) (n : Machine) → follow setting m event note items ≡ Some (n, left)
    → Followed setting m event note items left n
follow_happens setting m event note items left n e = by_matched setting m event note items left (matched event note) refl n e
