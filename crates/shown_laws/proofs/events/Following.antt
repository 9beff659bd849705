-- What the machine does at an event that it follows, by its note and its items.
use Rattle.std.proofs.Common.{◌≡◌, refl, sym, ap, subst, Bool, true, false, ℕ, ◌+◌, ◌&&◌, ◌||◌, List, [], ◌∷◌, Option, Some, None, option_map, option_and_then, if◌then◌else◌}
use Rattle.std.specs.Prelude.{◌==◌, not, nat_le}
use Rattle.std.proofs.lemmas.Bool.{and_parts}
use Rattle.svc_values.specs.declared.entry.Ltxid.{Ltxid}
use Rattle.svc_values.specs.meaning.Identifiers.{same_ltxid}
use Rattle.svc_values.specs.meaning.Same.{same_bool}
use Rattle.server_model.specs.meaning.ServiceCalls.{is_failover}
use Rattle.outage_schedule.specs.declared.event.Event.{Event}
use Rattle.outage_schedule.specs.declared.event.Event.TheVariants as event
use Rattle.outage_schedule.specs.declared.item.Served.{Served}
use Rattle.outage_schedule.specs.declared.note.AskResult.{AskResult}
use Rattle.outage_schedule.specs.declared.note.FrameName.{FrameName}
use Rattle.outage_schedule.specs.declared.note.GoNote.{GoNote}
use Rattle.outage_schedule.specs.declared.note.Note.{Note}
use Rattle.outage_schedule.specs.declared.note.Note.TheVariants as note
use Rattle.outage_schedule.specs.declared.note.OutsideNote.{OutsideNote}
use Rattle.outage_schedule.specs.declared.note.Reached.{Reached}
use Rattle.world_model.specs.meaning.Crashing.{is_stopped, is_over, has_stored, after_stopped, falls, serves_last, crashes}
use Rattle.world_model.specs.meaning.Cutting.{open_at, cuts, after_cut, reaped_link, has_orphan, reached_of, follow_cut, follow_reap}
use Rattle.world_model.specs.meaning.Going.{follow_go}
use Rattle.world_model.specs.meaning.Links.{Link, changed}
use Rattle.world_model.specs.meaning.Machines.{Server, Machine}
use Rattle.world_model.specs.meaning.Matching.{Noted, Went, ServedOn, CutOff, Reaped, Crashed, Asked, matched}
use Rattle.world_model.specs.meaning.Noting.{only_if, same_name, name_of, same_reached}
use Rattle.world_model.specs.meaning.Opening.{opened, follow_up, follow_upcrash}
use Rattle.world_model.specs.meaning.Outside.{ticked, drained, after_asked, follow_outside, follow_ask, follow_drain}
use Rattle.world_model.specs.meaning.Serving.{Front, front_at, is_ordinary, serves, after_served}
use Rattle.world_model.specs.meaning.Settings.{Setting}
use Rattle.world_model.specs.meaning.Walking.{After, leaving, by_kind, follow}
use Rattle.shown_laws.proofs.events.Lookups.{eq_from}

-- the machine at the number of its next event
abbrev pub at_event : Machine → Machine
at_event m = record m { event = m.event + 1 }

-- the note of an event that touches neither a connection nor a client nor the clock
abbrev pub is_of_server : Note → Bool
is_of_server (note.Up incarnation) = true
is_of_server (note.UpCrash made) = true
is_of_server (note.Outside ran) = true
is_of_server (note.Ask x told) = true
is_of_server _ = false

pub data Does (setting : Setting) (m : Machine) : Note → List Served → Machine → Type 0 where
  Goes : (client : ℕ) (did : GoNote) (n : Machine) → follow_go setting m client did ≡ Some n → Does setting m (note.Go client did) [] n
  ServesNone : (connection : ℕ) → Does setting m (note.Serve connection None) [] m
  Serves : (connection : ℕ) (name : FrameName) (front : Front) (served : Served) → front_at m.links connection ≡ Some front → is_ordinary m front served ≡ true
      → Does setting m (note.Serve connection (Some name)) (served ∷ []) (after_served m connection front served)
  CutsNone : (connection : ℕ) → Does setting m (note.Cut connection None) [] m
  Cuts : (connection up down : ℕ) (reached : Reached) (link : Link) → open_at m.links connection ≡ Some link → Does setting m (note.Cut connection (Some reached)) [] (after_cut m connection up down link)
  ReapsNone : (connection : ℕ) → Does setting m (note.Reap connection false) [] m
  Reaps : (connection : ℕ) → Does setting m (note.Reap connection true) [] (record m { links = changed reaped_link m.links connection })
  IsDown : (connection : ℕ) → Does setting m (note.Crash connection true) [] m
  Crashes : (connection : ℕ) (failover : Bool) → Does setting m (note.Crash connection false) [] (falls failover m)
  CrashStops : (connection after : ℕ) (failover : Bool) (front : Front) (served : Served) → front_at m.links connection ≡ Some front → is_stopped m after front served ≡ true
      → Does setting m (note.Crash connection false) (served ∷ []) (falls failover (after_stopped m connection front served))
  CrashServes : (connection : ℕ) (failover : Bool) (front : Front) (served : Served) → front_at m.links connection ≡ Some front → is_ordinary m front served ≡ true
      → Does setting m (note.Crash connection false) (served ∷ []) (falls failover (after_served m connection front served))
  Ticks : Does setting m note.Tick [] (ticked m)
  Drains : (closed : ℕ) → Does setting m (note.Drain closed) [] (drained m)
  IsServers : (one : Note) (server : Server) → is_of_server one ≡ true → Does setting m one [] (record m { server = server })

-- WHERE SOMETHING IS REACHED ----------------------------------------------------------------------

pub only_met : {A : Type 0} (test : Bool) (a b : A) → only_if test a ≡ Some b → test ≡ true
only_met true a b is = refl
only_met false a b is = absurd (let none : ⊥ = cc in none)

pub only_is : {A : Type 0} (test : Bool) (a b : A) → only_if test a ≡ Some b → a ≡ b
only_is true a b is = cc
only_is false a b is = absurd (let none : ⊥ = cc in none)

-- the machine and the items where something is reached, or else these
abbrev machine_or : Machine → After → Machine
machine_or m None = m
machine_or m (Some next) = next.0

abbrev items_or : List Served → After → List Served
items_or items None = items
items_or items (Some next) = next.1

module _ (setting : Setting) (m : Machine) where
  met : (items : List Served) (test : Bool) (kind : Noted) (n : Machine) → option_and_then (by_kind setting m items) (only_if test kind) ≡ Some (n, []) → (test ≡ true) × (by_kind setting m items kind ≡ Some (n, []))
  met items true kind n is = (refl, is)
  met items false kind n is = absurd (let none : ⊥ = cc in none)

  -- an event without items
  alone : (one : Note) (items : List Served) (next : Option Machine) (n : Machine) → leaving items next ≡ Some (n, []) → ((a : Machine) → next ≡ Some a → Does setting m one [] a) → Does setting m one items n
  alone one items None n is does = absurd (let none : ⊥ = cc in none)
  alone one items (Some a) n is does =
      subst (λ (own : List Served). Does setting m one own n) (sym (ap (items_or items) is))
      (subst (λ (b : Machine). Does setting m one [] b) (ap (machine_or a) is) (does a refl))

  to : (one : Note) (items : List Served) (a n : Machine) → Does setting m one items a → a ≡ n → Does setting m one items n
  to one items a n does same = subst (λ (b : Machine). Does setting m one items b) same does

  -- SERVING ---------------------------------------------------------------------------------------

  nothing : (one : Note) (items : List Served) (n : Machine) → ◌≡◌ {A = After} (Some (m, items)) (Some (n, [])) → Does setting m one [] m → Does setting m one items n
  nothing one items n is does = subst (λ (own : List Served). Does setting m one own n) (sym (ap (items_or items) is)) (to one [] m n does (ap (machine_or m) is))

  one_item : (one : Note) (served : Served) (items : List Served) (a n : Machine) → ◌≡◌ {A = After} (Some (a, items)) (Some (n, [])) → Does setting m one (served ∷ []) a → Does setting m one (served ∷ items) n
  one_item one served items a n is does =
      subst (λ (own : List Served). Does setting m one (served ∷ own) n) (sym (ap (items_or items) is)) (to one (served ∷ []) a n does (ap (machine_or a) is))

  only_item : (one : Note) (served : Served) (items : List Served) (test : Bool) (a n : Machine) → ◌≡◌ {A = After} (only_if test (a, items)) (Some (n, [])) → (test ≡ true → Does setting m one (served ∷ []) a) → Does setting m one (served ∷ items) n
  only_item one served items true a n is does = one_item one served items a n is (does refl)
  only_item one served items false a n is does = absurd (let none : ⊥ = cc in none)

  serve_does : (connection : ℕ) (frame : Option FrameName) (items : List Served) (front : Option Front) (n : Machine) → front_at m.links connection ≡ front → serves m connection frame items front ≡ Some (n, []) → Does setting m (note.Serve connection frame) items n
  serve_does connection None items None n at is = nothing (note.Serve connection None) items n is (ServesNone connection)
  serve_does connection None items (Some front) n at is = absurd (let none : ⊥ = cc in none)
  serve_does connection (Some name) [] None n at is = absurd (let none : ⊥ = cc in none)
  serve_does connection (Some name) (served ∷ items) None n at is = absurd (let none : ⊥ = cc in none)
  serve_does connection (Some name) [] (Some front) n at is = absurd (let none : ⊥ = cc in none)
  serve_does connection (Some name) (served ∷ items) (Some front) n at is =
      only_item (note.Serve connection (Some name)) served items (same_name name (name_of front.first.frame) && is_ordinary m front served) (after_served m connection front served) n is
      (λ met. Serves connection name front served at (and_parts (same_name name (name_of front.first.frame)) (is_ordinary m front served) met).1)

  -- CRASHES ---------------------------------------------------------------------------------------

  last_does : (connection after : ℕ) (failover : Bool) (served : Served) (items : List Served) (front : Front) (n : Machine) (stopped over : Bool) → front_at m.links connection ≡ Some front
      → is_stopped m after front served ≡ stopped → is_over m after front served ≡ over
      → ◌≡◌ {A = After} (option_map (λ (next : Machine × List Served). (falls failover next.0, next.1)) (if stopped then Some (after_stopped m connection front served, items) else only_if over (after_served m connection front served, items))) (Some (n, []))
      → Does setting m (note.Crash connection false) (served ∷ items) n
  last_does connection after failover served items front n true over at stopped_is over_is is =
      one_item (note.Crash connection false) served items (falls failover (after_stopped m connection front served)) n is (CrashStops connection after failover front served at stopped_is)
  last_does connection after failover served items front n false true at stopped_is over_is is =
      one_item (note.Crash connection false) served items (falls failover (after_served m connection front served)) n is
      (CrashServes connection failover front served at (and_parts (is_ordinary m front served) (not (has_stored m.server served.item) || nat_le m.server.per_record after) over_is).0)
  last_does connection after failover served items front n false false at stopped_is over_is is = absurd (let none : ⊥ = cc in none)

  crashes_do : (connection after : ℕ) (failover : Bool) (items : List Served) (front : Option Front) (n : Machine) → front_at m.links connection ≡ front
      → ◌≡◌ {A = After} (option_map (λ (next : Machine × List Served). (falls failover next.0, next.1)) (serves_last m connection after items front)) (Some (n, [])) → Does setting m (note.Crash connection false) items n
  crashes_do connection after failover items None n at is =
      subst (λ (own : List Served). Does setting m (note.Crash connection false) own n) (sym (ap (items_or items) is))
      (to (note.Crash connection false) [] (falls failover m) n (Crashes connection failover) (ap (machine_or m) is))
  crashes_do connection after failover [] (Some front) n at is = absurd (let none : ⊥ = cc in none)
  crashes_do connection after failover (served ∷ items) (Some front) n at is =
      last_does connection after failover served items front n (is_stopped m after front served) (is_over m after front served) at refl refl is

  crash_does : (connection after : ℕ) (failover down is_up : Bool) (items : List Served) (n : Machine)
      → (if is_up then (if down then None else crashes m connection after failover items) else only_if down (m, items)) ≡ Some (n, []) → Does setting m (note.Crash connection down) items n
  crash_does connection after failover true true items n is = absurd (let none : ⊥ = cc in none)
  crash_does connection after failover false true items n is = crashes_do connection after failover items (front_at m.links connection) n refl is
  crash_does connection after failover true false items n is = nothing (note.Crash connection true) items n is (IsDown connection)
  crash_does connection after failover false false items n is = absurd (let none : ⊥ = cc in none)

  -- OTHERS ----------------------------------------------------------------------------------------

  cuts_do : (connection up down : ℕ) (reached : Option Reached) (link : Option Link) (n : Machine) → open_at m.links connection ≡ link → cuts m connection up down reached link ≡ Some n → Does setting m (note.Cut connection reached) [] n
  cuts_do connection up down None None n at is = to (note.Cut connection None) [] m n (CutsNone connection) cc
  cuts_do connection up down None (Some link) n at is = absurd (let none : ⊥ = cc in none)
  cuts_do connection up down (Some reached) None n at is = absurd (let none : ⊥ = cc in none)
  cuts_do connection up down (Some reached) (Some link) n at is =
      to (note.Cut connection (Some reached)) [] (after_cut m connection up down link) n (Cuts connection up down reached link at) (only_is (same_reached reached (reached_of link up down)) (after_cut m connection up down link) n is)

  reaps_do : (connection : ℕ) (reaped : Bool) → Does setting m (note.Reap connection reaped) [] (if reaped then record m { links = changed reaped_link m.links connection } else m)
  reaps_do connection true = Reaps connection
  reaps_do connection false = ReapsNone connection

  made_does : (made : Bool) (server : Server) → Does setting m (note.UpCrash made) [] (if made then record m { server = server } else m)
  made_does true server = IsServers (note.UpCrash true) server refl
  made_does false server = IsServers (note.UpCrash false) m.server refl

  tested : (one : Note) (test : Bool) (a n : Machine) → only_if test a ≡ Some n → Does setting m one [] a → Does setting m one [] n
  tested one test a n is does = to one [] a n does (only_is test a n is)

  up_does : (incarnation : Option ℕ) (n : Machine) → follow_up m incarnation ≡ Some n → Does setting m (note.Up incarnation) [] n
  up_does None n is = tested (note.Up None) _ m n is (IsServers (note.Up None) m.server refl)
  up_does (Some incarnation) n is = tested (note.Up (Some incarnation)) _ _ n is (IsServers (note.Up (Some incarnation)) (opened m.server incarnation) refl)

  outside_does : (ran : Option OutsideNote) (n : Machine) → follow_outside m ran ≡ Some n → Does setting m (note.Outside ran) [] n
  outside_does None n is = tested (note.Outside None) _ m n is (IsServers (note.Outside None) m.server refl)
  outside_does (Some ran) n is = tested (note.Outside (Some ran)) _ _ n is (IsServers (note.Outside (Some ran)) (record m.server { sessions = m.server.sessions + 1 }) refl)

  ask_does : (named x : Ltxid) (told : Option AskResult) (n : Machine) → follow_ask m x told ≡ Some n → Does setting m (note.Ask named told) [] n
  ask_does named x None n is = tested (note.Ask named None) _ m n is (IsServers (note.Ask named None) m.server refl)
  ask_does named x (Some told) n is = tested (note.Ask named (Some told)) _ _ n is (IsServers (note.Ask named (Some told)) (after_asked m.server x told) refl)

  -- by its number in the event and in the note
  renamed : (one : ℕ → Note) (items : List Served) (n : Machine) (named number : ℕ) (kind : Noted) → option_and_then (by_kind setting m items) (only_if (named == number) kind) ≡ Some (n, [])
      → (by_kind setting m items kind ≡ Some (n, []) → Does setting m (one number) items n) → Does setting m (one named) items n
  renamed one items n named number kind is does =
      let parts = met items (named == number) kind n is in
      subst (λ (k : ℕ). Does setting m (one k) items n) (sym (eq_from named number parts.0)) (does parts.1)

  by_matched : (event : Event) (one : Note) (items : List Served) (n : Machine) → option_and_then (by_kind setting m items) (matched event one) ≡ Some (n, []) → Does setting m one items n
  by_matched (event.Go client) (note.Go named did) items n is =
      renamed (λ k. note.Go k did) items n named client (Went client did) is
      (λ goes. alone (note.Go client did) items (follow_go setting m client did) n goes (λ a same. Goes client did a same))
  by_matched (event.Serve connection) (note.Serve named frame) items n is =
      renamed (λ k. note.Serve k frame) items n named connection (ServedOn connection frame) is (λ goes. serve_does connection frame items (front_at m.links connection) n refl goes)
  by_matched (event.Cut connection up down) (note.Cut named reached) items n is =
      renamed (λ k. note.Cut k reached) items n named connection (CutOff connection up down reached) is
      (λ goes. alone (note.Cut connection reached) items (follow_cut m connection up down reached) n goes (λ a same. cuts_do connection up down reached (open_at m.links connection) a refl same))
  by_matched (event.Reap connection) (note.Reap named reaped) items n is =
      renamed (λ k. note.Reap k reaped) items n named connection (Reaped connection reaped) is
      (λ goes. alone (note.Reap connection reaped) items (follow_reap m connection reaped) n goes
      (λ a same. tested (note.Reap connection reaped) (same_bool reaped (has_orphan m.links connection)) _ a same (reaps_do connection reaped)))
  by_matched (event.Crash connection after pick) (note.Crash named down) items n is =
      renamed (λ k. note.Crash k down) items n named connection (Crashed connection after (is_failover pick) down) is
      (λ goes. crash_does connection after (is_failover pick) down m.server.is_up items n goes)
  by_matched event.Up (note.Up incarnation) items n is = alone (note.Up incarnation) items (follow_up m incarnation) n is (λ a same. up_does incarnation a same)
  by_matched (event.UpCrash after pick) (note.UpCrash made) items n is =
      alone (note.UpCrash made) items (follow_upcrash m made) n is (λ a same. tested (note.UpCrash made) _ _ a same (made_does made (record m.server { stopped = m.server.stopped + 1 })))
  by_matched event.Tick note.Tick items n is = alone note.Tick items (Some (ticked m)) n is (λ a same. to note.Tick [] (ticked m) a Ticks cc)
  by_matched (event.Outside calls) (note.Outside ran) items n is = alone (note.Outside ran) items (follow_outside m ran) n is (λ a same. outside_does ran a same)
  by_matched (event.Ask x) (note.Ask named told) items n is =
      alone (note.Ask named told) items (follow_ask m x told) n (met items (same_ltxid named x) (Asked x told) n is).1 (λ a same. ask_does named x told a same)
  by_matched event.Drain (note.Drain closed) items n is = alone (note.Drain closed) items (follow_drain m closed) n is (λ a same. tested (note.Drain closed) _ (drained m) a same (Drains closed))
  by_matched event one items n is = absurd (let none : ⊥ = cc in none)

-- Each event that the machine follows does what its note and its items say.
pub follow_does : (setting : Setting) (m : Machine) (event : Event) (one : Note) (items : List Served) (n : Machine) → follow setting m event one items ≡ Some (n, []) → Does setting (at_event m) one items n
follow_does setting m event one items n is = by_matched setting (at_event m) event one items n is
