-- Each event counts as one, a tick as one more, and its items are its own.
use Rattle.std.proofs.Common.{◌≡◌, refl, sym, ap, subst, ◌∙◌, Bool, true, false, ℕ, ◌+◌, ◌*◌, ◌&&◌, length, List, [], ◌∷◌, ◌++◌, Option, Some, None, if◌then◌else◌, arith}
use Rattle.std.specs.Prelude.{◌==◌, nat_lt}
use Rattle.std.specs.List.{list_all}
use Rattle.std.proofs.lemmas.Bool.{and_parts, and_from}
use Rattle.std.proofs.lemmas.Bool.Decides.{nat_tests}
use Rattle.std.proofs.lemmas.List.{length-append}
use Rattle.std.proofs.lemmas.List.Sums.{fold-append}
use Rattle.svc_values.specs.meaning.Calls.{sequences_in}
use Rattle.outage_schedule.specs.declared.document.Document.{Document}
use Rattle.outage_schedule.specs.declared.event.Event.{Event}
use Rattle.outage_schedule.specs.declared.item.Served.{Served}
use Rattle.outage_schedule.specs.declared.note.GoNote.{GoNote}
use Rattle.outage_schedule.specs.declared.note.Note.{Note}
use Rattle.outage_schedule.specs.declared.note.Note.TheVariants as note
use Rattle.server_model.specs.Seen.{Seen}
use Rattle.shown_clauses.specs.meaning.Happenings.{Happening, tick_after}
use Rattle.shown_clauses.specs.meaning.Links.{nothing_seen}
use Rattle.shown_clauses.specs.meaning.Steps.{steps_from}
use Rattle.world_model.specs.meaning.Clients.{Doing, doing_at}
use Rattle.world_model.specs.meaning.Crashing.{is_crashed_item}
use Rattle.world_model.specs.meaning.Finishing.{Place}
use Rattle.world_model.specs.meaning.Going.{lost_at_once, unless_open}
use Rattle.world_model.specs.meaning.Links.{Link}
use Rattle.world_model.specs.meaning.Machines.{Machine}
use Rattle.world_model.specs.OneEvent.{OneEvent}
use Rattle.world_model.specs.Reached.{Reached, Begins, GoesOn, IsFinishing, Scheduled, Finishes}
use Rattle.world_model.specs.meaning.Serving.{Front, is_served_by, is_item_of, is_of_front}
use Rattle.world_model.specs.meaning.Settings.{Setting}
use Rattle.world_model.specs.Traced.{Traced}
use Rattle.shown_laws.specs.Growth.{next_told, GrowsBy, IsCounted}
use Rattle.shown_laws.specs.Telling.{events_told, seen_after, ticks_told, event_told}
use Rattle.shown_laws.proofs.events.Following.{at_event, Does, Goes, ServesNone, Serves, CutsNone, Cuts, ReapsNone, Reaps, IsDown, Crashes, CrashStops, CrashServes, Ticks, Drains, IsServers, follow_does}
use Rattle.shown_laws.proofs.events.GoNotes.{GoesAs, Idles, Rests, Waits, Lends, Opens, Fails, Takes, Loses, follow_goes}
use Rattle.shown_laws.proofs.events.HappeningsGrow.{events_more, seen_more, steps_more}

-- EVENTS ------------------------------------------------------------------------------------------

abbrev SameClock : Machine → Machine → Type 0
SameClock m n = (n.event ≡ m.event) × (n.tick ≡ m.tick)

unless_clock : (setting : Setting) (m a : Machine) (client : ℕ) (link : Link) → SameClock m a → SameClock m (unless_open setting a client link)
unless_clock setting m a client link same = by link.is_open
  where
    once : (doing : Option Doing) → SameClock m (lost_at_once setting a client link.ended doing)
    once None = same
    once (Some doing) = same

    by : (opens : Bool) → SameClock m (if opens then a else lost_at_once setting a client link.ended (doing_at a.clients client))
    by true = same
    by false = once (doing_at a.clients client)

goes_clock : (setting : Setting) (m : Machine) (client : ℕ) (did : GoNote) (n : Machine) → GoesAs setting m client did n → SameClock m n
goes_clock setting m client _ _ Idles = (refl, refl)
goes_clock setting m client _ _ (Rests doing wanted did is rest) = (refl, refl)
goes_clock setting m client _ _ (Waits doing is answer) = (refl, refl)
goes_clock setting m client _ _ (Lends doing connection link ltxid is answer there held) = (refl, refl)
goes_clock setting m client _ _ (Opens doing wanted pool is tries) = (refl, refl)
goes_clock setting m client _ _ (Fails doing wanted pool is tries) = (refl, refl)
goes_clock setting m client _ _ (Takes doing connection sent link reply left is has there down frames) = unless_clock setting m _ client link (refl, refl)
goes_clock setting m client _ _ (Loses doing connection link is has there down shut) = (refl, refl)

abbrev all_now : ℕ → List Served → Bool
all_now event items = list_all (λ one. one.event == event) items

-- the event and the tick behind an event, and whose its items are
abbrev Counts : Machine → Note → List Served → Machine → Type 0
Counts m one items n = (n.event ≡ m.event) × ((n.tick ≡ tick_after m.tick one) × (all_now m.event items ≡ true))

of_front : (m : Machine) (front : Front) (served : Served) → is_of_front m front served ≡ true → all_now m.event (served ∷ []) ≡ true
of_front m front served is = and_from (served.event == m.event) true (and_parts (served.event == m.event) (is_served_by m.server front.link front.first.frame served.session) is).0 refl

does_count : (setting : Setting) (m : Machine) (one : Note) (items : List Served) (n : Machine) → Does setting m one items n → Counts m one items n
does_count setting m _ _ _ (Goes client did n goes) = let same = goes_clock setting m client did n (follow_goes setting m client did n goes) in (same.0, (same.1, refl))
does_count setting m _ _ _ (ServesNone connection) = (refl, (refl, refl))
does_count setting m _ _ _ (Serves connection name front served at ordinary) =
    (refl, (refl, of_front m front served (and_parts (is_of_front m front served) (is_item_of front.first.frame served.item) ordinary).0))
does_count setting m _ _ _ (CutsNone connection) = (refl, (refl, refl))
does_count setting m _ _ _ (Cuts connection up down reached link at) = (refl, (refl, refl))
does_count setting m _ _ _ (ReapsNone connection) = (refl, (refl, refl))
does_count setting m _ _ _ (Reaps connection) = (refl, (refl, refl))
does_count setting m _ _ _ (IsDown connection) = (refl, (refl, refl))
does_count setting m _ _ _ (Crashes connection failover) = (refl, (refl, refl))
does_count setting m _ _ _ (CrashStops connection after failover front served at stopped) =
    (refl, (refl, of_front m front served (and_parts (is_of_front m front served) (is_crashed_item front.first.frame served.item && nat_lt after (m.server.per_record * (1 + sequences_in front.first.frame))) stopped).0))
does_count setting m _ _ _ (CrashServes connection failover front served at ordinary) =
    (refl, (refl, of_front m front served (and_parts (is_of_front m front served) (is_item_of front.first.frame served.item) ordinary).0))
does_count setting m _ _ _ Ticks = (refl, (refl, refl))
does_count setting m _ _ _ (Drains closed) = (refl, (refl, refl))
does_count setting m _ _ _ (IsServers (note.Up incarnation) server is) = (refl, (refl, refl))
does_count setting m _ _ _ (IsServers (note.UpCrash made) server is) = (refl, (refl, refl))
does_count setting m _ _ _ (IsServers (note.Outside ran) server is) = (refl, (refl, refl))
does_count setting m _ _ _ (IsServers (note.Ask x told) server is) = (refl, (refl, refl))
does_count setting m _ _ _ (IsServers one server is) = absurd (let none : ⊥ = cc in none)

-- RUNS --------------------------------------------------------------------------------------------

-- as many events as notes, whose items they are
pub record HasCome (notes : List Note) (items : List Served) (m : Machine) : Type 0 where
  pub counted : IsCounted notes m
  pub before : list_all (λ one. nat_lt one.event (length notes + 1)) items ≡ true

list_both : (test : Served → Bool) (items more : List Served) → list_all test items ≡ true → list_all test more ≡ true → list_all test (items ++ more) ≡ true
list_both test [] more first second = second
list_both test (one ∷ items) more first second =
    let parts = and_parts (test one) (list_all test items) first in
    and_from (test one) (list_all test (items ++ more)) parts.0 (list_both test items more parts.1 second)

weaker : (test other : Served → Bool) → ((one : Served) → test one ≡ true → other one ≡ true) → (items : List Served) → list_all test items ≡ true → list_all other items ≡ true
weaker test other less [] all = refl
weaker test other less (one ∷ items) all =
    let parts = and_parts (test one) (list_all test items) all in
    and_from (other one) (list_all other items) (less one parts.0) (weaker test other less items parts.1)

below_more : (limit event : ℕ) → nat_lt event limit ≡ true → nat_lt event (limit + 1) ≡ true
below_more limit event is = grind (arith, nat_tests, is)

now_below : (limit event : ℕ) → (event == limit) ≡ true → nat_lt event (limit + 1) ≡ true
now_below limit event is = grind (arith, nat_tests, is)

module _ (before after : Seen) (old new : Traced) (event : Event) (note : Note) (notes : List Note) (items more : List Served) (one : OneEvent before old event note more [] after new) (was : HasCome notes items old.machine) where
  does : Does old.setting (at_event old.machine) note more new.machine
  does = follow_does old.setting old.machine event note more new.machine one.follows

  counts : Counts (at_event old.machine) note more new.machine
  counts = does_count old.setting (at_event old.machine) note more new.machine does

  number : old.machine.event + 1 ≡ length notes + 1
  number = ap (λ (n : ℕ). n + 1) was.counted.events

  own : list_all (λ (served : Served). served.event == length notes + 1) more ≡ true
  own = subst (λ (n : ℕ). list_all (λ (served : Served). served.event == n) more ≡ true) number counts.1.1

  pub come_on : HasCome (notes ++ note ∷ []) (items ++ more) new.machine
  come_on =
      let count : length (notes ++ note ∷ []) ≡ length notes + 1 = length-append notes (note ∷ []) in
      record {
        counted = record {
          events = counts.0 ∙ (number ∙ sym count);
          ticks = counts.1.0 ∙ (ap (λ (tick : ℕ). tick_after tick note) was.counted.ticks ∙ sym (fold-append tick_after 0 notes (note ∷ [])));
        };
        before =
            subst (λ (n : ℕ). list_all (λ (served : Served). nat_lt served.event (n + 1)) (items ++ more) ≡ true) (sym count)
            (list_both (λ (served : Served). nat_lt served.event (length notes + 1 + 1)) items more
            (weaker (λ (served : Served). nat_lt served.event (length notes + 1)) (λ (served : Served). nat_lt served.event (length notes + 1 + 1)) (λ served is. below_more (length notes + 1) served.event is) items was.before)
            (weaker (λ (served : Served). served.event == length notes + 1) (λ (served : Served). nat_lt served.event (length notes + 1 + 1)) (λ served is. now_below (length notes + 1) served.event is) more own));
      }

  pub grows_on : GrowsBy notes items old.machine note more
  grows_on =
      let same : event_told (length notes) (ticks_told notes) note more ≡ next_told old.machine note more = λ i. event_told (sym was.counted.events i) (sym was.counted.ticks i) note more in
      let events : events_told (notes ++ note ∷ []) (items ++ more) ≡ events_told notes items ++ next_told old.machine note more ∷ [] =
      events_more notes note items more was.before own ∙ ap (λ (h : Happening). events_told notes items ++ h ∷ []) same in
      record {
        events = events;
        seen = ap (seen_after nothing_seen) events ∙ seen_more (events_told notes items) (next_told old.machine note more);
        steps = ap (steps_from nothing_seen) events ∙ steps_more nothing_seen (events_told notes items) (next_told old.machine note more);
      }

pub reached_come : (document : Document) (events : List Event) (notes : List Note) (items : List Served) (seen : Seen) (t : Traced) → Reached document events notes items seen t → HasCome notes items t.machine
reached_come document _ _ _ _ _ (Begins seen start history horizon coupled) = record { counted = record { events = refl; ticks = refl }; before = refl }
reached_come document _ _ _ _ _ (GoesOn events notes items more before after old new event note reached one forgets) = come_on before after old new event note notes items more one (reached_come document events notes items before old reached)

pub finishing_come : (document : Document) (place : Place) (notes : List Note) (items : List Served) (seen : Seen) (t : Traced) → IsFinishing document place notes items seen t → HasCome notes items t.machine
finishing_come document _ _ _ _ _ (Scheduled notes items seen t reached) = reached_come document document.schedule notes items seen t reached
finishing_come document _ _ _ _ _ (Finishes place later notes items more before after old new event note finishing next one forgets) =
    come_on before after old new event note notes items more one (finishing_come document place notes items before old finishing)
