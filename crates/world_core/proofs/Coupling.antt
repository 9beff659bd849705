-- What machine and service have in common, behind an event that the service has no part in.
use Rattle.std.proofs.Common.{◌≡◌, ◌≤◌, arith, ℕ, zero, suc, ◌+◌, Bool, true, false, List, [], ◌∷◌, Option, Some, None, map, refl, sym, ap, ◌∙◌, subst, eq-eqb}
use Rattle.std.specs.Prelude.{◌*◌, slice_get, slice_set, option_map, option_and_then, All, if◌then◌else◌}
use Rattle.std.proofs.lemmas.List.{append-nil}
use Rattle.std.proofs.lemmas.List.Elements.{All-nil}
use Rattle.svc_values.specs.declared.entry.SessionId.{SessionId}
use Rattle.svc_values.specs.declared.entry.Entry.{Entry}
use Rattle.outage_schedule.specs.declared.event.Event.{Event}
use Rattle.outage_schedule.specs.declared.event.Event.TheVariants as event
use Rattle.outage_schedule.specs.declared.note.Note.{Note}
use Rattle.outage_schedule.specs.declared.note.Note.TheVariants as note
use Rattle.outage_schedule.specs.declared.note.Reached.{Reached}
use Rattle.outage_schedule.specs.declared.item.Served.{Served}
use Rattle.server_model.specs.Runs.{Happened}
use Rattle.server_model.specs.Seen.{Seen}
use Rattle.server_model.specs.Sessions.{Life}
use Rattle.server_model.specs.ServiceCalls.{CameFrom, WasAsked}
use Rattle.world_model.specs.CrashCount.{CountsCrash}
use Rattle.world_model.specs.Forgets.{Forgets}
use Rattle.world_model.specs.meaning.Links.{Link, link_at, with_link}
use Rattle.world_model.specs.meaning.Machines.{Machine}
use Rattle.world_model.specs.Traced.{Traced}
use Rattle.world_model.specs.meaning.Noting.{only_if, same_reached}
use Rattle.world_model.specs.meaning.Cutting.{reached_of, cut_link, after_cut, cuts, open_at, follow_cut}
use Rattle.world_model.specs.meaning.Outside.{ticked}
use Rattle.world_model.specs.meaning.Walking.{follow}
use Rattle.world_model.specs.ServiceDid.{ServiceDid}
use Rattle.world_model.specs.Coupled.{living_of, HasStored, life_of, HasLived, IsLater, SameServer, Coupled}
use Rattle.world_model.specs.OrderlyLaws.{OrderlyIsKept}
use Rattle.world_model.specs.OneEvent.{OneEvent, session_outside, drawn_outside}
use Rattle.world_model.proofs.Offered.{opens_once, ticks_once}
use Rattle.world_core.specs.declared.traffic.Traffic.{Traffic}
use Rattle.world_core.specs.Underway.{IsUnderway, Leads}
use Rattle.world_core.specs.Making.{IsReady, IsAt, Made, Makes}
use Rattle.world_core.specs.Stopping.{AreKnown}

-- VIEWS -------------------------------------------------------------------------------------------

-- what the service knows of a connection
pub record View : Type 0 where
  pub is_living : Bool
  pub session : Option SessionId
  pub commits : ℕ
  pub life : Life

abbrev pub view : Link → View
view link = record { is_living = link.is_living; session = link.session; commits = link.commits; life = life_of link.served }

abbrev pub views : List Link → List View
views links = map view links

abbrev view_at : List View → ℕ → Option View
view_at all zero = None
view_at all (suc index) = slice_get all index

abbrev pub living_in : Option View → Option (Option SessionId)
living_in None = None
living_in (Some one) = if one.is_living then Some one.session else None

slice_view : (links : List Link) (index : ℕ) → slice_get (views links) index ≡ option_map view (slice_get links index)
slice_view [] index = refl
slice_view (link ∷ links) zero = refl
slice_view (link ∷ links) (suc index) = slice_view links index

at_view : (links : List Link) (number : ℕ) → view_at (views links) number ≡ option_map view (link_at links number)
at_view links zero = refl
at_view links (suc index) = slice_view links index

pub living_view : (found : Option Link) → living_of found ≡ living_in (option_map view found)
living_view None = refl
living_view (Some link) = refl

pub same_living : (new old : List Link) (number : ℕ) → views new ≡ views old → living_of (link_at new number) ≡ living_of (link_at old number)
same_living new old number same =
    living_view (link_at new number)
    ∙ ap living_in (sym (at_view new number) ∙ ap (λ all. view_at all number) same ∙ at_view old number)
    ∙ sym (living_view (link_at old number))

some_view : (found : Option Link) (one : View) → option_map view found ≡ Some one → (link : Link) × ((found ≡ Some link) × (view link ≡ one))
some_view None one e = absurd (let nothing : ⊥ = cc in nothing)
some_view (Some link) one e = (link, (refl, cc))

-- the one of a number, where both look alike
pub same_found : (new old : List Link) (number : ℕ) (link : Link) → views new ≡ views old → link_at new number ≡ Some link → (other : Link) × ((link_at old number ≡ Some other) × (view other ≡ view link))
same_found new old number link same there =
    some_view (link_at old number) (view link) (sym (at_view old number) ∙ ap (λ all. view_at all number) (sym same) ∙ at_view new number ∙ ap (option_map view) there)

abbrev pub StoredIn : List Entry → View → Type 0
StoredIn entries one = HasStored entries (living_in (Some one)) one.commits

abbrev pub LivedIn : List Happened → View → Type 0
LivedIn history one = HasLived history (living_in (Some one)) one.life

-- COUPLED -----------------------------------------------------------------------------------------

abbrev pub moved : Traced → Machine → Traced
moved t m = record t { machine = m }

-- another state of the machine, with the same server, whose connections look alike
pub stays_coupled : (seen : Seen) (t : Traced) (m : Machine) → Coupled seen t → m.server ≡ t.machine.server → views m.links ≡ views t.machine.links → Coupled seen (moved t m)
stays_coupled seen t m coupled server same = record {
  history = coupled.history;
  sound = coupled.sound;
  stops = coupled.stops;
  server = subst (λ s. SameServer s seen) (sym server) coupled.server;
  living = λ number. coupled.living number ∙ sym (same_living m.links t.machine.links number same);
  stored = λ number link there.
      let other = same_found m.links t.machine.links number link same there in
      subst (StoredIn seen.state.store.entries) other.1.1 (coupled.stored number other.0 other.1.0);
  lives = λ number link there.
      let other = same_found m.links t.machine.links number link same there in
      subst (LivedIn seen.history) other.1.1 (coupled.lives number other.0 other.1.0);
  later = λ session is. coupled.later session (subst (λ s. IsLater s session) server is);
  entries = coupled.entries;
  blocked = coupled.blocked;
  image = coupled.image;
  blocks = subst (λ s. AreKnown s t.blocked) (sym server) coupled.blocks;
}

-- AN EVENT THAT THE SERVICE HAS NO PART IN --------------------------------------------------------

-- nothing was stored
pub none_came : (happened : List Happened) → All (CameFrom happened) []
none_came happened = All-nil (CameFrom happened)

pub none_asked : (happened : List Happened) → All (WasAsked happened) []
none_asked happened = All-nil (WasAsked happened)

pub one_alone : (seen : Seen) (t : Traced) (event : Event) (note : Note) (m : Machine) → Coupled seen t → follow t.setting t.machine event note [] ≡ Some (m, []) → ServiceDid t.machine event note [] [] → CountsCrash event note [] seen.state seen.state → session_outside t note ≡ [] → drawn_outside note ≡ []
    → m.server ≡ t.machine.server → views m.links ≡ views t.machine.links → OneEvent seen t event note [] [] seen (moved t m)
one_alone seen t event note m coupled follows did counts none_outside none_drawn server same = record {
  follows = follows;
  happened = [];
  did = did;
  told = tt;
  history = sym (append-nil seen.history);
  start = refl;
  rises = omega arith;
  crashes = counts;
  coupled_before = coupled;
  coupled_after = stays_coupled seen t m coupled server same;
  more_entries = [];
  entries = sym (append-nil t.entries);
  own = none_came [];
  more_blocked = [];
  blocked = sym (append-nil t.blocked);
  asked = none_asked [];
  setting = refl;
  image = refl;
  outside = rw none_outside (sym (append-nil t.outside));
  outside_draws = rw none_drawn (sym (append-nil t.outside_draws));
}

abbrev pub begun : Machine → Machine
begun m = record m { event = m.event + 1 }

-- at most four calls more
pub most_calls : (old new event next : ℕ) → old ≤ 4 * event + 4 → new ≤ old + 4 → next ≡ event + 1 → new ≤ 4 * next + 4
most_calls old new event next most more is = omega (arith, most, more, is)

pub most_ticks : (old new event next : ℕ) → old ≤ event → new ≤ old + 1 → next ≡ event + 1 → new ≤ next
most_ticks old new event next most more is = omega (arith, most, more, is)

pub same_calls : (n : ℕ) → n ≤ n + 4
same_calls n = omega arith

pub one_call : (old new : ℕ) → new ≡ old + 1 → new ≤ old + 4
one_call old new is = omega (arith, is)

-- the event was made, and what was orderly still is
pub made : OrderlyIsKept → (sees sees_later : Seen → Type 0) (before after : Traffic) (below : ℕ) (event : Event) (note : Note) (items : List Served) (seen new : Seen) (t later : Traced) → IsAt sees before seen t
    → OneEvent seen t event note items [] new later → Forgets below note seen.state.store new.state.store → sees_later new → IsReady new.state → new.state.calls ≤ seen.state.calls + 4 → IsUnderway after later.machine
    → Made below seen t sees_later after event note items
made kept sees sees_later before after below event note items seen new t later is one forgets seen_so ready few underway =
    let next = (opens_once t.setting t.machine later.machine event note items [] one.follows).0 in
    let clock = ticks_once t.setting t.machine later.machine event note items [] one.follows in
    record {
      seen_later = new;
      later = later;
      made = one;
      forgets = forgets;
      place = record {
        seen_so = seen_so;
        ready = ready;
        coupled = one.coupled_after;
        underway = underway;
        orderly = kept.at_event seen new t later event note items [] one is.orderly;
        calls = most_calls seen.state.calls new.state.calls t.machine.event later.machine.event is.calls few next;
        ticks = most_ticks t.machine.tick later.machine.tick t.machine.event later.machine.event is.ticks clock next;
      };
    }

-- the same, where the service had no part in it
pub made_alone : OrderlyIsKept → (sees : Seen → Type 0) (before after : Traffic) (below : ℕ) (event : Event) (note : Note) (seen : Seen) (t : Traced) (m : Machine) → IsAt sees before seen t
    → OneEvent seen t event note [] [] seen (moved t m) → Forgets below note seen.state.store seen.state.store → IsUnderway after m → Made below seen t sees after event note []
made_alone kept sees before after below event note seen t m is one forgets underway = made kept sees sees before after below event note [] seen seen t (moved t m) is one forgets is.seen_so is.ready (same_calls seen.state.calls) underway

-- TICKS -------------------------------------------------------------------------------------------

pub ticks : OrderlyIsKept → (sees : Seen → Type 0) (before after : Traffic) → ((m : Machine) → IsUnderway before m → IsUnderway after (ticked (begun m))) → Makes sees before sees after event.Tick note.Tick []
ticks kept sees before after goes below seen t is =
    let m = ticked (begun t.machine) in
    made_alone kept sees before after below event.Tick note.Tick seen t m is (one_alone seen t event.Tick note.Tick m is.coupled refl refl refl refl refl refl refl) refl (goes t.machine is.underway)

-- CUTS --------------------------------------------------------------------------------------------

open_found : (found : Option Link) (link : Link) → option_and_then (λ one. only_if one.is_open one) found ≡ Some link → found ≡ Some link
open_found None link e = absurd (let nothing : ⊥ = cc in nothing)
open_found (Some one) link e = by one.is_open e
  where
    by : (b : Bool) → only_if b one ≡ Some link → Some one ≡ Some link
    by true e = e
    by false e = absurd (let nothing : ⊥ = cc in nothing)

view_kept : (links : List Link) (index : ℕ) (link after : Link) → slice_get links index ≡ Some link → view after ≡ view link → views (slice_set links index after) ≡ views links
view_kept [] index link after there same = refl
view_kept (one ∷ links) zero link after there same = ap (λ v. v ∷ views links) (same ∙ ap (λ (o : Option Link). living_or o) (sym there))
  where
    living_or : Option Link → View
    living_or None = view link
    living_or (Some l) = view l
view_kept (one ∷ links) (suc index) link after there same = ap (λ r. view one ∷ r) (view_kept links index link after there same)

pub view_with : (links : List Link) (number : ℕ) (link after : Link) → link_at links number ≡ Some link → view after ≡ view link → views (with_link links number after) ≡ views links
view_with links zero link after there same = refl
view_with links (suc index) link after there same = view_kept links index link after there same

view_cut : (event up down : ℕ) (link : Link) → view (cut_link event up down link) ≡ view link
view_cut event up down link = elim link.is_open as (λ b. view (record (if b then record link { is_open = false; ended = Some event } else link) { is_cut = true; up = []; down = [] }) ≡ view link) [ true ↦ refl | false ↦ refl ]

some_same : {A : Type 0} (a b : A) → ◌≡◌ {A = Option A} (Some a) (Some b) → a ≡ b
some_same a b e = cc

only_same : (test : Bool) (a b : Machine) → only_if test a ≡ Some b → b ≡ a
only_same true a b e = sym (some_same a b e)
only_same false a b e = absurd (let nothing : ⊥ = cc in nothing)

abbrev LooksAlike : Machine → Machine → Type 0
LooksAlike new old = (new.server ≡ old.server) × (views new.links ≡ views old.links)

cut_alike : (m after : Machine) (number up down : ℕ) (reached : Option Reached) (found : Option Link) → open_at m.links number ≡ found → cuts m number up down reached found ≡ Some after → LooksAlike after m
cut_alike m after number up down None None there e = let same = sym (some_same m after e) in (ap (λ x. x.server) same, ap (λ x. views x.links) same)
cut_alike m after number up down (Some reached) None there e = absurd (let nothing : ⊥ = cc in nothing)
cut_alike m after number up down None (Some link) there e = absurd (let nothing : ⊥ = cc in nothing)
cut_alike m after number up down (Some reached) (Some link) there e =
    let same = only_same (same_reached reached (reached_of link up down)) (after_cut m number up down link) after e in
    (ap (λ x. x.server) same, ap (λ x. views x.links) same ∙ view_with m.links number link (cut_link m.event up down link) (open_found (link_at m.links number) link there) (view_cut m.event up down link))

pub cut_makes : OrderlyIsKept → (sees : Seen → Type 0) (before after : Traffic) (number up down : ℕ) (reached : Option Reached) → ((m : Machine) → IsUnderway before m → Leads (follow_cut (begun m) number up down reached) after)
    → Makes sees before sees after (event.Cut number up down) (note.Cut number reached) []
cut_makes kept sees before after number up down reached goes below seen t is =
    let led = goes t.machine is.underway in
    let alike = cut_alike (begun t.machine) led.0 number up down reached (open_at t.machine.links number) refl led.1.0 in
    let follows : follow t.setting t.machine (event.Cut number up down) (note.Cut number reached) [] ≡ Some (led.0, []) = rw (eq-eqb number number refl, led.1.0) refl in
    made_alone kept sees before after below (event.Cut number up down) (note.Cut number reached) seen t led.0 is (one_alone seen t (event.Cut number up down) (note.Cut number reached) led.0 is.coupled follows refl refl refl refl alike.0 alike.1) refl led.1.1
