-- What a service is seen as, after the calls that leave its store and the plain server beside it.
use Rattle.std.proofs.Common.{◌≡◌, ◌+◌, ◌≤◌, ◌∙◌, ℕ, Bool, true, false, refl, sym, ap, subst, List, [], arith}
use Rattle.std.proofs.lemmas.Bool.Decides.{nat_tests}
use Rattle.std.specs.Prelude.{nat_eq, ◌==◌, Option, Some, None, option_map, is_some, if◌then◌else◌}
use Rattle.disk_model.specs.Disk.{DiskState}
use Rattle.mutable_values.specs.declared.grants.Grants.{Grants}
use Rattle.server_model.specs.meaning.Base.{Base}
use Rattle.server_model.specs.Runs.{Happened}
use Rattle.server_model.specs.Seen.{ServiceState, Seen, Keeps, KeepsStore}
use Rattle.server_model.specs.ServiceCalls.{Connected, Reaped, with_stop}
use Rattle.server_session.specs.declared.shared.Core.{Core}
use Rattle.server_session.specs.Fits.{Fits}
use Rattle.server_session.specs.SeenSession.{SeenSession as Session}
use Rattle.service_calls.specs.Kept.{Goes}
use Rattle.service_core.specs.declared.notes.Notes.{Notes}
use Rattle.service_core.specs.Held.{Held, held_at, Holds, id_of, shown, living_of}
use Rattle.service_core.specs.Within.{Within}
use Rattle.service_core.specs.Seeing.{state_in, Stands, StandsIn, SeesIn, called}
use Rattle.service_core.specs.Sound.{IsUp, IsDown, IsSound, IsSoundWithin}
use Rattle.service_core.proofs.Faulty.{still_room}

abbrev pub seen_with : Base → List Happened → ServiceState → Seen
seen_with start history state = record { start = start; history = history; state = state }

-- What a service comes to, from a beginning and a history: a longer one.
pub record Comes (old new : Within) (Does : Seen → Seen → Type 0) (start : Base) (history : List Happened) : Type 0 where
  pub later : List Happened
  pub stands : StandsIn new start later
  pub does : Does (seen_with start history (state_in old)) (seen_with start later (state_in new))

-- What is done to a service, said of each beginning and history.
pub goes_from : (old new : Within) (Does : Seen → Seen → Type 0) → new.notes.is_spent ≡ false → IsSoundWithin new
    → ((start : Base) (history : List Happened) → StandsIn old start history → Comes old new Does start history) → Goes (SeesIn old) (SeesIn new) Does
goes_from old new Does live sound comes before sees =
    let c = comes before.start before.history sees.sees.stands in
    subst (λ (state : ServiceState). (after : Seen) × (SeesIn new after × Does (seen_with before.start before.history state) after)) (sym sees.sees.state_is)
    (seen_with before.start c.later (state_in new), (record { live = live; sound = sound; sees = record { state_is = refl; stands = c.stands } }, c.does))

-- ---- connections

-- each connection that has a session had it
abbrev pub HasNoMore : Held → Held → Type 0
HasNoMore old new = (connection : ℕ) (session : Session) → held_at new connection ≡ Some (Some session) → held_at old connection ≡ Some (Some session)

fewer_stand : (grants : Grants) (disk : DiskState) (core : Option Core) (held less : Held) (notes : Notes) (start : Base) (history : List Happened) → HasNoMore held less
    → Stands grants disk core held notes start history → Stands grants disk core less (called notes) start history
fewer_stand grants disk None held less notes start history fewer stands = stands
fewer_stand grants disk (Some core) held less notes start history fewer stands = record {
  server = stands.server;
  runs = stands.runs;
  is_base = stands.is_base;
  stands = record { power = stands.stands.power; plain = stands.stands.plain; count = stands.stands.count; attends = λ connection session at. stands.stands.attends connection session (fewer connection session at) };
}

-- one call later
pub later_call : (number calls : ℕ) → number ≤ calls → number ≤ calls + 1
later_call number calls few = omega (arith, few)

fewer_up : (grants : Grants) (disk : DiskState) (core : Core) (held less : Held) (notes : Notes) → HasNoMore held less → IsUp grants disk core held notes → IsUp grants disk core less (called notes)
fewer_up grants disk core held less notes fewer up = record {
  fits = up.fits;
  granted = up.granted;
  faults = still_room disk.faults disk.faults notes (called notes) up.faults refl (omega arith) refl;
  settled = up.settled;
  room = omega (arith, up.room);
  few = omega (arith, up.few);
  crashes = omega (arith, up.crashes);
  each = λ connection session at. let one = up.each connection session (fewer connection session at) in record { reads = one.reads; noted = one.noted; belongs = one.belongs; lives = one.lives; numbered = one.numbered };
  counted = λ connection session at. later_call session.ltxid.number notes.calls (up.counted connection session (fewer connection session at));
  unmade_belong = up.unmade_belong;
  apart = λ connection other session another here there one. up.apart connection other session another (fewer connection session here) (fewer other another there) one;
}

none_down : (disk : DiskState) (held after : Held) (notes : Notes) → (held ≡ [] → after ≡ []) → IsDown disk held notes → IsDown disk after (called notes)
none_down disk held after notes empty down = record {
  none = empty down.none;
  base = down.base;
  leaves = λ image leaves. let read = down.leaves image leaves in record { journal = read.journal; reads = read.reads; base_is = read.base_is; room = omega (arith, read.room) };
  faults = still_room disk.faults disk.faults notes (called notes) down.faults refl (omega arith) refl;
  crashes = omega (arith, down.crashes);
  reads_now = down.reads_now;
  settled = down.settled;
}

fewer_sound : (grants : Grants) (disk : DiskState) (core : Option Core) (held less : Held) (notes : Notes) → HasNoMore held less → (is_some core ≡ false → held ≡ [] → less ≡ []) → IsSound grants disk core held notes
    → IsSound grants disk core less (called notes)
fewer_sound grants disk None held less notes fewer empty down = none_down disk held less notes (empty refl) down
fewer_sound grants disk (Some core) held less notes fewer empty up = fewer_up grants disk core held less notes fewer up

-- a connection that was made, or from which the session was taken, has none
pub none_more : (connection : ℕ) (old new : Held) → Holds connection (Some None) old new → HasNoMore old new
none_more connection old new holds other session at = by (nat_eq connection other) (sym (holds other) ∙ at)
  where
    by : (own : Bool) → (if own then Some None else held_at old other) ≡ Some (Some session) → held_at old other ≡ Some (Some session)
    by true is = absurd (let e : ◌≡◌ {A = Option (Option Session)} (Some None) (Some (Some session)) = is in cc)
    by false is = is

one_less : (connection : ℕ) (old new : Held) → Holds connection None old new → HasNoMore old new
one_less connection old new holds other session at = by (nat_eq connection other) (sym (holds other) ∙ at)
  where
    by : (own : Bool) → (if own then None else held_at old other) ≡ Some (Some session) → held_at old other ≡ Some (Some session)
    by true is = absurd (let e : ◌≡◌ {A = Option (Option Session)} None (Some (Some session)) = is in cc)
    by false is = is

-- the tests of two numbers are one
same_test : (a b : ℕ) → nat_eq a b ≡ (b == a)
same_test a b = grind (arith, nat_tests)

-- what the connections show
pub living_is : (connection : ℕ) (one : Option (Option Session)) (old new : Held) → Holds connection one old new
    → (other : ℕ) → living_of new other ≡ (if other == connection then shown one else living_of old other)
living_is connection one old new holds other =
    ap (option_map (option_map id_of)) (holds other) ∙ by (nat_eq connection other) (other == connection) (same_test connection other)
  where
    by : (own test : Bool) → own ≡ test → shown (if own then one else held_at old other) ≡ (if test then shown one else living_of old other)
    by true true same = refl
    by false false same = refl
    by true false same = absurd (cc)
    by false true same = absurd (cc)

-- ---- calls that touch neither store nor plain server

-- with these connections after one call more
abbrev pub with_held : Within → Held → Within
with_held old held = record old { held = held; notes = called old.notes }

keeps_all : (start : Base) (history : List Happened) (old : Within) (held : Held) → old.notes.is_spent ≡ false → Keeps (seen_with start history (state_in old)) (seen_with start history (state_in (with_held old held)))
keeps_all start history old held live = record {
  start = refl;
  is_opened = refl;
  is_quiet = refl;
  per_record = refl;
  crashes = (refl, refl, refl);
  faults = omega arith;
  stop = λ none. none;
  calls = refl;
  is_spent = live;
}

keeps_store : (start : Base) (history : List Happened) (old : Within) (held : Held) → KeepsStore (seen_with start history (state_in old)) (seen_with start history (state_in (with_held old held)))
keeps_store start history old held = record { history = refl; store = refl; is_settled = refl; is_up = refl; sessions = refl; kept = refl }

pub connects_soundly : (old : Within) (held : Held) (connection : ℕ) → is_some old.core ≡ true → Holds connection (Some None) old.held held → IsSoundWithin old → IsSoundWithin (with_held old held)
connects_soundly old held connection up holds sound = fewer_sound old.grants old.disk old.core old.held held old.notes (none_more connection old.held held holds) (λ down none. absurd (let e : true ≡ false = sym up ∙ down in cc)) sound

-- a connection of a service that is up
pub connects : (old : Within) (held : Held) (connection : ℕ) → old.notes.is_spent ≡ false → is_some old.core ≡ true → Holds connection (Some None) old.held held → IsSoundWithin old
    → Goes (SeesIn old) (SeesIn (with_held old held)) (λ old new. Connected old connection true new)
connects old held connection live up holds sound =
    goes_from old (with_held old held) (λ old new. Connected old connection true new) live (connects_soundly old held connection up holds sound)
    (λ start history stands. record {
      later = history;
      stands = fewer_stand old.grants old.disk old.core old.held held old.notes start history (none_more connection old.held held holds) stands;
      does = record { keeps = keeps_all start history old held live; keeps_store = keeps_store start history old held; answered = sym up; living = living_is connection (Some None) old.held held holds };
    })

pub stays_soundly : (old : Within) → IsSoundWithin old → IsSoundWithin (with_held old old.held)
stays_soundly old sound = fewer_sound old.grants old.disk old.core old.held old.held old.notes (λ connection session at. at) (λ down none. none) sound

-- none is made where it is down
pub refuses_connection : (old : Within) (connection : ℕ) → old.notes.is_spent ≡ false → is_some old.core ≡ false → IsSoundWithin old
    → Goes (SeesIn old) (SeesIn (with_held old old.held)) (λ old new. Connected old connection false new)
refuses_connection old connection live down sound =
    goes_from old (with_held old old.held) (λ old new. Connected old connection false new) live (stays_soundly old sound)
    (λ start history stands. record {
      later = history;
      stands = fewer_stand old.grants old.disk old.core old.held old.held old.notes start history (λ connection session at. at) stands;
      does = record { keeps = keeps_all start history old old.held live; keeps_store = keeps_store start history old old.held; answered = sym down; living = λ other. refl };
    })

pub reaps_soundly : (old : Within) (held : Held) (connection : ℕ) → Holds connection None old.held held → (held_at old.held connection ≡ None → held ≡ old.held) → IsSoundWithin old → IsSoundWithin (with_held old held)
reaps_soundly old held connection holds same sound =
    fewer_sound old.grants old.disk old.core old.held held old.notes (one_less connection old.held held holds) (λ down none. same (ap (λ (h : Held). held_at h connection) none) ∙ none) sound

pub reaps : (old : Within) (held : Held) (connection : ℕ) → old.notes.is_spent ≡ false → Holds connection None old.held held → (held_at old.held connection ≡ None → held ≡ old.held) → IsSoundWithin old
    → Goes (SeesIn old) (SeesIn (with_held old held)) (λ old new. Reaped old connection new)
reaps old held connection live holds same sound =
    goes_from old (with_held old held) (λ old new. Reaped old connection new) live (reaps_soundly old held connection holds same sound)
    (λ start history stands. record {
      later = history;
      stands = fewer_stand old.grants old.disk old.core old.held held old.notes start history (one_less connection old.held held holds) stands;
      does = record { keeps = keeps_all start history old held live; keeps_store = keeps_store start history old held; living = living_is connection None old.held held holds };
    })

-- ---- stops

abbrev pub stopping : Within → Option ℕ → Within
stopping old stop = record old { disk = record old.disk { stop = stop }; notes = called old.notes }

stop_fits : (core : Core) (disk : DiskState) (stop : Option ℕ) → Fits core disk → Fits core (record disk { stop = stop })
stop_fits core disk stop fits = record {
  log = record { append = record { live = fits.log.append.live; store = fits.log.append.store; counted = fits.log.append.counted; settled = fits.log.append.settled }; journal = fits.log.journal; so_far = fits.log.so_far };
  journal = fits.journal;
  reads = fits.reads;
  tables = fits.tables;
  book = fits.book;
  source = fits.source;
  sequences = fits.sequences;
  current = fits.current;
}

stop_sound : (grants : Grants) (disk : DiskState) (core : Option Core) (held : Held) (notes : Notes) (stop : Option ℕ) → IsSound grants disk core held notes → IsSound grants (record disk { stop = stop }) core held (called notes)
stop_sound grants disk None held notes stop down = let same = none_down disk held held notes (λ none. none) down in record { none = same.none; base = same.base; leaves = same.leaves; faults = same.faults; crashes = same.crashes; reads_now = same.reads_now; settled = same.settled }
stop_sound grants disk (Some core) held notes stop up = record {
  fits = stop_fits core disk stop up.fits;
  granted = up.granted;
  faults = still_room disk.faults disk.faults notes (called notes) up.faults refl (omega arith) refl;
  settled = up.settled;
  room = omega (arith, up.room);
  few = omega (arith, up.few);
  crashes = omega (arith, up.crashes);
  each = up.each;
  counted = λ connection session at. later_call session.ltxid.number notes.calls (up.counted connection session at);
  unmade_belong = up.unmade_belong;
  apart = up.apart;
}

stop_stands : (grants : Grants) (disk : DiskState) (core : Option Core) (held : Held) (notes : Notes) (stop : Option ℕ) (start : Base) (history : List Happened) → Stands grants disk core held notes start history → Stands grants (record disk { stop = stop }) core held (called notes) start history
stop_stands grants disk None held notes stop start history stands = stands
stop_stands grants disk (Some core) held notes stop start history stands = record {
  server = stands.server;
  runs = stands.runs;
  is_base = stands.is_base;
  stands = record { power = stands.stands.power; plain = record { stored = stands.stands.plain.stored; opening = stands.stands.plain.opening; grants = stands.stands.plain.grants }; count = stands.stands.count; attends = stands.stands.attends };
}

pub stops_soundly : (old : Within) (stop : Option ℕ) → IsSoundWithin old → IsSoundWithin (stopping old stop)
stops_soundly old stop sound = stop_sound old.grants old.disk old.core old.held old.notes stop sound

pub sets_stop : (old : Within) (stop : Option ℕ) → old.notes.is_spent ≡ false → IsSoundWithin old → Goes (SeesIn old) (SeesIn (stopping old stop)) (λ old new. new ≡ with_stop old stop)
sets_stop old stop live sound =
    goes_from old (stopping old stop) (λ old new. new ≡ with_stop old stop) live (stops_soundly old stop sound)
    (λ start history stands. record { later = history; stands = stop_stands old.grants old.disk old.core old.held old.notes stop start history stands; does = refl })
