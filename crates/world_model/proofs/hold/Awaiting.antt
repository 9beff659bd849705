-- What the connection of a request, or the one that the pool lends it, is like at an event, and
-- that nothing is said on one that has ended.
use Rattle.std.proofs.Common.{◌≡◌, refl, sym, ap, subst, ◌∙◌, Bool, true, false, ℕ, zero, suc, ◌+◌, ◌<◌, ◌≤◌, ◌&&◌, cond, length, List, [], ◌∷◌, ◌++◌, count_by, drop, Option, Some, None, if◌then◌else◌, arith}
use Rattle.std.specs.Prelude.{◌==◌, nat_le, is_some}
use Rattle.std.specs.List.{list_all}
use Rattle.std.specs.Option.{option_map_or}
use Rattle.std.proofs.lemmas.Bool.{and_parts}
use Rattle.std.proofs.lemmas.Bool.Decides.{nat_tests}
use Rattle.std.proofs.lemmas.Option.{slice_get_within}
use Rattle.svc_values.specs.declared.entry.Ltxid.{Ltxid}
use Rattle.svc_values.specs.declared.frame.Down.{Down}
use Rattle.svc_values.specs.meaning.Same.{same_bool}
use Rattle.pool_core.specs.declared.answers.Take.TheVariants as take
use Rattle.pool_core.specs.declared.answers.Back.{Back}
use Rattle.pool_core.specs.meaning.Slots.{Slots, is_among, has_to_wait, joined, without, lends, take_answer, after_take}
use Rattle.client_model.specs.declared.input.Wants.TheVariants as wants
use Rattle.client_model.specs.meaning.Talk.{takes, wants_of}
use Rattle.client_model.specs.meaning.Terms.{Terms, Talk}
use Rattle.client_model.specs.Released.{has_slot}
use Rattle.world_model.specs.meaning.Acting.{closing}
use Rattle.world_model.specs.meaning.Clients.{Client, Doing, client_at, doing_of}
use Rattle.world_model.specs.records.Hold.{is_idle, holds_connection, is_held, waits_on}
use Rattle.world_model.specs.Orderly.{Orderly}
use Rattle.world_model.specs.meaning.Links.{Link, link_at}
use Rattle.world_model.specs.Sames.{all_with, each_pair}
use Rattle.world_model.specs.Traced.{Traced, Course, course_now, courses_of}
use Rattle.world_model.proofs.script.ClientsReady.{frame_slot}
use Rattle.world_model.proofs.finish.Counts.{with_count}
use Rattle.world_model.proofs.events.Courses.{held_busy}
use Rattle.world_model.proofs.events.Happened.{at_event}
use Rattle.world_model.proofs.hold.Held.{doing_course, held_now, no_more}
use Rattle.world_model.proofs.events.Moves.{IsDoing}
use Rattle.world_model.proofs.wire.Saying.{has_next, is_hushed, said, dead_silent}
use Rattle.world_model.proofs.wire.SentLinks.{differ, passes_at, IsHeld}
use Rattle.world_model.proofs.hold.SlotsAll.{try_slot, held_by}
use Rattle.world_model.proofs.hold.SlotsLent.{slot_now, holds_slot_now, slots_count}
use Rattle.world_model.proofs.script.Strangers.{frame_now}
use Rattle.world_model.proofs.script.TalkRests.{frame_holds}
use Rattle.world_model.proofs.events.Tests.{eq_from, one_if}

-- SLOTS -------------------------------------------------------------------------------------------

slots_some : (clients : List Client) (number : ℕ) (client : Client) → client_at clients number ≡ Some client → holds_slot_now client ≡ true → 0 < count_by holds_slot_now clients
slots_some clients number client here slot =
    let moved = with_count holds_slot_now clients number client (record client { now = None }) here in
    let one : ◌≡◌ {A = ℕ} (cond (holds_slot_now client) 1 0) 1 = one_if (holds_slot_now client) slot in
    omega arith

-- where a request has a slot, one is lent
slot_lent : (t : Traced) → Orderly t → (number : ℕ) (client : Client) → client_at t.machine.clients number ≡ Some client → slot_now client.now ≡ true → 0 < t.machine.pool.lent
slot_lent t inv number client here slot =
    let parts = and_parts (t.machine.pool.lent == count_by (λ course. has_slot course.phase) (courses_of t)) (nat_le t.machine.pool.lent t.machine.pool.max) inv.hold.lent in
    let many : t.machine.pool.lent ≡ count_by holds_slot_now t.machine.clients = eq_from t.machine.pool.lent (count_by (λ course. has_slot course.phase) (courses_of t)) parts.0 ∙ slots_count t.setting 1 t.machine.clients in
    subst (λ (n : ℕ). 0 < n) (sym many) (slots_some t.machine.clients number client here slot)

-- A request that may try to connect has a slot.
pub tries_lent : (t : Traced) → Orderly t → (number : ℕ) (client : Client) (doing : Doing) → client_at t.machine.clients number ≡ Some client
    → doing_of t.setting.terms (t.machine.event + 1) t.machine.tick client ≡ Some doing → wants_of t.setting.terms doing.talk t.machine.tick ≡ wants.Try → 0 < t.machine.pool.lent
tries_lent t inv number client doing here does wanted =
    slot_lent t inv number client here (held_by t.setting (at_event t.machine) doing client.now client.next does (try_slot t.setting.terms doing.talk doing.talk.phase t.machine.tick wanted))

-- NUMBERS -----------------------------------------------------------------------------------------

other_number : (number other : ℕ) → differ number other ≡ true → (other == number) ≡ false
other_number number other apart = grind (arith, nat_tests)

none_among : (number : ℕ) (numbers : List ℕ) → all_with (differ number) numbers ≡ true → is_among number numbers ≡ false
none_among number [] apart = refl
none_among number (other ∷ numbers) apart =
    let parts = and_parts (differ number other) (all_with (differ number) numbers) apart in
    rw (other_number number other parts.0, none_among number numbers parts.1) refl

opened_within : (t : Traced) → Orderly t → (number : ℕ) (link : Link) → link_at t.machine.links number ≡ Some link → number ≤ t.machine.pool.opened
opened_within t inv zero link there = absurd (let none : ⊥ = cc in none)
opened_within t inv (suc index) link there =
    let all : t.machine.pool.opened ≡ length t.machine.links =
    eq_from t.machine.pool.opened (length t.machine.links) (and_parts (t.machine.pool.opened == length t.machine.links) (nat_le t.machine.pool.drained t.machine.pool.opened) inv.hold.opened).0 in
    let within : index < length t.machine.links = slice_get_within t.machine.links index link there in
    omega arith

-- THE CONNECTION OF A REQUEST ---------------------------------------------------------------------

-- A request that awaits a frame has a connection that was opened and is not idle, and a slot.
pub record Awaits (t : Traced) (doing : Doing) : Type 0 where
  pub connection : ℕ
  pub link : Link
  pub has : doing.connection ≡ Some connection
  pub there : link_at t.machine.links connection ≡ Some link
  pub lent : 0 < t.machine.pool.lent
  pub opened : connection ≤ t.machine.pool.opened
  pub busy : is_among connection t.machine.pool.idle ≡ false

module _ (t : Traced) (inv : Orderly t) (number : ℕ) (client : Client) (doing : Doing) (here : client_at t.machine.clients number ≡ Some client) (now : client.now ≡ Some doing) (lent : 0 < t.machine.pool.lent) where
  awaits_on : (connection : ℕ) → doing.connection ≡ Some connection → (found : Option Link) → link_at t.machine.links connection ≡ found
      → option_map_or (waits_on (course_now t.setting number (length client.past) doing)) found false ≡ true → Awaits t doing
  awaits_on connection has None there waits = absurd (let none : ⊥ = cc in none)
  awaits_on connection has (Some link) there waits = record {
    connection = connection;
    link = link;
    has = has;
    there = there;
    lent = lent;
    opened = opened_within t inv connection link there;
    busy = none_among connection t.machine.pool.idle (no_more connection t.machine.pool.idle (held_busy t connection link number client doing inv.hold.had there here now has));
  }

  awaits_at : (connection : Option ℕ) → doing.connection ≡ connection → same_bool (is_some connection) true ≡ true
      → option_map_or (λ n. option_map_or (waits_on (course_now t.setting number (length client.past) doing)) (link_at t.machine.links n) false) connection true ≡ true → Awaits t doing
  awaits_at None has same waits = absurd (let none : ⊥ = cc in none)
  awaits_at (Some connection) has same waits = awaits_on connection has (link_at t.machine.links connection) refl waits

pub awaits_frame : (t : Traced) → Orderly t → (number : ℕ) (client : Client) (doing : Doing) → client_at t.machine.clients number ≡ Some client
    → doing_of t.setting.terms (t.machine.event + 1) t.machine.tick client ≡ Some doing → wants_of t.setting.terms doing.talk t.machine.tick ≡ wants.Frame → Awaits t doing
awaits_frame t inv number client doing here does wanted =
    let is : IsDoing t.setting (at_event t.machine) number doing wants.Frame = record { client = client; here = here; does = does; wants = wanted } in
    let now : client.now ≡ Some doing = frame_now t.setting (at_event t.machine) number doing is in
    let course : Course = course_now t.setting number (length client.past) doing in
    let parts = and_parts (same_bool (is_some doing.connection) (holds_connection doing.talk.phase)) (option_map_or (λ n. option_map_or (waits_on course) (link_at t.machine.links n) false) doing.connection true)
    (doing_course (is_held t) t number client doing inv.hold.held here now) in
    let lent : 0 < t.machine.pool.lent =
    slot_lent t inv number client here (held_by t.setting (at_event t.machine) doing client.now client.next does (frame_slot t.setting.terms doing.talk doing.talk.phase t.machine.tick wanted)) in
    awaits_at t inv number client doing here now lent doing.connection refl
    (subst (λ (b : Bool). same_bool (is_some doing.connection) b ≡ true) (frame_holds t.setting.terms doing.talk doing.talk.phase t.machine.tick wanted) parts.0) parts.1

-- THE CONNECTION THAT IS LENT ---------------------------------------------------------------------

-- A connection that the pool lends is open and has an identifier, and behind that it is idle no
-- more.
pub record IsLent (t : Traced) (connection : ℕ) (after : Slots) : Type 0 where
  pub link : Link
  pub ltxid : Ltxid
  pub there : link_at t.machine.links connection ≡ Some link
  pub is_open : link.is_open ≡ true
  pub held : link.held ≡ Some ltxid
  pub lent : 0 < after.lent
  pub opened : connection ≤ after.opened
  pub busy : is_among connection after.idle ≡ false

module _ (t : Traced) (inv : Orderly t) (number connection : ℕ) where
  abbrev with_slot : Slots
  with_slot = record t.machine.pool { lent = t.machine.pool.lent + 1; queue = without t.machine.pool.queue number; idle = drop 1 t.machine.pool.idle }

  lent_held : (link : Link) (held : Option Ltxid) → link_at t.machine.links connection ≡ Some link → link.held ≡ held → link.is_open ≡ true → is_some held ≡ true → is_among connection (drop 1 t.machine.pool.idle) ≡ false → IsLent t connection with_slot
  lent_held link None there has is_open some busy = absurd (let none : ⊥ = cc in none)
  lent_held link (Some ltxid) there has is_open some busy = record {
    link = link;
    ltxid = ltxid;
    there = there;
    is_open = is_open;
    held = has;
    lent = omega arith;
    opened = opened_within t inv connection link there;
    busy = busy;
  }

  lent_on : (found : Option Link) → link_at t.machine.links connection ≡ found → option_map_or is_idle found false ≡ true → is_among connection (drop 1 t.machine.pool.idle) ≡ false → IsLent t connection with_slot
  lent_on None there idle busy = absurd (let none : ⊥ = cc in none)
  lent_on (Some link) there idle busy =
      let parts = and_parts link.is_open (is_some link.held && _) idle in
      lent_held link link.held there refl parts.0 (and_parts (is_some link.held) _ parts.1).0 busy

  lent_first : (idle : List ℕ) → t.machine.pool.idle ≡ idle → lends idle ≡ take.Lent connection → IsLent t connection with_slot
  lent_first [] is answer = absurd (let none : ⊥ = cc in none)
  lent_first (first ∷ later) is answer =
      let same : first ≡ connection = cc in
      let known : IsHeld t.setting (at_event t.machine) = held_now t inv in
      let idles : list_all (passes_at is_idle t.machine.links) (first ∷ later) ≡ true = subst (λ (all : List ℕ). list_all (passes_at is_idle t.machine.links) all ≡ true) is known.idle in
      let apart : each_pair differ (first ∷ later) ≡ true = subst (λ (all : List ℕ). each_pair differ all ≡ true) is known.apart in
      let mine : passes_at is_idle t.machine.links connection ≡ true =
      subst (λ (n : ℕ). passes_at is_idle t.machine.links n ≡ true) same (and_parts (passes_at is_idle t.machine.links first) (list_all (passes_at is_idle t.machine.links) later) idles).0 in
      let busy : is_among connection later ≡ false = none_among connection later (subst (λ (n : ℕ). all_with (differ n) later ≡ true) same (and_parts (all_with (differ first) later) (each_pair differ later) apart).0) in
      lent_on (link_at t.machine.links connection) refl mine (subst (λ (all : List ℕ). is_among connection (drop 1 all) ≡ false) (sym is) busy)

  lent_by : (waits : Bool) → (if waits then take.Waiting else lends t.machine.pool.idle) ≡ take.Lent connection
      → IsLent t connection (if waits then record t.machine.pool { queue = joined t.machine.pool.queue number } else with_slot)
  lent_by true answer = absurd (let none : ⊥ = cc in none)
  lent_by false answer = lent_first t.machine.pool.idle refl answer

  pub is_lent : take_answer t.machine.pool number ≡ take.Lent connection → IsLent t connection (after_take t.machine.pool number)
  is_lent answer = lent_by (has_to_wait t.machine.pool number) answer

-- Where the pool gives leave to open a connection, a slot is lent.
pub open_lent : (pool : Slots) (number : ℕ) → take_answer pool number ≡ take.Open → 0 < (after_take pool number).lent
open_lent pool number answer = by (has_to_wait pool number) answer
  where
    by : (waits : Bool) → (if waits then take.Waiting else lends pool.idle) ≡ take.Open
        → 0 < (if waits then record pool { queue = joined pool.queue number } else record pool { lent = pool.lent + 1; queue = without pool.queue number; idle = drop 1 pool.idle }).lent
    by true answer = absurd (let none : ⊥ = cc in none)
    by false answer = omega arith

-- IDLE CONNECTIONS --------------------------------------------------------------------------------

-- each of these is open, and stands there once
abbrev pub AreOpenOnce : List Link → List ℕ → Type 0
AreOpenOnce links [] = Unit {0}
AreOpenOnce links (number ∷ numbers) = ((link : Link) → link_at links number ≡ Some link → link.is_open ≡ true) × ((is_among number numbers ≡ false) × AreOpenOnce links numbers)

idle_open : (found : Option Link) (link : Link) → option_map_or is_idle found false ≡ true → found ≡ Some link → link.is_open ≡ true
idle_open None link idle is = absurd (let none : ⊥ = cc in none)
idle_open (Some one) link idle is = let same : one ≡ link = cc in ap (λ (l : Link). l.is_open) (sym same) ∙ (and_parts one.is_open (is_some one.held && _) idle).0

all_idle : (links : List Link) (numbers : List ℕ) → list_all (passes_at is_idle links) numbers ≡ true → each_pair differ numbers ≡ true → AreOpenOnce links numbers
all_idle links [] idle apart = tt
all_idle links (number ∷ numbers) idle apart =
    let one = and_parts (passes_at is_idle links number) (list_all (passes_at is_idle links) numbers) idle in
    let other = and_parts (all_with (differ number) numbers) (each_pair differ numbers) apart in
    (λ link there. idle_open (link_at links number) link one.0 there, (none_among number numbers other.0, all_idle links numbers one.1 other.1))

pub idle_open_once : (t : Traced) → Orderly t → AreOpenOnce t.machine.links t.machine.pool.idle
idle_open_once t inv = let known : IsHeld t.setting (at_event t.machine) = held_now t inv in all_idle t.machine.links t.machine.pool.idle known.idle known.apart

-- FRAMES ------------------------------------------------------------------------------------------

-- Where a frame is taken from a connection that has ended nothing is sent, whatever the request
-- does.
pub dead_sends_none : (terms : Terms) (talk : Talk) (frame : Down) (now : ℕ) (back : Back) → (takes terms talk talk.phase frame false now).1.send ++ closing (takes terms talk talk.phase frame false now).1.hold back ≡ []
dead_sends_none terms talk frame now back =
    dead_silent talk.phase (has_next talk) false (is_hushed frame) (takes terms talk talk.phase frame false now).0.phase (takes terms talk talk.phase frame false now).1.send (takes terms talk talk.phase frame false now).1.hold back
    (said terms talk talk.phase frame false now refl) refl
