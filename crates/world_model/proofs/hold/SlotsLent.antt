-- The pool counts the slots that requests hold, behind each event.
use Rattle.std.proofs.Common.{◌≡◌, refl, sym, ap, subst, ◌∙◌, Bool, true, false, ℕ, ◌+◌, ◌-◌, ◌≤◌, ◌&&◌, cond, List, count_by, Option, Some, if◌then◌else◌, arith}
use Rattle.std.specs.Prelude.{◌==◌, not, nat_le, drop}
use Rattle.std.specs.Option.{option_map_or}
use Rattle.std.proofs.lemmas.Bool.{and_parts, and_from}
use Rattle.std.proofs.lemmas.Bool.Decides.{nat_tests}
use Rattle.pool_core.specs.declared.answers.Take.TheVariants as take
use Rattle.pool_core.specs.meaning.Slots.{Slots, joined, without, ahead_of, has_to_wait, lends, take_answer, after_take}
use Rattle.client_model.specs.declared.act.Hold.{Hold}
use Rattle.client_model.specs.declared.act.Hold.TheVariants as hold
use Rattle.client_model.specs.meaning.Released.{released}
use Rattle.client_model.specs.Released.{has_slot}
use Rattle.world_model.specs.meaning.Settings.{Setting}
use Rattle.world_model.specs.meaning.Clients.{Doing, Client, client_at, with_client, after_hold}
use Rattle.world_model.specs.Traced.{Course, courses_of_clients}
use Rattle.world_model.proofs.hold.IdleEvents.{never_waits}
use Rattle.world_model.proofs.events.Tests.{eq_from, eq_to, le_from, le_to, one_if, none_if}
use Rattle.world_model.proofs.finish.Counts.{clients_count, with_count}

-- COUNTS ------------------------------------------------------------------------------------------

-- the request in course has a slot
abbrev pub slot_now : Option Doing → Bool
slot_now now = option_map_or (λ doing. has_slot doing.talk.phase) now false

abbrev pub holds_slot_now : Client → Bool
holds_slot_now client = slot_now client.now

pub slots_count : (setting : Setting) (number : ℕ) (clients : List Client) → count_by (λ course. has_slot course.phase) (courses_of_clients setting number clients) ≡ count_by holds_slot_now clients
slots_count setting number clients =
    clients_count (λ (course : Course). has_slot course.phase) (λ (doing : Doing). has_slot doing.talk.phase) (λ client place past. refl) (λ same client place doing. refl) setting number clients

-- THE POOL ----------------------------------------------------------------------------------------

-- as many slots, or one more, which there was
pub data IsTaken (a : Slots) : Bool → Slots → Type 0 where
  NoneTaken : (b : Slots) → b.lent ≡ a.lent → b.max ≡ a.max → IsTaken a false b
  OneTaken : (b : Slots) → b.lent ≡ a.lent + 1 → b.max ≡ a.max → a.lent + 1 ≤ a.max → IsTaken a true b

has_room : (max lent ahead : ℕ) → nat_le max (lent + ahead) ≡ false → lent + 1 ≤ max
has_room max lent ahead is = grind (arith, nat_tests)

pub waiting_takes : (pool : Slots) (client : ℕ) → take_answer pool client ≡ take.Waiting → IsTaken pool false (after_take pool client)
waiting_takes pool client answer = by (has_to_wait pool client) answer
  where
    by : (waits : Bool) → (if waits then take.Waiting else lends pool.idle) ≡ take.Waiting
        → IsTaken pool false (if waits then record pool { queue = joined pool.queue client } else record pool { lent = pool.lent + 1; queue = without pool.queue client; idle = drop 1 pool.idle })
    by true is = NoneTaken _ refl refl
    by false is = absurd (never_waits pool.idle is)

pub slot_takes : (pool : Slots) (client : ℕ) → (take_answer pool client ≡ take.Waiting → ⊥) → IsTaken pool true (after_take pool client)
slot_takes pool client answer = by (has_to_wait pool client) refl answer
  where
    by : (waits : Bool) → has_to_wait pool client ≡ waits → ((if waits then take.Waiting else lends pool.idle) ≡ take.Waiting → ⊥)
        → IsTaken pool true (if waits then record pool { queue = joined pool.queue client } else record pool { lent = pool.lent + 1; queue = without pool.queue client; idle = drop 1 pool.idle })
    by true is other = absurd (other refl)
    by false is other = OneTaken _ refl refl (has_room pool.max pool.lent (ahead_of pool.queue client) is)

-- THE TEST ----------------------------------------------------------------------------------------

abbrev pub lent_test : Slots → List Client → Bool
lent_test pool clients = (pool.lent == count_by holds_slot_now clients) && nat_le pool.lent pool.max

-- the slot of a request that is over comes back
abbrev slot_after : Hold → Bool
slot_after hold.Keep = true
slot_after _ = false

released_lent : (pool : Slots) (client connection : ℕ) (held : Hold) → (released pool client connection true held).lent ≡ (if slot_after held then pool.lent else pool.lent - 1)
released_lent pool client connection hold.Keep = refl
released_lent pool client connection hold.GiveBack = refl
released_lent pool client connection hold.Drop = refl

released_max : (pool : Slots) (client connection : ℕ) (holds : Bool) (held : Hold) → (released pool client connection holds held).max ≡ pool.max
released_max pool client connection holds hold.Keep = refl
released_max pool client connection holds hold.GiveBack = refl
released_max pool client connection true hold.Drop = refl
released_max pool client connection false hold.Drop = refl

lent_is : (pool : Slots) (clients : List Client) → pool.lent ≡ count_by holds_slot_now clients → pool.lent ≤ pool.max → lent_test pool clients ≡ true
lent_is pool clients count most = and_from (pool.lent == count_by holds_slot_now clients) (nat_le pool.lent pool.max) (eq_to pool.lent (count_by holds_slot_now clients) count) (le_to pool.lent pool.max most)

lent_count : (pool : Slots) (clients : List Client) → lent_test pool clients ≡ true → pool.lent ≡ count_by holds_slot_now clients
lent_count pool clients here = eq_from pool.lent (count_by holds_slot_now clients) (and_parts (pool.lent == count_by holds_slot_now clients) (nat_le pool.lent pool.max) here).0

lent_most : (pool : Slots) (clients : List Client) → lent_test pool clients ≡ true → pool.lent ≤ pool.max
lent_most pool clients here = le_from pool.lent pool.max (and_parts (pool.lent == count_by holds_slot_now clients) (nat_le pool.lent pool.max) here).1

-- the request in course, or none, has so many slots afterwards
slot_kept : (setting : Setting) (number : ℕ) (client : Client) (next : Doing) (held : Hold) → (held ≡ hold.Keep → has_slot next.talk.phase ≡ true) → holds_slot_now (after_hold setting number client next held) ≡ slot_after held
slot_kept setting number client next hold.Keep goes = goes refl
slot_kept setting number client next hold.GiveBack goes = refl
slot_kept setting number client next hold.Drop goes = refl

step_by : (held : Hold) (lent base count after had now : ℕ) → base ≡ lent + (1 - had) → had ≤ 1 → after + had ≡ count + now → now ≡ cond (slot_after held) 1 0 → lent ≡ count → (if slot_after held then base else base - 1) ≡ after
step_by hold.Keep lent base count after had now more few moved is same = omega arith
step_by hold.GiveBack lent base count after had now more few moved is same = omega arith
step_by hold.Drop lent base count after had now more few moved is same = omega arith

less_by : (held : Hold) (base max : ℕ) → base ≤ max → (if slot_after held then base else base - 1) ≤ max
less_by hold.Keep base max most = most
less_by hold.GiveBack base max most = omega arith
less_by hold.Drop base max most = omega arith

-- a request with a slot, taken now or held before, goes on or is over
pub slot_step : (setting : Setting) (clients : List Client) (number : ℕ) (client : Client) (next : Doing) (held : Hold) (pool : Slots) (taken : Bool) (base : Slots) (connection : ℕ) → client_at clients number ≡ Some client
    → IsTaken pool taken base → holds_slot_now client ≡ not taken → (held ≡ hold.Keep → has_slot next.talk.phase ≡ true)
    → lent_test pool clients ≡ true → lent_test (released base number connection true held) (with_client clients number (after_hold setting number client next held)) ≡ true
slot_step setting clients number client next held pool _ _ connection here (NoneTaken base lent max) had goes old =
    let after : List Client = with_client clients number (after_hold setting number client next held) in
    let moved = with_count holds_slot_now clients number client (after_hold setting number client next held) here in
    let one : ◌≡◌ {A = ℕ} (cond (holds_slot_now client) 1 0) 1 = one_if (holds_slot_now client) had in
    let now : ◌≡◌ {A = ℕ} (cond (holds_slot_now (after_hold setting number client next held)) 1 0) (cond (slot_after held) 1 0) = ap (λ (test : Bool). cond test 1 0) (slot_kept setting number client next held goes) in
    let more : base.lent ≡ pool.lent + (1 - cond (holds_slot_now client) 1 0) = omega arith in
    let few : cond (holds_slot_now client) 1 0 ≤ 1 = omega arith in
    let below : base.lent ≤ base.max = (let most = lent_most pool clients old in omega arith) in
    let released_is : (released base number connection true held).max ≡ base.max = released_max base number connection true held in
    lent_is (released base number connection true held) after
    (released_lent base number connection held
    ∙ step_by held pool.lent base.lent (count_by holds_slot_now clients) (count_by holds_slot_now after) (cond (holds_slot_now client) 1 0) (cond (holds_slot_now (after_hold setting number client next held)) 1 0) more few moved now
    (lent_count pool clients old))
    (subst (λ (n : ℕ). (released base number connection true held).lent ≤ n) (sym released_is) (subst (λ (n : ℕ). n ≤ base.max) (sym (released_lent base number connection held)) (less_by held base.lent base.max below)))
slot_step setting clients number client next held pool _ _ connection here (OneTaken base lent max room) had goes old =
    let after : List Client = with_client clients number (after_hold setting number client next held) in
    let moved = with_count holds_slot_now clients number client (after_hold setting number client next held) here in
    let none : ◌≡◌ {A = ℕ} (cond (holds_slot_now client) 1 0) 0 = none_if (holds_slot_now client) had in
    let now : ◌≡◌ {A = ℕ} (cond (holds_slot_now (after_hold setting number client next held)) 1 0) (cond (slot_after held) 1 0) = ap (λ (test : Bool). cond test 1 0) (slot_kept setting number client next held goes) in
    let more : base.lent ≡ pool.lent + (1 - cond (holds_slot_now client) 1 0) = omega arith in
    let few : cond (holds_slot_now client) 1 0 ≤ 1 = omega arith in
    let below : base.lent ≤ base.max = omega arith in
    let released_is : (released base number connection true held).max ≡ base.max = released_max base number connection true held in
    lent_is (released base number connection true held) after
    (released_lent base number connection held
    ∙ step_by held pool.lent base.lent (count_by holds_slot_now clients) (count_by holds_slot_now after) (cond (holds_slot_now client) 1 0) (cond (holds_slot_now (after_hold setting number client next held)) 1 0) more few moved now
    (lent_count pool clients old))
    (subst (λ (n : ℕ). (released base number connection true held).lent ≤ n) (sym released_is) (subst (λ (n : ℕ). n ≤ base.max) (sym (released_lent base number connection held)) (less_by held base.lent base.max below)))

waits_lent : (pool : Slots) (client connection : ℕ) (held : Hold) → (held ≡ hold.GiveBack → ⊥) → (released pool client connection false held).lent ≡ pool.lent
waits_lent pool client connection hold.Keep other = refl
waits_lent pool client connection hold.GiveBack other = absurd (other refl)
waits_lent pool client connection hold.Drop other = refl

no_slot : (setting : Setting) (number : ℕ) (client : Client) (next : Doing) (held : Hold) → (held ≡ hold.Keep → has_slot next.talk.phase ≡ false) → holds_slot_now (after_hold setting number client next held) ≡ false
no_slot setting number client next hold.Keep goes = goes refl
no_slot setting number client next hold.GiveBack goes = refl
no_slot setting number client next hold.Drop goes = refl

-- a request without a slot waits on, or is over
pub wait_step : (setting : Setting) (clients : List Client) (number : ℕ) (client : Client) (next : Doing) (held : Hold) (pool base : Slots) (connection : ℕ) → client_at clients number ≡ Some client → IsTaken pool false base
    → holds_slot_now client ≡ false → (held ≡ hold.GiveBack → ⊥) → (held ≡ hold.Keep → has_slot next.talk.phase ≡ false) → lent_test pool clients ≡ true
    → lent_test (released base number connection false held) (with_client clients number (after_hold setting number client next held)) ≡ true
wait_step setting clients number client next held pool _ connection here (NoneTaken base lent max) had never goes old =
    let after : List Client = with_client clients number (after_hold setting number client next held) in
    let moved = with_count holds_slot_now clients number client (after_hold setting number client next held) here in
    let none : ◌≡◌ {A = ℕ} (cond (holds_slot_now client) 1 0) 0 = none_if (holds_slot_now client) had in
    let later : ◌≡◌ {A = ℕ} (cond (holds_slot_now (after_hold setting number client next held)) 1 0) 0 = none_if (holds_slot_now (after_hold setting number client next held)) (no_slot setting number client next held goes) in
    let count = lent_count pool clients old in
    let most = lent_most pool clients old in
    let same : (released base number connection false held).lent ≡ base.lent = waits_lent base number connection held never in
    let top : (released base number connection false held).max ≡ base.max = released_max base number connection false held in
    lent_is (released base number connection false held) after (omega arith) (omega arith)
