-- The requests that wait, as the invariant reads them off all requests, and client by client.
use Rattle.std.proofs.Common.{◌≡◌, ◌≢◌, refl, sym, ap, ◌∙◌, Bool, true, false, ℕ, suc, zero, ◌+◌, ◌<◌, ◌&&◌, cond, length, List, [], ◌∷◌, ◌++◌, filter, filter_map, flat_map, count_by, Option, Some, None, if◌then◌else◌, arith}
use Rattle.std.specs.Prelude.{◌==◌, not, slice_get}
use Rattle.std.specs.List.{list_all, cons_option}
use Rattle.std.specs.Option.{option_map_or}
use Rattle.std.proofs.Math.Path.{fun_ext}
use Rattle.std.proofs.lemmas.Bool.{and_parts, and_from}
use Rattle.world_model.specs.meaning.Settings.{Setting}
use Rattle.world_model.specs.meaning.Clients.{Past, Doing, Client}
use Rattle.world_model.specs.Traced.{Traced, Course, course_now, courses_from, courses_of_clients, courses_of}
use Rattle.world_model.specs.records.Hold.{is_queued, joined_at, joined_by, are_queued}
use Rattle.world_model.specs.Sames.{each_pair, rise}
use Rattle.world_model.proofs.events.Tests.{eq_from, eq_to}
use Rattle.world_model.proofs.finish.Counts.{goes_so, clients_count}
use Rattle.world_model.proofs.hold.QueueKept.{queued, one_join, join_now, joins, IsQueue}

-- THE REQUESTS OF A CLIENT ------------------------------------------------------------------------

-- those of the client, if it is this one
abbrev mine : Bool → Option Doing → List ℕ
mine same now = if same then join_now now else []

from_joins : (setting : Setting) (number client place : ℕ) (past : List Past) (now : Option Doing) (rest : List Course)
    → joined_by (courses_from setting client place past now ++ rest) number ≡ mine (client == number) now ++ joined_by rest number
from_joins setting number client place [] None rest = by (client == number)
  where
    by : (same : Bool) → joined_by rest number ≡ mine same None ++ joined_by rest number
    by true = refl
    by false = refl
from_joins setting number client place [] (Some doing) rest = by (queued doing) (client == number) (joined_at doing.steps) refl
  where
    others : List Course
    others = filter (λ course. is_queued course.phase && (course.owner.client == number)) rest

    at : (found : Option ℕ) → cons_option found (filter_map (λ course. joined_at course.steps) others) ≡ one_join true found ++ filter_map (λ course. joined_at course.steps) others
    at None = refl
    at (Some event) = refl

    by : (waits same : Bool) (found : Option ℕ) → joined_at doing.steps ≡ found
        → filter_map (λ course. joined_at course.steps) (cond (waits && same) (course_now setting client place doing ∷ others) others) ≡ (if same then one_join waits found else []) ++ filter_map (λ course. joined_at course.steps) others
    by true true found is = ap (λ (f : Option ℕ). cons_option f (filter_map (λ (course : Course). joined_at course.steps) others)) is ∙ at found
    by true false found is = refl
    by false true found is = refl
    by false false found is = refl
from_joins setting number client place (one ∷ past) now rest = from_joins setting number client (place + 1) past now rest

-- ALL CLIENTS -------------------------------------------------------------------------------------

not_mine : (client number : ℕ) (now : Option Doing) (rest : List ℕ) → client ≢ number → mine (client == number) now ++ rest ≡ rest
not_mine client number now rest differ = by (client == number) refl
  where
    by : (same : Bool) → (client == number) ≡ same → mine same now ++ rest ≡ rest
    by true is = absurd (differ (eq_from client number is))
    by false is = refl

later_none : (setting : Setting) (number start : ℕ) (clients : List Client) → number < start → joined_by (courses_of_clients setting start clients) number ≡ []
later_none setting number start [] below = refl
later_none setting number start (client ∷ clients) below =
    from_joins setting number start 0 client.past client.now (courses_of_clients setting (start + 1) clients)
    ∙ (not_mine start number client.now (joined_by (courses_of_clients setting (start + 1) clients) number) (λ same. let never : ⊥ = omega arith in never)
    ∙ later_none setting number (start + 1) clients (omega arith))

clients_joins : (setting : Setting) (number start index : ℕ) (clients : List Client) → number ≡ start + index
    → joined_by (courses_of_clients setting start clients) number ≡ option_map_or (λ (client : Client). join_now client.now) (slice_get clients index) []
clients_joins setting number start index [] same = none index
  where
    none : (index : ℕ) → [] ≡ option_map_or (λ (client : Client). join_now client.now) (slice_get [] index) []
    none zero = refl
    none (suc index) = refl
clients_joins setting number start zero (client ∷ clients) same =
    from_joins setting number start 0 client.past client.now (courses_of_clients setting (start + 1) clients)
    ∙ (ap (λ (rest : List ℕ). mine (start == number) client.now ++ rest) (later_none setting number (start + 1) clients (omega arith)) ∙ own (start == number) (let at : start ≡ number = omega arith in eq_to start number at) (join_now client.now))
  where
    plain : (xs : List ℕ) → xs ++ [] ≡ xs
    plain [] = refl
    plain (x ∷ xs) = ap (λ (rest : List ℕ). x ∷ rest) (plain xs)

    own : (test : Bool) → test ≡ true → (joined : List ℕ) → (if test then joined else []) ++ [] ≡ joined
    own true is joined = plain joined
    own false is joined = absurd (let never : ⊥ = cc in never)
clients_joins setting number start (suc index) (client ∷ clients) same =
    from_joins setting number start 0 client.past client.now (courses_of_clients setting (start + 1) clients)
    ∙ (not_mine start number client.now (joined_by (courses_of_clients setting (start + 1) clients) number) (λ e. let never : ⊥ = omega arith in never)
    ∙ clients_joins setting number (start + 1) index clients (omega arith))

joined_are : (setting : Setting) (clients : List Client) (number : ℕ) → joined_by (courses_of_clients setting 1 clients) number ≡ joins clients number
joined_are setting clients zero = later_none setting 0 1 clients (omega arith)
joined_are setting clients (suc index) = clients_joins setting (suc index) 1 index clients (omega arith)

-- THE TEST ----------------------------------------------------------------------------------------

abbrev queue_test : (ℕ → List ℕ) → ℕ → List ℕ → Bool
queue_test joined count queue =
    rise (flat_map joined queue) && (list_all (λ client. length (joined client) == 1) queue && (each_pair (λ a b. not (a == b)) queue && (length queue == count)))

test_is : (t : Traced) → are_queued t ≡ queue_test (joins t.machine.clients) (count_by (goes_so queued) t.machine.clients) t.machine.pool.queue
test_is t =
    let joined : ◌≡◌ {A = ℕ → List ℕ} (joined_by (courses_of t)) (joins t.machine.clients) = fun_ext (joined_are t.setting t.machine.clients) in
    ap (λ (f : ℕ → List ℕ). queue_test f (count_by (λ (course : Course). is_queued course.phase) (courses_of t)) t.machine.pool.queue) joined
    ∙ ap (λ (n : ℕ). queue_test (joins t.machine.clients) n t.machine.pool.queue)
    (clients_count (λ (course : Course). is_queued course.phase) queued (λ client place past. refl) (λ setting client place doing. refl) t.setting 1 t.machine.clients)

pub queue_from : (t : Traced) → are_queued t ≡ true → IsQueue t.machine.pool.queue t.machine.clients
queue_from t is =
    let queue : List ℕ = t.machine.pool.queue in
    let clients : List Client = t.machine.clients in
    let count : Bool = length queue == count_by (goes_so queued) clients in
    let one = and_parts (rise (flat_map (joins clients) queue)) (list_all (λ client. length (joins clients client) == 1) queue && (each_pair (λ a b. not (a == b)) queue && count)) (sym (test_is t) ∙ is) in
    let two = and_parts (list_all (λ client. length (joins clients client) == 1) queue) (each_pair (λ a b. not (a == b)) queue && count) one.1 in
    let three = and_parts (each_pair (λ a b. not (a == b)) queue) count two.1 in
    record { rises = one.0; once = two.0; apart_is = three.0; count = eq_from (length queue) (count_by (goes_so queued) clients) three.1 }

pub queue_to : (t : Traced) → IsQueue t.machine.pool.queue t.machine.clients → are_queued t ≡ true
queue_to t is =
    let queue : List ℕ = t.machine.pool.queue in
    let clients : List Client = t.machine.clients in
    let count : Bool = length queue == count_by (goes_so queued) clients in
    test_is t
    ∙ and_from (rise (flat_map (joins clients) queue)) (list_all (λ client. length (joins clients client) == 1) queue && (each_pair (λ a b. not (a == b)) queue && count)) is.rises
    (and_from (list_all (λ client. length (joins clients client) == 1) queue) (each_pair (λ a b. not (a == b)) queue && count) is.once
    (and_from (each_pair (λ a b. not (a == b)) queue) count is.apart_is (eq_to (length queue) (count_by (goes_so queued) clients) is.count)))
