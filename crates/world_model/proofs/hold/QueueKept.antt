-- The queue of the pool and the requests that wait, where one client goes on.
use Rattle.std.proofs.Common.{◌≡◌, ◌≢◌, refl, sym, ap, subst, ◌∙◌, Bool, true, false, ℕ, ◌+◌, ◌≤◌, cond, length, length-append, List, [], ◌∷◌, ◌++◌, flat_map, count_by, Option, Some, None, arith}
use Rattle.std.specs.Prelude.{◌==◌, nat_le}
use Rattle.std.specs.List.{list_all}
use Rattle.std.specs.Option.{option_map_or}
use Rattle.std.proofs.Math.Path.{fun_ext}
use Rattle.std.proofs.lemmas.Bool.{and_parts, and_from, not-true}
use Rattle.std.proofs.lemmas.Grind.{flat_map-append}
use Rattle.std.proofs.lemmas.List.Concat.{flat_map-cons}
use Rattle.pool_core.specs.meaning.Slots.{is_among, without}
use Rattle.world_model.specs.meaning.Clients.{Doing, Client, client_at, with_client}
use Rattle.world_model.specs.records.Hold.{is_queued, joined_at}
use Rattle.world_model.specs.Sames.{all_with, each_pair, rise}
use Rattle.world_model.proofs.events.Tests.{eq_from, eq_to}
use Rattle.world_model.proofs.events.AllLists.{weaker_all, append_all, one_all}
use Rattle.world_model.proofs.events.AllClients.{client_set, client_others}
use Rattle.world_model.proofs.finish.Counts.{going_passes, goes_so, with_count}
use Rattle.world_model.proofs.hold.QueueLists.{apart, pair_from, all_without, pairs_without, flat_without, none_with, without_long, flat_same, all_same, gone_with, none_each, among_all}

-- WHO WAITS ---------------------------------------------------------------------------------------

abbrev pub queued : Doing → Bool
queued doing = is_queued doing.talk.phase

-- the event at which a request that waits did so first
abbrev pub one_join : Bool → Option ℕ → List ℕ
one_join false joined = []
one_join true None = []
one_join true (Some event) = event ∷ []

abbrev pub join_now : Option Doing → List ℕ
join_now now = option_map_or (λ doing. one_join (queued doing) (joined_at doing.steps)) now []

abbrev pub joins : List Client → ℕ → List ℕ
joins clients number = option_map_or (λ client. join_now client.now) (client_at clients number) []

abbrev pub queued_at : List Client → ℕ → Bool
queued_at clients number = option_map_or (goes_so queued) (client_at clients number) false

-- the clients that wait, in the order in which they waited first, each once
pub record IsQueue (queue : List ℕ) (clients : List Client) : Type 0 where
  pub rises : rise (flat_map (joins clients) queue) ≡ true
  pub once : list_all (λ number. length (joins clients number) == 1) queue ≡ true
  pub apart_is : each_pair apart queue ≡ true
  pub count : length queue ≡ count_by (goes_so queued) clients

-- one that does not wait has not joined
pub join_none : (now : Option Doing) → going_passes queued now ≡ false → join_now now ≡ []
join_none None none = refl
join_none (Some doing) none = by (queued doing) (joined_at doing.steps) none
  where
    by : (waits : Bool) (joined : Option ℕ) → waits ≡ false → one_join waits joined ≡ []
    by false joined is = refl
    by true joined is = absurd (let never : ⊥ = cc in never)

-- one that joined waits
join_waits : (now : Option Doing) → (length (join_now now) == 1) ≡ true → going_passes queued now ≡ true
join_waits now one = by (going_passes queued now) refl
  where
    by : (waits : Bool) → going_passes queued now ≡ waits → waits ≡ true
    by true is = refl
    by false is =
        let none : length (join_now now) ≡ 0 = ap length (join_none now is) in
        let some : length (join_now now) ≡ 1 = eq_from (length (join_now now)) 1 one in
        absurd (let never : ⊥ = omega arith in never)

once_waits : (clients : List Client) (number : ℕ) → (length (joins clients number) == 1) ≡ true → queued_at clients number ≡ true
once_waits clients number one = by (client_at clients number) refl
  where
    by : (found : Option Client) → client_at clients number ≡ found → option_map_or (goes_so queued) found false ≡ true
    by None is =
        let some : length (joins clients number) ≡ 1 = eq_from (length (joins clients number)) 1 one in
        let none : length (joins clients number) ≡ 0 = ap (λ (f : Option Client). length (option_map_or (λ client. join_now client.now) f [])) is in
        absurd (let never : ⊥ = omega arith in never)
    by (Some client) is = join_waits client.now (sym (ap (λ (f : Option Client). length (option_map_or (λ c. join_now c.now) f []) == 1) is) ∙ one)

-- WHO IS AMONG THEM -------------------------------------------------------------------------------

still_waits : (clients : List Client) (one : ℕ) (next : Client) (numbers : List ℕ) → all_with (apart one) numbers ≡ true → list_all (queued_at clients) numbers ≡ true → list_all (queued_at (with_client clients one next)) numbers ≡ true
still_waits clients one next [] differ all = refl
still_waits clients one next (number ∷ numbers) differ all =
    let parts = and_parts (apart one number) (all_with (apart one) numbers) differ in
    let both = and_parts (queued_at clients number) (list_all (queued_at clients) numbers) all in
    let other : number ≢ one = λ e. let yes_is : (one == number) ≡ true = eq_to one number (sym e) in let no_is : (one == number) ≡ false = not-true (one == number) parts.0 in let never : ⊥ = cc in never in
    and_from (queued_at (with_client clients one next) number) (list_all (queued_at (with_client clients one next)) numbers)
    (ap (λ (found : Option Client). option_map_or (goes_so queued) found false) (client_others clients one number next other) ∙ both.0) (still_waits clients one next numbers parts.1 both.1)

-- clients that are apart and wait are no more than wait
few_wait : (numbers : List ℕ) (clients : List Client) → each_pair apart numbers ≡ true → list_all (queued_at clients) numbers ≡ true → length numbers ≤ count_by (goes_so queued) clients
few_wait [] clients pairs all = omega arith
few_wait (number ∷ numbers) clients pairs all =
    let parts = and_parts (all_with (apart number) numbers) (each_pair apart numbers) pairs in
    let both = and_parts (queued_at clients number) (list_all (queued_at clients) numbers) all in
    by (client_at clients number) refl both.0 parts.0 both.1 (λ later rest. few_wait numbers later parts.1 rest)
  where
    by : (found : Option Client) → client_at clients number ≡ found → queued_at clients number ≡ true → all_with (apart number) numbers ≡ true → list_all (queued_at clients) numbers ≡ true
        → ((later : List Client) → list_all (queued_at later) numbers ≡ true → length numbers ≤ count_by (goes_so queued) later) → length (number ∷ numbers) ≤ count_by (goes_so queued) clients
    by None is waits others rest few = absurd (let none : false ≡ true = sym (ap (λ (f : Option Client). option_map_or (goes_so queued) f false) is) ∙ waits in let never : ⊥ = cc in never)
    by (Some client) is waits others rest few =
        let over : Client = record client { now = None } in
        let counted : count_by (goes_so queued) (with_client clients number over) + cond (goes_so queued client) 1 0 ≡ count_by (goes_so queued) clients + 0 = with_count (goes_so queued) clients number client over is in
        let here : goes_so queued client ≡ true = sym (ap (λ (f : Option Client). option_map_or (goes_so queued) f false) is) ∙ waits in
        let one : ◌≡◌ {A = ℕ} (cond (goes_so queued client) 1 0) 1 = ap (λ (b : Bool). cond b 1 0) here in
        let less : length numbers ≤ count_by (goes_so queued) (with_client clients number over) = few (with_client clients number over) (still_waits clients number over numbers others rest) in
        omega arith

-- those in the queue wait, and no others
pub among_is : (queue : List ℕ) (clients : List Client) (who : ℕ) (client : Client) → IsQueue queue clients → client_at clients who ≡ Some client → is_among who queue ≡ goes_so queued client
among_is queue clients who client is here = by (is_among who queue) (goes_so queued client) refl refl
  where
    all_wait : list_all (queued_at clients) queue ≡ true
    all_wait = weaker_all (λ number. length (joins clients number) == 1) (queued_at clients) queue (λ number one. once_waits clients number one) is.once

    at_who : queued_at clients who ≡ goes_so queued client
    at_who = ap (λ (f : Option Client). option_map_or (goes_so queued) f false) here

    by : (among waits : Bool) → is_among who queue ≡ among → goes_so queued client ≡ waits → among ≡ waits
    by true true one other = refl
    by false false one other = refl
    by true false one other = absurd (let some : queued_at clients who ≡ true = among_all (queued_at clients) queue who all_wait one in let never : ⊥ = cc in never)
    by false true one other =
        let few : length (who ∷ queue) ≤ count_by (goes_so queued) clients = few_wait (who ∷ queue) clients (and_from (all_with (apart who) queue) (each_pair apart queue) (none_with queue who one) is.apart_is)
        (and_from (queued_at clients who) (list_all (queued_at clients) queue) (at_who ∙ other) all_wait) in
        let count : length queue ≡ count_by (goes_so queued) clients = is.count in
        absurd (let never : ⊥ = omega arith in never)

-- A CLIENT GOES ON --------------------------------------------------------------------------------

module _ (clients : List Client) (who : ℕ) (client next : Client) (here : client_at clients who ≡ Some client) where
  abbrev later : List Client
  later = with_client clients who next

  joins_others : (number : ℕ) → number ≢ who → joins later number ≡ joins clients number
  joins_others number differ = ap (λ (found : Option Client). option_map_or (λ c. join_now c.now) found []) (client_others clients who number next differ)

  joins_own : joins later who ≡ join_now next.now
  joins_own = ap (λ (found : Option Client). option_map_or (λ c. join_now c.now) found []) (client_set clients who client next here)

  joins_old : joins clients who ≡ join_now client.now
  joins_old = ap (λ (found : Option Client). option_map_or (λ c. join_now c.now) found []) here

  counted : count_by (goes_so queued) later + cond (goes_so queued client) 1 0 ≡ count_by (goes_so queued) clients + cond (goes_so queued next) 1 0
  counted = with_count (goes_so queued) clients who client next here

  -- it waits as before, or not as before
  pub queue_stays : (queue : List ℕ) → join_now next.now ≡ join_now client.now → goes_so queued next ≡ goes_so queued client → IsQueue queue clients → IsQueue queue later
  queue_stays queue same also is = record {
    rises = subst (λ (f : ℕ → List ℕ). rise (flat_map f queue) ≡ true) (sym all) is.rises;
    once = subst (λ (f : ℕ → List ℕ). list_all (λ number. length (f number) == 1) queue ≡ true) (sym all) is.once;
    apart_is = is.apart_is;
    count = count_same;
  }
    where
      at : (number : ℕ) (test : Bool) → (number == who) ≡ test → joins later number ≡ joins clients number
      at number true is_who = subst (λ (n : ℕ). joins later n ≡ joins clients n) (sym (eq_from number who is_who)) (joins_own ∙ (same ∙ sym joins_old))
      at number false differs = joins_others number (λ e. let yes_is : (number == who) ≡ true = eq_to number who e in let never : ⊥ = cc in never)

      all : ◌≡◌ {A = ℕ → List ℕ} (joins later) (joins clients)
      all = fun_ext (λ number. at number (number == who) refl)

      count_same : length queue ≡ count_by (goes_so queued) later
      count_same =
          let before : length queue ≡ count_by (goes_so queued) clients = is.count in
          let moved = counted in
          let as_much : ◌≡◌ {A = ℕ} (cond (goes_so queued next) 1 0) (cond (goes_so queued client) 1 0) = ap (λ (b : Bool). cond b 1 0) also in
          omega arith

  pub queue_none : (queue : List ℕ) → goes_so queued client ≡ false → goes_so queued next ≡ false → IsQueue queue clients → IsQueue queue later
  queue_none queue before after is = queue_stays queue (join_none next.now after ∙ sym (join_none client.now before)) (after ∙ sym before) is

  -- it waits no longer
  pub queue_leaves : (queue : List ℕ) → goes_so queued next ≡ false → IsQueue queue clients → IsQueue (without queue who) later
  queue_leaves queue none is = record {
    rises = subst (λ (xs : List ℕ). rise xs ≡ true) (sym (flat_same (joins later) (joins clients) (without queue who) who joins_others (gone_with queue who))) (flat_without nat_le (joins clients) queue who is.rises);
    once = all_same (joins later) (joins clients) (without queue who) who joins_others (gone_with queue who) (all_without (λ number. length (joins clients number) == 1) queue who is.once);
    apart_is = pairs_without apart queue who is.apart_is;
    count = count_less;
  }
    where
      count_less : length (without queue who) ≡ count_by (goes_so queued) later
      count_less =
          let before : length queue ≡ count_by (goes_so queued) clients = is.count in
          let moved = counted in
          let long : length (without queue who) + cond (is_among who queue) 1 0 ≡ length queue = without_long queue who is.apart_is in
          let as_much : ◌≡◌ {A = ℕ} (cond (is_among who queue) 1 0) (cond (goes_so queued client) 1 0) = ap (λ (b : Bool). cond b 1 0) (among_is queue clients who client is here) in
          let zero_is : ◌≡◌ {A = ℕ} (cond (goes_so queued next) 1 0) 0 = ap (λ (b : Bool). cond b 1 0) none in
          omega arith

  -- it begins to wait
  pub queue_more : (queue : List ℕ) (event : ℕ) → goes_so queued client ≡ false → goes_so queued next ≡ true → join_now next.now ≡ event ∷ [] → list_all (λ one. nat_le one event) (flat_map (joins clients) queue) ≡ true
      → IsQueue queue clients → IsQueue (queue ++ who ∷ []) later
  queue_more queue event before after joined early is = record {
    rises = subst (λ (xs : List ℕ). rise xs ≡ true) (sym all)
        (pair_from nat_le (flat_map (joins clients) queue) (event ∷ []) (record {
          first = is.rises;
          second = refl;
          across = weaker_all (λ one. nat_le one event) (λ one. all_with (nat_le one) (event ∷ [])) (flat_map (joins clients) queue) (λ one below. and_from (nat_le one event) true below refl) early;
        }));
    once = append_all (λ number. length (joins later number) == 1) queue (who ∷ []) (all_same (joins later) (joins clients) queue who joins_others others is.once)
        (one_all (λ number. length (joins later number) == 1) who (eq_to (length (joins later who)) 1 (ap length (joins_own ∙ joined))));
    apart_is = pair_from apart queue (who ∷ []) (record { first = is.apart_is; second = refl; across = none_each queue who none });
    count = count_more;
  }
    where
      none : is_among who queue ≡ false
      none = among_is queue clients who client is here ∙ before

      others : all_with (apart who) queue ≡ true
      others = none_with queue who none

      plain : (xs : List ℕ) → xs ++ [] ≡ xs
      plain [] = refl
      plain (x ∷ xs) = ap (λ (rest : List ℕ). x ∷ rest) (plain xs)

      all : flat_map (joins later) (queue ++ who ∷ []) ≡ flat_map (joins clients) queue ++ event ∷ []
      all =
          flat_map-append (joins later) queue (who ∷ [])
          ∙ (ap (λ (xs : List ℕ). xs ++ flat_map (joins later) (who ∷ [])) (flat_same (joins later) (joins clients) queue who joins_others others)
          ∙ ap (λ (xs : List ℕ). flat_map (joins clients) queue ++ xs) (flat_map-cons (joins later) who [] ∙ (plain (joins later who) ∙ (joins_own ∙ joined))))

      count_more : length (queue ++ who ∷ []) ≡ count_by (goes_so queued) later
      count_more =
          let before_is : length queue ≡ count_by (goes_so queued) clients = is.count in
          let moved = counted in
          let long : length (queue ++ who ∷ []) ≡ length queue + length (who ∷ []) = length-append queue (who ∷ []) in
          let zero_is : ◌≡◌ {A = ℕ} (cond (goes_so queued client) 1 0) 0 = ap (λ (b : Bool). cond b 1 0) before in
          let one : ◌≡◌ {A = ℕ} (cond (goes_so queued next) 1 0) 1 = ap (λ (b : Bool). cond b 1 0) after in
          omega arith
