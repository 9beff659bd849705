-- Where the keys of a session stand in their order.
use Rattle.std.proofs.Common.{◌≡◌, ◌⊎◌, inl, inr, refl, sym, ap, ◌∙◌, ℕ, ◌-◌, ◌<◌, ◌≤◌, Bool, true, false, cond, ltb, length, get_or, take, drop, List, arith, leb, eqb}
use Rattle.std.specs.Prelude.{◌==◌, ◌&&◌, nat_le}
use Rattle.std.specs.List.{filter}
use Rattle.std.specs.List.Sorted.{IsPartitionPoint, IsPartitionedBy, IsSorted}
use Rattle.std.specs.Cmp.{IsTotalOrder}
use Rattle.std.specs.declared.cmp.Ordering.{Ordering}
use Rattle.std.specs.declared.cmp.Ordering.TheVariants.{Less, Equal, Greater}
use Rattle.std.specs.Ordering.{nat_cmp, ordering_then, ordering_index, is_lt, is_le}
use Rattle.std.proofs.lemmas.Bool.{cases_order, lt-ltb, le-ltb, eq-eqb, ne_eqb, le-leb, lt-leb, and_right}
use Rattle.std.proofs.lemmas.Cmp.{nat_cmp_total, on_total, then_total}
use Rattle.std.proofs.lemmas.List.{length-take-le, length-drop}
use Rattle.std.proofs.lemmas.List.Sorted.{searchable_from_sorted, IsPartitionedBy-leb, IsPartitionedBy-ltb}
use Rattle.std.proofs.lemmas.List.Sums.{length-filter}
use Rattle.svc_values.specs.declared.entry.SessionId.{SessionId}
use Rattle.entry_events.specs.Numbering.{key_cmp, is_until, until}
use Rattle.entry_events.proofs.Runs.{IsRun, run_is}

abbrev pub Key : Type 0
Key = ℕ × ℕ × ℕ

pub key_total : IsTotalOrder key_cmp
key_total = then_total (then_total (on_total (λ (k : Key). k.0) nat_cmp_total) (on_total (λ (k : Key). k.1) nat_cmp_total)) (on_total (λ (k : Key). k.2) nat_cmp_total)

-- ---- the tests that a search asks

lt_index : (o : Ordering) → ltb (ordering_index o) 1 ≡ is_lt o
lt_index Less = refl
lt_index Equal = refl
lt_index Greater = refl

le_index : (o : Ordering) → leb (ordering_index o) 1 ≡ is_le o
le_index Less = refl
le_index Equal = refl
le_index Greater = refl

pub before_parts : (keys : List Key) (limit : Key) → IsSorted key_cmp keys → IsPartitionedBy (λ (key : Key). is_lt (key_cmp key limit)) keys
before_parts keys limit sorted = λ i j d up within is.
    sym (lt_index (key_cmp (get_or keys i d) limit))
    ∙ IsPartitionedBy-ltb (λ (key : Key). ordering_index (key_cmp key limit)) keys 1 (searchable_from_sorted key_total (λ (key : Key). key) keys limit sorted) i j d up within
    (lt_index (key_cmp (get_or keys j d) limit) ∙ is)

pub up_to_parts : (keys : List Key) (limit : Key) → IsSorted key_cmp keys → IsPartitionedBy (λ (key : Key). is_le (key_cmp key limit)) keys
up_to_parts keys limit sorted = λ i j d up within is.
    sym (le_index (key_cmp (get_or keys i d) limit))
    ∙ IsPartitionedBy-leb (λ (key : Key). ordering_index (key_cmp key limit)) keys 1 (searchable_from_sorted key_total (λ (key : Key). key) keys limit sorted) i j d up within
    (le_index (key_cmp (get_or keys j d) limit) ∙ is)

-- ---- where a key stands beside those of a session

less_is : (a b : ℕ) → a < b → nat_cmp a b ≡ Less
less_is a b below = ap (λ t. cond t Less (cond (a == b) Equal Greater)) (lt-ltb a b below)

equal_is : (a b : ℕ) → a ≡ b → nat_cmp a b ≡ Equal
equal_is a b same = (λ i. cond (le-ltb a b (omega (arith, same)) i) Less (cond (eq-eqb a b same i) Equal Greater))

greater_is : (a b : ℕ) → b < a → nat_cmp a b ≡ Greater
greater_is a b above = (λ i. cond (le-ltb a b (omega (arith, above)) i) Less (cond (ne_eqb a b (λ e. omega (arith, above, e)) i) Equal Greater))

-- all keys of the session are behind it, or before it, or it is one of them
pub data Stands (session : SessionId) (key : Key) : Type 0 where
  Before : ((time : ℕ) → key_cmp key (session.incarnation, session.session, time) ≡ Less) → ((time : ℕ) → is_until session time key ≡ false) → Stands session key
  Behind : ((time : ℕ) → key_cmp key (session.incarnation, session.session, time) ≡ Greater) → ((time : ℕ) → is_until session time key ≡ false) → Stands session key
  Among : ((time : ℕ) → key_cmp key (session.incarnation, session.session, time) ≡ nat_cmp key.2 time) → ((time : ℕ) → is_until session time key ≡ nat_le key.2 time) → Stands session key

not_first : (session : SessionId) (key : Key) (time : ℕ) → (key.0 ≡ session.incarnation → ⊥) → is_until session time key ≡ false
not_first session key time other = ap (λ b. (b && key.1 == session.session) && nat_le key.2 time) (ne_eqb key.0 session.incarnation other)

not_second : (session : SessionId) (key : Key) (time : ℕ) → (key.1 ≡ session.session → ⊥) → is_until session time key ≡ false
not_second session key time other =
    ap (λ b. (key.0 == session.incarnation && b) && nat_le key.2 time) (ne_eqb key.1 session.session other)
    ∙ ap (λ b. b && nat_le key.2 time) (and_right (key.0 == session.incarnation) false refl)

pub stands : (session : SessionId) (key : Key) → Stands session key
stands session key = first (cases_order key.0 session.incarnation)
  where
    second : key.0 ≡ session.incarnation → (key.1 ≡ session.session) ⊎ ((key.1 < session.session) ⊎ (session.session < key.1)) → Stands session key
    second same (inl also) =
        Among (λ time. (λ i. ordering_then (ordering_then (equal_is key.0 session.incarnation same i) (equal_is key.1 session.session also i)) (nat_cmp key.2 time)))
        (λ time. (λ i. (eq-eqb key.0 session.incarnation same i && eq-eqb key.1 session.session also i) && nat_le key.2 time))
    second same (inr (inl below)) =
        Before (λ time. (λ i. ordering_then (ordering_then (equal_is key.0 session.incarnation same i) (less_is key.1 session.session below i)) (nat_cmp key.2 time)))
        (λ time. not_second session key time (λ e. omega (arith, below, e)))
    second same (inr (inr above)) =
        Behind (λ time. (λ i. ordering_then (ordering_then (equal_is key.0 session.incarnation same i) (greater_is key.1 session.session above i)) (nat_cmp key.2 time)))
        (λ time. not_second session key time (λ e. omega (arith, above, e)))

    first : (key.0 ≡ session.incarnation) ⊎ ((key.0 < session.incarnation) ⊎ (session.incarnation < key.0)) → Stands session key
    first (inl same) = second same (cases_order key.1 session.session)
    first (inr (inl below)) =
        Before (λ time. (λ i. ordering_then (ordering_then (less_is key.0 session.incarnation below i) (nat_cmp key.1 session.session)) (nat_cmp key.2 time)))
        (λ time. not_first session key time (λ e. omega (arith, below, e)))
    first (inr (inr above)) =
        Behind (λ time. (λ i. ordering_then (ordering_then (greater_is key.0 session.incarnation above i) (nat_cmp key.1 session.session)) (nat_cmp key.2 time)))
        (λ time. not_first session key time (λ e. omega (arith, above, e)))

zero_first : (t : ℕ) → nat_cmp t 0 ≡ Less → ⊥
zero_first t is = by (cases_order t 0)
  where
    by : (t ≡ 0) ⊎ ((t < 0) ⊎ (0 < t)) → ⊥
    by (inl same) = (let e : Less ≡ Equal = sym is ∙ equal_is t 0 same in absurd cc)
    by (inr (inl below)) = omega (arith, below)
    by (inr (inr above)) = (let e : Less ≡ Greater = sym is ∙ greater_is t 0 above in absurd cc)

less_from : (o : Ordering) → is_lt o ≡ true → o ≡ Less
less_from Less is = refl
less_from Equal is = absurd cc
less_from Greater is = absurd cc

le_number : (t time : ℕ) (b : Bool) → is_le (nat_cmp t time) ≡ b → nat_le t time ≡ b
le_number t time b is = by (cases_order t time)
  where
    by : (t ≡ time) ⊎ ((t < time) ⊎ (time < t)) → nat_le t time ≡ b
    by (inl same) = le-leb t time (omega (arith, same)) ∙ (ap is_le (sym (equal_is t time same)) ∙ is)
    by (inr (inl below)) = le-leb t time (omega (arith, below)) ∙ (ap is_le (sym (less_is t time below)) ∙ is)
    by (inr (inr above)) = lt-leb t time above ∙ (ap is_le (sym (greater_is t time above)) ∙ is)

early : (session : SessionId) (time : ℕ) (key : Key) → is_lt (key_cmp key (session.incarnation, session.session, 0)) ≡ true → is_until session time key ≡ false
early session time key is = by (stands session key)
  where
    by : Stands session key → is_until session time key ≡ false
    by (Before c u) = u time
    by (Behind c u) = u time
    by (Among c u) = absurd (zero_first key.2 (less_from (nat_cmp key.2 0) (ap is_lt (sym (c 0)) ∙ is)))

in_time : (session : SessionId) (time : ℕ) (key : Key) → is_lt (key_cmp key (session.incarnation, session.session, 0)) ≡ false
    → is_le (key_cmp key (session.incarnation, session.session, time)) ≡ true → is_until session time key ≡ true
in_time session time key from to = by (stands session key)
  where
    by : Stands session key → is_until session time key ≡ true
    by (Before c u) = (let wrong : true ≡ false = ap is_lt (sym (c 0)) ∙ from in absurd cc)
    by (Behind c u) = (let wrong : false ≡ true = ap is_le (sym (c time)) ∙ to in absurd cc)
    by (Among c u) = u time ∙ le_number key.2 time true (ap is_le (sym (c time)) ∙ to)

late : (session : SessionId) (time : ℕ) (key : Key) → is_le (key_cmp key (session.incarnation, session.session, time)) ≡ false → is_until session time key ≡ false
late session time key is = by (stands session key)
  where
    by : Stands session key → is_until session time key ≡ false
    by (Before c u) = u time
    by (Behind c u) = u time
    by (Among c u) = u time ∙ le_number key.2 time false (ap is_le (sym (c time)) ∙ is)

-- how many there are between the two places
pub until_is : (keys : List Key) (session : SessionId) (time from to : ℕ) → to ≤ length keys
    → IsPartitionPoint (λ (key : Key). is_lt (key_cmp key (session.incarnation, session.session, 0)) ≡ true) (λ (key : Key). is_lt (key_cmp key (session.incarnation, session.session, 0)) ≡ false) keys from
    → IsPartitionPoint (λ (key : Key). is_le (key_cmp key (session.incarnation, session.session, time)) ≡ true) (λ (key : Key). is_le (key_cmp key (session.incarnation, session.session, time)) ≡ false) keys to
    → to - from ≡ until keys session time
until_is keys session time from to within low high =
    let run : IsRun (is_until session time) keys from to = record {
      before = λ k d in_range below. early session time (get_or keys k d) (low.0 k d (omega arith) below);
      within = λ k d in_range above below. in_time session time (get_or keys k d) (low.1 k d above in_range) (high.0 k d (omega arith) below);
      behind = λ k d in_range above. late session time (get_or keys k d) (high.1 k d above in_range);
    } in
    let long : length (drop from (take to keys)) ≡ to - from = (let taken = length-take-le to keys within in length-drop from (take to keys) ∙ ap (λ (n : ℕ). n - from) taken) in
    sym long ∙ (sym (ap (λ (l : List Key). length l) (run_is (is_until session time) keys from to run)) ∙ length-filter (is_until session time) keys)
