-- How many entries of a session were stored, by their keys.
use Rattle.std.proofs.Common.{◌≡◌, refl, sym, ap, ◌∙◌, ℕ, ◌+◌, Bool, true, false, List, ◌++◌, map, add-one, arith, leb}
use Rattle.std.specs.Prelude.{◌&&◌, nat_le, nat_lt, cond, count_by}
use Rattle.std.specs.List.Sorted.{IsPermutation}
use Rattle.std.proofs.lemmas.Bool.{le-leb, lt-leb, leb-true, leb-false}
use Rattle.std.proofs.lemmas.List.Sorted.{sum_by-IsPermutation}
use Rattle.std.proofs.lemmas.List.Sums.{sum_by-append}
use Rattle.svc_values.specs.declared.entry.Entry.{Entry}
use Rattle.svc_values.specs.declared.entry.SessionId.{SessionId}
use Rattle.svc_values.specs.meaning.Identifiers.{is_of_session}
use Rattle.run_clauses.specs.meaning.EntryEvents.{StoredEntry, entries_of, stored_before, stored_up_to}
use Rattle.entry_events.specs.Numbering.{image_key, stored_key, is_until, until, up_to, before}
use Rattle.entry_events.proofs.Counted.{by_map}
use Rattle.entry_events.proofs.Ranks.{Key}

and_true : (b : Bool) → (b && true) ≡ b
and_true true = refl
and_true false = refl

-- of the image each entry counts at any time
image_is : (image : List Entry) (session : SessionId) (time : ℕ) → count_by (is_until session time) (map image_key image) ≡ entries_of image session
image_is image session time =
    sym (by_map (is_until session time) image_key image)
    ∙ (λ i. count_by (λ (entry : Entry). here entry i) image)
  where
    here : (entry : Entry) → is_until session time (image_key entry) ≡ is_of_session session entry.ltxid
    here entry = ap (λ b. is_of_session session entry.ltxid && b) (le-leb 0 time (omega arith)) ∙ and_true (is_of_session session entry.ltxid)

both_counted : (image : List Entry) (stored : List StoredEntry) (session : SessionId) (time : ℕ)
    → until (map image_key image ++ map stored_key stored) session time ≡ entries_of image session + count_by (λ (one : StoredEntry). is_of_session session one.ltxid && nat_le (one.event + 1) time) stored
both_counted image stored session time =
    sum_by-append (λ (key : Key). cond (is_until session time key) 1 0) (map image_key image) (map stored_key stored)
    ∙ (λ i. image_is image session time i + sym (by_map (is_until session time) stored_key stored) i)

later_is : (event time : ℕ) → nat_le (event + 1) time ≡ nat_lt event time
later_is event time = ap (λ (n : ℕ). leb n time) (add-one event)

up_to_is : (event time : ℕ) → nat_le (event + 1) (time + 1) ≡ nat_le event time
up_to_is event time = by (nat_le event time) refl
  where
    by : (b : Bool) → nat_le event time ≡ b → nat_le (event + 1) (time + 1) ≡ b
    by true is = (let low = leb-true event time is in le-leb (event + 1) (time + 1) (omega (arith, low)))
    by false is = (let high = leb-false event time is in lt-leb (event + 1) (time + 1) (omega (arith, high)))

pub before_is : (image : List Entry) (stored : List StoredEntry) (keys : List Key) → IsPermutation (map image_key image ++ map stored_key stored) keys
    → (session : SessionId) (event : ℕ) → before keys session event ≡ stored_before image stored session event
before_is image stored keys same session event =
    sum_by-IsPermutation (λ (key : Key). cond (is_until session event key) 1 0) _ keys same
    ∙ (both_counted image stored session event
    ∙ (λ i. entries_of image session + count_by (λ (one : StoredEntry). is_of_session session one.ltxid && later_is one.event event i) stored))

pub up_to_event : (image : List Entry) (stored : List StoredEntry) (keys : List Key) → IsPermutation (map image_key image ++ map stored_key stored) keys
    → (session : SessionId) (event : ℕ) → up_to keys session event ≡ stored_up_to image stored session event
up_to_event image stored keys same session event =
    sum_by-IsPermutation (λ (key : Key). cond (is_until session (event + 1) key) 1 0) _ keys same
    ∙ (both_counted image stored session (event + 1)
    ∙ (λ i. entries_of image session + count_by (λ (one : StoredEntry). is_of_session session one.ltxid && up_to_is one.event event i) stored))
