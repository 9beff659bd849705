-- What a crash may leave after a write to a disk with nothing pending.
use Rattle.std.proofs.Common.{◌≡◌, ℕ, ◌+◌, ◌<◌, ◌≤◌, max, List, length, get_or, take, drop, set, ⊎_elim, refl, sym, ◌∙◌, ap, subst, arith, length-take, length-drop, length-set, get_or-set_same, get_or-set_other}
use Rattle.std.specs.Prelude.{Result, Ok, Err, OnOk, OnErr}
use Rattle.std.proofs.lemmas.List.{get_or-take, get_or-drop}
use Rattle.std.proofs.lemmas.Grind.{common_steps, same_number_lists}
use Rattle.std.proofs.lemmas.Bool.{cases_eq}
use Rattle.disk_model.specs.Moment.{DiskMoment, MayLeave, Torn, InRanges, next_moment, with_bytes}
use Rattle.disk_model.specs.Disk.{DiskState, IsSettled}
use Rattle.disk_model.specs.InnerKept.{cases_outside}

pub length-with_bytes : (at : ℕ) (bytes old : List ℕ) → at ≤ length old → length (with_bytes at bytes old) ≡ max (length old) (at + length bytes)
length-with_bytes at bytes old le = grind (arith, common_steps)

below : (at : ℕ) (bytes old : List ℕ) (k : ℕ) → at ≤ length old → k < at → get_or (with_bytes at bytes old) k 0 ≡ get_or old k 0
below at bytes old k le lt = grind (arith, common_steps)

above : (at : ℕ) (bytes old : List ℕ) (k : ℕ) → at ≤ length old → at + length bytes ≤ k → get_or (with_bytes at bytes old) k 0 ≡ get_or old k 0
above at bytes old k le ge = grind (arith, common_steps)

pub torn_with_bytes : (at : ℕ) (bytes old : List ℕ) → at ≤ length old → Torn at (length bytes) old (with_bytes at bytes old)
torn_with_bytes at bytes old le = record {
  no_shorter = omega (arith, length-with_bytes at bytes old le);
  no_longer = omega (arith, length-with_bytes at bytes old le);
  same = λ k lt out. ⊎_elim (below at bytes old k le) (above at bytes old k le) (cases_outside at (length bytes) k out);
}

-- with nothing pending, what was synced is what a read gives
same_synced : (m : DiskMoment) → ((image : List ℕ) → MayLeave m image → image ≡ m.seen) → MayLeave m m.seen → m.synced ≡ m.seen
same_synced m settled reads = settled m.synced record { no_shorter = omega arith; no_longer = reads.no_shorter; same = λ k lt out. refl }

-- the disk with one byte of another image
one_byte : (m : DiskMoment) (at n : ℕ) (seen image : List ℕ) (k : ℕ) → m.synced ≡ m.seen → MayLeave (next_moment at n seen m) image → k < length m.seen → ((at ≤ k) × (k < at + n) → ⊥) → MayLeave m (set m.seen k (get_or image k 0))
one_byte m at n seen image k e left lt out = record {
  no_shorter = omega (arith, ap length e, length-set m.seen k (get_or image k 0));
  no_longer = omega (arith, length-set m.seen k (get_or image k 0));
  same = λ j lt_j out_j.
      let v = get_or image k 0 in
      let lt_k : k < length m.synced = omega (arith, ap length e, lt) in
      ⊎_elim
      (λ same. subst (λ i. get_or (set m.seen k v) i 0 ≡ get_or m.synced i 0) (sym same)
      (get_or-set_same m.seen k v 0 lt ∙ left.same k lt_k (λ within. ⊎_elim out (λ w. out_j (subst (λ i. InRanges m.written i) (sym same) w)) within)))
      (λ ne. get_or-set_other m.seen k j v 0 ne ∙ ap (λ (l : List ℕ). get_or l j 0) (sym e))
      (cases_eq j k);
}

pub torn_from_settled : (s : DiskState) (at n : ℕ) (seen image : List ℕ) → IsSettled s → MayLeave s.now s.now.seen → length seen ≤ max (length s.now.seen) (at + n) → MayLeave (next_moment at n seen s.now) image → Torn at n s.now.seen image
torn_from_settled s at n seen image settled reads bound left =
    let e : s.now.synced ≡ s.now.seen = same_synced s.now settled reads in
    record {
      no_shorter = omega (arith, ap length e, left.no_shorter);
      no_longer = omega (arith, bound, left.no_longer);
      same = λ k lt out.
          sym (get_or-set_same s.now.seen k (get_or image k 0) 0 lt) ∙ ap (λ (l : List ℕ). get_or l k 0) (settled _ (one_byte s.now at n seen image k e left lt out));
    }

-- what a crash may leave after a write, as it succeeds or fails
pub after_write : (s t : DiskState) (at n : ℕ) → IsSettled s → MayLeave s.now s.now.seen → Torn at n s.now.seen t.now.seen → ((image : List ℕ) → MayLeave t.now image → MayLeave (next_moment at n t.now.seen s.now) image) → (image : List ℕ) → MayLeave t.now image → Torn at n s.now.seen image
after_write s t at n settled reads torn crash image left =
    torn_from_settled s at n t.now.seen image settled reads torn.no_longer (crash image left)

-- what a crash may leave after a sync, as it succeeds or fails
pub after_sync : {T E : Type 0} (result : Result T E) (t u : DiskState) (P : List ℕ → Type 0) → OnOk result (IsSettled u) → u.now.seen ≡ t.now.seen → OnErr result ((image : List ℕ) → MayLeave u.now image → MayLeave t.now image) → ((image : List ℕ) → MayLeave t.now image → P image) → P t.now.seen → (image : List ℕ) → MayLeave u.now image → P image
after_sync (Ok x) t u P durable same crash before here image left = subst P (sym (durable image left ∙ same)) here
after_sync (Err e) t u P durable same crash before here image left = before image (crash image left)

-- what stands before and behind a torn range
pub torn_before : (at n : ℕ) (old new : List ℕ) → Torn at n old new → at ≤ length old → take at new ≡ take at old
torn_before at n old new torn le =
    same_number_lists (take at new) (take at old) (omega (arith, length-take at new, length-take at old, torn.no_shorter))
    (λ k lt. let lt_k : k < at = omega (arith, lt, length-take at new) in
    get_or-take at new k 0 lt_k ∙ torn.same k (omega arith) (λ w. omega (arith, w.0)) ∙ sym (get_or-take at old k 0 lt_k))

pub torn_behind : (at n : ℕ) (old new : List ℕ) → Torn at n old new → at + n ≤ length old → drop (at + n) new ≡ drop (at + n) old
torn_behind at n old new torn le =
    let same_length : length new ≡ length old = omega (arith, torn.no_shorter, torn.no_longer) in
    same_number_lists (drop (at + n) new) (drop (at + n) old) (omega (arith, length-drop (at + n) new, length-drop (at + n) old))
    (λ k lt. get_or-drop (at + n) new k 0 ∙ torn.same (at + n + k) (omega (arith, lt, length-drop (at + n) new)) (λ w. omega (arith, w.1)) ∙ sym (get_or-drop (at + n) old k 0))
