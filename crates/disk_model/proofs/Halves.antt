-- What a write's undoing leaves at one offset.
use Rattle.std.proofs.Common.{◌≡◌, ◌⊎◌, ℕ, ◌+◌, ◌-◌, ◌<◌, ◌≤◌, List, ◌++◌, length, get_or, take, drop, inl, inr, ⊎_elim, sym, ◌∙◌, arith, length-append}
use Rattle.std.proofs.lemmas.List.{get_or_append_left, get_or-append_right, get_or_past, length-take-le}
use Rattle.std.proofs.lemmas.Bool.{cases_lt}
use Rattle.disk_model.specs.declared.kept.KeptWrite.{KeptWrite}
use Rattle.disk_model.specs.Log.{bytes_before}
use Rattle.disk_model.specs.InnerLog.{Covers}
use Rattle.disk_model.specs.InnerKept.{length-bytes_before, bytes_before_front, bytes_before_back}

from_covered : (at n : ℕ) (covered after : List ℕ) (k : ℕ) → at + n ≤ length after → at ≤ k → k - at < length covered → get_or (take at after ++ covered ++ drop (at + n) after) k 0 ≡ get_or covered (k - at) 0
from_covered at n covered after k le ge lt =
    let front = length-take-le at after (omega (arith, le)) in
    get_or_append_left (take at after ++ covered) (drop (at + n) after) 0 k (omega (arith, ge, lt, front, length-append (take at after) covered))
    ∙ get_or-append_right (take at after) covered at k 0 front ge

pub bytes_before_inside : (w : KeptWrite) (after : List ℕ) → Covers w after → (k : ℕ) → w.at ≤ k → k < w.at + w.len → get_or (bytes_before w after) k 0 ≡ get_or w.covered.items (k - w.at) 0
bytes_before_inside w after c k ge lt =
    ⊎_elim
    (λ inside. from_covered w.at w.len w.covered.items after k c.within ge inside)
    (λ past.
    let ends : w.at + w.len ≡ length after = c.at_end (omega (arith, past, ge, lt)) in
    get_or_past (bytes_before w after) k 0 (omega (arith, length-bytes_before w.at w.len w.covered.items after c.within, ends, past, ge))
    ∙ sym (get_or_past w.covered.items (k - w.at) 0 past))
    (cases_lt (k - w.at) (length w.covered.items))

pub bytes_before_outside : (w : KeptWrite) (after : List ℕ) → Covers w after → (k : ℕ) → (k < w.at) ⊎ (w.at + w.len ≤ k) → get_or after k 0 ≡ get_or (bytes_before w after) k 0
bytes_before_outside w after c k (inl lt) = sym (bytes_before_front w.at w.len w.covered.items after k c.within lt)
bytes_before_outside w after c k (inr ge) =
    ⊎_elim
    (λ short.
    let ends : w.at + w.len ≡ length after = c.at_end short in
    get_or_past after k 0 (omega (arith, ends, ge))
    ∙ sym (get_or_past (bytes_before w after) k 0 (omega (arith, length-bytes_before w.at w.len w.covered.items after c.within, ends, short, ge))))
    (λ full. sym (bytes_before_back w.at w.len w.covered.items after k c.within (omega (arith, full, c.covered)) ge))
    (cases_lt (length w.covered.items) w.len)
