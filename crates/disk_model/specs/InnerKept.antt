-- A crash of a disk in memory may leave what a read gives.
use Rattle.std.proofs.Common.{◌≡◌, ℕ, ◌+◌, ◌<◌, ◌≤◌, Bool, true, false, List, [], ◌∷◌, ◌++◌, length, get_or, ◌⊎◌, take, drop, inl, inr, ⊎_elim, refl, sym, ◌∙◌, arith}
use Rattle.std.specs.Prelude.{if◌then◌else◌}
use Rattle.std.proofs.lemmas.Grind.{common_steps}
use Rattle.std.proofs.lemmas.Bool.{cases_lt}
use Rattle.disk_model.specs.declared.kept.KeptWrite.{KeptWrite}
use Rattle.disk_model.specs.Moment.{MayLeave, Torn}
use Rattle.disk_model.specs.Log.{bytes_before, first_bytes, synced_of, ranges_of, now_of}
use Rattle.disk_model.specs.InnerLog.{Covers, IsLog}

pub length-bytes_before : (at n : ℕ) (covered after : List ℕ) → at + n ≤ length after
    → length (take at after ++ covered ++ drop (at + n) after) + n ≡ length after + length covered
length-bytes_before at n covered after le = grind (arith, common_steps)

pub bytes_before_front : (at n : ℕ) (covered after : List ℕ) (k : ℕ) → at + n ≤ length after
    → k < at → get_or (take at after ++ covered ++ drop (at + n) after) k 0 ≡ get_or after k 0
bytes_before_front at n covered after k le lt = grind (arith, common_steps)

pub bytes_before_back : (at n : ℕ) (covered after : List ℕ) (k : ℕ) → at + n ≤ length after
    → length covered ≡ n → at + n ≤ k → get_or (take at after ++ covered ++ drop (at + n) after) k 0
    ≡ get_or after k 0
bytes_before_back at n covered after k le e ge = grind (arith, common_steps)

pub cases_outside : (at n k : ℕ) → ((at ≤ k) × (k < at + n) → ⊥) → (k < at) ⊎ (at + n ≤ k)
cases_outside at n k out =
    ⊎_elim (λ lt. inl lt) (λ ge. ⊎_elim (λ l. absurd (out (ge, l))) (λ g. inr g)
    (cases_lt k (at + n))) (cases_lt k at)

-- a write changes its range alone
pub torn_step : (w : KeptWrite) (after : List ℕ) → Covers w after
    → Torn w.at w.len (bytes_before w after) after
torn_step w after c =
    let long = length-bytes_before w.at w.len w.covered.items after c.within in
    record {
      no_shorter = omega (arith, long, c.covered);
      no_longer = ⊎_elim (λ short. omega (arith, c.at_end short))
          (λ full. omega (arith, full, long, c.covered)) (cases_lt (length w.covered.items) w.len);
      same = λ k lt out. ⊎_elim
          (λ below. sym (bytes_before_front w.at w.len w.covered.items after k c.within below))
          (λ above. let whole : length w.covered.items ≡ w.len =
          ⊎_elim (λ short. absurd (omega (arith, c.at_end short, lt, long, above)))
          (λ full. omega (arith, full, c.covered)) (cases_lt (length w.covered.items) w.len) in
          sym (bytes_before_back w.at w.len w.covered.items after k c.within whole above))
          (cases_outside w.at w.len k out);
    }

one_write : (synced : List ℕ) (ranges : List (ℕ × ℕ)) (at n : ℕ) (before after : List ℕ)
    → MayLeave record {
      seen = before;
      synced = synced;
      written = ranges;
    } before → Torn at n before after → MayLeave record {
      seen = after;
      synced = synced;
      written =
          (at, n) ∷ ranges;
    } after
one_write synced ranges at n before after held torn = record {
  no_shorter = omega (arith, held.no_shorter, torn.no_shorter);
  no_longer = omega arith;
  same = λ k lt out. torn.same k (omega (arith, lt, held.no_shorter)) (λ w. out (inl w)) ∙ held.same
      k lt (λ w. out (inr w));
}

reads_from : (synced : List ℕ) (ranges : List (ℕ × ℕ)) (log : List KeptWrite) (bytes : List ℕ)
    → MayLeave record {
      seen = first_bytes log bytes;
      synced = synced;
      written = ranges;
    } (first_bytes log bytes) → IsLog log bytes
    → MayLeave record {
      seen = bytes;
      synced = synced_of synced log bytes;
      written =
          ranges_of ranges log;
    } bytes
reads_from synced ranges [] bytes held fits = held
reads_from synced ranges (w ∷ log) bytes held fits =
    reads_from (if w.synced then first_bytes log bytes else synced)
    (if w.synced then [] else (w.at, w.len) ∷ ranges) log bytes (either w.synced) fits.1
  where
    either : (b : Bool) → MayLeave record {
      seen = first_bytes log bytes;
      synced = (if b then first_bytes log bytes else synced);
      written = (if b then [] else (w.at, w.len) ∷ ranges);
    } (first_bytes log bytes)
    either true = record {
      no_shorter = omega arith;
      no_longer = omega arith;
      same = λ k lt out. refl;
    }
    either false = one_write synced ranges w.at w.len (bytes_before w (first_bytes log bytes))
        (first_bytes log bytes) held (torn_step w (first_bytes log bytes) fits.0)

pub reads_now_of : (log : List KeptWrite) (bytes : List ℕ) → IsLog log bytes
    → MayLeave (now_of log bytes) bytes
reads_now_of log bytes fits = reads_from (first_bytes log bytes) [] log bytes record {
  no_shorter = omega arith;
  no_longer = omega arith;
  same = λ k lt out. refl;
} fits
