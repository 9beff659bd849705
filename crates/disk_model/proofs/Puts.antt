-- A write in two parts, over what is there and behind it, and its undoing.
use Rattle.std.proofs.Common.{◌≡◌, ◌⊎◌, ℕ, ◌+◌, ◌-◌, ◌≤◌, false, min, List, [], ◌∷◌, ◌++◌, length, take, drop, inl, inr, ⊎_elim, sym, ◌∙◌, ap, arith, append_assoc, length-append, length-drop, take-append-drop}
use Rattle.std.proofs.lemmas.List.{take_at, drop_at, take_all, drop_all, append-nil, drop-drop, length-take-le}
use Rattle.std.proofs.lemmas.Bool.{cases_lt}
use Rattle.disk_model.specs.Moment.{with_bytes}
use Rattle.disk_model.specs.declared.kept.KeptWrite.{KeptWrite}
use Rattle.disk_model.specs.InnerLog.{Logged}
use Rattle.disk_model.proofs.Writes.{length-with_bytes}

module _ (at overlap : ℕ) (new old : List ℕ) (within : at ≤ length old) (is : overlap ≡ min (length new) (length old - at)) where
  -- it ends within the old bytes, or it ends behind them
  ends : ((overlap ≡ length new) × (at + length new ≤ length old)) ⊎ ((at + overlap ≡ length old) × (length old ≤ at + length new))
  ends = ⊎_elim (λ lt. inr (omega (arith, is, lt, within), omega (arith, lt))) (λ ge. inl (omega (arith, is, ge, within), ge)) (cases_lt (length old) (at + length new))

  before : take at (with_bytes at new old) ≡ take at old
  before = ap (take at) (append_assoc (take at old) new (drop (at + length new) old)) ∙ take_at (take at old) (new ++ drop (at + length new) old) at (length-take-le at old within)

  behind : drop (at + length new) (with_bytes at new old) ≡ drop (at + length new) old
  behind = drop_at (take at old ++ new) (drop (at + length new) old) (at + length new) (omega (arith, length-append (take at old) new, length-take-le at old within))

  middle : take overlap (drop at old) ++ drop (at + length new) old ≡ drop at old
  middle = ⊎_elim
      (λ h. ap (λ (l : List ℕ). take overlap (drop at old) ++ l) (ap (λ n. drop (at + n) old) (sym h.0) ∙ sym (drop-drop overlap at old)) ∙ take-append-drop overlap (drop at old))
      (λ h. ap (λ (l : List ℕ). take overlap (drop at old) ++ l) (drop_all (at + length new) old h.1) ∙ append-nil (take overlap (drop at old)) ∙ take_all overlap (drop at old) (omega (arith, h.0, length-drop at old)))
      ends

  pub bytes_before-with_bytes : take at (with_bytes at new old) ++ take overlap (drop at old) ++ drop (at + length new) (with_bytes at new old) ≡ old
  bytes_before-with_bytes =
      ap (λ (l : List ℕ). l ++ take overlap (drop at old) ++ drop (at + length new) (with_bytes at new old)) before
      ∙ ap (λ (l : List ℕ). take at old ++ take overlap (drop at old) ++ l) behind
      ∙ append_assoc (take at old) (take overlap (drop at old)) (drop (at + length new) old)
      ∙ ap (λ (l : List ℕ). take at old ++ l) middle
      ∙ take-append-drop at old

-- a write that is kept
pub logged : (at overlap : ℕ) (bytes old new : List ℕ) (log later : List KeptWrite) (entry : KeptWrite) → at ≤ length old → overlap ≡ min (length bytes) (length old - at) → new ≡ with_bytes at bytes old → later ≡ log ++ entry ∷ [] → entry.at ≡ at → entry.len ≡ length bytes → entry.synced ≡ false → entry.covered.items ≡ take overlap (drop at old) → Logged at (length bytes) old new log later
logged at overlap bytes old new log later entry within is e more offset size pending kept =
    let long = length-with_bytes at bytes old within in
    let count : length entry.covered.items ≡ overlap = ap length kept ∙ length-take-le overlap (drop at old) (omega (arith, is, length-drop at old)) in
    record {
      entry = entry;
      one_more = more;
      offset = offset;
      size = size;
      pending = pending;
      undoes = same_bytes_before entry.at at entry.len (length bytes) entry.covered.items (take overlap (drop at old)) new (with_bytes at bytes old) offset size kept e ∙ bytes_before-with_bytes at overlap bytes old within is;
      covers = record {
        within = omega (arith, offset, size, long, ap length e);
        covered = omega (arith, count, size, is);
        at_end = λ short. omega (arith, short, count, size, offset, is, long, ap length e);
      };
    }
  where
    same_bytes_before : (a b m n : ℕ) (k l s t : List ℕ) → a ≡ b → m ≡ n → k ≡ l → s ≡ t → take a s ++ k ++ drop (a + m) s ≡ take b t ++ l ++ drop (b + n) t
    same_bytes_before a b m n k l s t ab mn kl st = cc
