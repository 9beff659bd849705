use Rattle.std.proofs.Common.{◌≡◌, ℕ, zero, suc, ◌-◌, List, [], ◌∷◌, length, get_or, set, ap, arith}
use Rattle.disk_model.specs.declared.kept.KeptWrite.{KeptWrite}
use Rattle.disk_model.specs.InnerLog.{synced_write, with_sync}
use Rattle.disk_model.proofs.kept.mark.Goals as goal

at_last : (log : List KeptWrite) (k : ℕ) (x : KeptWrite) → length log ≡ suc k → x ≡ get_or log k x → set log k (synced_write x) ≡ with_sync log
at_last [] k x long is = absurd (omega (arith, long))
at_last (w ∷ []) zero x long is = ap (λ (y : KeptWrite). synced_write y ∷ []) is
at_last (w ∷ []) (suc k) x long is = absurd (omega (arith, long))
at_last (w ∷ y ∷ log) zero x long is = absurd (omega (arith, long))
at_last (w ∷ y ∷ log) (suc k) x long is = ap (λ (l : List KeptWrite). w ∷ l) (at_last (y ∷ log) k x (omega (arith, long)) is)

pub returns-then-count-gt0 : goal.returns-then-count-gt0
returns-then-count-gt0 c =
    let x = c.index_mut.result.now in
    at_last c.args.log.now.items (c.len-count.result - 1) x (omega (arith, c.len-count.ensures, c.args.log.now.ok.0, c.if-count-gt0.true)) c.index_mut.ensures.value
