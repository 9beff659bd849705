use Rattle.std.proofs.Common.{◌∙◌, ◌+◌, ◌-◌, ◌++◌, ◌∷◌, sym, ap, arith}
use Rattle.load_document.specs.meaning.Loads.{accounts_from}
use Rattle.load_document.proofs.Steps.{one_more}
use Rattle.load_document.proofs.parts.account_rows.Goals as goal

pub loop-number-preserved : goal.loop-number-preserved
loop-number-preserved c =
    let n = c.loop-number.number in
    let item = c.in_ok-account.field-0 in (
      ap (λ now. now ++ accounts_from (16 - (n + 1)) (n + 1)) c.in_ok-push.ensures.items
          ∙ one_more accounts_from c.loop-number.rows.items item 16 n n (n + 1) c.loop-number-test.true (λ m. ap (λ one. one ∷ accounts_from m (n + 1)) (sym c.in_ok-account.ensures))
          ∙ c.loop-number.invariant.0,
      omega (arith, c.loop-number-test.true),
    )
