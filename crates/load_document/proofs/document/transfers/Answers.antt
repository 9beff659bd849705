use Rattle.std.proofs.Common.{◌≡◌, ◌∙◌, ℕ, suc, ◌+◌, ◌-◌, ◌++◌, ◌∷◌, sym, ap, arith}
use Rattle.load_document.specs.meaning.Loads.{next, drawn, transfer, transfers}
use Rattle.load_document.proofs.Steps.{one_more}
use Rattle.load_document.proofs.document.transfers.Goals as goal

pub loop-preserved : goal.loop-preserved
loop-preserved c =
    let from = c.next-from.result in
    let to = c.next-to.result in
    let item = c.in_ok-transfer.field-0 in
    let item_is : item ≡ transfer (drawn 16 from) (drawn 16 to) =
    c.in_ok-transfer.ensures ∙ ap (λ a. transfer a c.drawn-in-loop.result) c.drawn.ensures.drawn ∙ ap (λ b. transfer (drawn 16 from) b) c.drawn-in-loop.ensures.drawn in
    let comes : (m : ℕ) → transfers (suc m) c.loop.state ≡ item ∷ transfers m to = λ m.
    ap (λ x. transfer (drawn 16 x) (drawn 16 (next x)) ∷ transfers m (next x)) (sym c.next-from.ensures)
    ∙ ap (λ x. transfer (drawn 16 from) (drawn 16 x) ∷ transfers m x) (sym c.next-to.ensures)
    ∙ ap (λ one. one ∷ transfers m to) (sym item_is) in (
      ap (λ now. now ++ transfers (c.args.requests - (c.loop.counter + 1)) to) c.in_ok-push.ensures.items
          ∙ one_more transfers c.loop.all.items item c.args.requests c.loop.counter c.loop.state to c.loop-test.true comes
          ∙ c.loop.invariant.0,
      omega (arith, c.loop-test.true),
    )
