use Rattle.std.proofs.Common.{◌≡◌, ◌∙◌, ℕ, suc, ◌+◌, ◌-◌, ◌++◌, ◌∷◌, sym, ap, arith}
use Rattle.load_document.specs.meaning.Loads.{event_at, behind_event, events}
use Rattle.load_document.proofs.Steps.{one_more}
use Rattle.load_document.proofs.schedule.events.Goals as goal

pub loop-preserved : goal.loop-preserved
loop-preserved c =
    let clients = c.args.clients in
    let kind = c.next-kind.result in
    let item = c.event_at.result in
    let after = c.behind_event-state.result in
    let comes : (m : ℕ) → events clients (suc m) c.loop.state ≡ item ∷ events clients m after = λ m.
    ap (λ x. event_at clients x ∷ events clients m (behind_event x)) (sym c.next-kind.ensures)
    ∙ ap (λ one. one ∷ events clients m (behind_event kind)) (sym c.event_at.ensures)
    ∙ ap (λ x. item ∷ events clients m x) (sym c.behind_event-state.ensures) in (
      ap (λ now. now ++ events clients (c.args.count - (c.loop.counter + 1)) after) c.in_ok-push.ensures.items
          ∙ one_more (λ n x. events clients n x) c.loop.all.items item c.args.count c.loop.counter c.loop.state after c.loop-test.true comes
          ∙ c.loop.invariant.0,
      omega (arith, c.loop-test.true),
    )
