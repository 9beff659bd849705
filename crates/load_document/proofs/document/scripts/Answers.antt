use Rattle.std.proofs.Common.{◌≡◌, ◌∙◌, ℕ, suc, ◌+◌, ◌-◌, List, ◌++◌, ◌∷◌, sym, ap, arith}
use Rattle.outage_schedule.specs.declared.document.Request.{Request}
use Rattle.outage_schedule.specs.declared.document.Client.{Client}
use Rattle.load_document.specs.meaning.Loads.{transfers, scripts}
use Rattle.load_document.proofs.Steps.{one_more}
use Rattle.load_document.proofs.document.scripts.Goals as goal

pub loop-preserved : goal.loop-preserved
loop-preserved c =
    let requests = c.args.requests in
    let client : List Request → Client = λ own. record { requests = own } in
    let own = c.in_ok-requests_of.requests_of in
    let after = c.behind-state.result in
    let comes : (m : ℕ) → scripts (suc m) requests c.loop.state ≡ client own ∷ scripts m requests after = λ m.
    ap (λ x. client (transfers requests c.loop.state) ∷ scripts m requests x) (sym c.behind-state.ensures)
    ∙ ap (λ all. client all ∷ scripts m requests after) (sym c.in_ok-requests_of.ensures) in (
      ap (λ now. now ++ scripts (c.args.clients - (c.loop.counter + 1)) requests after) c.in_ok-push.ensures.items
          ∙ one_more (λ n x. scripts n requests x) c.loop.all.items (client own) c.args.clients c.loop.counter c.loop.state after c.loop-test.true comes
          ∙ c.loop.invariant.0,
      omega (arith, c.loop-test.true),
    )
