use Rattle.std.proofs.Common.{◌≡◌, ℕ, true, false, List, [], length, ap, ◌∙◌}
use Rattle.std.specs.Prelude.{◌==◌}
use Rattle.frame_wire.proofs.Payloads.{none_behind_fault, none_before_rest}
use Rattle.frame_wire.proofs.feed.frame_of.Goals as goal

pub returns-in-Err-Fault-clause-none : goal.returns-in-Err-Fault-clause-none
returns-in-Err-Fault-clause-none g c = λ bad frame fits e.
    let exact = rw c.in-Err-Fault.field-0-is at c.in-Err-Fault.ensures.exact in
    none_behind_fault g.F.Take.spelling g.F.Take.fits g.F.Take.reading g.met.F.Take.again c.args.payload.now c.in-Err-Fault.field-0-0 frame exact fits e

pub returns-then-not-is_empty-clause-none : goal.returns-then-not-is_empty-clause-none
returns-then-not-is_empty-clause-none g c = λ bad frame fits e.
    let some : c.in-Ok.first.1.now ≡ [] → ⊥ = λ none. let same : false ≡ true = c.if-not-is_empty.ensures ∙ ap (λ (r : List ℕ). length r == 0) none in cc in
    none_before_rest g.F.Take.spelling g.F.Take.fits g.F.Take.reading g.met.F.Take.again c.args.payload.now c.in-Ok.first.1.now c.in-Ok.first.0 frame c.in-Ok.ensures.exact some fits e
