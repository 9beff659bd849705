use Rattle.std.proofs.Common.{◌≡◌, length, arith}
use Rattle.serde_json.specs.View.{view}
use Rattle.json_form.proofs.Counts.{is_exact, is_not_exact}
use Rattle.json_form.proofs.array.exact_from.Goals as goal

pub returns-then-len-count-clause-read : goal.returns-then-len-count-clause-read
returns-then-len-count-clause-read c =
    rw c.here.ensures (is_not_exact c.args.count (view c.args.value) c.in_ok-items.items.items c.in_ok-items.ensures (λ (h : length c.in_ok-items.items.items ≡ c.args.count). c.if-len-count.true (omega (arith, c.len.ensures, h))))

pub returns-clause-read : goal.returns-clause-read
returns-clause-read c =
    is_exact c.args.count (view c.args.value) c.in_ok-items.items.items c.in_ok-items.ensures (omega (arith, c.len.ensures, c.if-len-count.false))
