use Rattle.std.proofs.Common.{arith}
use Rattle.serde_json.specs.View.{view}
use Rattle.json_form.proofs.Counts.{is_counted, is_too_few, is_too_many}
use Rattle.json_form.proofs.array.counted.Goals as goal
use Rattle.json_form.proofs.array.counted.Goals.{then-len-low-via-then-len-low, then-len-low-via-else-len-low+then-high-len}

pub returns-then-len-low-clause-read : goal.returns-then-len-low-clause-read
returns-then-len-low-clause-read c =
    rw c.here.ensures (elim c.then-len-low.branch [
      | then-len-low-via-then-len-low w ↦ is_too_few c.args.low c.args.high (view c.args.value) c.in_ok-items.items.items c.in_ok-items.ensures (omega (arith, c.len.ensures, w.if-len-low.true))
      | then-len-low-via-else-len-low+then-high-len w ↦ is_too_many c.args.low c.args.high (view c.args.value) c.in_ok-items.items.items c.in_ok-items.ensures (omega (arith, c.len.ensures, w.if-len-low.false)) (omega (arith, w.if-high-len.true))
    ])

pub returns-clause-read : goal.returns-clause-read
returns-clause-read c =
    is_counted c.args.low c.args.high (view c.args.value) c.in_ok-items.items.items c.in_ok-items.ensures (omega (arith, c.len.ensures, c.if-len-low.false)) (omega arith)
