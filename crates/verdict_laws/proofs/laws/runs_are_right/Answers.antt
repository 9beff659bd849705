use Rattle.verdict_laws.proofs.Holding.{runs_right}
use Rattle.verdict_laws.proofs.laws.runs_are_right.Goals as goal

pub returns : goal.returns
returns c =
    let sees = c.clauses_see_no_writes.ensures in
    runs_right c.serial_goes_on.ensures.tested (record {
      serial = sees.serial;
      fresh = sees.fresh;
      legal = sees.legal;
      once = sees.once;
      same = sees.same;
      stored = sees.stored;
      whole = sees.whole;
    })
