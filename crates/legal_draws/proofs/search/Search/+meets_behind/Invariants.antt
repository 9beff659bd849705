use Rattle.std.proofs.Common.{◌≡◌, length, drop}
use Rattle.std.specs.List.{list_any}
use Rattle.server_model.specs.meaning.NewValues.{may_give}
use Rattle.legal_draws.proofs.Searching.{meets_given}
use Rattle.legal_draws.proofs.search.Search.+meets_behind.Given as goal

abbrev pub decreases-meets_behind : goal.decreases-meets_behind
decreases-meets_behind g l = length l.asked.now

-- the ways so far do not meet the test, and the draws are as they were
abbrev pub invariant-loop-way : goal.invariant-loop-way
invariant-loop-way g l =
    let test = meets_given (g.T.Trial.test l.self.trial.now) l.self.tick l.fn.draws.items l.more in
    let ways = may_give l.numbers l.self.tick l.kind in
    record {
      left : list_any test (drop l.way ways) ≡ list_any test ways;
      same : l.draws.items ≡ l.fn.draws.items;
    }
