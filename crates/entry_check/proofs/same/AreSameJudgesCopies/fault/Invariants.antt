use Rattle.std.proofs.Common.{◌≡◌, drop}
use Rattle.std.specs.List.{list_all}
use Rattle.run_clauses.specs.meaning.Same.{is_same_request}
use Rattle.entry_check.specs.InnerGranting.{keeps}
use Rattle.entry_check.proofs.same.AreSameJudgesCopies.fault.Given as goal

abbrev pub invariant-loop-at : goal.invariant-loop-at
invariant-loop-at l =
    let tests = is_same_request (keeps l.self.granting.kinds l.self.granting.sequences.now) l.self.stored l.request in
    list_all tests (drop l.at l.copies) ≡ list_all tests l.copies
