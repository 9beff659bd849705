use Rattle.std.proofs.Common.{◌≡◌, ◌≤◌, drop, length}
use Rattle.std.specs.List.{list_all}
use Rattle.run_clauses.specs.meaning.Copies.{copies_of}
use Rattle.entry_check.proofs.copies.fault_of_script.Given as goal

abbrev pub invariant-loop-request : goal.invariant-loop-request
invariant-loop-request g l =
    let tests = g.J.JudgesCopies.test l.judge in
    record {
      rest : list_all tests (copies_of (drop l.request-index l.script) (drop l.from l.reports)) ≡ list_all tests (copies_of l.script l.reports);
      within : l.from ≤ length l.reports;
    }
