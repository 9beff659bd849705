use Rattle.std.proofs.Common.{◌≡◌, drop}
use Rattle.std.specs.List.{list_all}
use Rattle.run_clauses.specs.meaning.Copies.{copies_by_client}
use Rattle.entry_check.proofs.copies.fault_of_scripts.Given as goal

abbrev pub invariant-loop-place : goal.invariant-loop-place
invariant-loop-place g l =
    let tests = list_all (g.J.JudgesCopies.test l.judge) in
    list_all tests (copies_by_client (drop l.place l.clients) (drop l.place l.transcripts)) ≡ list_all tests (copies_by_client l.clients l.transcripts)
