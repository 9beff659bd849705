use Rattle.std.proofs.Common.{◌≡◌, ◌≤◌, drop, length}
use Rattle.run_clauses.specs.meaning.Transactions.{txns, with_tried}
use Rattle.run_clauses.specs.meaning.Same.{are_same, is_same_request}
use Rattle.entry_check.specs.InnerGranting.{keeps}
use Rattle.entry_check.proofs.same.AreSame.of_request.Given as goal

abbrev pub invariant-loop-ids : goal.invariant-loop-ids
invariant-loop-ids l =
    let kept = keeps l.self.granting.kinds l.self.granting.sequences.now in
    record {
      rest : are_same kept l.self.stored l.settings (drop l.from l.script) l.more (with_tried (txns (drop l.from l.all)) (drop l.ids-index l.ids-items)) ≡ is_same_request kept l.self.stored l.request l.copy;
      within : l.from ≤ length l.all;
    }
