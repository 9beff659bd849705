use Rattle.std.proofs.Common.{◌≡◌, ◌≤◌, ◌+◌, length, []}
use Rattle.call_forms.specs.meaning.Calls.{work_of}
use Rattle.call_forms.proofs.CallItems.{work_after}
use Rattle.call_forms.proofs.call.work_of_items.Given as goal

abbrev pub invariant-loop-item : goal.invariant-loop-item
invariant-loop-item l = record {
  so_far : work_after l.commit l.statements.items l.item-iterator.rest.items ≡ work_of [] l.fn.items.items;
  few : length l.statements.items + length l.item-iterator.rest.items ≤ 8;
}
