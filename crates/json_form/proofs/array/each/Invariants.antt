use Rattle.std.proofs.Common.{◌≡◌, ◌+◌, length}
use Rattle.serde_json.specs.View.{items_view}
use Rattle.json_form.specs.meaning.Arrays.{each_after, each_of}
use Rattle.json_form.proofs.array.each.Given as goal

abbrev pub invariant-loop-value : goal.invariant-loop-value
invariant-loop-value g l = record {
  so_far : each_after (λ before. g.R.Reader.reads l.reader) l.found.items (items_view l.value-iterator.rest.items) ≡ each_of (g.R.Reader.reads l.reader) (items_view l.fn.values.items);
  count : length l.found.items + length l.value-iterator.rest.items ≡ length l.fn.values.items;
}
