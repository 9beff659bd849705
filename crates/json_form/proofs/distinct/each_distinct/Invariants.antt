use Rattle.std.proofs.Common.{◌≡◌, ◌+◌, length, map}
use Rattle.serde_json.specs.View.{items_view}
use Rattle.json_form.specs.meaning.Arrays.{each_after, distinct, is_key}
use Rattle.json_form.proofs.distinct.each_distinct.Given as goal

abbrev pub invariant-loop-value : goal.invariant-loop-value
invariant-loop-value g l = record {
  so_far : each_after (λ before. g.R.KeyedReader.reads l.reader (is_key g.R.Key.PartialEq.eq (map g.R.KeyedReader.key_of before))) l.found.items (items_view l.value-iterator.rest.items)
      ≡ distinct g.R.Key.PartialEq.eq g.R.KeyedReader.key_of (g.R.KeyedReader.reads l.reader) (items_view l.fn.values.items);
  noted : (k : g.row.R-Key.Denot) → is_key g.R.Key.PartialEq.eq l.taken k ≡ is_key g.R.Key.PartialEq.eq (map g.R.KeyedReader.key_of l.found.items) k;
  count : length l.found.items + length l.value-iterator.rest.items ≡ length l.fn.values.items;
}
