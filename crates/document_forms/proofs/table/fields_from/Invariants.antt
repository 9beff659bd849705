use Rattle.std.proofs.Common.{◌≡◌, ◌+◌, length, []}
use Rattle.serde_json.specs.View.{items_view}
use Rattle.json_form.specs.meaning.Arrays.{each_after, is_key}
use Rattle.svc_values.specs.contracts.value.ValuePartialEq.TheImpl.{eq-value}
use Rattle.document_forms.specs.meaning.Tables.{field_of}
use Rattle.document_forms.proofs.table.fields_from.Given as goal

abbrev pub invariant-loop-value : goal.invariant-loop-value
invariant-loop-value l = record {
  so_far : each_after (field_of (is_key eq-value.it l.taken)) l.found.items (items_view l.value-iterator.rest.items) ≡ each_after (field_of (is_key eq-value.it l.taken)) [] (items_view l.fn.values.items);
  count : length l.found.items + length l.value-iterator.rest.items ≡ length l.fn.values.items;
}
