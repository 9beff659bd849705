use Rattle.std.proofs.Common.{◌≡◌, []}
use Rattle.serde_json.specs.View.{items_view}
use Rattle.json_form.specs.meaning.Arrays.{each_after}
use Rattle.note_forms.specs.meaning.Items.{last_event, one_served}
use Rattle.note_forms.proofs.item.each_served.Given as goal

abbrev pub invariant-loop-value : goal.invariant-loop-value
invariant-loop-value l = record {
  so_far : each_after (λ before. one_served l.notes (last_event before)) l.found.items (items_view l.value-iterator.rest.items)
      ≡ each_after (λ before. one_served l.notes (last_event before)) [] (items_view l.fn.values.items);
  last : l.last ≡ last_event l.found.items;
}
