use Rattle.std.proofs.Common.{◌≡◌, []}
use Rattle.serde_json.specs.View.{items_view}
use Rattle.json_form.specs.meaning.Arrays.{each_after}
use Rattle.answer_forms.specs.meaning.Parts.{setting_in}
use Rattle.answer_forms.proofs.part.settings_from.Given as goal

abbrev pub invariant-loop-value : goal.invariant-loop-value
invariant-loop-value l =
    each_after setting_in l.settings (items_view l.value-iterator.rest.items) ≡ each_after setting_in [] (items_view l.fn.values.items)
