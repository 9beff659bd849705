use Rattle.std.proofs.Common.{◌≡◌, ◌≤◌, ℕ, length, []}
use Rattle.json.specs.Json.{items, value, parse_map}
use Rattle.serde_json.specs.Read.{of_items, converted}
use Rattle.json_form.specs.meaning.Arrays.{each_after, is_key}
use Rattle.json_form.specs.Streams.{items_ahead}
use Rattle.svc_values.specs.contracts.value.ValuePartialEq.TheImpl.{eq-value}
use Rattle.document_forms.specs.meaning.Tables.{field_of}
use Rattle.document_forms.proofs.row_ahead.fields_ahead.Given as goal

abbrev pub invariant-fields : goal.invariant-fields
invariant-fields l = record {
  turns : ℕ;
  enough : length l.tokens ≤ turns;
  so_far : parse_map (each_after (field_of (is_key eq-value.it l.taken)) []) (items_ahead l.inside l.initial.tokens) ≡ parse_map (each_after (field_of (is_key eq-value.it l.taken)) l.found.items) (converted of_items (items (value l.inside) turns l.tokens));
  few : length l.found.items ≤ l.count;
  shorter : length l.tokens ≤ length l.initial.tokens;
}

abbrev pub decreases-fields : goal.decreases-fields
decreases-fields l = length l.tokens
