use Rattle.std.proofs.Common.{◌≡◌, ◌≤◌, ℕ, length}
use Rattle.json.specs.Json.{items, value, parse_map}
use Rattle.serde_json.specs.Data.{string, item}
use Rattle.serde_json.specs.Read.{of_items, converted}
use Rattle.json_form.specs.Streams.{items_ahead}
use Rattle.json_form.proofs.Offered.{items_before}
use Rattle.note_forms.proofs.items_ahead.values_ahead.Given as goal

abbrev pub invariant-items : goal.invariant-items
invariant-items l = record {
  turns : ℕ;
  enough : length l.tokens ≤ turns;
  so_far : parse_map (item (string l.word)) (items_ahead l.depth l.initial.tokens) ≡ parse_map (items_before l.found.items) (converted of_items (items (value l.depth) turns l.tokens));
  shorter : length l.tokens ≤ length l.initial.tokens;
}

abbrev pub decreases-items : goal.decreases-items
decreases-items l = length l.tokens
