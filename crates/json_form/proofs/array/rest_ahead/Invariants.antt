use Rattle.std.proofs.Common.{◌≡◌, ◌≤◌, ℕ, length}
use Rattle.json.specs.Json.{items, value, parse_map}
use Rattle.serde_json.specs.Read.{of_items, converted}
use Rattle.json_form.specs.meaning.Arrays.{each_after}
use Rattle.json_form.specs.Streams.{items_ahead}
use Rattle.json_form.proofs.array.rest_ahead.Given as goal

abbrev pub invariant-items : goal.invariant-items
invariant-items g l = record {
  turns : ℕ;
  enough : length l.tokens ≤ turns;
  so_far : parse_map (each_after (λ before. g.R.Reader.reads l.reader) l.initial.found.items) (items_ahead l.depth l.initial.tokens) ≡ parse_map (each_after (λ before. g.R.Reader.reads l.reader) l.found.items) (converted of_items (items (value l.depth) turns l.tokens));
  few : length l.found.items ≤ l.high;
  shorter : length l.tokens ≤ length l.initial.tokens;
}

abbrev pub decreases-items : goal.decreases-items
decreases-items g l = length l.tokens
