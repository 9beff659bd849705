use Rattle.std.proofs.Common.{◌≡◌, ◌≤◌, ℕ, length, map, []}
use Rattle.json.specs.Json.{items, value, parse_map}
use Rattle.serde_json.specs.Read.{of_items, converted}
use Rattle.json_form.specs.meaning.Arrays.{each_after, is_key}
use Rattle.json_form.specs.Streams.{items_ahead}
use Rattle.json_form.proofs.distinct.distinct_ahead.Given as goal

abbrev pub invariant-items : goal.invariant-items
invariant-items g l = record {
  turns : ℕ;
  enough : length l.tokens ≤ turns;
  so_far : parse_map (each_after (λ before. g.R.KeyedReader.reads l.reader (is_key g.R.Key.PartialEq.eq (map g.R.KeyedReader.key_of before))) []) (items_ahead l.inside l.initial.tokens) ≡ parse_map (each_after (λ before. g.R.KeyedReader.reads l.reader (is_key g.R.Key.PartialEq.eq (map g.R.KeyedReader.key_of before))) l.found.items) (converted of_items (items (value l.inside) turns l.tokens));
  noted : (k : g.row.R-Key.Denot) → is_key g.R.Key.PartialEq.eq l.taken k ≡ is_key g.R.Key.PartialEq.eq (map g.R.KeyedReader.key_of l.found.items) k;
  few : length l.found.items ≤ l.high;
  shorter : length l.tokens ≤ length l.initial.tokens;
}

abbrev pub decreases-items : goal.decreases-items
decreases-items g l = length l.tokens
