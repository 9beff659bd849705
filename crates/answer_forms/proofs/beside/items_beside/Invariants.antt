use Rattle.std.proofs.Common.{◌≡◌, ◌≤◌, ◌-◌, List, length, take, Some, Ok}
use Rattle.json.specs.Token.{Token}
use Rattle.json.specs.Json.{parse_map}
use Rattle.json_form.specs.meaning.Arrays.{each_after}
use Rattle.json_form.specs.Streams.{items_ahead}
use Rattle.answer_forms.proofs.beside.items_beside.Given as goal

abbrev pub invariant-same : goal.invariant-same
invariant-same g l = record {
  from : l.from ≤ l.at;
  within : l.at ≤ length l.known;
  so_far : (xs : List g.row.T.Denot) (rest : List Token) → parse_map (each_after (λ before. g.R.Reader.reads l.reader) (take l.at l.known)) (items_ahead l.depth l.tokens) ≡ Some (Ok xs, rest)
      → parse_map (each_after (λ before. g.R.Reader.reads l.reader) (take l.from l.known)) (items_ahead l.depth l.initial.tokens) ≡ Some (Ok xs, rest);
  shorter : length l.tokens ≤ length l.initial.tokens;
}

abbrev pub decreases-same : goal.decreases-same
decreases-same g l = length l.known - l.at
