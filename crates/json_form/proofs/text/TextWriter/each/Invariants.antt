use Rattle.std.proofs.Common.{◌≡◌, ◌++◌, take}
use Rattle.std.specs.List.{flat_map}
use Rattle.json_form.specs.Tokens.{tokens_of}
use Rattle.json_form.proofs.text.TextWriter.each.Given as goal

abbrev pub invariant-loop-item : goal.invariant-loop-item
invariant-loop-item g l = l.self ≡ l.fn.self ++ flat_map (λ item. tokens_of (g.W.Writer.writes l.writer item)) (take l.item-index l.items)
