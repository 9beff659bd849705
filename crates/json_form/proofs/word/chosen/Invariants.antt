use Rattle.std.proofs.Common.{◌≡◌, drop, map}
use Rattle.json_form.specs.meaning.Texts.{chosen}
use Rattle.json_form.proofs.word.chosen.Given as goal

abbrev pub invariant-loop-name : goal.invariant-loop-name
invariant-loop-name g l =
    chosen (map (λ pair. (pair.0.now, pair.1)) (drop l.name-index l.table)) l.word ≡ chosen (map (λ pair. (pair.0.now, pair.1)) l.table) l.word
