use Rattle.std.proofs.Common.{◌≡◌, map}
use Rattle.doc_reader.specs.InnerCounting.{noted_all}
use Rattle.doc_reader.proofs.counts.note_settings.Given as goal

abbrev pub invariant-loop-name : goal.invariant-loop-name
invariant-loop-name l =
    noted_all l.names (map (λ pair. pair.0) l.name-iterator) ≡ noted_all l.fn.before (map (λ pair. pair.0) l.settings)
