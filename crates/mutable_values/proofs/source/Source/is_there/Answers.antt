use Rattle.std.proofs.Common.{ap, sym, ◌∙◌}
use Rattle.svc_values.specs.Draws.{is_there}
use Rattle.mutable_values.specs.Sources.{names_of}
use Rattle.mutable_values.proofs.Draws.{place_there}
use Rattle.mutable_values.proofs.source.Source.is_there.Goals as goal

pub returns-in-Seq : goal.returns-in-Seq
returns-in-Seq c =
    c.is_some.ensures ∙ place_there c.args.self.now.sequences c.in-Seq.name c.place.result (sym c.place.ensures) ∙ ap (is_there (names_of c.args.self.now.sequences)) (sym c.in-Seq.is)
