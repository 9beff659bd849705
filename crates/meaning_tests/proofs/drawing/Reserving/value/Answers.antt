use Rattle.std.proofs.Common.{Option, Some, FitsSigned, ap, rules, ◌∙◌}
use Rattle.std.proofs.lemmas.Int.{to_z-of_z}
use Rattle.std.specs.Int.{w64}
use Rattle.mutable_values.specs.declared.source.Drawn.{Drawn}
use Rattle.mutable_values.specs.Sources.{DrawnFrom, may_reserve}
use Rattle.mutable_values.proofs.Offered.{may_reserve_next}
use Rattle.meaning_tests.proofs.drawing.Reserving.value.Goals as goal

pub reserved-requires : goal.reserved-requires
reserved-requires c =
    let told : Drawn → Option DrawnFrom = λ answer. Some (record { answer = answer; opening = c.draw.new.self; kept = c.draw.new.kept }) in
    let fits : FitsSigned w64 c.in-Ok-Reserve.upto = search rules in
    ap (may_reserve c.draw.new.self c.in-Ok-Reserve.name) (to_z-of_z w64 c.in-Ok-Reserve.upto fits)
    ∙ may_reserve_next c.args.self.now.source _ _ 7 c.in-Ok-Reserve.name c.in-Ok-Reserve.upto c.draw.new.self c.draw.new.kept (c.in-Ok-Reserve.ensures.drawn ∙ ap told c.in-Ok-Reserve.field-0-is)
