use Rattle.std.proofs.Common.{List, subst}
use Rattle.std.specs.Prelude.{Option}
use Rattle.svc_values.specs.declared.answer.Answer.{Answer}
use Rattle.svc_values.specs.declared.draw.Draw.{Draw}
use Rattle.calls_again.specs.OnWay.{GoesBy, taken_with}
use Rattle.serial_check.proofs.Replayed.{ran_again}
use Rattle.serial_check.proofs.again.replays.Goals as goal

pub run-requires-clause-stands : goal.run-requires-clause-stands
run-requires-clause-stands c = λ at known. c.requires.unchanged at

pub returns-in-Some-clause-replayed : goal.returns-in-Some-clause-replayed
returns-in-Some-clause-replayed c =
    let tables = c.args.tables.now in
    let names = c.args.names.now in
    let old = c.args.going.now in
    let new = c.run.new.self in
    let piece = c.args.piece.now in
    let goes = subst (λ (told : Option (List Answer)). GoesBy tables old (taken_with tables names old piece.call piece.draws) told new) c.in-Some.is
    (subst (λ (draws : List Draw). GoesBy tables old (taken_with tables names old piece.call draws) c.in_ok-answers.field-0 new) c.as_slice-draws.ensures c.in_ok-answers.ensures) in
    ran_again tables names old new piece c.in-Some.answers c.is_answered.result goes c.is_answered.ensures
