use Rattle.std.proofs.Common.{ap}
use Rattle.std.specs.Prelude.{Err}
use Rattle.standby_ship.proofs.Walking.{breaks_walking}
use Rattle.standby_ship.proofs.opening.bring_up_to.Goals as goal

pub returns-in-Err-Stopped-clause-broken : goal.returns-in-Err-Stopped-clause-broken
returns-in-Err-Stopped-clause-broken g c stopped =
    let walked = c.in-Err-Stopped.ensures in
    breaks_walking c.args.primary.now c.unanswer.new.self c.args.second.now c.walk_to_end.new.second c.left.result _ (ap Err c.in-Err-Stopped.field-0-is) c.requires.lags c.requires.settled c.left.ensures walked.only_reads walked.reads_now c.unanswer.ensures
