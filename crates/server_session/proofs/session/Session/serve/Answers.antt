use Rattle.std.proofs.Common.{◌+◌}
use Rattle.svc_values.specs.meaning.Calls.{sequences_in}
use Rattle.server_session.specs.Serving.{served_as}
use Rattle.server_session.proofs.Lifting.{serves_fault}
use Rattle.server_session.proofs.session.Session.serve.Goals as goal

pub returns-in-Err-clause-served : goal.returns-in-Err-clause-served
returns-in-Err-clause-served g c =
    let state = g.D.Disk.state in
    serves_fault (served_as c.args.frame.now c.args.now) (1 + sequences_in c.args.frame.now) c.in-Err.fault c.args.self.now c.args.core.now (state c.args.disk.now) c.answer_frame.new.self c.close.new.self c.answer_frame.new.core (state c.answer_frame.new.disk) c.in-Err.ensures.served
