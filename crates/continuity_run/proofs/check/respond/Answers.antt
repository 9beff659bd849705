use Rattle.continuity_run.proofs.Checked.{right_done, right_cut, raised, refused_so, denied_so, replied}
use Rattle.continuity_run.proofs.check.respond.Goals as goal

pub returns-clause-done : goal.returns-clause-done
returns-clause-done g c =
    right_done c.args.bytes.items c.verdict_on.result c.tell_verdict.result (g.K.Sink.held c.args.sink.now) (g.K.Sink.held c.tell_verdict.new.sink)
    (g.K.Sink.faults c.args.sink.now) (g.K.Sink.faults c.tell_verdict.new.sink) c.verdict_on.ensures.judged c.verdict_on.ensures.refused c.tell_verdict.ensures.told

pub returns-clause-cut : goal.returns-clause-cut
returns-clause-cut g c =
    right_cut c.args.bytes.items c.verdict_on.result c.tell_verdict.result (g.K.Sink.held c.args.sink.now) (g.K.Sink.held c.tell_verdict.new.sink)
    (g.K.Sink.faults c.args.sink.now) (g.K.Sink.faults c.tell_verdict.new.sink) c.verdict_on.ensures.judged c.verdict_on.ensures.refused c.tell_verdict.ensures.told

pub returns-clause-write : goal.returns-clause-write
returns-clause-write g c =
    raised c.args.bytes.items c.verdict_on.result c.tell_verdict.result (g.K.Sink.held c.args.sink.now) (g.K.Sink.held c.tell_verdict.new.sink)
    (g.K.Sink.faults c.args.sink.now) (g.K.Sink.faults c.tell_verdict.new.sink) c.verdict_on.ensures.judged c.verdict_on.ensures.refused c.tell_verdict.ensures.told

pub returns-clause-document : goal.returns-clause-document
returns-clause-document g c =
    refused_so c.args.bytes.items c.verdict_on.result c.tell_verdict.result (g.K.Sink.held c.args.sink.now) (g.K.Sink.held c.tell_verdict.new.sink)
    (g.K.Sink.faults c.args.sink.now) (g.K.Sink.faults c.tell_verdict.new.sink) c.verdict_on.ensures.judged c.verdict_on.ensures.refused c.tell_verdict.ensures.told

pub returns-clause-denied : goal.returns-clause-denied
returns-clause-denied g c =
    denied_so c.args.bytes.items c.verdict_on.result c.tell_verdict.result (g.K.Sink.held c.args.sink.now) (g.K.Sink.held c.tell_verdict.new.sink)
    (g.K.Sink.faults c.args.sink.now) (g.K.Sink.faults c.tell_verdict.new.sink) c.verdict_on.ensures.judged c.verdict_on.ensures.refused c.tell_verdict.ensures.told

pub returns-clause-others : goal.returns-clause-others
returns-clause-others g c =
    replied c.args.bytes.items c.verdict_on.result c.tell_verdict.result (g.K.Sink.held c.args.sink.now) (g.K.Sink.held c.tell_verdict.new.sink)
    (g.K.Sink.faults c.args.sink.now) (g.K.Sink.faults c.tell_verdict.new.sink) c.verdict_on.ensures.judged c.verdict_on.ensures.refused c.tell_verdict.ensures.told
