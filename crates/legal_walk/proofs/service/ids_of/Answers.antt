use Rattle.std.proofs.Common.{◌∙◌}
use Rattle.legal_walk.proofs.Blocking.{one_blocked, all_blocked}
use Rattle.legal_walk.proofs.service.ids_of.Goals as goal

pub loop-ltxid-preserved : goal.loop-ltxid-preserved
loop-ltxid-preserved c = λ x.
    c.loop-ltxid.invariant x ∙ one_blocked c.args.ltxids.now c.loop-ltxid.ltxid-index x (record { incarnation = 0; session = 0; number = 0 }) c.loop-ltxid-test.true c.loop-ltxid.ids c.add.new.self (c.in_ok-add.ensures.blocked x)

pub returns : goal.returns
returns c = λ x. c.loop-ltxid.invariant x ∙ all_blocked c.args.ltxids.now c.loop-ltxid.ltxid-index x c.loop-ltxid-test.false c.loop-ltxid.ids
