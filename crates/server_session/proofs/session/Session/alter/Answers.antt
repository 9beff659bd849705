use Rattle.std.proofs.Common.{◌∙◌}
use Rattle.std.proofs.lemmas.Result.{err_from_is_err_and}
use Rattle.svc_values.specs.declared.frame.Down.TheVariants as down
use Rattle.server_model.specs.Sessions.{piece_of}
use Rattle.server_session.proofs.Frames.{alter_refused, alter_fault, alter_told}
use Rattle.server_session.proofs.Quiet.{noting}
use Rattle.server_session.proofs.session.Session.alter.Goals as goal

pub returns-then-replay : goal.returns-then-replay
returns-then-replay g c kept now =
    alter_refused c.args.call.now c.args.line.now c.args.replay kept now c.args.self.now c.close.new.self c.args.core.now (g.D.Disk.state c.args.disk.now) c.requires.call c.if-replay.true c.close.ensures c.requires.fits c.requires.belongs

pub returns-in_err-store_line : goal.returns-in_err-store_line
returns-in_err-store_line g c kept now =
    let state = g.D.Disk.state in
    let p = err_from_is_err_and c.from_residual.result c.from_residual.ensures.1 in
    rw (p.1, p.2) (alter_fault c.args.call.now c.args.line.now c.args.replay kept now _ c.args.self.now c.args.self.now c.args.core.now (state c.args.disk.now) c.store_line.new.core (state c.store_line.new.disk) c.requires.call c.if-replay.false c.requires.fits c.in_err-store_line.ensures)

pub returns : goal.returns
returns g c kept now =
    let state = g.D.Disk.state in
    let old = c.args.self.now in
    alter_told c.args.call.now c.args.line.now c.args.replay kept now c.in_ok-told.told old c.answer-2.new.self c.args.core.now (state c.args.disk.now) c.store_line.new.core (state c.store_line.new.disk) c.requires.call c.if-replay.false c.requires.fits c.requires.belongs
    (c.in_ok-told.ensures.told ∙ (λ i. down.Reply (c.in_ok-answers.ensures i) (c.new.ensures i) old.ltxid))
    (c.in_ok-told.ensures.seen ∙ (λ i. noting old (piece_of c.args.call.now (c.in_ok-answers.ensures i) (c.new.ensures i))))
    c.in_ok-store_line.ensures
