use Rattle.std.proofs.Common.{◌+◌, sym, ◌∙◌, subst}
use Rattle.svc_values.specs.declared.frame.Up.{Up}
use Rattle.svc_values.specs.meaning.Calls.{sequences_in}
use Rattle.server_session.specs.Serving.{Serves, served_as}
use Rattle.server_session.proofs.Framing.{refused, connected, began, came_to_end, was_closed, ran}
use Rattle.server_session.proofs.session.Session.answer_frame.Goals as goal

pub returns-then-is_out_of_order-clause-served : goal.returns-then-is_out_of_order-clause-served
returns-then-is_out_of_order-clause-served g c =
    refused c.args.frame.now c.args.now c.args.self.now c.close.new.self c.args.core.now (g.D.Disk.state c.args.disk.now) c.requires.fits c.requires.belongs c.requires.lives
    (sym c.is_out_of_order.ensures ∙ c.if-is_out_of_order.true) c.close.ensures

pub returns-in-Connect-clause-served : goal.returns-in-Connect-clause-served
returns-in-Connect-clause-served g c =
    connected c.args.frame.now c.args.now c.args.self.now c.connect.new.self c.args.core.now (g.D.Disk.state c.args.disk.now) c.requires.fits c.requires.belongs c.requires.lives
    c.connect.result (sym c.is_out_of_order.ensures ∙ c.if-is_out_of_order.false) c.in-Connect.is c.connect.ensures.told c.connect.ensures.seen

pub returns-in_ok-begin-in-Begin-clause-served : goal.returns-in_ok-begin-in-Begin-clause-served
returns-in_ok-begin-in-Begin-clause-served g c =
    began c.args.frame.now c.args.now c.args.self.now c.begin.new.self c.args.core.now (g.D.Disk.state c.args.disk.now) c.requires.fits c.requires.belongs c.requires.lives
    c.in-Begin.settings (sym c.is_out_of_order.ensures ∙ c.if-is_out_of_order.false) c.in-Begin.is c.in_ok-begin-in-Begin.ensures

pub returns-in-End-clause-served : goal.returns-in-End-clause-served
returns-in-End-clause-served g c =
    came_to_end c.args.frame.now c.args.now c.args.self.now c.end.new.self c.args.core.now (g.D.Disk.state c.args.disk.now) c.requires.fits c.requires.belongs c.requires.lives
    (sym c.is_out_of_order.ensures ∙ c.if-is_out_of_order.false) c.in-End.is c.end.ensures

pub returns-in-Close-clause-served : goal.returns-in-Close-clause-served
returns-in-Close-clause-served g c =
    was_closed c.args.frame.now c.args.now c.args.self.now c.close-in-Close.new.self c.args.core.now (g.D.Disk.state c.args.disk.now) c.requires.fits c.requires.belongs c.requires.lives
    (sym c.is_out_of_order.ensures ∙ c.if-is_out_of_order.false) c.in-Close.is c.close-in-Close.ensures

pub returns-in-Outcome-clause-served : goal.returns-in-Outcome-clause-served
returns-in-Outcome-clause-served g c =
    let state = g.D.Disk.state in
    subst (λ (f : Up). Serves (served_as f c.args.now) (1 + sequences_in f) c.outcome.result c.args.self.now c.args.core.now (state c.args.disk.now) c.args.self.now c.outcome.new.core (state c.outcome.new.disk)) (sym c.in-Outcome.is)
    (c.outcome.ensures c.args.now)

pub returns-in-Call-clause-served : goal.returns-in-Call-clause-served
returns-in-Call-clause-served g c =
    let state = g.D.Disk.state in
    ran c.args.frame.now c.in-Call.replay c.in-Call.kept c.in-Call.call c.args.now c.call.result c.args.self.now c.args.core.now (state c.args.disk.now) c.call.new.self c.call.new.core (state c.call.new.disk) c.requires.lives
    (sym c.is_out_of_order.ensures ∙ c.if-is_out_of_order.false) c.in-Call.is c.call.ensures
