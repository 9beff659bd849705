use Rattle.std.proofs.Common.{sym, ap, ◌∙◌, refl}
use Rattle.outage_schedule.specs.declared.item.Served.{Served}
use Rattle.world_model.specs.meaning.Links.{Link}
use Rattle.world_model.specs.meaning.Serving.{is_last}
use Rattle.world_core.specs.Answering.{session_served}
use Rattle.world_core.proofs.frames.ServedFrames.{writes_blocked, writes_open}
use Rattle.world_core.proofs.traffic.Traffic.answer.Goals as goal

pub returns-then-not-is_blocked : goal.returns-then-not-is_blocked
returns-then-not-is_blocked c = λ m front there is.
    let served : Served = record { event = c.serve.new.self.event; session = c.session_served-session.result; item = c.served_item.result } in
    let link : Link = record front.link { up = front.later } in
    let known = c.session_served-session.ensures ∙ ap (λ known. session_served known c.args.reply) (c.session.ensures m.links link there is.links) in
    let last = ap is_last c.served_item.ensures ∙ sym c.ends_session-ends.ensures in
    let stands = writes_open c.serve.new.self m c.args.number front served c.args.reply (sym c.if-not-is_blocked.ensures) (c.in_ok-serve.ensures m front served refl last there is) in
    record { event = sym stands.event; session = known; item = c.served_item.ensures; links = stands }

pub returns : goal.returns
returns c = λ m front there is.
    let served : Served = record { event = c.serve.new.self.event; session = c.session_served-session.result; item = c.served_item.result } in
    let link : Link = record front.link { up = front.later } in
    let known = c.session_served-session.ensures ∙ ap (λ known. session_served known c.args.reply) (c.session.ensures m.links link there is.links) in
    let last = ap is_last c.served_item.ensures ∙ sym c.ends_session-ends.ensures in
    let serves = c.in_ok-serve.ensures m front served refl last there is in
    let stands = writes_blocked c.end.new.self m c.args.number front served c.args.reply there (sym c.if-not-is_blocked.ensures) (c.end.ensures _ serves) in
    record { event = sym serves.event; session = known; item = c.served_item.ensures; links = stands }
