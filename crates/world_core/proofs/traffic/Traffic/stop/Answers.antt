use Rattle.std.proofs.Common.{sym, ap, ◌∙◌, refl, None}
use Rattle.outage_schedule.specs.declared.item.Served.{Served}
use Rattle.world_model.specs.meaning.Links.{Link}
use Rattle.world_core.specs.Answering.{session_served}
use Rattle.world_core.proofs.traffic.Traffic.stop.Goals as goal

pub returns : goal.returns
returns c = λ m front there is.
    let served : Served = record { event = c.args.self.now.event; session = c.session_served-session.result; item = c.crashed_item-item.result } in
    let link : Link = record front.link { up = front.later } in
    let known = c.session_served-session.ensures ∙ ap (λ known. session_served known None) (c.session.ensures m.links link there is.links) in
    let stands = c.in_ok-serve.ensures m front served refl (sym c.is_last.ensures) there is in
    record { event = sym is.event; session = known; item = c.crashed_item-item.ensures; links = stands }
