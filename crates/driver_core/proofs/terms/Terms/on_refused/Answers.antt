use Rattle.std.proofs.Common.{◌≡◌}
use Rattle.svc_values.specs.declared.frame.Ahead.TheVariants as ahead
use Rattle.driver_core.proofs.Elsewhere.{told_as, apart_takes}
use Rattle.driver_core.proofs.terms.Terms.on_refused.Goals as goal

pub returns-in-Server : goal.returns-in-Server
returns-in-Server g c terms talk frame next tag is =
    told_as c.bad_peer.result talk _ _
    (apart_takes terms talk c.args.asked frame c.args.here.alive c.args.here.now c.args.ahead next
    (λ e. let s : c.args.ahead ≡ ahead.Server = c.in-Server.is in let no : ⊥ = cc in no) is)
    (c.bad_peer.ensures talk frame tag)

pub returns : goal.returns
returns g c terms talk frame next tag is =
    told_as c.bad_peer-in-Client.result talk _ _
    (apart_takes terms talk c.args.asked frame c.args.here.alive c.args.here.now c.args.ahead next
    (λ e. let s : c.args.ahead ≡ ahead.Client = c.in-Client.is in let no : ⊥ = cc in no) is)
    (c.bad_peer-in-Client.ensures talk frame tag)
