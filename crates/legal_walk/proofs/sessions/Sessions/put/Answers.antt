use Rattle.legal_walk.specs.Counts.{key_of}
use Rattle.legal_walk.proofs.Keyed.{going_put}
use Rattle.legal_walk.proofs.sessions.Sessions.put.Goals as goal

pub returns : goal.returns
returns c = λ other.
    going_put c.self.inside.ongoings.entries c.args.self.now c.self.view_is c.args.session.now c.key_of.result c.key_of.ensures c.insert.new.self.entries other c.args.ongoing (c.in_ok-insert.ensures.updates.0 (key_of other))
