use Rattle.legal_walk.specs.Counts.{key_of}
use Rattle.legal_walk.proofs.Keyed.{going_taken}
use Rattle.legal_walk.proofs.sessions.Sessions.take.Goals as goal

pub returns-clause-others : goal.returns-clause-others
returns-clause-others c = λ other apart.
    going_taken c.self.inside.ongoings.entries c.args.self.now c.self.view_is c.args.session.now c.key_of.result c.key_of.ensures c.remove.new.self.entries other (c.remove.ensures.updates.0 (key_of other)) apart
