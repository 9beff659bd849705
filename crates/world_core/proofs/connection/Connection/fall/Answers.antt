use Rattle.std.proofs.Common.{inl, inr, refl}
use Rattle.world_core.proofs.Linking.{fallen_is_link}
use Rattle.world_core.proofs.connection.Connection.fall.Goals as goal

pub returns-then-not-self : goal.returns-then-not-self
returns-then-not-self c = λ link is. fallen_is_link c.end.new.self c.args.event link (c.end.ensures.link link is) _ _ c.keep_first.ensures (inl (c.if-not-self.true, c.keep_first-then-not-self.ensures))

pub returns-else-not-self : goal.returns-else-not-self
returns-else-not-self c = λ link is. fallen_is_link c.end.new.self c.args.event link (c.end.ensures.link link is) _ _ c.keep_first.ensures (inr (c.if-not-self.false, refl))
