use Rattle.std.proofs.Common.{sym, subst}
use Rattle.service_tests.specs.Facts.{Facts, called}
use Rattle.service_tests.specs.Knows.{Knows}
use Rattle.service_tests.proofs.Knowing.{looked_tells, went}
use Rattle.service_tests.proofs.bench.Bench.stored.Goals as goal

pub invariant_of-self : goal.invariant_of-self
invariant_of-self g c =
    let known : Knows (called c.self.inside.known) (g.S.Service.state c.journal.new.self) (g.S.Service.sees c.journal.new.self) =
    went _ _ (λ seen sees. (g.met.S.Service.honest c.self.inside.service seen sees).state_is) (λ seen sees. (g.met.S.Service.honest c.journal.new.self seen sees).state_is) c.self.invariant c.in-Ok.ensures.looked
    (λ old new tells is. looked_tells _ old new tells is) in
    subst (λ (f : Facts). Knows f (g.S.Service.state c.journal.new.self) (g.S.Service.sees c.journal.new.self)) (sym c.called.ensures) known
