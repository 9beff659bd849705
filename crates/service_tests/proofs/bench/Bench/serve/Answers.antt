use Rattle.std.proofs.Common.{◌≡◌, ◌∙◌, sym, ap₂, subst, rules}
use Rattle.std.specs.Prelude.{Bool, not}
use Rattle.server_model.specs.meaning.Outcomes.{telling_of}
use Rattle.server_model.specs.ServiceCalls.{ends_session}
use Rattle.service_tests.specs.Facts.{Facts, with_living, worked}
use Rattle.service_tests.specs.Knows.{Knows}
use Rattle.service_tests.proofs.Knowing.{served_tells, went}
use Rattle.service_tests.proofs.bench.Bench.serve.Goals as goal

pub invariant_of-self : goal.invariant_of-self
invariant_of-self g c =
    let lives : Bool = not (ends_session c.args.frame.now (telling_of c.in-Ok.told)) in
    let known : Knows (with_living c.args.connection lives (worked c.self.inside.known)) (g.S.Service.state c.serve.new.self) (g.S.Service.sees c.serve.new.self) =
    went _ _ (λ seen sees. (g.met.S.Service.honest c.self.inside.service seen sees).state_is) (λ seen sees. (g.met.S.Service.honest c.serve.new.self seen sees).state_is) c.self.invariant c.in-Ok.ensures.served
    (λ old new tells is. served_tells _ old new tells c.args.connection _ c.args.frame.now c.in-Ok.told _ (search rules) is) in
    let same : c.set.new.self ≡ with_living c.args.connection lives (worked c.self.inside.known) = c.set.ensures ∙ ap₂ (λ (b : Bool) (f : Facts). with_living c.args.connection b f) c.goes_on.ensures c.worked.ensures in
    subst (λ (f : Facts). Knows f (g.S.Service.state c.serve.new.self) (g.S.Service.sees c.serve.new.self)) (sym same) known
