use Rattle.std.proofs.Common.{refl}
use Rattle.json_form.proofs.Runs.{rises_behind, rises_alone}
use Rattle.json_form.proofs.distinct.rises_to.Goals as goal

pub returns-in-Some : goal.returns-in-Some
returns-in-Some g c = rises_behind g.met.K.Ord.total c.args.run.now c.in-Some.field-0-1.now c.in-Some.last.now c.args.key.now c.is_below.result c.in-Some.ensures.cases.0 c.requires c.is_below.ensures

pub returns-in-None : goal.returns-in-None
returns-in-None g c = ((λ _. rises_alone g.met.K.Ord.total c.args.run.now c.args.key.now c.in-None.ensures.cases), (λ _. refl))
