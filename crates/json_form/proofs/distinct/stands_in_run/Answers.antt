use Rattle.std.proofs.Common.{not, sym, ap, ◌∙◌}
use Rattle.json_form.proofs.Runs.{none_above, found_in_run}
use Rattle.json_form.proofs.distinct.stands_in_run.Goals as goal

pub returns-then-not-rises_to : goal.returns-then-not-rises_to
returns-then-not-rises_to g c = c.is_ok.ensures.value ∙ found_in_run g.met.K.Ord.total g.K.PartialEq.eq g.met.K.Ord.matches_eq c.args.run.now c.args.key.now c.binary_search.result c.requires c.binary_search.ensures.bound c.binary_search.ensures.position

pub returns-else-not-rises_to : goal.returns-else-not-rises_to
returns-else-not-rises_to g c = ap not c.if-not-rises_to.false ∙ sym (none_above g.met.K.Ord.total g.K.PartialEq.eq g.met.K.Ord.matches_eq c.args.run.now c.args.key.now (c.rises_to.ensures.0 c.if-not-rises_to.false))
