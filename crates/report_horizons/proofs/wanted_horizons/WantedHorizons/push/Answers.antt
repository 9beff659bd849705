use Rattle.std.proofs.Common.{subst, sym, ◌≤◌}
use Rattle.std.specs.Prelude.{List}
use Rattle.run_clauses.specs.meaning.Horizons.{Wanted}
use Rattle.report_horizons.specs.declared.wanted_horizons.Opening.{Opening}
use Rattle.report_horizons.specs.Horizons.{last_event, AreOrdered}
use Rattle.report_horizons.proofs.Ordered.{ordered_more}
use Rattle.report_horizons.proofs.wanted_horizons.WantedHorizons.push.Goals as goal

pub invariant_of-self-2 : goal.invariant_of-self-2
invariant_of-self-2 c =
    let P : List Opening → Type 0 = λ all. AreOrdered 0 0 all c.greater-most.result in
    let Q : List Wanted → Type 0 = λ all. last_event 0 all ≤ c.args.event in
    subst P (sym c.in_ok-push.ensures.items)
    (ordered_more 0 0 c.self.inside.openings.items c.self.inside.most c.args.event c.args.horizon c.greater-most.result (subst Q (sym c.self.view_is) c.requires) c.greater-most.ensures c.self.invariant)
