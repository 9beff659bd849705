use Rattle.std.proofs.Common.{◌≡◌, ◌-◌, ◌∙◌, length, drop, take, subst, arith}
use Rattle.std.proofs.lemmas.Grind.{common_steps}
use Rattle.server_model.specs.meaning.NewValues.{may_give}
use Rattle.legal_draws.specs.Trials.{FailsBehind}
use Rattle.legal_draws.proofs.Searching.{asked_first, fails_all, met_here, missed_all, missed_here}
use Rattle.legal_draws.proofs.search.Search.+meets_behind.Goals as goal

pub returns-then-branch-clause-met : goal.returns-then-branch-clause-met
returns-then-branch-clause-met g t c =
    let test = g.T.Trial.test c.args.self.now.trial.now in
    fails_all test c.args.self.now.tick c.args.draws.now.items c.args.asked.now c.args.numbers.now (subst (FailsBehind test) (c.as_slice-in-loop-way.ensures.value ∙ c.loop-way.invariant.same) (c.in_ok-is_in_vain.ensures c.if-branch.true))

pub returns-then-met-clause-met : goal.returns-then-met-clause-met
returns-then-met-clause-met g t c =
    let asked = c.args.asked.now in
    let kind = c.kind-item.result in
    met_here (g.T.Trial.test c.args.self.now.trial.now) c.args.self.now.tick c.args.draws.now.items asked kind (take (length asked - 1) (drop 1 asked)) c.args.numbers.now c.loop-way.way c.in_ok-draw.field-0.draw c.in_ok-draw.field-0.after
    c.loop-way.draws.items c.push.new.self.items c.in_ok-met.met
    (asked_first asked kind c.in-len1-up.len_at_least c.kind-item.is)
    c.loop-way.invariant.left
    c.in_ok-draw.ensures
    c.loop-way.invariant.same
    c.in_ok-push.ensures.items
    c.in_ok-met.ensures.met
    c.if-met.true

pub loop-way-preserved : goal.loop-way-preserved
loop-way-preserved g t c =
    let asked = c.args.asked.now in
    record {
      left =
          missed_here (g.T.Trial.test c.args.self.now.trial.now) c.args.self.now.tick c.args.draws.now.items c.kind-item.result (take (length asked - 1) (drop 1 asked)) c.args.numbers.now c.loop-way.way c.in_ok-draw.field-0.draw
          c.in_ok-draw.field-0.after c.loop-way.draws.items c.push.new.self.items c.in_ok-met.met
          c.loop-way.invariant.left
          c.in_ok-draw.ensures
          c.loop-way.invariant.same
          c.in_ok-push.ensures.items
          c.in_ok-met.ensures.met
          c.if-met.false;
      same = grind (arith, common_steps);
    }

pub returns-clause-met : goal.returns-clause-met
returns-clause-met g t c =
    let asked = c.args.asked.now in
    let kind = c.kind-item.result in
    let now = c.args.self.now.tick in
    let many : length (may_give c.args.numbers.now now kind) ≡ c.in_ok-way-end.way-end = c.in_ok-way-end.ensures now in
    missed_all (g.T.Trial.test c.args.self.now.trial.now) now c.args.draws.now.items asked kind (take (length asked - 1) (drop 1 asked)) c.args.numbers.now c.loop-way.way
    (asked_first asked kind c.in-len1-up.len_at_least c.kind-item.is)
    c.loop-way.invariant.left
    (let past = c.loop-way-test.false in omega (arith, many, past))
