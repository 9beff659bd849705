use Rattle.std.proofs.Common.{◌∙◌, List, refl, sym, ap}
use Rattle.std.specs.Prelude.{fold}
use Rattle.std.proofs.lemmas.List.{drop_all, drop_more}
use Rattle.run_clauses.specs.meaning.Blocks.{after_answer, is_done}
use Rattle.stored_check.specs.declared.blocks.AnsweredAt.{AnsweredAt}
use Rattle.stored_check.specs.Blocking.{answered_as, all_answered}
use Rattle.stored_check.proofs.BlocksOn.{first_blocks}
use Rattle.stored_check.proofs.blocks.first_disordered.Goals as goal

pub loop-one-init : goal.loop-one-init
loop-one-init c = λ before same. record {
  blocks = first_blocks before c.args.blocked.now;
  is_at = record { done = same; coming = refl; fits = refl };
  goes_on = refl;
}

pub loop-one-preserved : goal.loop-one-preserved
loop-one-preserved c = λ before same.
    let come = c.loop-one.invariant before same in
    let answered = c.args.answered.now in
    let i = c.loop-one.one-index in
    record {
      blocks = after_answer come.blocks (answered_as _);
      is_at = c.in_ok-follow.ensures come.blocks come.is_at;
      goes_on = sym (ap (λ (l : List AnsweredAt). fold after_answer come.blocks (all_answered l)) (drop_more answered i _ c.loop-one-test.true)) ∙ come.goes_on;
    }

pub returns : goal.returns
returns c = λ before same.
    let come = c.loop-one.invariant before same in
    let answered = c.args.answered.now in
    c.fault.ensures come.blocks come.is_at
    ∙ ap is_done (sym (ap (λ (l : List AnsweredAt). fold after_answer come.blocks (all_answered l)) (drop_all c.loop-one.one-index answered c.loop-one-test.false)) ∙ come.goes_on)
