use Rattle.std.proofs.Common.{List, sym, ◌∙◌, ap, arith}
use Rattle.svc_values.specs.declared.answer.Answer.{Answer}
use Rattle.server_model.specs.meaning.Legal.{ending_with}
use Rattle.legal_walk.proofs.Verdicts.{put_last, none_last, none_popped}
use Rattle.legal_walk.proofs.telling.ending_with.Goals as goal

pub returns-then-is_none : goal.returns-then-is_none
returns-then-is_none c =
    let zero = none_popped _ _ _ c.pop.result c.if-is_none.ensures c.pop.ensures.cases in
    c.from_vec.ensures
    ∙ none_last c.into_vec-all.result.items c.pop.new.self.items c.args.last (omega (arith, c.into_vec-all.result.ok.0, zero.0)) (omega (arith, c.pop.new.self.ok.0, zero.1))
    ∙ ap (λ (l : List Answer). ending_with l c.args.last) c.into_vec-all.ensures

pub returns : goal.returns
returns c = c.from_vec-2.ensures ∙ c.in_ok-push.ensures.items ∙ put_last c.args.answers c.pop.new.self.items c.pop.result c.args.last (sym c.into_vec-all.ensures ∙ c.pop.ensures.items) c.if-is_none.ensures
