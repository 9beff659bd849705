use Rattle.std.proofs.Common.{◌≡◌, ap, sym, ◌∙◌, get_or}
use Rattle.std.specs.Prelude.{Some, remove}
use Rattle.mutable_values.proofs.Firsts.{first_none, first_some, without_none, without_some}
use Rattle.mutable_values.proofs.kept.Kept.take.Goals as goal

pub returns-in_err-at-clause-given : goal.returns-in_err-at-clause-given
returns-in_err-at-clause-given c = c.from_residual.ensures ∙ sym (first_none c.args.kind.now c.args.self.now (sym c.in_err-at.ensures.place))

pub returns-in_err-at-clause-left : goal.returns-in_err-at-clause-left
returns-in_err-at-clause-left c = sym (without_none c.args.kind.now c.args.self.now (first_none c.args.kind.now c.args.self.now (sym c.in_err-at.ensures.place)))

pub returns-clause-given : goal.returns-clause-given
returns-clause-given c =
    let view : c.self.inside.draws.items ≡ c.args.self.now = (let is = c.self.view_is in cc) in
    let first = first_some c.args.kind.now c.args.self.now c.in_ok-at.at c.remove.result (sym c.in_ok-at.ensures.place) in
    ap Some (c.remove.ensures.value ∙ ap (λ l. get_or l c.in_ok-at.at c.remove.result) view) ∙ sym first

pub returns-clause-left : goal.returns-clause-left
returns-clause-left c =
    let view : c.self.inside.draws.items ≡ c.args.self.now = (let is = c.self.view_is in cc) in
    let left = without_some c.args.kind.now c.args.self.now c.in_ok-at.at c.remove.result (sym c.in_ok-at.ensures.place) in
    c.remove.ensures.items ∙ ap (λ l. remove l c.in_ok-at.at) view ∙ sym left
