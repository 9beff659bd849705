use Rattle.std.proofs.Common.{◌∙◌, ◌∷◌, ◌+◌, List, drop, sym, ap}
use Rattle.std.specs.List.{filter}
use Rattle.std.proofs.lemmas.List.{take_rest}
use Rattle.svc_values.specs.declared.draw.Draw.{Draw}
use Rattle.entry_check.specs.InnerGranting.{keeps}
use Rattle.entry_check.proofs.Granted.{filter_none, filter_some}
use Rattle.entry_check.proofs.granting.Granting.first.Goals as goal

pub returns-in_default : goal.returns-in_default
returns-in_default c = filter_none (keeps c.args.self.now.kinds c.args.self.now.sequences.now) c.args.draws.now (sym c.place.ensures.place ∙ c.in_default.is)

pub returns : goal.returns
returns c =
    let kept = keeps c.args.self.now.kinds c.args.self.now.sequences.now in
    let draws = c.args.draws.now in
    let at = c.in-Some.at in
    let one = c.index-draws-at.result in
    filter_some kept draws at one (sym c.place.ensures.place ∙ c.in-Some.is)
    ∙ ap (λ (first : Draw). first ∷ filter kept (drop (at + 1) draws)) (sym c.index-draws-at.is)
    ∙ ap (λ (behind : List Draw). one ∷ filter kept behind) (sym (take_rest draws (at + 1)))
