use Rattle.std.proofs.Common.{◌∙◌, sym, ap, List}
use Rattle.report_horizons.specs.declared.horizons.EndedAt.{EndedAt}
use Rattle.report_horizons.specs.Horizons.{all_ended, part_of, most_by}
use Rattle.report_horizons.proofs.Greatest.{wanted_is}
use Rattle.report_horizons.proofs.horizons.OpeningsAt.wanted.Goals as goal

pub returns-clause-is : goal.returns-clause-is
returns-clause-is c =
    let self = c.args.self.now in
    c.further.ensures.most
    ∙ ap (λ (l : List EndedAt). most_by (part_of c.args.retention self.tick) (all_ended l)) c.as_slice.ensures.value
    ∙ sym (wanted_is c.args.retention self.tick (all_ended self.ended.items))
