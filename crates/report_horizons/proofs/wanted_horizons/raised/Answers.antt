use Rattle.std.proofs.Common.{◌∙◌, sym, ap, max}
use Rattle.report_horizons.proofs.Greatest.{raised_is}
use Rattle.report_horizons.proofs.wanted_horizons.raised.Goals as goal

pub returns : goal.returns
returns c =
    c.greater.ensures ∙ ap (max c.args.image) c.most_before.ensures ∙ sym (raised_is c.args.image c.args.event c.args.wanted.now)
