use Rattle.std.proofs.Common.{◌∙◌, ap, sym, map}
use Rattle.shown_clauses.specs.meaning.KeptDraws.{has_marked, parts_from}
use Rattle.report_parts.specs.PartViews.{part_as}
use Rattle.report_parts.proofs.ClientParts.{submissions_in}
use Rattle.report_parts.proofs.KeptPlain.{parts_marked, parts_unmarked}
use Rattle.report_parts.proofs.kept.parts_in.Goals as goal

pub returns-then-not-has_marked : goal.returns-then-not-has_marked
returns-then-not-has_marked c =
    ap (map part_as) c.new.ensures.items ∙ parts_unmarked c.args.document.now c.args.report.now (sym (c.has_marked.ensures ∙ ap has_marked c.as_slice.ensures) ∙ c.if-not-has_marked.true)

pub returns : goal.returns
returns c =
    c.in_ok-parts.ensures
    ∙ ((λ i. parts_from 1 (c.requires i) (submissions_in (c.as_slice-clients.ensures i) (c.as_slice-transcripts.ensures i)))
    ∙ parts_marked c.args.document.now c.args.report.now (sym (c.has_marked.ensures ∙ ap has_marked c.as_slice.ensures) ∙ c.if-not-has_marked.false))
