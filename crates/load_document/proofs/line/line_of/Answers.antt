use Rattle.std.proofs.Common.{◌∙◌, ap, rules, to_z, of_z, w64, to_z-of_z, FitsSigned}
use Rattle.stmt_meaning.specs.meaning.Effects.{total as column_total}
use Rattle.load_document.specs.Ends.{ends_in}
use Rattle.load_document.specs.meaning.Lines.{requests_in}
use Rattle.load_document.specs.meaning.Loads.{first_rows}
use Rattle.load_document.proofs.Counting.{line_so}
use Rattle.load_document.proofs.line.line_of.Goals as goal

pub returns : goal.returns
returns c =
    let sum = c.in_ok-total.total in
    let fits : FitsSigned w64 sum = search rules in
    line_so c.args.report.now c.in_ok-ends.ends c.len.result c.len-2.result (to_z w64 (of_z w64 sum))
    (c.in_ok-ends.ensures ∙ ap (λ all. ends_in (requests_in all)) c.as_slice.ensures) c.len.ensures c.len-2.ensures
    (to_z-of_z fits ∙ (c.in_ok-total.ensures ∙ ap (column_total 1) (c.first_rows.ensures ∙ ap first_rows c.as_slice-2.ensures)))
