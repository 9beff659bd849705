use Rattle.std.proofs.Common.{◌∙◌, sym, map}
use Rattle.std.proofs.lemmas.List.{length-map}
use Rattle.shown_clauses.specs.meaning.Links.{Marked}
use Rattle.report_story.specs.Views.{marked_as}
use Rattle.whole_check.specs.Marks.{calls_in}
use Rattle.whole_check.proofs.Fitting.{fits_is}
use Rattle.whole_check.proofs.turn.fits_at.Goals as goal

pub returns : goal.returns
returns c =
    let served = map marked_as c.args.marked.now in
    let long = sym (length-map served (λ (one : Marked). one.call) ∙ length-map c.args.marked.now marked_as) in
    c.are_calls.ensures ∙ sym (fits_is c.args.first.now (calls_in served) c.args.since.now c.args.call.now (c.if-since-marked.false ∙ long) (sym c.is_call.ensures ∙ c.if-not-is_call.false))
