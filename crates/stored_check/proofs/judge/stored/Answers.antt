use Rattle.std.proofs.Common.{◌∙◌, ◌&&◌, sym, ap}
use Rattle.run_clauses.specs.meaning.Images.{image_fits}
use Rattle.stored_check.proofs.StoredLines.{all_lines, horizon_is, none_of, some_of}
use Rattle.stored_check.proofs.judge.stored.Goals as goal

pub returns-then-is_some : goal.returns-then-is_some
returns-then-is_some c =
    let document = c.args.document.now in
    let report = c.args.report.now in
    let some = some_of c.in_ok-place.place (sym c.is_some.ensures ∙ c.if-is_some.true) in
    some ∙ sym (sym (all_lines document report) ∙ ap (λ b. b && image_fits document report) (sym c.in_ok-place.ensures ∙ some))

pub image_fits-requires : goal.image_fits-requires
image_fits-requires c = record {
  before = c.in_ok-before.ensures.is;
  forgotten = horizon_is c.args.document.now c.args.report.now (sym c.in_ok-place.ensures ∙ none_of c.in_ok-place.place (sym c.is_some.ensures ∙ c.if-is_some.false));
}

pub returns-then-fits : goal.returns-then-fits
returns-then-fits c =
    let document = c.args.document.now in
    let report = c.args.report.now in
    let none = none_of c.in_ok-place.place (sym c.is_some.ensures ∙ c.if-is_some.false) in
    sym (sym (all_lines document report) ∙ (ap (λ b. b && image_fits document report) (sym c.in_ok-place.ensures ∙ none) ∙ (sym c.in_ok-fits.ensures ∙ c.if-fits.true)))

pub returns : goal.returns
returns c =
    let document = c.args.document.now in
    let report = c.args.report.now in
    let none = none_of c.in_ok-place.place (sym c.is_some.ensures ∙ c.if-is_some.false) in
    sym (sym (all_lines document report) ∙ (ap (λ b. b && image_fits document report) (sym c.in_ok-place.ensures ∙ none) ∙ (sym c.in_ok-fits.ensures ∙ c.if-fits.false)))
