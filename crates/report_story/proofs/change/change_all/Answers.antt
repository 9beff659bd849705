use Rattle.std.proofs.Common.{◌∙◌, sym, ap, slice_set, arith}
use Rattle.std.proofs.lemmas.List.Edits.{map_over_more}
use Rattle.shown_clauses.specs.meaning.Links.{Link}
use Rattle.report_story.specs.Changes.{changed}
use Rattle.report_story.specs.Placing.{identity_of, is_which}
use Rattle.report_story.proofs.Placed.{stays_set}
use Rattle.report_story.proofs.change.change_all.Goals as goal

pub loop-line-preserved : goal.loop-line-preserved
loop-line-preserved g c =
    let f = changed (is_which c.args.which) (g.C.Change.change c.args.change.now) in
    record {
      done =
          ap (slice_set c.loop-line.lines c.loop-line.line-index) c.in_ok-change_if.ensures.is
          ∙ (ap (λ (line : Link). slice_set c.loop-line.lines c.loop-line.line-index (f line)) (sym c.line-item.is)
          ∙ map_over_more f c.args.lines.now c.loop-line.lines c.loop-line.line-index c.line-item.result (omega arith) c.loop-line.invariant.done c.line-item.is);
      identities =
          stays_set identity_of c.loop-line.lines c.loop-line.line-index _ c.line-item.result c.change_if.ensures.identity
          ∙ c.loop-line.invariant.identities;
    }

pub returns-in_err-change_if-clause-identities : goal.returns-in_err-change_if-clause-identities
returns-in_err-change_if-clause-identities g c =
    stays_set identity_of c.loop-line.lines c.loop-line.line-index _ c.line-item.result c.change_if.ensures.identity
    ∙ c.loop-line.invariant.identities
