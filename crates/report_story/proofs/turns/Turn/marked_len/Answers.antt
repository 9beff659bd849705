use Rattle.std.proofs.Common.{◌∙◌, ap, length}
use Rattle.std.specs.List.{filter}
use Rattle.shown_clauses.specs.meaning.KeptDraws.{place_in}
use Rattle.report_story.specs.declared.turns.Marked.{Marked as MarkedCall}
use Rattle.report_story.proofs.Turned.{marked_count}
use Rattle.report_story.proofs.turns.Turn.marked_len.Goals as goal

pub returns : goal.returns
returns c =
    c.count_marked.ensures
    ∙ (ap (λ calls. length (filter (λ (one : MarkedCall). one.replay) calls)) c.as_slice.ensures.value
    ∙ (marked_count c.self.inside.calls.items
    ∙ ap place_in c.self.view_is))
