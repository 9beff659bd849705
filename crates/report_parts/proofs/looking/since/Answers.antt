use Rattle.std.proofs.Common.{◌∙◌, sym, ap, length, List, []}
use Rattle.outage_schedule.specs.declared.request.ShownCall.{ShownCall}
use Rattle.shown_clauses.specs.meaning.KeptDraws.{shown_since}
use Rattle.report_parts.proofs.Searches.{since_taken}
use Rattle.report_parts.proofs.looking.since.Goals as goal

pub returns : goal.returns
returns c =
    c.calls_behind.ensures
    ∙ (sym c.behind_decided.ensures.place
    ∙ (ap (λ (calls : List ShownCall). shown_since (length calls) [] calls) c.first_calls-first.ensures
    ∙ sym (since_taken c.args.count [] c.args.shown.now)))
