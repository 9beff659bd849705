use Rattle.shown_laws.proofs.judged.WholeReports.{runs_whole}
use Rattle.shown_laws.proofs.reports.runs_are_whole.Goals as goal

pub returns : goal.returns
returns c =
    runs_whole c.lines_make_whole.ensures c.reports_are_ordered.ensures c.reports_take_replies.ensures c.reports_list_parts.ensures.sessions c.reports_list_parts.ensures.showings c.reports_serve_calls.ensures c.reports_identify_calls.ensures c.reports_own_turns.ensures.clients
    c.reports_own_turns.ensures.right c.reports_own_turns.ensures.requests
