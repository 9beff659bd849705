-- The counts of requests, which are summed up.
use Rattle.std.specs.Prelude.{◌+◌, cond, is_some, List}
use Rattle.outage_schedule.specs.declared.request.RequestReport.{RequestReport}
use Rattle.outage_schedule.specs.declared.request.ShownCall.{ShownCall}
use Rattle.load_document.specs.declared.counts.Ends.{Ends as Counted}
use Rattle.load_document.specs.meaning.Lines.{shown_in, was_committed, was_conflict, committed_in, conflict_in, failed_in}

unfoldable pub ends_in : List RequestReport → Counted
ends_in requests = record {
  committed = committed_in (shown_in requests);
  conflict = conflict_in (shown_in requests);
  failed = failed_in requests;
}

-- of shown calls alone, of one of them, and of the failure of a request
unfoldable pub shown_ends : List ShownCall → Counted
shown_ends calls = record {
  committed = committed_in calls;
  conflict = conflict_in calls;
  failed = 0;
}

unfoldable pub call_ends : ShownCall → Counted
call_ends one = record {
  committed = cond (was_committed one) 1 0;
  conflict = cond (was_conflict one) 1 0;
  failed = 0;
}

unfoldable pub failed_ends : RequestReport → Counted
failed_ends one = record { committed = 0; conflict = 0; failed = cond (is_some one.failed) 1 0 }

abbrev pub plus : Counted → Counted → Counted
plus ends others = record {
  committed = ends.committed + others.committed;
  conflict = ends.conflict + others.conflict;
  failed = ends.failed + others.failed;
}
