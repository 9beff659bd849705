-- No value that was drawn of a sequence, and no identifier value, stands twice among a report's
-- entries.
use Rattle.std.specs.Prelude.{Bool}
use Rattle.outage_schedule.specs.declared.report.Report.{Report}
use Rattle.server_model.specs.meaning.Fresh.{fresh as are_fresh}

-- `Fresh`
abbrev pub fresh : Report → Bool
fresh report = are_fresh report.entries
