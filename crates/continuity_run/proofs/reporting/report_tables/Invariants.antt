use Rattle.std.proofs.Common.{◌≡◌, ◌++◌, map}
use Rattle.continuity_run.specs.Reading.{printed_by}
use Rattle.continuity_run.proofs.ReadOff.{printed_of}
use Rattle.continuity_run.proofs.reporting.report_tables.Given as goal

abbrev pub invariant-loop-one : goal.invariant-loop-one
invariant-loop-one l = l.all.items ++ map printed_of l.one-iterator.rest.items ≡ map (printed_by l.fn.tables.rows) l.fn.tables.schemas
