-- What holds of the report of a whole run: its parts are those of the requests, and each line of
-- `Whole` holds.
pub mod AcquirersTold
pub mod CausedRuns
pub mod NoneLeft
pub mod PartFirst
pub mod PartTurns
pub mod ReportsOrdered
pub mod ReportsTold
pub mod ReportsTurns
pub mod WholeLines
pub mod WholeReports
