-- The report of every whole run shows each request its script, by what sessions of its own served.
use Rattle.shown_clauses.specs.meaning.Whole.{whole}
use Rattle.shown_laws.specs.ReportsTold.{HoldsOfReports}

-- the clause `Whole`
abbrev pub RunsAreWhole : Type 0
RunsAreWhole = HoldsOfReports whole
