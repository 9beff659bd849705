-- `cover`, by those parts of a document and of its report that it is about.
use Rattle.std.specs.Prelude.{List, map, flat_map}
use Rattle.outage_schedule.specs.declared.document.ServiceOf.{ServiceOf}
use Rattle.outage_schedule.specs.declared.document.Request.{Request}
use Rattle.outage_schedule.specs.declared.document.Client.{Client}
use Rattle.outage_schedule.specs.declared.request.RequestReport.{RequestReport}
use Rattle.run_clauses.specs.meaning.Copies.{copies_of, copies_by_client}
use Rattle.shown_clauses.specs.meaning.Submissions.{submissions_of}
use Rattle.shown_clauses.specs.meaning.Cover.{Counts, counts_of}

-- of one client, with its script and its reports
abbrev pub client_cover : ServiceOf → List Request → List RequestReport → List Counts
client_cover service script reports =
    map (counts_of service) (flat_map submissions_of (copies_of script reports))

-- of all clients
abbrev pub clients_cover : ServiceOf → List Client → List (List RequestReport) → List (List Counts)
clients_cover service clients transcripts =
    map (map (counts_of service))
    (map (flat_map submissions_of) (copies_by_client clients transcripts))
