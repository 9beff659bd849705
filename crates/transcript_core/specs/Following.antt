-- Which request of a script comes next, kept from report to report.
use Rattle.std.specs.Prelude.{◌≡◌, ℕ, ◌+◌, ◌-◌, nat_lt, List, length, fold, slice_get, if◌then◌else◌}
use Rattle.std.specs.Option.{option_map_or}
use Rattle.outage_schedule.specs.declared.document.Request.{Request}
use Rattle.outage_schedule.specs.declared.request.RequestReport.{RequestReport}
use Rattle.run_clauses.specs.meaning.Copies.{is_repeated}
use Rattle.transcript_core.specs.declared.next_request.NextRequest.{NextRequest}

-- the first copy of the request at a place, with the further ones that it allows
abbrev pub at_place : List Request → ℕ → NextRequest
at_place script place = record {
  place = place;
  left = option_map_or (λ request. request.again) (slice_get script place) 0;
}

-- the place behind this one, up to the end
abbrev pub place_behind : List Request → ℕ → ℕ
place_behind script place = if nat_lt place (length script) then place + 1 else place

-- a further copy, or the first copy of the request behind
abbrev pub follows : List Request → NextRequest → RequestReport → NextRequest
follows script next report = if is_repeated next.left report then record next {
  left =
      next.left - 1;
} else at_place script (place_behind script next.place)

-- the next one after these reports
abbrev pub IsNext : List Request → List RequestReport → NextRequest → Type 0
IsNext script reports next = next ≡ fold (follows script) (at_place script 0) reports
