-- Where in a report a moment stands.
use Rattle.std.specs.Prelude.{◌≡◌, ◌+◌, [], ◌∷◌, IsSomeAnd, slice_get}
use Rattle.outage_schedule.specs.declared.report.Report.{Report}
use Rattle.run_clauses.specs.meaning.Moments.{HappenedAt, moment_of_note, moment_of_item}
use Rattle.report_moments.specs.declared.moments.At.{At}
use Rattle.report_moments.specs.declared.moments.At.TheVariants as at
use Rattle.report_moments.specs.declared.moments.Moment.{Moment}
use Rattle.report_moments.specs.Views.{moment_as}

-- the note of this number, which is that of the next event, tells the moment; or the item of this
-- number is the moment's
abbrev pub StandsAt : Report → HappenedAt → At → Type 0
StandsAt report moment (at.Note number) = (moment.event ≡ number + 1)
    × IsSomeAnd (slice_get report.notes number) (λ note. moment_of_note (number + 1) note ≡ moment
    ∷ [])
StandsAt report moment (at.Served number) =
    IsSomeAnd (slice_get report.served number) (λ one. moment_of_item one ≡ moment)

-- it stands at its place
abbrev pub IsPlaced : Report → Moment → Type 0
IsPlaced report moment = StandsAt report (moment_as moment) moment.at
