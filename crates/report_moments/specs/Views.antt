-- What happened, as code keeps it.
use Rattle.std.specs.Prelude.{List, map}
use Rattle.run_clauses.specs.meaning.Moments.{HappenedAt, Happened, ServedItem, RanOutside, Asked}
use Rattle.report_moments.specs.declared.moments.Moment.{Moment}
use Rattle.report_moments.specs.declared.moments.What.{What}
use Rattle.report_moments.specs.declared.moments.What.TheVariants as what

abbrev pub happened_as : What → Happened
happened_as (what.Served one) = ServedItem one.now.session one.now.item
happened_as (what.Outside ran) = RanOutside ran.now
happened_as (what.Asked x told) = Asked x told

-- without its place
abbrev pub moment_as : Moment → HappenedAt
moment_as moment = record { event = moment.event; happened = happened_as moment.what }

abbrev pub moments_as : List Moment → List HappenedAt
moments_as all = map moment_as all
