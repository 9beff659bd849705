-- How what the code keeps is seen.
use Rattle.std.specs.Prelude.{None}
use Rattle.std.specs.Option.{option_copied}
use Rattle.report_story.specs.declared.turns.Acquired.{Acquired as AcquiredAt}
use Rattle.report_story.specs.declared.turns.Marked.{Marked as MarkedCall}
use Rattle.report_story.specs.declared.line.Repeated.{Repeated as RepeatedAt}
use Rattle.report_story.specs.declared.steps.Step.{Step as StepAt}
use Rattle.shown_clauses.specs.meaning.Links.{Acquired, Marked}
use Rattle.shown_clauses.specs.meaning.Steps.{Step}
use Rattle.report_story.specs.Passing.{Repeated}

abbrev pub acquired_as : AcquiredAt → Acquired
acquired_as one = record { client = one.client; event = one.event }

abbrev pub marked_as : MarkedCall → Marked
marked_as one = record { replay = one.replay; call = one.call.now }

abbrev pub repeated_as : RepeatedAt → Repeated
repeated_as one = record { acquired = acquired_as one.acquired; place = one.place }

-- without tick and lost connection
abbrev pub step_as : StepAt → Step
step_as one =
    record {
      event = one.event;
      tick = 0;
      client = one.client;
      did = one.did;
      taken = option_copied one.taken;
      session = one.session;
      lost = None;
    }
