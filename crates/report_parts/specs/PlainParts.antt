-- A part without what no clause on showings looks at.
use Rattle.std.specs.Prelude.{map}
use Rattle.shown_clauses.specs.meaning.Parts.{Part}
use Rattle.report_story.specs.Plain.{plain_step}

abbrev pub plain_part : Part → Part
plain_part part = record part { steps = map plain_step part.steps }
