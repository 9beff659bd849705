-- The draws of the call that a served item repeats.
use Rattle.std.specs.Prelude.{List, [], Option}
use Rattle.std.specs.Option.{option_map_or}
use Rattle.svc_values.specs.declared.draw.Draw.{Draw}
use Rattle.shown_clauses.specs.meaning.Parts.{Part}
use Rattle.shown_clauses.specs.meaning.KeptDraws.{kept_since}
use Rattle.report_story.specs.Passing.{Repeated}

-- Those with which it was shown, by the submissions with their steps.
abbrev pub brought : List Part → Option Repeated → List Draw
brought parts repeated = option_map_or (λ (one : Repeated). kept_since parts one.place one.acquired)
    repeated []
