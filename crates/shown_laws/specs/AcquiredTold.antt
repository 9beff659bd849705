-- By whom the session of each connection that is told was acquired: the last step before that was
-- lent it, or took its Hello.
use Rattle.std.specs.Prelude.{◌≡◌, ◌==◌, ◌&&◌, ℕ, Bool, false, is_some, if◌then◌else◌, List, fold, Option, Some, None}
use Rattle.std.specs.Option.{option_map_or, option_or}
use Rattle.outage_schedule.specs.declared.item.Served.{Served}
use Rattle.outage_schedule.specs.declared.note.GoNote.{GoNote}
use Rattle.outage_schedule.specs.declared.note.GoNote.TheVariants as go
use Rattle.outage_schedule.specs.declared.note.Note.{Note}
use Rattle.shown_clauses.specs.meaning.Links.{Acquired, Link, link_of}
use Rattle.shown_clauses.specs.meaning.Steps.{Step}
use Rattle.shown_laws.specs.Telling.{seen_told, steps_told}

-- the step was lent this connection, or took a reply on it
abbrev pub is_on : ℕ → GoNote → Bool
is_on number (go.Lent connection) = connection == number
is_on number (go.Took connection sent) = connection == number
is_on number _ = false

-- and acquired its session by that
abbrev pub acquired_by : ℕ → Step → Option Acquired
acquired_by number step = if is_on number step.did && is_some step.session then Some (record {
  client = step.client;
  event = step.event;
}) else None

abbrev pub acquired_after : ℕ → Option Acquired → List Step → Option Acquired
acquired_after number before steps = fold (λ found step. option_or (acquired_by number step) found)
    before steps

abbrev pub last_acquired : ℕ → List Step → Option Acquired
last_acquired number steps = acquired_after number None steps

abbrev pub told_acquired : ℕ → List Link → Option Acquired
told_acquired number links = option_map_or (λ one. one.acquired) (link_of number links) None

-- in all that is told
abbrev pub StepsAcquire : Type 0
StepsAcquire = (notes : List Note) (items : List Served) (number : ℕ)
    → told_acquired number (seen_told notes items).links
    ≡ last_acquired number (steps_told notes items)
