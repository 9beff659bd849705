-- The horizon at each event, below which the outcomes of all incarnations are forgotten, and the
-- incarnation that runs behind the last.
use Rattle.std.specs.Prelude.{ℕ, ◌+◌, max, Bool, false, nat_lt, cond, List, [], ◌∷◌, ◌++◌, length, map, filter, fold, Option, Some, None}
use Rattle.outage_schedule.specs.declared.note.Note.{Note}
use Rattle.outage_schedule.specs.declared.note.Note.TheVariants as note
use Rattle.outage_schedule.specs.declared.document.Document.{Document}
use Rattle.outage_schedule.specs.declared.report.Report.{Report}
use Rattle.run_clauses.specs.meaning.Before.{journal_before, was_opened}

-- an incarnation that ended, and the tick of its end
pub record Ended : Type 0 where
  pub incarnation : ℕ
  pub tick : ℕ

-- How far a run has come: the tick, the incarnation that goes on, if any does, and those that
-- ended.
pub record Openings : Type 0 where
  pub tick : ℕ
  pub running : Option ℕ
  pub ended : List Ended

-- The image's last incarnation ends at tick 0.
abbrev pub ended_before : Bool → ℕ → List Ended
ended_before opened incarnation = cond opened (record {
  incarnation = incarnation;
  tick = 0;
} ∷ []) []

-- The opening before event 1 has the image's last incarnation plus 1.
abbrev pub first_opening : Bool → ℕ → Openings
first_opening opened last = record {
  tick = 0;
  running = Some (last + 1);
  ended = ended_before opened last;
}

abbrev pub end_at : ℕ → Option ℕ → List Ended
end_at tick None = []
end_at tick (Some incarnation) = record { incarnation = incarnation; tick = tick } ∷ []

-- An incarnation ends at the first crash after its opening. (A failover's note is that of a crash.)
abbrev pub after_note : Openings → Note → Openings
after_note openings note.Tick = record openings { tick = openings.tick + 1 }
after_note openings (note.Crash connection false) =
    record openings {
      running = None;
      ended =
          end_at openings.tick openings.running ++ openings.ended;
    }
after_note openings (note.Up (Some incarnation)) = record openings { running = Some incarnation }
after_note openings _ = openings

-- The wanted horizon: one more than the greatest incarnation that ended more than `retention` ticks
-- ago, and 0 where there is none.
abbrev pub wanted_horizon : ℕ → Openings → ℕ
wanted_horizon retention openings =
    fold max 0 (map (λ one. one.incarnation + 1)
    (filter (λ one. nat_lt (one.tick + retention) openings.tick) openings.ended))

-- a horizon that the opening of this event wants
pub record Wanted : Type 0 where
  pub event : ℕ
  pub horizon : ℕ

abbrev pub wanted_at : ℕ → ℕ → Openings → Note → List Wanted
wanted_at retention event openings (note.Up (Some incarnation)) = record {
  event = event;
  horizon = wanted_horizon retention openings;
} ∷ []
wanted_at retention event openings _ = []

-- those of the notes, the first of which is that of this event
abbrev pub wanted_from : ℕ → ℕ → Openings → List Note → List Wanted
wanted_from retention event openings [] = []
wanted_from retention event openings (first ∷ notes) =
    wanted_at retention event openings first
    ++ wanted_from retention (event + 1) (after_note openings first) notes

-- The image's horizon, raised by each `up` note before the event, other than none, to its wanted
-- horizon where that is greater.
abbrev pub raised : ℕ → List Wanted → ℕ → ℕ
raised image openings event = fold max image
    (map (λ one. one.horizon) (filter (λ one. nat_lt one.event event) openings))

abbrev pub wanted_in : Document → Report → List Wanted
wanted_in document report = wanted_from document.service.retention 1
    (first_opening (was_opened document) (journal_before document).incarnation) report.notes

-- `horizon(e)`
abbrev pub horizon_at : Document → Report → ℕ → ℕ
horizon_at document report event = raised (journal_before document).horizon
    (wanted_in document report) event

-- the horizon after the last event
abbrev pub last_horizon : Document → Report → ℕ
last_horizon document report = horizon_at document report (length report.notes + 1)

-- The note of an opening tells its incarnation.
abbrev pub incarnation_after : ℕ → Note → ℕ
incarnation_after incarnation (note.Up (Some opened)) = opened
incarnation_after incarnation _ = incarnation

-- that of the last opening: of the one before event 1, and of each `up` note behind it other than
-- none
abbrev pub incarnation_behind : Document → List Note → ℕ
incarnation_behind document notes = fold incarnation_after ((journal_before document).incarnation
    + 1) notes

abbrev pub last_incarnation : Document → Report → ℕ
last_incarnation document report = incarnation_behind document report.notes
