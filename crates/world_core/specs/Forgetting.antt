-- How it is held which incarnations of a run have ended, and which of them may be forgotten.
use Rattle.std.specs.Option.{option_map_or}
use Rattle.std.specs.Prelude.{◌≡◌, ◌+◌, ◌==◌, ◌≤◌, ◌<◌, ◌^◌, ℕ, max, if◌then◌else◌, Bool, true, false, List, [], ◌∷◌, ◌++◌, length, map, drop, Option, Some, None}
use Rattle.outage_schedule.specs.declared.note.Note.{Note}
use Rattle.outage_schedule.specs.declared.note.Note.TheVariants as note
use Rattle.run_clauses.specs.meaning.Horizons.{Ended, Openings, wanted_horizon}
use Rattle.world_core.specs.declared.openings.Ended.{Ended as EndedAt}

pub record Held : Type 0 where
  pub retention : ℕ
  pub tick : ℕ
  pub running : Option ℕ
  pub ending : Option ℕ
  pub ended : List EndedAt
  pub passed : ℕ
  pub wanted : ℕ

-- this incarnation ended in this tick
abbrev pub ended_at : ℕ → Option ℕ → List EndedAt
ended_at tick None = []
ended_at tick (Some incarnation) = record { incarnation = incarnation; tick = tick } ∷ []

abbrev pub ended_now : Held → List EndedAt
ended_now held = ended_at held.tick held.ending

-- what ended in this tick stands behind those before
abbrev pub settled : Held → Held
settled held = record held { ending = None; ended = held.ended ++ ended_now held }

-- the first of these, where it may be forgotten from the next tick on, is passed
abbrev pub passed_first : Held → List EndedAt → Held
passed_first held [] = held
passed_first held (first ∷ others) = if first.tick + held.retention == held.tick then
    record held { passed = held.passed + 1; wanted = max (first.incarnation + 1) held.wanted } else
    held

-- one tick later
abbrev pub ticked : Held → Held
ticked held = record (passed_first (settled held) (drop held.passed (held.ended ++ ended_now held)))
    { tick = held.tick + 1 }

-- the incarnation that goes on ends, if one does; of two that end in one tick the greater is held
abbrev pub ends : Held → Option ℕ → Held
ends held None = held
ends held (Some incarnation) = record held {
  running = None;
  ending =
      Some (option_map_or (max incarnation) held.ending incarnation);
}

abbrev pub ends_unless : Bool → Held → Held
ends_unless true held = held
ends_unless false held = ends held held.running

-- its sums are numbers of 64 bits
abbrev pub FirstFits : Held → List EndedAt → Type 0
FirstFits held [] = Unit {0}
FirstFits held (first ∷ others) = (first.tick + held.retention < 2 ^ 64)
    × (first.incarnation ≤ 2 ^ 63)

abbrev pub MayTick : Held → Type 0
MayTick held = (held.tick < 2 ^ 48) × FirstFits (settled held)
    (drop held.passed (held.ended ++ ended_now held))

-- those that were not passed, the earliest first
abbrev pub waiting : Held → List EndedAt
waiting held = drop held.passed held.ended ++ ended_now held

abbrev pub ended_of : EndedAt → Ended
ended_of one = record { incarnation = one.incarnation; tick = one.tick }

-- the horizon that these ask for at a tick
abbrev pub horizon_by : ℕ → ℕ → List EndedAt → ℕ
horizon_by retention tick ended = wanted_horizon retention (record {
  tick = tick;
  running = None;
  ended = map ended_of ended;
})

-- each ended in a tick of its own before this one, and is kept until this tick or longer
abbrev pub Wait : ℕ → ℕ → ℕ → List EndedAt → Type 0
Wait retention tick least [] = least ≤ tick + retention
Wait retention tick least (one ∷ ended) = (least ≤ one.tick + retention) × (one.tick < tick)
    × (one.incarnation ≤ 2 ^ 63) × Wait retention tick (one.tick + retention + 1) ended

-- What is held is what the notes of a run told: whatever tick comes, those that were passed and
-- those that were not ask for the horizon that is wanted then.
pub record Tracks (retention : ℕ) (held : Held) (told : Openings) : Type 0 where
  pub kept : (held.retention ≡ retention) × (retention ≤ 2 ^ 62)
  pub tick : told.tick ≡ held.tick
  pub running : told.running ≡ held.running
  pub numbered : (incarnation : ℕ) → held.running ≡ Some incarnation → incarnation ≤ 2 ^ 63
  pub ends : (incarnation : ℕ) → held.ending ≡ Some incarnation → incarnation ≤ 2 ^ 63
  pub wanted : (tick : ℕ) → held.tick ≤ tick
      → wanted_horizon retention (record told { tick = tick }) ≡ max held.wanted
      (horizon_by retention tick (waiting held))
  pub passed : held.passed ≤ length held.ended
  pub wait : Wait retention held.tick held.tick (drop held.passed held.ended)

-- some notes told so
abbrev pub IsTracked : Held → Type 0
IsTracked held = (retention : ℕ) × ((told : Openings) × Tracks retention held told)

-- the note is not one of an opening, or of one whose incarnation is so
abbrev pub NotesOpening : (ℕ → Type 0) → Note → Type 0
NotesOpening Holds (note.Up (Some incarnation)) = Holds incarnation
NotesOpening Holds _ = Unit {0}
