-- Incarnations that ended and horizons that are wanted, as code keeps them.
use Rattle.std.specs.Prelude.{ℕ, ◌≡◌, ◌≤◌, ◌+◌, max, nat_lt, List, [], ◌∷◌, map, reverse, length, drop, Option, Some, None, if◌then◌else◌}
use Rattle.run_clauses.specs.meaning.Horizons.{Ended, Openings, Wanted}
use Rattle.report_horizons.specs.declared.horizons.EndedAt.{EndedAt}
use Rattle.report_horizons.specs.declared.horizons.Front.{Front}
use Rattle.report_horizons.specs.declared.wanted_horizons.Opening.{Opening}
use Rattle.report_horizons.specs.declared.horizons.OpeningsAt.{OpeningsAt}

abbrev pub ended_as : EndedAt → Ended
ended_as one = record { incarnation = one.incarnation; tick = one.tick }

abbrev pub all_ended : List EndedAt → List Ended
all_ended all = map ended_as all

abbrev pub opening_as : Opening → Wanted
opening_as one = record { event = one.event; horizon = one.horizon }

-- the event of the last, and this one where there is none
abbrev pub last_event : ℕ → List Wanted → ℕ
last_event event [] = event
last_event event (one ∷ all) = last_event one.event all

-- Their events rise, or stay, from this one on. Each has the greatest horizon that was wanted by
-- then, and the last one the greatest of all.
abbrev pub AreOrdered : ℕ → ℕ → List Opening → ℕ → Type 0
AreOrdered event most [] greatest = most ≡ greatest
AreOrdered event most (one ∷ all) greatest = (event ≤ one.event)
    × ((one.most ≡ max most one.horizon) × AreOrdered one.event one.most all greatest)

-- the last that ended comes first
abbrev pub openings_as : OpeningsAt → Openings
openings_as openings = record {
  tick = openings.tick;
  running = openings.running;
  ended = reverse (all_ended openings.ended.items);
}

-- the horizon that an ended incarnation asks for
abbrev pub part_of : ℕ → ℕ → Ended → ℕ
part_of retention tick one = if nat_lt (one.tick + retention) tick then one.incarnation + 1 else 0

-- the horizon that an opening before this event asks for
abbrev pub part_before : ℕ → Wanted → ℕ
part_before event one = if nat_lt one.event event then one.horizon else 0

-- the greatest of the numbers that these give, and 0 where there is none
abbrev pub most_by : {A : Type 0} → (A → ℕ) → List A → ℕ
most_by part [] = 0
most_by part (one ∷ all) = max (part one) (most_by part all)

-- Their ticks rise, or stay, from the low one to the high one.
abbrev pub Rises : ℕ → List Ended → ℕ → Type 0
Rises low [] high = low ≤ high
Rises low (one ∷ all) high = (low ≤ one.tick) × Rises one.tick all high

-- Those that a front passed ask for its horizon at this tick and at each later one. The others
-- stand in the order in which they ended.
pub record IsFront (retention tick : ℕ) (front : Front) (ended : List Ended) : Type 0 where
  pub within : front.passed ≤ length ended
  pub asks : (later : ℕ) → tick ≤ later → most_by (part_of retention later) ended ≡ max front.most
      (most_by (part_of retention later) (drop front.passed ended))
  pub rises : Rises 0 (drop front.passed ended) tick

abbrev pub IsFrontAt : ℕ → Front → Openings → Type 0
IsFrontAt retention front openings = IsFront retention openings.tick front (reverse openings.ended)

-- the horizon that the opening of an event wants, if there is one
abbrev pub wanted_with : ℕ → Option ℕ → List Wanted
wanted_with event None = []
wanted_with event (Some horizon) = record { event = event; horizon = horizon } ∷ []
