-- What the notes of a run tell of the openings of its store.
use Rattle.std.proofs.Common.{◌≡◌, refl, subst, arith, ℕ, ◌+◌, ◌≤◌, List, [], ◌∷◌, ◌++◌, length, Option, Some, None}
use Rattle.std.specs.Prelude.{nat_lt, Bool, true, false, if◌then◌else◌}
use Rattle.outage_schedule.specs.declared.note.Note.{Note}
use Rattle.outage_schedule.specs.declared.note.Note.TheVariants as notes
use Rattle.run_clauses.specs.meaning.Horizons.{Ended, Openings, end_at, after_note, wanted_horizon}
use Rattle.world_model.specs.Forgets.{openings_of}
use Rattle.world_model.proofs.Offered.{horizon_of, horizon_more, share}
use Rattle.world_core.specs.Forgetting.{NotesOpening}
use Rattle.world_run.specs.Running.{AllBy, AreKnown}

-- TICKS -------------------------------------------------------------------------------------------

one_tick : (told : Openings) (note : Note) → (after_note told note).tick ≤ told.tick + 1
one_tick told notes.Tick = omega arith
one_tick told (notes.Crash connection false) = omega arith
one_tick told (notes.Crash connection true) = omega arith
one_tick told (notes.Up (Some incarnation)) = omega arith
one_tick told (notes.Up None) = omega arith
one_tick told note = omega arith

pub few_ticks : (first : Openings) (told : List Note) → (openings_of first told).tick ≤ first.tick + length told
few_ticks first [] = omega arith
few_ticks first (note ∷ told) =
    let later = few_ticks (after_note first note) told in
    let one = one_tick first note in
    omega (arith, later, one)

-- INCARNATIONS ------------------------------------------------------------------------------------

share_by : (retention tick incarnation : ℕ) (one : Ended) → one.incarnation ≤ incarnation → share retention tick one ≤ incarnation + 1
share_by retention tick incarnation one less = by (nat_lt (one.tick + retention) tick)
  where
    by : (past : Bool) → (if past then one.incarnation + 1 else 0) ≤ incarnation + 1
    by true = omega (arith, less)
    by false = omega arith

horizon_by : (retention tick incarnation : ℕ) (ended : List Ended) → AllBy incarnation ended → horizon_of retention tick ended ≤ incarnation + 1
horizon_by retention tick incarnation [] all = omega arith
horizon_by retention tick incarnation (one ∷ ended) all =
    let more = horizon_more retention tick one ended in
    let first = share_by retention tick incarnation one all.0 in
    let others = horizon_by retention tick incarnation ended all.1 in
    omega (arith, more, first, others)

all_later : (incarnation later : ℕ) (ended : List Ended) → incarnation ≤ later → AllBy incarnation ended → AllBy later ended
all_later incarnation later [] less all = tt
all_later incarnation later (one ∷ ended) less all = (omega (arith, less, all.0), all_later incarnation later ended less all.1)

pub known_wants : (retention incarnation : ℕ) (told : Openings) → AreKnown told incarnation → wanted_horizon retention told ≤ incarnation + 1
known_wants retention incarnation told known = horizon_by retention told.tick incarnation told.ended known.ended

known_later : (told : Openings) (incarnation later : ℕ) → incarnation ≤ later → AreKnown told incarnation → AreKnown told later
known_later told incarnation later less known = record { running = λ one is. let before = known.running one is in omega (arith, before, less); ended = all_later incarnation later told.ended less known.ended }

-- the incarnation that goes on ends
all_end : (tick incarnation : ℕ) (running : Option ℕ) (ended : List Ended) → ((one : ℕ) → running ≡ Some one → one ≤ incarnation) → AllBy incarnation ended → AllBy incarnation (end_at tick running ++ ended)
all_end tick incarnation None ended known all = all
all_end tick incarnation (Some one) ended known all = (known one refl, all)

-- behind a note whose incarnation, if it is that of an opening, is no later
pub known_more : (told : Openings) (note : Note) (incarnation later : ℕ) → incarnation ≤ later → NotesOpening (λ one. one ≤ later) note → AreKnown told incarnation → AreKnown (after_note told note) later
known_more told (notes.Crash connection false) incarnation later less opens known = record { running = λ one is. absurd (let none : ⊥ = cc in none); ended = all_end told.tick later told.running told.ended (known_later told incarnation later less known).running (known_later told incarnation later less known).ended }
known_more told (notes.Crash connection true) incarnation later less opens known = known_later told incarnation later less known
known_more told (notes.Up (Some one)) incarnation later less opens known = record { running = λ other is. let same : one ≡ other = cc in subst (λ (n : ℕ). n ≤ later) same opens; ended = (known_later told incarnation later less known).ended }
known_more told (notes.Up None) incarnation later less opens known = known_later told incarnation later less known
known_more told notes.Tick incarnation later less opens known = record { running = (known_later told incarnation later less known).running; ended = (known_later told incarnation later less known).ended }
known_more told (notes.Go client did) incarnation later less opens known = known_later told incarnation later less known
known_more told (notes.Serve connection frame) incarnation later less opens known = known_later told incarnation later less known
known_more told (notes.Cut connection reached) incarnation later less opens known = known_later told incarnation later less known
known_more told (notes.Reap connection reaped) incarnation later less opens known = known_later told incarnation later less known
known_more told (notes.UpCrash made) incarnation later less opens known = known_later told incarnation later less known
known_more told (notes.Outside ran) incarnation later less opens known = known_later told incarnation later less known
known_more told (notes.Ask ltxid result) incarnation later less opens known = known_later told incarnation later less known
known_more told (notes.Drain closed) incarnation later less opens known = known_later told incarnation later less known
