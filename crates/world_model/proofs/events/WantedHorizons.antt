-- The horizon that incarnations that ended ask for, which never falls over the notes of a run.
use Rattle.std.proofs.Common.{◌≡◌, refl, ap, ◌∙◌, arith, ℕ, ◌+◌, ◌≤◌, false, true, Bool, fold, List, [], ◌∷◌, ◌++◌, map, Some, None, if◌then◌else◌}
use Rattle.std.specs.Prelude.{max, nat_lt, filter}
use Rattle.std.proofs.lemmas.Bool.Decides.{nat_tests}
use Rattle.outage_schedule.specs.declared.note.Note.{Note}
use Rattle.outage_schedule.specs.declared.note.Note.TheVariants as notes
use Rattle.run_clauses.specs.meaning.Horizons.{Ended, Openings, end_at, after_note, wanted_horizon}
use Rattle.world_model.specs.Forgets.{openings_of}

-- OF A LIST ---------------------------------------------------------------------------------------

fold_from : (a : ℕ) (xs : List ℕ) → fold max a xs ≡ max a (fold max 0 xs)
fold_from a [] = omega arith
fold_from a (x ∷ xs) = fold_from (max a x) xs ∙ (let again : fold max (max 0 x) xs ≡ max (max 0 x) (fold max 0 xs) = fold_from (max 0 x) xs in omega (arith, again))

-- of incarnations that ended, the newest first or last
abbrev pub horizon_of : ℕ → ℕ → List Ended → ℕ
horizon_of retention tick ended = wanted_horizon retention (record { tick = tick; running = None; ended = ended })

abbrev pub share : ℕ → ℕ → Ended → ℕ
share retention tick one = if nat_lt (one.tick + retention) tick then one.incarnation + 1 else 0

pub horizon_more : (retention tick : ℕ) (one : Ended) (ended : List Ended) → horizon_of retention tick (one ∷ ended) ≡ max (share retention tick one) (horizon_of retention tick ended)
horizon_more retention tick one ended = by (nat_lt (one.tick + retention) tick)
  where
    by : (is : Bool) → fold max 0 (map (λ e. e.incarnation + 1) (if is then one ∷ filter (λ e. nat_lt (e.tick + retention) tick) ended else filter (λ e. nat_lt (e.tick + retention) tick) ended)) ≡ max (if is then one.incarnation + 1 else 0) (horizon_of retention tick ended)
    by true = fold_from (max 0 (one.incarnation + 1)) (map (λ e. e.incarnation + 1) (filter (λ e. nat_lt (e.tick + retention) tick) ended)) ∙ (let zero_less : max 0 (one.incarnation + 1) ≡ one.incarnation + 1 = omega arith in ap (λ n. max n (horizon_of retention tick ended)) zero_less)
    by false = omega arith

pub horizon_both : (retention tick : ℕ) (first second : List Ended) → horizon_of retention tick (first ++ second) ≡ max (horizon_of retention tick first) (horizon_of retention tick second)
horizon_both retention tick [] second = omega arith
horizon_both retention tick (one ∷ first) second =
    horizon_more retention tick one (first ++ second)
    ∙ (let again = horizon_both retention tick first second in let more = horizon_more retention tick one first in omega (arith, again, more))

-- OVER THE NOTES ----------------------------------------------------------------------------------

pub openings_more : (first : Openings) (before : List Note) (note : Note) → openings_of first (before ++ note ∷ []) ≡ after_note (openings_of first before) note
openings_more first [] note = refl
openings_more first (one ∷ before) note = openings_more (after_note first one) before note

share_later : (retention tick : ℕ) (one : Ended) → share retention tick one ≤ share retention (tick + 1) one
share_later retention tick one = grind (arith, nat_tests)

horizon_later : (retention tick : ℕ) (ended : List Ended) → horizon_of retention tick ended ≤ horizon_of retention (tick + 1) ended
horizon_later retention tick [] = omega arith
horizon_later retention tick (one ∷ ended) =
    let now = horizon_more retention tick one ended in
    let next = horizon_more retention (tick + 1) one ended in
    let first = share_later retention tick one in
    let others = horizon_later retention tick ended in
    omega (arith, now, next, first, others)

pub wanted_rises : (retention : ℕ) (told : Openings) (note : Note) → wanted_horizon retention told ≤ wanted_horizon retention (after_note told note)
wanted_rises retention told notes.Tick = horizon_later retention told.tick told.ended
wanted_rises retention told (notes.Crash connection false) = let both = horizon_both retention told.tick (end_at told.tick told.running) told.ended in omega (arith, both)
wanted_rises retention told (notes.Crash connection true) = omega arith
wanted_rises retention told (notes.Up (Some incarnation)) = omega arith
wanted_rises retention told (notes.Up None) = omega arith
wanted_rises retention told note = omega arith
