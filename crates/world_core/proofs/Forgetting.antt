-- Which incarnations may be forgotten, tick by tick.
use Rattle.std.proofs.Common.{◌≡◌, ◌≢◌, refl, sym, ap, subst, ◌∙◌, arith, ℕ, ◌==◌, append-nil, length-append, ◌+◌, ◌≤◌, ◌<◌, ◌^◌, Bool, true, false, fold, List, [], ◌∷◌, ◌++◌, map, drop, length, Option, Some, None, Result, Ok, Err, OnOk, if◌then◌else◌}
use Rattle.std.specs.Prelude.{⊤, max, nat_lt, nat_le, zero, suc}
use Rattle.std.specs.Option.{option_map_or}
use Rattle.std.proofs.lemmas.Bool.Decides.{nat_tests}
use Rattle.std.proofs.lemmas.List.{map-append}
use Rattle.outage_schedule.specs.declared.note.Note.{Note}
use Rattle.outage_schedule.specs.declared.note.Note.TheVariants as notes
use Rattle.run_clauses.specs.meaning.Horizons.{Ended, Openings, end_at, after_note, wanted_horizon}
use Rattle.world_model.proofs.Offered.{horizon_of, share, horizon_more, horizon_both}
use Rattle.world_core.specs.declared.openings.Ended.{Ended as EndedAt}
use Rattle.world_core.specs.Forgetting.{Held, ended_at, ended_now, settled, passed_first, FirstFits, MayTick, ticked, ends, ends_unless, waiting, ended_of, horizon_by, Wait, Tracks}

-- WHAT ONE ASKS FOR -------------------------------------------------------------------------------

-- in the tick in which it ended, and for as long as it is kept, one asks for nothing
pub share_none : (retention tick : ℕ) (one : Ended) → tick ≤ one.tick + retention → share retention tick one ≡ 0
share_none retention tick one least = grind (arith, nat_tests)

pub share_one : (retention tick : ℕ) (one : Ended) → one.tick + retention < tick → share retention tick one ≡ one.incarnation + 1
share_one retention tick one past = grind (arith, nat_tests)

-- WAITING -----------------------------------------------------------------------------------------

pub none_yet : (retention tick least : ℕ) (ended : List EndedAt) → Wait retention tick least ended → (now : ℕ) → now ≤ least → horizon_by retention now ended ≡ 0
none_yet retention tick least [] wait now early = refl
none_yet retention tick least (one ∷ ended) wait now early =
    horizon_more retention now (ended_of one) (map ended_of ended)
    ∙ (let mine : share retention now (ended_of one) ≡ 0 = share_none retention now (ended_of one) (omega (arith, wait.0, early)) in
    let others : horizon_by retention now ended ≡ 0 = none_yet retention tick (one.tick + retention + 1) ended wait.3 now (omega (arith, wait.0, early)) in
    omega (arith, mine, others))

pub wait_less : (retention tick least lower : ℕ) (ended : List EndedAt) → lower ≤ least → Wait retention tick least ended → Wait retention tick lower ended
wait_less retention tick least lower [] less wait = omega (arith, wait, less)
wait_less retention tick least lower (one ∷ ended) less wait = (omega (arith, wait.0, less), wait.1, wait.2, wait.3)

pub wait_later : (retention tick least : ℕ) (ended : List EndedAt) → Wait retention tick least ended → Wait retention (tick + 1) least ended
wait_later retention tick least [] wait = omega (arith, wait)
wait_later retention tick least (one ∷ ended) wait = (wait.0, omega (arith, wait.1), wait.2, wait_later retention tick (one.tick + retention + 1) ended wait.3)

-- one that ended now stands behind them from the next tick on
pub wait_push : (retention tick least : ℕ) (ended : List EndedAt) (one : EndedAt) → one.tick ≡ tick → one.incarnation ≤ 2 ^ 63 → Wait retention tick least ended → Wait retention (tick + 1) least (ended ++ one ∷ [])
wait_push retention tick least [] one now room wait = (omega (arith, now, wait), omega (arith, now), room, omega (arith, now))
wait_push retention tick least (first ∷ ended) one now room wait = (wait.0, omega (arith, wait.1), wait.2, wait_push retention tick (first.tick + retention + 1) ended one now room wait.3)

-- THE STEPS ---------------------------------------------------------------------------------------

eq_is : (a b : ℕ) → (a == b) ≡ true → a ≡ b
eq_is a b is = grind (arith, nat_tests)

eq_not : (a b : ℕ) → (a == b) ≡ false → a ≢ b
eq_not a b is = λ same. grind (arith, nat_tests, same)

some_is : (a b : ℕ) → Some a ≡ Some b → a ≡ b
some_is a b same = cc

drop_next : (n : ℕ) (xs : List EndedAt) (first : EndedAt) (others : List EndedAt) → drop n xs ≡ first ∷ others → (drop (suc n) xs ≡ others) × (suc n ≤ length xs)
drop_next zero [] first others is = absurd (let never : ⊥ = cc in never)
drop_next zero (x ∷ xs) first others is = (let same : xs ≡ others = cc in same, omega arith)
drop_next (suc n) [] first others is = absurd (let never : ⊥ = cc in never)
drop_next (suc n) (x ∷ xs) first others is = let again = drop_next n xs first others is in (again.0, omega (arith, again.1))

one_more_is : (n : ℕ) → suc n ≡ n + 1
one_more_is n = omega arith

settled_more : (held : Held) → held.passed ≤ length held.ended → held.passed ≤ length (held.ended ++ ended_now held)
settled_more held few = let more : length (held.ended ++ ended_now held) ≡ length held.ended + length (ended_now held) = length-append held.ended (ended_now held) in omega (arith, more, few)

rest_is : (held : Held) → held.passed ≤ length held.ended → drop held.passed (held.ended ++ ended_now held) ≡ waiting held
rest_is held few = drop_front held.passed held.ended (ended_now held) few
  where
    drop_front : (n : ℕ) (xs ys : List EndedAt) → n ≤ length xs → drop n (xs ++ ys) ≡ drop n xs ++ ys
    drop_front zero xs ys few = refl
    drop_front (suc n) [] ys few = absurd (omega (arith, few))
    drop_front (suc n) (x ∷ xs) ys few = drop_front n xs ys (omega (arith, few))

wait_settled : (retention : ℕ) (held : Held) (told : Openings) → Tracks retention held told → Wait retention (held.tick + 1) held.tick (waiting held)
wait_settled retention held told tracks = by held.ending tracks.ends
  where
    by : (ending : Option ℕ) → ((incarnation : ℕ) → ending ≡ Some incarnation → incarnation ≤ 2 ^ 63) → Wait retention (held.tick + 1) held.tick (drop held.passed held.ended ++ ended_at held.tick ending)
    by None ends = subst (Wait retention (held.tick + 1) held.tick) (sym (append-nil (drop held.passed held.ended))) (wait_later retention held.tick held.tick (drop held.passed held.ended) tracks.wait)
    by (Some incarnation) ends = wait_push retention held.tick held.tick (drop held.passed held.ended) (record { incarnation = incarnation; tick = held.tick }) refl (ends incarnation refl) tracks.wait

pub first_fits : (retention : ℕ) (held : Held) (told : Openings) → held.tick < 2 ^ 48 → Tracks retention held told → FirstFits (settled held) (drop held.passed (held.ended ++ ended_now held))
first_fits retention held told ticks tracks = subst (FirstFits (settled held)) (sym (rest_is held tracks.passed)) (by (waiting held) (wait_settled retention held told tracks))
  where
    by : (rest : List EndedAt) → Wait retention (held.tick + 1) held.tick rest → FirstFits (settled held) rest
    by [] wait = tt
    by (first ∷ others) wait = (omega (arith, ticks, tracks.kept.0, tracks.kept.1, wait.1), wait.2)

-- one tick later
pub ticks_on : (retention : ℕ) (held : Held) (told : Openings) → Tracks retention held told
    → Tracks retention (ticked held) (record told { tick = told.tick + 1 })
ticks_on retention held told tracks = by (drop held.passed (held.ended ++ ended_now held)) refl (subst (Wait retention (held.tick + 1) held.tick) (sym (rest_is held tracks.passed)) (wait_settled retention held told tracks)) wants
  where
    wants : (tick : ℕ) → held.tick ≤ tick → wanted_horizon retention (record told { tick = tick }) ≡ max held.wanted (horizon_by retention tick (drop held.passed (held.ended ++ ended_now held)))
    wants tick late = tracks.wanted tick late ∙ ap (λ rest. max held.wanted (horizon_by retention tick rest)) (sym (rest_is held tracks.passed))

    by : (rest : List EndedAt) → drop held.passed (held.ended ++ ended_now held) ≡ rest → Wait retention (held.tick + 1) held.tick rest
        → ((tick : ℕ) → held.tick ≤ tick → wanted_horizon retention (record told { tick = tick }) ≡ max held.wanted (horizon_by retention tick rest))
        → Tracks retention (record (passed_first (settled held) rest) { tick = held.tick + 1 }) (record told { tick = told.tick + 1 })
    by [] is wait wants = record {
      kept = tracks.kept;
      tick = ap (λ n. n + 1) tracks.tick;
      running = tracks.running;
      numbered = tracks.numbered;
      ends = λ incarnation none. absurd (let never : ⊥ = cc in never);
      wanted = λ tick late. wants tick (omega (arith, late)) ∙ ap (λ rest. max held.wanted (horizon_by retention tick rest)) (sym (ap (λ l. l ++ []) is));
      passed = settled_more held tracks.passed;
      wait = subst (Wait retention (held.tick + 1) (held.tick + 1)) (sym is) (omega arith);
    }
    by (first ∷ others) is wait wants = at (first.tick + held.retention == held.tick) refl
      where
        next : (drop (held.passed + 1) (held.ended ++ ended_now held) ≡ others) × (held.passed + 1 ≤ length (held.ended ++ ended_now held))
        next =
            let later = drop_next held.passed (held.ended ++ ended_now held) first others is in
            (subst (λ n. drop n (held.ended ++ ended_now held) ≡ others) (one_more_is held.passed) later.0, omega (arith, later.1))

        at : (b : Bool) → (first.tick + held.retention == held.tick) ≡ b
            → Tracks retention (record (if b then record (settled held) { passed = held.passed + 1; wanted = max (first.incarnation + 1) held.wanted } else settled held) { tick = held.tick + 1 }) (record told { tick = told.tick + 1 })
        at true now = let same : first.tick + held.retention ≡ held.tick = eq_is (first.tick + held.retention) held.tick now in record {
          kept = tracks.kept;
          tick = ap (λ n. n + 1) tracks.tick;
          running = tracks.running;
          numbered = tracks.numbered;
          ends = λ incarnation none. absurd (let never : ⊥ = cc in never);
          wanted = λ tick late.
              wants tick (omega (arith, late))
              ∙ (let more : horizon_by retention tick (first ∷ others) ≡ max (share retention tick (ended_of first)) (horizon_by retention tick others) = horizon_more retention tick (ended_of first) (map ended_of others) in
              let mine : share retention tick (ended_of first) ≡ first.incarnation + 1 = share_one retention tick (ended_of first) (omega (arith, same, tracks.kept.0, late)) in
              let left : horizon_by retention tick (drop (held.passed + 1) (held.ended ++ ended_now held) ++ []) ≡ horizon_by retention tick others = ap (horizon_by retention tick) (append-nil (drop (held.passed + 1) (held.ended ++ ended_now held)) ∙ next.0) in
              omega (arith, more, mine, left));
          passed = next.1;
          wait = subst (Wait retention (held.tick + 1) (held.tick + 1)) (sym next.0) (wait_less retention (held.tick + 1) (first.tick + retention + 1) (held.tick + 1) others (omega (arith, same, tracks.kept.0)) wait.3);
        }
        at false later = let other : first.tick + held.retention ≢ held.tick = eq_not (first.tick + held.retention) held.tick later in record {
          kept = tracks.kept;
          tick = ap (λ n. n + 1) tracks.tick;
          running = tracks.running;
          numbered = tracks.numbered;
          ends = λ incarnation none. absurd (let never : ⊥ = cc in never);
          wanted = λ tick late. wants tick (omega (arith, late)) ∙ ap (λ rest. max held.wanted (horizon_by retention tick rest)) (sym (append-nil (drop held.passed (held.ended ++ ended_now held)) ∙ is));
          passed = settled_more held tracks.passed;
          wait = subst (Wait retention (held.tick + 1) (held.tick + 1)) (sym is) (not_less first wait.0 other, wait.1, wait.2, wait.3);
        }
          where
            not_less : (e : EndedAt) → held.tick ≤ e.tick + retention → e.tick + held.retention ≢ held.tick → held.tick + 1 ≤ e.tick + retention
            not_less e least other = by_order (nat_le (held.tick + 1) (e.tick + retention)) refl
              where
                by_order : (b : Bool) → nat_le (held.tick + 1) (e.tick + retention) ≡ b → held.tick + 1 ≤ e.tick + retention
                by_order true is = grind (arith, nat_tests)
                by_order false is = absurd (other (let same : e.tick + held.retention ≡ held.tick = (let less : e.tick + retention < held.tick + 1 = grind (arith, nat_tests) in omega (arith, less, least, tracks.kept.0)) in same))

-- THE END OF ONE ----------------------------------------------------------------------------------

-- the greater one is held
ends_one : (retention : ℕ) (held : Held) (told : Openings) (incarnation : ℕ) → held.running ≡ Some incarnation → Tracks retention held told
    → Tracks retention (record held { running = None; ending = Some (option_map_or (max incarnation) held.ending incarnation) }) (record told { running = None; ended = end_at told.tick told.running ++ told.ended })
ends_one retention held told incarnation runs tracks = record {
  kept = tracks.kept;
  tick = tracks.tick;
  running = refl;
  numbered = λ other none. absurd (let never : ⊥ = cc in never);
  ends = λ other is. bound held.ending tracks.ends other is;
  wanted = λ tick late. more tick late;
  passed = tracks.passed;
  wait = tracks.wait;
}
  where
    bound : (ending : Option ℕ) → ((one : ℕ) → ending ≡ Some one → one ≤ 2 ^ 63) → (other : ℕ) → Some (option_map_or (max incarnation) ending incarnation) ≡ Some other → other ≤ 2 ^ 63
    bound None ends other is = subst (λ n. n ≤ 2 ^ 63) (some_is incarnation other is) (tracks.numbered incarnation runs)
    bound (Some one) ends other is = subst (λ n. n ≤ 2 ^ 63) (some_is (max incarnation one) other is) (let mine = tracks.numbered incarnation runs in let its = ends one refl in omega (arith, mine, its))

    this : Ended
    this = record { incarnation = incarnation; tick = held.tick }

    both : (tick : ℕ) (ending : Option ℕ) → horizon_by retention tick (drop held.passed held.ended ++ ended_at held.tick ending) ≡ max (horizon_by retention tick (drop held.passed held.ended)) (horizon_by retention tick (ended_at held.tick ending))
    both tick ending =
        ap (horizon_of retention tick) (map-append ended_of (drop held.passed held.ended) (ended_at held.tick ending))
        ∙ horizon_both retention tick (map ended_of (drop held.passed held.ended)) (map ended_of (ended_at held.tick ending))

    one_more : (tick : ℕ) (ending : Option ℕ) → horizon_by retention tick (ended_at held.tick (Some (option_map_or (max incarnation) ending incarnation))) ≡ max (share retention tick this) (horizon_by retention tick (ended_at held.tick ending))
    one_more tick None = horizon_more retention tick this []
    one_more tick (Some one) = past (nat_lt (held.tick + retention) tick)
      where
        past : (b : Bool) → fold max 0 (map (λ (e : Ended). e.incarnation + 1) (if b then record { incarnation = max incarnation one; tick = held.tick } ∷ [] else []))
            ≡ max (if b then incarnation + 1 else 0) (fold max 0 (map (λ (e : Ended). e.incarnation + 1) (if b then record { incarnation = one; tick = held.tick } ∷ [] else [])))
        past true = omega arith
        past false = refl

    more : (tick : ℕ) → held.tick ≤ tick → horizon_of retention tick (end_at told.tick told.running ++ told.ended) ≡ max held.wanted (horizon_by retention tick (drop held.passed held.ended ++ ended_at held.tick (Some (option_map_or (max incarnation) held.ending incarnation))))
    more tick late =
        ap (λ (ends : List Ended). horizon_of retention tick (ends ++ told.ended)) (ap (λ n. end_at n told.running) tracks.tick ∙ ap (end_at held.tick) (tracks.running ∙ runs))
        ∙ (let first : horizon_of retention tick (this ∷ told.ended) ≡ max (share retention tick this) (horizon_of retention tick told.ended) = horizon_more retention tick this told.ended in
        let before : horizon_of retention tick told.ended ≡ max held.wanted (horizon_by retention tick (waiting held)) = tracks.wanted tick late in
        let old = both tick held.ending in
        let new = both tick (Some (option_map_or (max incarnation) held.ending incarnation)) in
        let one = one_more tick held.ending in
        omega (arith, first, before, old, new, one))

-- at a crash of a server that was up
pub ends_on : (retention : ℕ) (held : Held) (told : Openings) → Tracks retention held told → Tracks retention (ends held held.running) (record told { running = None; ended = end_at told.tick told.running ++ told.ended })
ends_on retention held told tracks = by held.running refl
  where
    by : (running : Option ℕ) → held.running ≡ running → Tracks retention (ends held running) (record told { running = None; ended = end_at told.tick told.running ++ told.ended })
    by (Some incarnation) runs = ends_one retention held told incarnation runs tracks
    by None runs = record {
      kept = tracks.kept;
      tick = tracks.tick;
      running = sym runs;
      numbered = tracks.numbered;
      ends = tracks.ends;
      wanted = λ tick late. ap (λ (running : Option ℕ). horizon_of retention tick (end_at told.tick running ++ told.ended)) (tracks.running ∙ runs) ∙ tracks.wanted tick late;
      passed = tracks.passed;
      wait = tracks.wait;
    }

-- WHAT AN OPENING WANTS ---------------------------------------------------------------------------

pub wanted_is : (retention : ℕ) (held : Held) (told : Openings) → Tracks retention held told → held.wanted ≡ wanted_horizon retention told
wanted_is retention held told tracks =
    let none : horizon_by retention held.tick (waiting held) ≡ 0 = none_yet retention (held.tick + 1) held.tick (waiting held) (wait_settled retention held told tracks) held.tick (omega arith) in
    let is : horizon_of retention held.tick told.ended ≡ max held.wanted (horizon_by retention held.tick (waiting held)) = tracks.wanted held.tick (omega arith) in
    let now : held.wanted ≡ horizon_of retention held.tick told.ended = omega (arith, none, is) in
    now ∙ ap (λ n. horizon_of retention n told.ended) (sym tracks.tick)

-- THE NEXT ONE ------------------------------------------------------------------------------------

pub opens_on : (retention : ℕ) (held : Held) (told : Openings) (incarnation : ℕ) → incarnation ≤ 2 ^ 63 → Tracks retention held told → Tracks retention (record held { running = Some incarnation }) (record told { running = Some incarnation })
opens_on retention held told incarnation room tracks = record {
  kept = tracks.kept;
  tick = tracks.tick;
  running = refl;
  numbered = λ other is. subst (λ n. n ≤ 2 ^ 63) (some_is incarnation other is) room;
  ends = tracks.ends;
  wanted = tracks.wanted;
  passed = tracks.passed;
  wait = tracks.wait;
}

pub may_tick : (held : Held) → (retention : ℕ) (told : Openings) → held.tick < 2 ^ 48 → Tracks retention held told → MayTick held
may_tick held retention told ticks tracks = (ticks, first_fits retention held told ticks tracks)

-- AT A NOTE ---------------------------------------------------------------------------------------

pub on_ok : {E : Type 0} (result : Result ⊤ E) {P Q : Type 0} → (P → Q) → OnOk result P → OnOk result Q
on_ok (Ok done) by is = by is
on_ok (Err fault) by is = tt

abbrev pub Carries : Held → Held → Note → Type 0
Carries old new note = (retention : ℕ) (told : Openings) → Tracks retention old told → Tracks retention new (after_note told note)

pub tick_note : (old new : Held) (note : Note) → note ≡ notes.Tick → new ≡ ticked old → Carries old new note
tick_note old new note is same retention told tracks =
    subst (λ (held : Held). Tracks retention held (after_note told note)) (sym same) (subst (λ (one : Note). Tracks retention (ticked old) (after_note told one)) (sym is) (ticks_on retention old told tracks))

ends_told : (old : Held) (connection : ℕ) (was_down : Bool) → Carries old (ends_unless was_down old) (notes.Crash connection was_down)
ends_told old connection true retention told tracks = tracks
ends_told old connection false retention told tracks = ends_on retention old told tracks

pub crash_note : (old new : Held) (note : Note) (connection : ℕ) (was_down : Bool) → note ≡ notes.Crash connection was_down → new ≡ ends_unless was_down old → Carries old new note
crash_note old new note connection was_down is same retention told tracks =
    subst (λ (held : Held). Tracks retention held (after_note told note)) (sym same) (subst (λ (one : Note). Tracks retention (ends_unless was_down old) (after_note told one)) (sym is) (ends_told old connection was_down retention told tracks))
