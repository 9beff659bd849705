-- The front of the incarnations that ended.
use Rattle.std.proofs.Common.{Bool, true, false, Option, length-append, append_assoc, ◌≡◌, ℕ, ◌+◌, ◌≤◌, ◌<◌, max, length, get_or, drop, List, [], ◌∷◌, ◌++◌, reverse, Some, None, refl, sym, ap, ◌∙◌, subst, arith}
use Rattle.std.specs.Prelude.{nat_lt}
use Rattle.std.proofs.lemmas.Grind.{reverse_onto}
use Rattle.std.proofs.lemmas.List.{drop_more, drop_all, drop-append-le, length-map, drop-map, reverse-reverse}
use Rattle.std.proofs.lemmas.Bool.Decides.{nat_tests}
use Rattle.outage_schedule.specs.declared.note.Note.{Note}
use Rattle.outage_schedule.specs.declared.note.Note.TheVariants as notes
use Rattle.run_clauses.specs.meaning.Horizons.{Ended, Openings, Wanted, wanted_at, wanted_from, end_at, after_note, first_opening}
use Rattle.report_horizons.specs.declared.horizons.EndedAt.{EndedAt}
use Rattle.report_horizons.specs.declared.horizons.Front.{Front}
use Rattle.report_horizons.specs.Horizons.{ended_as, all_ended, part_of, most_by, Rises, IsFront, IsFrontAt}
use Rattle.report_horizons.proofs.Greatest.{most-append}

-- OF THE ORDER ------------------------------------------------------------------------------------

rises_later : (low : ℕ) (all : List Ended) (high later : ℕ) → high ≤ later → Rises low all high → Rises low all later
rises_later low [] high later up is = omega (arith, up, is)
rises_later low (one ∷ all) high later up is = (is.0, rises_later one.tick all high later up is.1)

rises_lower : (lower low : ℕ) (all : List Ended) (high : ℕ) → lower ≤ low → Rises low all high → Rises lower all high
rises_lower lower low [] high down is = omega (arith, down, is)
rises_lower lower low (one ∷ all) high down is = let first = is.0 in (omega (arith, down, first), is.1)

rises_more : (low : ℕ) (all : List Ended) (high incarnation : ℕ) → Rises low all high → Rises low (all ++ record { incarnation = incarnation; tick = high } ∷ []) high
rises_more low [] high incarnation is = (is, omega arith)
rises_more low (one ∷ all) high incarnation is = (is.0, rises_more one.tick all high incarnation is.1)

-- OF WHAT IS ASKED FOR ----------------------------------------------------------------------------

asks_none : (retention tick : ℕ) (one : Ended) → tick ≤ one.tick + retention → part_of retention tick one ≡ 0
asks_none retention tick one late = grind (arith, nat_tests)

asks_own : (retention tick : ℕ) (one : Ended) → one.tick + retention < tick → part_of retention tick one ≡ one.incarnation + 1
asks_own retention tick one past = grind (arith, nat_tests)

none_asked : (retention tick low : ℕ) (all : List Ended) (high : ℕ) → tick ≤ low + retention → Rises low all high → most_by (part_of retention tick) all ≡ 0
none_asked retention tick low [] high late is = refl
none_asked retention tick low (one ∷ all) high late is =
    let up = is.0 in
    let still : tick ≤ one.tick + retention = omega (arith, late, up) in
    let here = asks_none retention tick one still in
    let rest = none_asked retention tick one.tick all high still is.1 in
    omega (arith, here, rest)

-- OF THE FRONT ------------------------------------------------------------------------------------

abbrev at : ℕ → ℕ → Front
at passed most = record { passed = passed; most = most }

passes : (retention tick passed most new : ℕ) (ended : List Ended) (one : Ended) (rest : List Ended) → drop passed ended ≡ one ∷ rest → drop (passed + 1) ended ≡ rest → passed + 1 ≤ length ended
    → one.tick + retention < tick → new ≡ max most (one.incarnation + 1) → IsFront retention tick (at passed most) ended → IsFront retention tick (at (passed + 1) new) ended
passes retention tick passed most new ended one rest here behind within past more is = record {
  within = within;
  asks = λ later up.
      let so_far = is.asks later up in
      let first = ap (most_by (part_of retention later)) here in
      let others = ap (most_by (part_of retention later)) behind in
      let still : one.tick + retention < later = omega (arith, past, up) in
      let own = asks_own retention later one still in
      omega (arith, so_far, first, others, own, more);
  rises =
      let R : List Ended → Type 0 = λ l. Rises 0 l tick in
      let now : Rises 0 (one ∷ rest) tick = subst R here is.rises in
      subst R (sym behind) (rises_lower 0 one.tick rest tick (omega arith) now.1);
}

stops : (retention tick passed most : ℕ) (ended : List Ended) → most_by (part_of retention tick) (drop passed ended) ≡ 0 → IsFront retention tick (at passed most) ended → most ≡ most_by (part_of retention tick) ended
stops retention tick passed most ended none is = let so_far = is.asks tick (omega arith) in omega (arith, so_far, none)

pub passes_one : (retention tick passed most new : ℕ) (all : List EndedAt) (d : EndedAt) → passed < length all → true ≡ nat_lt ((get_or all passed d).tick + retention) tick → new ≡ max most ((get_or all passed d).incarnation + 1)
    → IsFront retention tick (at passed most) (all_ended all) → IsFront retention tick (at (passed + 1) new) (all_ended all)
passes_one retention tick passed most new all d inside past more is =
    passes retention tick passed most new (all_ended all) (ended_as (get_or all passed d)) (all_ended (drop (passed + 1) all))
    (drop-map ended_as passed all ∙ ap all_ended (drop_more all passed d inside)) (drop-map ended_as (passed + 1) all)
    (let long = length-map all ended_as in omega (arith, long, inside)) (grind (arith, nat_tests)) more is

pub stops_at : (retention tick passed most : ℕ) (all : List EndedAt) (d : EndedAt) → passed < length all → false ≡ nat_lt ((get_or all passed d).tick + retention) tick
    → IsFront retention tick (at passed most) (all_ended all) → most ≡ most_by (part_of retention tick) (all_ended all)
stops_at retention tick passed most all d inside late is =
    let one = ended_as (get_or all passed d) in
    let rest = all_ended (drop (passed + 1) all) in
    let here : drop passed (all_ended all) ≡ one ∷ rest = drop-map ended_as passed all ∙ ap all_ended (drop_more all passed d inside) in
    let R : List Ended → Type 0 = λ l. Rises 0 l tick in
    let now : Rises 0 (one ∷ rest) tick = subst R here is.rises in
    let still : tick ≤ one.tick + retention = grind (arith, nat_tests) in
    let own = asks_none retention tick one still in
    let others = none_asked retention tick one.tick rest tick still now.1 in
    let none = ap (most_by (part_of retention tick)) here in
    stops retention tick passed most (all_ended all) (omega (arith, none, own, others)) is

pub stops_behind : (retention tick passed most : ℕ) (all : List EndedAt) → length all ≤ passed
    → IsFront retention tick (at passed most) (all_ended all) → most ≡ most_by (part_of retention tick) (all_ended all)
stops_behind retention tick passed most all past is =
    stops retention tick passed most (all_ended all) (ap (most_by (part_of retention tick)) (drop-map ended_as passed all ∙ ap all_ended (drop_all passed all past))) is

-- OVER THE NOTES ----------------------------------------------------------------------------------

ticks : (retention tick : ℕ) (front : Front) (ended : List Ended) → IsFront retention tick front ended → IsFront retention (tick + 1) front ended
ticks retention tick front ended is = record {
  within = is.within;
  asks = λ later up. is.asks later (omega (arith, up));
  rises = rises_later 0 (drop front.passed ended) tick (tick + 1) (omega arith) is.rises;
}

ends : (retention tick : ℕ) (front : Front) (ended : List Ended) (incarnation : ℕ) → IsFront retention tick front ended
    → IsFront retention tick front (ended ++ record { incarnation = incarnation; tick = tick } ∷ [])
ends retention tick front ended incarnation is =
    let last : List Ended = record { incarnation = incarnation; tick = tick } ∷ [] in
    let behind = drop-append-le front.passed ended last is.within in
    record {
      within = (let long = length-append ended last in let short = is.within in omega (arith, long, short));
      asks = λ later up.
          let so_far = is.asks later up in
          let whole = most-append (part_of retention later) ended last in
          let others = ap (most_by (part_of retention later)) behind ∙ most-append (part_of retention later) (drop front.passed ended) last in
          omega (arith, so_far, whole, others);
      rises =
          let R : List Ended → Type 0 = λ l. Rises 0 l tick in
          subst R (sym behind) (rises_more 0 (drop front.passed ended) tick incarnation is.rises);
    }

ends_running : (retention tick : ℕ) (front : Front) (running : Option ℕ) (ended : List Ended) → IsFront retention tick front (reverse ended)
    → IsFront retention tick front (reverse (end_at tick running ++ ended))
ends_running retention tick front None ended is = is
ends_running retention tick front (Some incarnation) ended is =
    let P : List Ended → Type 0 = IsFront retention tick front in
    subst P (sym (reverse_onto ended (record { incarnation = incarnation; tick = tick }) [])) (ends retention tick front (reverse ended) incarnation is)

pub stays_front : (retention : ℕ) (front : Front) (openings : Openings) (note : Note) → IsFrontAt retention front openings → IsFrontAt retention front (after_note openings note)
stays_front retention front openings notes.Tick is = ticks retention openings.tick front (reverse openings.ended) is
stays_front retention front openings (notes.Crash connection false) is = ends_running retention openings.tick front openings.running openings.ended is
stays_front retention front openings (notes.Crash connection true) is = is
stays_front retention front openings (notes.Up (Some incarnation)) is = is
stays_front retention front openings (notes.Up None) is = is
stays_front retention front openings note is = is

-- before event 1
pub starts : (retention last : ℕ) (opened : Bool) → IsFrontAt retention (at 0 0) (first_opening opened last)
starts retention last true = record { within = omega arith; asks = λ later up. omega arith; rises = (omega arith, omega arith) }
starts retention last false = record { within = omega arith; asks = λ later up. omega arith; rises = omega arith }

-- what an opening wants, by the last that ended first
pub wanted_of : (retention : ℕ) (front : Front) (openings : Openings) (all : List EndedAt) → openings.ended ≡ reverse (all_ended all) → IsFrontAt retention front openings → IsFront retention openings.tick front (all_ended all)
wanted_of retention front openings all same is =
    let P : List Ended → Type 0 = IsFront retention openings.tick front in
    subst P (ap reverse same ∙ reverse-reverse (all_ended all)) is

-- WHAT THE NOTES WANT -----------------------------------------------------------------------------

pub wants_more : (retention i : ℕ) (openings behind : Openings) (notes : List Note) (note : Note) (so_far here more whole : List Wanted) → i < length notes → note ≡ get_or notes i note → here ≡ wanted_at retention (i + 1) openings note
    → more ≡ so_far ++ here → behind ≡ after_note openings note → so_far ++ wanted_from retention (i + 1) openings (drop i notes) ≡ whole → more ++ wanted_from retention (i + 1 + 1) behind (drop (i + 1) notes) ≡ whole
wants_more retention i openings behind notes note so_far here more whole inside is wants longer follows known =
    let rest = drop (i + 1) notes in
    ap (λ o. more ++ wanted_from retention (i + 1 + 1) o rest) follows
    ∙ ap (λ l. l ++ wanted_from retention (i + 1 + 1) (after_note openings note) rest) longer
    ∙ append_assoc so_far here (wanted_from retention (i + 1 + 1) (after_note openings note) rest)
    ∙ ap (λ l. so_far ++ (l ++ wanted_from retention (i + 1 + 1) (after_note openings note) rest)) wants
    ∙ ap (λ n. so_far ++ wanted_from retention (i + 1) openings (n ∷ rest)) is
    ∙ sym (ap (λ l. so_far ++ wanted_from retention (i + 1) openings l) (drop_more notes i note inside))
    ∙ known
