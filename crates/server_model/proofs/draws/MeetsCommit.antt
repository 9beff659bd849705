-- The values that a source gave anew are among those that a walk may give, so a test that they meet
-- is met by some of them.
use Rattle.std.specs.Prelude.{◌≡◌, ◌⊎◌, ◌+◌, ◌*◌, ◌≤◌, ◌||◌, ◌+ℤ◌, ℕ, zero, suc, ℤ, pos, Bool, true, false, List, [], ◌∷◌, map, Option, Some, None, if◌then◌else◌}
use Rattle.std.specs.Option.{option_map}
use Rattle.std.specs.List.{list_any}
use Rattle.std.specs.Str.{bytes_eq}
use Rattle.std.proofs.Common.{refl, inl, inr, sym, ◌∙◌, ap, subst, arith}
use Rattle.svc_values.specs.declared.draw.Draw.{Draw}
use Rattle.svc_values.specs.declared.draw.Draw.TheVariants as draw
use Rattle.svc_values.specs.declared.draw.DrawKind.{DrawKind}
use Rattle.mutable_values.specs.declared.source.SeqState.{SeqState}
use Rattle.mutable_values.specs.meaning.Sources.{identifier}
use Rattle.mutable_values.specs.Sources.{Opening, sequence_of}
use Rattle.mutable_values.proofs.Offered.{found_name}
use Rattle.stmt_meaning.specs.Asked.{kind_drawn}
use Rattle.server_model.specs.meaning.NewValues.{Count, Numbers, gave, settled, shifted, ways, ways_from, with_way, given_ways, may_give, meets_with, next_identifier, counted}
use Rattle.server_model.specs.Draws.{DrawsAll}
use Rattle.server_model.proofs.draws.CountedBlocks.{raised, Follows, follows-gave, none-or-more, none-there, same-there, one-less}
use Rattle.server_model.proofs.draws.Takings.{names_are, some_same, raise, Takes, TakesKept, TakesTick, TakesName, TakesNext, takes}
use Rattle.server_model.proofs.draws.Raising.{none-kept, rest-none}
use Rattle.server_model.proofs.draws.Tracking.{count_in, count_name, count_mapped, TracksOne, Tracks, tracked-count}
use Rattle.server_model.proofs.draws.Spending.{tracks-as}

-- ---- one of a list

or-left : (a b : Bool) → a ≡ true → (a || b) ≡ true
or-left true b is = refl
or-left false b is = let none : ⊥ = cc in absurd none

or-right : (a b : Bool) → b ≡ true → (a || b) ≡ true
or-right true b is = refl
or-right false b is = is

any-mapped : {A B : Type 0} (test : B → Bool) (change : A → B) (list : List A) → list_any test (map change list) ≡ list_any (λ x. test (change x)) list
any-mapped test change [] = refl
any-mapped test change (x ∷ list) = ap (λ b. test (change x) || b) (any-mapped test change list)

-- one of the ways is that of the source
any-way : (test : Count → Bool) (maybe : ℕ) (count : Count) (blocks : ℕ) (next upto : ℤ) → blocks ≤ maybe → next ≡ count.next +ℤ pos (16 * blocks) → upto ≡ count.upto +ℤ pos (16 * blocks)
    → ((way : Count) → way.name ≡ count.name → way.next ≡ next → way.upto ≡ upto → test way ≡ true) → list_any test (ways_from maybe count) ≡ true
any-way test zero count blocks next upto within next_is upto_is meets =
    let same : next ≡ count.next = none-there next count.next blocks (omega arith) next_is in
    or-left (test (settled count)) false (meets (settled count) refl (sym same) (same-there next count.next upto count.upto blocks same next_is upto_is))
any-way test (suc maybe) count blocks next upto within next_is upto_is meets =
    by (none-or-more blocks) (λ less is. any-way test maybe (shifted count maybe) less next upto (omega arith) (one-less next count.next blocks less is next_is) (one-less upto count.upto blocks less is upto_is) meets)
  where
    by : (blocks ≡ 0) ⊎ ((less : ℕ) × (blocks ≡ less + 1)) → ((less : ℕ) → blocks ≡ less + 1 → list_any test (ways_from maybe (shifted count maybe)) ≡ true) → (test (settled count) || list_any test (ways_from maybe (shifted count maybe))) ≡ true
    by (inl none) more =
        let same : next ≡ count.next = none-there next count.next blocks none next_is in
        or-left (test (settled count)) _ (meets (settled count) refl (sym same) (same-there next count.next upto count.upto blocks same next_is upto_is))
    by (inr (less, is)) more = or-right (test (settled count)) _ (more less is)

-- and what it gives is among what the walk may give
any-given : (test : Draw × Numbers → Bool) (numbers : Numbers) (name : List ℕ) (counts : List Count) (count : Count) → count_in counts name ≡ Some count
    → list_any (λ way. test (draw.Seq name way.next, with_way numbers name way)) (ways count) ≡ true → list_any test (given_ways numbers name counts) ≡ true
any-given test numbers name [] count at meets = let none : ⊥ = cc in absurd none
any-given test numbers name (one ∷ counts) count at meets = by (bytes_eq one.name name) at (λ there. any-given test numbers name counts count there meets)
  where
    by : (b : Bool) → (if b then Some one else count_in counts name) ≡ Some count → (count_in counts name ≡ Some count → list_any test (given_ways numbers name counts) ≡ true)
        → list_any test (if b then map (λ way. (draw.Seq name way.next, with_way numbers name way)) (ways one) else given_ways numbers name counts) ≡ true
    by true is more =
        any-mapped test (λ (way : Count). (draw.Seq name way.next, with_way numbers name way)) (ways one)
        ∙ ap (λ (c : Count). list_any (λ way. test (draw.Seq name way.next, with_way numbers name way)) (ways c)) (some_same one count is) ∙ meets
    by false is more = more is

-- ---- the numbers behind it

module _ (numbers : Numbers) (before after : Opening) (tracks : Tracks numbers before) (sequence : SeqState) (there : sequence_of before.sequences sequence.name ≡ Some sequence)
    (incarnation : after.incarnation ≡ before.incarnation) (identifiers : after.identifiers ≡ before.identifiers) (each : (name : List ℕ) → sequence_of after.sequences name ≡ option_map (raise sequence.name) (sequence_of before.sequences name))
    (way : Count) (named : way.name ≡ sequence.name) (next : way.next ≡ sequence.next) (upto : way.upto ≡ sequence.upto) where
  abbrev change : Count → Count
  change count = if bytes_eq count.name sequence.name then gave way else count

  keeps-name : (count : Count) → (if bytes_eq count.name sequence.name then gave way else count).name ≡ count.name
  keeps-name count = by (bytes_eq count.name sequence.name) refl
    where
      by : (b : Bool) → bytes_eq count.name sequence.name ≡ b → (if b then gave way else count).name ≡ count.name
      by true e = named ∙ sym (names_are count.name sequence.name e)
      by false e = refl

  one-tracks : (name : List ℕ) (count : Option Count) (found : Option SeqState) → count_in numbers.counts name ≡ count → sequence_of before.sequences name ≡ found → TracksOne count found → TracksOne (option_map change count) (option_map (raise sequence.name) found)
  one-tracks name None None at at_sequence one = tt
  one-tracks name None (Some own) at at_sequence one = one
  one-tracks name (Some count) None at at_sequence one = one
  one-tracks name (Some count) (Some own) at at_sequence one = by (bytes_eq name sequence.name) refl
    where
      count_at : count.name ≡ name
      count_at = count_name numbers.counts name count at

      own_at : own.name ≡ name
      own_at = found_name before.sequences name own at_sequence

      by : (b : Bool) → bytes_eq name sequence.name ≡ b → Follows (if bytes_eq count.name sequence.name then gave way else count) (if bytes_eq own.name sequence.name then raised own else own)
      by true e =
          let same : own ≡ sequence = some_same own sequence (sym at_sequence ∙ ap (sequence_of before.sequences) (names_are name sequence.name e) ∙ there) in
          subst (λ c. Follows c (if bytes_eq own.name sequence.name then raised own else own)) (sym (ap (λ b. if b then gave way else count) (ap (λ n. bytes_eq n sequence.name) count_at ∙ e)))
          (subst (Follows (gave way)) (sym (ap (λ b. if b then raised own else own) (ap (λ n. bytes_eq n sequence.name) own_at ∙ e) ∙ ap raised same)) (follows-gave way sequence next upto))
      by false e =
          subst (λ c. Follows c (if bytes_eq own.name sequence.name then raised own else own)) (sym (ap (λ b. if b then gave way else count) (ap (λ n. bytes_eq n sequence.name) count_at ∙ e)))
          (subst (Follows count) (sym (ap (λ b. if b then raised own else own) (ap (λ n. bytes_eq n sequence.name) own_at ∙ e))) one)

  way-tracks : Tracks (with_way numbers sequence.name way) after
  way-tracks = record {
    opened_as = tracks.opened_as ∙ sym incarnation;
    given = tracks.given ∙ sym identifiers;
    each = λ name. tracks-as _ _ _ _ (count_mapped change keeps-name numbers.counts name) (each name) (one-tracks name (count_in numbers.counts name) (sequence_of before.sequences name) refl refl (tracks.each name));
  }

-- ---- all draws of a call

-- with some values for what is asked the test is met
abbrev MeetsOn : (List Draw → Bool) → ℕ → List DrawKind → Draw → Numbers → Type 0
MeetsOn test now asked given numbers = meets_with (λ draws. test (given ∷ draws)) now asked numbers ≡ true

abbrev may_meet : (List Draw → Bool) → ℕ → List DrawKind → Draw × Numbers → Bool
may_meet test now asked given = meets_with (λ draws. test (given.0 ∷ draws)) now asked given.1

module _ (test : List Draw → Bool) (now : ℕ) (asked : List DrawKind) (numbers : Numbers) (given : Draw) (before after : Opening) (rest : List Draw) (tracks : Tracks numbers before)
    (more : (later : Numbers) → Tracks later after → MeetsOn test now asked given later) where
  meets-one : Takes [] now before given after rest → list_any (may_meet test now asked) (may_give numbers now (kind_drawn given)) ≡ true
  meets-one (TakesKept found same left) = absurd (none-kept given [] found refl)
  meets-one (TakesTick new is_tick same left) =
      subst (λ d. MeetsOn test now asked d numbers → list_any (may_meet test now asked) (may_give numbers now (kind_drawn d)) ≡ true) (sym is_tick)
      (λ meets. or-left _ false meets) (more numbers (subst (Tracks numbers) (sym same) tracks))
  meets-one (TakesName new is_name same left) =
      let is : given ≡ draw.Id (next_identifier numbers) = is_name ∙ (λ i. draw.Id (identifier (sym tracks.opened_as i) (sym tracks.given i + 1))) in
      subst (λ d. MeetsOn test now asked d (counted numbers) → list_any (may_meet test now asked) (may_give numbers now (kind_drawn d)) ≡ true) (sym is)
      (λ meets. or-left _ false meets) (more (counted numbers) (subst (Tracks (counted numbers)) (sym same) (record { opened_as = tracks.opened_as; given = ap (λ n. n + 1) tracks.given; each = tracks.each })))
  meets-one (TakesNext sequence new there is_next incarnation identifiers each left) =
      let own = tracked-count numbers.counts sequence.name sequence (count_in numbers.counts sequence.name) refl (subst (TracksOne (count_in numbers.counts sequence.name)) there (tracks.each sequence.name)) in
      subst (λ d. list_any (may_meet test now asked) (may_give numbers now (kind_drawn d)) ≡ true) (sym is_next)
      (any-given (may_meet test now asked) numbers sequence.name numbers.counts own.0 own.1
      (any-way (λ way. may_meet test now asked (draw.Seq sequence.name way.next, with_way numbers sequence.name way)) own.0.maybe own.0 own.2.blocks sequence.next sequence.upto own.2.within own.2.next own.2.upto
      (λ way named next upto. subst (λ d. MeetsOn test now asked d (with_way numbers sequence.name way)) (is_next ∙ ap (draw.Seq sequence.name) (sym next))
      (more (with_way numbers sequence.name way)
      (way-tracks numbers before after tracks sequence there incarnation identifiers each way (named ∙ count_name numbers.counts sequence.name own.0 own.1) next upto)))))

-- A test that the values of a call meet, all of them new, is met by some that the walk may give.
pub meets-draws : (test : List Draw → Bool) (now : ℕ) (draws : List Draw) (before after : Opening) (left : List Draw) (numbers : Numbers) → DrawsAll now before [] draws after left → Tracks numbers before → test draws ≡ true
    → meets_with test now (map kind_drawn draws) numbers ≡ true
meets-draws test now [] before after left numbers drew tracks meets = meets
meets-draws test now (given ∷ draws) before after left numbers drew tracks meets =
    let one = takes [] given now before drew.0 drew.1 drew.2.0 in
    meets-one test now (map kind_drawn draws) numbers given before drew.0 drew.1 tracks
    (λ later tracks_later. meets-draws (λ more. test (given ∷ more)) now draws drew.0 after left later (subst (λ k. DrawsAll now drew.0 k draws after left) (rest-none given now before drew.0 drew.1 one) drew.2.1) tracks_later meets) one
