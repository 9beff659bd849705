-- The numbers of a walk track the source: each draw of a call is as the walk has it.
use Rattle.std.specs.Prelude.{◌≡◌, ◌+◌, ◌==◌, ℕ, ℤ, Bool, true, false, List, [], ◌∷◌, map, Option, Some, None, if◌then◌else◌}
use Rattle.std.specs.Option.{option_map, option_and_then}
use Rattle.std.specs.Str.{bytes_eq}
use Rattle.std.proofs.Common.{refl, sym, ◌∙◌, ap, subst, arith}
use Rattle.std.proofs.lemmas.Bool.Decides.{nat_tests}
use Rattle.svc_values.specs.declared.draw.Draw.{Draw}
use Rattle.svc_values.specs.declared.draw.Draw.TheVariants as draw
use Rattle.svc_values.specs.SameLaws.{same_draw_decides}
use Rattle.mutable_values.specs.declared.source.SeqState.{SeqState}
use Rattle.mutable_values.specs.meaning.Sources.{identifier}
use Rattle.mutable_values.specs.Sources.{Opening, first_kept, without_first, sequence_of}
use Rattle.mutable_values.proofs.Offered.{found_name}
use Rattle.stmt_meaning.specs.Asked.{kind_drawn}
use Rattle.server_model.specs.meaning.NewValues.{Count, Numbers, Kept, New, origin_of, left_by, one_drawn, if_next, and_draws, drawn_by, gave, if_gave, with_first, behind, counts_after, with_counts, next_identifier, counted}
use Rattle.server_model.specs.Draws.{DrawsAll}
use Rattle.server_model.proofs.draws.CountedBlocks.{raised, Follows, IsFound, find-way, follows-gave}
use Rattle.server_model.proofs.draws.KeptDraws.{origin_by, kept-origin}
use Rattle.server_model.proofs.draws.Takings.{same_name, names_are, some_same, yes_no, raise, Takes, TakesKept, TakesTick, TakesName, TakesNext, takes}

-- ---- the count of a name

-- the first count of a name
abbrev pub count_in : List Count → List ℕ → Option Count
count_in [] name = None
count_in (count ∷ counts) name = if bytes_eq count.name name then Some count else count_in counts name

pub count_name : (counts : List Count) (name : List ℕ) (count : Count) → count_in counts name ≡ Some count → count.name ≡ name
count_name [] name count is = let none : ⊥ = cc in absurd none
count_name (one ∷ counts) name count is = by (bytes_eq one.name name) refl (count_name counts name count) is
  where
    by : (b : Bool) → bytes_eq one.name name ≡ b → (count_in counts name ≡ Some count → count.name ≡ name) → (if b then Some one else count_in counts name) ≡ Some count → count.name ≡ name
    by true e more at = sym (ap (λ (c : Count). c.name) (some_same one count at)) ∙ names_are one.name name e
    by false e more at = more at

-- counts that are all changed, each under its name
pub count_mapped : (change : Count → Count) → ((c : Count) → (change c).name ≡ c.name) → (counts : List Count) (name : List ℕ) → count_in (map change counts) name ≡ option_map change (count_in counts name)
count_mapped change keeps [] name = refl
count_mapped change keeps (count ∷ counts) name =
    (λ i. if bytes_eq (keeps count i) name then Some (change count) else count_in (map change counts) name) ∙ by (bytes_eq count.name name) (count_mapped change keeps counts name)
  where
    by : (b : Bool) → count_in (map change counts) name ≡ option_map change (count_in counts name) → (if b then Some (change count) else count_in (map change counts) name) ≡ option_map change (if b then Some count else count_in counts name)
    by true more = refl
    by false more = more

pub sequence_mapped : (change : SeqState → SeqState) → ((s : SeqState) → (change s).name ≡ s.name) → (sequences : List SeqState) (name : List ℕ) → sequence_of (map change sequences) name ≡ option_map change (sequence_of sequences name)
sequence_mapped change keeps [] name = refl
sequence_mapped change keeps (sequence ∷ sequences) name =
    (λ i. if bytes_eq (keeps sequence i) name then Some (change sequence) else sequence_of (map change sequences) name) ∙ by (bytes_eq sequence.name name) (sequence_mapped change keeps sequences name)
  where
    by : (b : Bool) → sequence_of (map change sequences) name ≡ option_map change (sequence_of sequences name) → (if b then Some (change sequence) else sequence_of (map change sequences) name) ≡ option_map change (if b then Some sequence else sequence_of sequences name)
    by true more = refl
    by false more = more

-- the counts with another one in the place of the first of a name
abbrev pub put_count : List Count → List ℕ → Count → List Count
put_count [] name put = []
put_count (count ∷ counts) name put = if bytes_eq count.name name then put ∷ counts else count ∷ put_count counts name put

-- a value changes the first count of its name
pub after_put : (counts : List Count) (name : List ℕ) (value : ℤ) → counts_after counts name value ≡ option_map (put_count counts name) (option_and_then (λ count. if_gave count value) (count_in counts name))
after_put [] name value = refl
after_put (count ∷ counts) name value = by (bytes_eq count.name name) (after_put counts name value)
  where
    here : (found : Option Count) → with_first found counts ≡ option_map (λ put. put ∷ counts) found
    here None = refl
    here (Some put) = refl

    there : (found : Option Count) → behind count (option_map (put_count counts name) found) ≡ option_map (λ put. count ∷ put_count counts name put) found
    there None = refl
    there (Some put) = refl

    by : (b : Bool) → counts_after counts name value ≡ option_map (put_count counts name) (option_and_then (λ c. if_gave c value) (count_in counts name))
        → (if b then with_first (if_gave count value) counts else behind count (counts_after counts name value))
        ≡ option_map (λ put. if b then put ∷ counts else count ∷ put_count counts name put) (option_and_then (λ c. if_gave c value) (if b then Some count else count_in counts name))
    by true more = here (if_gave count value)
    by false more = ap (behind count) more ∙ there (option_and_then (λ c. if_gave c value) (count_in counts name))

-- it is found there, and each other one where it was
pub found_put : (counts : List Count) (name : List ℕ) (put : Count) (count : Count) → count_in counts name ≡ Some count → put.name ≡ name → (other : List ℕ)
    → count_in (put_count counts name put) other ≡ (if bytes_eq name other then Some put else count_in counts other)
found_put [] name put count is named other = let none : ⊥ = cc in absurd none
found_put (one ∷ counts) name put count is named other = by (bytes_eq one.name name) refl (λ at. found_put counts name put count at named other) is
  where
    first : (b : Bool) → (if b then Some put else count_in counts other) ≡ (if b then Some put else (if b then Some one else count_in counts other))
    first true = refl
    first false = refl

    second : one.name ≡ name → (if bytes_eq put.name other then Some put else count_in counts other) ≡ (if bytes_eq name other then Some put else (if bytes_eq one.name other then Some one else count_in counts other))
    second same = (λ i. if bytes_eq (named i) other then Some put else count_in counts other) ∙ first (bytes_eq name other) ∙ (λ i. if bytes_eq name other then Some put else (if bytes_eq (sym same i) other then Some one else count_in counts other))

    apart : (b c : Bool) → bytes_eq one.name name ≡ false → bytes_eq one.name other ≡ b → bytes_eq name other ≡ c → (if b then Some one else (if c then Some put else count_in counts other)) ≡ (if c then Some put else (if b then Some one else count_in counts other))
    apart true true not here there = absurd (yes_no (bytes_eq one.name name) (ap (bytes_eq one.name) (names_are name other there) ∙ here) not)
    apart true false not here there = refl
    apart false true not here there = refl
    apart false false not here there = refl

    by : (b : Bool) → bytes_eq one.name name ≡ b → (count_in counts name ≡ Some count → count_in (put_count counts name put) other ≡ (if bytes_eq name other then Some put else count_in counts other))
        → (if b then Some one else count_in counts name) ≡ Some count → count_in (if b then put ∷ counts else one ∷ put_count counts name put) other ≡ (if bytes_eq name other then Some put else (if bytes_eq one.name other then Some one else count_in counts other))
    by true e more at = second (names_are one.name name e)
    by false e more at = (λ i. if bytes_eq one.name other then Some one else more at i) ∙ apart (bytes_eq one.name other) (bytes_eq name other) e refl refl

-- ---- the relation

abbrev pub TracksOne : Option Count → Option SeqState → Type 0
TracksOne None None = Unit {0}
TracksOne None (Some sequence) = ⊥
TracksOne (Some count) None = ⊥
TracksOne (Some count) (Some sequence) = Follows count sequence

-- The walk has the source's numbers: the incarnation, how many identifiers it gave, and each
-- sequence.
pub record Tracks (numbers : Numbers) (opening : Opening) : Type 0 where
  pub opened_as : numbers.incarnation ≡ opening.incarnation
  pub given : numbers.identifiers ≡ opening.identifiers
  pub each : (name : List ℕ) → TracksOne (count_in numbers.counts name) (sequence_of opening.sequences name)

-- ---- one draw

-- one draw is as the walk has it
pub record DrawnOne (now : ℕ) (given : Draw) (kept : List Draw) (numbers : Numbers) (after : Opening) (left : List Draw) : Type 0 where
  pub more : Numbers
  pub is : one_drawn now given (origin_of given kept) numbers ≡ Some more
  pub tracks : Tracks more after
  pub rest : left_by (origin_of given kept) kept ≡ left

tick-self : (now : ℕ) → (now == now) ≡ true
tick-self now = grind (arith, nat_tests)

pub tracked-count : (counts : List Count) (name : List ℕ) (sequence : SeqState) (found : Option Count) → count_in counts name ≡ found → TracksOne found (Some sequence) → (count : Count) × (count_in counts name ≡ Some count) × Follows count sequence
tracked-count counts name sequence None at one = absurd one
tracked-count counts name sequence (Some count) at one = (count, at, one)

module _ (now : ℕ) (given : Draw) (kept : List Draw) (numbers : Numbers) (before after : Opening) (left : List Draw) (tracks : Tracks numbers before) where
  new-origin : first_kept (kind_drawn given) kept ≡ None → origin_of given kept ≡ New
  new-origin none = kept-origin given kept ∙ ap (λ f. origin_by f (without_first (kind_drawn given) kept)) none

  -- a new value of a sequence
  module _ (sequence : SeqState) (none : first_kept (kind_drawn given) kept ≡ None) (there : sequence_of before.sequences sequence.name ≡ Some sequence) (is_next : given ≡ draw.Seq sequence.name sequence.next)
      (incarnation : after.incarnation ≡ before.incarnation) (identifiers : after.identifiers ≡ before.identifiers) (each : (name : List ℕ) → sequence_of after.sequences name ≡ option_map (raise sequence.name) (sequence_of before.sequences name)) (rest : left ≡ kept) where
    by-way : (count : Count) → count_in numbers.counts sequence.name ≡ Some count → Follows count sequence → IsFound count sequence.next sequence.upto (if_gave count sequence.next) → DrawnOne now given kept numbers after left
    by-way count at follows found =
        let put : Count = gave found.way in
        let named : put.name ≡ sequence.name = found.name ∙ count_name numbers.counts sequence.name count at in
        let counts : List Count = put_count numbers.counts sequence.name put in
        let changed_so : counts_after numbers.counts sequence.name sequence.next ≡ Some counts =
        after_put numbers.counts sequence.name sequence.next ∙ ap (λ c. option_map (put_count numbers.counts sequence.name) (option_and_then (λ c. if_gave c sequence.next) c)) at ∙ ap (option_map (put_count numbers.counts sequence.name)) found.is in
        record {
          more = record numbers { counts = put_count numbers.counts sequence.name (gave found.way) };
          is = ap (λ o. one_drawn now given o numbers) (new-origin none) ∙ ap (if_next numbers now) is_next ∙ ap (with_counts numbers) changed_so;
          tracks = record {
            opened_as = tracks.opened_as ∙ sym incarnation;
            given = tracks.given ∙ sym identifiers;
            each = λ name. subst (λ c. TracksOne c (sequence_of after.sequences name)) (sym (found_put numbers.counts sequence.name put count at named name))
                (subst (λ s. TracksOne (if bytes_eq sequence.name name then Some put else count_in numbers.counts name) s) (sym (each name))
                (tracked name (bytes_eq sequence.name name) refl (sequence_of before.sequences name) refl (tracks.each name)));
          };
          rest = ap (λ o. left_by o kept) (new-origin none) ∙ sym rest;
        }
      where
        tracked : (name : List ℕ) (b : Bool) → bytes_eq sequence.name name ≡ b → (found_there : Option SeqState) → sequence_of before.sequences name ≡ found_there → TracksOne (count_in numbers.counts name) found_there
            → TracksOne (if b then Some (gave found.way) else count_in numbers.counts name) (option_map (raise sequence.name) found_there)
        tracked name true e None at_name one =
            let same : sequence_of before.sequences sequence.name ≡ None = ap (sequence_of before.sequences) (names_are sequence.name name e) ∙ at_name in
            let none : ⊥ = (let clash : Some sequence ≡ None = sym there ∙ same in cc) in absurd none
        tracked name true e (Some one) at_name follows_one =
            let same : one ≡ sequence = some_same one sequence (sym at_name ∙ ap (sequence_of before.sequences) (sym (names_are sequence.name name e)) ∙ there) in
            subst (Follows (gave found.way)) (sym (ap (raise sequence.name) same ∙ ap (λ b. if b then raised sequence else sequence) (same_name sequence.name))) (follows-gave found.way sequence found.same_next found.same_upto)
        tracked name false e None at_name one = one
        tracked name false e (Some one) at_name one_tracks =
            let apart : bytes_eq one.name sequence.name ≡ false = not_same (bytes_eq one.name sequence.name) refl in
            subst (TracksOne (count_in numbers.counts name)) (sym (ap (λ b. Some (if b then raised one else one)) apart)) one_tracks
          where
            not_same : (b : Bool) → bytes_eq one.name sequence.name ≡ b → b ≡ false
            not_same false at = refl
            not_same true at = absurd (yes_no (bytes_eq sequence.name name) (ap (λ n. bytes_eq n name) (sym (names_are one.name sequence.name at) ∙ found_name before.sequences name one at_name) ∙ same_name name) e)

    new-value : DrawnOne now given kept numbers after left
    new-value =
        let own = tracked-count numbers.counts sequence.name sequence (count_in numbers.counts sequence.name) refl (subst (TracksOne (count_in numbers.counts sequence.name)) there (tracks.each sequence.name)) in
        by-way own.0 own.1 own.2 (find-way own.0.maybe own.0 own.2.blocks sequence.next sequence.upto own.2.within own.2.next own.2.upto)

  pub drawn-one : Takes kept now before given after left → DrawnOne now given kept numbers after left
  drawn-one (TakesKept found same rest) =
      let origin : origin_of given kept ≡ Kept given (without_first (kind_drawn given) kept) = kept-origin given kept ∙ ap (λ f. origin_by f (without_first (kind_drawn given) kept)) found in
      record {
        more = numbers;
        is = ap (λ o. one_drawn now given o numbers) origin ∙ ap (λ b. if b then Some numbers else None) ((same_draw_decides given given).1 refl);
        tracks = subst (Tracks numbers) (sym same) tracks;
        rest = ap (λ o. left_by o kept) origin ∙ sym rest;
      }
  drawn-one (TakesTick none is_tick same rest) = record {
    more = numbers;
    is = ap (λ o. one_drawn now given o numbers) (new-origin none) ∙ ap (if_next numbers now) is_tick ∙ ap (λ b. if b then Some numbers else None) (tick-self now);
    tracks = subst (Tracks numbers) (sym same) tracks;
    rest = ap (λ o. left_by o kept) (new-origin none) ∙ sym rest;
  }
  drawn-one (TakesName none is_name same rest) = record {
    more = counted numbers;
    is = ap (λ o. one_drawn now given o numbers) (new-origin none) ∙ ap (if_next numbers now) is_name
        ∙ (λ i. if bytes_eq (identifier (sym tracks.opened_as i) (sym tracks.given i + 1)) (next_identifier numbers) then Some (counted numbers) else None) ∙ ap (λ b. if b then Some (counted numbers) else None) (same_name (next_identifier numbers));
    tracks = subst (Tracks (counted numbers)) (sym same) (record { opened_as = tracks.opened_as; given = ap (λ n. n + 1) tracks.given; each = tracks.each });
    rest = ap (λ o. left_by o kept) (new-origin none) ∙ sym rest;
  }
  drawn-one (TakesNext sequence none there is_next incarnation identifiers each rest) = new-value sequence none there is_next incarnation identifiers each rest

-- ---- the draws of a call

pub record DrawnAll (now : ℕ) (draws kept : List Draw) (numbers : Numbers) (after : Opening) : Type 0 where
  pub more : Numbers
  pub is : drawn_by now kept draws numbers ≡ Some more
  pub tracks : Tracks more after

-- The draws of a call are as the walk has them, and the walk goes on as the source does.
pub drawn-all : (now : ℕ) (draws : List Draw) (before : Opening) (kept : List Draw) (after : Opening) (left : List Draw) (numbers : Numbers) → DrawsAll now before kept draws after left → Tracks numbers before → DrawnAll now draws kept numbers after
drawn-all now [] before kept after left numbers drew tracks = record { more = numbers; is = refl; tracks = subst (Tracks numbers) (sym drew.0) tracks }
drawn-all now (given ∷ more) before kept after left numbers drew tracks =
    let one = drawn-one now given kept numbers before drew.0 drew.1 tracks (takes kept given now before drew.0 drew.1 drew.2.0) in
    let later = drawn-all now more drew.0 drew.1 after left one.more drew.2.1 one.tracks in
    record {
      more = later.more;
      is = ap (λ o. and_draws o (λ n. drawn_by now (left_by (origin_of given kept) kept) more n)) one.is ∙ ap (λ l. drawn_by now l more one.more) one.rest ∙ later.is;
      tracks = later.tracks;
    }
