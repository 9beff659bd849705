-- Which values are drawn anew, told from what was served alone.
use Rattle.std.specs.Prelude.{ℕ, zero, suc, ◌+◌, ◌==◌, ℤ, pos, ◌+ℤ◌, int_le, Bool, true, false, List, [], ◌∷◌, map, filter, length, Option, Some, None, if◌then◌else◌}
use Rattle.std.specs.List.{list_any}
use Rattle.std.specs.Ordering.{int_eq}
use Rattle.std.specs.Str.{bytes_eq}
use Rattle.svc_values.specs.declared.draw.Draw.{Draw}
use Rattle.svc_values.specs.declared.draw.Draw.TheVariants as draw
use Rattle.svc_values.specs.declared.draw.DrawKind.{DrawKind}
use Rattle.svc_values.specs.declared.draw.DrawKind.TheVariants as kind
use Rattle.svc_values.specs.declared.call.Call.{Call}
use Rattle.stmt_meaning.specs.meaning.Asked.{asked_by_call}
use Rattle.mutable_values.specs.meaning.Sources.{identifier}
use Rattle.mutable_values.specs.meaning.Granting.{is_granted}
use Rattle.server_model.specs.meaning.Base.{Sequence, Base}
use Rattle.server_model.specs.meaning.Core.{sequence_at}
use Rattle.svc_values.specs.meaning.Same.{same_draw}

-- ---- kept values

-- The service keeps the value for a replay.
abbrev pub grants : Base → Draw → Bool
grants base one = is_granted base.grants (map sequence_at base.sequences) one

abbrev pub kept_by : Base → Bool → List Draw → List Draw
kept_by base replay kept = if replay then filter (grants base) kept else []

-- of one kind, and for sequences of one name
abbrev pub of_one_kind : Draw → Draw → Bool
of_one_kind (draw.Seq a m) (draw.Seq b n) = bytes_eq a b
of_one_kind (draw.Clock a) (draw.Clock b) = true
of_one_kind (draw.Id a) (draw.Id b) = true
of_one_kind _ _ = false

-- a draw beside kept ones: the first of them of its kind, or none of its kind and it is new; and
-- the kept ones that are left
pub data Origin : Type 0 where
  Kept : (first : Draw) (left : List Draw) → Origin
  New : Origin

abbrev pub and_before : Draw → Origin → Origin
and_before one New = New
and_before one (Kept first left) = Kept first (one ∷ left)

abbrev pub origin_of : Draw → List Draw → Origin
origin_of given [] = New
origin_of given (one ∷ kept) = if of_one_kind one given then Kept one kept else
    and_before one (origin_of given kept)

-- ---- numbers that are given anew

-- A sequence, as far as what was served tells it. Where a stop may have left blocks of which no
-- value was seen, `next` and `upto` are those without them, and both may be 16 further for each of
-- `maybe`.
pub record Count : Type 0 where
  pub name : List ℕ
  pub next : ℤ
  pub upto : ℤ
  pub maybe : ℕ

-- one opening: how many identifiers were given in it, and its sequences
pub record Numbers : Type 0 where
  pub incarnation : ℕ
  pub identifiers : ℕ
  pub counts : List Count

abbrev pub count_of : Sequence → Count
count_of sequence = record {
  name = sequence.name;
  next = sequence.upto +ℤ pos 1;
  upto = sequence.upto;
  maybe = 0;
}

abbrev pub numbers_of : Base → Numbers
numbers_of base = record {
  incarnation = base.incarnation;
  identifiers = 0;
  counts = map count_of base.sequences;
}

-- a later opening goes on behind the last block, and counts identifiers from 1
abbrev pub reopened : Count → Count
reopened count = record count { next = count.upto +ℤ pos 1 }

abbrev pub opened : Numbers → ℕ → Numbers
opened numbers incarnation = record {
  incarnation = incarnation;
  identifiers = 0;
  counts = map reopened numbers.counts;
}

-- the block that a value stands in: the last one, or another one that is set aside
abbrev pub upto_with : ℤ → ℤ → ℤ
upto_with value upto = if int_le value upto then upto else upto +ℤ pos 16

-- the sequence gave its next value
abbrev pub gave : Count → Count
gave count = record count { next = count.next +ℤ pos 1; upto = upto_with count.next count.upto }

-- with the first of the blocks that may stand
abbrev pub shifted : Count → ℕ → Count
shifted count maybe = record count {
  next = count.next +ℤ pos 16;
  upto =
      count.upto +ℤ pos 16;
  maybe = maybe;
}

abbrev pub settled : Count → Count
settled count = record count { maybe = 0 }

-- the ways in which the blocks that may stand do so
abbrev pub ways_from : ℕ → Count → List Count
ways_from zero count = settled count ∷ []
ways_from (suc maybe) count = settled count ∷ ways_from maybe (shifted count maybe)

abbrev pub ways : Count → List Count
ways count = ways_from count.maybe count

abbrev pub gave_first : ℤ → List Count → Option Count
gave_first value [] = None
gave_first value (count ∷ counts) = if int_eq value count.next then Some (gave count) else
    gave_first value counts

-- the sequence after a value that it may have given, and none after another
abbrev pub if_gave : Count → ℤ → Option Count
if_gave count value = gave_first value (ways count)

abbrev pub with_first : Option Count → List Count → Option (List Count)
with_first None counts = None
with_first (Some count) counts = Some (count ∷ counts)

abbrev pub behind : Count → Option (List Count) → Option (List Count)
behind count None = None
behind count (Some counts) = Some (count ∷ counts)

abbrev pub counts_after : List Count → List ℕ → ℤ → Option (List Count)
counts_after [] name value = None
counts_after (count ∷ counts) name value =
    if bytes_eq count.name name then with_first (if_gave count value) counts else
    behind count (counts_after counts name value)

abbrev pub with_counts : Numbers → Option (List Count) → Option Numbers
with_counts numbers None = None
with_counts numbers (Some counts) = Some (record numbers { counts = counts })

abbrev pub next_identifier : Numbers → List ℕ
next_identifier numbers = identifier numbers.incarnation (numbers.identifiers + 1)

abbrev pub counted : Numbers → Numbers
counted numbers = record numbers { identifiers = numbers.identifiers + 1 }

-- the numbers after a new value, where it is the next one: of a sequence the one after the last, or
-- the first behind a block at an opening; of the clock the tick; of identifiers the one after the
-- last
abbrev pub if_next : Numbers → ℕ → Draw → Option Numbers
if_next numbers now (draw.Seq name value) =
    with_counts numbers (counts_after numbers.counts name value)
if_next numbers now (draw.Clock tick) = if tick == now then Some numbers else None
if_next numbers now (draw.Id id) = if bytes_eq id (next_identifier numbers) then
    Some (counted numbers) else None

abbrev pub and_draws : Option Numbers → (Numbers → Option Numbers) → Option Numbers
and_draws None more = None
and_draws (Some numbers) more = more numbers

-- the kept draws that are left behind this one
abbrev pub left_by : Origin → List Draw → List Draw
left_by (Kept first left) kept = left
left_by New kept = kept

abbrev pub one_drawn : ℕ → Draw → Origin → Numbers → Option Numbers
one_drawn now given (Kept first left) numbers = if same_draw given first then Some numbers else None
one_drawn now given New numbers = if_next numbers now given

-- The numbers after the draws of a call, where each is as it has to be: the first kept one left of
-- its kind, and a new value where none is left.
abbrev pub drawn_by : ℕ → List Draw → List Draw → Numbers → Option Numbers
drawn_by now kept [] numbers = Some numbers
drawn_by now kept (given ∷ more) numbers =
    let origin = origin_of given kept in and_draws (one_drawn now given origin numbers)
    (λ after. drawn_by now (left_by origin kept) more after)

abbrev pub if_new : Origin → Draw → List Draw → List Draw
if_new (Kept first left) given more = more
if_new New given more = given ∷ more

-- those of the draws that are new
abbrev pub new_among : List Draw → List Draw → List Draw
new_among kept [] = []
new_among kept (given ∷ more) = let origin =
    origin_of given kept in if_new origin given (new_among (left_by origin kept) more)

-- ---- values that are drawn and not told

abbrev pub is_of_sequence : List ℕ → DrawKind → Bool
is_of_sequence name (kind.Seq other) = bytes_eq other name
is_of_sequence name kind.Clock = false
is_of_sequence name kind.Id = false

-- how often a call asks for a value of the sequence, at most
abbrev pub asks_for : Call → List ℕ → ℕ
asks_for called name = length (filter (is_of_sequence name) (asked_by_call called))

-- how many blocks are set aside for so many values
abbrev pub blocks_for : ℕ → ℤ → ℤ → ℕ
blocks_for zero next upto = 0
blocks_for (suc more) next upto = if int_le next upto then blocks_for more (next +ℤ pos 1) upto else
    blocks_for more (next +ℤ pos 1) (upto +ℤ pos 16) + 1

-- A call that was stopped may have left the blocks that its draws need.
abbrev pub stopped_count : Call → Count → Count
stopped_count called count = record count {
  maybe =
      count.maybe + blocks_for (asks_for called count.name) count.next count.upto;
}

abbrev pub stopped_in : Call → Numbers → Numbers
stopped_in called numbers = record numbers { counts = map (stopped_count called) numbers.counts }

abbrev pub gave_often : ℕ → Count → Count
gave_often zero count = count
gave_often (suc more) count = gave_often more (gave count)

abbrev pub is_identifier : DrawKind → Bool
is_identifier (kind.Seq name) = false
is_identifier kind.Clock = false
is_identifier kind.Id = true

-- A call that drew all that it asks for, told to nobody.
abbrev pub unseen_in : Call → Numbers → Numbers
unseen_in called numbers = record numbers {
  identifiers = numbers.identifiers + length (filter is_identifier (asked_by_call called));
  counts = map (λ count. gave_often (asks_for called count.name) count) numbers.counts;
}

-- what a draw may give, each with the numbers after it
abbrev pub with_way : Numbers → List ℕ → Count → Numbers
with_way numbers name way = record numbers {
  counts =
      map (λ count. if bytes_eq count.name name then gave way else count) numbers.counts;
}

abbrev pub given_ways : Numbers → List ℕ → List Count → List (Draw × Numbers)
given_ways numbers name [] = []
given_ways numbers name (count ∷ counts) =
    if bytes_eq count.name name then map (λ way. (
      draw.Seq name way.next,
      with_way numbers name way,
    )) (ways count) else given_ways numbers name counts

abbrev pub may_give : Numbers → ℕ → DrawKind → List (Draw × Numbers)
may_give numbers now (kind.Seq name) = given_ways numbers name numbers.counts
may_give numbers now kind.Clock = (draw.Clock now, numbers) ∷ []
may_give numbers now kind.Id = (draw.Id (next_identifier numbers), counted numbers) ∷ []

-- with some new values for what is asked the test is met
abbrev pub meets_with : (List Draw → Bool) → ℕ → List DrawKind → Numbers → Bool
meets_with test now [] numbers = test []
meets_with test now (asked ∷ more) numbers =
    list_any (λ given. meets_with (λ draws. test (given.0 ∷ draws)) now more given.1)
    (may_give numbers now asked)
