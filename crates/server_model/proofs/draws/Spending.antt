-- The last block of each sequence, as a walk tells it: what a stopped call and one that was
-- answered Blocked leave of it, and where a later opening goes on.
use Rattle.std.specs.Prelude.{◌≡◌, ◌+◌, ◌≤◌, ◌+ℤ◌, ℕ, suc, ℤ, pos, int_le, Bool, true, false, List, [], ◌∷◌, ◌++◌, map, filter, length, Option, Some, None, if◌then◌else◌}
use Rattle.std.specs.Option.{option_map}
use Rattle.std.specs.Str.{bytes_eq}
use Rattle.std.proofs.Common.{refl, sym, ◌∙◌, ap, subst, arith}
use Rattle.std.proofs.lemmas.List.{map-append}
use Rattle.svc_values.specs.declared.draw.Draw.{Draw}
use Rattle.svc_values.specs.declared.draw.DrawKind.{DrawKind}
use Rattle.svc_values.specs.declared.draw.DrawKind.TheVariants as kind
use Rattle.svc_values.specs.declared.call.Call.{Call}
use Rattle.mutable_values.specs.declared.source.SeqState.{SeqState}
use Rattle.mutable_values.specs.declared.source.Drawn.TheVariants as drawn
use Rattle.mutable_values.specs.Sources.{Opening, DrawnFrom as Told, draw_of, sequence_of, reservation_size, reserved_to}
use Rattle.mutable_values.proofs.Offered.{DrawsBy, absent, first, ticked, named, valued, reserves, draws_by, found_name, change_of, sequence_changed}
use Rattle.stmt_meaning.specs.meaning.Asked.{asked_by_call}
use Rattle.stmt_meaning.specs.Asked.{kind_drawn}
use Rattle.server_model.specs.Core.{reopened as seq_reopened, opening_after}
use Rattle.server_model.specs.meaning.NewValues.{Count, Numbers, gave_often, asks_for, stopped_count, stopped_in, unseen_in, reopened, opened, is_of_sequence}
use Rattle.server_model.specs.Draws.{DrawsAll, HaltsAt, BlockLost, BlockStands}
use Rattle.server_model.proofs.draws.CountedBlocks.{often-name, raise_often, SetAside, aside-none, aside-often, aside-next, Follows, Spends, follows-spends, follows-often, spends-stopped, spends-reopened}
use Rattle.server_model.proofs.draws.Takings.{same_name, names_are, some_same, yes_no, told, answers_are, no_value, none_some, reserves_are}
use Rattle.server_model.proofs.draws.Raising.{asks_in, names_in, asks-append, Raises, raises, names}
use Rattle.server_model.proofs.draws.Tracking.{count_in, count_name, count_mapped, sequence_mapped, TracksOne, Tracks}

abbrev pub SpendsOne : Option Count → Option SeqState → Type 0
SpendsOne None None = Unit {0}
SpendsOne None (Some sequence) = ⊥
SpendsOne (Some count) None = ⊥
SpendsOne (Some count) (Some sequence) = Spends count sequence

-- the last blocks of the source are those of the walk
abbrev pub Spent : Numbers → Opening → Type 0
Spent numbers opening = (name : List ℕ) → SpendsOne (count_in numbers.counts name) (sequence_of opening.sequences name)

one-spent : (count : Option Count) (sequence : Option SeqState) → TracksOne count sequence → SpendsOne count sequence
one-spent None None one = tt
one-spent None (Some sequence) one = one
one-spent (Some count) None one = one
one-spent (Some count) (Some sequence) one = follows-spends count sequence one

pub tracks-spent : (numbers : Numbers) (opening : Opening) → Tracks numbers opening → Spent numbers opening
tracks-spent numbers opening tracks name = one-spent (count_in numbers.counts name) (sequence_of opening.sequences name) (tracks.each name)

-- ---- a later opening

one-opened : (count : Option Count) (sequence : Option SeqState) → SpendsOne count sequence → TracksOne (option_map reopened count) (option_map seq_reopened sequence)
one-opened None None one = tt
one-opened None (Some sequence) one = one
one-opened (Some count) None one = one
one-opened (Some count) (Some sequence) one = spends-reopened count sequence one

pub tracks-as : (count to : Option Count) (sequence other : Option SeqState) → to ≡ count → other ≡ sequence → TracksOne count sequence → TracksOne to other
tracks-as count to sequence other same same_sequence one = subst (λ c. TracksOne c other) (sym same) (subst (TracksOne count) (sym same_sequence) one)

spends-as : (count to : Option Count) (sequence other : Option SeqState) → to ≡ count → other ≡ sequence → SpendsOne count sequence → SpendsOne to other
spends-as count to sequence other same same_sequence one = subst (λ c. SpendsOne c other) (sym same) (subst (SpendsOne count) (sym same_sequence) one)

-- a later opening goes on behind the last blocks
pub spent-opened : (numbers : Numbers) (opening : Opening) (incarnation : ℕ) → Spent numbers opening → Tracks (opened numbers incarnation) (opening_after opening incarnation)
spent-opened numbers opening incarnation spent = record {
  opened_as = refl;
  given = refl;
  each = λ name. tracks-as _ _ _ _ (count_mapped reopened (λ c. refl) numbers.counts name) (sequence_mapped seq_reopened (λ s. refl) opening.sequences name)
      (one-opened (count_in numbers.counts name) (sequence_of opening.sequences name) (spent name));
}

one-after : (count : Option Count) (sequence : Option SeqState) → SpendsOne count sequence → SpendsOne count (option_map seq_reopened sequence)
one-after None None one = tt
one-after None (Some sequence) one = one
one-after (Some count) None one = one
one-after (Some count) (Some sequence) one = record { blocks = one.blocks; within = one.within; upto = one.upto }

pub spent-after : (numbers : Numbers) (opening : Opening) (incarnation : ℕ) → Spent numbers opening → Spent numbers (opening_after opening incarnation)
spent-after numbers opening incarnation spent name =
    spends-as _ _ _ _ refl (sequence_mapped seq_reopened (λ s. refl) opening.sequences name) (one-after (count_in numbers.counts name) (sequence_of opening.sequences name) (spent name))

-- ---- a call of which nothing is told

one-unseen : (called : Call) (asked : List DrawKind) (name : List ℕ) → asked ≡ asked_by_call called → (counts : List Count) (count : Option Count) (before after : Option SeqState) → count_in counts name ≡ count → TracksOne count before
    → Raises asked [] name before after → TracksOne (option_map (λ c. gave_often (asks_for called c.name) c) count) after
one-unseen called asked name same counts None None after at one raised_so = subst (TracksOne None) (sym raised_so.is) tt
one-unseen called asked name same counts None (Some sequence) after at one raised_so = absurd one
one-unseen called asked name same counts (Some count) None after at one raised_so = absurd one
one-unseen called asked name same counts (Some count) (Some sequence) after at one raised_so =
    let often : raised_so.often ≡ asks_for called count.name = raised_so.all refl ∙ ap (λ a. asks_in a name) same ∙ ap (asks_for called) (sym (count_name counts name count at)) in
    subst (TracksOne (Some (gave_often (asks_for called count.name) count))) (sym raised_so.is)
    (subst (λ n. Follows (gave_often n count) (raise_often raised_so.often sequence)) often (follows-often raised_so.often count sequence one))

-- A call that drew all that it asks for, and was answered Blocked.
pub unseen-tracks : (called : Call) (now : ℕ) (draws : List Draw) (before after : Opening) (left : List Draw) (numbers : Numbers) → map kind_drawn draws ≡ asked_by_call called → DrawsAll now before [] draws after left → Tracks numbers before
    → Tracks (unseen_in called numbers) after
unseen-tracks called now draws before after left numbers asked drew tracks =
    let named_so = names now draws before after left drew in
    record {
      opened_as = tracks.opened_as ∙ sym named_so.incarnation;
      given = (λ i. tracks.given i + names_in (asked_by_call called)) ∙ ap (λ a. before.identifiers + names_in a) (sym asked) ∙ sym named_so.given;
      each = λ name. tracks-as _ _ _ _ (count_mapped (λ c. gave_often (asks_for called c.name) c) (λ c. often-name (asks_for called c.name) c) numbers.counts name) refl
          (one-unseen called (map kind_drawn draws) name asked numbers.counts (count_in numbers.counts name) (sequence_of before.sequences name) (sequence_of after.sequences name) refl (tracks.each name) (raises now draws before [] after left drew name));
    }

-- ---- a stopped call of which no entry stands

abbrev pub AsideOne : ℕ → Option SeqState → Option SeqState → Type 0
AsideOne asks None None = Unit {0}
AsideOne asks None (Some after) = ⊥
AsideOne asks (Some before) None = ⊥
AsideOne asks (Some before) (Some after) = SetAside asks before after

-- of each sequence at most the blocks for what is asked for were set aside
abbrev pub Aside : List DrawKind → Opening → Opening → Type 0
Aside asked before after = (name : List ℕ) → AsideOne (asks_in asked name) (sequence_of before.sequences name) (sequence_of after.sequences name)

one-same : (asks : ℕ) (sequence : Option SeqState) → AsideOne asks sequence sequence
one-same asks None = tt
one-same asks (Some sequence) = aside-none asks sequence

pub aside-same : (asked : List DrawKind) (before after : Opening) → after ≡ before → Aside asked before after
aside-same asked before after same name = subst (λ (o : Opening). AsideOne (asks_in asked name) (sequence_of before.sequences name) (sequence_of o.sequences name)) (sym same) (one-same (asks_in asked name) (sequence_of before.sequences name))

one-drawn : (asks often : ℕ) (before after : Option SeqState) → often ≤ asks → after ≡ option_map (raise_often often) before → AsideOne asks before after
one-drawn asks often None after few is = subst (AsideOne asks None) (sym is) tt
one-drawn asks often (Some sequence) after few is = subst (AsideOne asks (Some sequence)) (sym is) (aside-often often asks sequence few)

front-few : (asked front unused : List DrawKind) (name : List ℕ) → front ++ unused ≡ asked → asks_in front name ≤ asks_in asked name
front-few asked front unused name is = few (asks_in asked name) (asks_in front name) (asks_in unused name) (ap (λ a. asks_in a name) (sym is) ∙ asks-append front unused name)
  where
    few : (m n k : ℕ) → m ≡ n + k → n ≤ m
    few m n k same = omega arith

-- some of what is asked for was drawn
pub aside-drawn : (asked unused : List DrawKind) (now : ℕ) (draws : List Draw) (before : Opening) (kept : List Draw) (after : Opening) (left : List Draw) → map kind_drawn draws ++ unused ≡ asked → DrawsAll now before kept draws after left → Aside asked before after
aside-drawn asked unused now draws before kept after left front drew name =
    let r = raises now draws before kept after left drew name in
    one-drawn (asks_in asked name) r.often (sequence_of before.sequences name) (sequence_of after.sequences name) (within r.often _ _ r.few (front-few asked (map kind_drawn draws) unused name front)) r.is
  where
    within : (m n k : ℕ) → m ≤ n → n ≤ k → m ≤ k
    within m n k one other = omega arith

-- what is found of the sequence whose block stands
one-halted : (asks often : ℕ) (before after : Option SeqState) (sequence : SeqState) → suc often ≤ asks → option_map (raise_often often) before ≡ Some sequence → int_le sequence.next sequence.upto ≡ false
    → after ≡ Some (record sequence { upto = sequence.upto +ℤ pos 16 }) → AsideOne asks before after
one-halted asks often None after sequence few is past behind = absurd (none_some sequence is)
one-halted asks often (Some first_one) after sequence few is past behind =
    let same : raise_often often first_one ≡ sequence = some_same _ _ is in
    subst (AsideOne asks (Some first_one)) (ap (λ (s : SeqState). Some (record s { upto = s.upto +ℤ pos 16 })) same ∙ sym behind)
    (aside-next often asks first_one few ((λ i. int_le (same i).next (same i).upto) ∙ past))

module _ (asked unused : List DrawKind) (now : ℕ) (draws : List Draw) (next : Draw) (more : List Draw) (before : Opening) (kept : List Draw) (between : Opening) (left : List Draw)
    (front : map kind_drawn (draws ++ next ∷ more) ++ unused ≡ asked) (drew : DrawsAll now before kept draws between left) where
  few-so : (name : List ℕ) → asks_in (map kind_drawn draws) name + asks_in (kind_drawn next ∷ map kind_drawn more) name ≤ asks_in asked name
  few-so name = subst (λ n. n ≤ asks_in asked name) (ap (λ a. asks_in a name) (map-append kind_drawn draws (next ∷ more)) ∙ asks-append (map kind_drawn draws) (kind_drawn next ∷ map kind_drawn more) name)
      (front-few asked (map kind_drawn (draws ++ next ∷ more)) unused name front)

  lost-block : Aside asked before between
  lost-block name =
      let r = raises now draws before kept between left drew name in
      one-drawn (asks_in asked name) r.often (sequence_of before.sequences name) (sequence_of between.sequences name) (within r.often _ _ _ r.few (few-so name)) r.is
    where
      within : (m n k l : ℕ) → m ≤ n → n + k ≤ l → m ≤ l
      within m n k l one other = omega arith

  module _ (sequence : SeqState) (of_name : kind_drawn next ≡ kind.Seq sequence.name) (found : sequence_of between.sequences sequence.name ≡ Some sequence) (past : int_le sequence.next sequence.upto ≡ false) where
    abbrev longer : SeqState → SeqState
    longer s = record s { upto = sequence.upto +ℤ pos 16 }

    own-asks : (name : List ℕ) → bytes_eq sequence.name name ≡ true → suc (asks_in (map kind_drawn draws) name) ≤ asks_in asked name
    own-asks name e =
        let one : asks_in (kind_drawn next ∷ map kind_drawn more) name ≡ suc (asks_in (map kind_drawn more) name) =
        ap (λ k. asks_in (k ∷ map kind_drawn more) name) of_name
        ∙ ap (λ b. length (if b then kind.Seq sequence.name ∷ filter (is_of_sequence name) (map kind_drawn more) else filter (is_of_sequence name) (map kind_drawn more))) e in
        one_up (asks_in (map kind_drawn draws) name) _ (asks_in (map kind_drawn more) name) (asks_in asked name) one (few-so name)
      where
        one_up : (m k n l : ℕ) → k ≡ suc n → m + k ≤ l → suc m ≤ l
        one_up m k n l one few = omega arith

    unchanged : (name : List ℕ) → bytes_eq sequence.name name ≡ false → (there : Option SeqState) → sequence_of between.sequences name ≡ there → option_map (change_of longer sequence.name) there ≡ there
    unchanged name e None at = refl
    unchanged name e (Some one) at = ap (λ b. Some (if b then longer one else one)) (other (bytes_eq one.name sequence.name) refl)
      where
        other : (b : Bool) → bytes_eq one.name sequence.name ≡ b → b ≡ false
        other false is = refl
        other true is = absurd (yes_no (bytes_eq sequence.name name) (ap (λ n. bytes_eq n name) (sym (names_are one.name sequence.name is) ∙ found_name between.sequences name one at) ∙ same_name name) e)

    found-longer : (name : List ℕ) → bytes_eq sequence.name name ≡ true → (there : Option SeqState) → there ≡ Some sequence → option_map (change_of longer sequence.name) there ≡ Some (longer sequence)
    found-longer name e there is = ap (option_map (change_of longer sequence.name)) is ∙ ap (λ b. Some (if b then longer sequence else sequence)) (same_name sequence.name)

    stands-block : Aside asked before (reserved_to between sequence.name (sequence.upto +ℤ pos 16))
    stands-block name = by (bytes_eq sequence.name name) refl
      where
        after-is : sequence_of (reserved_to between sequence.name (sequence.upto +ℤ pos 16)).sequences name ≡ option_map (change_of longer sequence.name) (sequence_of between.sequences name)
        after-is = sequence_changed longer (λ s. refl) sequence.name name between.sequences

        within : (m n k : ℕ) → m ≤ n → suc n ≤ k → suc m ≤ k
        within m n k one other = omega arith

        below : (m n k l : ℕ) → m ≤ n → n + k ≤ l → m ≤ l
        below m n k l one other = omega arith

        by : (b : Bool) → bytes_eq sequence.name name ≡ b → AsideOne (asks_in asked name) (sequence_of before.sequences name) (sequence_of (reserved_to between sequence.name (sequence.upto +ℤ pos 16)).sequences name)
        by true e =
            let r = raises now draws before kept between left drew name in
            let there : sequence_of between.sequences name ≡ Some sequence = ap (sequence_of between.sequences) (sym (names_are sequence.name name e)) ∙ found in
            one-halted (asks_in asked name) r.often (sequence_of before.sequences name) _ sequence (within r.often _ _ r.few (own-asks name e)) (sym r.is ∙ there) past (after-is ∙ found-longer name e (sequence_of between.sequences name) there)
        by false e =
            let r = raises now draws before kept between left drew name in
            one-drawn (asks_in asked name) r.often (sequence_of before.sequences name) _ (below r.often _ _ _ r.few (few-so name)) (after-is ∙ unchanged name e (sequence_of between.sequences name) refl ∙ r.is)

  by-stand : (name : List ℕ) (upto : ℤ) (result : Option Told) → result ≡ told (drawn.Reserve name upto) between left → DrawsBy between left (kind_drawn next) now result → Aside asked before (reserved_to between name upto)
  by-stand name upto result is (absent missing e) = absurd (none_some _ (sym e ∙ is))
  by-stand name upto result is (first one there found e) = absurd (no_value _ _ one (sym (answers_are _ _ _ _ _ _ (sym e ∙ is))))
  by-stand name upto result is (ticked of_clock none e) = absurd (no_value _ _ _ (sym (answers_are _ _ _ _ _ _ (sym e ∙ is))))
  by-stand name upto result is (named of_id none e) = absurd (no_value _ _ _ (sym (answers_are _ _ _ _ _ _ (sym e ∙ is))))
  by-stand name upto result is (valued sequence there of_name none found within e) = absurd (no_value _ _ _ (sym (answers_are _ _ _ _ _ _ (sym e ∙ is))))
  by-stand name upto result is (reserves sequence there of_name none found past e) =
      let both = reserves_are sequence.name name (sequence.upto +ℤ reservation_size) upto (answers_are _ _ _ _ _ _ (sym e ∙ is)) in
      subst (λ n. Aside asked before (reserved_to between n upto)) both.0 (subst (λ u. Aside asked before (reserved_to between sequence.name u)) both.1 (stands-block sequence of_name found past))

  -- and the source stopped at the next one
  pub aside-halted : (opening : Opening) → HaltsAt now left (kind_drawn next) between opening → Aside asked before opening
  aside-halted _ (BlockLost name upto is) = lost-block
  aside-halted _ (BlockStands name upto is) = by-stand name upto (draw_of between left (kind_drawn next) now) is (draws_by between left now (kind_drawn next))

one-stopped : (called : Call) (name : List ℕ) (counts : List Count) (count : Option Count) (before after : Option SeqState) → count_in counts name ≡ count → TracksOne count before → AsideOne (asks_in (asked_by_call called) name) before after
    → SpendsOne (option_map (stopped_count called) count) after
one-stopped called name counts None None None at one aside = tt
one-stopped called name counts None None (Some after) at one aside = absurd aside
one-stopped called name counts None (Some before) after at one aside = absurd one
one-stopped called name counts (Some count) None after at one aside = absurd one
one-stopped called name counts (Some count) (Some before) None at one aside = absurd aside
one-stopped called name counts (Some count) (Some before) (Some after) at one aside =
    spends-stopped (asks_for called count.name) count before after one (subst (λ n. SetAside (asks_in (asked_by_call called) n) before after) (sym (count_name counts name count at)) aside)

-- behind a stopped call the walk has the last blocks
pub stopped-spent : (called : Call) (numbers : Numbers) (before after : Opening) → Tracks numbers before → Aside (asked_by_call called) before after → Spent (stopped_in called numbers) after
stopped-spent called numbers before after tracks aside name =
    spends-as _ _ _ _ (count_mapped (stopped_count called) (λ c. refl) numbers.counts name) refl
    (one-stopped called name numbers.counts (count_in numbers.counts name) (sequence_of before.sequences name) (sequence_of after.sequences name) refl (tracks.each name) (aside name))
