-- What a run draws anew lies in what its source has set aside.
use Rattle.std.specs.Prelude.{◌≡◌, ◌+◌, ◌*◌, ◌+ℤ◌, ℕ, ℤ, pos, int_le, Bool, true, false, is_some, List, [], ◌∷◌, ◌++◌, map, Option, Some, None, if◌then◌else◌}
use Rattle.std.specs.List.{list_all}
use Rattle.std.specs.Option.{option_map}
use Rattle.std.specs.Str.{bytes_eq}
use Rattle.std.proofs.Common.{refl, sym, ◌∙◌, ap, subst, arith, append-nil}
use Rattle.std.proofs.lemmas.Int.{ints}
use Rattle.svc_values.specs.declared.draw.Draw.{Draw}
use Rattle.svc_values.specs.declared.draw.Draw.TheVariants as draw
use Rattle.svc_values.specs.declared.entry.Ltxid.{Ltxid}
use Rattle.svc_values.specs.declared.frame.Down.TheVariants as down
use Rattle.svc_values.specs.meaning.Same.{same_draw}
use Rattle.mutable_values.specs.declared.source.SeqState.{SeqState}
use Rattle.mutable_values.specs.Sources.{Opening, sequence_of}
use Rattle.server_model.specs.meaning.Base.{Base, Sequence}
use Rattle.server_model.specs.meaning.Fresh.{new_in, drawn_anew}
use Rattle.server_model.specs.meaning.Items.{Item, thing_of, asked_of}
use Rattle.server_model.specs.Items.{item_of, items_from}
use Rattle.server_model.specs.Laws.{RunsSetAside}
use Rattle.server_model.specs.meaning.NewValues.{Count, Numbers, Origin, Kept, New, origin_of, left_by, one_drawn, if_next, and_draws, drawn_by, kept_by, if_new, new_among, count_of}
use Rattle.server_model.specs.meaning.Outcomes.{Telling, Silent, Says, Stopped}
use Rattle.server_model.specs.Runs.{Happened, Served, Asked}
use Rattle.server_model.specs.meaning.SetAside.{ends_in, is_set_aside, is_no_less}
use Rattle.server_model.specs.SetAside.{ends_of}
use Rattle.server_model.specs.meaning.Walk.{Walk, walk_of, Deed, Nothing, Meaningless, Ran, or_same, entered, deed_of, after_deed}
use Rattle.server_model.proofs.draws.DrawnFrames.{deed_draws, ran-numbers}
use Rattle.server_model.proofs.draws.DrawnRuns.{ask-numbers, deeds_drawn, runs-draws}
use Rattle.server_model.proofs.walks.Following.{walk_behind, walked}
use Rattle.server_model.proofs.draws.FreshRuns.{start-within}
use Rattle.server_model.proofs.draws.NewAbove.{next-stepped}
use Rattle.server_model.proofs.draws.NewLater.{LaterOne, BelowOne, Below, AllWithin, OnDraws, on-same, on-then, later-self, later-one, below-later}
use Rattle.server_model.proofs.draws.NewOnce.{enters, on-thing}
use Rattle.server_model.proofs.draws.Spending.{SpendsOne, Spent}
use Rattle.server_model.proofs.StoppedHistories.{later-none, and-left, and-right, and-both}
use Rattle.server_model.proofs.draws.Takings.{some_same, none_some}
use Rattle.server_model.proofs.draws.Tracking.{count_in}

-- each of these lies in a block
abbrev AllBelow : Numbers → List Draw → Type 0
AllBelow numbers [] = Unit {0}
AllBelow numbers (one ∷ draws) = Below numbers one × AllBelow numbers draws

-- no sequence gives an earlier value, and none has a block less
abbrev Rises : Numbers → Numbers → Type 0
Rises numbers after = (name : List ℕ) → LaterOne (count_in numbers.counts name) (count_in after.counts name)

all-later : (numbers after : Numbers) (draws : List Draw) → Rises numbers after → AllBelow numbers draws → AllBelow after draws
all-later numbers after [] rises all = tt
all-later numbers after (one ∷ draws) rises all = (below-later numbers after one rises all.0, all-later numbers after draws rises all.1)

all-both : (numbers : Numbers) (draws more : List Draw) → AllBelow numbers draws → AllBelow numbers more → AllBelow numbers (draws ++ more)
all-both numbers [] more all others = others
all-both numbers (one ∷ draws) more all others = (all.0, all-both numbers draws more all.1 others)

-- ---- the draws of a call

-- later numbers of one opening, in whose blocks these lie
record Drew (numbers after : Numbers) (draws : List Draw) : Type 0 where
  on : OnDraws numbers after
  below : AllBelow after draws

drew-by : (now : ℕ) (kept draws : List Draw) (numbers after : Numbers) → drawn_by now kept draws numbers ≡ Some after → AllWithin numbers → Drew numbers after (new_among kept draws)
drew-by now kept [] numbers after is all = subst (λ n. Drew numbers n []) (some_same numbers after is) (record { on = on-same numbers; below = tt })
drew-by now kept (given ∷ more) numbers after is all = by (origin_of given kept) (λ left n drawn within. drew-by now left more n after drawn within) is
  where
    new : (next : Option Numbers) → if_next numbers now given ≡ next → ((n : Numbers) → drawn_by now kept more n ≡ Some after → AllWithin n → Drew n after (new_among kept more)) → and_draws next (λ n. drawn_by now kept more n) ≡ Some after
        → Drew numbers after (given ∷ new_among kept more)
    new None at rest drawn = absurd (none_some after drawn)
    new (Some next) at rest drawn =
        let stepped = next-stepped numbers now given next at in
        let later = rest next drawn (stepped.on.within all) in
        record { on = on-then numbers next after stepped.on later.on; below = (below-later next after given later.on.counts (stepped.below all), later.below) }

    kept_one : (b : Bool) (left : List Draw) → ((n : Numbers) → drawn_by now left more n ≡ Some after → AllWithin n → Drew n after (new_among left more)) → and_draws (if b then Some numbers else None) (λ n. drawn_by now left more n) ≡ Some after
        → Drew numbers after (new_among left more)
    kept_one true left rest drawn = rest numbers drawn all
    kept_one false left rest drawn = absurd (none_some after drawn)

    by : (origin : Origin) → ((left : List Draw) (n : Numbers) → drawn_by now left more n ≡ Some after → AllWithin n → Drew n after (new_among left more)) → and_draws (one_drawn now given origin numbers) (λ n. drawn_by now (left_by origin kept) more n) ≡ Some after
        → Drew numbers after (if_new origin given (new_among (left_by origin kept) more))
    by (Kept first left) rest drawn = kept_one (same_draw given first) left (rest left) drawn
    by New rest drawn = new (if_next numbers now given) refl (rest kept) drawn

deed-drew : (base : Base) (here : Walk) (did : Deed) → deed_draws base here did ≡ true → AllWithin here.numbers → Drew here.numbers (after_deed base here did).numbers (new_in base did)
deed-drew base here Nothing drawn all = record { on = on-same here.numbers; below = tt }
deed-drew base here Meaningless drawn all = record { on = on-same here.numbers; below = tt }
deed-drew base here (Ran performed meant) drawn all = by (drawn_by performed.now (kept_by base performed.replay performed.kept) performed.draws here.numbers) refl drawn
  where
    by : (found : Option Numbers) → drawn_by performed.now (kept_by base performed.replay performed.kept) performed.draws here.numbers ≡ found → is_some found ≡ true
        → Drew here.numbers (after_deed base here (Ran performed meant)).numbers (new_among (kept_by base performed.replay performed.kept) performed.draws)
    by None at is = let none : ⊥ = cc in absurd none
    by (Some next) at is =
        subst (λ n. Drew here.numbers n (new_among (kept_by base performed.replay performed.kept) performed.draws)) (sym (ran-numbers base here performed meant ∙ ap (or_same here.numbers) at))
        (drew-by performed.now (kept_by base performed.replay performed.kept) performed.draws here.numbers next at all)

-- ---- a history

-- the numbers at its end, in whose blocks these lie
record Ends (numbers last : Numbers) (draws : List Draw) : Type 0 where
  rises : Rises numbers last
  below : AllBelow last draws

-- of what was asked from outside nothing is drawn
asked-draws : (base : Base) (walk : Walk) (event : ℕ) (x : Ltxid) (told : Telling) (items : List Item) → drawn_anew base walk (asked_of event x told ∷ items) ≡ drawn_anew base (walk_behind base walk (Asked x told)) items
asked-draws base walk event x Silent items = refl
asked-draws base walk event x Stopped items = refl
asked-draws base walk event x (Says (down.Hello y)) items = refl
asked-draws base walk event x (Says (down.Reply answers draws y)) items = refl
asked-draws base walk event x (Says (down.OutcomeIs committed completed)) items = refl
asked-draws base walk event x (Says (down.OutcomeRefused ahead next)) items = refl
asked-draws base walk event x (Says down.Blocked) items = refl
asked-draws base walk event x (Says (down.Refused cause)) items = refl

history-ends : (base : Base) (walk : Walk) (history : List Happened) (event : ℕ) → AllWithin walk.numbers → deeds_drawn base walk history ≡ true → Ends walk.numbers (walked base walk history).numbers (drawn_anew base walk (items_from event history))
unfolding walked
history-ends base walk [] event all drawn = record { rises = λ name. later-self (count_in walk.numbers.counts name); below = tt }
history-ends base walk (Served session now frame told ∷ history) event all drawn =
    let here : Walk = entered walk (item_of 0 (Served session now frame told)) in
    let did : Deed = deed_of base here (item_of 0 (Served session now frame told)) in
    let mid : Walk = after_deed base here did in
    let next : Walk = walk_behind base walk (Served session now frame told) in
    let last : Numbers = (walked base next history).numbers in
    let enter = enters walk session (thing_of frame told) 0 now all in
    let own = deed-drew base here did (and-left (deed_draws base here did) _ drawn) enter.within in
    let on : OnDraws mid.numbers next.numbers = on-thing mid session did (thing_of frame told) in
    let rest : Ends next.numbers last (drawn_anew base next (items_from (event + 1) history)) =
    history-ends base next history (event + 1) (on.within (own.on.within enter.within)) (and-right (deed_draws base here did) _ drawn) in
    let from_mid : Rises mid.numbers last = λ name. later-one (count_in mid.numbers.counts name) (count_in next.numbers.counts name) (count_in last.counts name) (on.counts name) (rest.rises name) in
    let from_here : Rises here.numbers last = λ name. later-one (count_in here.numbers.counts name) (count_in mid.numbers.counts name) (count_in last.counts name) (own.on.counts name) (from_mid name) in
    record {
      rises = λ name. later-one (count_in walk.numbers.counts name) (count_in here.numbers.counts name) (count_in last.counts name) (enter.later.counts name) (from_here name);
      below = all-both last (new_in base did) (drawn_anew base next (items_from (event + 1) history)) (all-later mid.numbers last (new_in base did) from_mid own.below) rest.below;
    }
history-ends base walk (Asked x told ∷ history) event all drawn =
    let next : Walk = walk_behind base walk (Asked x told) in
    let same : next.numbers ≡ walk.numbers = ask-numbers base walk x told in
    let rest : Ends next.numbers (walked base next history).numbers (drawn_anew base next (items_from (event + 1) history)) = history-ends base next history (event + 1) (subst AllWithin (sym same) all) drawn in
    subst (Ends walk.numbers (walked base next history).numbers) (sym (asked-draws base walk event x told (items_from (event + 1) history)))
    (subst (λ n. Ends n (walked base next history).numbers (drawn_anew base next (items_from (event + 1) history))) same rest)

-- ---- the source at the end

le-blocks : (value a b : ℤ) (blocks : ℕ) → b ≡ a +ℤ pos (16 * blocks) → int_le value a ≡ true → int_le value b ≡ true
le-blocks value a b blocks is p = grind (arith, ints)

-- the ends at the start are those of the counts
ends-counted : (sequences : List Sequence) (name : List ℕ) → ends_in sequences name ≡ option_map (λ count. count.upto) (count_in (map count_of sequences) name)
ends-counted [] name = refl
ends-counted (sequence ∷ sequences) name = by (bytes_eq sequence.name name) (ends-counted sequences name)
  where
    by : (b : Bool) → ends_in sequences name ≡ option_map (λ (count : Count). count.upto) (count_in (map count_of sequences) name)
        → (if b then Some sequence.upto else ends_in sequences name) ≡ option_map (λ (count : Count). count.upto) (if b then Some (count_of sequence) else count_in (map count_of sequences) name)
    by true more = refl
    by false more = more

module _ (last : Numbers) (opening : Opening) (spent : Spent last opening) where
  one-aside : (one : Draw) → Below last one → is_set_aside (ends_of opening) one ≡ true
  one-aside (draw.Clock tick) below = refl
  one-aside (draw.Id id) below = refl
  one-aside (draw.Seq name value) below = by (count_in last.counts name) (sequence_of opening.sequences name) (spent name) below
    where
      by : (count : Option Count) (sequence : Option SeqState) → SpendsOne count sequence → BelowOne count value → is_set_aside (λ asked. option_map (λ (s : SeqState). s.upto) sequence) (draw.Seq name value) ≡ true
      by None sequence spends below = absurd below
      by (Some count) None spends below = absurd spends
      by (Some count) (Some sequence) spends below = le-blocks value count.upto sequence.upto spends.blocks spends.upto below

  all-aside : (draws : List Draw) → AllBelow last draws → list_all (is_set_aside (ends_of opening)) draws ≡ true
  all-aside [] all = refl
  all-aside (one ∷ draws) all = and-both (is_set_aside (ends_of opening) one) (list_all (is_set_aside (ends_of opening)) draws) (one-aside one all.0) (all-aside draws all.1)

  module _ (before : List Sequence) (rises : (name : List ℕ) → LaterOne (count_in (map count_of before) name) (count_in last.counts name)) where
    no-less : (name : List ℕ) → is_no_less (ends_in before name) (ends_of opening name) ≡ true
    no-less name = ap (λ e. is_no_less e (ends_of opening name)) (ends-counted before name) ∙ by (count_in (map count_of before) name) (count_in last.counts name) (sequence_of opening.sequences name) (rises name) (spent name)
      where
        by : (first count : Option Count) (sequence : Option SeqState) → LaterOne first count → SpendsOne count sequence → is_no_less (option_map (λ (c : Count). c.upto) first) (option_map (λ (s : SeqState). s.upto) sequence) ≡ true
        by None count sequence later spends = refl
        by (Some first) None sequence later spends = absurd later
        by (Some first) (Some count) None later spends = absurd spends
        by (Some first) (Some count) (Some sequence) later spends = le-blocks first.upto count.upto sequence.upto spends.blocks spends.upto later.1

    none-less : (sequences : List Sequence) → list_all (λ (sequence : Sequence). is_no_less (ends_in before sequence.name) (ends_of opening sequence.name)) sequences ≡ true
    none-less [] = refl
    none-less (sequence ∷ sequences) = and-both (is_no_less (ends_in before sequence.name) (ends_of opening sequence.name)) _ (no-less sequence.name) (none-less sequences)

pub runs_set_aside : RunsSetAside
runs_set_aside base history server sound runs stops =
    let start : Walk = walk_of base server.core.entries in
    let run = runs-draws base history server sound runs stops [] server.core.entries (later-none history) (sym (append-nil server.core.entries)) in
    let last : Numbers = (walked base start history).numbers in
    let ends : Ends start.numbers last (drawn_anew base start (items_from 0 history)) = history-ends base start history 0 (λ name. start-within base.sequences name) run.right in
    record { drawn = all-aside last server.core.opening run.keeps.spent (drawn_anew base start (items_from 0 history)) ends.below; kept = none-less last server.core.opening run.keeps.spent base.sequences ends.rises base.sequences }
