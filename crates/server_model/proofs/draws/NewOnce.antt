-- What items draw anew stands once, where each draw is as the walk has it.
use Rattle.std.specs.Prelude.{◌≡◌, ◌<◌, ◌≤◌, ◌^◌, ◌+◌, ◌&&◌, ◌||◌, nat_lt, ℕ, Bool, true, false, not, is_some, List, [], ◌∷◌, ◌++◌, filter, length, Option, Some, None, if◌then◌else◌}
use Rattle.std.specs.List.{list_any}
use Rattle.std.proofs.Common.{refl, sym, ◌∙◌, ap, subst, arith}
use Rattle.std.proofs.lemmas.Bool.Decides.{nat_tests}
use Rattle.svc_values.specs.declared.draw.Draw.{Draw}
use Rattle.svc_values.specs.declared.call.Call.{Call}
use Rattle.svc_values.specs.declared.entry.Ltxid.{Ltxid}
use Rattle.svc_values.specs.declared.entry.SessionId.{SessionId}
use Rattle.svc_values.specs.meaning.Same.{same_draw}
use Rattle.stmt_meaning.specs.meaning.Asked.{asked_by_call}
use Rattle.server_model.specs.meaning.Base.{Base}
use Rattle.server_model.specs.meaning.Items.{Outcome, Uncommitted, Committed, ServerAhead, ClientAhead, Forgotten, Thing, Connected, Began, Called, MetBlock, TellsOutcome, EndedRequest, Closed, Refused, CallStopped, OutcomeStopped, Item, Did, AskTold, AskStopped}
use Rattle.server_model.specs.meaning.NewValues.{Numbers, Origin, Kept, New, origin_of, left_by, one_drawn, if_next, and_draws, drawn_by, kept_by, if_new, new_among, is_identifier, asks_for, gave_often, stopped_count, opened}
use Rattle.server_model.specs.meaning.Walk.{Walk, Deed, Nothing, Meaningless, Ran, or_same, after_deed, after_thing, if_nothing, if_uncommitted, deed_of, entered, after}
use Rattle.server_model.specs.meaning.Fresh.{is_single, stands_again, none_twice, new_in, drawn_anew}
use Rattle.server_model.specs.Fresh.{is_spelled, have_room}
use Rattle.server_model.proofs.draws.CountedBlocks.{often-name}
use Rattle.server_model.proofs.draws.Takings.{some_same, none_some}
use Rattle.server_model.proofs.StoppedHistories.{and-left, and-right, and-both}
use Rattle.server_model.proofs.draws.DrawnFrames.{deed_draws, ran-numbers}
use Rattle.server_model.proofs.draws.DrawnRuns.{items_drawn}
use Rattle.server_model.proofs.draws.NewAbove.{Stepped, next-stepped, on-mapped, often-later, often-within, opened-later, opened-within}
use Rattle.server_model.proofs.draws.NewLater.{le-self, Above, Later, AllWithin, OnDraws, on-later, on-same, on-then, above-earlier}

-- each of these may still be given
abbrev pub AllAbove : Numbers → List Draw → Type 0
AllAbove numbers [] = Unit {0}
AllAbove numbers (one ∷ draws) = Above numbers one × AllAbove numbers draws

all-earlier : (numbers after : Numbers) (draws : List Draw) → Later numbers after → AllAbove after draws → AllAbove numbers draws
all-earlier numbers after [] later all = tt
all-earlier numbers after (one ∷ draws) later all = (above-earlier numbers after one later all.0, all-earlier numbers after draws later all.1)

-- none of these stands twice, and all are still to come
pub record Once (numbers : Numbers) (draws : List Draw) : Type 0 where
  pub above : AllAbove numbers draws
  pub once : none_twice draws ≡ true

-- the same behind what drew some of them
record Apart (numbers after : Numbers) (draws : List Draw) : Type 0 where
  on : OnDraws numbers after
  stand : Once numbers draws

either : (s a b : Bool) → (s && a) ≡ false → (s && b) ≡ false → (s && (a || b)) ≡ false
either false a b one other = refl
either true true b one other = one
either true false b one other = other

and-none : (s : Bool) → (s && false) ≡ false
and-none true = refl
and-none false = refl

none-again : (given : Draw) (after : Numbers) (draws : List Draw) → ((other : Draw) → Above after other → (is_single given && same_draw given other) ≡ false) → AllAbove after draws → stands_again given draws ≡ false
none-again given after [] apart all = and-none (is_single given)
none-again given after (one ∷ draws) apart all = either (is_single given) (same_draw given one) (list_any (same_draw given) draws) (apart one all.0) (none-again given after draws apart all.1)

-- ---- the draws of a call

from-below : (m n : ℕ) → m ≤ n → n < 2 ^ 64 → m < 2 ^ 64
from-below m n within few = omega arith

module _ (now : ℕ) (after : Numbers) (small : after.incarnation < 2 ^ 64) (few : after.identifiers < 2 ^ 64) where
  one-apart : (numbers next : Numbers) (given : Draw) (draws : List Draw) → Stepped numbers given next → Apart next after draws → Apart numbers after (given ∷ draws)
  one-apart numbers next given draws stepped more =
      let small_next : next.incarnation < 2 ^ 64 = subst (λ n. n < 2 ^ 64) more.on.opened_as small in
      let few_next : next.identifiers < 2 ^ 64 = from-below next.identifiers after.identifiers more.on.given few in
      record {
        on = on-then numbers next after stepped.on more.on;
        stand = record {
          above = (stepped.above small_next few_next, all-earlier numbers next draws (on-later numbers next stepped.on) more.stand.above);
          once = and-both _ _ (ap not (none-again given next draws (stepped.apart small_next few_next) more.stand.above)) more.stand.once;
        };
      }

  drawn-apart : (kept draws : List Draw) (numbers : Numbers) (later : List Draw) → drawn_by now kept draws numbers ≡ Some after → Once after later → Apart numbers after (new_among kept draws ++ later)
  drawn-apart kept [] numbers later is stand = subst (λ n. Apart n after later) (sym (some_same numbers after is)) (record { on = on-same after; stand = stand })
  drawn-apart kept (given ∷ more) numbers later is stand = by (origin_of given kept) (λ left n drawn. drawn-apart left more n later drawn stand) is
    where
      new : (next : Option Numbers) → if_next numbers now given ≡ next → ((n : Numbers) → drawn_by now kept more n ≡ Some after → Apart n after (new_among kept more ++ later)) → and_draws next (λ n. drawn_by now kept more n) ≡ Some after
          → Apart numbers after (given ∷ (new_among kept more ++ later))
      new None at rest drawn = absurd (none_some after drawn)
      new (Some next) at rest drawn = one-apart numbers next given (new_among kept more ++ later) (next-stepped numbers now given next at) (rest next drawn)

      kept_one : (b : Bool) (left : List Draw) → ((n : Numbers) → drawn_by now left more n ≡ Some after → Apart n after (new_among left more ++ later)) → and_draws (if b then Some numbers else None) (λ n. drawn_by now left more n) ≡ Some after
          → Apart numbers after (new_among left more ++ later)
      kept_one true left rest drawn = rest numbers drawn
      kept_one false left rest drawn = absurd (none_some after drawn)

      by : (origin : Origin) → ((left : List Draw) (n : Numbers) → drawn_by now left more n ≡ Some after → Apart n after (new_among left more ++ later)) → and_draws (one_drawn now given origin numbers) (λ n. drawn_by now (left_by origin kept) more n) ≡ Some after
          → Apart numbers after (if_new origin given (new_among (left_by origin kept) more) ++ later)
      by (Kept first left) rest drawn = kept_one (same_draw given first) left (rest left) drawn
      by New rest drawn = new (if_next numbers now given) refl (rest kept) drawn

drawn-within : (now : ℕ) (kept draws : List Draw) (numbers after : Numbers) → drawn_by now kept draws numbers ≡ Some after → AllWithin numbers → AllWithin after
drawn-within now kept [] numbers after is all = subst AllWithin (some_same numbers after is) all
drawn-within now kept (given ∷ more) numbers after is all = by (origin_of given kept) (λ left n drawn within. drawn-within now left more n after drawn within) is
  where
    new : (next : Option Numbers) → if_next numbers now given ≡ next → ((n : Numbers) → drawn_by now kept more n ≡ Some after → AllWithin n → AllWithin after) → and_draws next (λ n. drawn_by now kept more n) ≡ Some after → AllWithin after
    new None at rest drawn = absurd (none_some after drawn)
    new (Some next) at rest drawn = rest next drawn ((next-stepped numbers now given next at).on.within all)

    kept_one : (b : Bool) (left : List Draw) → ((n : Numbers) → drawn_by now left more n ≡ Some after → AllWithin n → AllWithin after) → and_draws (if b then Some numbers else None) (λ n. drawn_by now left more n) ≡ Some after → AllWithin after
    kept_one true left rest drawn = rest numbers drawn all
    kept_one false left rest drawn = absurd (none_some after drawn)

    by : (origin : Origin) → ((left : List Draw) (n : Numbers) → drawn_by now left more n ≡ Some after → AllWithin n → AllWithin after) → and_draws (one_drawn now given origin numbers) (λ n. drawn_by now (left_by origin kept) more n) ≡ Some after → AllWithin after
    by (Kept first left) rest drawn = kept_one (same_draw given first) left (rest left) drawn
    by New rest drawn = new (if_next numbers now given) refl (rest kept) drawn

-- ---- an item

is-spelled : (numbers : Numbers) → is_spelled numbers ≡ true → (numbers.incarnation < 2 ^ 64) × (numbers.identifiers < 2 ^ 64)
is-spelled numbers is = (below numbers.incarnation (and-left (nat_lt numbers.incarnation (2 ^ 64)) _ is), below numbers.identifiers (and-right (nat_lt numbers.incarnation (2 ^ 64)) _ is))
  where
    below : (n : ℕ) → nat_lt n (2 ^ 64) ≡ true → n < 2 ^ 64
    below n e = grind (arith, nat_tests)

more-given : (m n : ℕ) → m ≤ m + n
more-given m n = omega arith

on-nothing : (did : Deed) (walk : Walk) (called : Call) → OnDraws walk.numbers (if_nothing did walk called).numbers
on-nothing Nothing walk called = on-mapped walk.numbers (stopped_count called) walk.numbers.identifiers (λ c. refl) (λ c. (le-self c.next, le-self c.upto)) (λ c within. within) (omega arith)
on-nothing Meaningless walk called = on-same walk.numbers
on-nothing (Ran performed meant) walk called = on-same walk.numbers

on-told : (walk : Walk) (x : Ltxid) (outcome : Outcome) → OnDraws walk.numbers (if_uncommitted walk x outcome).numbers
on-told walk x Uncommitted = on-same walk.numbers
on-told walk x (Committed completed) = on-same walk.numbers
on-told walk x (ServerAhead next) = on-same walk.numbers
on-told walk x (ClientAhead next) = on-same walk.numbers
on-told walk x (Forgotten horizon) = on-same walk.numbers

pub on-thing : (walk : Walk) (session : SessionId) (did : Deed) (thing : Thing) → OnDraws walk.numbers (after_thing walk session did thing).numbers
on-thing walk session did Connected = on-same walk.numbers
on-thing walk session did (Began settings) = on-same walk.numbers
on-thing walk session did (Called replay kept called answers draws) = on-same walk.numbers
on-thing walk session did (MetBlock replay called) =
    on-mapped walk.numbers (λ c. gave_often (asks_for called c.name) c) (walk.numbers.identifiers + length (filter is_identifier (asked_by_call called)))
    (λ c. often-name (asks_for called c.name) c) (λ c. often-later (asks_for called c.name) c) (λ c within. often-within (asks_for called c.name) c within) (more-given walk.numbers.identifiers (length (filter is_identifier (asked_by_call called))))
on-thing walk session did (TellsOutcome x outcome) = on-told walk x outcome
on-thing walk session did EndedRequest = on-same walk.numbers
on-thing walk session did Closed = on-same walk.numbers
on-thing walk session did Refused = on-same walk.numbers
on-thing walk session did (CallStopped replay called) = on-nothing did walk called
on-thing walk session did (OutcomeStopped x) = on-same walk.numbers

-- what a deed drew anew, before what comes later
deed-apart : (base : Base) (here : Walk) (did : Deed) (later : List Draw) → deed_draws base here did ≡ true → (after_deed base here did).numbers.incarnation < 2 ^ 64 → (after_deed base here did).numbers.identifiers < 2 ^ 64
    → Once (after_deed base here did).numbers later → Apart here.numbers (after_deed base here did).numbers (new_in base did ++ later)
deed-apart base here Nothing later drawn small few stand = record { on = on-same here.numbers; stand = stand }
deed-apart base here Meaningless later drawn small few stand = record { on = on-same here.numbers; stand = stand }
deed-apart base here (Ran performed meant) later drawn small few stand =
    by (drawn_by performed.now (kept_by base performed.replay performed.kept) performed.draws here.numbers) refl drawn
  where
    by : (found : Option Numbers) → drawn_by performed.now (kept_by base performed.replay performed.kept) performed.draws here.numbers ≡ found → is_some found ≡ true
        → Apart here.numbers (after_deed base here (Ran performed meant)).numbers (new_among (kept_by base performed.replay performed.kept) performed.draws ++ later)
    by None at is = let none : ⊥ = cc in absurd none
    by (Some next) at is =
        let same : (after_deed base here (Ran performed meant)).numbers ≡ next = ran-numbers base here performed meant ∙ ap (or_same here.numbers) at in
        drawn-apart performed.now (after_deed base here (Ran performed meant)).numbers small few (kept_by base performed.replay performed.kept) performed.draws here.numbers later (at ∙ ap Some (sym same)) stand

-- a sequence that gives its next value stays within its blocks
deed-within : (base : Base) (here : Walk) (did : Deed) → deed_draws base here did ≡ true → AllWithin here.numbers → AllWithin (after_deed base here did).numbers
deed-within base here Nothing drawn all = all
deed-within base here Meaningless drawn all = all
deed-within base here (Ran performed meant) drawn all = by (drawn_by performed.now (kept_by base performed.replay performed.kept) performed.draws here.numbers) refl drawn
  where
    by : (found : Option Numbers) → drawn_by performed.now (kept_by base performed.replay performed.kept) performed.draws here.numbers ≡ found → is_some found ≡ true → AllWithin (after_deed base here (Ran performed meant)).numbers
    by None at is = let none : ⊥ = cc in absurd none
    by (Some next) at is = subst AllWithin (sym (ran-numbers base here performed meant ∙ ap (or_same here.numbers) at)) (drawn-within performed.now (kept_by base performed.replay performed.kept) performed.draws here.numbers next at all)

-- numbers at the next item
pub record Enters (numbers here : Numbers) : Type 0 where
  pub later : Later numbers here
  pub within : AllWithin here

pub enters : (walk : Walk) (session : SessionId) (thing : Thing) (event now : ℕ) → AllWithin walk.numbers → Enters walk.numbers (entered walk (Did event now session thing)).numbers
enters walk session thing event now all = by (nat_lt walk.numbers.incarnation session.incarnation) refl
  where
    below : (m n : ℕ) → nat_lt m n ≡ true → m < n
    below m n e = grind (arith, nat_tests)

    by : (b : Bool) → nat_lt walk.numbers.incarnation session.incarnation ≡ b → Enters walk.numbers (if b then record walk { numbers = opened walk.numbers session.incarnation; is_over = false } else walk).numbers
    by true e = record { later = opened-later walk.numbers session.incarnation all (below walk.numbers.incarnation session.incarnation e); within = opened-within walk.numbers session.incarnation }
    by false e = record { later = on-later walk.numbers walk.numbers (on-same walk.numbers); within = all }

room-here : (base : Base) (walk : Walk) (items : List Item) → have_room base walk items ≡ true → is_spelled walk.numbers ≡ true
room-here base walk [] room = room
room-here base walk (item ∷ items) room = and-left (is_spelled walk.numbers) _ room

-- an item and what comes behind it
item-once : (base : Base) (walk here mid behind : Numbers) (draws later : List Draw) → Enters walk here → OnDraws mid behind → is_spelled behind ≡ true → Once behind later
    → (mid.incarnation < 2 ^ 64 → mid.identifiers < 2 ^ 64 → Once mid later → Apart here mid (draws ++ later)) → Once walk (draws ++ later)
item-once base walk here mid behind draws later enter on spelled stand deed =
    let bounds = is-spelled behind spelled in
    let own = deed (subst (λ n. n < 2 ^ 64) on.opened_as bounds.0) (from-below mid.identifiers behind.identifiers on.given bounds.1) (record { above = all-earlier mid behind later (on-later mid behind on) stand.above; once = stand.once }) in
    record { above = all-earlier walk here (draws ++ later) enter.later own.stand.above; once = own.stand.once }

-- What items draw anew stands once.
pub items-once : (base : Base) (walk : Walk) (items : List Item) → AllWithin walk.numbers → items_drawn base walk items ≡ true → have_room base walk items ≡ true → Once walk.numbers (drawn_anew base walk items)
items-once base walk [] all drawn room = record { above = tt; once = refl }
items-once base walk (AskTold event x outcome ∷ items) all drawn room =
    let on = on-told walk x outcome in
    let more = items-once base (if_uncommitted walk x outcome) items (on.within all) drawn (and-right (is_spelled walk.numbers) _ room) in
    record { above = all-earlier walk.numbers _ _ (on-later walk.numbers _ on) more.above; once = more.once }
items-once base walk (AskStopped event x ∷ items) all drawn room =
    let more = items-once base (record walk { perhaps = x ∷ walk.perhaps }) items all drawn (and-right (is_spelled walk.numbers) _ room) in
    record { above = more.above; once = more.once }
items-once base walk (Did event now session thing ∷ items) all drawn room =
    let here : Walk = entered walk (Did event now session thing) in
    let did : Deed = deed_of base here (Did event now session thing) in
    let mid : Walk = after_deed base here did in
    let behind : Walk = after_thing mid session did thing in
    let enter = enters walk session thing event now all in
    let on = on-thing mid session did thing in
    let room_behind : have_room base behind items ≡ true = and-right (is_spelled walk.numbers) _ room in
    let spelled : is_spelled behind.numbers ≡ true = room-here base behind items room_behind in
    let drawn_here : deed_draws base here did ≡ true = and-left (deed_draws base here did) _ drawn in
    let drawn_behind : items_drawn base behind items ≡ true = and-right (deed_draws base here did) _ drawn in
    let within : AllWithin behind.numbers = on.within (deed-within base here did drawn_here enter.within) in
    item-once base walk.numbers here.numbers mid.numbers behind.numbers (new_in base did) (drawn_anew base behind items) enter on spelled (items-once base behind items within drawn_behind room_behind)
    (λ small few stand. deed-apart base here did (drawn_anew base behind items) drawn_here small few stand)
