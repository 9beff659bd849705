-- What a frame's call was given anew, and that each other value of a marked call is the first kept
-- one of its kind.
use Rattle.std.proofs.Common.{◌≡◌, refl, sym, ap, ◌∙◌, ℕ, ◌+◌, ◌&&◌, Bool, true, false, List, [], ◌∷◌, ◌++◌, length, Option, Some, None, if◌then◌else◌}
use Rattle.std.specs.Prelude.{is_some}
use Rattle.std.proofs.lemmas.Bool.{and_parts}
use Rattle.std.proofs.lemmas.List.{length_push}
use Rattle.svc_values.specs.declared.call.Call.{Call}
use Rattle.svc_values.specs.declared.draw.Draw.{Draw}
use Rattle.svc_values.specs.declared.entry.SessionId.{SessionId}
use Rattle.svc_values.specs.declared.frame.Up.{Up}
use Rattle.svc_values.specs.declared.frame.Up.TheVariants as up
use Rattle.svc_values.specs.meaning.Endings.{ends_committed}
use Rattle.svc_values.specs.meaning.Same.{same_draw}
use Rattle.stmt_meaning.specs.meaning.Meaning.{Meant}
use Rattle.stmt_meaning.specs.meaning.SerialTest.{is_nil}
use Rattle.outage_schedule.specs.declared.item.Item.{Item as ItemTold}
use Rattle.outage_schedule.specs.declared.item.Item.TheVariants as item
use Rattle.server_model.specs.meaning.Base.{Base}
use Rattle.server_model.specs.meaning.Fresh.{new_in}
use Rattle.server_model.specs.meaning.Items.{Thing, Called, CallStopped, Did}
use Rattle.server_model.specs.meaning.Legal.{answers_hold, is_free, stores, draws_hold, deed_holds, is_of_now, item_holds}
use Rattle.server_model.specs.meaning.NewValues.{Numbers, Origin, Kept, New, origin_of, left_by, one_drawn, if_next, and_draws, drawn_by, kept_by, new_among}
use Rattle.server_model.specs.meaning.Walk.{Walk, Performed, performed_by, meaning, deed, with_meaning, deed_of}
use Rattle.world_model.specs.records.Number.{is_stopped_call}
use Rattle.invariant_laws.specs.Same.{Ran as RanBy, did_all, with_call, ends_on_server, ran_item}
use Rattle.world_model.specs.records.Wire.{counted_with}
use Rattle.invariant_laws.proofs.Offered.{Deals, DealsBegin, DealsEnd, DealsCall, DealsStop, DealsQuietly, is_quiet_thing, is_quiet_item, over_same}

-- WHAT A FRAME WAS GIVEN --------------------------------------------------------------------------

-- the kept draws that may be given again to a call
abbrev pub kept_with : Base → Up → List Draw
kept_with base (up.Call replay kept called) = kept_by base replay kept
kept_with base _ = []

-- those of its draws that were drawn anew; of a call that was stopped these
abbrev pub anew : Base → List Draw → Up → ItemTold → List Draw
anew base stopped frame (item.Call marked called answers draws) = new_among (kept_with base frame) draws
anew base stopped frame (item.CrashedCall marked called) = stopped
anew base stopped frame _ = []

-- each is a new one, or the first kept one of its kind
abbrev pub is_kept_first : Draw → Origin → Bool
is_kept_first given (Kept first left) = same_draw given first
is_kept_first given New = true

abbrev pub are_drawn : List Draw → List Draw → Bool
are_drawn kept [] = true
are_drawn kept (given ∷ more) = let origin = origin_of given kept in is_kept_first given origin && are_drawn (left_by origin kept) more

abbrev pub is_drawn : Base → Up → ItemTold → Bool
is_drawn base frame (item.Call marked called answers draws) = are_drawn (kept_with base frame) draws
is_drawn base frame _ = true

by_draws : (now : ℕ) (kept draws : List Draw) (numbers : Numbers) → is_some (drawn_by now kept draws numbers) ≡ true → are_drawn kept draws ≡ true
by_draws now kept [] numbers is = refl
by_draws now kept (given ∷ more) numbers is = by (origin_of given kept) (λ left n drawn. by_draws now left more n drawn) is
  where
    kept_one : (test : Bool) (left : List Draw) → ((n : Numbers) → is_some (drawn_by now left more n) ≡ true → are_drawn left more ≡ true) → is_some (and_draws (if test then Some numbers else None) (λ n. drawn_by now left more n)) ≡ true
        → (test && are_drawn left more) ≡ true
    kept_one true left again drawn = again numbers drawn
    kept_one false left again drawn = absurd (let none : ⊥ = cc in none)

    new_one : (next : Option Numbers) → ((n : Numbers) → is_some (drawn_by now kept more n) ≡ true → are_drawn kept more ≡ true) → is_some (and_draws next (λ n. drawn_by now kept more n)) ≡ true → are_drawn kept more ≡ true
    new_one None again drawn = absurd (let none : ⊥ = cc in none)
    new_one (Some next) again drawn = again next drawn

    by : (origin : Origin) → ((left : List Draw) (n : Numbers) → is_some (drawn_by now left more n) ≡ true → are_drawn left more ≡ true) → is_some (and_draws (one_drawn now given origin numbers) (λ n. drawn_by now (left_by origin kept) more n)) ≡ true
        → (is_kept_first given origin && are_drawn (left_by origin kept) more) ≡ true
    by (Kept first left) again drawn = kept_one (same_draw given first) left (again left) drawn
    by New again drawn = new_one (if_next numbers now given) (again kept) drawn

-- A CALL ------------------------------------------------------------------------------------------

-- a call that held: what it drew anew, and that its draws are right
pub performed_drew : (base : Base) (walk : Walk) (performed : Performed) → deed_holds base walk (deed base walk (Some performed)) ≡ true
    → (new_in base (deed base walk (Some performed)) ≡ new_among (kept_by base performed.replay performed.kept) performed.draws) × (are_drawn (kept_by base performed.replay performed.kept) performed.draws ≡ true)
performed_drew base walk performed holds = by (meaning base walk performed.session performed.called performed.draws) holds
  where
    by : (meant : Option Meant) → deed_holds base walk (with_meaning performed meant) ≡ true
        → (new_in base (with_meaning performed meant) ≡ new_among (kept_by base performed.replay performed.kept) performed.draws) × (are_drawn (kept_by base performed.replay performed.kept) performed.draws ≡ true)
    by None holds = absurd (let never : ⊥ = cc in never)
    by (Some meant) holds =
        let two = and_parts (is_nil meant.rest) _ holds in
        let three = and_parts (answers_hold walk performed meant) _ two.1 in
        let four = and_parts (is_free walk performed) _ three.1 in
        let five = and_parts (stores walk performed meant) (draws_hold base walk performed) four.1 in
        (refl, by_draws performed.now (kept_by base performed.replay performed.kept) performed.draws walk.numbers five.1)

quiet_none : (walk : Walk) (now : ℕ) (session : SessionId) (thing : Thing) → is_quiet_thing thing ≡ true → performed_by walk now session thing ≡ None
quiet_none walk now session (Called replay kept called answers draws) quiet = absurd (let never : ⊥ = cc in never)
quiet_none walk now session (CallStopped replay called) quiet = absurd (let never : ⊥ = cc in never)
quiet_none walk now session thing quiet = refl

quiet_gives : (base : Base) (stopped : List Draw) (frame : Up) (one : ItemTold) → is_quiet_item one ≡ true → (anew base stopped frame one ≡ []) × (is_drawn base frame one ≡ true)
quiet_gives base stopped frame (item.Call marked called answers draws) quiet = absurd (let never : ⊥ = cc in never)
quiet_gives base stopped frame (item.CrashedCall marked called) quiet = absurd (let never : ⊥ = cc in never)
quiet_gives base stopped frame one quiet = (refl, refl)

-- an item that was not stopped
pub own_drew : (base : Base) (stopped : List Draw) (walk : Walk) (n now : ℕ) (session : SessionId) (frame : Up) (thing : Thing) (one : ItemTold) → Deals frame thing one → is_stopped_call one ≡ false
    → item_holds base walk (Did n now session thing) (deed_of base walk (Did n now session thing)) ≡ true
    → (new_in base (deed_of base walk (Did n now session thing)) ≡ anew base stopped frame one) × (is_drawn base frame one ≡ true)
own_drew base stopped walk n now session _ _ _ (DealsBegin settings) going holds = (refl, refl)
own_drew base stopped walk n now session _ _ _ DealsEnd going holds = (refl, refl)
own_drew base stopped walk n now session _ _ _ (DealsCall replay marked kept called answers draws) going holds =
    let performed : Performed = record { session = session; now = now; replay = replay; kept = kept; called = called; answers = answers; draws = draws } in
    let parts = and_parts (is_of_now walk session) _ holds in
    performed_drew base walk performed (and_parts (deed_holds base walk (deed base walk (Some performed))) _ parts.1).0
own_drew base stopped walk n now session _ _ _ (DealsStop replay marked kept called) going holds = absurd (let never : ⊥ = cc in never)
own_drew base stopped walk n now session _ _ _ (DealsQuietly frame thing one rests quiet none) going holds =
    let gives = quiet_gives base stopped frame one none in
    (ap (λ (performed : Option Performed). new_in base (deed base walk performed)) (quiet_none walk now session thing quiet) ∙ sym gives.0, gives.1)

-- how many transactions are over counts what was answered Committed
pub over_counts : (ran : RanBy) (sent : _) (one : ItemTold) → is_stopped_call one ≡ false → length (ran_item ran sent one).over ≡ counted_with (length ran.over) one
over_counts ran sent (item.CrashedCall marked called) going = absurd (let never : ⊥ = cc in never)
over_counts ran sent (item.Call marked called answers draws) going =
    by (ends_committed answers) (ends_on_server answers)
  where
    same : length (with_call ran called).over ≡ length ran.over
    same = ap length (over_same ran called)

    by : (committed ended : Bool) → length (did_all (with_call ran called) committed ended (ran.pieces ++ record { sent = sent; mark = marked; piece = record { call = called; answers = answers; draws = draws } } ∷ [])).over
        ≡ (if committed then length ran.over + 1 else length ran.over)
    by true ended = length_push (with_call ran called).over _ ∙ ap (λ (n : ℕ). n + 1) same
    by false true = same
    by false false = same
over_counts ran sent one going = refl

pub is_crashed : (one : ItemTold) → is_stopped_call one ≡ true → (marked : Bool) × (called : Call) × (one ≡ item.CrashedCall marked called)
is_crashed (item.CrashedCall marked called) is = (marked, called, refl)
is_crashed one is = absurd (let never : ⊥ = cc in never)
