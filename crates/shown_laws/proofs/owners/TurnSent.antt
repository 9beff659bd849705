-- By the grammar of a connection the calls since a Begin are of one request, those with the mark
-- first.
use Rattle.std.proofs.Common.{◌≡◌, refl, ap, subst, ◌∙◌, Bool, true, false, ℕ, ◌&&◌, ◌||◌, List, [], ◌∷◌, ◌++◌, fold, Option, Some, None, if◌then◌else◌}
use Rattle.std.specs.Prelude.{◌==◌, not, is_some, is_none}
use Rattle.std.specs.List.{list_all}
use Rattle.std.proofs.lemmas.Bool.{and_parts, and_from}
use Rattle.svc_values.specs.declared.frame.Up.{Up}
use Rattle.svc_values.specs.declared.frame.Up.TheVariants as up
use Rattle.world_model.specs.meaning.Frames.{Owner, Sent}
use Rattle.world_model.specs.Sames.{same_owners}
use Rattle.invariant_laws.specs.Shown.{is_marked}
use Rattle.world_model.specs.records.Wire.{Stage, New, Greeted, Told, Repeated, Begun, Rested, Shut, Wrong, stage_if, is_alter, next_stage, is_right}
use Rattle.shown_laws.specs.TurnRows.{are_marked_first}
use Rattle.shown_laws.specs.TurnSent.{calls_with, sent_since, IsTurn, TurnsHaveOneOwner}
use Rattle.shown_laws.proofs.events.Lookups.{eq_from, eq_to}

-- OWNERS ------------------------------------------------------------------------------------------

pub owners_are : (a b : Option Owner) → same_owners a b ≡ true → a ≡ b
owners_are None None same = refl
owners_are None (Some b) same = absurd (let none : ⊥ = cc in none)
owners_are (Some a) None same = absurd (let none : ⊥ = cc in none)
owners_are (Some a) (Some b) same =
    let parts = and_parts (a.client == b.client) (a.place == b.place) same in
    ap (λ (n : ℕ). Some (record { client = n; place = a.place })) (eq_from a.client b.client parts.0)
    ∙ ap (λ (n : ℕ). Some (record { client = b.client; place = n })) (eq_from a.place b.place parts.1)

pub owners_same : (owner : Option Owner) → same_owners owner owner ≡ true
owners_same None = refl
owners_same (Some a) = and_from (a.client == a.client) (a.place == a.place) (eq_to a.client a.client refl) (eq_to a.place a.place refl)

-- CALLS -------------------------------------------------------------------------------------------

pub all_push : (test : Sent → Bool) (calls : List Sent) (sent : Sent) → list_all test calls ≡ true → test sent ≡ true → list_all test (calls ++ sent ∷ []) ≡ true
all_push test [] sent all is = and_from (test sent) true is refl
all_push test (first ∷ calls) sent all is =
    let parts = and_parts (test first) (list_all test calls) all in
    and_from (test first) (list_all test (calls ++ sent ∷ [])) parts.0 (all_push test calls sent parts.1 is)

abbrev has_mark : Sent → Bool
has_mark sent = is_marked sent.frame

abbrev no_mark : Sent → Bool
no_mark sent = not (is_marked sent.frame)

-- where each has the mark, one more may be with it or without
marked_push : (calls : List Sent) (sent : Sent) → list_all has_mark calls ≡ true → are_marked_first (calls ++ sent ∷ []) ≡ true
marked_push [] sent all = by (is_marked sent.frame)
  where
    by : (mark : Bool) → (if mark then true else true) ≡ true
    by true = refl
    by false = refl
marked_push (first ∷ calls) sent all =
    let parts = and_parts (is_marked first.frame) (list_all has_mark calls) all in
    ap (λ (mark : Bool). if mark then are_marked_first (calls ++ sent ∷ []) else list_all no_mark (calls ++ sent ∷ [])) parts.0 ∙ marked_push calls sent parts.1

all_first : (calls : List Sent) → list_all has_mark calls ≡ true → are_marked_first calls ≡ true
all_first [] all = refl
all_first (first ∷ calls) all =
    let parts = and_parts (is_marked first.frame) (list_all has_mark calls) all in
    ap (λ (mark : Bool). if mark then are_marked_first calls else list_all no_mark calls) parts.0 ∙ all_first calls parts.1

-- one without it may come behind any
unmarked_push : (calls : List Sent) (sent : Sent) → are_marked_first calls ≡ true → no_mark sent ≡ true → are_marked_first (calls ++ sent ∷ []) ≡ true
unmarked_push [] sent marks is = by (is_marked sent.frame)
  where
    by : (mark : Bool) → (if mark then true else true) ≡ true
    by true = refl
    by false = refl
unmarked_push (first ∷ calls) sent marks is = by (is_marked first.frame) marks (λ rest. unmarked_push calls sent rest is)
  where
    by : (mark : Bool) → (if mark then are_marked_first calls else list_all no_mark calls) ≡ true → (are_marked_first calls ≡ true → are_marked_first (calls ++ sent ∷ []) ≡ true)
        → (if mark then are_marked_first (calls ++ sent ∷ []) else list_all no_mark (calls ++ sent ∷ [])) ≡ true
    by true here onward = onward here
    by false here onward = all_push no_mark calls sent here is

-- STAGES ------------------------------------------------------------------------------------------

abbrev pub owned : Option Owner → List Sent → Type 0
owned owner calls = list_all (λ sent. same_owners owner sent.owner) calls ≡ true

-- what stands of the calls since the last Begin
abbrev Stands : List Sent → Stage → Type 0
Stands calls (Begun one) = owned one calls × (are_marked_first calls ≡ true)
Stands calls (Repeated one) = owned one calls × (list_all has_mark calls ≡ true)
Stands calls Wrong = Unit {0}
Stands calls stage = IsTurn calls

if_stands : (calls : List Sent) (test : Bool) (stage : Stage) → (test ≡ true → Stands calls stage) → Stands calls (stage_if test stage)
if_stands calls true stage is = is refl
if_stands calls false stage is = tt

begun_turn : (calls : List Sent) (one : Option Owner) → owned one calls × (are_marked_first calls ≡ true) → IsTurn calls
begun_turn calls one is = record { owner = one; owned = is.0; marked = is.1 }

repeated_turn : (calls : List Sent) (one : Option Owner) → owned one calls × (list_all has_mark calls ≡ true) → IsTurn calls
repeated_turn calls one is = record { owner = one; owned = is.0; marked = all_first calls is.1 }

owned_push : (calls : List Sent) (sent : Sent) (one : Option Owner) → owned one calls → same_owners one sent.owner ≡ true → owned sent.owner (calls ++ sent ∷ [])
owned_push calls sent one all same =
    all_push (λ (s : Sent). same_owners sent.owner s.owner) calls sent
    (subst (λ (o : Option Owner). owned o calls) (owners_are one sent.owner same) all) (owners_same sent.owner)

moved : (calls : List Sent) (stage : Stage) (owner : Option Owner) (index : ℕ) (frame : Up) → Stands calls stage → Stands (calls_with calls (record { owner = owner; call = index; frame = frame }) frame) (next_stage stage owner frame)
moved calls New owner index up.Connect is = if_stands calls (is_some owner) (Greeted owner) (λ met. is)
moved calls (Greeted one) owner index (up.Outcome x) is = if_stands calls (same_owners one owner) (Told owner) (λ met. is)
moved calls (Greeted one) owner index (up.Begin settings) is = if_stands [] (same_owners one owner) (Begun owner) (λ met. (refl, refl))
moved calls (Told one) owner index (up.Begin settings) is = if_stands [] (same_owners one owner) (Repeated owner) (λ met. (refl, refl))
moved calls (Repeated one) owner index (up.Call true kept call) is =
    let sent : Sent = record { owner = owner; call = index; frame = up.Call true kept call } in
    if_stands (calls ++ sent ∷ []) (same_owners one owner && not (is_alter call)) (Repeated owner)
    (λ met. (owned_push calls sent one is.0 (and_parts (same_owners one owner) (not (is_alter call)) met).0, all_push has_mark calls sent is.1 refl))
moved calls (Repeated one) owner index (up.Call false kept call) is =
    let sent : Sent = record { owner = owner; call = index; frame = up.Call false kept call } in
    if_stands (calls ++ sent ∷ []) (same_owners one owner) (Begun owner) (λ met. (owned_push calls sent one is.0 met, marked_push calls sent is.1))
moved calls (Begun one) owner index (up.Call false kept call) is =
    let sent : Sent = record { owner = owner; call = index; frame = up.Call false kept call } in
    if_stands (calls ++ sent ∷ []) (same_owners one owner) (Begun owner) (λ met. (owned_push calls sent one is.0 met, unmarked_push calls sent is.1 refl))
moved calls (Begun one) owner index up.End is = if_stands calls (same_owners one owner) (Rested owner) (λ met. begun_turn calls one is)
moved calls (Told one) owner index up.End is = if_stands calls (same_owners one owner) (Rested owner) (λ met. is)
moved calls (Repeated one) owner index up.End is = if_stands calls (same_owners one owner) (Rested owner) (λ met. repeated_turn calls one is)
moved calls (Rested one) owner index (up.Begin settings) is = if_stands [] (is_some owner && not (same_owners one owner)) (Begun owner) (λ met. (refl, refl))
moved calls (Rested one) owner index up.Close is = if_stands calls (is_none owner || same_owners one owner) Shut (λ met. is)
moved calls (Greeted one) owner index up.Close is = if_stands calls (same_owners one owner) Shut (λ met. is)
moved calls (Told one) owner index up.Close is = if_stands calls (same_owners one owner) Shut (λ met. is)
moved calls (Repeated one) owner index up.Close is = if_stands calls (same_owners one owner) Shut (λ met. repeated_turn calls one is)
moved calls (Begun one) owner index up.Close is = if_stands calls (same_owners one owner) Shut (λ met. begun_turn calls one is)
moved calls stage owner index frame is = tt

walked : (sents : List Sent) (calls : List Sent) (stage : Stage) → Stands calls stage → Stands (fold (λ calls one. calls_with calls one one.frame) calls sents) (fold (λ stage sent. next_stage stage sent.owner sent.frame) stage sents)
walked [] calls stage is = is
walked (sent ∷ sents) calls stage is = walked sents (calls_with calls sent sent.frame) (next_stage stage sent.owner sent.frame) (moved calls stage sent.owner sent.call sent.frame is)

turn_at : (calls : List Sent) (stage : Stage) → Stands calls stage → is_right stage ≡ true → IsTurn calls
turn_at calls (Begun one) is right = begun_turn calls one is
turn_at calls (Repeated one) is right = repeated_turn calls one is
turn_at calls Wrong is right = absurd (let none : ⊥ = cc in none)
turn_at calls New is right = is
turn_at calls (Greeted one) is right = is
turn_at calls (Told one) is right = is
turn_at calls (Rested one) is right = is
turn_at calls Shut is right = is

pub sents_turn : (sents : List Sent) → is_right (fold (λ stage sent. next_stage stage sent.owner sent.frame) New sents) ≡ true → IsTurn (sent_since sents)
sents_turn sents right = turn_at (sent_since sents) (fold (λ stage sent. next_stage stage sent.owner sent.frame) New sents) (walked sents [] New (record { owner = None; owned = refl; marked = refl })) right

pub one_owner : TurnsHaveOneOwner
one_owner link right = sents_turn link.sent right
