-- Where each request begins once on a connection, the calls since the last Begin are all that its
-- request sent there.
use Rattle.std.proofs.Common.{◌≡◌, refl, sym, ap, subst, ◌∙◌, Bool, true, false, ℕ, ◌&&◌, ◌||◌, List, [], ◌∷◌, ◌++◌, fold, Option, None, if◌then◌else◌}
use Rattle.std.specs.Prelude.{not, is_some, is_none}
use Rattle.std.specs.List.{list_all}
use Rattle.std.proofs.lemmas.Bool.{and_parts, and_from}
use Rattle.std.proofs.lemmas.List.{append-nil, append_assoc}
use Rattle.svc_values.specs.declared.frame.Up.{Up}
use Rattle.svc_values.specs.declared.frame.Up.TheVariants as up
use Rattle.invariant_laws.specs.FirstBegins.{is_call_by, begins_new, begin_new}
use Rattle.world_model.specs.meaning.Frames.{Owner, Sent}
use Rattle.world_model.specs.Sames.{same_owners}
use Rattle.invariant_laws.specs.Shown.{is_call}
use Rattle.world_model.specs.records.Wire.{Stage, New, Greeted, Told, Repeated, Begun, Rested, Shut, Wrong, stage_if, is_alter, next_stage, is_right}
use Rattle.shown_laws.specs.TurnOwner.{calls_by, AreAll, TurnsHaveAllCalls}
use Rattle.shown_laws.specs.TurnSent.{calls_with}
use Rattle.shown_laws.proofs.owners.TurnSent.{owners_are, owners_same}

-- ONE FRAME MORE ----------------------------------------------------------------------------------

push_if : (owner : Option Owner) (before : List Sent) (sent : Sent) → calls_by owner (before ++ sent ∷ []) ≡ calls_by owner before ++ (if is_call_by owner sent then sent ∷ [] else [])
push_if owner [] sent = refl
push_if owner (first ∷ before) sent = by (is_call_by owner first) (push_if owner before sent)
  where
    by : (test : Bool) → calls_by owner (before ++ sent ∷ []) ≡ calls_by owner before ++ (if is_call_by owner sent then sent ∷ [] else [])
        → (if test then first ∷ calls_by owner (before ++ sent ∷ []) else calls_by owner (before ++ sent ∷ [])) ≡ (if test then first ∷ calls_by owner before else calls_by owner before) ++ (if is_call_by owner sent then sent ∷ [] else [])
    by true rest = ap (λ (calls : List Sent). first ∷ calls) rest
    by false rest = rest

no_call : (a b : Bool) → b ≡ false → (a && b) ≡ false
no_call true b is = is
no_call false b is = refl

-- a frame that is no call changes nothing
quiet : (owner : Option Owner) (before calls : List Sent) (sent : Sent) → is_call sent.frame ≡ false → calls_by owner before ≡ calls → calls_by owner (before ++ sent ∷ []) ≡ calls
quiet owner before calls sent none is =
    push_if owner before sent
    ∙ (ap (λ (test : Bool). calls_by owner before ++ (if test then sent ∷ [] else [])) (no_call (same_owners owner sent.owner) (is_call sent.frame) none)
    ∙ (append-nil (calls_by owner before) ∙ is))

-- a call of the request stands behind
called : (one : Option Owner) (before calls : List Sent) (sent : Sent) → same_owners one sent.owner ≡ true → is_call sent.frame ≡ true → calls_by one before ≡ calls → calls_by sent.owner (before ++ sent ∷ []) ≡ calls ++ sent ∷ []
called one before calls sent same call is =
    push_if sent.owner before sent
    ∙ (ap (λ (test : Bool). calls_by sent.owner before ++ (if test then sent ∷ [] else [])) (and_from (same_owners sent.owner sent.owner) (is_call sent.frame) (owners_same sent.owner) call)
    ∙ ap (λ (list : List Sent). list ++ sent ∷ []) (ap (λ (o : Option Owner). calls_by o before) (sym (owners_are one sent.owner same)) ∙ is))

-- who begins has no call yet
none_yet : (owner : Option Owner) (before : List Sent) → list_all (λ one. not (is_call_by owner one)) before ≡ true → calls_by owner before ≡ []
none_yet owner [] none = refl
none_yet owner (first ∷ before) none =
    let parts = and_parts (not (is_call_by owner first)) (list_all (λ one. not (is_call_by owner one)) before) none in
    by (is_call_by owner first) parts.0 (none_yet owner before parts.1)
  where
    by : (test : Bool) → not test ≡ true → calls_by owner before ≡ [] → (if test then first ∷ calls_by owner before else calls_by owner before) ≡ []
    by true is rest = absurd (let never : ⊥ = cc in never)
    by false is rest = rest

-- STAGES ------------------------------------------------------------------------------------------

abbrev Stands : List Sent → List Sent → Stage → Type 0
Stands before calls (Begun one) = calls_by one before ≡ calls
Stands before calls (Repeated one) = calls_by one before ≡ calls
Stands before calls Wrong = Unit {0}
Stands before calls stage = AreAll before calls

if_stands : (before calls : List Sent) (test : Bool) (stage : Stage) → (test ≡ true → Stands before calls stage) → Stands before calls (stage_if test stage)
if_stands before calls true stage is = is refl
if_stands before calls false stage is = tt

keeps : (before calls : List Sent) (sent : Sent) → is_call sent.frame ≡ false → AreAll before calls → AreAll (before ++ sent ∷ []) calls
keeps before calls sent none is = record { owner = is.owner; all = quiet is.owner before calls sent none is.all }

ends : (before calls : List Sent) (sent : Sent) (one : Option Owner) → is_call sent.frame ≡ false → calls_by one before ≡ calls → AreAll (before ++ sent ∷ []) calls
ends before calls sent one none is = record { owner = one; all = quiet one before calls sent none is }

starts : (before : List Sent) (sent : Sent) → is_call sent.frame ≡ false → list_all (λ one. not (is_call_by sent.owner one)) before ≡ true → calls_by sent.owner (before ++ sent ∷ []) ≡ []
starts before sent none fresh = quiet sent.owner before [] sent none (none_yet sent.owner before fresh)

moved : (before calls : List Sent) (stage : Stage) (owner : Option Owner) (index : ℕ) (frame : Up) → begins_new before (record { owner = owner; call = index; frame = frame }) frame ≡ true → Stands before calls stage
    → Stands (before ++ record { owner = owner; call = index; frame = frame } ∷ []) (calls_with calls (record { owner = owner; call = index; frame = frame }) frame) (next_stage stage owner frame)
moved before calls New owner index up.Connect new is = if_stands _ calls (is_some owner) (Greeted owner) (λ met. keeps before calls (record { owner = owner; call = index; frame = up.Connect }) refl is)
moved before calls (Greeted one) owner index (up.Outcome x) new is = if_stands _ calls (same_owners one owner) (Told owner) (λ met. keeps before calls (record { owner = owner; call = index; frame = up.Outcome x }) refl is)
moved before calls (Greeted one) owner index (up.Begin settings) new is = if_stands _ [] (same_owners one owner) (Begun owner) (λ met. starts before (record { owner = owner; call = index; frame = up.Begin settings }) refl new)
moved before calls (Told one) owner index (up.Begin settings) new is = if_stands _ [] (same_owners one owner) (Repeated owner) (λ met. starts before (record { owner = owner; call = index; frame = up.Begin settings }) refl new)
moved before calls (Repeated one) owner index (up.Call true kept call) new is =
    let sent : Sent = record { owner = owner; call = index; frame = up.Call true kept call } in
    if_stands (before ++ sent ∷ []) (calls ++ sent ∷ []) (same_owners one owner && not (is_alter call)) (Repeated owner)
    (λ met. called one before calls sent (and_parts (same_owners one owner) (not (is_alter call)) met).0 refl is)
moved before calls (Repeated one) owner index (up.Call false kept call) new is =
    let sent : Sent = record { owner = owner; call = index; frame = up.Call false kept call } in
    if_stands (before ++ sent ∷ []) (calls ++ sent ∷ []) (same_owners one owner) (Begun owner) (λ met. called one before calls sent met refl is)
moved before calls (Begun one) owner index (up.Call false kept call) new is =
    let sent : Sent = record { owner = owner; call = index; frame = up.Call false kept call } in
    if_stands (before ++ sent ∷ []) (calls ++ sent ∷ []) (same_owners one owner) (Begun owner) (λ met. called one before calls sent met refl is)
moved before calls (Begun one) owner index up.End new is = if_stands _ calls (same_owners one owner) (Rested owner) (λ met. ends before calls (record { owner = owner; call = index; frame = up.End }) one refl is)
moved before calls (Told one) owner index up.End new is = if_stands _ calls (same_owners one owner) (Rested owner) (λ met. keeps before calls (record { owner = owner; call = index; frame = up.End }) refl is)
moved before calls (Repeated one) owner index up.End new is = if_stands _ calls (same_owners one owner) (Rested owner) (λ met. ends before calls (record { owner = owner; call = index; frame = up.End }) one refl is)
moved before calls (Rested one) owner index (up.Begin settings) new is =
    if_stands _ [] (is_some owner && not (same_owners one owner)) (Begun owner) (λ met. starts before (record { owner = owner; call = index; frame = up.Begin settings }) refl new)
moved before calls (Rested one) owner index up.Close new is = if_stands _ calls (is_none owner || same_owners one owner) Shut (λ met. keeps before calls (record { owner = owner; call = index; frame = up.Close }) refl is)
moved before calls (Greeted one) owner index up.Close new is = if_stands _ calls (same_owners one owner) Shut (λ met. keeps before calls (record { owner = owner; call = index; frame = up.Close }) refl is)
moved before calls (Told one) owner index up.Close new is = if_stands _ calls (same_owners one owner) Shut (λ met. keeps before calls (record { owner = owner; call = index; frame = up.Close }) refl is)
moved before calls (Repeated one) owner index up.Close new is = if_stands _ calls (same_owners one owner) Shut (λ met. ends before calls (record { owner = owner; call = index; frame = up.Close }) one refl is)
moved before calls (Begun one) owner index up.Close new is = if_stands _ calls (same_owners one owner) Shut (λ met. ends before calls (record { owner = owner; call = index; frame = up.Close }) one refl is)
moved before calls stage owner index frame new is = tt

turn_at : (before calls : List Sent) (stage : Stage) → Stands before calls stage → is_right stage ≡ true → AreAll before calls
turn_at before calls (Begun one) is right = record { owner = one; all = is }
turn_at before calls (Repeated one) is right = record { owner = one; all = is }
turn_at before calls Wrong is right = absurd (let none : ⊥ = cc in none)
turn_at before calls New is right = is
turn_at before calls (Greeted one) is right = is
turn_at before calls (Told one) is right = is
turn_at before calls (Rested one) is right = is
turn_at before calls Shut is right = is

walked : (before sents calls : List Sent) (stage : Stage) → begin_new before sents ≡ true → Stands before calls stage → is_right (fold (λ stage sent. next_stage stage sent.owner sent.frame) stage sents) ≡ true
    → AreAll (before ++ sents) (fold (λ calls one. calls_with calls one one.frame) calls sents)
walked before [] calls stage new is right = subst (λ (all : List Sent). AreAll all calls) (sym (append-nil before)) (turn_at before calls stage is right)
walked before (sent ∷ sents) calls stage new is right =
    let parts = and_parts (begins_new before sent sent.frame) (begin_new (before ++ sent ∷ []) sents) new in
    subst (λ (all : List Sent). AreAll all (fold (λ calls one. calls_with calls one one.frame) (calls_with calls sent sent.frame) sents)) (append_assoc before (sent ∷ []) sents)
    (walked (before ++ sent ∷ []) sents (calls_with calls sent sent.frame) (next_stage stage sent.owner sent.frame) parts.1 (moved before calls stage sent.owner sent.call sent.frame parts.0 is) right)

pub has_all_calls : TurnsHaveAllCalls
has_all_calls sents right new = walked [] sents [] New new (record { owner = None; all = refl }) right
