-- What was served is judged alike, whatever number an item has, and whatever kept values a call
-- without the mark brings.
use Rattle.std.proofs.Common.{◌≡◌, refl, ap, ◌∙◌, ℕ, ◌&&◌, Bool, false, List, [], ◌∷◌, ◌++◌, map, Option, Some, None}
use Rattle.svc_values.specs.declared.answer.Answer.{Answer}
use Rattle.svc_values.specs.declared.call.Call.{Call}
use Rattle.svc_values.specs.declared.draw.Draw.{Draw}
use Rattle.svc_values.specs.declared.entry.Entry.{Entry}
use Rattle.svc_values.specs.declared.entry.SessionId.{SessionId}
use Rattle.stmt_meaning.specs.meaning.Meaning.{Meant}
use Rattle.server_model.specs.meaning.Base.{Base}
use Rattle.server_model.specs.meaning.Fresh.{new_in, drawn_anew, fresh_new, none_twice}
use Rattle.server_model.specs.meaning.Items.{Thing, Called, Item, Did, AskTold, AskStopped}
use Rattle.server_model.specs.meaning.Legal.{item_holds, items_hold, Line, line_in, lines_of, lines_stand, legal}
use Rattle.server_model.specs.meaning.Walk.{Walk, Performed, walk_of, meaning, with_meaning, Deed, deed_of, entered, after}

-- what a call without the mark brings is dropped
abbrev pub bare_thing : Thing → Thing
bare_thing (Called false kept called answers draws) = Called false [] called answers draws
bare_thing thing = thing

-- and so is the item's number
abbrev pub bare : Item → Item
bare (Did event now session thing) = Did 0 now session (bare_thing thing)
bare (AskTold event x outcome) = AskTold 0 x outcome
bare (AskStopped event x) = AskStopped 0 x

abbrev pub bare_items : List Item → List Item
bare_items items = map bare items

-- a call without the mark, with what it brought
abbrev plainly : ℕ → SessionId → List Draw → Call → List Answer → List Draw → Performed
plainly now session kept called answers draws = record { session = session; now = now; replay = false; kept = kept; called = called; answers = answers; draws = draws }

abbrev calls : ℕ → ℕ → SessionId → List Draw → Call → List Answer → List Draw → Item
calls event now session kept called answers draws = Did event now session (Called false kept called answers draws)

-- WHAT IS LEGAL -----------------------------------------------------------------------------------

-- of a call, by what it means
holds_alike : (base : Base) (walk : Walk) (event now : ℕ) (session : SessionId) (kept : List Draw) (called : Call) (answers : List Answer) (draws : List Draw) (items : List Item) (meant : Option Meant)
    → (item_holds base walk (calls 0 now session [] called answers draws) (with_meaning (plainly now session [] called answers draws) meant)
    && items_hold base (after base walk (calls 0 now session [] called answers draws) (with_meaning (plainly now session [] called answers draws) meant)) items)
    ≡ (item_holds base walk (calls event now session kept called answers draws) (with_meaning (plainly now session kept called answers draws) meant)
    && items_hold base (after base walk (calls event now session kept called answers draws) (with_meaning (plainly now session kept called answers draws) meant)) items)
holds_alike base walk event now session kept called answers draws items None = refl
holds_alike base walk event now session kept called answers draws items (Some meant) = refl

-- of the first of these items
thing_alike : (base : Base) (walk : Walk) (event now : ℕ) (session : SessionId) (thing : Thing) (items others : List Item) → ((later : Walk) → items_hold base later others ≡ items_hold base later items)
    → items_hold base walk (Did 0 now session (bare_thing thing) ∷ others) ≡ items_hold base walk (Did event now session thing ∷ items)
thing_alike base walk event now session (Called false kept called answers draws) items others again =
    let here : Walk = entered walk (calls 0 now session [] called answers draws) in
    let did : Deed = deed_of base here (calls 0 now session [] called answers draws) in
    ap (λ (more : Bool). item_holds base here (calls 0 now session [] called answers draws) did && more) (again (after base here (calls 0 now session [] called answers draws) did))
    ∙ holds_alike base here event now session kept called answers draws items (meaning base here session called draws)
thing_alike base walk event now session thing items others again =
    let here : Walk = entered walk (Did event now session thing) in
    let did : Deed = deed_of base here (Did event now session thing) in
    ap (λ (more : Bool). item_holds base here (Did event now session thing) did && more) (again (after base here (Did event now session thing) did))

hold_bare : (base : Base) (walk : Walk) (items : List Item) → items_hold base walk (bare_items items) ≡ items_hold base walk items
hold_bare base walk [] = refl
hold_bare base walk (Did event now session thing ∷ items) = thing_alike base walk event now session thing items (bare_items items) (λ later. hold_bare base later items)
hold_bare base walk (AskTold event x outcome ∷ items) = hold_bare base (after base walk (AskTold event x outcome) (deed_of base walk (AskTold event x outcome))) items
hold_bare base walk (AskStopped event x ∷ items) = hold_bare base (after base walk (AskStopped event x) (deed_of base walk (AskStopped event x))) items

line_bare : (thing : Thing) → line_in (bare_thing thing) ≡ line_in thing
line_bare (Called false kept called answers draws) = refl
line_bare thing = refl

lines_bare : (items : List Item) → lines_of (bare_items items) ≡ lines_of items
lines_bare [] = refl
lines_bare (Did event now session thing ∷ items) =
    ap (λ (lines : List Line). lines ++ lines_of (bare_items items)) (line_bare thing) ∙ ap (λ (lines : List Line). line_in thing ++ lines) (lines_bare items)
lines_bare (AskTold event x outcome ∷ items) = lines_bare items
lines_bare (AskStopped event x ∷ items) = lines_bare items

pub legal_bare : (base : Base) (items : List Item) (entries : List Entry) (alerts : List (List ℕ)) → legal base (bare_items items) entries alerts ≡ legal base items entries alerts
legal_bare base items entries alerts =
    ap (λ (held : Bool). held && lines_stand (lines_of (bare_items items)) alerts) (hold_bare base (walk_of base entries) items)
    ∙ ap (λ (lines : List Line). items_hold base (walk_of base entries) items && lines_stand lines alerts) (lines_bare items)

-- WHAT IS FRESH -----------------------------------------------------------------------------------

draws_alike : (base : Base) (walk : Walk) (event now : ℕ) (session : SessionId) (kept : List Draw) (called : Call) (answers : List Answer) (draws : List Draw) (items : List Item) (meant : Option Meant)
    → new_in base (with_meaning (plainly now session [] called answers draws) meant)
    ++ drawn_anew base (after base walk (calls 0 now session [] called answers draws) (with_meaning (plainly now session [] called answers draws) meant)) items
    ≡ new_in base (with_meaning (plainly now session kept called answers draws) meant)
    ++ drawn_anew base (after base walk (calls event now session kept called answers draws) (with_meaning (plainly now session kept called answers draws) meant)) items
draws_alike base walk event now session kept called answers draws items None = refl
draws_alike base walk event now session kept called answers draws items (Some meant) = refl

drawn_alike : (base : Base) (walk : Walk) (event now : ℕ) (session : SessionId) (thing : Thing) (items others : List Item) → ((later : Walk) → drawn_anew base later others ≡ drawn_anew base later items)
    → drawn_anew base walk (Did 0 now session (bare_thing thing) ∷ others) ≡ drawn_anew base walk (Did event now session thing ∷ items)
drawn_alike base walk event now session (Called false kept called answers draws) items others again =
    let here : Walk = entered walk (calls 0 now session [] called answers draws) in
    let did : Deed = deed_of base here (calls 0 now session [] called answers draws) in
    ap (λ (more : List Draw). new_in base did ++ more) (again (after base here (calls 0 now session [] called answers draws) did))
    ∙ draws_alike base here event now session kept called answers draws items (meaning base here session called draws)
drawn_alike base walk event now session thing items others again =
    let here : Walk = entered walk (Did event now session thing) in
    let did : Deed = deed_of base here (Did event now session thing) in
    ap (λ (more : List Draw). new_in base did ++ more) (again (after base here (Did event now session thing) did))

drawn_bare : (base : Base) (walk : Walk) (items : List Item) → drawn_anew base walk (bare_items items) ≡ drawn_anew base walk items
drawn_bare base walk [] = refl
drawn_bare base walk (Did event now session thing ∷ items) = drawn_alike base walk event now session thing items (bare_items items) (λ later. drawn_bare base later items)
drawn_bare base walk (AskTold event x outcome ∷ items) = drawn_bare base (after base walk (AskTold event x outcome) (deed_of base walk (AskTold event x outcome))) items
drawn_bare base walk (AskStopped event x ∷ items) = drawn_bare base (after base walk (AskStopped event x) (deed_of base walk (AskStopped event x))) items

pub fresh_bare : (base : Base) (items : List Item) (entries : List Entry) → fresh_new base (bare_items items) entries ≡ fresh_new base items entries
fresh_bare base items entries = ap none_twice (drawn_bare base (walk_of base entries) items)
