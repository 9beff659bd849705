-- The judgement of items looks at no item's number: so the items of a history, which have their
-- places, are judged as those of events.
use Rattle.std.proofs.Common.{◌≡◌, refl, ap, ◌∙◌, ℕ, ◌+◌, ◌&&◌, Bool, List, [], ◌∷◌, ◌++◌, map}
use Rattle.svc_values.specs.declared.entry.Entry.{Entry}
use Rattle.svc_values.specs.declared.entry.Ltxid.{Ltxid}
use Rattle.svc_values.specs.declared.frame.Down.TheVariants as down
use Rattle.server_model.specs.meaning.Base.{Base}
use Rattle.server_model.specs.meaning.Fresh.{new_in, drawn_anew, fresh_new, none_twice}
use Rattle.server_model.specs.meaning.Items.{Item, Did, AskTold, AskStopped, asked_of}
use Rattle.server_model.specs.Items.{item_of, items_from}
use Rattle.server_model.specs.meaning.Legal.{item_holds, items_hold, Line, line_in, lines_of, lines_stand, legal}
use Rattle.server_model.specs.meaning.Outcomes.{Telling, Silent, Says, Stopped}
use Rattle.server_model.specs.Runs.{Happened, Served, Asked}
use Rattle.server_model.specs.meaning.Walk.{Walk, walk_of, deed_of, entered, after}

-- the item without its number
abbrev pub plain : Item → Item
plain (Did event now session thing) = Did 0 now session thing
plain (AskTold event x outcome) = AskTold 0 x outcome
plain (AskStopped event x) = AskStopped 0 x

abbrev pub plain_items : List Item → List Item
plain_items items = map plain items

-- A HISTORY ---------------------------------------------------------------------------------------

-- what happened, without a place
abbrev pub plain_of : Happened → Item
plain_of happened = item_of 0 happened

pub asked_plain : (event : ℕ) (x : Ltxid) (told : Telling) → plain (asked_of event x told) ≡ asked_of 0 x told
asked_plain event x Silent = refl
asked_plain event x (Says (down.OutcomeIs committed completed)) = refl
asked_plain event x (Says (down.OutcomeRefused ahead next)) = refl
asked_plain event x (Says frame) = refl
asked_plain event x Stopped = refl

pub history_plain : (event : ℕ) (history : List Happened) → plain_items (items_from event history) ≡ map plain_of history
history_plain event [] = refl
history_plain event (Served session now frame told ∷ more) = ap (λ (items : List Item). plain_of (Served session now frame told) ∷ items) (history_plain (event + 1) more)
history_plain event (Asked x told ∷ more) =
    ap (λ (item : Item). item ∷ plain_items (items_from (event + 1) more)) (asked_plain event x told)
    ∙ ap (λ (items : List Item). plain_of (Asked x told) ∷ items) (history_plain (event + 1) more)

-- WHAT IS LEGAL -----------------------------------------------------------------------------------

hold_plain : (base : Base) (walk : Walk) (items : List Item) → items_hold base walk (plain_items items) ≡ items_hold base walk items
hold_plain base walk [] = refl
hold_plain base walk (Did event now session thing ∷ items) =
    let item : Item = Did event now session thing in
    let here : Walk = entered walk item in
    ap (λ (more : Bool). item_holds base here item (deed_of base here item) && more) (hold_plain base (after base here item (deed_of base here item)) items)
hold_plain base walk (AskTold event x outcome ∷ items) = hold_plain base (after base walk (AskTold event x outcome) (deed_of base walk (AskTold event x outcome))) items
hold_plain base walk (AskStopped event x ∷ items) = hold_plain base (after base walk (AskStopped event x) (deed_of base walk (AskStopped event x))) items

lines_plain : (items : List Item) → lines_of (plain_items items) ≡ lines_of items
lines_plain [] = refl
lines_plain (Did event now session thing ∷ items) = ap (λ (lines : List Line). line_in thing ++ lines) (lines_plain items)
lines_plain (AskTold event x outcome ∷ items) = lines_plain items
lines_plain (AskStopped event x ∷ items) = lines_plain items

pub legal_plain : (base : Base) (items : List Item) (entries : List Entry) (alerts : List (List ℕ)) → legal base (plain_items items) entries alerts ≡ legal base items entries alerts
legal_plain base items entries alerts =
    ap (λ (held : Bool). held && lines_stand (lines_of (plain_items items)) alerts) (hold_plain base (walk_of base entries) items)
    ∙ ap (λ (lines : List Line). items_hold base (walk_of base entries) items && lines_stand lines alerts) (lines_plain items)

-- WHAT IS FRESH -----------------------------------------------------------------------------------

pub drawn_plain : (base : Base) (walk : Walk) (items : List Item) → drawn_anew base walk (plain_items items) ≡ drawn_anew base walk items
drawn_plain base walk [] = refl
drawn_plain base walk (Did event now session thing ∷ items) =
    let item : Item = Did event now session thing in
    let here : Walk = entered walk item in
    ap (λ more. new_in base (deed_of base here item) ++ more) (drawn_plain base (after base here item (deed_of base here item)) items)
drawn_plain base walk (AskTold event x outcome ∷ items) = drawn_plain base (after base walk (AskTold event x outcome) (deed_of base walk (AskTold event x outcome))) items
drawn_plain base walk (AskStopped event x ∷ items) = drawn_plain base (after base walk (AskStopped event x) (deed_of base walk (AskStopped event x))) items

pub fresh_plain : (base : Base) (items : List Item) (entries : List Entry) → fresh_new base (plain_items items) entries ≡ fresh_new base items entries
fresh_plain base items entries = ap none_twice (drawn_plain base (walk_of base entries) items)
