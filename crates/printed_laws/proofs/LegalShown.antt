-- The clause that what was served is legal sees no writes.
use Rattle.std.proofs.Common.{◌≡◌, ℕ, ◌&&◌, ◌||◌, not, Bool, true, false, cond, List, [], ◌∷◌, map, refl, sym, ap, ap₂, ◌∙◌}
use Rattle.std.specs.Cmp.Lexicographic.{pointwise}
use Rattle.svc_values.specs.declared.entry.Ltxid.{Ltxid}
use Rattle.svc_values.specs.declared.entry.Entry.{Entry}
use Rattle.svc_values.specs.declared.entry.SessionId.{SessionId}
use Rattle.svc_values.specs.meaning.Calls.{has_commit, is_lone_commit}
use Rattle.svc_values.specs.meaning.Endings.{ends_committed, ends_conflict}
use Rattle.svc_values.specs.meaning.Identifiers.{same_ltxid}
use Rattle.svc_values.specs.meaning.Same.{same_bool, same_piece}
use Rattle.svc_values.specs.meaning.SettingsList.{same_settings}
use Rattle.ltxid_book.specs.meaning.Journal.{is_blocked}
use Rattle.outage_schedule.specs.declared.document.Document.{Document}
use Rattle.outage_schedule.specs.declared.report.Report.{Report}
use Rattle.stmt_meaning.specs.meaning.Asked.{asked_by_call}
use Rattle.stmt_meaning.specs.meaning.Meaning.{Meant}
use Rattle.stmt_meaning.specs.meaning.SerialTest.{is_nil}
use Rattle.server_model.specs.meaning.Base.{Base}
use Rattle.server_model.specs.meaning.Items.{Thing, Connected, Began, Called, MetBlock, TellsOutcome, EndedRequest, Closed, Refused, CallStopped, OutcomeStopped, Item, Did, AskTold, AskStopped}
use Rattle.server_model.specs.meaning.NewValues.{meets_with}
use Rattle.server_model.specs.meaning.Walk.{Transaction, Walk, walk_of, Performed, Deed, Nothing, Meaningless, Ran, meaning, deed_of, with_call, entered, after}
use Rattle.server_model.specs.meaning.Legal.{answers_hold, is_free, is_first_entry, stores, draws_hold, means_commit, deed_holds, thing_holds, is_of_now, item_holds, all_stored, items_hold, lines_of, lines_stand}
use Rattle.shown_clauses.specs.meaning.KeptDraws.{parts_if, has_marked}
use Rattle.shown_clauses.specs.meaning.LegalItems.{items_from, items_of, outsides_fit}
use Rattle.shown_clauses.specs.meaning.Parts.{Part}
use Rattle.shown_clauses.specs.meaning.Places.{first_front}
use Rattle.run_clauses.specs.meaning.Moments.{moments}
use Rattle.run_clauses.specs.meaning.ServiceBase.{service_base}
use Rattle.report_text.specs.Laws.{shown_entry, shown_report}
use Rattle.printed_laws.specs.Laws.{LegalSeesNoWrites}
use Rattle.printed_laws.proofs.ShownEntries.{shown_twice}
use Rattle.printed_laws.proofs.WalksShown.{shown_walk, next_shown, deed_shown, entered_shown, after_shown}

free_shown : (walk : Walk) (performed : Performed) → is_free (shown_walk walk) performed ≡ is_free walk performed
free_shown walk performed =
    ap (λ (x : Ltxid). cond (ends_committed performed.answers || ends_conflict performed.answers) (not (is_blocked walk.blocked x)) true) (next_shown walk performed.session)

first_shown : (walk : Walk) (performed : Performed) (transaction : Transaction) (left : List Entry)
    → is_first_entry (shown_walk walk) performed transaction (map shown_entry left) ≡ is_first_entry walk performed transaction left
first_shown walk performed transaction [] = refl
first_shown walk performed transaction (e ∷ left) =
    ap (λ (x : Ltxid).
    same_ltxid e.ltxid x
    && (pointwise same_piece e.pieces transaction.pieces && (same_settings e.settings transaction.at_start && same_bool e.completed (is_lone_commit performed.called))))
    (next_shown walk performed.session)

stores_shown : (walk : Walk) (performed : Performed) (meant : Meant) → stores (shown_walk walk) performed meant ≡ stores walk performed meant
stores_shown walk performed meant =
    ap (λ (first : Bool). cond (ends_committed performed.answers) first true) (first_shown walk performed (with_call walk performed meant) walk.left)

deed_right : (base : Base) (walk : Walk) (did : Deed) → deed_holds base (shown_walk walk) did ≡ deed_holds base walk did
deed_right base walk Nothing = refl
deed_right base walk Meaningless = refl
deed_right base walk (Ran performed meant) =
    ap₂ (λ (free stored : Bool). is_nil meant.rest && (answers_hold walk performed meant && (free && (stored && draws_hold base walk performed))))
    (free_shown walk performed) (stores_shown walk performed meant)

thing_right : (base : Base) (walk : Walk) (now : ℕ) (session : SessionId) (thing : Thing) → thing_holds base (shown_walk walk) now session thing ≡ thing_holds base walk now session thing
thing_right base walk now session Connected = refl
thing_right base walk now session (Began settings) = refl
thing_right base walk now session (Called replay kept called answers draws) = refl
thing_right base walk now session (MetBlock replay called) =
    ap (λ (x : Ltxid).
    has_commit called
    && (not replay
    && ((is_blocked walk.blocked x || is_blocked walk.perhaps x)
    && meets_with (λ draws. means_commit (meaning base walk session called draws)) now (asked_by_call called) walk.numbers)))
    (next_shown walk session)
thing_right base walk now session (TellsOutcome x outcome) = refl
thing_right base walk now session EndedRequest = refl
thing_right base walk now session Closed = refl
thing_right base walk now session Refused = refl
thing_right base walk now session (CallStopped replay called) = refl
thing_right base walk now session (OutcomeStopped x) = refl

item_right : (base : Base) (walk : Walk) (one : Item) (did : Deed) → item_holds base (shown_walk walk) one did ≡ item_holds base walk one did
item_right base walk (Did event now session thing) did =
    ap₂ (λ (a b : Bool). is_of_now walk session && (a && b)) (deed_right base walk did) (thing_right base walk now session thing)
item_right base walk (AskTold event x outcome) did = refl
item_right base walk (AskStopped event x) did = refl

all_shown : (left : List Entry) → all_stored (map shown_entry left) ≡ all_stored left
all_shown [] = refl
all_shown (e ∷ left) = refl

-- an item at a walk, and those behind it
abbrev with_deed : Base → Item → List Item → Walk → Deed → Bool
with_deed base one items here did = item_holds base here one did && items_hold base (after base here one did) items

items_right : (base : Base) (walk : Walk) (items : List Item) → items_hold base (shown_walk walk) items ≡ items_hold base walk items
items_right base walk [] = all_shown walk.left
items_right base walk (one ∷ items) =
    let here = entered walk one in
    let did = deed_of base here one in
    ap (λ (h : Walk). with_deed base one items h (deed_of base h one)) (entered_shown walk one)
    ∙ ap (with_deed base one items (shown_walk here)) (deed_shown base here one)
    ∙ ap₂ (λ (a b : Bool). a && b) (item_right base here one did)
    (ap (λ (w : Walk). items_hold base w items) (after_shown base here one did) ∙ items_right base (after base here one did) items)

walks_same : (base : Base) (items : List Item) (es : List Entry) → items_hold base (walk_of base (map shown_entry es)) items ≡ items_hold base (walk_of base es) items
walks_same base items es =
    sym (items_right base (walk_of base (map shown_entry es)) items)
    ∙ ap (λ (left : List Entry). items_hold base (record (walk_of base es) { stored = map shown_entry base.entries; left = left }) items) (shown_twice es)
    ∙ items_right base (walk_of base es) items

parts_shown : (marked : Bool) (document : Document) (r : Report) → parts_if marked document (shown_report r) ≡ parts_if marked document r
parts_shown true document r = refl
parts_shown false document r = refl

items_shown : (document : Document) (r : Report) → items_of document (shown_report r) ≡ items_of document r
items_shown document r =
    ap (λ (all : List Part). items_from all r.notes (first_front document r) (moments r)) (parts_shown (has_marked r.served) document r)

pub legal_shown : LegalSeesNoWrites
legal_shown document r =
    let base = service_base document in
    let items = items_of document r in
    ap (λ (told : List Item).
    outsides_fit document.schedule r.notes
    && (items_hold base (walk_of base (map shown_entry r.entries)) told && lines_stand (lines_of told) r.alerts))
    (items_shown document r)
    ∙ ap (λ (b : Bool). outsides_fit document.schedule r.notes && (b && lines_stand (lines_of items) r.alerts)) (walks_same base items r.entries)
