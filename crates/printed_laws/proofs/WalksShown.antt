-- A walk over what was served goes on alike whatever the writes of its entries are.
use Rattle.std.proofs.Common.{◌≡◌, ℕ, ◌&&◌, not, nat_lt, Bool, true, false, cond, List, [], ◌∷◌, map, Option, None, refl, sym, ap, ◌∙◌}
use Rattle.svc_values.specs.declared.call.Call.{Call}
use Rattle.svc_values.specs.declared.entry.Ltxid.{Ltxid}
use Rattle.svc_values.specs.declared.entry.Piece.{Piece}
use Rattle.svc_values.specs.declared.entry.Write.{Write}
use Rattle.svc_values.specs.declared.entry.Entry.{Entry}
use Rattle.svc_values.specs.declared.entry.SessionId.{SessionId}
use Rattle.svc_values.specs.meaning.Calls.{has_commit}
use Rattle.svc_values.specs.meaning.Endings.{ends_committed}
use Rattle.svc_values.specs.meaning.Identifiers.{is_of, ltxid_of}
use Rattle.svc_values.specs.meaning.Tables.{with_writes}
use Rattle.server_model.specs.meaning.Base.{Base}
use Rattle.server_model.specs.meaning.Items.{Outcome, Committed, Uncommitted, ServerAhead, ClientAhead, Forgotten, Thing, Connected, Began, Called, MetBlock, TellsOutcome, EndedRequest, Closed, Refused, CallStopped, OutcomeStopped, Item, Did, AskTold, AskStopped}
use Rattle.server_model.specs.meaning.NewValues.{opened}
use Rattle.server_model.specs.meaning.Walk.{Walk, next_of, stands, if_stands, performed_if, performed_by, Deed, Nothing, Meaningless, Ran, deed, deed_of, take_entry, if_commits, with_numbers, after_deed, if_uncommitted, after_thing, entered, after, with_call, with_transaction, if_ended, ends}
use Rattle.report_text.specs.Laws.{shown_entry}
use Rattle.printed_laws.proofs.ShownEntries.{filter_long, append_shown}

-- the walk without the writes of its entries
abbrev pub shown_walk : Walk → Walk
shown_walk walk = record walk { stored = map shown_entry walk.stored; left = map shown_entry walk.left }

pub next_shown : (walk : Walk) (session : SessionId) → next_of (shown_walk walk) session ≡ next_of walk session
next_shown walk session = ap (ltxid_of session) (filter_long (λ entry. is_of entry.ltxid session.incarnation session.session) (λ _. refl) walk.stored)

stands_shown : (x : Ltxid) (left : List Entry) → stands x (map shown_entry left) ≡ stands x left
stands_shown x [] = refl
stands_shown x (e ∷ left) = refl

stopped_call_shown : (walk : Walk) (now : ℕ) (session : SessionId) (replay : Bool) (called : Call)
    → performed_if (shown_walk walk) now session replay called ≡ performed_if walk now session replay called
stopped_call_shown walk now session replay called =
    ap (λ (found : Option Piece). cond (has_commit called && not replay) (if_stands now session called found) None)
    (ap (λ (x : Ltxid). stands x (map shown_entry walk.left)) (next_shown walk session) ∙ stands_shown (next_of walk session) walk.left)

performed_shown : (walk : Walk) (now : ℕ) (session : SessionId) (thing : Thing) → performed_by (shown_walk walk) now session thing ≡ performed_by walk now session thing
performed_shown walk now session Connected = refl
performed_shown walk now session (Began settings) = refl
performed_shown walk now session (Called replay kept called answers draws) = refl
performed_shown walk now session (MetBlock replay called) = refl
performed_shown walk now session (TellsOutcome x outcome) = refl
performed_shown walk now session EndedRequest = refl
performed_shown walk now session Closed = refl
performed_shown walk now session Refused = refl
performed_shown walk now session (CallStopped replay called) = stopped_call_shown walk now session replay called
performed_shown walk now session (OutcomeStopped x) = refl

pub deed_shown : (base : Base) (walk : Walk) (one : Item) → deed_of base (shown_walk walk) one ≡ deed_of base walk one
deed_shown base walk (Did event now session thing) = ap (deed base walk) (performed_shown walk now session thing)
deed_shown base walk (AskTold event x outcome) = refl
deed_shown base walk (AskStopped event x) = refl

-- ---- the walk after an item

either_shown : (b : Bool) (x y : Walk) → cond b (shown_walk x) (shown_walk y) ≡ shown_walk (cond b x y)
either_shown true x y = refl
either_shown false x y = refl

pub entered_shown : (walk : Walk) (one : Item) → entered (shown_walk walk) one ≡ shown_walk (entered walk one)
entered_shown walk (Did event now session thing) =
    either_shown (nat_lt walk.numbers.incarnation session.incarnation) (record walk { numbers = opened walk.numbers session.incarnation; is_over = false }) walk
entered_shown walk (AskTold event x outcome) = refl
entered_shown walk (AskStopped event x) = refl

taken_shown : (stored left : List Entry) → take_entry (map shown_entry stored) (map shown_entry left) ≡ (map shown_entry (take_entry stored left).0, map shown_entry (take_entry stored left).1)
taken_shown stored [] = refl
taken_shown stored (e ∷ left) = ap (λ (l : List Entry). (l, map shown_entry left)) (sym (append_shown stored (e ∷ [])))

commits_shown : (commits : Bool) (walk : Walk) (writes : List Write) → if_commits commits (shown_walk walk) writes ≡ shown_walk (if_commits commits walk writes)
commits_shown false walk writes = refl
commits_shown true walk writes =
    ap (λ (taken : List Entry × List Entry). record walk { committed = with_writes walk.committed writes; stored = taken.0; left = taken.1 }) (taken_shown walk.stored walk.left)

after_deed_shown : (base : Base) (walk : Walk) (did : Deed) → after_deed base (shown_walk walk) did ≡ shown_walk (after_deed base walk did)
after_deed_shown base walk Nothing = refl
after_deed_shown base walk Meaningless = refl
after_deed_shown base walk (Ran performed meant) =
    let transaction = with_call walk performed meant in
    ap (λ (after : Walk). record after { sessions = with_transaction walk.sessions performed.session (if_ended (ends performed.answers) transaction) })
    (commits_shown (ends_committed performed.answers) (with_numbers base walk performed) transaction.writes)

told_shown : (walk : Walk) (x : Ltxid) (outcome : Outcome) → if_uncommitted (shown_walk walk) x outcome ≡ shown_walk (if_uncommitted walk x outcome)
told_shown walk x Uncommitted = refl
told_shown walk x (Committed completed) = refl
told_shown walk x (ServerAhead next) = refl
told_shown walk x (ClientAhead next) = refl
told_shown walk x (Forgotten horizon) = refl

stop_shown : (walk : Walk) (session : SessionId) (did : Deed) (replay : Bool) (called : Call)
    → after_thing (shown_walk walk) session did (CallStopped replay called) ≡ shown_walk (after_thing walk session did (CallStopped replay called))
stop_shown walk session Nothing replay called = refl
stop_shown walk session Meaningless replay called = refl
stop_shown walk session (Ran performed meant) replay called = refl

thing_shown : (walk : Walk) (session : SessionId) (did : Deed) (thing : Thing) → after_thing (shown_walk walk) session did thing ≡ shown_walk (after_thing walk session did thing)
thing_shown walk session did Connected = refl
thing_shown walk session did (Began settings) = refl
thing_shown walk session did (Called replay kept called answers draws) = refl
thing_shown walk session did (MetBlock replay called) = refl
thing_shown walk session did (TellsOutcome x outcome) = told_shown walk x outcome
thing_shown walk session did EndedRequest = refl
thing_shown walk session did Closed = refl
thing_shown walk session did Refused = refl
thing_shown walk session did (CallStopped replay called) = stop_shown walk session did replay called
thing_shown walk session did (OutcomeStopped x) = refl

pub after_shown : (base : Base) (walk : Walk) (one : Item) (did : Deed) → after base (shown_walk walk) one did ≡ shown_walk (after base walk one did)
after_shown base walk (Did event now session thing) did =
    ap (λ (w : Walk). after_thing w session did thing) (after_deed_shown base walk did) ∙ thing_shown (after_deed base walk did) session did thing
after_shown base walk (AskTold event x outcome) did = told_shown walk x outcome
after_shown base walk (AskStopped event x) did = refl
