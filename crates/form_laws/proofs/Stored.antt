-- What holds of each call that was served, and of each that ran from outside, holds of each call of
-- an entry.
use Rattle.std.proofs.Common.{◌≡◌, ◌∙◌, ℕ, ◌&&◌, Bool, true, false, not, List, [], ◌∷◌, Option, Some, None, refl, sym, ap, if◌then◌else◌}
use Rattle.std.specs.Prelude.{nat_lt}
use Rattle.std.specs.Cmp.Lexicographic.{pointwise, pointwise_decides}
use Rattle.std.specs.List.{list_all}
use Rattle.std.proofs.lemmas.Bool.{and_parts, and_from}
use Rattle.svc_values.specs.declared.call.Call.{Call}
use Rattle.svc_values.specs.declared.entry.Entry.{Entry}
use Rattle.svc_values.specs.declared.entry.Ltxid.{Ltxid}
use Rattle.svc_values.specs.declared.entry.Piece.{Piece}
use Rattle.svc_values.specs.declared.entry.SessionId.{SessionId}
use Rattle.svc_values.specs.declared.entry.Write.{Write}
use Rattle.svc_values.specs.meaning.Calls.{has_commit}
use Rattle.svc_values.specs.meaning.Endings.{ends_committed}
use Rattle.svc_values.specs.meaning.Identifiers.{same_ltxid, same_session}
use Rattle.svc_values.specs.meaning.Same.{same_piece}
use Rattle.svc_values.specs.SameLaws.{same_piece_decides}
use Rattle.stmt_meaning.specs.meaning.Meaning.{Meant}
use Rattle.stmt_meaning.specs.meaning.SerialTest.{is_nil}
use Rattle.run_clauses.specs.meaning.ServiceBase.{service_base}
use Rattle.server_model.specs.meaning.Base.{Base}
use Rattle.server_model.specs.meaning.Items.{Item, Did, AskTold, AskStopped, Outcome, Uncommitted, Thing, Began, Called, TellsOutcome, CallStopped}
use Rattle.server_model.specs.meaning.Legal.{all_stored, answers_hold, deed_holds, is_entry_of, is_first_entry, is_free, is_of_now, item_holds, items_hold, legal, lines_of, lines_stand, stores}
use Rattle.server_model.specs.meaning.NewValues.{opened}
use Rattle.server_model.specs.meaning.Walk.{Deed, Nothing, Meaningless, Performed, Ran, Transaction, Walk, after, after_deed, after_thing, begun, deed, deed_of, ends, entered, if_commits, if_ended, if_nothing, if_stands, if_uncommitted, meaning, next_of, performed_by, stands, take_entry, transaction_in, walk_of, with_call, with_meaning, with_numbers, with_transaction}
use Rattle.shown_clauses.specs.meaning.LegalItems.{items_of, outsides_fit}
use Rattle.world_model.proofs.Offered.{append_all, one_all}
use Rattle.form_laws.specs.Laws.{StoredCallsPass, entry_passes}
use Rattle.form_laws.proofs.Items.{items_so, plain_passes, thing_passes}

module _ (test : Call → Bool) where
  abbrev piece_passes : Piece → Bool
  piece_passes piece = test piece.call

  -- the calls of a transaction so far
  abbrev transaction_passes : Transaction → Bool
  transaction_passes transaction = list_all piece_passes transaction.pieces

  abbrev sessions_pass : List (SessionId × Transaction) → Bool
  sessions_pass sessions = list_all (λ pair. transaction_passes pair.1) sessions

  -- ---- sessions

  in_session : (sessions : List (SessionId × Transaction)) (session : SessionId) → sessions_pass sessions ≡ true → transaction_passes (transaction_in sessions session) ≡ true
  in_session [] session all = refl
  in_session (first ∷ rest) session all =
      let both = and_parts (transaction_passes first.1) (sessions_pass rest) all in by (same_session first.0 session) both.0 (in_session rest session both.1)
    where
      by : (own : Bool) → transaction_passes first.1 ≡ true → transaction_passes (transaction_in rest session) ≡ true → transaction_passes (if own then first.1 else transaction_in rest session) ≡ true
      by true here later = here
      by false here later = later

  put_session : (sessions : List (SessionId × Transaction)) (session : SessionId) (transaction : Transaction) → sessions_pass sessions ≡ true → transaction_passes transaction ≡ true
      → sessions_pass (with_transaction sessions session transaction) ≡ true
  put_session [] session transaction all here = and_from (transaction_passes transaction) true here refl
  put_session (first ∷ rest) session transaction all here =
      let both = and_parts (transaction_passes first.1) (sessions_pass rest) all in by (same_session first.0 session) both.0 both.1 (put_session rest session transaction both.1 here)
    where
      by : (own : Bool) → transaction_passes first.1 ≡ true → sessions_pass rest ≡ true → sessions_pass (with_transaction rest session transaction) ≡ true
          → sessions_pass (if own then (session, transaction) ∷ rest else first ∷ with_transaction rest session transaction) ≡ true
      by true first_passes others later = and_from (transaction_passes transaction) (sessions_pass rest) here others
      by false first_passes others later = and_from (transaction_passes first.1) (sessions_pass (with_transaction rest session transaction)) first_passes later

  ended_so : (over : Bool) (transaction : Transaction) → transaction_passes transaction ≡ true → transaction_passes (if_ended over transaction) ≡ true
  ended_so true transaction here = refl
  ended_so false transaction here = here

  grown_so : (walk : Walk) (performed : Performed) (meant : Meant) → sessions_pass walk.sessions ≡ true → test performed.called ≡ true → transaction_passes (with_call walk performed meant) ≡ true
  grown_so walk performed meant sessions here =
      append_all piece_passes (transaction_in walk.sessions performed.session).pieces (record { call = performed.called; answers = performed.answers; draws = performed.draws } ∷ [])
      (in_session walk.sessions performed.session sessions) (one_all piece_passes (record { call = performed.called; answers = performed.answers; draws = performed.draws }) here)

  -- ---- what an item performed

  abbrev PerformedPasses : Option Performed → Type 0
  PerformedPasses None = Unit {0}
  PerformedPasses (Some performed) = test performed.called ≡ true

  stands_so : (now : ℕ) (session : SessionId) (called : Call) (found : Option Piece) → test called ≡ true → PerformedPasses (if_stands now session called found)
  stands_so now session called None here = tt
  stands_so now session called (Some piece) here = here

  stopped_so : (walk : Walk) (now : ℕ) (session : SessionId) (replay : Bool) (called : Call) → test called ≡ true → PerformedPasses (performed_by walk now session (CallStopped replay called))
  stopped_so walk now session replay called here = by (has_commit called && not replay)
    where
      by : (commits : Bool) → PerformedPasses (if commits then if_stands now session called (stands (next_of walk session) walk.left) else None)
      by true = stands_so now session called (stands (next_of walk session) walk.left) here
      by false = tt

  performed_so : (walk : Walk) (now : ℕ) (session : SessionId) (thing : Thing) → thing_passes test thing ≡ true → PerformedPasses (performed_by walk now session thing)
  performed_so walk now session (Called replay kept called answers draws) here = here
  performed_so walk now session (CallStopped replay called) here = stopped_so walk now session replay called here
  performed_so walk now session thing here = tt

  abbrev DeedPasses : Deed → Type 0
  DeedPasses (Ran performed meant) = test performed.called ≡ true
  DeedPasses _ = Unit {0}

  meaning_so : (performed : Performed) (meant : Option Meant) → test performed.called ≡ true → DeedPasses (with_meaning performed meant)
  meaning_so performed None here = tt
  meaning_so performed (Some meant) here = here

  deed_so : (base : Base) (walk : Walk) (performed : Option Performed) → PerformedPasses performed → DeedPasses (deed base walk performed)
  deed_so base walk None here = tt
  deed_so base walk (Some performed) here = meaning_so performed (meaning base walk performed.session performed.called performed.draws) here

  -- ---- behind an item

  abbrev left_pass : Walk → Bool
  left_pass walk = list_all (entry_passes test) walk.left

  -- the sessions pass still, and where the entries that are left then pass, so do those that were
  -- left
  record GoesOn (before behind : Walk) : Type 0 where
    sessions : sessions_pass behind.sessions ≡ true
    left : left_pass behind ≡ true → left_pass before ≡ true

  -- the entry that is stored has the calls of its transaction
  first_so : (walk : Walk) (performed : Performed) (transaction : Transaction) (entry : Entry) → is_entry_of walk performed transaction entry ≡ true → transaction_passes transaction ≡ true → entry_passes test entry ≡ true
  first_so walk performed transaction entry is here =
      let pieces = and_parts (pointwise same_piece entry.pieces transaction.pieces) _ (and_parts (same_ltxid entry.ltxid (next_of walk performed.session)) _ is).1 in
      ap (list_all piece_passes) ((pointwise_decides same_piece_decides entry.pieces transaction.pieces).0 pieces.0) ∙ here

  -- the entries that are left behind a call
  abbrev behind_left : Bool → List Entry → List Entry → List Entry
  behind_left false stored left = left
  behind_left true stored left = (take_entry stored left).1

  left_is : (committed : Bool) (walk : Walk) (writes : List Write) → (if_commits committed walk writes).left ≡ behind_left committed walk.stored walk.left
  left_is false walk writes = refl
  left_is true walk writes = refl

  stored_so : (walk : Walk) (performed : Performed) (transaction : Transaction) (committed : Bool) (stored left : List Entry) → (if committed then is_first_entry walk performed transaction left else true) ≡ true
      → transaction_passes transaction ≡ true → list_all (entry_passes test) (behind_left committed stored left) ≡ true → list_all (entry_passes test) left ≡ true
  stored_so walk performed transaction false stored left is here rest = rest
  stored_so walk performed transaction true stored [] is here rest = refl
  stored_so walk performed transaction true stored (entry ∷ left) is here rest =
      and_from (entry_passes test entry) (list_all (entry_passes test) left) (first_so walk performed transaction entry is here) rest

  deed_goes : (base : Base) (walk : Walk) (did : Deed) → sessions_pass walk.sessions ≡ true → DeedPasses did → deed_holds base walk did ≡ true → GoesOn walk (after_deed base walk did)
  deed_goes base walk Nothing sessions here holds = record { sessions = sessions; left = λ rest. rest }
  deed_goes base walk Meaningless sessions here holds = record { sessions = sessions; left = λ rest. rest }
  deed_goes base walk (Ran performed meant) sessions here holds =
      let committed : Bool = ends_committed performed.answers in
      let transaction : Transaction = with_call walk performed meant in
      let passes : transaction_passes transaction ≡ true = grown_so walk performed meant sessions here in
      let answered = and_parts (answers_hold walk performed meant) _ (and_parts (is_nil meant.rest) _ holds).1 in
      let stored = and_parts (stores walk performed meant) _ (and_parts (is_free walk performed) _ answered.1).1 in
      record {
        sessions = put_session walk.sessions performed.session (if_ended (ends performed.answers) transaction) sessions (ended_so (ends performed.answers) transaction passes);
        left = λ rest. stored_so walk performed transaction committed walk.stored walk.left stored.0 passes
            (ap (list_all (entry_passes test)) (sym (left_is committed (with_numbers base walk performed) transaction.writes)) ∙ rest);
      }

  uncommitted_goes : (walk : Walk) (x : Ltxid) (outcome : Outcome) → sessions_pass walk.sessions ≡ true → GoesOn walk (if_uncommitted walk x outcome)
  uncommitted_goes walk x Uncommitted sessions = record { sessions = sessions; left = λ rest. rest }
  uncommitted_goes walk x outcome sessions = record { sessions = sessions; left = λ rest. rest }

  nothing_goes : (walk : Walk) (did : Deed) (called : Call) → sessions_pass walk.sessions ≡ true → GoesOn walk (if_nothing did walk called)
  nothing_goes walk Nothing called sessions = record { sessions = sessions; left = λ rest. rest }
  nothing_goes walk Meaningless called sessions = record { sessions = sessions; left = λ rest. rest }
  nothing_goes walk (Ran performed meant) called sessions = record { sessions = sessions; left = λ rest. rest }

  thing_goes : (walk : Walk) (session : SessionId) (did : Deed) (thing : Thing) → sessions_pass walk.sessions ≡ true → GoesOn walk (after_thing walk session did thing)
  thing_goes walk session did (Began settings) sessions = record { sessions = put_session walk.sessions session (begun settings) sessions refl; left = λ rest. rest }
  thing_goes walk session did (TellsOutcome x outcome) sessions = uncommitted_goes walk x outcome sessions
  thing_goes walk session did (CallStopped replay called) sessions =
      let goes = nothing_goes walk did called sessions in record { sessions = goes.sessions; left = goes.left }
  thing_goes walk session did thing sessions = record { sessions = sessions; left = λ rest. rest }

  entered_goes : (walk : Walk) (one : Item) → sessions_pass walk.sessions ≡ true → GoesOn walk (entered walk one)
  entered_goes walk (Did event now session thing) sessions = by (nat_lt walk.numbers.incarnation session.incarnation)
    where
      by : (later : Bool) → GoesOn walk (if later then record walk { numbers = opened walk.numbers session.incarnation; is_over = false } else walk)
      by true = record { sessions = sessions; left = λ rest. rest }
      by false = record { sessions = sessions; left = λ rest. rest }
  entered_goes walk (AskTold event x outcome) sessions = record { sessions = sessions; left = λ rest. rest }
  entered_goes walk (AskStopped event x) sessions = record { sessions = sessions; left = λ rest. rest }

  item_goes : (base : Base) (walk : Walk) (one : Item) → sessions_pass walk.sessions ≡ true → plain_passes test one ≡ true → item_holds base walk one (deed_of base walk one) ≡ true
      → GoesOn walk (after base walk one (deed_of base walk one))
  item_goes base walk (Did event now session thing) sessions here holds =
      let did : Deed = deed_of base walk (Did event now session thing) in
      let held = and_parts (deed_holds base walk did) _ (and_parts (is_of_now walk session) _ holds).1 in
      let deed = deed_goes base walk did sessions (deed_so base walk (performed_by walk now session thing) (performed_so walk now session thing here)) held.0 in
      let later = thing_goes (after_deed base walk did) session did thing deed.sessions in
      record { sessions = later.sessions; left = λ rest. deed.left (later.left rest) }
  item_goes base walk (AskTold event x outcome) sessions here holds = uncommitted_goes walk x outcome sessions
  item_goes base walk (AskStopped event x) sessions here holds = record { sessions = sessions; left = λ rest. rest }

  stored_left : (left : List Entry) → all_stored left ≡ true → list_all (entry_passes test) left ≡ true
  stored_left [] is = refl
  stored_left (entry ∷ left) is = absurd (let none : ⊥ = cc in none)

  items_go : (base : Base) (walk : Walk) (items : List Item) → sessions_pass walk.sessions ≡ true → list_all (plain_passes test) items ≡ true → items_hold base walk items ≡ true → left_pass walk ≡ true
  items_go base walk [] sessions pass holds = stored_left walk.left holds
  items_go base walk (one ∷ items) sessions pass holds =
      let passes = and_parts (plain_passes test one) (list_all (plain_passes test) items) pass in
      let here : Walk = entered walk one in
      let did : Deed = deed_of base here one in
      let first = entered_goes walk one sessions in
      let held = and_parts (item_holds base here one did) (items_hold base (after base here one did) items) holds in
      let goes = item_goes base here one first.sessions passes.0 held.0 in
      first.left (goes.left (items_go base (after base here one did) items goes.sessions passes.1 held.1))

pub stored_calls_pass : StoredCallsPass
stored_calls_pass test document report outsides served legally =
    let items = items_of document report in
    let judged = and_parts (outsides_fit document.schedule report.notes) (legal (service_base document) items report.entries report.alerts) legally in
    let held = and_parts (items_hold (service_base document) (walk_of (service_base document) report.entries) items) (lines_stand (lines_of items) report.alerts) judged.1 in
    items_go test (service_base document) (walk_of (service_base document) report.entries) items refl (items_so test document report outsides served) held.0
