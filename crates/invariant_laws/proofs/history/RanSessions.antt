-- Along the walk over legal items each entry of a session has the pieces of its session's
-- transaction of this number.
use Rattle.std.proofs.Common.{◌≡◌, refl, sym, ap, subst, ◌∙◌, ℕ, ◌+◌, ◌&&◌, ◌||◌, Bool, true, false, not, List, [], ◌∷◌, ◌++◌, length, map, Option, Some, None, if◌then◌else◌}
use Rattle.std.specs.List.{list_all}
use Rattle.std.specs.Option.{option_map_or}
use Rattle.std.proofs.lemmas.Bool.{and_from, or_left, or_right}
use Rattle.std.proofs.lemmas.List.{map-append, length_push}
use Rattle.std.proofs.lemmas.List.Folds.{list_all-append}
use Rattle.svc_values.specs.declared.answer.Answer.{Answer}
use Rattle.svc_values.specs.declared.answer.Answer.TheVariants as answer
use Rattle.svc_values.specs.declared.call.Call.{Call}
use Rattle.svc_values.specs.declared.call.Call.TheVariants as call
use Rattle.svc_values.specs.declared.draw.Draw.{Draw}
use Rattle.svc_values.specs.declared.entry.Entry.{Entry}
use Rattle.svc_values.specs.declared.entry.Ltxid.{Ltxid}
use Rattle.svc_values.specs.declared.entry.Piece.{Piece}
use Rattle.svc_values.specs.declared.entry.SessionId.{SessionId}
use Rattle.svc_values.specs.declared.frame.Up.{Up}
use Rattle.svc_values.specs.declared.value.Value.{Value}
use Rattle.svc_values.specs.meaning.Endings.{last_answer, ends_committed, is_committed, is_conflict, is_rolled_back}
use Rattle.svc_values.specs.meaning.Identifiers.{is_of, same_session}
use Rattle.svc_values.specs.meaning.Same.{same_piece, same_call}
use Rattle.svc_values.specs.SameLaws.{same_call_decides, same_piece_decides}
use Rattle.svc_values.specs.meaning.SettingsList.{same_settings, with_set}
use Rattle.outage_schedule.specs.declared.item.Item.{Item as ItemTold}
use Rattle.outage_schedule.specs.declared.item.Item.TheVariants as item
use Rattle.server_model.specs.meaning.Items.{Thing, Began, Called, CallStopped}
use Rattle.server_model.specs.meaning.Walk.{Transaction, begun, Walk, with_transaction, transaction_in, number_of, next_of, is_ending, ends, if_ended}
use Rattle.world_model.specs.meaning.Frames.{Sent}
use Rattle.invariant_laws.specs.Same.{ServedCall, Ran, begins, is_no_commit, did_all, with_call, ran_item, is_piece_of, are_pieces}
use Rattle.invariant_laws.specs.Shown.{is_call}
use Rattle.world_model.proofs.Offered.{weaker_all, session_self, same_session_is}
use Rattle.invariant_laws.proofs.history.RanFrames.{Deals, DealsBegin, DealsEnd, DealsCall, DealsStop, DealsQuietly, rests_behind, is_quiet_item, is_quiet_thing}
use Rattle.invariant_laws.proofs.history.RanWalks.{IsSameWalk, Stores, Takes, Keeps, Calls, Stops, IsStored, IsNothing, Moved, committed_ends}
use Rattle.invariant_laws.proofs.history.RanSettings.{IsBeside, set_beside, set_settings}
use Rattle.invariant_laws.proofs.history.RanLists.{IsMore, has_ran, is_its, last_ran, more_ran, number_other, number_own, other_ran}

-- TRANSACTIONS OF SESSIONS ------------------------------------------------------------------------

pub transaction_own : (sessions : List (SessionId × Transaction)) (session : SessionId) (transaction : Transaction) → transaction_in (with_transaction sessions session transaction) session ≡ transaction
transaction_own [] session transaction = ap (λ (test : Bool). if test then transaction else begun []) (session_self session)
transaction_own (first ∷ rest) session transaction = by (same_session first.0 session) refl (transaction_own rest session transaction)
  where
    by : (test : Bool) → same_session first.0 session ≡ test → transaction_in (with_transaction rest session transaction) session ≡ transaction
        → transaction_in (if test then (session, transaction) ∷ rest else first ∷ with_transaction rest session transaction) session ≡ transaction
    by true is again = ap (λ (test : Bool). if test then transaction else transaction_in rest session) (session_self session)
    by false is again = ap (λ (test : Bool). if test then first.1 else transaction_in (with_transaction rest session transaction) session) is ∙ again

transaction_other : (sessions : List (SessionId × Transaction)) (other session : SessionId) (transaction : Transaction) → same_session other session ≡ false → transaction_in (with_transaction sessions other transaction) session ≡ transaction_in sessions session
transaction_other [] other session transaction apart = ap (λ (test : Bool). if test then transaction else begun []) apart
transaction_other (first ∷ rest) other session transaction apart = by (same_session first.0 other) refl (transaction_other rest other session transaction apart)
  where
    by : (test : Bool) → same_session first.0 other ≡ test → transaction_in (with_transaction rest other transaction) session ≡ transaction_in rest session
        → transaction_in (if test then (other, transaction) ∷ rest else first ∷ with_transaction rest other transaction) session ≡ (if same_session first.0 session then first.1 else transaction_in rest session)
    by true is again =
        ap (λ (test : Bool). if test then transaction else transaction_in rest session) apart
        ∙ sym (ap (λ (test : Bool). if test then first.1 else transaction_in rest session) (ap (λ (s : SessionId). same_session s session) (same_session_is first.0 other is) ∙ apart))
    by false is again = ap (λ (found : Transaction). if same_session first.0 session then first.1 else found) again

-- WHERE A SESSION STANDS --------------------------------------------------------------------------

abbrev pub StoredRight : Walk → SessionId → Ran → Type 0
StoredRight walk session ran = list_all (has_ran session ran) walk.stored ≡ true

abbrev pub pieces_of : List ServedCall → List Piece
pieces_of dids = map (λ did. did.piece) dids

-- what is open is the walk's transaction
pub record IsNow (transaction : Transaction) (ran : Ran) : Type 0 where
  pub pieces : transaction.pieces ≡ pieces_of ran.pieces
  pub settings : transaction.settings ≡ ran.settings
  pub at_start : transaction.at_start ≡ ran.at_start

-- It has an entry for each transaction that is over; what is open is the walk's transaction, but
-- between requests.
pub record Stands (walk : Walk) (session : SessionId) (ran : Ran) (resting : Bool) : Type 0 where
  pub count : number_of walk.stored session ≡ length ran.over
  pub many : length ran.starts ≡ length ran.over
  pub now : resting ≡ false → IsNow (transaction_in walk.sessions session) ran
  pub all : StoredRight walk session ran

pub same_stored : (walk later : Walk) (session : SessionId) (ran : Ran) → later.stored ≡ walk.stored → StoredRight walk session ran → StoredRight later session ran
same_stored walk later session ran same all = ap (list_all (has_ran session ran)) same ∙ all

now_same : (a b : Transaction) (ran : Ran) → b ≡ a → IsNow a ran → IsNow b ran
now_same a b ran same now = subst (λ (transaction : Transaction). IsNow transaction ran) (sym same) now

pub same_stands : (walk later : Walk) (session : SessionId) (ran : Ran) (resting : Bool) → IsSameWalk walk later → Stands walk session ran resting → Stands later session ran resting
same_stands walk later session ran resting same stands = record {
  count = ap (λ (stored : List Entry). number_of stored session) same.stored ∙ stands.count;
  many = stands.many;
  now = λ is. now_same (transaction_in walk.sessions session) (transaction_in later.sessions session) ran (ap (λ (sessions : List (SessionId × Transaction)). transaction_in sessions session) same.sessions) (stands.now is);
  all = same_stored walk later session ran same.stored stands.all;
}

-- ANOTHER SESSION'S ITEM --------------------------------------------------------------------------

-- what an item of another session leaves
pub record IsOthers (walk later : Walk) (session : SessionId) : Type 0 where
  pub count : number_of later.stored session ≡ number_of walk.stored session
  pub transaction : transaction_in later.sessions session ≡ transaction_in walk.sessions session
  pub all : (ran : Ran) → StoredRight walk session ran → StoredRight later session ran

same_others : (walk later : Walk) (session : SessionId) → IsSameWalk walk later → IsOthers walk later session
same_others walk later session same = record {
  count = ap (λ (stored : List Entry). number_of stored session) same.stored;
  transaction = ap (λ (sessions : List (SessionId × Transaction)). transaction_in sessions session) same.sessions;
  all = λ ran all. same_stored walk later session ran same.stored all;
}

calls_others : (walk later : Walk) (other session : SessionId) (called : Call) (answers : List Answer) (draws : List Draw) → same_session other session ≡ false → Calls walk later other called answers draws → IsOthers walk later session
calls_others walk later other session called answers draws apart calls = by (ends_committed answers) calls.stores
  where
    transaction_is : transaction_in later.sessions session ≡ transaction_in walk.sessions session
    transaction_is = ap (λ (sessions : List (SessionId × Transaction)). transaction_in sessions session) calls.sessions ∙ transaction_other walk.sessions other session (if_ended (ends answers) calls.made) apart

    by : (test : Bool) → Stores walk later other calls.made test → IsOthers walk later session
    by _ (Keeps stored left) = record {
      count = ap (λ (all : List Entry). number_of all session) stored;
      transaction = transaction_is;
      all = λ ran all. same_stored walk later session ran stored all;
    }
    by _ (Takes entry rest left stored gone named pieces start) =
        let foreign : is_its session entry ≡ false = ap (λ (x : Ltxid). is_of x session.incarnation session.session) named ∙ apart in
        record {
          count = ap (λ (all : List Entry). number_of all session) stored ∙ number_other walk.stored entry session foreign;
          transaction = transaction_is;
          all = λ ran all.
              ap (list_all (has_ran session ran)) stored ∙ list_all-append (has_ran session ran) walk.stored (entry ∷ [])
              ∙ and_from (list_all (has_ran session ran) walk.stored) (list_all (has_ran session ran) (entry ∷ [])) all (and_from (has_ran session ran entry) true (other_ran session ran entry foreign) refl);
        }

pub moved_others : (walk later : Walk) (other session : SessionId) (thing : Thing) → same_session other session ≡ false → Moved walk later other thing → IsOthers walk later session
moved_others walk later other session (Began settings) apart moved = record {
  count = ap (λ (stored : List Entry). number_of stored session) moved.stored;
  transaction = ap (λ (sessions : List (SessionId × Transaction)). transaction_in sessions session) moved.sessions ∙ transaction_other walk.sessions other session (begun settings) apart;
  all = λ ran all. same_stored walk later session ran moved.stored all;
}
moved_others walk later other session (Called replay kept called answers draws) apart moved = calls_others walk later other session called answers draws apart moved
moved_others walk later other session (CallStopped replay called) apart (IsStored answers draws calls) = calls_others walk later other session called answers draws apart calls
moved_others walk later other session (CallStopped replay called) apart (IsNothing same) = same_others walk later session same
moved_others walk later other session thing apart moved = same_others walk later session moved

pub others_stored : (walk later : Walk) (other session : SessionId) (thing : Thing) (ran : Ran) → same_session other session ≡ false → Moved walk later other thing → StoredRight walk session ran → StoredRight later session ran
others_stored walk later other session thing ran apart moved all = (moved_others walk later other session thing apart moved).all ran all

pub others_stand : (walk later : Walk) (other session : SessionId) (thing : Thing) (ran : Ran) (resting : Bool) → same_session other session ≡ false → Moved walk later other thing → Stands walk session ran resting → Stands later session ran resting
others_stand walk later other session thing ran resting apart moved stands =
    let so = moved_others walk later other session thing apart moved in
    record {
      count = so.count ∙ stands.count;
      many = stands.many;
      now = λ is. now_same (transaction_in walk.sessions session) (transaction_in later.sessions session) ran so.transaction (stands.now is);
      all = so.all ran stands.all;
    }

-- ITS OWN ITEM ------------------------------------------------------------------------------------

own_piece : (did : ServedCall) → same_piece did.piece did.piece ≡ true
own_piece did = (same_piece_decides did.piece did.piece).1 refl

pieces_own : (dids : List ServedCall) → are_pieces dids (pieces_of dids) ≡ true
pieces_own [] = refl
pieces_own (did ∷ []) = or_left (same_piece did.piece did.piece) _ (own_piece did)
pieces_own (did ∷ next ∷ dids) = and_from (same_piece did.piece did.piece) (are_pieces (next ∷ dids) (pieces_of (next ∷ dids))) (own_piece did) (pieces_own (next ∷ dids))

pieces_more : (dids : List ServedCall) (did : ServedCall) (piece : Piece) → is_piece_of did piece ≡ true → are_pieces (dids ++ did ∷ []) (pieces_of dids ++ piece ∷ []) ≡ true
pieces_more [] did piece is = is
pieces_more (first ∷ []) did piece is = and_from (same_piece first.piece first.piece) (are_pieces (did ∷ []) (piece ∷ [])) (own_piece first) is
pieces_more (first ∷ next ∷ dids) did piece is =
    and_from (same_piece first.piece first.piece) (are_pieces ((next ∷ dids) ++ did ∷ []) (pieces_of (next ∷ dids) ++ piece ∷ [])) (own_piece first) (pieces_more (next ∷ dids) did piece is)

ending_same : (last : Option Answer) → option_map_or is_ending last false ≡ (option_map_or (λ a. is_committed a || (is_conflict a || is_rolled_back a)) last false || option_map_or is_no_commit last false)
ending_same None = refl
ending_same (Some answer.Committed) = refl
ending_same (Some answer.Conflict) = refl
ending_same (Some answer.RolledBack) = refl
ending_same (Some answer.CommitInReplay) = refl
ending_same (Some other) = refl

pub over_same : (ran : Ran) (called : Call) → (with_call ran called).over ≡ ran.over
over_same ran (call.Set name x) = refl
over_same ran called = refl

-- the entry that a call of this session stores
own_entry : (walk : Walk) (session : SessionId) (entry : Entry) → entry.ltxid ≡ next_of walk session → is_its session entry ≡ true
own_entry walk session entry named = ap (λ (x : Ltxid). is_of x session.incarnation session.session) named ∙ session_self session

more_stored : (walk later : Walk) (session : SessionId) (ran behind : Ran) (dids : List ServedCall) (start : List (List ℕ × Value)) (entry : Entry) → IsMore ran behind dids start → length ran.starts ≡ length ran.over → number_of walk.stored session ≡ length ran.over
    → StoredRight walk session ran → later.stored ≡ walk.stored ++ entry ∷ [] → entry.ltxid ≡ next_of walk session → are_pieces dids entry.pieces ≡ true → same_settings entry.settings start ≡ true → StoredRight later session behind
more_stored walk later session ran behind dids start entry more many count all stored named pieces settings =
    ap (list_all (has_ran session behind)) stored ∙ list_all-append (has_ran session behind) walk.stored (entry ∷ [])
    ∙ and_from (list_all (has_ran session behind) walk.stored) (list_all (has_ran session behind) (entry ∷ []))
    (weaker_all (has_ran session ran) (has_ran session behind) walk.stored (more_ran session ran behind dids start more) all)
    (and_from (has_ran session behind entry) true (last_ran session ran behind dids start entry more many (own_entry walk session entry named) (ap (λ (x : Ltxid). x.number) named ∙ count) pieces settings) refl)

-- a `set` is beside what is over
set_right : (walk : Walk) (session : SessionId) (ran : Ran) (called : Call) → StoredRight walk session ran → StoredRight walk session (with_call ran called)
set_right walk session ran (call.Set name x) all = all
set_right walk session ran called all = all

begun_right : (walk : Walk) (session : SessionId) (ran : Ran) → StoredRight walk session ran → StoredRight walk session (begins ran)
begun_right walk session ran all = all

call_stands : (walk later : Walk) (session : SessionId) (ran : Ran) (sent : Sent) (marked : Bool) (called : Call) (answers : List Answer) (draws : List Draw) → Calls walk later session called answers draws → Stands walk session ran false
    → Stands later session (ran_item ran sent (item.Call marked called answers draws)) false
call_stands walk later session ran sent marked called answers draws calls stands =
    subst (λ (ended : Bool). Stands later session (did_all behind (ends_committed answers) ended dids) false) (ending_same (last_answer answers))
    (by (ends_committed answers) (ends answers) (committed_ends (last_answer answers)) calls.stores calls.sessions)
  where
    did : ServedCall
    did = record { sent = sent; mark = marked; piece = record { call = called; answers = answers; draws = draws } }

    dids : List ServedCall
    dids = ran.pieces ++ did ∷ []

    behind : Ran
    behind = with_call ran called

    beside : IsBeside ran called
    beside = set_beside ran called

    was : IsNow (transaction_in walk.sessions session) ran
    was = stands.now refl

    count_is : number_of walk.stored session ≡ length behind.over
    count_is = stands.count ∙ ap length (sym beside.over)

    many_is : length behind.starts ≡ length behind.over
    many_is = ap length beside.starts ∙ stands.many ∙ ap length (sym beside.over)

    all_is : StoredRight walk session behind
    all_is = set_right walk session ran called stands.all

    made_is : calls.made.pieces ≡ pieces_of dids
    made_is = calls.pieces ∙ ap (λ (pieces : List Piece). pieces ++ did.piece ∷ []) was.pieces ∙ sym (map-append (λ (d : ServedCall). d.piece) ran.pieces (did ∷ []))

    settings_is : calls.made.settings ≡ behind.settings
    settings_is = calls.settings ∙ ap (λ (settings : List (List ℕ × Value)). with_set settings called) was.settings ∙ sym (set_settings ran called)

    start_is : calls.made.at_start ≡ behind.at_start
    start_is = calls.at_start ∙ was.at_start ∙ sym beside.at_start

    open_is : (transaction : Transaction) (made : Ran) → later.sessions ≡ with_transaction walk.sessions session transaction → IsNow transaction made → IsNow (transaction_in later.sessions session) made
    open_is transaction made is now =
        now_same transaction (transaction_in later.sessions session) made (ap (λ (sessions : List (SessionId × Transaction)). transaction_in sessions session) is ∙ transaction_own walk.sessions session transaction) now

    begun_is : (made : Ran) → made.pieces ≡ [] → made.settings ≡ behind.settings → made.at_start ≡ behind.settings → IsNow (begun calls.made.settings) made
    begun_is made none settings start = record { pieces = sym (ap pieces_of none); settings = settings_is ∙ sym settings; at_start = settings_is ∙ sym start }

    by : (committed ended : Bool) → (committed ≡ true → ended ≡ true) → Stores walk later session calls.made committed → later.sessions ≡ with_transaction walk.sessions session (if_ended ended calls.made)
        → Stands later session (did_all behind committed ended dids) false
    by true true also (Takes entry rest left stored gone named pieces start) sessions = record {
      count = ap (λ (all : List Entry). number_of all session) stored ∙ number_own walk.stored entry session (own_entry walk session entry named) ∙ ap (λ (n : ℕ). n + 1) count_is ∙ sym (length_push behind.over dids);
      many = length_push behind.starts behind.at_start ∙ ap (λ (n : ℕ). n + 1) many_is ∙ sym (length_push behind.over dids);
      now = λ is. open_is (begun calls.made.settings) (did_all behind true true dids) sessions (begun_is (did_all behind true true dids) refl refl refl);
      all = more_stored walk later session behind (did_all behind true true dids) dids behind.at_start entry (record { over = refl; starts = refl }) many_is count_is all_is stored named (ap (are_pieces dids) (pieces ∙ made_is) ∙ pieces_own dids)
          (ap (same_settings entry.settings) (sym start_is) ∙ start);
    }
    by true false also stores sessions = absurd (let so : false ≡ true = also refl in let never : ⊥ = cc in never)
    by false true also (Keeps stored left) sessions = record {
      count = ap (λ (all : List Entry). number_of all session) stored ∙ count_is;
      many = many_is;
      now = λ is. open_is (begun calls.made.settings) (begins behind) sessions (begun_is (begins behind) refl refl refl);
      all = begun_right later session behind (same_stored walk later session behind stored all_is);
    }
    by false false also (Keeps stored left) sessions = record {
      count = ap (λ (all : List Entry). number_of all session) stored ∙ count_is;
      many = many_is;
      now = λ is. open_is calls.made (did_all behind false false dids) sessions (record { pieces = made_is; settings = settings_is; at_start = start_is });
      all = same_stored walk later session behind stored all_is;
    }

stop_stored : (walk later : Walk) (session : SessionId) (ran : Ran) (sent : Sent) (marked : Bool) (called : Call) → Stops walk later session called → Stands walk session ran false
    → StoredRight later session (ran_item ran sent (item.CrashedCall marked called))
stop_stored walk later session ran sent marked called stops stands = by stops
  where
    did : ServedCall
    did = record { sent = sent; mark = marked; piece = record { call = called; answers = []; draws = [] } }

    behind : Ran
    behind = ran_item ran sent (item.CrashedCall marked called)

    more : IsMore ran behind (ran.pieces ++ did ∷ []) ran.at_start
    more = record { over = refl; starts = refl }

    none_more : later.stored ≡ walk.stored → StoredRight later session behind
    none_more same = same_stored walk later session behind same (weaker_all (has_ran session ran) (has_ran session behind) walk.stored (more_ran session ran behind (ran.pieces ++ did ∷ []) ran.at_start more) stands.all)

    stored_by : (answers : List Answer) (draws : List Draw) (made : Transaction) (test : Bool) → made.pieces ≡ (transaction_in walk.sessions session).pieces ++ record { call = called; answers = answers; draws = draws } ∷ []
        → made.at_start ≡ (transaction_in walk.sessions session).at_start → Stores walk later session made test → StoredRight later session behind
    stored_by answers draws made _ is from (Keeps stored left) = none_more stored
    stored_by answers draws made _ is from (Takes entry rest left stored gone named pieces start) =
        let piece : Piece = record { call = called; answers = answers; draws = draws } in
        let now : IsNow (transaction_in walk.sessions session) ran = stands.now refl in
        more_stored walk later session ran behind (ran.pieces ++ did ∷ []) ran.at_start entry more stands.many stands.count stands.all stored named
        (ap (are_pieces (ran.pieces ++ did ∷ [])) (pieces ∙ is ∙ ap (λ (all : List Piece). all ++ piece ∷ []) now.pieces)
        ∙ pieces_more ran.pieces did piece (or_right (same_piece did.piece piece) (same_call called called) ((same_call_decides called called).1 refl)))
        (ap (same_settings entry.settings) (sym (from ∙ now.at_start)) ∙ start)

    by : Stops walk later session called → StoredRight later session behind
    by (IsNothing same) = none_more same.stored
    by (IsStored answers draws calls) = stored_by answers draws calls.made (ends_committed answers) calls.pieces calls.at_start calls.stores

pub quiet_item : (ran : Ran) (sent : Sent) (one : ItemTold) → is_quiet_item one ≡ true → ran_item ran sent one ≡ ran
quiet_item ran sent (item.Begin settings) is = absurd (let never : ⊥ = cc in never)
quiet_item ran sent item.End is = absurd (let never : ⊥ = cc in never)
quiet_item ran sent (item.Call marked called answers draws) is = absurd (let never : ⊥ = cc in never)
quiet_item ran sent (item.CrashedCall marked called) is = absurd (let never : ⊥ = cc in never)
quiet_item ran sent one is = refl

pub quiet_same : (walk later : Walk) (session : SessionId) (thing : Thing) → is_quiet_thing thing ≡ true → Moved walk later session thing → IsSameWalk walk later
quiet_same walk later session (Began settings) is moved = absurd (let never : ⊥ = cc in never)
quiet_same walk later session (Called replay kept called answers draws) is moved = absurd (let never : ⊥ = cc in never)
quiet_same walk later session (CallStopped replay called) is moved = absurd (let never : ⊥ = cc in never)
quiet_same walk later session thing is moved = moved

-- It goes on, or the call was stopped: then the session serves nothing more.
pub data GoesTo (later : Walk) (session : SessionId) (ran : Ran) (resting : Bool) (one : ItemTold) : Type 0 where
  GoesOn : Stands later session ran resting → GoesTo later session ran resting one
  IsDone : (marked : Bool) (called : Call) → one ≡ item.CrashedCall marked called → StoredRight later session ran → GoesTo later session ran resting one

serves_call : (resting : Bool) → not (resting && true) ≡ true → resting ≡ false
serves_call true is = absurd (let never : ⊥ = cc in never)
serves_call false is = refl

pub own_stands : (walk later : Walk) (session : SessionId) (ran : Ran) (resting : Bool) (sent : Sent) (frame : Up) (thing : Thing) (one : ItemTold) → Deals frame thing one → not (resting && is_call frame) ≡ true → Moved walk later session thing → Stands walk session ran resting
    → GoesTo later session (ran_item ran sent one) (rests_behind resting frame) one
own_stands walk later session ran resting sent _ _ _ (DealsBegin settings) calls moved stands = GoesOn (record {
  count = ap (λ (stored : List Entry). number_of stored session) moved.stored ∙ stands.count;
  many = stands.many;
  now = λ is.
      now_same (begun settings) (transaction_in later.sessions session) (ran_item ran sent (item.Begin settings))
      (ap (λ (sessions : List (SessionId × Transaction)). transaction_in sessions session) moved.sessions ∙ transaction_own walk.sessions session (begun settings)) (record { pieces = refl; settings = refl; at_start = refl });
  all = same_stored walk later session ran moved.stored stands.all;
})
own_stands walk later session ran resting sent _ _ _ DealsEnd calls moved stands = GoesOn (record {
  count = ap (λ (stored : List Entry). number_of stored session) moved.stored ∙ stands.count;
  many = stands.many;
  now = λ is. absurd (let never : ⊥ = cc in never);
  all = same_stored walk later session ran moved.stored stands.all;
})
own_stands walk later session ran resting sent _ _ _ (DealsCall replay marked kept called answers draws) calls moved stands =
    let serving : resting ≡ false = serves_call resting calls in
    GoesOn (subst (Stands later session (ran_item ran sent (item.Call marked called answers draws))) (sym serving) (call_stands walk later session ran sent marked called answers draws moved (subst (Stands walk session ran) serving stands)))
own_stands walk later session ran resting sent _ _ _ (DealsStop replay marked kept called) calls moved stands =
    IsDone marked called refl (stop_stored walk later session ran sent marked called moved (subst (Stands walk session ran) (serves_call resting calls) stands))
own_stands walk later session ran resting sent _ _ _ (DealsQuietly frame thing one same quiet none) calls moved stands =
    GoesOn (subst (λ (r : Ran). Stands later session r (rests_behind resting frame)) (sym (quiet_item ran sent one none))
    (subst (Stands later session ran) (sym (same resting)) (same_stands walk later session ran resting (quiet_same walk later session thing quiet moved) stands)))
