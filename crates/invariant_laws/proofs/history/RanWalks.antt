-- What an item does to the entries that are stored and to the transactions of sessions, along the
-- walk over legal items.
use Rattle.std.proofs.Common.{◌≡◌, refl, sym, ap, subst, ◌∙◌, ℕ, ◌&&◌, Bool, true, false, not, List, [], ◌∷◌, ◌++◌, Option, Some, None, if◌then◌else◌}
use Rattle.std.specs.Prelude.{nat_lt}
use Rattle.std.specs.Option.{option_map_or}
use Rattle.std.specs.Cmp.Lexicographic.{pointwise, pointwise_decides}
use Rattle.std.proofs.lemmas.Bool.{and_parts}
use Rattle.svc_values.specs.declared.answer.Answer.{Answer}
use Rattle.svc_values.specs.declared.answer.Answer.TheVariants as answer
use Rattle.svc_values.specs.declared.call.Call.{Call}
use Rattle.svc_values.specs.declared.draw.Draw.{Draw}
use Rattle.svc_values.specs.declared.entry.Entry.{Entry}
use Rattle.svc_values.specs.declared.entry.Ltxid.{Ltxid}
use Rattle.svc_values.specs.declared.entry.Piece.{Piece}
use Rattle.svc_values.specs.declared.entry.SessionId.{SessionId}
use Rattle.svc_values.specs.declared.value.Value.{Value}
use Rattle.svc_values.specs.meaning.Calls.{has_commit}
use Rattle.svc_values.specs.meaning.Endings.{is_committed, ends_committed}
use Rattle.svc_values.specs.meaning.Identifiers.{same_ltxid}
use Rattle.svc_values.specs.meaning.Same.{same_piece}
use Rattle.svc_values.specs.meaning.SettingsList.{same_settings, with_set}
use Rattle.svc_values.specs.SameLaws.{same_ltxid_decides, same_piece_decides}
use Rattle.stmt_meaning.specs.meaning.Meaning.{Meant}
use Rattle.stmt_meaning.specs.meaning.SerialTest.{is_nil}
use Rattle.server_model.specs.meaning.Base.{Base}
use Rattle.server_model.specs.meaning.Items.{Thing, Began, Called, MetBlock, TellsOutcome, CallStopped, OutcomeStopped, Outcome, Uncommitted, Item, Did, AskTold, AskStopped}
use Rattle.server_model.specs.meaning.Legal.{answers_hold, is_free, is_first_entry, stores, draws_hold, deed_holds, is_of_now, item_holds}
use Rattle.server_model.specs.meaning.NewValues.{opened}
use Rattle.server_model.specs.meaning.Walk.{Transaction, begun, Walk, with_transaction, transaction_in, next_of, Performed, stands, if_stands, performed_by, Deed, Ran, meaning, deed, with_meaning, deed_of, is_ending, ends, with_call, if_ended, take_entry, if_commits, with_numbers, stopped, after_deed, if_uncommitted, if_nothing, entered, after, view}
use Rattle.world_model.proofs.Offered.{same_some}
use Rattle.invariant_laws.proofs.history.RanSettings.{mean_settings}

-- what ends with Committed ends a transaction
pub committed_ends : (last : Option Answer) → option_map_or is_committed last false ≡ true → option_map_or is_ending last false ≡ true
committed_ends None is = is
committed_ends (Some answer.Committed) is = refl
committed_ends (Some other) is = absurd (let never : ⊥ = cc in never)

-- the entries and transactions are as before
pub record IsSameWalk (walk later : Walk) : Type 0 where
  pub stored : later.stored ≡ walk.stored
  pub left : later.left ≡ walk.left
  pub sessions : later.sessions ≡ walk.sessions

pub enters : (walk : Walk) (item : Item) → IsSameWalk walk (entered walk item)
enters walk (Did event now session thing) = by (nat_lt walk.numbers.incarnation session.incarnation)
  where
    by : (test : Bool) → IsSameWalk walk (if test then record walk { numbers = opened walk.numbers session.incarnation; is_over = false } else walk)
    by true = record { stored = refl; left = refl; sessions = refl }
    by false = record { stored = refl; left = refl; sessions = refl }
enters walk (AskTold event x outcome) = record { stored = refl; left = refl; sessions = refl }
enters walk (AskStopped event x) = record { stored = refl; left = refl; sessions = refl }

pub tells_same : (walk : Walk) (x : Ltxid) (outcome : Outcome) → IsSameWalk walk (if_uncommitted walk x outcome)
tells_same walk x Uncommitted = record { stored = refl; left = refl; sessions = refl }
tells_same walk x outcome = record { stored = refl; left = refl; sessions = refl }

-- A CALL ------------------------------------------------------------------------------------------

-- The entry that comes next is stored exactly where the call commits: it is the session's next one,
-- with the pieces of the transaction, and the settings at its start.
pub data Stores (walk later : Walk) (session : SessionId) (made : Transaction) : Bool → Type 0 where
  Takes : (entry : Entry) (left : List Entry) → walk.left ≡ entry ∷ left → later.stored ≡ walk.stored ++ entry ∷ [] → later.left ≡ left → entry.ltxid ≡ next_of walk session → entry.pieces ≡ made.pieces
      → same_settings entry.settings made.at_start ≡ true → Stores walk later session made true
  Keeps : later.stored ≡ walk.stored → later.left ≡ walk.left → Stores walk later session made false

-- the transaction has the call as its last piece, and the settings that a `set` changes; it is over
-- or goes on
pub record Calls (walk later : Walk) (session : SessionId) (call : Call) (answers : List Answer) (draws : List Draw) : Type 0 where
  pub made : Transaction
  pub pieces : made.pieces ≡ (transaction_in walk.sessions session).pieces ++ record { call = call; answers = answers; draws = draws } ∷ []
  pub settings : made.settings ≡ with_set (transaction_in walk.sessions session).settings call
  pub at_start : made.at_start ≡ (transaction_in walk.sessions session).at_start
  pub sessions : later.sessions ≡ with_transaction walk.sessions session (if_ended (ends answers) made)
  pub stores : Stores walk later session made (ends_committed answers)

pub record Begins (walk later : Walk) (session : SessionId) (settings : List (List ℕ × Value)) : Type 0 where
  pub stored : later.stored ≡ walk.stored
  pub left : later.left ≡ walk.left
  pub sessions : later.sessions ≡ with_transaction walk.sessions session (begun settings)

-- a call that was stopped is as if it had been answered, or did nothing
pub data Stops (walk later : Walk) (session : SessionId) (call : Call) : Type 0 where
  IsStored : (answers : List Answer) (draws : List Draw) → Calls walk later session call answers draws → Stops walk later session call
  IsNothing : IsSameWalk walk later → Stops walk later session call

abbrev pub Moved : Walk → Walk → SessionId → Thing → Type 0
Moved walk later session (Began settings) = Begins walk later session settings
Moved walk later session (Called replay kept call answers draws) = Calls walk later session call answers draws
Moved walk later session (CallStopped replay call) = Stops walk later session call
Moved walk later session _ = IsSameWalk walk later

module _ (base : Base) (walk : Walk) where
  takes : (performed : Performed) (meant : Meant) (left : List Entry) → walk.left ≡ left → is_first_entry walk performed (with_call walk performed meant) left ≡ true → (writes : List _) (later : Walk)
      → later.stored ≡ (if_commits true (with_numbers base walk performed) writes).stored → later.left ≡ (if_commits true (with_numbers base walk performed) writes).left
      → Stores walk later performed.session (with_call walk performed meant) true
  takes performed meant [] is first writes later stored gone = absurd (let never : ⊥ = cc in never)
  takes performed meant (entry ∷ left) is first writes later stored gone =
      let named = and_parts (same_ltxid entry.ltxid (next_of walk performed.session)) _ first in
      let pieces = and_parts (pointwise same_piece entry.pieces (with_call walk performed meant).pieces) _ named.1 in
      let start = and_parts (same_settings entry.settings (with_call walk performed meant).at_start) _ pieces.1 in
      let taken = ap (λ (all : List Entry). take_entry walk.stored all) is in
      Takes entry left is (stored ∙ ap (λ pair. pair.0) taken) (gone ∙ ap (λ pair. pair.1) taken)
      ((same_ltxid_decides entry.ltxid (next_of walk performed.session)).0 named.0) ((pointwise_decides same_piece_decides entry.pieces (with_call walk performed meant).pieces).0 pieces.0) start.0

  ran_calls : (performed : Performed) (meant : Meant) → meaning base walk performed.session performed.called performed.draws ≡ Some meant → stores walk performed meant ≡ true → Calls walk (after_deed base walk (Ran performed meant)) performed.session performed.called performed.answers performed.draws
  ran_calls performed meant means stored = record {
    made = with_call walk performed meant;
    pieces = refl;
    settings = mean_settings base.shape (view walk performed.session) (transaction_in walk.sessions performed.session).settings performed.called performed.draws meant means;
    at_start = refl;
    sessions = refl;
    stores = by (ends_committed performed.answers) refl;
  }
    where
      by : (test : Bool) → ends_committed performed.answers ≡ test → Stores walk (after_deed base walk (Ran performed meant)) performed.session (with_call walk performed meant) (ends_committed performed.answers)
      by true is = subst (Stores walk (after_deed base walk (Ran performed meant)) performed.session (with_call walk performed meant)) (sym is)
          (takes performed meant walk.left refl (sym (ap (λ (test : Bool). if test then is_first_entry walk performed (with_call walk performed meant) walk.left else true) is) ∙ stored) (with_call walk performed meant).writes
          (after_deed base walk (Ran performed meant))
          (ap (λ (test : Bool). (if_commits test (with_numbers base walk performed) (with_call walk performed meant).writes).stored) is) (ap (λ (test : Bool). (if_commits test (with_numbers base walk performed) (with_call walk performed meant).writes).left) is))
      by false is = subst (Stores walk (after_deed base walk (Ran performed meant)) performed.session (with_call walk performed meant)) (sym is)
          (Keeps (ap (λ (test : Bool). (if_commits test (with_numbers base walk performed) (with_call walk performed meant).writes).stored) is) (ap (λ (test : Bool). (if_commits test (with_numbers base walk performed) (with_call walk performed meant).writes).left) is))

  -- a call that held, and what of it is left afterwards
  performed_calls : (performed : Performed) → deed_holds base walk (deed base walk (Some performed)) ≡ true
      → (meant : Meant) × ((deed base walk (Some performed) ≡ Ran performed meant) × Calls walk (after_deed base walk (Ran performed meant)) performed.session performed.called performed.answers performed.draws)
  performed_calls performed holds = by (meaning base walk performed.session performed.called performed.draws) refl holds
    where
      by : (meant : Option Meant) → meaning base walk performed.session performed.called performed.draws ≡ meant → deed_holds base walk (with_meaning performed meant) ≡ true
          → (meant : Meant) × ((deed base walk (Some performed) ≡ Ran performed meant) × Calls walk (after_deed base walk (Ran performed meant)) performed.session performed.called performed.answers performed.draws)
      by None is holds = absurd (let never : ⊥ = cc in never)
      by (Some meant) is holds =
          let two = and_parts (is_nil meant.rest) _ holds in
          let three = and_parts (answers_hold walk performed meant) _ two.1 in
          let four = and_parts (is_free walk performed) _ three.1 in
          (meant, (ap (with_meaning performed) is, ran_calls performed meant is (and_parts (stores walk performed meant) (draws_hold base walk performed) four.1).0))

-- AN ITEM -----------------------------------------------------------------------------------------

calls_as : (walk a b : Walk) (session : SessionId) (call : Call) (answers : List Answer) (draws : List Draw) → IsSameWalk a b → Calls walk a session call answers draws → Calls walk b session call answers draws
calls_as walk a b session call answers draws same calls = record {
  made = calls.made;
  pieces = calls.pieces;
  settings = calls.settings;
  at_start = calls.at_start;
  sessions = same.sessions ∙ calls.sessions;
  stores = by (ends_committed answers) calls.stores;
}
  where
    by : (test : Bool) → Stores walk a session calls.made test → Stores walk b session calls.made test
    by _ (Takes entry left is stored gone named pieces start) = Takes entry left is (same.stored ∙ stored) (same.left ∙ gone) named pieces start
    by _ (Keeps stored left) = Keeps (same.stored ∙ stored) (same.left ∙ left)

stopped_moved : (base : Base) (walk : Walk) (now : ℕ) (session : SessionId) (replay : Bool) (call : Call) (performed : Option Performed) → performed_by walk now session (CallStopped replay call) ≡ performed → deed_holds base walk (deed base walk performed) ≡ true
    → Stops walk (stopped (if_nothing (deed base walk performed) (after_deed base walk (deed base walk performed)) call)) session call
stopped_moved base walk now session replay call None is holds = IsNothing (record { stored = refl; left = refl; sessions = refl })
stopped_moved base walk now session replay call (Some performed) is holds =
    let so = performed_calls base walk performed holds in
    subst (λ (did : Deed). Stops walk (stopped (if_nothing did (after_deed base walk did) call)) session call) (sym so.1.0)
    (by (has_commit call && not replay) (stands (next_of walk session) walk.left) is so.0 so.1.1)
  where
    by : (test : Bool) (piece : Option Piece) → (if test then if_stands now session call piece else None) ≡ Some performed → (meant : Meant) → Calls walk (after_deed base walk (Ran performed meant)) performed.session performed.called performed.answers performed.draws
        → Stops walk (stopped (after_deed base walk (Ran performed meant))) session call
    by false piece is meant calls = absurd (let never : ⊥ = cc in never)
    by true None is meant calls = absurd (let never : ⊥ = cc in never)
    by true (Some piece) is meant calls =
        let same : record { session = session; now = now; replay = false; kept = []; called = call; answers = piece.answers; draws = piece.draws } ≡ performed = same_some _ performed is in
        IsStored performed.answers performed.draws
        (calls_as walk (after_deed base walk (Ran performed meant)) (stopped (after_deed base walk (Ran performed meant))) session call performed.answers performed.draws (record { stored = refl; left = refl; sessions = refl })
        (subst (λ (s : SessionId). Calls walk (after_deed base walk (Ran performed meant)) s call performed.answers performed.draws) (sym (ap (λ (p : Performed). p.session) same))
        (subst (λ (c : Call). Calls walk (after_deed base walk (Ran performed meant)) performed.session c performed.answers performed.draws) (sym (ap (λ (p : Performed). p.called) same)) calls)))

pub thing_moved : (base : Base) (walk : Walk) (event now : ℕ) (session : SessionId) (thing : Thing) → item_holds base walk (Did event now session thing) (deed_of base walk (Did event now session thing)) ≡ true
    → Moved walk (after base walk (Did event now session thing) (deed_of base walk (Did event now session thing))) session thing
thing_moved base walk event now session (Called replay kept call answers draws) holds =
    let performed : Performed = record { session = session; now = now; replay = replay; kept = kept; called = call; answers = answers; draws = draws } in
    let parts = and_parts (is_of_now walk session) _ holds in
    let so = performed_calls base walk performed (and_parts (deed_holds base walk (deed base walk (Some performed))) _ parts.1).0 in
    subst (λ (did : Deed). Calls walk (after_deed base walk did) session call answers draws) (sym so.1.0) so.1.1
thing_moved base walk event now session (CallStopped replay call) holds =
    let parts = and_parts (is_of_now walk session) _ holds in
    stopped_moved base walk now session replay call (performed_by walk now session (CallStopped replay call)) refl (and_parts (deed_holds base walk (deed base walk (performed_by walk now session (CallStopped replay call)))) _ parts.1).0
thing_moved base walk event now session (Began settings) holds = record { stored = refl; left = refl; sessions = refl }
thing_moved base walk event now session (MetBlock replay call) holds = record { stored = refl; left = refl; sessions = refl }
thing_moved base walk event now session (TellsOutcome x outcome) holds = tells_same walk x outcome
thing_moved base walk event now session (OutcomeStopped x) holds = record { stored = refl; left = refl; sessions = refl }
thing_moved base walk event now session thing holds = record { stored = refl; left = refl; sessions = refl }
