-- Along the walk over legal items a session's transaction has the settings that its items tell.
use Rattle.std.specs.Prelude.{◌≡◌, ◌&&◌, ℕ, nat_lt, Bool, true, false, not, List, [], ◌∷◌, ◌++◌, fold, Option, Some, None, if◌then◌else◌}
use Rattle.std.proofs.Common.{refl, ◌∙◌, ap, subst}
use Rattle.svc_values.specs.declared.answer.Answer.{Answer}
use Rattle.svc_values.specs.declared.call.Call.{Call}
use Rattle.svc_values.specs.declared.call.Call.TheVariants as call
use Rattle.svc_values.specs.declared.draw.Draw.{Draw}
use Rattle.svc_values.specs.declared.entry.Ltxid.{Ltxid}
use Rattle.svc_values.specs.declared.entry.Piece.{Piece}
use Rattle.svc_values.specs.declared.entry.SessionId.{SessionId}
use Rattle.svc_values.specs.declared.schema.Shape.{Shape}
use Rattle.svc_values.specs.declared.tables.PlainRow.{PlainRow}
use Rattle.svc_values.specs.meaning.Calls.{has_commit}
use Rattle.svc_values.specs.meaning.Identifiers.{same_session}
use Rattle.svc_values.specs.meaning.SettingsList.{NamedValues, with_set}
use Rattle.stmt_meaning.specs.meaning.Meaning.{AllDone, Meant, mean, worked, statements_done}
use Rattle.server_model.specs.meaning.Base.{Base}
use Rattle.server_model.specs.meaning.Items.{Outcome, Uncommitted, Thing, Began, Called, TellsOutcome, CallStopped, Item, Did, AskTold, AskStopped}
use Rattle.server_model.specs.meaning.Legal.{deed_holds, is_of_now, item_holds, items_hold}
use Rattle.server_model.specs.meaning.NewValues.{opened}
use Rattle.server_model.specs.Redraws.{set_by, set_in}
use Rattle.server_model.specs.meaning.Walk.{Walk, Transaction, begun, transaction_in, with_transaction, next_of, Performed, stands, if_stands, performed_if, Deed, meaning, deed, with_meaning, deed_of, ends, with_call, if_ended, after_deed, after_thing, if_uncommitted, entered, after}
use Rattle.server_model.proofs.walks.Following.{found-other, found-same, same-session}
use Rattle.server_model.proofs.StoppedHistories.{and-left, and-right}

-- ---- a call

abbrev SetsAs : NamedValues → Option Meant → Type 0
SetsAs settings None = Unit {0}
SetsAs settings (Some meant) = meant.settings ≡ settings

worked_sets : (tables : List PlainRow) (settings : NamedValues) (commit : Bool) (all : Option AllDone) → SetsAs settings (worked tables settings commit all)
worked_sets tables settings commit None = tt
worked_sets tables settings commit (Some done) = by done.refused
  where
    by : (b : Bool) → SetsAs settings (worked tables settings commit (Some (record done { refused = b })))
    by true = refl
    by false = refl

call_sets : (shape : Shape) (tables : List PlainRow) (settings : NamedValues) (called : Call) (draws : List Draw) → SetsAs (with_set settings called) (mean shape tables settings called draws)
call_sets shape tables settings (call.Work statements commit) draws = worked_sets tables settings commit (statements_done shape tables settings statements draws)
call_sets shape tables settings (call.Set name x) draws = refl
call_sets shape tables settings (call.Alter line) draws = refl
call_sets shape tables settings call.Disable draws = refl
call_sets shape tables settings call.Rollback draws = refl

-- a `set` changes a setting, and no other call does
pub mean-sets : (shape : Shape) (tables : List PlainRow) (settings : NamedValues) (called : Call) (draws : List Draw) (meant : Meant) → mean shape tables settings called draws ≡ Some meant → meant.settings ≡ with_set settings called
mean-sets shape tables settings called draws meant is = subst (SetsAs (with_set settings called)) is (call_sets shape tables settings called draws)

commit_sets : (settings : NamedValues) (called : Call) → has_commit called ≡ true → with_set settings called ≡ settings
commit_sets settings (call.Work statements commit) is = refl
commit_sets settings (call.Set name x) is = absurd (let none : ⊥ = cc in none)
commit_sets settings (call.Alter line) is = refl
commit_sets settings call.Disable is = refl
commit_sets settings call.Rollback is = refl

ended_sets : (b : Bool) (transaction : Transaction) → (if_ended b transaction).settings ≡ transaction.settings
ended_sets true transaction = refl
ended_sets false transaction = refl

-- ---- an item

-- the settings that a session's next call runs in
abbrev pub settings_of : Walk → SessionId → NamedValues
settings_of walk session = (transaction_in walk.sessions session).settings

either : {A : Type 0} (b : Bool) (x : A) → x ≡ (if b then x else x)
either true x = refl
either false x = refl

module _ (base : Base) (here : Walk) (session : SessionId) where
  put : (change : NamedValues → NamedValues) (other : SessionId) (transaction : Transaction) → transaction.settings ≡ change (settings_of here other)
      → (transaction_in (with_transaction here.sessions other transaction) session).settings ≡ (if same_session other session then change (settings_of here session) else settings_of here session)
  put change other transaction same = by (same_session other session) refl
    where
      by : (b : Bool) → same_session other session ≡ b → (transaction_in (with_transaction here.sessions other transaction) session).settings ≡ (if b then change (settings_of here session) else settings_of here session)
      by true is =
          let mine : other ≡ session = same-session other session is in
          ap (λ (s : SessionId). (transaction_in (with_transaction here.sessions s transaction) session).settings) mine
          ∙ ap (λ (t : Transaction). t.settings) (found-same here.sessions session transaction) ∙ same ∙ ap (λ (s : SessionId). change (settings_of here s)) mine
      by false apart = ap (λ (t : Transaction). t.settings) (found-other here.sessions other session transaction apart)

  -- a call that ran
  ran_sets : (performed : Performed) (meant : Meant) → meaning base here performed.session performed.called performed.draws ≡ Some meant
      → (if_ended (ends performed.answers) (with_call here performed meant)).settings ≡ with_set (settings_of here performed.session) performed.called
  ran_sets performed meant is = ended_sets (ends performed.answers) (with_call here performed meant) ∙ mean-sets base.shape _ (settings_of here performed.session) performed.called performed.draws meant is

  abbrev Told : SessionId → Thing → Deed → Type 0
  Told other thing did = settings_of (after_thing (after_deed base here did) other did thing) session ≡ (if same_session other session then set_by (settings_of here session) thing else settings_of here session)

  called_told : (now : ℕ) (other : SessionId) (replay : Bool) (kept : List Draw) (called : Call) (answers : List Answer) (draws : List Draw) → let performed : Performed = record { session = other; now = now; replay = replay; kept = kept; called = called; answers = answers; draws = draws } in
      deed_holds base here (deed base here (Some performed)) ≡ true → Told other (Called replay kept called answers draws) (deed base here (Some performed))
  called_told now other replay kept called answers draws holds = by (meaning base here other called draws) refl holds
    where
      performed : Performed
      performed = record { session = other; now = now; replay = replay; kept = kept; called = called; answers = answers; draws = draws }

      by : (m : Option Meant) → meaning base here other called draws ≡ m → deed_holds base here (with_meaning performed m) ≡ true → Told other (Called replay kept called answers draws) (with_meaning performed m)
      by None is holds = absurd (let none : ⊥ = cc in none)
      by (Some meant) is holds = put (λ settings. with_set settings called) other (if_ended (ends answers) (with_call here performed meant)) (ran_sets performed meant is)

  stopped_told : (now : ℕ) (other : SessionId) (replay : Bool) (called : Call) → deed_holds base here (deed base here (performed_if here now other replay called)) ≡ true
      → Told other (CallStopped replay called) (deed base here (performed_if here now other replay called))
  stopped_told now other replay called holds = by (has_commit called && not replay) refl (stands (next_of here other) here.left) holds
    where
      by : (b : Bool) → (has_commit called && not replay) ≡ b → (piece : Option Piece) → deed_holds base here (deed base here (if b then if_stands now other called piece else None)) ≡ true
          → Told other (CallStopped replay called) (deed base here (if b then if_stands now other called piece else None))
      by false may piece holds = either (same_session other session) (settings_of here session)
      by true may None holds = either (same_session other session) (settings_of here session)
      by true may (Some piece) holds = by_meaning (meaning base here other called piece.draws) refl holds
        where
          performed : Performed
          performed = record { session = other; now = now; replay = false; kept = []; called = called; answers = piece.answers; draws = piece.draws }

          by_meaning : (m : Option Meant) → meaning base here other called piece.draws ≡ m → deed_holds base here (with_meaning performed m) ≡ true → Told other (CallStopped replay called) (with_meaning performed m)
          by_meaning None is holds = absurd (let none : ⊥ = cc in none)
          by_meaning (Some meant) is holds =
              put (λ settings. settings) other (if_ended (ends piece.answers) (with_call here performed meant)) (ran_sets performed meant is ∙ commit_sets (settings_of here other) called (and-left (has_commit called) (not replay) may))

  outcome_told : (other : SessionId) (x : Ltxid) (outcome : Outcome) → settings_of (if_uncommitted here x outcome) session ≡ settings_of here session
  outcome_told other x Uncommitted = refl
  outcome_told other x outcome = refl

  thing_told : (event now : ℕ) (other : SessionId) (thing : Thing) → item_holds base here (Did event now other thing) (deed_of base here (Did event now other thing)) ≡ true
      → settings_of (after base here (Did event now other thing) (deed_of base here (Did event now other thing))) session ≡ set_in session (settings_of here session) (Did event now other thing)
  thing_told event now other (Began first) holds = put (λ settings. first) other (begun first) refl
  thing_told event now other (Called replay kept called answers draws) holds =
      called_told now other replay kept called answers draws (and-left (deed_holds base here (deed_of base here (Did event now other (Called replay kept called answers draws)))) _ (and-right (is_of_now here other) _ holds))
  thing_told event now other (CallStopped replay called) holds =
      stopped_told now other replay called (and-left (deed_holds base here (deed_of base here (Did event now other (CallStopped replay called)))) _ (and-right (is_of_now here other) _ holds))
  thing_told event now other (TellsOutcome x outcome) holds = outcome_told other x outcome ∙ either (same_session other session) (settings_of here session)
  thing_told event now other thing holds = either (same_session other session) (settings_of here session)

  item_told : (item : Item) → item_holds base here item (deed_of base here item) ≡ true → settings_of (after base here item (deed_of base here item)) session ≡ set_in session (settings_of here session) item
  item_told (Did event now other thing) holds = thing_told event now other thing holds
  item_told (AskTold event x outcome) holds = outcome_told session x outcome
  item_told (AskStopped event x) holds = refl

-- ---- items

pub enters : (walk : Walk) (session : SessionId) (item : Item) → settings_of (entered walk item) session ≡ settings_of walk session
enters walk session (Did event now other thing) = by (nat_lt walk.numbers.incarnation other.incarnation)
  where
    by : (b : Bool) → settings_of (if b then record walk { numbers = opened walk.numbers other.incarnation; is_over = false } else walk) session ≡ settings_of walk session
    by true = refl
    by false = refl
enters walk session (AskTold event x outcome) = refl
enters walk session (AskStopped event x) = refl

abbrev pub behind_all : Base → Walk → List Item → Walk
behind_all base walk [] = walk
behind_all base walk (item ∷ items) = behind_all base (let here = entered walk item in after base here item (deed_of base here item)) items

-- each item holds on the walk over those before it
pub holds_at : (base : Base) (items : List Item) (item : Item) (more : List Item) (walk : Walk) → items_hold base walk (items ++ item ∷ more) ≡ true
    → let here = entered (behind_all base walk items) item in item_holds base here item (deed_of base here item) ≡ true
holds_at base [] item more walk holds = let here = entered walk item in and-left (item_holds base here item (deed_of base here item)) _ holds
holds_at base (first ∷ items) item more walk holds =
    let here = entered walk first in holds_at base items item more (after base here first (deed_of base here first)) (and-right (item_holds base here first (deed_of base here first)) _ holds)

pub settings_told : (base : Base) (session : SessionId) (items more : List Item) (walk : Walk) (settings : NamedValues) → items_hold base walk (items ++ more) ≡ true → settings_of walk session ≡ settings
    → settings_of (behind_all base walk items) session ≡ fold (set_in session) settings items
settings_told base session [] more walk settings holds same = same
settings_told base session (item ∷ items) more walk settings holds same =
    let here = entered walk item in
    settings_told base session items more (after base here item (deed_of base here item)) (set_in session settings item) (and-right (item_holds base here item (deed_of base here item)) _ holds)
    (item_told base here session item (and-left (item_holds base here item (deed_of base here item)) _ holds) ∙ ap (λ s. set_in session s item) (enters walk session item ∙ same))
