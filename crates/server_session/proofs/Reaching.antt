-- Commits that are reached, by what the code makes of them.
use Rattle.std.proofs.Common.{◌≡◌, ℕ, ◌+◌, ◌++◌, ◌∷◌, [], Bool, true, false, List, length, refl, sym, ◌∙◌, ap, subst}
use Rattle.std.proofs.lemmas.Bool.{false≢true}
use Rattle.std.specs.Prelude.{IsTrue, Option, Some, None, MatchOption, Result, Err}
use Rattle.std.specs.Borrow.{Bor}
use Rattle.std.specs.Option.{is_some, option_copied, option_to_list}
use Rattle.disk_model.specs.Disk.{DiskState}
use Rattle.svc_values.specs.declared.answer.Answer.{Answer}
use Rattle.svc_values.specs.declared.answer.Answer.TheVariants as answer
use Rattle.svc_values.specs.declared.call.Call.{Call}
use Rattle.svc_values.specs.declared.draw.Draw.{Draw}
use Rattle.svc_values.specs.declared.entry.Entry.{Entry}
use Rattle.svc_values.specs.declared.frame.Down.{Down}
use Rattle.svc_values.specs.declared.frame.Down.TheVariants as down
use Rattle.svc_values.specs.declared.tables.Place.{Place}
use Rattle.svc_values.specs.Calls.{IsMade}
use Rattle.svc_values.specs.meaning.Fitting.{writes_fit}
use Rattle.svc_values.specs.Identifiers.{IsLtxid}
use Rattle.canon_bytes.specs.Entries.{IsMadeEntry}
use Rattle.ltxid_book.specs.meaning.Sessions.{can_commit, may_commit}
use Rattle.ltxid_book.specs.Sessions.{sessions_in}
use Rattle.commit_log.specs.declared.records.Record.TheVariants as kept
use Rattle.stmt_meaning.specs.meaning.Reads.{Read}
use Rattle.stmt_meaning.specs.Reads.{IsConflict}
use Rattle.table_txn.specs.Readings.{AreReadings}
use Rattle.server_model.specs.meaning.Outcomes.{Says}
use Rattle.server_model.specs.Serve.{with_last}
use Rattle.server_model.specs.Sessions.{entry_of}
use Rattle.server_model.specs.declared.fault.ServeFault.{ServeFault}
use Rattle.server_session.specs.declared.shared.Core.{Core}
use Rattle.server_session.specs.Fits.{Fits, Belongs}
use Rattle.server_session.specs.SeenSession.{SeenSession, sess_of, begun_so, ended_so}
use Rattle.server_session.specs.Serving.{HasServed, Serves, commits_as, stores_as}
use Rattle.server_session.specs.Storing.{HasStored, Stores}
use Rattle.server_session.proofs.Committing.{with_last-push, in_replay, blocked, conflicts, may_store, may_be, commit_told, commit_fault}
use Rattle.server_session.proofs.Lifting.{serves_as}
use Rattle.server_session.proofs.Quiet.{made_more}

-- ---- an answer in the place of the last one

pub put_last : (answers before : List Answer) (popped : Option Answer) (last : Answer) → answers ≡ before ++ option_to_list popped → is_some popped ≡ true → before ++ last ∷ [] ≡ with_last answers last
put_last answers before None last was some = absurd (false≢true some)
put_last answers before (Some old) last was some = sym (ap (λ (l : List Answer). with_last l last) was ∙ with_last-push before old last)

-- there was none
pub none_last : (answers before : List Answer) (last : Answer) → length answers ≡ 0 → length before ≡ 0 → before ≡ with_last answers last
none_last [] [] last none zero = refl
none_last [] (first ∷ more) last none zero = absurd (let no : ⊥ = cc in no)
none_last (first ∷ answers) before last none zero = absurd (let no : ⊥ = cc in no)

pub none_popped : (n m : ℕ) (Q : Answer → Type 0) (popped : Option Answer) → is_some popped ≡ false → MatchOption popped ((n ≡ 0) × (m ≡ 0)) Q → (n ≡ 0) × (m ≡ 0)
none_popped n m Q (Some old) none is = absurd (false≢true (sym none))
none_popped n m Q None none is = is

-- ---- a place whose rows have changed, or none

found_there : (o : Option (Bor Place)) → is_some o ≡ true → (place : Place) × (option_copied o ≡ Some place)
found_there None some = absurd (false≢true some)
found_there (Some place) some = (place.now, refl)

found_none : (o : Option (Bor Place)) → is_some o ≡ false → option_copied o ≡ None
found_none None none = refl
found_none (Some place) none = absurd (false≢true (sym none))

-- ---- the whole commit

module _ (replay : Bool) (called : Call) (answers : List Answer) (draws : List Draw) (core : Core) (disk : DiskState) (old : SeenSession) (fits : Fits core disk) (belongs : Belongs core old) where
  pub marked_told : (told : Down) (new : SeenSession) → replay ≡ true → told ≡ down.Reply (with_last answers answer.CommitInReplay) draws old.ltxid → new ≡ begun_so old old.life old.settings
      → HasServed (commits_as replay called answers draws) 1 (Says told) old core disk new core disk
  marked_told told new marked is seen = rw marked (in_replay called answers draws core disk old fits belongs told new is seen)

  pub blocked_told : (new : SeenSession) → replay ≡ false → new ≡ ended_so old → can_commit (sessions_in core.book) old.ltxid ≡ false
      → HasServed (commits_as replay called answers draws) 1 (Says down.Blocked) old core disk new core disk
  blocked_told new unmarked seen cannot = rw unmarked (blocked called answers draws core disk old fits belongs new seen cannot)

  pub conflict_told : (told : Down) (new : SeenSession) (at : Option (Bor Place)) → replay ≡ false → can_commit (sessions_in core.book) old.ltxid ≡ true
      → ((reads : List Read) → AreReadings old.txn.readings reads → IsConflict reads core.tables.rows (option_copied at)) → is_some at ≡ true
      → told ≡ down.Reply (with_last answers answer.Conflict) draws old.ltxid → new ≡ begun_so old old.life old.settings
      → HasServed (commits_as replay called answers draws) 1 (Says told) old core disk new core disk
  conflict_told told new at unmarked can conflict some is seen =
      let found = found_there at some in
      rw unmarked (conflicts called answers draws core disk old fits belongs told new (option_copied at) is seen can conflict found.0 found.1)

  pub stored_so : (at : Option (Bor Place)) (result : Result (Option Down) ServeFault) (new : SeenSession) (later : Core) (end : DiskState) → replay ≡ false → can_commit (sessions_in core.book) old.ltxid ≡ true
      → ((reads : List Read) → AreReadings old.txn.readings reads → IsConflict reads core.tables.rows (option_copied at)) → is_some at ≡ false
      → Serves (stores_as called answers draws) 1 result old core disk new later end → Serves (commits_as replay called answers draws) 1 result old core disk new later end
  stored_so at result new later end unmarked can conflict none served =
      subst (λ (r : Bool). Serves (commits_as r called answers draws) 1 result old core disk new later end) (sym unmarked)
      (serves_as (stores_as called answers draws) (commits_as false called answers draws) 1 result old core disk new later end
      (λ plain reads stands noted after t told step. step (may_store called answers draws core disk old fits belongs plain reads (option_copied at) stands noted can (conflict reads noted) (found_none at none)))
      served)

-- ---- the entry that is stored

module _ (called : Call) (answers : List Answer) (draws : List Draw) (core : Core) (disk : DiskState) (old : SeenSession) (fits : Fits core disk) (belongs : Belongs core old) (entry : Entry) (is : entry ≡ entry_of (sess_of old []) called answers draws) where
  pub entry_made : IsLtxid old.ltxid → IsMade called → IsMadeEntry entry
  entry_made within made = subst IsMadeEntry (sym is) (within, made_more old.txn.pieces _ belongs.calls made)

  pub entry_current : entry.ltxid.incarnation ≡ core.source.incarnation
  entry_current = ap (λ (e : Entry). e.ltxid.incarnation) is ∙ belongs.incarnation

  pub entry_may : IsTrue (can_commit (sessions_in core.book) old.ltxid) → IsTrue (may_commit (sessions_in core.book) entry.ltxid)
  entry_may can = ap (λ (e : Entry). may_commit (sessions_in core.book) e.ltxid) is ∙ may_be core disk old fits belongs can

  pub entry_fits : IsTrue (writes_fit core.tables.schemas entry.writes)
  entry_fits = ap (λ (e : Entry). writes_fit core.tables.schemas e.writes) is ∙ belongs.writes

  -- the session is one number further
  pub entry_told : (between : SeenSession) (later : Core) (end : DiskState) → between ≡ begun_so old old.life old.settings → HasStored (kept.Commit entry) core disk later end
      → HasServed (stores_as called answers draws) 1 (Says (down.Reply answers draws (record between.ltxid { number = between.ltxid.number + 1 }))) old core disk (record between { ltxid = record between.ltxid { number = between.ltxid.number + 1 } }) later end
  entry_told between later end seen stored =
      commit_told called answers draws core disk later end old fits belongs _ _
      (ap (λ (s : SeenSession). down.Reply answers draws (record s.ltxid { number = s.ltxid.number + 1 })) seen)
      (ap (λ (s : SeenSession). let next : SeenSession = record s { ltxid = record s.ltxid { number = s.ltxid.number + 1 } } in next) seen)
      (subst (λ (e : Entry). HasStored (kept.Commit e) core disk later end) is stored)

  pub entry_fault : (error : ServeFault) (new : SeenSession) (later : Core) (end : DiskState) → Stores (kept.Commit entry) (Err error) core disk later end → Serves (stores_as called answers draws) 1 (Err error) old core disk new later end
  entry_fault error new later end stores =
      commit_fault called answers draws core disk later end old fits belongs error new (subst (λ (e : Entry). Stores (kept.Commit e) (Err error) core disk later end) is stores)
