-- What a call that was served does to a walk that stands where the server does.
use Rattle.std.specs.Prelude.{◌≡◌, ℕ, Bool, true, false, List, [], ◌∷◌, ◌++◌, Some}
use Rattle.std.specs.List.{flat_map}
use Rattle.std.proofs.Common.{refl, sym, ◌∙◌, ap, append_assoc, append-nil}
use Rattle.svc_values.specs.declared.draw.Draw.{Draw}
use Rattle.svc_values.specs.declared.call.Call.{Call}
use Rattle.svc_values.specs.declared.answer.Answer.{Answer}
use Rattle.svc_values.specs.declared.entry.Entry.{Entry}
use Rattle.svc_values.specs.meaning.Endings.{ends_committed}
use Rattle.svc_values.specs.declared.tables.PlainRow.{PlainRow}
use Rattle.svc_values.specs.meaning.Tables.{with_writes}
use Rattle.stmt_meaning.specs.meaning.Meaning.{Meant, mean}
use Rattle.svc_values.proofs.Offered.{with_writes-append}
use Rattle.server_model.specs.meaning.Base.{Base}
use Rattle.server_model.specs.Core.{Core, committed, all_entries, tables_with, writes_in}
use Rattle.svc_values.specs.declared.entry.SessionId.{SessionId}
use Rattle.svc_values.specs.meaning.Identifiers.{session_of, same_session}
use Rattle.server_model.specs.Sessions.{Begun, Sess}
use Rattle.server_model.specs.Serve.{with_entry}
use Rattle.server_model.specs.meaning.NewValues.{kept_by}
use Rattle.server_model.specs.meaning.Walk.{Walk, Transaction, Performed, Ran, transaction_in, with_call, grown, ends, if_ended, if_commits, take_entry, with_numbers, after_deed, deed, with_meaning}
use Rattle.server_model.proofs.walks.Following.{found-same, found-other, draws-incarnation}

-- the open transaction of a session, as a walk has it
abbrev pub transaction_of : Sess → Transaction
transaction_of sess = record { settings = sess.settings; at_start = sess.at_start; pieces = sess.pieces; writes = sess.writes; reads = sess.reads }

-- the walk stands where the server does, for this session
pub record At (base : Base) (core : Core) (here : Walk) (sess : Sess) : Type 0 where
  pub is : core.base ≡ base
  pub committed : here.committed ≡ committed core
  pub stored : here.stored ≡ all_entries core
  pub transaction : sess.life ≡ Begun → transaction_in here.sessions (session_of sess.ltxid) ≡ transaction_of sess

-- the walk behind a frame: where the store stands,
pub record Stands (here : Walk) (core : Core) (rest : List Entry) (behind : Walk) : Type 0 where
  pub committed : behind.committed ≡ committed core
  pub stored : behind.stored ≡ all_entries core
  pub left : behind.left ≡ rest
  pub incarnation : behind.numbers.incarnation ≡ here.numbers.incarnation

-- and where the sessions do
pub record Holds (here : Walk) (session : SessionId) (new : Sess) (behind : Walk) : Type 0 where
  pub mine : new.life ≡ Begun → transaction_in behind.sessions session ≡ transaction_of new
  pub others : (other : SessionId) → same_session session other ≡ false → transaction_in behind.sessions other ≡ transaction_in here.sessions other
  pub over : behind.is_over ≡ here.is_over

-- one more entry on the tables
pub committed-more : (core : Core) (entry : Entry) → committed (with_entry core entry) ≡ with_writes (committed core) entry.writes
committed-more core entry = more core.base.tables core.entries
  where
    one : (entries : List Entry) → flat_map writes_in (entries ++ entry ∷ []) ≡ flat_map writes_in entries ++ entry.writes
    one [] = append-nil entry.writes
    one (first ∷ entries) = ap (λ w. first.writes ++ w) (one entries) ∙ sym (append_assoc first.writes (flat_map writes_in entries) entry.writes)

    more : (tables : List PlainRow) (entries : List Entry) → tables_with tables (entries ++ entry ∷ []) ≡ with_writes (tables_with tables entries) entry.writes
    more tables entries = ap (with_writes tables) (one entries) ∙ with_writes-append tables (flat_map writes_in entries) entry.writes

module _ (base : Base) (core : Core) (here : Walk) (sess : Sess) (at : At base core here sess) (lives : sess.life ≡ Begun) (now : ℕ) (replay : Bool) (kept : List Draw) (called : Call) (answers : List Answer) (draws : List Draw) (meant : Meant) where
  abbrev pub performed : Performed
  performed = record { session = session_of sess.ltxid; now = now; replay = replay; kept = kept; called = called; answers = answers; draws = draws }

  -- it means what the server says
  pub ran : mean core.base.shape (with_writes (committed core) sess.writes) sess.settings called draws ≡ Some meant → deed base here (Some performed) ≡ Ran performed meant
  ran means = ap (with_meaning performed) ((λ i. mean (sym at.is i).shape (with_writes (at.committed i) (at.transaction lives i).writes) (at.transaction lives i).settings called draws) ∙ means)

  abbrev pub next : Transaction
  next = grown (committed core) (transaction_of sess) performed meant

  pub grows : with_call here performed meant ≡ next
  grows = λ i. grown (at.committed i) (at.transaction lives i) performed meant

  abbrev pub walk_then : Walk
  walk_then = after_deed base here (Ran performed meant)

  incarnation-same : walk_then.numbers.incarnation ≡ here.numbers.incarnation
  incarnation-same = by (ends_committed answers)
    where
      by : (b : Bool) → (if_commits b (with_numbers base here performed) (with_call here performed meant).writes).numbers.incarnation ≡ here.numbers.incarnation
      by true = draws-incarnation now (kept_by base replay kept) draws here.numbers
      by false = draws-incarnation now (kept_by base replay kept) draws here.numbers

  -- a call that stores nothing
  pub stands-same : ends_committed answers ≡ false → (rest : List Entry) → here.left ≡ rest → Stands here core rest walk_then
  stands-same not rest left = record {
    committed = ap (λ b. (if_commits b (with_numbers base here performed) (with_call here performed meant).writes).committed) not ∙ at.committed;
    stored = ap (λ b. (if_commits b (with_numbers base here performed) (with_call here performed meant).writes).stored) not ∙ at.stored;
    left = ap (λ b. (if_commits b (with_numbers base here performed) (with_call here performed meant).writes).left) not ∙ left;
    incarnation = incarnation-same;
  }

  -- a call that stores the entry that comes next
  pub stands-more : ends_committed answers ≡ true → (entry : Entry) → entry.writes ≡ sess.writes ++ meant.writes → (rest : List Entry) → here.left ≡ entry ∷ rest → Stands here (with_entry core entry) rest walk_then
  stands-more is entry writes rest left = record {
    committed = ap (λ b. (if_commits b (with_numbers base here performed) (with_call here performed meant).writes).committed) is
        ∙ (λ i. with_writes (at.committed i) (grows i).writes) ∙ ap (with_writes (committed core)) (sym writes) ∙ sym (committed-more core entry);
    stored = ap (λ b. (if_commits b (with_numbers base here performed) (with_call here performed meant).writes).stored) is
        ∙ (λ i. (take_entry (at.stored i) (left i)).0) ∙ append_assoc core.base.entries core.entries (entry ∷ []);
    left = ap (λ b. (if_commits b (with_numbers base here performed) (with_call here performed meant).writes).left) is ∙ ap (λ l. (take_entry here.stored l).1) left;
    incarnation = incarnation-same;
  }

  -- the session's transaction goes on, or is over
  pub holds : (new : Sess) → (over : Bool) → ends answers ≡ over → if_ended over next ≡ transaction_of new → Holds here (session_of sess.ltxid) new walk_then
  holds new over is same = record {
    mine = λ begun. found-same here.sessions (session_of sess.ltxid) (if_ended (ends answers) (with_call here performed meant)) ∙ (λ i. if_ended (is i) (grows i)) ∙ same;
    others = λ other apart. found-other here.sessions (session_of sess.ltxid) other (if_ended (ends answers) (with_call here performed meant)) apart;
    over = by (ends_committed answers);
  }
    where
      by : (b : Bool) → (if_commits b (with_numbers base here performed) (with_call here performed meant).writes).is_over ≡ here.is_over
      by true = refl
      by false = refl
