-- A frame keeps that the entries are a serial run and that each transaction ran on what was
-- committed.
use Rattle.std.specs.Prelude.{◌≡◌, ℕ, Bool, true, false, List, [], ◌∷◌, ◌++◌, Option, Some, None, if◌then◌else◌}
use Rattle.std.specs.List.{flat_map}
use Rattle.std.proofs.Common.{refl, inl, inr, sym, ◌∙◌, ap, subst, append-nil}
use Rattle.svc_values.specs.declared.value.Value.{Value}
use Rattle.svc_values.specs.declared.schema.Shape.{Shape}
use Rattle.svc_values.specs.declared.statement.Statement.{Statement}
use Rattle.svc_values.specs.declared.draw.Draw.{Draw}
use Rattle.svc_values.specs.declared.call.Call.{Call}
use Rattle.svc_values.specs.declared.call.Call.TheVariants as call
use Rattle.svc_values.specs.declared.entry.Ltxid.{Ltxid}
use Rattle.svc_values.specs.declared.entry.Piece.{Piece}
use Rattle.svc_values.specs.declared.entry.Entry.{Entry}
use Rattle.svc_values.specs.declared.frame.Up.{Up}
use Rattle.svc_values.specs.meaning.Endings.{ends_committed}
use Rattle.svc_values.specs.declared.tables.PlainRow.{PlainRow}
use Rattle.svc_values.specs.meaning.Tables.{with_writes}
use Rattle.svc_values.specs.Tables.{AreTables}
use Rattle.stmt_meaning.specs.meaning.Meaning.{AllDone, Meant, mean, worked, statements_done, commit_answer}
use Rattle.stmt_meaning.specs.meaning.Serial.{Replays, Transaction, Serial}
use Rattle.stmt_meaning.specs.Serial.{CommitLast}
use Rattle.stmt_meaning.specs.Rerun.{CallAt, pieces_of}
use Rattle.svc_values.proofs.Offered.{AreTables-with_writes, with_writes-append}
use Rattle.stmt_meaning.proofs.Offered.{RanAt-more, reads-more, rerun-transaction, Serial-next}
use Rattle.mutable_values.specs.Sources.{Opening}
use Rattle.ltxid_book.specs.declared.verdict.Verdict.{Verdict}
use Rattle.ltxid_book.specs.declared.verdict.Verdict.TheVariants as verdict
use Rattle.server_model.specs.meaning.Base.{Base}
use Rattle.server_model.specs.Core.{Core, committed, tables_with, writes_in}
use Rattle.server_model.specs.Sessions.{Sess, Idle, with_work, entry_of, piece_of}
use Rattle.stmt_meaning.specs.meaning.Reads.{Read, reads_at}
use Rattle.stmt_meaning.specs.Reads.{ReadsStand}
use Rattle.server_model.specs.meaning.Outcomes.{Telling, Silent, Says, Stopped}
use Rattle.server_model.specs.Outcomes.{Outcomes, IsTold, BlockStops, if_blocks}
use Rattle.server_model.specs.Serve.{Commits, InReplay, Blocks, Conflicts, Stores, StopsBefore, StopsAfter, Means, Works, Answers, Reaches, HaltsInDraw, Calls, IsWork, IsSet, IsAlter, AlterStops, AlterMarked, IsDisable, IsRollback, Serve, Connects, Begins, Ends, Closes, Asks, Runs, Refuses, with_opening, with_entry, if_told}
use Rattle.server_model.proofs.Ran.{Ran, Ran-more, Ran-none, AreOrdered-more, pieces-more, CommitLast-more}

-- ---- what a work call leaves of the settings

settings-if : (b : Bool) (x y : Meant) (settings : List (List ℕ × Value)) (meant : Meant) → x.settings ≡ settings → y.settings ≡ settings → (if b then Some x else Some y) ≡ Some meant → meant.settings ≡ settings
settings-if true x y settings meant one other is = let same : x ≡ meant = cc in sym (ap (λ (m : Meant). m.settings) same) ∙ one
settings-if false x y settings meant one other is = let same : y ≡ meant = cc in sym (ap (λ (m : Meant). m.settings) same) ∙ other

worked-settings : (tables : List PlainRow) (settings : List (List ℕ × Value)) (commit : Bool) (done : Option AllDone) (meant : Meant) → worked tables settings commit done ≡ Some meant → meant.settings ≡ settings
worked-settings tables settings commit None meant is = cc
worked-settings tables settings commit (Some done) meant is =
    settings-if done.refused
    (record { answers = done.answers; tables = tables; settings = settings; writes = []; reads = done.reads; rest = done.rest })
    (record { answers = done.answers ++ commit_answer commit; tables = with_writes tables done.writes; settings = settings; writes = done.writes; reads = done.reads; rest = done.rest })
    settings meant refl refl is

-- ---- entries

pub tables_with-more : (tables : List PlainRow) (entries : List Entry) (entry : Entry) → tables_with tables (entries ++ entry ∷ []) ≡ with_writes (tables_with tables entries) entry.writes
tables_with-more tables [] entry = ap (with_writes tables) (append-nil entry.writes)
tables_with-more tables (first ∷ entries) entry =
    with_writes-append tables first.writes (flat_map writes_in (entries ++ entry ∷ []))
    ∙ tables_with-more (with_writes tables first.writes) entries entry
    ∙ ap (λ t. with_writes t entry.writes) (sym (with_writes-append tables first.writes (flat_map writes_in entries)))

-- the entries are a serial run from the tables of the base
abbrev pub IsSerial : Core → Type 0
IsSerial core = Serial core.base.shape core.base.tables core.entries (committed core)

-- what a frame keeps
pub record Keeps (core after : Core) (t : Sess) : Type 0 where
  pub base : after.base ≡ core.base
  pub serial : IsSerial after
  pub ran : Ran core.base.shape t

-- another core with the same base and entries
pub serial_as : (core after : Core) → after.base ≡ core.base → after.entries ≡ core.entries → IsSerial core → IsSerial after
serial_as core after base entries serial = subst (λ (e : List Entry). Serial after.base.shape after.base.tables e (tables_with after.base.tables e)) (sym entries) (subst (λ (b : Base). Serial b.shape b.tables core.entries (tables_with b.tables core.entries)) (sym base) serial)

-- ---- a commit

module _ (core : Core) (sess : Sess) (called : Call) (draws : List Draw) (meant : Meant) (ordered : AreTables core.base.tables) (ran : Ran core.base.shape sess) (means : Means core sess called draws meant) (ends : ends_committed meant.answers ≡ true) where
  piece : Piece
  piece = piece_of called meant.answers draws

  last : CallAt
  last = record { committed = committed core; piece = piece }

  replays : Replays core.base.shape (with_writes (committed core) sess.writes) sess.settings piece meant
  unfolding piece
  replays = record { run = means.run; draws = means.used; answers = refl }

  own-ordered : AreTables (committed core)
  own-ordered = AreTables-with_writes core.base.tables (flat_map writes_in core.entries) ordered

  -- where nothing that it read has changed, the transaction with this call runs the same now
  transaction : ReadsStand (with_work sess (committed core) meant).reads (committed core)
      → Transaction core.base.shape (committed core) sess.at_start (sess.pieces ++ piece ∷ []) (with_writes (committed core) (sess.writes ++ meant.writes))
  unfolding piece last
  transaction stand =
      let moments : List CallAt = ran.moments ++ last ∷ [] in
      let ran_at = RanAt-more core.base.shape last meant ran.moments sess.at_start sess.settings [] sess.writes ran.ran replays in
      let read = reads-more core.base.shape last meant ran.moments sess.at_start sess.settings [] sess.writes ran.ran replays ∙ ap (λ r. r ++ reads_at (committed core) meant.reads) ran.reads in
      let pieces : pieces_of moments ≡ sess.pieces ++ piece ∷ [] = pieces-more ran.moments last ∙ ap (λ p. p ++ piece ∷ []) ran.pieces in
      subst (λ p. Transaction core.base.shape (committed core) sess.at_start p (with_writes (committed core) (sess.writes ++ meant.writes))) pieces
      (rerun-transaction core.base.shape (committed core) meant.settings (sess.writes ++ meant.writes) sess.at_start moments own-ordered
      (AreOrdered-more ran.moments last ran.ordered own-ordered) ran_at (subst (λ (r : List Read). ReadsStand r (committed core)) (sym read) stand)
      (subst CommitLast (sym pieces) (CommitLast-more sess.pieces piece ran.none ends)))

  stored : IsSerial core → ReadsStand (with_work sess (committed core) meant).reads (committed core) → IsSerial (with_entry core (entry_of (with_work sess (committed core) meant) called meant.answers draws))
  unfolding piece
  stored serial stand =
      let entry : Entry = entry_of (with_work sess (committed core) meant) called meant.answers draws in
      subst (Serial core.base.shape core.base.tables (core.entries ++ entry ∷ [])) (sym (tables_with-more core.base.tables core.entries entry))
      (Serial-next core.base.shape core.base.tables core.entries (committed core) entry (with_writes (committed core) entry.writes) serial (transaction stand))

  pub commits_keep : (opening : Opening) (replay : Bool) (after : Core) (t : Sess) (told : Telling) → IsSerial core
      → Commits (with_opening core opening) (with_work sess (committed core) meant) replay called meant.answers draws after t told → Keeps core after t
  commits_keep opening replay _ _ _ serial (InReplay marked) = record { base = refl; serial = serial; ran = Ran-none core.base.shape _ refl refl refl refl }
  commits_keep opening replay _ _ _ serial (Blocks unmarked blocked) = record { base = refl; serial = serial; ran = Ran-none core.base.shape _ refl refl refl refl }
  commits_keep opening replay _ _ _ serial (Conflicts unmarked free differs) = record { base = refl; serial = serial; ran = Ran-none core.base.shape _ refl refl refl refl }
  commits_keep opening replay _ _ _ serial (Stores may) = record { base = refl; serial = stored serial may.same; ran = Ran-none core.base.shape _ refl refl refl refl }
  commits_keep opening replay _ _ _ serial (StopsBefore may) = record { base = refl; serial = serial; ran = Ran-none core.base.shape _ refl refl refl refl }
  commits_keep opening replay _ _ _ serial (StopsAfter may) = record { base = refl; serial = stored serial may.same; ran = Ran-none core.base.shape _ refl refl refl refl }

-- ---- calls

pub works_keep : (core : Core) (sess : Sess) (replay : Bool) (kept : List Draw) (statements : List Statement) (commit : Bool) (now : ℕ) (after : Core) (t : Sess) (told : Telling) → AreTables core.base.tables → IsSerial core → Ran core.base.shape sess
    → Works core sess replay kept (call.Work statements commit) now after t told → Keeps core after t
works_keep core sess replay kept statements commit now _ _ _ ordered serial ran (Answers opening draws left meant drew means ends) =
    let settings : meant.settings ≡ sess.settings = worked-settings (with_writes (committed core) sess.writes) sess.settings commit (statements_done core.base.shape (with_writes (committed core) sess.writes) sess.settings statements draws) meant means.run in
    record {
      base = refl;
      serial = serial;
      ran = Ran-more core.base.shape sess _ (committed core) (piece_of (call.Work statements commit) meant.answers draws) meant ran (AreTables-with_writes core.base.tables (flat_map writes_in core.entries) ordered)
          (record { run = means.run; draws = means.used; answers = refl }) ends refl (sym settings) refl refl refl;
    }
works_keep core sess replay kept statements commit now _ _ _ ordered serial ran (Reaches opening draws left meant after t told drew means ends commits) =
    commits_keep core sess (call.Work statements commit) draws meant ordered ran means ends opening replay after t told serial commits
works_keep core sess replay kept statements commit now _ _ _ ordered serial ran (HaltsInDraw between opening draws next more left meant drew means halts) = record { base = refl; serial = serial; ran = Ran-none core.base.shape _ refl refl refl refl }

-- a call that means one answer, and writes and reads nothing
alone_keeps : (core : Core) (sess t : Sess) (called : Call) (meant : Meant) → AreTables core.base.tables → Ran core.base.shape sess
    → mean core.base.shape (with_writes (committed core) sess.writes) sess.settings called [] ≡ Some meant → meant.rest ≡ [] → ends_committed meant.answers ≡ false → meant.writes ≡ [] → meant.reads ≡ []
    → t.at_start ≡ sess.at_start → t.settings ≡ meant.settings → t.pieces ≡ sess.pieces ++ piece_of called meant.answers [] ∷ [] → t.writes ≡ sess.writes → t.reads ≡ sess.reads → Ran core.base.shape t
alone_keeps core sess t called meant ordered ran run rest ends no_writes no_reads at_start settings pieces writes reads =
    Ran-more core.base.shape sess t (committed core) (piece_of called meant.answers []) meant ran (AreTables-with_writes core.base.tables (flat_map writes_in core.entries) ordered)
    (record { run = run; draws = rest; answers = refl }) ends at_start settings pieces
    (writes ∙ sym (append-nil sess.writes) ∙ ap (λ w. sess.writes ++ w) (sym no_writes))
    (reads ∙ sym (append-nil sess.reads) ∙ ap (λ r. sess.reads ++ reads_at (committed core) r) (sym no_reads))

pub calls_keep : (core : Core) (sess : Sess) (replay : Bool) (kept : List Draw) (now : ℕ) (called : Call) (after : Core) (t : Sess) (told : Telling) → AreTables core.base.tables → IsSerial core → Ran core.base.shape sess
    → Calls core sess replay kept now called after t told → Keeps core after t
calls_keep core sess replay kept now _ _ _ _ ordered serial ran (IsWork statements commit after t told works) = works_keep core sess replay kept statements commit now after t told ordered serial ran works
calls_keep core sess replay kept now _ _ _ _ ordered serial ran (IsSet name value) =
    record { base = refl; serial = serial; ran = alone_keeps core sess _ (call.Set name value) _ ordered ran refl refl refl refl refl refl refl refl refl refl }
calls_keep core sess replay kept now _ _ _ _ ordered serial ran (IsAlter line unmarked) =
    record { base = refl; serial = serial; ran = alone_keeps core sess _ (call.Alter line) _ ordered ran refl refl refl refl refl refl refl refl refl refl }
calls_keep core sess replay kept now _ _ _ _ ordered serial ran (AlterStops line after unmarked (inl same)) =
    record { base = ap (λ (c : Core). c.base) same; serial = serial_as core after (ap (λ (c : Core). c.base) same) (ap (λ (c : Core). c.entries) same) serial; ran = Ran-none core.base.shape _ refl refl refl refl }
calls_keep core sess replay kept now _ _ _ _ ordered serial ran (AlterStops line after unmarked (inr same)) =
    record { base = ap (λ (c : Core). c.base) same; serial = serial_as core after (ap (λ (c : Core). c.base) same) (ap (λ (c : Core). c.entries) same) serial; ran = Ran-none core.base.shape _ refl refl refl refl }
calls_keep core sess replay kept now _ _ _ _ ordered serial ran (AlterMarked line marked) = record { base = refl; serial = serial; ran = Ran-none core.base.shape _ refl refl refl refl }
calls_keep core sess replay kept now _ _ _ _ ordered serial ran IsDisable =
    record { base = refl; serial = serial; ran = alone_keeps core sess _ call.Disable _ ordered ran refl refl refl refl refl refl refl refl refl refl }
calls_keep core sess replay kept now _ _ _ _ ordered serial ran IsRollback = record { base = refl; serial = serial; ran = Ran-none core.base.shape _ refl refl refl refl }

-- ---- outcomes

-- what is asked of a core leaves its base and entries
pub record SameStore (core after : Core) : Type 0 where
  pub base : after.base ≡ core.base
  pub entries : after.entries ≡ core.entries

blocks_keep : (judged : Verdict) (core : Core) (x : Ltxid) → SameStore core (if_blocks judged core x)
blocks_keep verdict.BlockIt core x = record { base = refl; entries = refl }
blocks_keep verdict.AlreadyBlocked core x = record { base = refl; entries = refl }
blocks_keep (verdict.Committed completed) core x = record { base = refl; entries = refl }
blocks_keep (verdict.ServerAhead next) core x = record { base = refl; entries = refl }
blocks_keep (verdict.ClientAhead next) core x = record { base = refl; entries = refl }
blocks_keep (verdict.Forgotten horizon) core x = record { base = refl; entries = refl }

pub outcomes_keep : (core : Core) (x : Ltxid) (after : Core) (told : Telling) → Outcomes core x after told → SameStore core after
outcomes_keep core x _ _ (IsTold judged by) = blocks_keep judged core x
outcomes_keep core x _ _ (BlockStops after by (inl same)) = record { base = ap (λ (c : Core). c.base) same; entries = ap (λ (c : Core). c.entries) same }
outcomes_keep core x _ _ (BlockStops after by (inr same)) = record { base = ap (λ (c : Core). c.base) same; entries = ap (λ (c : Core). c.entries) same }

Ran-told : (shape : Shape) (sess : Sess) (told : Telling) → Ran shape sess → Ran shape (if_told told sess)
Ran-told shape sess Silent ran = ran
Ran-told shape sess (Says frame) ran = ran
Ran-told shape sess Stopped ran = Ran-none shape _ refl refl refl refl

-- ---- frames

Ran-connected : (shape : Shape) (sess : Sess) → Ran shape sess → Ran shape (record sess { life = Idle })
Ran-connected shape sess ran = record { moments = ran.moments; ordered = ran.ordered; ran = ran.ran; pieces = ran.pieces; reads = ran.reads; none = ran.none }

pub serve_keeps : (core : Core) (sess : Sess) (now : ℕ) (frame : Up) (after : Core) (t : Sess) (told : Telling) → AreTables core.base.tables → IsSerial core → Ran core.base.shape sess
    → Serve core sess now frame after t told → Keeps core after t
serve_keeps core sess now _ _ _ _ ordered serial ran (Connects life) = record { base = refl; serial = serial; ran = Ran-connected core.base.shape sess ran }
serve_keeps core sess now _ _ _ _ ordered serial ran (Begins settings serving) = record { base = refl; serial = serial; ran = Ran-none core.base.shape _ refl refl refl refl }
serve_keeps core sess now _ _ _ _ ordered serial ran (Ends serving) = record { base = refl; serial = serial; ran = Ran-none core.base.shape _ refl refl refl refl }
serve_keeps core sess now _ _ _ _ ordered serial ran (Closes serving) = record { base = refl; serial = serial; ran = Ran-none core.base.shape _ refl refl refl refl }
serve_keeps core sess now _ _ _ _ ordered serial ran (Asks x after told serving asked) =
    let same = outcomes_keep core x after told asked in
    record { base = same.base; serial = serial_as core after same.base same.entries serial; ran = Ran-told core.base.shape sess told ran }
serve_keeps core sess now _ _ _ _ ordered serial ran (Runs replay kept called after t told begun calls) = calls_keep core sess replay kept now called after t told ordered serial ran calls
serve_keeps core sess now _ _ _ _ ordered serial ran (Refuses frame out) = record { base = refl; serial = serial; ran = Ran-none core.base.shape _ refl refl refl refl }
