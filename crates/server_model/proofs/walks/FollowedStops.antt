-- The walk follows each frame that a stop left without an answer.
use Rattle.std.specs.Prelude.{◌≡◌, ◌<◌, ◌&&◌, ℕ, Bool, true, false, not, IsTrue, List, [], ◌∷◌, ◌++◌, Option, Some, None, if◌then◌else◌}
use Rattle.std.specs.List.{last_or}
use Rattle.std.proofs.Common.{refl, inl, inr, sym, ◌∙◌, ap, subst}
use Rattle.svc_values.specs.declared.draw.Draw.{Draw}
use Rattle.svc_values.specs.declared.statement.Statement.{Statement}
use Rattle.svc_values.specs.declared.call.Call.{Call}
use Rattle.svc_values.specs.declared.call.Call.TheVariants as call
use Rattle.svc_values.specs.declared.entry.Ltxid.{Ltxid}
use Rattle.svc_values.specs.declared.entry.Entry.{Entry}
use Rattle.svc_values.specs.declared.entry.Piece.{Piece}
use Rattle.svc_values.specs.declared.frame.Up.{Up}
use Rattle.svc_values.specs.declared.frame.Up.TheVariants as up
use Rattle.svc_values.specs.meaning.Calls.{has_commit}
use Rattle.svc_values.specs.meaning.Endings.{ends_committed}
use Rattle.svc_values.specs.meaning.Tables.{with_writes}
use Rattle.stmt_meaning.specs.meaning.Meaning.{Meant, mean}
use Rattle.ltxid_book.specs.meaning.Journal.{is_blocked}
use Rattle.mutable_values.specs.Sources.{Opening}
use Rattle.server_model.specs.meaning.Base.{Base}
use Rattle.server_model.specs.Core.{Core, committed, all_entries, all_blocked, tables_with}
use Rattle.svc_values.specs.meaning.Identifiers.{session_of}
use Rattle.server_model.specs.Sessions.{Begun, Sess, with_work, entry_of, piece_of}
use Rattle.stmt_meaning.specs.Reads.{ReadsStand}
use Rattle.server_model.specs.meaning.Outcomes.{Telling}
use Rattle.server_model.specs.Serve.{Commits, InReplay, Blocks, Conflicts, Stores, StopsBefore, StopsAfter, Works, Answers, Reaches, HaltsInDraw, Calls, IsWork, IsSet, IsAlter, AlterStops, AlterMarked, IsDisable, IsRollback, Serve, Connects, Begins, Ends, Closes, Asks, Runs as Serves, Refuses, with_opening, with_entry}
use Rattle.server_model.specs.meaning.Items.{CallStopped, without_answer}
use Rattle.server_model.specs.meaning.Walk.{Walk, Ran, Performed, after_deed, deed, stands, if_stands, performed_if, next_of, stopped, if_nothing}
use Rattle.server_model.proofs.PlainAnswers.{work-ending}
use Rattle.server_model.proofs.Stays.{outcomes_stay}
use Rattle.server_model.proofs.Growth.{outcomes-entries}
use Rattle.server_model.proofs.walks.Following.{ltxid-self, ltxid-later}
use Rattle.server_model.proofs.walks.Deeds.{At, Stands, ran, walk_then, stands-more}
use Rattle.server_model.proofs.walks.Followed.{behind_thing}

-- ---- what a frame stores: nothing, or the entry of a commit

pub data Gains (core : Core) (sess : Sess) : Up → Core → Type 0 where
  GainsNone : (frame : Up) (after : Core) → after.base ≡ core.base → after.entries ≡ core.entries → Gains core sess frame after
  GainsOne : (replay : Bool) (kept : List Draw) (called : Call) (draws : List Draw) (meant : Meant) (after : Core) → replay ≡ false → has_commit called ≡ true → sess.life ≡ Begun
      → mean core.base.shape (with_writes (committed core) sess.writes) sess.settings called draws ≡ Some meant → meant.rest ≡ [] → ends_committed meant.answers ≡ true
      → after.base ≡ core.base → after.entries ≡ core.entries ++ entry_of (with_work sess (committed core) meant) called meant.answers draws ∷ []
      → IsTrue (not (is_blocked (all_blocked core) sess.ltxid)) → ReadsStand (with_work sess (committed core) meant).reads (committed core)
      → Gains core sess (up.Call replay kept called) after

unmarked-is : (replay : Bool) → IsTrue (not replay) → replay ≡ false
unmarked-is true is = let none : ⊥ = cc in absurd none
unmarked-is false is = refl

commits-gain : (core : Core) (opening : Opening) (sess : Sess) (replay : Bool) (kept : List Draw) (called : Call) (draws : List Draw) (meant : Meant) (after : Core) (t : Sess) (told : Telling) → sess.life ≡ Begun
    → mean core.base.shape (with_writes (committed core) sess.writes) sess.settings called draws ≡ Some meant → meant.rest ≡ [] → ends_committed meant.answers ≡ true → has_commit called ≡ true
    → Commits (with_opening core opening) (with_work sess (committed core) meant) replay called meant.answers draws after t told → Gains core sess (up.Call replay kept called) after
commits-gain core opening sess replay kept called draws meant _ _ _ lives means used is commit (InReplay marked) = GainsNone _ _ refl refl
commits-gain core opening sess replay kept called draws meant _ _ _ lives means used is commit (Blocks unmarked blocked) = GainsNone _ _ refl refl
commits-gain core opening sess replay kept called draws meant _ _ _ lives means used is commit (Conflicts unmarked free differs) = GainsNone _ _ refl refl
commits-gain core opening sess replay kept called draws meant _ _ _ lives means used is commit (Stores may) = GainsOne replay kept called draws meant _ (unmarked-is replay may.unmarked) commit lives means used is refl refl may.free may.same
commits-gain core opening sess replay kept called draws meant _ _ _ lives means used is commit (StopsBefore may) = GainsNone _ _ refl refl
commits-gain core opening sess replay kept called draws meant _ _ _ lives means used is commit (StopsAfter may) = GainsOne replay kept called draws meant _ (unmarked-is replay may.unmarked) commit lives means used is refl refl may.free may.same

works-gain : (core : Core) (sess : Sess) (replay : Bool) (kept : List Draw) (statements : List Statement) (commit : Bool) (now : ℕ) (after : Core) (t : Sess) (told : Telling) → sess.life ≡ Begun
    → Works core sess replay kept (call.Work statements commit) now after t told → Gains core sess (up.Call replay kept (call.Work statements commit)) after
works-gain core sess replay kept statements commit now _ _ _ lives (Answers opening draws left meant drew means not) = GainsNone _ _ refl refl
works-gain core sess replay kept statements commit now _ _ _ lives (Reaches opening draws left meant after t told drew means is commits) =
    commits-gain core opening sess replay kept (call.Work statements commit) draws meant after t told lives means.run means.used is ((work-ending core.base.shape _ sess.settings statements commit draws meant means.run).commit is) commits
works-gain core sess replay kept statements commit now _ _ _ lives (HaltsInDraw between opening draws next more left meant drew means halts) = GainsNone _ _ refl refl

calls-gain : (core : Core) (sess : Sess) (replay : Bool) (kept : List Draw) (now : ℕ) (called : Call) (after : Core) (t : Sess) (told : Telling) → sess.life ≡ Begun → Calls core sess replay kept now called after t told → Gains core sess (up.Call replay kept called) after
calls-gain core sess replay kept now _ _ _ _ lives (IsWork statements commit after t told works) = works-gain core sess replay kept statements commit now after t told lives works
calls-gain core sess replay kept now _ _ _ _ lives (IsSet name value) = GainsNone _ _ refl refl
calls-gain core sess replay kept now _ _ _ _ lives (IsAlter line unmarked) = GainsNone _ _ refl refl
calls-gain core sess replay kept now _ _ _ _ lives (AlterStops line after unmarked (inl same)) = GainsNone _ _ (ap (λ (c : Core). c.base) same) (ap (λ (c : Core). c.entries) same)
calls-gain core sess replay kept now _ _ _ _ lives (AlterStops line after unmarked (inr same)) = GainsNone _ _ (ap (λ (c : Core). c.base) same) (ap (λ (c : Core). c.entries) same)
calls-gain core sess replay kept now _ _ _ _ lives (AlterMarked line marked) = GainsNone _ _ refl refl
calls-gain core sess replay kept now _ _ _ _ lives IsDisable = GainsNone _ _ refl refl
calls-gain core sess replay kept now _ _ _ _ lives IsRollback = GainsNone _ _ refl refl

pub serve-gains : (core : Core) (sess : Sess) (now : ℕ) (frame : Up) (after : Core) (t : Sess) (told : Telling) → Serve core sess now frame after t told → Gains core sess frame after
serve-gains core sess now _ _ _ _ (Connects life) = GainsNone _ _ refl refl
serve-gains core sess now _ _ _ _ (Begins settings serving) = GainsNone _ _ refl refl
serve-gains core sess now _ _ _ _ (Ends serving) = GainsNone _ _ refl refl
serve-gains core sess now _ _ _ _ (Closes serving) = GainsNone _ _ refl refl
serve-gains core sess now _ _ _ _ (Asks x after told serving asked) = GainsNone _ _ (outcomes_stay core x after told asked).0 (outcomes-entries core x after told asked)
serve-gains core sess now _ _ _ _ (Serves replay kept called after t told begun calls) = calls-gain core sess replay kept now called after t told begun calls
serve-gains core sess now _ _ _ _ (Refuses frame out) = GainsNone _ _ refl refl

-- ---- entries that are still to come

-- each is of a later incarnation
abbrev pub AllLater : ℕ → List Entry → Type 0
AllLater incarnation [] = Unit {0}
AllLater incarnation (entry ∷ entries) = (incarnation < entry.ltxid.incarnation) × AllLater incarnation entries

none-stands : (x : Ltxid) (rest : List Entry) → AllLater x.incarnation rest → stands x rest ≡ None
none-stands x [] later = refl
none-stands x (entry ∷ rest) later = ap (λ b. if b then last_or None entry.pieces else None) (ltxid-later entry.ltxid x later.0)

last-push : (pieces : List Piece) (before : Option Piece) (last : Piece) → last_or before (pieces ++ last ∷ []) ≡ Some last
last-push [] before last = refl
last-push (first ∷ more) before last = last-push more (Some first) last

if-none : (b : Bool) (found : Option Performed) → found ≡ None → (if b then found else None) ≡ None
if-none true found is = is
if-none false found is = refl

module _ (base : Base) (core : Core) (here : Walk) (sess : Sess) (at : At base core here sess) (rest : List Entry) (now : ℕ) where
  pub none-performs : (replay : Bool) (called : Call) → here.left ≡ rest → AllLater sess.ltxid.incarnation rest → performed_if here now (session_of sess.ltxid) replay called ≡ None
  none-performs replay called left later =
      if-none (has_commit called && not replay) _ (ap (if_stands now (session_of sess.ltxid) called) (ap (stands (next_of here (session_of sess.ltxid))) left ∙ none-stands (next_of here (session_of sess.ltxid)) rest later))

  pub one-performs : (replay : Bool) (called : Call) (draws : List Draw) (meant : Meant) → next_of here (session_of sess.ltxid) ≡ sess.ltxid → replay ≡ false → has_commit called ≡ true
      → here.left ≡ entry_of (with_work sess (committed core) meant) called meant.answers draws ∷ rest
      → performed_if here now (session_of sess.ltxid) replay called ≡ Some (record { session = session_of sess.ltxid; now = now; replay = false; kept = []; called = called; answers = meant.answers; draws = draws })
  one-performs replay called draws meant next unmarked commit left =
      let entry : Entry = entry_of (with_work sess (committed core) meant) called meant.answers draws in
      let piece : Piece = piece_of called meant.answers draws in
      let found : stands (next_of here (session_of sess.ltxid)) here.left ≡ Some piece =
      (λ i. stands (next i) (left i)) ∙ ap (λ b. if b then last_or None entry.pieces else None) (ltxid-self sess.ltxid) ∙ last-push sess.pieces None piece in
      λ i. if commit i && not (unmarked i) then if_stands now (session_of sess.ltxid) called (found i) else None

  -- nothing stands of a frame
  pub none-stops : (frame : Up) (after : Core) → after.base ≡ core.base → after.entries ≡ core.entries → here.left ≡ rest → AllLater sess.ltxid.incarnation rest → Stands here after rest (behind_thing base here (session_of sess.ltxid) now (without_answer frame))
  none-stops frame after same entries left later = by frame
    where
      rows : committed after ≡ committed core
      rows = λ i. tables_with (same i).tables (entries i)

      all : all_entries after ≡ all_entries core
      all = λ i. (same i).entries ++ entries i

      by : (frame : Up) → Stands here after rest (behind_thing base here (session_of sess.ltxid) now (without_answer frame))
      by up.Connect = record { committed = at.committed ∙ sym rows; stored = at.stored ∙ sym all; left = left; incarnation = refl }
      by (up.Begin settings) = record { committed = at.committed ∙ sym rows; stored = at.stored ∙ sym all; left = left; incarnation = refl }
      by (up.Call replay kept called) =
          let nothing : performed_if here now (session_of sess.ltxid) replay called ≡ None =
          if-none (has_commit called && not replay) _ (ap (if_stands now (session_of sess.ltxid) called) (ap (stands (next_of here (session_of sess.ltxid))) left ∙ none-stands (next_of here (session_of sess.ltxid)) rest later)) in
          subst (λ p. Stands here after rest (stopped (if_nothing (deed base here p) (after_deed base here (deed base here p)) called))) (sym nothing)
          (record { committed = at.committed ∙ sym rows; stored = at.stored ∙ sym all; left = left; incarnation = refl })
      by (up.Outcome x) = record { committed = at.committed ∙ sym rows; stored = at.stored ∙ sym all; left = left; incarnation = refl }
      by up.End = record { committed = at.committed ∙ sym rows; stored = at.stored ∙ sym all; left = left; incarnation = refl }
      by up.Close = record { committed = at.committed ∙ sym rows; stored = at.stored ∙ sym all; left = left; incarnation = refl }

  -- a stopped commit whose entry stands
  pub one-stops : (replay : Bool) (called : Call) (draws : List Draw) (meant : Meant) (after : Core) → next_of here (session_of sess.ltxid) ≡ sess.ltxid → replay ≡ false → has_commit called ≡ true → sess.life ≡ Begun
      → mean core.base.shape (with_writes (committed core) sess.writes) sess.settings called draws ≡ Some meant → ends_committed meant.answers ≡ true
      → after.base ≡ core.base → after.entries ≡ core.entries ++ entry_of (with_work sess (committed core) meant) called meant.answers draws ∷ []
      → here.left ≡ entry_of (with_work sess (committed core) meant) called meant.answers draws ∷ rest → Stands here after rest (behind_thing base here (session_of sess.ltxid) now (CallStopped replay called))
  one-stops replay called draws meant after next unmarked commit lives means is same entries left =
      let entry : Entry = entry_of (with_work sess (committed core) meant) called meant.answers draws in
      let piece : Piece = piece_of called meant.answers draws in
      let it : Performed = record { session = session_of sess.ltxid; now = now; replay = false; kept = []; called = called; answers = meant.answers; draws = draws } in
      let found : stands (next_of here (session_of sess.ltxid)) here.left ≡ Some piece =
      (λ i. stands (next i) (left i)) ∙ ap (λ b. if b then last_or None entry.pieces else None) (ltxid-self sess.ltxid) ∙ last-push sess.pieces None piece in
      let performs : performed_if here now (session_of sess.ltxid) replay called ≡ Some it = λ i. if commit i && not (unmarked i) then if_stands now (session_of sess.ltxid) called (found i) else None in
      let does : deed base here (performed_if here now (session_of sess.ltxid) replay called) ≡ Ran it meant = ap (deed base here) performs ∙ ran base core here sess at lives now false [] called meant.answers draws meant means in
      let there : Stands here (with_entry core entry) rest (walk_then base core here sess at lives now false [] called meant.answers draws meant) = stands-more base core here sess at lives now false [] called meant.answers draws meant is entry refl rest left in
      subst (λ d. Stands here after rest (stopped (if_nothing d (after_deed base here d) called))) (sym does)
      (record {
        committed = there.committed ∙ (λ i. tables_with (sym same i).tables (sym entries i));
        stored = there.stored ∙ (λ i. (sym same i).entries ++ sym entries i);
        left = there.left;
        incarnation = there.incarnation;
      })
