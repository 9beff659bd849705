-- The walk follows each frame that is answered.
use Rattle.std.specs.Prelude.{◌≡◌, ℕ, Bool, true, false, not, IsTrue, List, [], ◌∷◌, ◌++◌, Some}
use Rattle.std.proofs.Common.{refl, sym, ◌∙◌, ap, subst, append-nil}
use Rattle.svc_values.specs.declared.value.Value.{Value}
use Rattle.svc_values.specs.declared.draw.Draw.{Draw}
use Rattle.svc_values.specs.declared.statement.Statement.{Statement}
use Rattle.svc_values.specs.declared.call.Call.{Call}
use Rattle.svc_values.specs.declared.call.Call.TheVariants as call
use Rattle.svc_values.specs.declared.answer.Answer.{Answer}
use Rattle.svc_values.specs.declared.answer.Answer.TheVariants as answer
use Rattle.svc_values.specs.declared.entry.Ltxid.{Ltxid}
use Rattle.svc_values.specs.declared.entry.Entry.{Entry}
use Rattle.svc_values.specs.declared.frame.Up.{Up}
use Rattle.svc_values.specs.declared.frame.Up.TheVariants as up
use Rattle.svc_values.specs.declared.frame.Down.TheVariants as down
use Rattle.svc_values.specs.meaning.Endings.{ends_committed}
use Rattle.svc_values.specs.meaning.SettingsList.{put_setting}
use Rattle.svc_values.specs.meaning.Tables.{with_writes}
use Rattle.stmt_meaning.specs.meaning.Meaning.{Meant, mean}
use Rattle.mutable_values.specs.Sources.{Opening}
use Rattle.ltxid_book.specs.declared.verdict.Verdict.{Verdict}
use Rattle.ltxid_book.specs.declared.verdict.Verdict.TheVariants as verdict
use Rattle.server_model.specs.meaning.Base.{Base}
use Rattle.server_model.specs.Core.{Core, committed, all_entries}
use Rattle.svc_values.specs.declared.entry.SessionId.{SessionId}
use Rattle.svc_values.specs.meaning.Identifiers.{session_of}
use Rattle.server_model.specs.Sessions.{Life, Idle, Begun, Ended, Sess, ended, with_piece, with_work, entry_of}
use Rattle.server_model.specs.meaning.Outcomes.{Telling, Silent, Says, Stopped}
use Rattle.server_model.specs.Outcomes.{Outcomes, IsTold, BlockStops, down_of, if_blocks}
use Rattle.server_model.specs.Serve.{Commits, InReplay, Blocks, Conflicts, Stores, StopsBefore, StopsAfter, Works, Answers, Reaches, HaltsInDraw, Calls, IsWork, IsSet, IsAlter, AlterStops, AlterMarked, IsDisable, IsRollback, Serve, Connects, Begins, Ends, Closes, Asks, Runs as Serves, Refuses, with_opening, with_last, if_told}
use Rattle.server_model.specs.Runs.{is_answered}
use Rattle.server_model.specs.meaning.Items.{Thing, Called, thing_of, with_answer, Did}
use Rattle.server_model.specs.meaning.Walk.{Walk, begun, ends, if_ended, after, after_deed, deed_of}
use Rattle.server_model.proofs.PlainAnswers.{work-ending, work-settings, with-ends, with-not, commit-ends}
use Rattle.server_model.proofs.walks.Following.{found-same, found-other}
use Rattle.server_model.proofs.walks.Deeds.{transaction_of, At, Stands, Holds, ran, walk_then, stands-same, stands-more, holds}

-- the walk behind a thing that a session did
abbrev pub behind_thing : Base → Walk → SessionId → ℕ → Thing → Walk
behind_thing base here session now thing = after base here (Did 0 now session thing) (deed_of base here (Did 0 now session thing))

pub record Goes (here : Walk) (session : SessionId) (core : Core) (new : Sess) (rest : List Entry) (behind : Walk) : Type 0 where
  pub stands : Stands here core rest behind
  pub holds : Holds here session new behind

-- what comes next in the walk's entries is what a core gained
abbrev pub Left : Walk → Core → List Entry → Core → Type 0
Left here core rest after = (gained : List Entry) → after.entries ≡ core.entries ++ gained → here.left ≡ gained ++ rest

none-begun : (life : Life) → life ≡ Ended → life ≡ Begun → ⊥
none-begun life is begun = let none : ⊥ = (let e : Ended ≡ Begun = sym is ∙ begun in cc) in none

idle-begun : Idle ≡ Begun → ⊥
idle-begun e = let none : ⊥ = cc in none

ended-begun : Ended ≡ Begun → ⊥
ended-begun e = let none : ⊥ = cc in none

moved : (here : Walk) (core : Core) (opening : Opening) (rest : List Entry) (behind : Walk) → Stands here core rest behind → Stands here (with_opening core opening) rest behind
moved here core opening rest behind stands = record { committed = stands.committed; stored = stands.stored; left = stands.left; incarnation = stands.incarnation }

module _ (base : Base) (core : Core) (here : Walk) (sess : Sess) (at : At base core here sess) (rest : List Entry) where
  -- nothing was stored, and the walk stays
  stays : (after : Core) → all_entries after ≡ all_entries core → committed after ≡ committed core → here.left ≡ rest → Stands here after rest here
  stays after entries rows left = record { committed = at.committed ∙ sym rows; stored = at.stored ∙ sym entries; left = left; incarnation = refl }

  quiet : (after : Core) (new : Sess) → all_entries after ≡ all_entries core → committed after ≡ committed core → here.left ≡ rest → (new.life ≡ Begun → ⊥) → Goes here (session_of sess.ltxid) after new rest here
  quiet after new entries rows left never = record { stands = stays after entries rows left; holds = record { mine = λ begun. absurd (never begun); others = λ other apart. refl; over = refl } }

  module _ (lives : sess.life ≡ Begun) (now : ℕ) (replay : Bool) (kept : List Draw) where
    -- a call that was answered
    acted : (called : Call) (answers : List Answer) (draws : List Draw) (meant : Meant) (after : Core) (new : Sess) → mean core.base.shape (with_writes (committed core) sess.writes) sess.settings called draws ≡ Some meant
        → Stands here after rest (walk_then base core here sess at lives now replay kept called answers draws meant) → Holds here (session_of sess.ltxid) new (walk_then base core here sess at lives now replay kept called answers draws meant)
        → Goes here (session_of sess.ltxid) after new rest (behind_thing base here (session_of sess.ltxid) now (Called replay kept called answers draws))
    acted called answers draws meant after new means stands held =
        subst (λ did. Goes here (session_of sess.ltxid) after new rest (after_deed base here did)) (sym (ran base core here sess at lives now replay kept called answers draws meant means)) (record { stands = stands; holds = held })

    commits : (opening : Opening) (statements : List Statement) (commit : Bool) (draws : List Draw) (meant : Meant) (after : Core) (new : Sess) (told : Telling)
        → mean core.base.shape (with_writes (committed core) sess.writes) sess.settings (call.Work statements commit) draws ≡ Some meant → ends_committed meant.answers ≡ true → Left here core rest after
        → Commits (with_opening core opening) (with_work sess (committed core) meant) replay (call.Work statements commit) meant.answers draws after new told → IsTrue (is_answered told)
        → Goes here (session_of sess.ltxid) after new rest (behind_thing base here (session_of sess.ltxid) now (thing_of (up.Call replay kept (call.Work statements commit)) told))
    commits opening statements commit draws meant _ _ _ means is left (InReplay marked) answered =
        let work = call.Work statements commit in
        let answers = with_last meant.answers answer.CommitInReplay in
        acted work answers draws meant _ _ means
        (moved here core opening rest _ (stands-same base core here sess at lives now replay kept work answers draws meant (with-not meant.answers answer.CommitInReplay refl) rest (left [] (sym (append-nil core.entries)))))
        (holds base core here sess at lives now replay kept work answers draws meant _ true (with-ends meant.answers answer.CommitInReplay is refl) (ap begun (work-settings core.base.shape _ sess.settings statements commit draws meant means)))
    commits opening statements commit draws meant _ _ _ means is left (Blocks unmarked blocked) answered = record {
      stands = record { committed = at.committed; stored = at.stored; left = left [] (sym (append-nil core.entries)); incarnation = refl };
      holds = record { mine = λ begun. absurd (ended-begun begun); others = λ other apart. refl; over = refl };
    }
    commits opening statements commit draws meant _ _ _ means is left (Conflicts unmarked free differs) answered =
        let work = call.Work statements commit in
        let answers = with_last meant.answers answer.Conflict in
        acted work answers draws meant _ _ means
        (moved here core opening rest _ (stands-same base core here sess at lives now replay kept work answers draws meant (with-not meant.answers answer.Conflict refl) rest (left [] (sym (append-nil core.entries)))))
        (holds base core here sess at lives now replay kept work answers draws meant _ true (with-ends meant.answers answer.Conflict is refl) (ap begun (work-settings core.base.shape _ sess.settings statements commit draws meant means)))
    commits opening statements commit draws meant _ _ _ means is left (Stores may) answered =
        let work = call.Work statements commit in
        let entry : Entry = entry_of (with_work sess (committed core) meant) work meant.answers draws in
        let stands = stands-more base core here sess at lives now replay kept work meant.answers draws meant is entry refl rest (left (entry ∷ []) refl) in
        acted work meant.answers draws meant _ _ means
        (record { committed = stands.committed; stored = stands.stored; left = stands.left; incarnation = stands.incarnation })
        (holds base core here sess at lives now replay kept work meant.answers draws meant _ true (commit-ends meant.answers is) (ap begun (work-settings core.base.shape _ sess.settings statements commit draws meant means)))
    commits opening statements commit draws meant _ _ _ means is left (StopsBefore may) answered = let none : ⊥ = cc in absurd none
    commits opening statements commit draws meant _ _ _ means is left (StopsAfter may) answered = let none : ⊥ = cc in absurd none

    works : (statements : List Statement) (commit : Bool) (after : Core) (new : Sess) (told : Telling) → Left here core rest after → Works core sess replay kept (call.Work statements commit) now after new told → IsTrue (is_answered told)
        → Goes here (session_of sess.ltxid) after new rest (behind_thing base here (session_of sess.ltxid) now (thing_of (up.Call replay kept (call.Work statements commit)) told))
    works statements commit _ _ _ left (Answers opening draws more meant drew means not) answered =
        let work = call.Work statements commit in
        let settings = work-settings core.base.shape _ sess.settings statements commit draws meant means.run in
        acted work meant.answers draws meant _ _ means.run
        (moved here core opening rest _ (stands-same base core here sess at lives now replay kept work meant.answers draws meant not rest (left [] (sym (append-nil core.entries)))))
        (holds base core here sess at lives now replay kept work meant.answers draws meant _ false ((work-ending core.base.shape _ sess.settings statements commit draws meant means.run).plain not)
        (λ i. record { settings = settings i; at_start = sess.at_start; pieces = (transaction_of (with_piece (with_work sess (committed core) meant) work meant.answers draws)).pieces; writes = sess.writes ++ meant.writes; reads = (with_work sess (committed core) meant).reads }))
    works statements commit _ _ _ left (Reaches opening draws more meant after new told drew means is commits_so) answered = commits opening statements commit draws meant after new told means.run is left commits_so answered
    works statements commit _ _ _ left (HaltsInDraw between opening draws next more left_over meant drew means halts) answered = let none : ⊥ = cc in absurd none

    -- a call of one answer, which reads and writes nothing
    plainly : (asked : Call) (a : Answer) (settings : List (List ℕ × Value)) (after : Core) (new : Sess) (over : Bool)
        → mean core.base.shape (with_writes (committed core) sess.writes) sess.settings asked [] ≡ Some (record { answers = a ∷ []; tables = with_writes (committed core) sess.writes; settings = settings; writes = []; reads = []; rest = [] })
        → ends_committed (a ∷ []) ≡ false → ends (a ∷ []) ≡ over → all_entries after ≡ all_entries core → committed after ≡ committed core → here.left ≡ rest
        → if_ended over (record { settings = settings; at_start = sess.at_start; pieces = (with_piece sess asked (a ∷ []) []).pieces; writes = sess.writes; reads = sess.reads }) ≡ transaction_of new
        → Goes here (session_of sess.ltxid) after new rest (behind_thing base here (session_of sess.ltxid) now (Called replay kept asked (a ∷ []) []))
    plainly asked a settings after new over means not is entries rows left same =
        let meant : Meant = record { answers = a ∷ []; tables = with_writes (committed core) sess.writes; settings = settings; writes = []; reads = []; rest = [] } in
        let stands = stands-same base core here sess at lives now replay kept asked (a ∷ []) [] meant not rest left in
        acted asked (a ∷ []) [] meant after new means
        (record { committed = stands.committed ∙ sym rows; stored = stands.stored ∙ sym entries; left = stands.left; incarnation = stands.incarnation })
        (holds base core here sess at lives now replay kept asked (a ∷ []) [] meant new over is
        ((λ i. if_ended over (record { settings = settings; at_start = sess.at_start; pieces = (with_piece sess asked (a ∷ []) []).pieces; writes = append-nil sess.writes i; reads = append-nil sess.reads i })) ∙ same))

    calls : (asked : Call) (after : Core) (new : Sess) (told : Telling) → Left here core rest after → Calls core sess replay kept now asked after new told → IsTrue (is_answered told)
        → Goes here (session_of sess.ltxid) after new rest (behind_thing base here (session_of sess.ltxid) now (thing_of (up.Call replay kept asked) told))
    calls _ _ _ _ left (IsWork statements commit after new told works_so) answered = works statements commit after new told left works_so answered
    calls _ _ _ _ left (IsSet name value) answered = plainly (call.Set name value) (answer.Done 1) (put_setting sess.settings name value) core _ false refl refl refl refl refl (left [] (sym (append-nil core.entries))) refl
    calls _ _ _ _ left (IsAlter line unmarked) answered = plainly (call.Alter line) (answer.Done 1) sess.settings _ _ false refl refl refl refl refl (left [] (sym (append-nil core.entries))) refl
    calls _ _ _ _ left (AlterStops line after unmarked same) answered = let none : ⊥ = cc in absurd none
    calls _ _ _ _ left (AlterMarked line marked) answered = quiet core _ refl refl (left [] (sym (append-nil core.entries))) ended-begun
    calls _ _ _ _ left IsDisable answered = plainly call.Disable (answer.Done 0) sess.settings core _ false refl refl refl refl refl (left [] (sym (append-nil core.entries))) refl
    calls _ _ _ _ left IsRollback answered = plainly call.Rollback answer.RolledBack sess.settings core _ true refl refl refl refl refl (left [] (sym (append-nil core.entries))) refl

  -- an identifier is asked in the session
  tells : (now : ℕ) (x : Ltxid) (judged : Verdict) → Left here core rest (if_blocks judged core x) → Goes here (session_of sess.ltxid) (if_blocks judged core x) sess rest (behind_thing base here (session_of sess.ltxid) now (thing_of (up.Outcome x) (Says (down_of judged))))
  tells now x verdict.BlockIt left = record { stands = record { committed = at.committed; stored = at.stored; left = left [] (sym (append-nil core.entries)); incarnation = refl }; holds = record { mine = at.transaction; others = λ other apart. refl; over = refl } }
  tells now x verdict.AlreadyBlocked left = record { stands = record { committed = at.committed; stored = at.stored; left = left [] (sym (append-nil core.entries)); incarnation = refl }; holds = record { mine = at.transaction; others = λ other apart. refl; over = refl } }
  tells now x (verdict.Committed completed) left = record { stands = record { committed = at.committed; stored = at.stored; left = left [] (sym (append-nil core.entries)); incarnation = refl }; holds = record { mine = at.transaction; others = λ other apart. refl; over = refl } }
  tells now x (verdict.ServerAhead number) left = record { stands = record { committed = at.committed; stored = at.stored; left = left [] (sym (append-nil core.entries)); incarnation = refl }; holds = record { mine = at.transaction; others = λ other apart. refl; over = refl } }
  tells now x (verdict.ClientAhead number) left = record { stands = record { committed = at.committed; stored = at.stored; left = left [] (sym (append-nil core.entries)); incarnation = refl }; holds = record { mine = at.transaction; others = λ other apart. refl; over = refl } }
  tells now x (verdict.Forgotten horizon) left = record { stands = record { committed = at.committed; stored = at.stored; left = left [] (sym (append-nil core.entries)); incarnation = refl }; holds = record { mine = at.transaction; others = λ other apart. refl; over = refl } }

  asks : (now : ℕ) (x : Ltxid) (after : Core) (told : Telling) → Left here core rest after → Outcomes core x after told → IsTrue (is_answered told) → (new : Sess) → transaction_of new ≡ transaction_of sess → new.life ≡ sess.life
      → Goes here (session_of sess.ltxid) after new rest (behind_thing base here (session_of sess.ltxid) now (thing_of (up.Outcome x) told))
  asks now x _ _ left (IsTold judged by) answered new same life =
      let goes = tells now x judged left in record { stands = goes.stands; holds = record { mine = λ begun. goes.holds.mine (sym life ∙ begun) ∙ sym same; others = goes.holds.others; over = goes.holds.over } }
  asks now x _ _ left (BlockStops after by same_core) answered new same life = let none : ⊥ = cc in absurd none

  refused : (now : ℕ) (frame : Up) → here.left ≡ rest → Goes here (session_of sess.ltxid) core (ended sess) rest (behind_thing base here (session_of sess.ltxid) now (with_answer frame (down.Refused 2)))
  refused now up.Connect left = quiet core _ refl refl left ended-begun
  refused now (up.Begin settings) left = quiet core _ refl refl left ended-begun
  refused now (up.Call replay kept asked) left = quiet core _ refl refl left ended-begun
  refused now (up.Outcome x) left = quiet core _ refl refl left ended-begun
  refused now up.End left = quiet core _ refl refl left ended-begun
  refused now up.Close left = quiet core _ refl refl left ended-begun

  told-life : (told : Telling) → IsTrue (is_answered told) → (transaction_of (if_told told sess) ≡ transaction_of sess) × ((if_told told sess).life ≡ sess.life)
  told-life Silent answered = (refl, refl)
  told-life (Says frame) answered = (refl, refl)
  told-life Stopped answered = let none : ⊥ = cc in absurd none

  pub serve-goes : (now : ℕ) (frame : Up) (after : Core) (new : Sess) (told : Telling) → Left here core rest after → Serve core sess now frame after new told → IsTrue (is_answered told)
      → Goes here (session_of sess.ltxid) after new rest (behind_thing base here (session_of sess.ltxid) now (thing_of frame told))
  serve-goes now _ _ _ _ left (Connects life) answered = quiet core _ refl refl (left [] (sym (append-nil core.entries))) idle-begun
  serve-goes now _ _ _ _ left (Begins settings serving) answered = record {
    stands = record { committed = at.committed; stored = at.stored; left = left [] (sym (append-nil core.entries)); incarnation = refl };
    holds = record { mine = λ e. found-same here.sessions (session_of sess.ltxid) (begun settings); others = λ other apart. found-other here.sessions (session_of sess.ltxid) other (begun settings) apart; over = refl };
  }
  serve-goes now _ _ _ _ left (Ends serving) answered = quiet core _ refl refl (left [] (sym (append-nil core.entries))) idle-begun
  serve-goes now _ _ _ _ left (Closes serving) answered = quiet core _ refl refl (left [] (sym (append-nil core.entries))) ended-begun
  serve-goes now _ _ _ _ left (Asks x after told serving asked) answered = let both = told-life told answered in asks now x after told left asked answered (if_told told sess) both.0 both.1
  serve-goes now _ _ _ _ left (Serves replay kept asked after new told begun calls_so) answered = calls begun now replay kept asked after new told left calls_so answered
  serve-goes now _ _ _ _ left (Refuses frame out) answered = refused now frame (left [] (sym (append-nil core.entries)))
