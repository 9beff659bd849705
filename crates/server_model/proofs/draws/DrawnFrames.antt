-- Each frame that is answered draws as the walk has it, and the walk goes on tracking the source.
use Rattle.std.specs.Prelude.{◌≡◌, ◌++◌, ℕ, Bool, true, false, not, IsTrue, is_some, List, [], ◌∷◌, map, Option, Some, None}
use Rattle.std.specs.Option.{option_map_or}
use Rattle.std.specs.List.{last_or}
use Rattle.std.proofs.Common.{refl, sym, ◌∙◌, ap, subst, append-nil}
use Rattle.svc_values.specs.declared.value.Value.{Value}
use Rattle.svc_values.specs.declared.draw.Draw.{Draw}
use Rattle.svc_values.specs.declared.draw.DrawKind.{DrawKind}
use Rattle.svc_values.specs.declared.statement.Statement.{Statement}
use Rattle.svc_values.specs.declared.call.Call.{Call}
use Rattle.svc_values.specs.declared.call.Call.TheVariants as call
use Rattle.svc_values.specs.declared.answer.Answer.{Answer}
use Rattle.svc_values.specs.declared.answer.Answer.TheVariants as answer
use Rattle.svc_values.specs.declared.entry.Ltxid.{Ltxid}
use Rattle.svc_values.specs.declared.frame.Up.{Up}
use Rattle.svc_values.specs.declared.frame.Up.TheVariants as up
use Rattle.svc_values.specs.declared.frame.Down.TheVariants as down
use Rattle.svc_values.specs.meaning.Endings.{is_committed, ends_committed}
use Rattle.svc_values.specs.meaning.SettingsList.{put_setting}
use Rattle.svc_values.specs.meaning.Tables.{with_writes}
use Rattle.ltxid_book.specs.declared.verdict.Verdict.{Verdict}
use Rattle.ltxid_book.specs.declared.verdict.Verdict.TheVariants as verdict
use Rattle.mutable_values.specs.Sources.{Opening}
use Rattle.stmt_meaning.specs.meaning.Asked.{asked_by_call}
use Rattle.stmt_meaning.specs.Asked.{kind_drawn, UsesInOrder}
use Rattle.stmt_meaning.specs.meaning.Meaning.{Meant, mean, is_refusal}
use Rattle.stmt_meaning.specs.Refused.{ends_refused}
use Rattle.stmt_meaning.proofs.Offered.{mean-uses}
use Rattle.server_model.specs.meaning.Base.{Base}
use Rattle.server_model.specs.Core.{Core, committed}
use Rattle.svc_values.specs.declared.entry.SessionId.{SessionId}
use Rattle.svc_values.specs.meaning.Identifiers.{session_of}
use Rattle.server_model.specs.Sessions.{Begun, Sess, with_work}
use Rattle.server_model.specs.meaning.Outcomes.{Telling, Says}
use Rattle.server_model.specs.Outcomes.{Outcomes, IsTold, BlockStops, down_of, if_blocks}
use Rattle.server_model.specs.Draws.{brought, DrawsAll}
use Rattle.server_model.specs.Serve.{Commits, InReplay, Blocks, Conflicts, Stores, StopsBefore, StopsAfter, Works, Answers, Reaches, HaltsInDraw, Calls, IsWork, IsSet, IsAlter, AlterStops, AlterMarked, IsDisable, IsRollback, Serve, Connects, Begins, Ends, Closes, Asks, Runs as Serves, Refuses, with_opening, with_last}
use Rattle.server_model.specs.Runs.{is_answered}
use Rattle.server_model.specs.meaning.Items.{Thing, Called, thing_of, with_answer}
use Rattle.server_model.specs.meaning.NewValues.{kept_by, drawn_by}
use Rattle.server_model.specs.meaning.Walk.{Walk, Performed, Deed, Nothing, Meaningless, Ran, or_same, with_call, with_numbers, if_commits, after_deed}
use Rattle.server_model.specs.meaning.Legal.{draws_hold}
use Rattle.server_model.proofs.walks.Deeds.{At, ran, performed}
use Rattle.server_model.proofs.walks.Followed.{behind_thing}
use Rattle.server_model.proofs.draws.KeptDraws.{SameKept, kept-brought}
use Rattle.server_model.proofs.walks.LegalServed.{deed_in}
use Rattle.server_model.proofs.draws.Spending.{unseen-tracks}
use Rattle.server_model.proofs.draws.Tracking.{Tracks, drawn-all}

-- the draws of a deed are as they have to be
abbrev pub deed_draws : Base → Walk → Deed → Bool
deed_draws base here Nothing = true
deed_draws base here Meaningless = true
deed_draws base here (Ran performed meant) = draws_hold base here performed

-- and behind them the walk tracks the source
pub record DrawsRight (base : Base) (here : Walk) (session : SessionId) (now : ℕ) (thing : Thing) (after : Core) : Type 0 where
  pub right : deed_draws base here (deed_in base here session now thing) ≡ true
  pub tracks : Tracks (behind_thing base here session now thing).numbers after.opening

-- ---- what was asked for

refused-not : (last : Option Answer) → option_map_or is_committed last false ≡ true → option_map_or is_refusal last false ≡ false
refused-not None is = cc
refused-not (Some (answer.Done n)) is = refl
refused-not (Some (answer.Rows rows)) is = refl
refused-not (Some (answer.Number n)) is = refl
refused-not (Some answer.Committed) is = refl
refused-not (Some answer.Conflict) is = refl
refused-not (Some answer.RolledBack) is = refl
refused-not (Some answer.CommitInReplay) is = refl
refused-not (Some (answer.Refused fault)) is = let none : ⊥ = cc in absurd none

-- the draws are the first of those that the call asks for, and all where it reached its commit
pub record Asked (called : Call) (draws : List Draw) (answers : List Answer) : Type 0 where
  pub unused : List DrawKind
  pub front : map kind_drawn draws ++ unused ≡ asked_by_call called
  pub whole : ends_committed answers ≡ true → map kind_drawn draws ≡ asked_by_call called

asked-uses : (called : Call) (draws rest : List Draw) (answers : List Answer) → rest ≡ [] → UsesInOrder (asked_by_call called) draws rest (ends_refused answers) → Asked called draws answers
asked-uses called draws rest answers none uses =
    let same : draws ≡ uses.used = uses.first ∙ ap (λ r. uses.used ++ r) none ∙ append-nil uses.used in
    let front : map kind_drawn draws ++ uses.unused ≡ asked_by_call called = ap (λ d. map kind_drawn d ++ uses.unused) same ∙ uses.in_order in
    record {
      unused = uses.unused;
      front = front;
      whole = λ is. sym (append-nil (map kind_drawn draws)) ∙ ap (λ u. map kind_drawn draws ++ u) (sym (uses.whole (refused-not (last_or None answers) is))) ∙ front;
    }

pub asked-so : (base : Base) (core : Core) (sess : Sess) (called : Call) (draws : List Draw) (meant : Meant) → mean core.base.shape (with_writes (committed core) sess.writes) sess.settings called draws ≡ Some meant → meant.rest ≡ [] → Asked called draws meant.answers
asked-so base core sess called draws meant means used =
    asked-uses called draws meant.rest meant.answers used (mean-uses core.base.shape (with_writes (committed core) sess.writes) sess.settings called draws meant means)

pub unmarked : (replay : Bool) → IsTrue (not replay) → replay ≡ false
unmarked true is = let none : ⊥ = cc in absurd none
unmarked false is = refl

-- ---- each frame

pub ran-numbers : (base : Base) (here : Walk) (it : Performed) (meant : Meant) → (after_deed base here (Ran it meant)).numbers ≡ or_same here.numbers (drawn_by it.now (kept_by base it.replay it.kept) it.draws here.numbers)
ran-numbers base here it meant = by (ends_committed it.answers)
  where
    by : (b : Bool) → (if_commits b (with_numbers base here it) (with_call here it meant).writes).numbers ≡ or_same here.numbers (drawn_by it.now (kept_by base it.replay it.kept) it.draws here.numbers)
    by true = refl
    by false = refl

module _ (base : Base) (core : Core) (here : Walk) (sess : Sess) (at : At base core here sess) (same : SameKept base core.opening) (tracks : Tracks here.numbers core.opening) where
  module _ (lives : sess.life ≡ Begun) (now : ℕ) (replay : Bool) (kept : List Draw) where
    called-draws : (called : Call) (answers : List Answer) (draws left : List Draw) (meant : Meant) (after : Core) → mean core.base.shape (with_writes (committed core) sess.writes) sess.settings called draws ≡ Some meant
        → DrawsAll now core.opening (brought core.base.grants core.opening replay kept) draws after.opening left → DrawsRight base here (session_of sess.ltxid) now (Called replay kept called answers draws) after
    called-draws called answers draws left meant after means drew =
        let it : Performed = performed base core here sess at lives now replay kept called answers draws meant in
        let all = drawn-all now draws core.opening (brought core.base.grants core.opening replay kept) after.opening left here.numbers drew tracks in
        let does = ran base core here sess at lives now replay kept called answers draws meant means in
        let drawn : drawn_by now (kept_by base replay kept) draws here.numbers ≡ Some all.more =
        ap (λ k. drawn_by now k draws here.numbers) (kept-brought base core.opening same replay kept ∙ (λ i. brought (sym at.is i).grants core.opening replay kept)) ∙ all.is in
        record {
          right = ap (deed_draws base here) does ∙ ap is_some drawn;
          tracks = subst (λ n. Tracks n after.opening) (sym (ap (λ d. (after_deed base here d).numbers) does ∙ ran-numbers base here it meant ∙ ap (or_same here.numbers) drawn)) all.tracks;
        }

    commits : (opening : Opening) (statements : List Statement) (commit : Bool) (draws left : List Draw) (meant : Meant) (after : Core) (new : Sess) (told : Telling)
        → mean core.base.shape (with_writes (committed core) sess.writes) sess.settings (call.Work statements commit) draws ≡ Some meant → meant.rest ≡ [] → ends_committed meant.answers ≡ true
        → DrawsAll now core.opening (brought core.base.grants core.opening replay kept) draws opening left
        → Commits (with_opening core opening) (with_work sess (committed core) meant) replay (call.Work statements commit) meant.answers draws after new told → IsTrue (is_answered told)
        → DrawsRight base here (session_of sess.ltxid) now (thing_of (up.Call replay kept (call.Work statements commit)) told) after
    commits opening statements commit draws left meant _ _ _ means used is drew (InReplay marked) answered = called-draws (call.Work statements commit) (with_last meant.answers answer.CommitInReplay) draws left meant _ means drew
    commits opening statements commit draws left meant _ _ _ means used is drew (Blocks not_marked blocked) answered = record {
      right = refl;
      tracks = unseen-tracks (call.Work statements commit) now draws core.opening opening left here.numbers ((asked-so base core sess (call.Work statements commit) draws meant means used).whole is)
          (subst (λ r. DrawsAll now core.opening (brought core.base.grants core.opening r kept) draws opening left) (unmarked replay not_marked) drew) tracks;
    }
    commits opening statements commit draws left meant _ _ _ means used is drew (Conflicts not_marked free changed) answered = called-draws (call.Work statements commit) (with_last meant.answers answer.Conflict) draws left meant _ means drew
    commits opening statements commit draws left meant _ _ _ means used is drew (Stores may) answered = called-draws (call.Work statements commit) meant.answers draws left meant _ means drew
    commits opening statements commit draws left meant _ _ _ means used is drew (StopsBefore may) answered = let none : ⊥ = cc in absurd none
    commits opening statements commit draws left meant _ _ _ means used is drew (StopsAfter may) answered = let none : ⊥ = cc in absurd none

    works : (statements : List Statement) (commit : Bool) (after : Core) (new : Sess) (told : Telling) → Works core sess replay kept (call.Work statements commit) now after new told → IsTrue (is_answered told)
        → DrawsRight base here (session_of sess.ltxid) now (thing_of (up.Call replay kept (call.Work statements commit)) told) after
    works statements commit _ _ _ (Answers opening draws left meant drew means plain) answered = called-draws (call.Work statements commit) meant.answers draws left meant _ means.run drew
    works statements commit _ _ _ (Reaches opening draws left meant after new told drew means is commits_so) answered = commits opening statements commit draws left meant after new told means.run means.used is drew commits_so answered
    works statements commit _ _ _ (HaltsInDraw between opening draws next more left meant drew means halts) answered = let none : ⊥ = cc in absurd none

    plainly : (asked : Call) (a : Answer) (settings : List (List ℕ × Value)) (after : Core) → after.opening ≡ core.opening
        → mean core.base.shape (with_writes (committed core) sess.writes) sess.settings asked [] ≡ Some (record { answers = a ∷ []; tables = with_writes (committed core) sess.writes; settings = settings; writes = []; reads = []; rest = [] })
        → DrawsRight base here (session_of sess.ltxid) now (Called replay kept asked (a ∷ []) []) after
    plainly asked a settings after opening means = called-draws asked (a ∷ []) [] _ _ after means (opening, refl)

    calls : (asked : Call) (after : Core) (new : Sess) (told : Telling) → Calls core sess replay kept now asked after new told → IsTrue (is_answered told) → DrawsRight base here (session_of sess.ltxid) now (thing_of (up.Call replay kept asked) told) after
    calls _ _ _ _ (IsWork statements commit after new told works_so) answered = works statements commit after new told works_so answered
    calls _ _ _ _ (IsSet name value) answered = plainly (call.Set name value) (answer.Done 1) (put_setting sess.settings name value) core refl refl
    calls _ _ _ _ (IsAlter line not_marked) answered = plainly (call.Alter line) (answer.Done 1) sess.settings _ refl refl
    calls _ _ _ _ (AlterStops line after not_marked same_core) answered = let none : ⊥ = cc in absurd none
    calls _ _ _ _ (AlterMarked line marked) answered = record { right = refl; tracks = tracks }
    calls _ _ _ _ IsDisable answered = plainly call.Disable (answer.Done 0) sess.settings core refl refl
    calls _ _ _ _ IsRollback answered = plainly call.Rollback answer.RolledBack sess.settings core refl refl

  asks : (now : ℕ) (x : Ltxid) (judged : Verdict) → DrawsRight base here (session_of sess.ltxid) now (thing_of (up.Outcome x) (Says (down_of judged))) (if_blocks judged core x)
  asks now x verdict.BlockIt = record { right = refl; tracks = tracks }
  asks now x verdict.AlreadyBlocked = record { right = refl; tracks = tracks }
  asks now x (verdict.Committed completed) = record { right = refl; tracks = tracks }
  asks now x (verdict.ServerAhead next) = record { right = refl; tracks = tracks }
  asks now x (verdict.ClientAhead next) = record { right = refl; tracks = tracks }
  asks now x (verdict.Forgotten horizon) = record { right = refl; tracks = tracks }

  outcomes : (now : ℕ) (x : Ltxid) (after : Core) (told : Telling) → Outcomes core x after told → IsTrue (is_answered told) → DrawsRight base here (session_of sess.ltxid) now (thing_of (up.Outcome x) told) after
  outcomes now x _ _ (IsTold judged by) answered = asks now x judged
  outcomes now x _ _ (BlockStops after by same_core) answered = let none : ⊥ = cc in absurd none

  refused : (now : ℕ) (frame : Up) → DrawsRight base here (session_of sess.ltxid) now (with_answer frame (down.Refused 2)) core
  refused now up.Connect = record { right = refl; tracks = tracks }
  refused now (up.Begin settings) = record { right = refl; tracks = tracks }
  refused now (up.Call replay kept asked) = record { right = refl; tracks = tracks }
  refused now (up.Outcome x) = record { right = refl; tracks = tracks }
  refused now up.End = record { right = refl; tracks = tracks }
  refused now up.Close = record { right = refl; tracks = tracks }

  -- a frame that is answered
  pub serve-draws : (now : ℕ) (frame : Up) (after : Core) (new : Sess) (told : Telling) → Serve core sess now frame after new told → IsTrue (is_answered told) → DrawsRight base here (session_of sess.ltxid) now (thing_of frame told) after
  serve-draws now _ _ _ _ (Connects life) answered = record { right = refl; tracks = tracks }
  serve-draws now _ _ _ _ (Begins settings serving) answered = record { right = refl; tracks = tracks }
  serve-draws now _ _ _ _ (Ends serving) answered = record { right = refl; tracks = tracks }
  serve-draws now _ _ _ _ (Closes serving) answered = record { right = refl; tracks = tracks }
  serve-draws now _ _ _ _ (Asks x after told serving asked) answered = outcomes now x after told asked answered
  serve-draws now _ _ _ _ (Serves replay kept asked after new told begun calls_so) answered = calls begun now replay kept asked after new told calls_so answered
  serve-draws now _ _ _ _ (Refuses frame out) answered = refused now frame
