-- A frame that a stop left without an answer draws as the walk has it, and behind it the walk has
-- the last blocks of the source.
use Rattle.std.specs.Prelude.{◌≡◌, ◌++◌, ℕ, Bool, true, false, is_some, List, [], ◌∷◌, Some}
use Rattle.std.proofs.Common.{refl, inl, inr, sym, ◌∙◌, ap, subst, append-nil}
use Rattle.svc_values.specs.declared.draw.Draw.{Draw}
use Rattle.svc_values.specs.declared.statement.Statement.{Statement}
use Rattle.svc_values.specs.declared.call.Call.{Call}
use Rattle.svc_values.specs.declared.call.Call.TheVariants as call
use Rattle.svc_values.specs.declared.entry.Entry.{Entry}
use Rattle.svc_values.specs.declared.frame.Up.{Up}
use Rattle.svc_values.specs.declared.frame.Up.TheVariants as up
use Rattle.svc_values.specs.meaning.Calls.{has_commit}
use Rattle.svc_values.specs.meaning.Endings.{ends_committed}
use Rattle.svc_values.specs.meaning.Tables.{with_writes}
use Rattle.mutable_values.specs.Sources.{Opening}
use Rattle.stmt_meaning.specs.meaning.Asked.{asked_by_call}
use Rattle.stmt_meaning.specs.meaning.Meaning.{Meant, mean}
use Rattle.server_model.specs.meaning.Base.{Base}
use Rattle.server_model.specs.Core.{Core, committed}
use Rattle.svc_values.specs.declared.entry.SessionId.{SessionId}
use Rattle.svc_values.specs.meaning.Identifiers.{session_of}
use Rattle.server_model.specs.Sessions.{Begun, Sess, with_work, entry_of}
use Rattle.server_model.specs.meaning.Outcomes.{Telling}
use Rattle.server_model.specs.Draws.{brought, DrawsAll}
use Rattle.server_model.specs.Serve.{Commits, InReplay, Blocks, Conflicts, Stores, StopsBefore, StopsAfter, Works, Answers, Reaches, HaltsInDraw, Calls, IsWork, IsSet, IsAlter, AlterStops, AlterMarked, IsDisable, IsRollback, Serve, Connects, Begins, Ends, Closes, Asks, Runs as Serves, Refuses, with_opening}
use Rattle.server_model.specs.meaning.Items.{without_answer}
use Rattle.server_model.specs.meaning.NewValues.{Numbers}
use Rattle.server_model.specs.meaning.Walk.{Walk, Performed, after_deed, deed, next_of, or_same, stopped, if_nothing}
use Rattle.server_model.proofs.walks.Deeds.{At, ran}
use Rattle.server_model.proofs.walks.Followed.{Left, behind_thing}
use Rattle.server_model.proofs.walks.FollowedStops.{AllLater, none-performs, one-performs}
use Rattle.server_model.proofs.Growth.{outcomes-entries}
use Rattle.server_model.proofs.walks.LegalServed.{deed_in}
use Rattle.server_model.proofs.PlainAnswers.{work-ending}
use Rattle.server_model.proofs.draws.RoomKept.{Few}
use Rattle.server_model.proofs.draws.Spending.{Spent, tracks-spent, Aside, aside-same, aside-drawn, aside-halted, stopped-spent}
use Rattle.server_model.proofs.Stays.{outcomes_stay}
use Rattle.server_model.proofs.draws.Tracking.{Tracks, drawn-all}
use Rattle.server_model.proofs.draws.DrawnFrames.{deed_draws, asked-so, unmarked, ran-numbers}

-- the draws are right, the last blocks are the walk's, and where few identifiers were given the
-- walk counts few
pub record StopsRight (base : Base) (here : Walk) (session : SessionId) (now : ℕ) (frame : Up) (after : Core) : Type 0 where
  pub right : deed_draws base here (deed_in base here session now (without_answer frame)) ≡ true
  pub spent : Spent (behind_thing base here session now (without_answer frame)).numbers after.opening
  pub few : Few here.numbers.identifiers → Few after.opening.identifiers → Few (behind_thing base here session now (without_answer frame)).numbers.identifiers

module _ (base : Base) (core : Core) (here : Walk) (sess : Sess) (at : At base core here sess) (tracks : Tracks here.numbers core.opening) (rest : List Entry) (later : AllLater sess.ltxid.incarnation rest) where
  -- a call of which no entry stands
  lost-call : (now : ℕ) (replay : Bool) (kept : List Draw) (called : Call) (after : Core) → here.left ≡ rest → Aside (asked_by_call called) core.opening after.opening → StopsRight base here (session_of sess.ltxid) now (up.Call replay kept called) after
  lost-call now replay kept called after left aside =
      let nothing = none-performs base core here sess at rest now replay called left later in
      record {
        right = ap (λ p. deed_draws base here (deed base here p)) nothing;
        spent = subst (λ n. Spent n after.opening) (sym (ap (λ p. (stopped (if_nothing (deed base here p) (after_deed base here (deed base here p)) called)).numbers) nothing)) (stopped-spent called here.numbers core.opening after.opening tracks aside);
        few = λ before behind. subst Few (sym (ap (λ p. (stopped (if_nothing (deed base here p) (after_deed base here (deed base here p)) called)).numbers.identifiers) nothing)) before;
      }

  -- a frame that left the source as it was
  pub lost-frame : (now : ℕ) (frame : Up) (after : Core) → here.left ≡ rest → after.opening ≡ core.opening → StopsRight base here (session_of sess.ltxid) now frame after
  lost-frame now up.Connect after left same = record { right = refl; spent = subst (Spent here.numbers) (sym same) (tracks-spent here.numbers core.opening tracks); few = λ before behind. before }
  lost-frame now (up.Begin settings) after left same = record { right = refl; spent = subst (Spent here.numbers) (sym same) (tracks-spent here.numbers core.opening tracks); few = λ before behind. before }
  lost-frame now (up.Call replay kept called) after left same = lost-call now replay kept called after left (aside-same (asked_by_call called) core.opening after.opening same)
  lost-frame now (up.Outcome x) after left same = record { right = refl; spent = subst (Spent here.numbers) (sym same) (tracks-spent here.numbers core.opening tracks); few = λ before behind. before }
  lost-frame now up.End after left same = record { right = refl; spent = subst (Spent here.numbers) (sym same) (tracks-spent here.numbers core.opening tracks); few = λ before behind. before }
  lost-frame now up.Close after left same = record { right = refl; spent = subst (Spent here.numbers) (sym same) (tracks-spent here.numbers core.opening tracks); few = λ before behind. before }

  module _ (number : next_of here (session_of sess.ltxid) ≡ sess.ltxid) where
    module _ (lives : sess.life ≡ Begun) (now : ℕ) (replay : Bool) (kept : List Draw) where
      -- a commit whose entry stands
      stood-call : (statements : List Statement) (commit : Bool) (draws over : List Draw) (meant : Meant) (after : Core) → replay ≡ false → has_commit (call.Work statements commit) ≡ true
          → mean core.base.shape (with_writes (committed core) sess.writes) sess.settings (call.Work statements commit) draws ≡ Some meant
          → DrawsAll now core.opening (brought core.base.grants core.opening replay kept) draws after.opening over
          → here.left ≡ entry_of (with_work sess (committed core) meant) (call.Work statements commit) meant.answers draws ∷ rest → StopsRight base here (session_of sess.ltxid) now (up.Call replay kept (call.Work statements commit)) after
      stood-call statements commit draws over meant after not_marked has means drew left =
          let called : Call = call.Work statements commit in
          let it : Performed = record { session = session_of sess.ltxid; now = now; replay = false; kept = []; called = called; answers = meant.answers; draws = draws } in
          let all = drawn-all now draws core.opening [] after.opening over here.numbers (subst (λ r. DrawsAll now core.opening (brought core.base.grants core.opening r kept) draws after.opening over) not_marked drew) tracks in
          let does = ap (deed base here) (one-performs base core here sess at rest now replay called draws meant number not_marked has left) ∙ ran base core here sess at lives now false [] called meant.answers draws meant means in
          record {
            right = ap (deed_draws base here) does ∙ ap is_some all.is;
            spent = subst (λ n. Spent n after.opening)
                (sym (ap (λ d. (stopped (if_nothing d (after_deed base here d) called)).numbers) does ∙ ran-numbers base here it meant ∙ ap (or_same here.numbers) all.is))
                (tracks-spent all.more after.opening all.tracks);
            few = λ before behind. subst Few
                (sym (ap (λ d. (stopped (if_nothing d (after_deed base here d) called)).numbers.identifiers) does ∙ ap (λ (n : Numbers). n.identifiers) (ran-numbers base here it meant ∙ ap (or_same here.numbers) all.is) ∙ all.tracks.given)) behind;
          }

      commits : (opening : Opening) (statements : List Statement) (commit : Bool) (draws over : List Draw) (meant : Meant) (after : Core) (new : Sess) (told : Telling)
          → mean core.base.shape (with_writes (committed core) sess.writes) sess.settings (call.Work statements commit) draws ≡ Some meant → meant.rest ≡ [] → ends_committed meant.answers ≡ true → Left here core rest after
          → DrawsAll now core.opening (brought core.base.grants core.opening replay kept) draws opening over
          → Commits (with_opening core opening) (with_work sess (committed core) meant) replay (call.Work statements commit) meant.answers draws after new told
          → StopsRight base here (session_of sess.ltxid) now (up.Call replay kept (call.Work statements commit)) after
      commits opening statements commit draws over meant after new told means used is left drew so = by after new told left so
        where
          commit_is : has_commit (call.Work statements commit) ≡ true
          commit_is = (work-ending core.base.shape _ sess.settings statements commit draws meant means).commit is

          lost : (one : Core) → one.opening ≡ opening → one.entries ≡ core.entries → Left here core rest one → StopsRight base here (session_of sess.ltxid) now (up.Call replay kept (call.Work statements commit)) one
          lost one same entries left_one =
              let asked = asked-so base core sess (call.Work statements commit) draws meant means used in
              lost-call now replay kept (call.Work statements commit) one (left_one [] (entries ∙ sym (append-nil core.entries)))
              (subst (Aside (asked_by_call (call.Work statements commit)) core.opening) (sym same) (aside-drawn (asked_by_call (call.Work statements commit)) asked.unused now draws core.opening _ opening over asked.front drew))

          by : (one : Core) (two : Sess) (said : Telling) → Left here core rest one → Commits (with_opening core opening) (with_work sess (committed core) meant) replay (call.Work statements commit) meant.answers draws one two said
              → StopsRight base here (session_of sess.ltxid) now (up.Call replay kept (call.Work statements commit)) one
          by _ _ _ left_one (InReplay marked) = lost _ refl refl left_one
          by _ _ _ left_one (Blocks not_marked blocked) = lost _ refl refl left_one
          by _ _ _ left_one (Conflicts not_marked free changed) = lost _ refl refl left_one
          by _ _ _ left_one (StopsBefore may) = lost _ refl refl left_one
          by _ _ _ left_one (Stores may) =
              stood-call statements commit draws over meant _ (unmarked replay may.unmarked) commit_is means drew (left_one (entry_of (with_work sess (committed core) meant) (call.Work statements commit) meant.answers draws ∷ []) refl)
          by _ _ _ left_one (StopsAfter may) =
              stood-call statements commit draws over meant _ (unmarked replay may.unmarked) commit_is means drew (left_one (entry_of (with_work sess (committed core) meant) (call.Work statements commit) meant.answers draws ∷ []) refl)

      works : (statements : List Statement) (commit : Bool) (after : Core) (new : Sess) (told : Telling) → Left here core rest after → Works core sess replay kept (call.Work statements commit) now after new told
          → StopsRight base here (session_of sess.ltxid) now (up.Call replay kept (call.Work statements commit)) after
      works statements commit _ _ _ left (Answers opening draws over meant drew means plain) =
          let asked = asked-so base core sess (call.Work statements commit) draws meant means.run means.used in
          lost-call now replay kept (call.Work statements commit) _ (left [] (sym (append-nil core.entries))) (aside-drawn (asked_by_call (call.Work statements commit)) asked.unused now draws core.opening _ opening over asked.front drew)
      works statements commit _ _ _ left (Reaches opening draws over meant after new told drew means is commits_so) = commits opening statements commit draws over meant after new told means.run means.used is left drew commits_so
      works statements commit _ _ _ left (HaltsInDraw between opening draws next more over meant drew means halts) =
          let asked = asked-so base core sess (call.Work statements commit) (draws ++ next ∷ more) meant means.run means.used in
          lost-call now replay kept (call.Work statements commit) _ (left [] (sym (append-nil core.entries)))
          (aside-halted (asked_by_call (call.Work statements commit)) asked.unused now draws next more core.opening _ between over asked.front drew opening halts)

      calls : (asked : Call) (after : Core) (new : Sess) (told : Telling) → Left here core rest after → Calls core sess replay kept now asked after new told → StopsRight base here (session_of sess.ltxid) now (up.Call replay kept asked) after
      calls _ _ _ _ left (IsWork statements commit after new told works_so) = works statements commit after new told left works_so
      calls _ _ _ _ left (IsSet name value) = lost-frame now (up.Call replay kept (call.Set name value)) core (left [] (sym (append-nil core.entries))) refl
      calls _ _ _ _ left (IsAlter line not_marked) = lost-frame now (up.Call replay kept (call.Alter line)) _ (left [] (sym (append-nil core.entries))) refl
      calls _ _ _ _ left (AlterStops line after not_marked (inl same)) = lost-frame now (up.Call replay kept (call.Alter line)) after (left [] (ap (λ (c : Core). c.entries) same ∙ sym (append-nil core.entries))) (ap (λ (c : Core). c.opening) same)
      calls _ _ _ _ left (AlterStops line after not_marked (inr same)) = lost-frame now (up.Call replay kept (call.Alter line)) after (left [] (ap (λ (c : Core). c.entries) same ∙ sym (append-nil core.entries))) (ap (λ (c : Core). c.opening) same)
      calls _ _ _ _ left (AlterMarked line marked) = lost-frame now (up.Call replay kept (call.Alter line)) core (left [] (sym (append-nil core.entries))) refl
      calls _ _ _ _ left IsDisable = lost-frame now (up.Call replay kept call.Disable) core (left [] (sym (append-nil core.entries))) refl
      calls _ _ _ _ left IsRollback = lost-frame now (up.Call replay kept call.Rollback) core (left [] (sym (append-nil core.entries))) refl

    -- a frame that was stopped
    pub serve-stops : (now : ℕ) (frame : Up) (after : Core) (new : Sess) (told : Telling) → Left here core rest after → Serve core sess now frame after new told → StopsRight base here (session_of sess.ltxid) now frame after
    serve-stops now _ _ _ _ left (Connects life) = lost-frame now up.Connect core (left [] (sym (append-nil core.entries))) refl
    serve-stops now _ _ _ _ left (Begins settings serving) = lost-frame now (up.Begin settings) core (left [] (sym (append-nil core.entries))) refl
    serve-stops now _ _ _ _ left (Ends serving) = lost-frame now up.End core (left [] (sym (append-nil core.entries))) refl
    serve-stops now _ _ _ _ left (Closes serving) = lost-frame now up.Close core (left [] (sym (append-nil core.entries))) refl
    serve-stops now _ _ _ _ left (Asks x after told serving asked) = lost-frame now (up.Outcome x) after (left [] (outcomes-entries core x after told asked ∙ sym (append-nil core.entries))) (outcomes_stay core x after told asked).1
    serve-stops now _ _ _ _ left (Serves replay kept asked after new told begun calls_so) = calls begun now replay kept asked after new told left calls_so
    serve-stops now _ _ _ _ left (Refuses frame out) = lost-frame now frame core (left [] (sym (append-nil core.entries))) refl
