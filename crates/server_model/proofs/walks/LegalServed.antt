-- Each frame that is served does a deed that meets what it has to, but for its draws.
use Rattle.std.specs.Prelude.{◌≡◌, ℕ, Bool, true, false, not, IsTrue, List, [], ◌∷◌, Some}
use Rattle.std.proofs.Common.{refl, sym, ◌∙◌, ap, append-nil}
use Rattle.svc_values.specs.declared.value.Value.{Value}
use Rattle.svc_values.specs.declared.draw.Draw.{Draw}
use Rattle.svc_values.specs.declared.statement.Statement.{Statement}
use Rattle.svc_values.specs.declared.call.Call.{Call}
use Rattle.svc_values.specs.declared.call.Call.TheVariants as call
use Rattle.svc_values.specs.declared.answer.Answer.{Answer}
use Rattle.svc_values.specs.declared.answer.Answer.TheVariants as answer
use Rattle.svc_values.specs.declared.entry.Ltxid.{Ltxid}
use Rattle.svc_values.specs.declared.entry.Entry.{Entry}
use Rattle.svc_values.specs.declared.frame.Up.{Up}
use Rattle.svc_values.specs.declared.frame.Up.TheVariants as up
use Rattle.svc_values.specs.declared.frame.Down.TheVariants as down
use Rattle.svc_values.specs.meaning.Endings.{ends_committed}
use Rattle.svc_values.specs.meaning.SettingsList.{put_setting}
use Rattle.svc_values.specs.meaning.Tables.{with_writes}
use Rattle.stmt_meaning.specs.meaning.Meaning.{Meant, mean}
use Rattle.ltxid_book.specs.meaning.Journal.{is_blocked}
use Rattle.mutable_values.specs.Sources.{Opening}
use Rattle.ltxid_book.specs.declared.verdict.Verdict.{Verdict}
use Rattle.ltxid_book.specs.declared.verdict.Verdict.TheVariants as verdict_on
use Rattle.server_model.specs.meaning.Base.{Base}
use Rattle.server_model.specs.Core.{Core, committed, all_blocked}
use Rattle.svc_values.specs.declared.entry.SessionId.{SessionId}
use Rattle.svc_values.specs.meaning.Identifiers.{session_of}
use Rattle.server_model.specs.Sessions.{Begun, Sess, with_work, entry_of}
use Rattle.server_model.specs.meaning.Outcomes.{Telling, Says}
use Rattle.server_model.specs.Outcomes.{Outcomes, IsTold, BlockStops, down_of}
use Rattle.server_model.specs.Serve.{Commits, InReplay, Blocks, Conflicts, Stores, StopsBefore, StopsAfter, Works, Answers, Reaches, HaltsInDraw, Calls, IsWork, IsSet, IsAlter, AlterStops, AlterMarked, IsDisable, IsRollback, Serve, Connects, Begins, Ends, Closes, Asks, Runs as Serves, Refuses, with_opening, with_last}
use Rattle.server_model.specs.Runs.{is_answered}
use Rattle.server_model.specs.meaning.Items.{Did, Thing, Called, thing_of, without_answer, with_answer}
use Rattle.server_model.specs.meaning.Walk.{Walk, Ran, Deed, deed_of, deed, next_of}
use Rattle.server_model.specs.meaning.Legal.{differs, verdict, is_free}
use Rattle.server_model.proofs.PlainAnswers.{work-ending, with-not}
use Rattle.server_model.proofs.walks.Deeds.{At, ran, performed}
use Rattle.server_model.proofs.walks.Followed.{Left}
use Rattle.server_model.proofs.walks.FollowedStops.{Gains, GainsNone, GainsOne, AllLater, none-performs, one-performs}
use Rattle.server_model.proofs.walks.LegalFrames.{deed_but, plain-right, ended-right, stored-right, plain-free, free-free, differs-true, conflict-free}

-- what the item did
abbrev pub deed_in : Base → Walk → SessionId → ℕ → Thing → Deed
deed_in base here session now thing = deed_of base here (Did 0 now session thing)

bool-false : (b : Bool) → (b ≡ true → ⊥) → b ≡ false
bool-false true never = absurd (never refl)
bool-false false never = refl

false_true : false ≡ true → ⊥
false_true e = let none : ⊥ = cc in none

unmarked-is : (replay : Bool) → IsTrue (not replay) → replay ≡ false
unmarked-is true is = let none : ⊥ = cc in absurd none
unmarked-is false is = refl

-- everything that the walk has as blocked is so in the store
abbrev pub BlocksIn : Walk → Core → Type 0
BlocksIn here core = (x : Ltxid) → is_blocked here.blocked x ≡ true → is_blocked (all_blocked core) x ≡ true

module _ (base : Base) (core : Core) (here : Walk) (sess : Sess) (at : At base core here sess) (rest : List Entry) where
  -- a frame of which nothing stands
  pub lost-right : (now : ℕ) (frame : Up) → here.left ≡ rest → AllLater sess.ltxid.incarnation rest → deed_but here (deed_in base here (session_of sess.ltxid) now (without_answer frame)) ≡ true
  lost-right now up.Connect left later = refl
  lost-right now (up.Begin settings) left later = refl
  lost-right now (up.Call replay kept called) left later = ap (λ p. deed_but here (deed base here p)) (none-performs base core here sess at rest now replay called left later)
  lost-right now (up.Outcome x) left later = refl
  lost-right now up.End left later = refl
  lost-right now up.Close left later = refl

module _ (base : Base) (core : Core) (here : Walk) (sess : Sess) (at : At base core here sess) (rest : List Entry) (number : next_of here (session_of sess.ltxid) ≡ sess.ltxid) (blocks : BlocksIn here core) where
  free-here : IsTrue (not (is_blocked (all_blocked core) sess.ltxid)) → is_blocked here.blocked (next_of here (session_of sess.ltxid)) ≡ false
  free-here free = bool-false _ (λ is. false_true (sym (ap not (blocks sess.ltxid (ap (is_blocked here.blocked) (sym number) ∙ is))) ∙ free))

  module _ (lives : sess.life ≡ Begun) (now : ℕ) (replay : Bool) (kept : List Draw) where
    by-deed : (called : Call) (answers : List Answer) (draws : List Draw) (meant : Meant) → mean core.base.shape (with_writes (committed core) sess.writes) sess.settings called draws ≡ Some meant
        → deed_but here (Ran (performed base core here sess at lives now replay kept called answers draws meant) meant) ≡ true → deed_but here (deed_in base here (session_of sess.ltxid) now (Called replay kept called answers draws)) ≡ true
    by-deed called answers draws meant means right = ap (deed_but here) (ran base core here sess at lives now replay kept called answers draws meant means) ∙ right

    commits : (opening : Opening) (statements : List Statement) (commit : Bool) (draws : List Draw) (meant : Meant) (after : Core) (new : Sess) (told : Telling)
        → mean core.base.shape (with_writes (committed core) sess.writes) sess.settings (call.Work statements commit) draws ≡ Some meant → meant.rest ≡ [] → ends_committed meant.answers ≡ true → Left here core rest after
        → Commits (with_opening core opening) (with_work sess (committed core) meant) replay (call.Work statements commit) meant.answers draws after new told → IsTrue (is_answered told)
        → deed_but here (deed_in base here (session_of sess.ltxid) now (thing_of (up.Call replay kept (call.Work statements commit)) told)) ≡ true
    commits opening statements commit draws meant _ _ _ means used is left (InReplay marked) answered =
        by-deed (call.Work statements commit) (with_last meant.answers answer.CommitInReplay) draws meant means
        (ended-right base core here sess at lives now replay kept (call.Work statements commit) draws meant used answer.CommitInReplay is (ap (λ b. verdict b (differs (committed core) (with_work sess (committed core) meant).reads)) marked)
        (with-not meant.answers answer.CommitInReplay refl) (conflict-free here (performed base core here sess at lives now replay kept (call.Work statements commit) (with_last meant.answers answer.CommitInReplay) draws meant) meant.answers refl))
    commits opening statements commit draws meant _ _ _ means used is left (Blocks unmarked blocked) answered = refl
    commits opening statements commit draws meant _ _ _ means used is left (Conflicts unmarked free changed) answered =
        by-deed (call.Work statements commit) (with_last meant.answers answer.Conflict) draws meant means
        (ended-right base core here sess at lives now replay kept (call.Work statements commit) draws meant used answer.Conflict is
        (λ i. verdict (unmarked-is replay unmarked i) (differs-true (with_work sess (committed core) meant).reads (committed core) changed.0 changed.1.0 changed.1.1 i))
        (with-not meant.answers answer.Conflict refl) (free-free here (performed base core here sess at lives now replay kept (call.Work statements commit) (with_last meant.answers answer.Conflict) draws meant) (free-here free)))
    commits opening statements commit draws meant _ _ _ means used is left (Stores may) answered =
        by-deed (call.Work statements commit) meant.answers draws meant means
        (stored-right base core here sess at lives now replay kept (call.Work statements commit) draws meant used rest is (unmarked-is replay may.unmarked) may.same (free-here may.free) number
        (left (entry_of (with_work sess (committed core) meant) (call.Work statements commit) meant.answers draws ∷ []) refl))
    commits opening statements commit draws meant _ _ _ means used is left (StopsBefore may) answered = let none : ⊥ = cc in absurd none
    commits opening statements commit draws meant _ _ _ means used is left (StopsAfter may) answered = let none : ⊥ = cc in absurd none

    works : (statements : List Statement) (commit : Bool) (after : Core) (new : Sess) (told : Telling) → Left here core rest after → Works core sess replay kept (call.Work statements commit) now after new told → IsTrue (is_answered told)
        → deed_but here (deed_in base here (session_of sess.ltxid) now (thing_of (up.Call replay kept (call.Work statements commit)) told)) ≡ true
    works statements commit _ _ _ left (Answers opening draws more meant drew means none) answered =
        by-deed (call.Work statements commit) meant.answers draws meant means.run
        (plain-right base core here sess at lives now replay kept (call.Work statements commit) draws meant means.used none
        (plain-free here (performed base core here sess at lives now replay kept (call.Work statements commit) meant.answers draws meant) none ((work-ending core.base.shape _ sess.settings statements commit draws meant means.run).plain none)))
    works statements commit _ _ _ left (Reaches opening draws more meant after new told drew means is commits_so) answered = commits opening statements commit draws meant after new told means.run means.used is left commits_so answered
    works statements commit _ _ _ left (HaltsInDraw between opening draws next more left_over meant drew means halts) answered = let none : ⊥ = cc in absurd none

    one-answer : (asked : Call) (a : Answer) (settings : List (List ℕ × Value))
        → mean core.base.shape (with_writes (committed core) sess.writes) sess.settings asked [] ≡ Some (record { answers = a ∷ []; tables = with_writes (committed core) sess.writes; settings = settings; writes = []; reads = []; rest = [] })
        → ends_committed (a ∷ []) ≡ false → is_free here (record { session = session_of sess.ltxid; now = now; replay = replay; kept = kept; called = asked; answers = a ∷ []; draws = [] }) ≡ true
        → deed_but here (deed_in base here (session_of sess.ltxid) now (Called replay kept asked (a ∷ []) [])) ≡ true
    one-answer asked a settings means none free =
        let meant : Meant = record { answers = a ∷ []; tables = with_writes (committed core) sess.writes; settings = settings; writes = []; reads = []; rest = [] } in
        by-deed asked (a ∷ []) [] meant means (plain-right base core here sess at lives now replay kept asked [] meant refl none free)

    calls : (asked : Call) (after : Core) (new : Sess) (told : Telling) → Left here core rest after → Calls core sess replay kept now asked after new told → IsTrue (is_answered told)
        → deed_but here (deed_in base here (session_of sess.ltxid) now (thing_of (up.Call replay kept asked) told)) ≡ true
    calls _ _ _ _ left (IsWork statements commit after new told works_so) answered = works statements commit after new told left works_so answered
    calls _ _ _ _ left (IsSet name value) answered = one-answer (call.Set name value) (answer.Done 1) (put_setting sess.settings name value) refl refl refl
    calls _ _ _ _ left (IsAlter line unmarked) answered = one-answer (call.Alter line) (answer.Done 1) sess.settings refl refl refl
    calls _ _ _ _ left (AlterStops line after unmarked same) answered = let none : ⊥ = cc in absurd none
    calls _ _ _ _ left (AlterMarked line marked) answered = refl
    calls _ _ _ _ left IsDisable answered = one-answer call.Disable (answer.Done 0) sess.settings refl refl refl
    calls _ _ _ _ left IsRollback answered = one-answer call.Rollback answer.RolledBack sess.settings refl refl refl

  asks : (now : ℕ) (x : Ltxid) (judged : Verdict) → deed_but here (deed_in base here (session_of sess.ltxid) now (thing_of (up.Outcome x) (Says (down_of judged)))) ≡ true
  asks now x verdict_on.BlockIt = refl
  asks now x verdict_on.AlreadyBlocked = refl
  asks now x (verdict_on.Committed completed) = refl
  asks now x (verdict_on.ServerAhead next) = refl
  asks now x (verdict_on.ClientAhead next) = refl
  asks now x (verdict_on.Forgotten horizon) = refl

  outcomes : (now : ℕ) (x : Ltxid) (after : Core) (told : Telling) → Outcomes core x after told → IsTrue (is_answered told) → deed_but here (deed_in base here (session_of sess.ltxid) now (thing_of (up.Outcome x) told)) ≡ true
  outcomes now x _ _ (IsTold judged by) answered = asks now x judged
  outcomes now x _ _ (BlockStops after by same) answered = let none : ⊥ = cc in absurd none

  refused : (now : ℕ) (frame : Up) → deed_but here (deed_in base here (session_of sess.ltxid) now (with_answer frame (down.Refused 2))) ≡ true
  refused now up.Connect = refl
  refused now (up.Begin settings) = refl
  refused now (up.Call replay kept asked) = refl
  refused now (up.Outcome x) = refl
  refused now up.End = refl
  refused now up.Close = refl

  -- a frame that is answered
  pub serve-right : (now : ℕ) (frame : Up) (after : Core) (new : Sess) (told : Telling) → Left here core rest after → Serve core sess now frame after new told → IsTrue (is_answered told)
      → deed_but here (deed_in base here (session_of sess.ltxid) now (thing_of frame told)) ≡ true
  serve-right now _ _ _ _ left (Connects life) answered = refl
  serve-right now _ _ _ _ left (Begins settings serving) answered = refl
  serve-right now _ _ _ _ left (Ends serving) answered = refl
  serve-right now _ _ _ _ left (Closes serving) answered = refl
  serve-right now _ _ _ _ left (Asks x after told serving asked) answered = outcomes now x after told asked answered
  serve-right now _ _ _ _ left (Serves replay kept asked after new told begun calls_so) answered = calls begun now replay kept asked after new told left calls_so answered
  serve-right now _ _ _ _ left (Refuses frame out) answered = refused now frame

  -- a frame that was stopped
  pub stopped-right : (now : ℕ) (frame : Up) (after : Core) → Left here core rest after → AllLater sess.ltxid.incarnation rest → Gains core sess frame after → deed_but here (deed_in base here (session_of sess.ltxid) now (without_answer frame)) ≡ true
  stopped-right now frame after left later (GainsNone _ _ same entries) = lost-right base core here sess at rest now frame (left [] (entries ∙ sym (append-nil core.entries))) later
  stopped-right now _ after left later (GainsOne replay kept called draws meant _ unmarked commit lives means used is same entries free stand) =
      let there = left (entry_of (with_work sess (committed core) meant) called meant.answers draws ∷ []) entries in
      ap (deed_but here) (ap (deed base here) (one-performs base core here sess at rest now replay called draws meant number unmarked commit there) ∙ ran base core here sess at lives now false [] called meant.answers draws meant means)
      ∙ stored-right base core here sess at lives now false [] called draws meant used rest is refl stand (free-here free) number there
