-- What is told of a frame is stored: a commit's entry, a line, and the block of an identifier that
-- was not blocked before.
use Rattle.std.specs.Prelude.{◌≡◌, ℕ, Bool, true, false, List, [], ◌∷◌, ◌++◌}
use Rattle.std.proofs.Common.{refl, sym, ◌∙◌, ap, ap₂, inl, inr, append_assoc}
use Rattle.svc_values.specs.declared.draw.Draw.{Draw}
use Rattle.svc_values.specs.declared.call.Call.{Call}
use Rattle.svc_values.specs.declared.call.Call.TheVariants as call
use Rattle.svc_values.specs.declared.answer.Answer.{Answer}
use Rattle.svc_values.specs.declared.answer.Answer.TheVariants as answer
use Rattle.svc_values.specs.declared.entry.Entry.{Entry}
use Rattle.svc_values.specs.declared.entry.Ltxid.{Ltxid}
use Rattle.svc_values.specs.declared.frame.Up.{Up}
use Rattle.svc_values.specs.declared.frame.Up.TheVariants as up
use Rattle.svc_values.specs.declared.frame.Down.TheVariants as down
use Rattle.mutable_values.specs.Sources.{Opening}
use Rattle.ltxid_book.specs.declared.verdict.Verdict.{Verdict}
use Rattle.ltxid_book.specs.declared.verdict.Verdict.TheVariants as verdict
use Rattle.server_model.specs.meaning.Base.{Base}
use Rattle.server_model.specs.Core.{Core, all_entries, all_blocked}
use Rattle.server_model.specs.meaning.Outcomes.{Telling, Silent, Says, Stopped}
use Rattle.server_model.specs.Outcomes.{Outcomes, IsTold, BlockStops, down_of, if_blocks, verdict_on}
use Rattle.server_model.specs.Seen.{Store}
use Rattle.server_model.specs.Serve.{Commits, InReplay, Blocks, Conflicts, Stores, StopsBefore, StopsAfter, Works, Answers as AnswersCall, Reaches, HaltsInDraw, Calls, IsWork, IsSet, IsAlter, AlterStops, AlterMarked, IsDisable, IsRollback, Serve, Connects, Begins, Ends, Closes, Asks, Runs as Serves, Refuses, reply, with_opening}
use Rattle.server_model.specs.ServiceCalls.{AddsLine, StoresTold, BlocksAsTold, may_block}
use Rattle.server_model.specs.Sessions.{Sess}
use Rattle.server_model.proofs.Answered.{IfCommitted, serve_stored}
use Rattle.server_model.proofs.Stays.{serve_stays}
use Rattle.server_model.proofs.ToldBlocked.{already-blocked}

-- a store that holds what the plain server has
abbrev pub store_beside : Core → ℕ → Store
store_beside core records = record { incarnation = core.opening.incarnation; horizon = core.horizon; entries = all_entries core; blocked = all_blocked core; alerts = core.base.alerts ++ core.alerts; records = records }

module _ (core after : Core) (n m : ℕ) where
  entry_there : (entry : Entry) → after.base ≡ core.base → after.entries ≡ core.entries ++ entry ∷ [] → all_entries after ≡ all_entries core ++ entry ∷ []
  entry_there entry base more = ap (λ (b : Base). b.entries ++ after.entries) base ∙ ap (λ l. core.base.entries ++ l) more ∙ sym (append_assoc core.base.entries core.entries (entry ∷ []))

  call_stored : (sess : Sess) (replay : Bool) (kept : List Draw) (called : Call) (told : Telling) → after.base ≡ core.base → IfCommitted told core sess after → AddsLine (store_beside core n) called (store_beside after m)
      → StoresTold (store_beside core n) (up.Call replay kept called) told (store_beside after m)
  call_stored sess replay kept called Silent base is line = tt
  call_stored sess replay kept called (Says (down.Hello x)) base is line = tt
  call_stored sess replay kept called (Says (down.Reply answers draws x)) base is line = (λ ends. let stored = is ends in (stored.entry, entry_there stored.entry base stored.entries), line)
  call_stored sess replay kept called (Says (down.OutcomeIs committed completed)) base is line = tt
  call_stored sess replay kept called (Says (down.OutcomeRefused ahead next)) base is line = tt
  call_stored sess replay kept called (Says down.Blocked) base is line = tt
  call_stored sess replay kept called (Says (down.Refused cause)) base is line = tt
  call_stored sess replay kept called Stopped base is line = tt

calls_stored : (core : Core) (sess : Sess) (replay : Bool) (kept : List Draw) (now : ℕ) (called : Call) (after : Core) (t : Sess) (told : Telling) (n m : ℕ) → after.base ≡ core.base → IfCommitted told core sess after
    → Calls core sess replay kept now called after t told → StoresTold (store_beside core n) (up.Call replay kept called) told (store_beside after m)
calls_stored core sess replay kept now _ _ _ _ n m base is (IsWork statements commit after t told works) = call_stored core after n m sess replay kept (call.Work statements commit) told base is tt
calls_stored core sess replay kept now _ _ _ _ n m base is (IsSet name value) = call_stored core core n m sess replay kept (call.Set name value) (reply (answer.Done 1 ∷ []) [] sess) base is tt
calls_stored core sess replay kept now _ _ _ _ n m base is (IsAlter line unmarked) =
    call_stored core (record core { alerts = core.alerts ++ line ∷ [] }) n m sess replay kept (call.Alter line) (reply (answer.Done 1 ∷ []) [] sess) base is (sym (append_assoc core.base.alerts core.alerts (line ∷ [])))
calls_stored core sess replay kept now _ _ _ _ n m base is (AlterStops line after unmarked same) = tt
calls_stored core sess replay kept now _ _ _ _ n m base is (AlterMarked line marked) = tt
calls_stored core sess replay kept now _ _ _ _ n m base is IsDisable = call_stored core core n m sess replay kept call.Disable (reply (answer.Done 0 ∷ []) [] sess) base is tt
calls_stored core sess replay kept now _ _ _ _ n m base is IsRollback = call_stored core core n m sess replay kept call.Rollback (reply (answer.RolledBack ∷ []) [] sess) base is tt

outcomes_stored : (core : Core) (x : Ltxid) (after : Core) (told : Telling) (n m : ℕ) → Outcomes core x after told → StoresTold (store_beside core n) (up.Outcome x) told (store_beside after m)
outcomes_stored core x _ _ n m (IsTold judged by) = told_of judged by
  where
    told_of : (judged : Verdict) → verdict_on core x ≡ judged → StoresTold (store_beside core n) (up.Outcome x) (Says (down_of judged)) (store_beside (if_blocks judged core x) m)
    told_of verdict.BlockIt by = λ free. sym (append_assoc core.base.blocked core.blocked (x ∷ []))
    told_of verdict.AlreadyBlocked by = λ free. absurd (let e : true ≡ false = sym (already-blocked core x by) ∙ free in let none : ⊥ = cc in none)
    told_of (verdict.Committed completed) by = tt
    told_of (verdict.ServerAhead next) by = tt
    told_of (verdict.ClientAhead next) by = tt
    told_of (verdict.Forgotten horizon) by = tt
outcomes_stored core x _ _ n m (BlockStops after by same) = tt

refused_stored : (old : Store) (frame : Up) (new : Store) → StoresTold old frame (Says (down.Refused 2)) new
refused_stored old up.Connect new = tt
refused_stored old (up.Begin settings) new = tt
refused_stored old (up.Call replay kept called) new = tt
refused_stored old (up.Outcome x) new = tt
refused_stored old up.End new = tt
refused_stored old up.Close new = tt

pub told_stored : (core : Core) (sess : Sess) (now : ℕ) (frame : Up) (after : Core) (t : Sess) (told : Telling) (n m : ℕ) → Serve core sess now frame after t told → StoresTold (store_beside core n) frame told (store_beside after m)
told_stored core sess now _ _ _ _ n m (Connects life) = tt
told_stored core sess now _ _ _ _ n m (Begins settings serving) = tt
told_stored core sess now _ _ _ _ n m (Ends serving) = tt
told_stored core sess now _ _ _ _ n m (Closes serving) = tt
told_stored core sess now _ _ _ _ n m (Asks x after told serving asked) = outcomes_stored core x after told n m asked
told_stored core sess now _ _ _ _ n m (Serves replay kept called after t told begun calls) =
    let serve = Serves replay kept called after t told begun calls in
    calls_stored core sess replay kept now called after t told n m (serve_stays core sess now (up.Call replay kept called) after t told serve).base (serve_stored core sess now (up.Call replay kept called) after t told serve) calls
told_stored core sess now _ _ _ _ n m (Refuses frame out) = refused_stored (store_beside core n) frame (store_beside core m)

-- at a stop nothing is told
pub stopped_stored : (old : Store) (frame : Up) (new : Store) → StoresTold old frame Stopped new
stopped_stored old up.Connect new = tt
stopped_stored old (up.Begin settings) new = tt
stopped_stored old (up.Call replay kept called) new = tt
stopped_stored old (up.Outcome x) new = tt
stopped_stored old up.End new = tt
stopped_stored old up.Close new = tt

-- WHERE AN IDENTIFIER IS BLOCKED ------------------------------------------------------------------

commits_keep : (core : Core) (opening : Opening) (sess : Sess) (replay : Bool) (called : Call) (answers : List Answer) (draws : List Draw) (after : Core) (t : Sess) (told : Telling) → Commits (with_opening core opening) sess replay called answers draws after t told
    → after.blocked ≡ core.blocked
commits_keep core opening sess replay called answers draws _ _ _ (InReplay marked) = refl
commits_keep core opening sess replay called answers draws _ _ _ (Blocks unmarked blocked) = refl
commits_keep core opening sess replay called answers draws _ _ _ (Conflicts unmarked free differs) = refl
commits_keep core opening sess replay called answers draws _ _ _ (Stores may) = refl
commits_keep core opening sess replay called answers draws _ _ _ (StopsBefore may) = refl
commits_keep core opening sess replay called answers draws _ _ _ (StopsAfter may) = refl

works_keep : (core : Core) (sess : Sess) (replay : Bool) (kept : List Draw) (called : Call) (now : ℕ) (after : Core) (t : Sess) (told : Telling) → Works core sess replay kept called now after t told → after.blocked ≡ core.blocked
works_keep core sess replay kept called now _ _ _ (AnswersCall opening draws left meant drew means ends) = refl
works_keep core sess replay kept called now _ _ _ (Reaches opening draws left meant after t told drew means ends commits) = commits_keep core opening _ replay called meant.answers draws after t told commits
works_keep core sess replay kept called now _ _ _ (HaltsInDraw between opening draws next more left meant drew means halts) = refl

calls_keep : (core : Core) (sess : Sess) (replay : Bool) (kept : List Draw) (now : ℕ) (called : Call) (after : Core) (t : Sess) (told : Telling) → Calls core sess replay kept now called after t told → after.blocked ≡ core.blocked
calls_keep core sess replay kept now _ _ _ _ (IsWork statements commit after t told works) = works_keep core sess replay kept _ now after t told works
calls_keep core sess replay kept now _ _ _ _ (IsSet name value) = refl
calls_keep core sess replay kept now _ _ _ _ (IsAlter line unmarked) = refl
calls_keep core sess replay kept now _ _ _ _ (AlterStops line after unmarked (inl same)) = ap (λ (c : Core). c.blocked) same
calls_keep core sess replay kept now _ _ _ _ (AlterStops line after unmarked (inr same)) = ap (λ (c : Core). c.blocked) same
calls_keep core sess replay kept now _ _ _ _ (AlterMarked line marked) = refl
calls_keep core sess replay kept now _ _ _ _ IsDisable = refl
calls_keep core sess replay kept now _ _ _ _ IsRollback = refl

never : (P : Type 0) → true ≡ false → P
never P e = absurd (let none : ⊥ = cc in none)

outcomes_keep : (core : Core) (x : Ltxid) (after : Core) (told : Telling) → Outcomes core x after told → may_block told ≡ false → after.blocked ≡ core.blocked
outcomes_keep core x _ _ (IsTold verdict.BlockIt by) none = never _ none
outcomes_keep core x _ _ (IsTold verdict.AlreadyBlocked by) none = refl
outcomes_keep core x _ _ (IsTold (verdict.Committed completed) by) none = refl
outcomes_keep core x _ _ (IsTold (verdict.ServerAhead next) by) none = refl
outcomes_keep core x _ _ (IsTold (verdict.ClientAhead next) by) none = refl
outcomes_keep core x _ _ (IsTold (verdict.Forgotten horizon) by) none = refl
outcomes_keep core x _ _ (BlockStops after by same) none = never _ none

serve_keeps : (core : Core) (sess : Sess) (now : ℕ) (frame : Up) (after : Core) (t : Sess) (told : Telling) → Serve core sess now frame after t told → may_block told ≡ false → after.blocked ≡ core.blocked
serve_keeps core sess now _ _ _ _ (Connects life) none = refl
serve_keeps core sess now _ _ _ _ (Begins settings serving) none = refl
serve_keeps core sess now _ _ _ _ (Ends serving) none = refl
serve_keeps core sess now _ _ _ _ (Closes serving) none = refl
serve_keeps core sess now _ _ _ _ (Asks x after told serving asked) none = outcomes_keep core x after told asked none
serve_keeps core sess now _ _ _ _ (Serves replay kept called after t told begun calls) none = calls_keep core sess replay kept now called after t told calls
serve_keeps core sess now _ _ _ _ (Refuses frame out) none = refl

pub told_blocks : (core : Core) (sess : Sess) (now : ℕ) (frame : Up) (after : Core) (t : Sess) (told : Telling) (n m : ℕ) → Serve core sess now frame after t told → BlocksAsTold (store_beside core n) told (store_beside after m)
told_blocks core sess now frame after t told n m serve none = ap₂ (λ (b : Base) (more : List Ltxid). b.blocked ++ more) (serve_stays core sess now frame after t told serve).base (serve_keeps core sess now frame after t told serve none)

pub asked_blocks : (core : Core) (x : Ltxid) (after : Core) (told : Telling) (n m : ℕ) → after.base ≡ core.base → Outcomes core x after told → BlocksAsTold (store_beside core n) told (store_beside after m)
asked_blocks core x after told n m base asked none = ap₂ (λ (b : Base) (more : List Ltxid). b.blocked ++ more) base (outcomes_keep core x after told asked none)
