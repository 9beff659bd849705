-- Each answered frame is told as it has to be, where the walk stands where the server does.
use Rattle.std.specs.Prelude.{◌≡◌, ◌==◌, ◌&&◌, ℕ, Bool, true, false, not, nat_lt, ◌+◌, IsTrue, List, [], ◌∷◌, map, if◌then◌else◌}
use Rattle.std.proofs.Common.{refl, sym, ◌∙◌, ap, subst, arith}
use Rattle.std.proofs.lemmas.Bool.Decides.{nat_tests}
use Rattle.svc_values.specs.declared.draw.Draw.{Draw}
use Rattle.svc_values.specs.declared.statement.Statement.{Statement}
use Rattle.svc_values.specs.declared.call.Call.{Call}
use Rattle.svc_values.specs.declared.call.Call.TheVariants as call
use Rattle.svc_values.specs.declared.answer.Answer.{Answer}
use Rattle.svc_values.specs.declared.answer.Answer.TheVariants as answer
use Rattle.svc_values.specs.declared.entry.Ltxid.{Ltxid}
use Rattle.svc_values.specs.declared.frame.Up.{Up}
use Rattle.svc_values.specs.declared.frame.Up.TheVariants as up
use Rattle.svc_values.specs.declared.frame.Down.{Down}
use Rattle.svc_values.specs.declared.frame.Down.TheVariants as down
use Rattle.svc_values.specs.meaning.Identifiers.{same_ltxid}
use Rattle.ltxid_book.specs.meaning.Journal.{Committed, state_of, committed_of}
use Rattle.ltxid_book.specs.declared.verdict.Verdict.{Verdict}
use Rattle.ltxid_book.specs.declared.verdict.Verdict.TheVariants as verdict
use Rattle.ltxid_book.specs.declared.State.{State}
use Rattle.ltxid_book.specs.meaning.Sessions.{untouched}
use Rattle.ltxid_book.specs.meaning.Outcomes.{outcome_in}
use Rattle.server_model.specs.Core.{Core, all_entries, all_blocked}
use Rattle.svc_values.specs.declared.entry.SessionId.{SessionId}
use Rattle.server_model.specs.Sessions.{Life, New, Idle, Begun, Ended, Sess}
use Rattle.server_model.specs.meaning.Outcomes.{Telling, Silent, Says}
use Rattle.server_model.specs.Outcomes.{Outcomes, IsTold, BlockStops, down_of, verdict_on}
use Rattle.server_model.specs.Serve.{Commits, InReplay, Blocks, Conflicts, Stores, StopsBefore, StopsAfter, Works, Answers, Reaches, HaltsInDraw, Calls, IsWork, IsSet, IsAlter, AlterStops, AlterMarked, IsDisable, IsRollback, Serve, Connects, Begins, Ends, Closes, Asks, Runs as Serves, Refuses, is_serving, is_out_of_order, if_told}
use Rattle.server_model.specs.Runs.{is_answered}
use Rattle.server_model.specs.meaning.Walk.{Walk, next_of}
use Rattle.server_model.specs.ToldRight.{life_after, told_holds, same_outcome, outcome_on, tells_outcome, ask_holds, is_refused}
use Rattle.server_model.proofs.walks.Following.{ltxid-self}

-- ---- outcomes

if-down : (e b : Bool) (more : Verdict) → down_of (if e && not b then verdict.BlockIt else (if e && b then verdict.AlreadyBlocked else more)) ≡ (if e then down.OutcomeIs false false else down_of more)
if-down true true more = refl
if-down true false more = refl
if-down false true more = refl
if-down false false more = refl

-- what is blocked makes no difference to what is told
same-down : (commits : List Committed) (some other : List Ltxid) (x : Ltxid) → down_of (outcome_in (state_of commits some x.incarnation x.session) x.number) ≡ down_of (outcome_in (state_of commits other x.incarnation x.session) x.number)
same-down commits some other x = if-down (x.number == (state_of commits some x.incarnation x.session).next) (state_of commits some x.incarnation x.session).blocked _
    ∙ sym (if-down (x.number == (state_of commits other x.incarnation x.session).next) (state_of commits other x.incarnation x.session).blocked _)

-- nothing is below 0
none-below : (n : ℕ) → nat_lt n 0 ≡ false
none-below n = grind (arith, nat_tests)

number-self : (n : ℕ) → (n == n) ≡ true
number-self n = grind (arith, nat_tests)

bool-self : (b : Bool) → same_outcome (down.OutcomeIs true b) (down.OutcomeIs true b) ≡ true
bool-self true = refl
bool-self false = refl

outcome-self : (judged : Verdict) → ((horizon : ℕ) → judged ≡ verdict.Forgotten horizon → ⊥) → same_outcome (down_of judged) (down_of judged) ≡ true
outcome-self verdict.BlockIt never = refl
outcome-self verdict.AlreadyBlocked never = refl
outcome-self (verdict.Committed completed) never = bool-self completed
outcome-self (verdict.ServerAhead next) never = number-self next
outcome-self (verdict.ClientAhead next) never = number-self next
outcome-self (verdict.Forgotten horizon) never = absurd (never horizon refl)

never-forgotten : (a b c d completed : Bool) (next horizon : ℕ)
    → (if a then verdict.BlockIt else (if b then verdict.AlreadyBlocked else (if c then verdict.Committed completed else (if d then verdict.ServerAhead next else verdict.ClientAhead next)))) ≡ verdict.Forgotten horizon → ⊥
never-forgotten true b c d completed next horizon is = cc
never-forgotten false true c d completed next horizon is = cc
never-forgotten false false true d completed next horizon is = cc
never-forgotten false false false true completed next horizon is = cc
never-forgotten false false false false completed next horizon is = cc

-- a verdict on a session that is not forgotten is told by the table
by-table : (walk : Walk) (x : Ltxid) (judged : Verdict) → ((horizon : ℕ) → judged ≡ verdict.Forgotten horizon → ⊥) → outcome_on walk x ≡ down_of judged → tells_outcome walk x (down_of judged) ≡ true
by-table walk x verdict.BlockIt never there = ap (same_outcome (down_of verdict.BlockIt)) there ∙ outcome-self verdict.BlockIt never
by-table walk x verdict.AlreadyBlocked never there = ap (same_outcome (down_of verdict.AlreadyBlocked)) there ∙ outcome-self verdict.AlreadyBlocked never
by-table walk x (verdict.Committed completed) never there = ap (same_outcome (down_of (verdict.Committed completed))) there ∙ outcome-self (verdict.Committed completed) never
by-table walk x (verdict.ServerAhead next) never there = ap (same_outcome (down_of (verdict.ServerAhead next))) there ∙ outcome-self (verdict.ServerAhead next) never
by-table walk x (verdict.ClientAhead next) never there = ap (same_outcome (down_of (verdict.ClientAhead next))) there ∙ outcome-self (verdict.ClientAhead next) never
by-table walk x (verdict.Forgotten horizon) never there = absurd (never horizon refl)

pub outcome-right : (core : Core) (walk : Walk) (x : Ltxid) (judged : Verdict) → walk.stored ≡ all_entries core → verdict_on core x ≡ judged → tells_outcome walk x (down_of judged) ≡ true
outcome-right core walk x judged stored by = cases (nat_lt x.incarnation core.horizon) refl by
  where
    cases : (lost : Bool) → nat_lt x.incarnation core.horizon ≡ lost
        → (let state = if lost then untouched else state_of (map committed_of (all_entries core)) (all_blocked core) x.incarnation x.session in if lost then verdict.Forgotten core.horizon else outcome_in state x.number) ≡ judged
        → tells_outcome walk x (down_of judged) ≡ true
    cases true lost is = subst (λ v. tells_outcome walk x (down_of v) ≡ true) is lost
    cases false known is =
        let own : State = state_of (map committed_of (all_entries core)) (all_blocked core) x.incarnation x.session in
        let there : outcome_on walk x ≡ down_of judged =
        ap (λ b. let state = if b then untouched else state_of (map committed_of walk.stored) walk.blocked x.incarnation x.session in down_of (if b then verdict.Forgotten 0 else outcome_in state x.number)) (none-below x.incarnation)
        ∙ ap (λ s. down_of (outcome_in (state_of (map committed_of s) walk.blocked x.incarnation x.session) x.number)) stored
        ∙ same-down (map committed_of (all_entries core)) walk.blocked (all_blocked core) x
        ∙ ap down_of is in
        by-table walk x judged (λ horizon e. never-forgotten ((x.number == own.next) && not own.blocked) ((x.number == own.next) && own.blocked) (x.number + 1 == own.next) (nat_lt (x.number + 1) own.next) own.completed own.next horizon (is ∙ e)) there

pub ask-right : (core : Core) (walk : Walk) (x : Ltxid) (after : Core) (told : Telling) → walk.stored ≡ all_entries core → Outcomes core x after told → ask_holds walk x told ≡ true
ask-right core walk x _ _ stored (IsTold judged by) = outcome-right core walk x judged stored by
ask-right core walk x _ _ stored (BlockStops after by same) = refl

-- ---- lives

asked-life : (judged : Verdict) (x : Ltxid) (life : Life) → life_after (up.Outcome x) (Says (down_of judged)) life ≡ life
asked-life verdict.BlockIt x life = refl
asked-life verdict.AlreadyBlocked x life = refl
asked-life (verdict.Committed completed) x life = refl
asked-life (verdict.ServerAhead next) x life = refl
asked-life (verdict.ClientAhead next) x life = refl
asked-life (verdict.Forgotten horizon) x life = refl

outcomes-life : (core : Core) (sess : Sess) (x : Ltxid) (after : Core) (told : Telling) → Outcomes core x after told → IsTrue (is_answered told) → life_after (up.Outcome x) told sess.life ≡ (if_told told sess).life
outcomes-life core sess x _ _ (IsTold judged by) answered = asked-life judged x sess.life
outcomes-life core sess x _ _ (BlockStops after by same) answered = let none : ⊥ = cc in absurd none

commits-life : (core : Core) (sess : Sess) (replay : Bool) (kept : List Draw) (called : Call) (answers : List Answer) (draws : List Draw) (after : Core) (t : Sess) (told : Telling) → Commits core sess replay called answers draws after t told → IsTrue (is_answered told)
    → life_after (up.Call replay kept called) told sess.life ≡ t.life
commits-life core sess replay kept called answers draws _ _ _ (InReplay marked) answered = refl
commits-life core sess replay kept called answers draws _ _ _ (Blocks unmarked blocked) answered = refl
commits-life core sess replay kept called answers draws _ _ _ (Conflicts unmarked free differs) answered = refl
commits-life core sess replay kept called answers draws _ _ _ (Stores may) answered = refl
commits-life core sess replay kept called answers draws _ _ _ (StopsBefore may) answered = let none : ⊥ = cc in absurd none
commits-life core sess replay kept called answers draws _ _ _ (StopsAfter may) answered = let none : ⊥ = cc in absurd none

works-life : (core : Core) (sess : Sess) (replay : Bool) (kept : List Draw) (called : Call) (now : ℕ) (after : Core) (t : Sess) (told : Telling) → Works core sess replay kept called now after t told → IsTrue (is_answered told)
    → life_after (up.Call replay kept called) told sess.life ≡ t.life
works-life core sess replay kept called now _ _ _ (Answers opening draws left meant drew means not) answered = refl
works-life core sess replay kept called now _ _ _ (Reaches opening draws left meant after t told drew means is commits) answered = commits-life _ _ replay kept called meant.answers draws after t told commits answered
works-life core sess replay kept called now _ _ _ (HaltsInDraw between opening draws next more left meant drew means halts) answered = let none : ⊥ = cc in absurd none

calls-life : (core : Core) (sess : Sess) (replay : Bool) (kept : List Draw) (now : ℕ) (called : Call) (after : Core) (t : Sess) (told : Telling) → Calls core sess replay kept now called after t told → IsTrue (is_answered told)
    → life_after (up.Call replay kept called) told sess.life ≡ t.life
calls-life core sess replay kept now _ _ _ _ (IsWork statements commit after t told works) answered = works-life core sess replay kept _ now after t told works answered
calls-life core sess replay kept now _ _ _ _ (IsSet name value) answered = refl
calls-life core sess replay kept now _ _ _ _ (IsAlter line unmarked) answered = refl
calls-life core sess replay kept now _ _ _ _ (AlterStops line after unmarked same) answered = let none : ⊥ = cc in absurd none
calls-life core sess replay kept now _ _ _ _ (AlterMarked line marked) answered = refl
calls-life core sess replay kept now _ _ _ _ IsDisable answered = refl
calls-life core sess replay kept now _ _ _ _ IsRollback answered = refl

-- the life that the frames tell is the session's
pub serve-life : (core : Core) (sess : Sess) (now : ℕ) (frame : Up) (after : Core) (t : Sess) (told : Telling) → Serve core sess now frame after t told → IsTrue (is_answered told) → life_after frame told sess.life ≡ t.life
serve-life core sess now _ _ _ _ (Connects life) answered = refl
serve-life core sess now _ _ _ _ (Begins settings serving) answered = refl
serve-life core sess now _ _ _ _ (Ends serving) answered = refl
serve-life core sess now _ _ _ _ (Closes serving) answered = refl
serve-life core sess now _ _ _ _ (Asks x after told serving asked) answered = outcomes-life core sess x after told asked answered
serve-life core sess now _ _ _ _ (Serves replay kept called after t told begun calls) answered = calls-life core sess replay kept now called after t told calls answered
serve-life core sess now _ _ _ _ (Refuses frame out) answered = refl

-- ---- what is told

begun-ended : Begun ≡ Ended → ⊥
begun-ended e = let none : ⊥ = cc in none

idle-ended : Idle ≡ Ended → ⊥
idle-ended e = let none : ⊥ = cc in none

unmarked-is : (replay : Bool) → IsTrue (not replay) → replay ≡ false
unmarked-is true is = let none : ⊥ = cc in absurd none
unmarked-is false is = refl

module _ (before behind : Walk) (session : SessionId) where
  silent : (life : Life) (frame : Up) → is_serving life ≡ true → (told_holds Idle before behind session frame Silent ≡ true) × (told_holds Begun before behind session frame Silent ≡ true) → told_holds life before behind session frame Silent ≡ true
  silent New frame is both = let none : ⊥ = cc in absurd none
  silent Idle frame is both = both.0
  silent Begun frame is both = both.1
  silent Ended frame is both = let none : ⊥ = cc in absurd none

  outcome : (life : Life) (x : Ltxid) (told : Down) → is_serving life ≡ true → tells_outcome before x told ≡ true → told_holds life before behind session (up.Outcome x) (Says told) ≡ true
  outcome New x told is right = let none : ⊥ = cc in absurd none
  outcome Idle x told is right = right
  outcome Begun x told is right = right
  outcome Ended x told is right = let none : ⊥ = cc in absurd none

  refuses : (life : Life) (frame : Up) → is_out_of_order life frame ≡ true → told_holds life before behind session frame (Says (down.Refused 2)) ≡ true
  refuses New up.Connect out = let none : ⊥ = cc in absurd none
  refuses New (up.Begin settings) out = refl
  refuses New (up.Call replay kept called) out = refl
  refuses New (up.Outcome x) out = refl
  refuses New up.End out = refl
  refuses New up.Close out = refl
  refuses Idle up.Connect out = refl
  refuses Idle (up.Begin settings) out = let none : ⊥ = cc in absurd none
  refuses Idle (up.Call replay kept called) out = refl
  refuses Idle (up.Outcome x) out = let none : ⊥ = cc in absurd none
  refuses Idle up.End out = let none : ⊥ = cc in absurd none
  refuses Idle up.Close out = let none : ⊥ = cc in absurd none
  refuses Begun up.Connect out = refl
  refuses Begun (up.Begin settings) out = let none : ⊥ = cc in absurd none
  refuses Begun (up.Call replay kept called) out = let none : ⊥ = cc in absurd none
  refuses Begun (up.Outcome x) out = let none : ⊥ = cc in absurd none
  refuses Begun up.End out = let none : ⊥ = cc in absurd none
  refuses Begun up.Close out = let none : ⊥ = cc in absurd none
  refuses Ended frame out = let none : ⊥ = cc in absurd none

  same-next : (x y : Ltxid) → next_of behind session ≡ y → x ≡ y → same_ltxid x (next_of behind session) ≡ true
  same-next x y next same = (λ i. same_ltxid (same i) (next i)) ∙ ltxid-self y

  commits-tell : (core : Core) (sess : Sess) (replay : Bool) (kept : List Draw) (statements : List Statement) (commit : Bool) (answers : List Answer) (draws : List Draw) (after : Core) (t : Sess) (told : Telling) → sess.life ≡ Begun
      → Commits core sess replay (call.Work statements commit) answers draws after t told → IsTrue (is_answered told) → ((t.life ≡ Ended → ⊥) → next_of behind session ≡ t.ltxid)
      → told_holds Begun before behind session (up.Call replay kept (call.Work statements commit)) told ≡ true
  commits-tell core sess replay kept statements commit answers draws _ _ _ lives (InReplay marked) answered next = same-next _ _ (next (λ e. begun-ended (sym lives ∙ e))) refl
  commits-tell core sess replay kept statements commit answers draws _ _ _ lives (Blocks unmarked blocked) answered next = refl
  commits-tell core sess replay kept statements commit answers draws _ _ _ lives (Conflicts unmarked free differs) answered next = same-next _ _ (next (λ e. begun-ended (sym lives ∙ e))) refl
  commits-tell core sess replay kept statements commit answers draws _ _ _ lives (Stores may) answered next = same-next _ _ (next (λ e. begun-ended (sym lives ∙ e))) refl
  commits-tell core sess replay kept statements commit answers draws _ _ _ lives (StopsBefore may) answered next = let none : ⊥ = cc in absurd none
  commits-tell core sess replay kept statements commit answers draws _ _ _ lives (StopsAfter may) answered next = let none : ⊥ = cc in absurd none

  works-tell : (core : Core) (sess : Sess) (replay : Bool) (kept : List Draw) (statements : List Statement) (commit : Bool) (now : ℕ) (after : Core) (t : Sess) (told : Telling) → sess.life ≡ Begun
      → Works core sess replay kept (call.Work statements commit) now after t told → IsTrue (is_answered told) → ((t.life ≡ Ended → ⊥) → next_of behind session ≡ t.ltxid)
      → told_holds Begun before behind session (up.Call replay kept (call.Work statements commit)) told ≡ true
  works-tell core sess replay kept statements commit now _ _ _ lives (Answers opening draws left meant drew means not) answered next = same-next _ _ (next (λ e. begun-ended (sym lives ∙ e))) refl
  works-tell core sess replay kept statements commit now _ _ _ lives (Reaches opening draws left meant after t told drew means is commits) answered next = commits-tell _ _ replay kept statements commit meant.answers draws after t told lives commits answered next
  works-tell core sess replay kept statements commit now _ _ _ lives (HaltsInDraw between opening draws first more left meant drew means halts) answered next = let none : ⊥ = cc in absurd none

  calls-tell : (core : Core) (sess : Sess) (replay : Bool) (kept : List Draw) (now : ℕ) (called : Call) (after : Core) (t : Sess) (told : Telling) → sess.life ≡ Begun
      → Calls core sess replay kept now called after t told → IsTrue (is_answered told) → ((t.life ≡ Ended → ⊥) → next_of behind session ≡ t.ltxid)
      → told_holds Begun before behind session (up.Call replay kept called) told ≡ true
  calls-tell core sess replay kept now _ _ _ _ lives (IsWork statements commit after t told works) answered next = works-tell core sess replay kept statements commit now after t told lives works answered next
  calls-tell core sess replay kept now _ _ _ _ lives (IsSet name value) answered next = same-next _ _ (next (λ e. begun-ended (sym lives ∙ e))) refl
  calls-tell core sess replay kept now _ _ _ _ lives (IsAlter line unmarked) answered next =
      ap (λ b. if b then is_refused (down.Reply (answer.Done 1 ∷ []) [] sess.ltxid) else same_ltxid sess.ltxid (next_of behind session)) (unmarked-is replay unmarked) ∙ same-next _ _ (next (λ e. begun-ended (sym lives ∙ e))) refl
  calls-tell core sess replay kept now _ _ _ _ lives (AlterStops line after unmarked same) answered next = let none : ⊥ = cc in absurd none
  calls-tell core sess replay kept now _ _ _ _ lives (AlterMarked line marked) answered next = ap (λ b. if b then true else false) marked
  calls-tell core sess replay kept now _ _ _ _ lives IsDisable answered next = same-next _ _ (next (λ e. begun-ended (sym lives ∙ e))) refl
  calls-tell core sess replay kept now _ _ _ _ lives IsRollback answered next = same-next _ _ (next (λ e. begun-ended (sym lives ∙ e))) refl

  asks-tell : (core : Core) (sess : Sess) (x : Ltxid) (after : Core) (told : Telling) → before.stored ≡ all_entries core → is_serving sess.life ≡ true → Outcomes core x after told → told_holds sess.life before behind session (up.Outcome x) told ≡ true
  asks-tell core sess x _ _ stored serving (IsTold judged by) = outcome sess.life x (down_of judged) serving (outcome-right core before x judged stored by)
  asks-tell core sess x _ _ stored serving (BlockStops after by same) = refl

  pub serve-tells : (core : Core) (sess : Sess) (now : ℕ) (frame : Up) (after : Core) (t : Sess) (told : Telling) → Serve core sess now frame after t told → IsTrue (is_answered told) → before.stored ≡ all_entries core
      → ((t.life ≡ Ended → ⊥) → next_of behind session ≡ t.ltxid) → told_holds sess.life before behind session frame told ≡ true
  serve-tells core sess now _ _ _ _ (Connects life) answered stored next = ap (λ l. told_holds l before behind session up.Connect (Says (down.Hello sess.ltxid))) life ∙ same-next _ _ (next idle-ended) refl
  serve-tells core sess now _ _ _ _ (Begins settings serving) answered stored next = silent sess.life (up.Begin settings) serving (refl, refl)
  serve-tells core sess now _ _ _ _ (Ends serving) answered stored next = silent sess.life up.End serving (refl, refl)
  serve-tells core sess now _ _ _ _ (Closes serving) answered stored next = silent sess.life up.Close serving (refl, refl)
  serve-tells core sess now _ _ _ _ (Asks x after told serving asked) answered stored next = asks-tell core sess x after told stored serving asked
  serve-tells core sess now _ _ _ _ (Serves replay kept called after t told begun calls) answered stored next =
      ap (λ l. told_holds l before behind session (up.Call replay kept called) told) begun ∙ calls-tell core sess replay kept now called after t told begun calls answered next
  serve-tells core sess now _ _ _ _ (Refuses frame out) answered stored next = refuses sess.life frame out
