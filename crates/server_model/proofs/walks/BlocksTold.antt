-- What is blocked in the store of a run the walk over it has as blocked, or as perhaps blocked.
use Rattle.std.specs.Prelude.{◌≡◌, ◌⊎◌, ◌||◌, nat_lt, ℕ, Bool, true, false, IsTrue, List, [], ◌∷◌, ◌++◌, if◌then◌else◌}
use Rattle.std.proofs.Common.{refl, inl, inr, sym, ◌∙◌, ap, subst, append-nil, append_assoc}
use Rattle.svc_values.specs.declared.draw.Draw.{Draw}
use Rattle.svc_values.specs.declared.call.Call.{Call}
use Rattle.svc_values.specs.declared.answer.Answer.{Answer}
use Rattle.svc_values.specs.declared.entry.Ltxid.{Ltxid}
use Rattle.svc_values.specs.declared.entry.Write.{Write}
use Rattle.svc_values.specs.declared.entry.Entry.{Entry}
use Rattle.svc_values.specs.declared.entry.SessionId.{SessionId}
use Rattle.svc_values.specs.declared.frame.Up.{Up}
use Rattle.svc_values.specs.declared.frame.Up.TheVariants as up
use Rattle.svc_values.specs.declared.frame.Down.TheVariants as down
use Rattle.svc_values.specs.declared.frame.Ahead.TheVariants as ahead
use Rattle.svc_values.specs.meaning.Endings.{ends_committed}
use Rattle.svc_values.specs.meaning.Identifiers.{same_ltxid, session_of}
use Rattle.ltxid_book.specs.meaning.Journal.{is_blocked}
use Rattle.ltxid_book.specs.declared.verdict.Verdict.{Verdict}
use Rattle.ltxid_book.specs.declared.verdict.Verdict.TheVariants as verdict
use Rattle.server_model.specs.meaning.Base.{Base}
use Rattle.server_model.specs.Core.{Core, all_blocked}
use Rattle.server_model.specs.Sessions.{Sess}
use Rattle.server_model.specs.meaning.Outcomes.{Telling, Silent, Says, Stopped}
use Rattle.server_model.specs.Outcomes.{Outcomes, IsTold, BlockStops, down_of, if_blocks, with_block}
use Rattle.server_model.specs.Serve.{Commits, InReplay, Blocks, Conflicts, Stores, StopsBefore, StopsAfter, Works, Answers as AnswersCall, Reaches, HaltsInDraw, Calls, IsWork, IsSet, IsAlter, AlterStops, AlterMarked, IsDisable, IsRollback, Serve, Connects, Begins, Ends, Closes, Asks, Runs as Serves, Refuses, with_opening}
use Rattle.server_model.specs.Runs.{Happened, Served, Asked, Server, Moves, Makes, Answers, Halts, Loses, AnswersAsk, HaltsInAsk, Reaps, Falls, Opens, StopsOpening, Runs, Start, Then, is_answered}
use Rattle.server_model.specs.meaning.Items.{Outcome, Uncommitted, Committed, ServerAhead, ClientAhead, Forgotten, Thing, Connected, Began, Called, MetBlock, TellsOutcome, EndedRequest, Closed, Refused, CallStopped, OutcomeStopped, Did, thing_of}
use Rattle.server_model.specs.meaning.NewValues.{opened}
use Rattle.server_model.specs.meaning.Walk.{Walk, walk_of, Performed, Deed, Nothing, Meaningless, Ran, after_deed, after_thing, if_nothing, if_uncommitted, if_commits, with_numbers, with_call, entered, deed_of}
use Rattle.server_model.proofs.Stays.{serve_stays, outcomes_stay}
use Rattle.server_model.proofs.walks.Following.{walk_behind, walked, walked-more}
use Rattle.server_model.proofs.walks.WalkBlocks.{deed-blocked, nothing-blocked, or-cases, enter-blocked}

-- the walk has the identifier as blocked, or as perhaps blocked
abbrev pub IsOut : Walk → Ltxid → Type 0
IsOut walk x = (is_blocked walk.blocked x ≡ true) ⊎ (is_blocked walk.perhaps x ≡ true)

-- it has so everything that the store blocks
abbrev pub BlocksOut : Core → Walk → Type 0
BlocksOut core walk = (x : Ltxid) → is_blocked (all_blocked core) x ≡ true → IsOut walk x

-- ---- a walk forgets none

pub or-left : (a b : Bool) → a ≡ true → (a || b) ≡ true
or-left true b is = refl
or-left false b is = let none : ⊥ = cc in absurd none

pub or-right : (a b : Bool) → b ≡ true → (a || b) ≡ true
or-right true b is = refl
or-right false b is = is

out-same : (walk behind : Walk) (x : Ltxid) → behind.blocked ≡ walk.blocked → behind.perhaps ≡ walk.perhaps → IsOut walk x → IsOut behind x
out-same walk behind x blocked perhaps (inl is) = inl (ap (λ l. is_blocked l x) blocked ∙ is)
out-same walk behind x blocked perhaps (inr is) = inr (ap (λ l. is_blocked l x) perhaps ∙ is)

commits-perhaps : (b : Bool) (base : Base) (walk : Walk) (performed : Performed) (writes : List Write) → (if_commits b (with_numbers base walk performed) writes).perhaps ≡ walk.perhaps
commits-perhaps true base walk performed writes = refl
commits-perhaps false base walk performed writes = refl

deed-perhaps : (base : Base) (walk : Walk) (did : Deed) → (after_deed base walk did).perhaps ≡ walk.perhaps
deed-perhaps base walk Nothing = refl
deed-perhaps base walk Meaningless = refl
deed-perhaps base walk (Ran performed meant) = commits-perhaps (ends_committed performed.answers) base walk performed (with_call walk performed meant).writes

nothing-perhaps : (did : Deed) (walk : Walk) (called : Call) → (if_nothing did walk called).perhaps ≡ walk.perhaps
nothing-perhaps Nothing walk called = refl
nothing-perhaps Meaningless walk called = refl
nothing-perhaps (Ran performed meant) walk called = refl

enter-perhaps : (walk : Walk) (session : SessionId) (now : ℕ) (thing : Thing) → (entered walk (Did 0 now session thing)).perhaps ≡ walk.perhaps
enter-perhaps walk session now thing = by (nat_lt walk.numbers.incarnation session.incarnation)
  where
    by : (b : Bool) → (if b then record walk { numbers = opened walk.numbers session.incarnation; is_over = false } else walk).perhaps ≡ walk.perhaps
    by true = refl
    by false = refl

out-told : (walk : Walk) (y : Ltxid) (outcome : Outcome) (x : Ltxid) → IsOut walk x → IsOut (if_uncommitted walk y outcome) x
out-told walk y Uncommitted x (inl is) = inl (or-right (same_ltxid y x) (is_blocked walk.blocked x) is)
out-told walk y Uncommitted x (inr is) = inr is
out-told walk y (Committed completed) x is = is
out-told walk y (ServerAhead next) x is = is
out-told walk y (ClientAhead next) x is = is
out-told walk y (Forgotten horizon) x is = is

out-perhaps : (walk : Walk) (y x : Ltxid) → IsOut walk x → IsOut (record walk { perhaps = y ∷ walk.perhaps }) x
out-perhaps walk y x (inl is) = inl is
out-perhaps walk y x (inr is) = inr (or-right (same_ltxid y x) (is_blocked walk.perhaps x) is)

out-thing : (walk : Walk) (session : SessionId) (did : Deed) (thing : Thing) (x : Ltxid) → IsOut walk x → IsOut (after_thing walk session did thing) x
out-thing walk session did Connected x is = is
out-thing walk session did (Began settings) x is = is
out-thing walk session did (Called replay kept called answers draws) x is = is
out-thing walk session did (MetBlock replay called) x is = is
out-thing walk session did (TellsOutcome y outcome) x is = out-told walk y outcome x is
out-thing walk session did EndedRequest x is = is
out-thing walk session did Closed x is = is
out-thing walk session did Refused x is = is
out-thing walk session did (CallStopped replay called) x is = out-same walk (after_thing walk session did (CallStopped replay called)) x (nothing-blocked did walk called) (nothing-perhaps did walk called) is
out-thing walk session did (OutcomeStopped y) x is = out-perhaps walk y x is

pub out-enters : (walk : Walk) (session : SessionId) (now : ℕ) (thing : Thing) (x : Ltxid) → IsOut walk x → IsOut (entered walk (Did 0 now session thing)) x
out-enters walk session now thing x is = out-same walk (entered walk (Did 0 now session thing)) x (enter-blocked walk session now thing) (enter-perhaps walk session now thing) is

out-behind : (base : Base) (walk : Walk) (happened : Happened) (x : Ltxid) → IsOut walk x → IsOut (walk_behind base walk happened) x
out-behind base walk (Served session now frame told) x is =
    let here : Walk = entered walk (Did 0 now session (thing_of frame told)) in
    let did : Deed = deed_of base here (Did 0 now session (thing_of frame told)) in
    out-thing (after_deed base here did) session did (thing_of frame told) x (out-same here (after_deed base here did) x (deed-blocked base here did) (deed-perhaps base here did) (out-enters walk session now (thing_of frame told) x is))
out-behind base walk (Asked y Silent) x is = out-perhaps walk y x is
out-behind base walk (Asked y Stopped) x is = out-perhaps walk y x is
out-behind base walk (Asked y (Says (down.Hello z))) x is = out-perhaps walk y x is
out-behind base walk (Asked y (Says (down.Reply answers draws z))) x is = out-perhaps walk y x is
out-behind base walk (Asked y (Says (down.OutcomeIs true completed))) x is = is
out-behind base walk (Asked y (Says (down.OutcomeIs false completed))) x is = out-told walk y Uncommitted x is
out-behind base walk (Asked y (Says (down.OutcomeRefused ahead.Server next))) x is = is
out-behind base walk (Asked y (Says (down.OutcomeRefused ahead.Client next))) x is = is
out-behind base walk (Asked y (Says (down.OutcomeRefused ahead.Forgotten next))) x is = is
out-behind base walk (Asked y (Says down.Blocked)) x is = out-perhaps walk y x is
out-behind base walk (Asked y (Says (down.Refused cause))) x is = out-perhaps walk y x is

-- ---- what a frame blocks

asked_in : Ltxid → Up → Ltxid
asked_in none (up.Outcome x) = x
asked_in none _ = none

outcomes-same : (y z : Ltxid) → up.Outcome y ≡ up.Outcome z → y ≡ z
unfolding asked_in
outcomes-same y z same = ap (asked_in y) same

-- nothing, or the identifier that was asked
pub data BlocksAtMost (core : Core) (frame : Up) (after : Core) (told : Telling) : Type 0 where
  AddsNone : after.blocked ≡ core.blocked → BlocksAtMost core frame after told
  AddsOne : (x : Ltxid) → frame ≡ up.Outcome x → after.blocked ≡ core.blocked ++ x ∷ [] → (told ≡ Says (down.OutcomeIs false false)) ⊎ (told ≡ Stopped) → BlocksAtMost core frame after told

told-adds : (core : Core) (x : Ltxid) (judged : Verdict) → BlocksAtMost core (up.Outcome x) (if_blocks judged core x) (Says (down_of judged))
told-adds core x verdict.BlockIt = AddsOne x refl refl (inl refl)
told-adds core x verdict.AlreadyBlocked = AddsNone refl
told-adds core x (verdict.Committed completed) = AddsNone refl
told-adds core x (verdict.ServerAhead next) = AddsNone refl
told-adds core x (verdict.ClientAhead next) = AddsNone refl
told-adds core x (verdict.Forgotten horizon) = AddsNone refl

outcomes-add : (core : Core) (x : Ltxid) (after : Core) (told : Telling) → Outcomes core x after told → BlocksAtMost core (up.Outcome x) after told
outcomes-add core x _ _ (IsTold judged by) = told-adds core x judged
outcomes-add core x _ _ (BlockStops after by (inl same)) = AddsNone (ap (λ (c : Core). c.blocked) same)
outcomes-add core x _ _ (BlockStops after by (inr same)) = AddsOne x refl (ap (λ (c : Core). c.blocked) same) (inr refl)

commits-add : (core : Core) (sess : Sess) (replay : Bool) (called : Call) (answers : List Answer) (draws : List Draw) (after : Core) (t : Sess) (told : Telling) → Commits core sess replay called answers draws after t told → after.blocked ≡ core.blocked
commits-add core sess replay called answers draws _ _ _ (InReplay marked) = refl
commits-add core sess replay called answers draws _ _ _ (Blocks unmarked blocked) = refl
commits-add core sess replay called answers draws _ _ _ (Conflicts unmarked free differs) = refl
commits-add core sess replay called answers draws _ _ _ (Stores may) = refl
commits-add core sess replay called answers draws _ _ _ (StopsBefore may) = refl
commits-add core sess replay called answers draws _ _ _ (StopsAfter may) = refl

works-add : (core : Core) (sess : Sess) (replay : Bool) (kept : List Draw) (called : Call) (now : ℕ) (after : Core) (t : Sess) (told : Telling) → Works core sess replay kept called now after t told → after.blocked ≡ core.blocked
works-add core sess replay kept called now _ _ _ (AnswersCall opening draws left meant drew means plain) = refl
works-add core sess replay kept called now _ _ _ (Reaches opening draws left meant after t told drew means is commits) = commits-add (with_opening core opening) _ replay called meant.answers draws after t told commits
works-add core sess replay kept called now _ _ _ (HaltsInDraw between opening draws next more left meant drew means halts) = refl

calls-add : (core : Core) (sess : Sess) (replay : Bool) (kept : List Draw) (now : ℕ) (called : Call) (after : Core) (t : Sess) (told : Telling) → Calls core sess replay kept now called after t told → after.blocked ≡ core.blocked
calls-add core sess replay kept now _ _ _ _ (IsWork statements commit after t told works) = works-add core sess replay kept _ now after t told works
calls-add core sess replay kept now _ _ _ _ (IsSet name value) = refl
calls-add core sess replay kept now _ _ _ _ (IsAlter line unmarked) = refl
calls-add core sess replay kept now _ _ _ _ (AlterStops line after unmarked (inl same)) = ap (λ (c : Core). c.blocked) same
calls-add core sess replay kept now _ _ _ _ (AlterStops line after unmarked (inr same)) = ap (λ (c : Core). c.blocked) same
calls-add core sess replay kept now _ _ _ _ (AlterMarked line marked) = refl
calls-add core sess replay kept now _ _ _ _ IsDisable = refl
calls-add core sess replay kept now _ _ _ _ IsRollback = refl

-- what a frame adds to the blocks
pub frame_blocks : (core : Core) (sess : Sess) (now : ℕ) (frame : Up) (after : Core) (t : Sess) (told : Telling) → Serve core sess now frame after t told → BlocksAtMost core frame after told
frame_blocks core sess now _ _ _ _ (Connects life) = AddsNone refl
frame_blocks core sess now _ _ _ _ (Begins settings serving) = AddsNone refl
frame_blocks core sess now _ _ _ _ (Ends serving) = AddsNone refl
frame_blocks core sess now _ _ _ _ (Closes serving) = AddsNone refl
frame_blocks core sess now _ _ _ _ (Asks x after told serving asked) = outcomes-add core x after told asked
frame_blocks core sess now _ _ _ _ (Serves replay kept called after t told begun calls) = AddsNone (calls-add core sess replay kept now called after t told calls)
frame_blocks core sess now _ _ _ _ (Refuses frame out) = AddsNone refl

-- ---- each move

last-blocked : (before : List Ltxid) (y x : Ltxid) → is_blocked (before ++ y ∷ []) x ≡ true → (is_blocked before x ≡ true) ⊎ (same_ltxid y x ≡ true)
last-blocked [] y x is = by (or-cases (same_ltxid y x) false is)
  where
    by : (same_ltxid y x ≡ true) ⊎ (false ≡ true) → (is_blocked [] x ≡ true) ⊎ (same_ltxid y x ≡ true)
    by (inl same) = inr same
    by (inr none) = inl none
last-blocked (first ∷ before) y x is = by (or-cases (same_ltxid first x) (is_blocked (before ++ y ∷ []) x) is) (λ more. last-blocked before y x more)
  where
    by : (same_ltxid first x ≡ true) ⊎ (is_blocked (before ++ y ∷ []) x ≡ true) → (is_blocked (before ++ y ∷ []) x ≡ true → (is_blocked before x ≡ true) ⊎ (same_ltxid y x ≡ true)) → (is_blocked (first ∷ before) x ≡ true) ⊎ (same_ltxid y x ≡ true)
    by (inl same) later = inl (or-left (same_ltxid first x) (is_blocked before x) same)
    by (inr more) later = on (later more)
      where
        on : (is_blocked before x ≡ true) ⊎ (same_ltxid y x ≡ true) → (is_blocked (first ∷ before) x ≡ true) ⊎ (same_ltxid y x ≡ true)
        on (inl there) = inl (or-right (same_ltxid first x) (is_blocked before x) there)
        on (inr same) = inr same

none-more : (core after : Core) (x : Ltxid) → after.base ≡ core.base → after.blocked ≡ core.blocked → is_blocked (all_blocked after) x ≡ true → is_blocked (all_blocked core) x ≡ true
none-more core after x base blocked is = (λ i. is_blocked ((sym base i).blocked ++ sym blocked i) x) ∙ is

one-more : (core after : Core) (y x : Ltxid) → after.base ≡ core.base → after.blocked ≡ core.blocked ++ y ∷ [] → is_blocked (all_blocked after) x ≡ true → (is_blocked (all_blocked core) x ≡ true) ⊎ (same_ltxid y x ≡ true)
one-more core after y x base blocked is =
    last-blocked (all_blocked core) y x (ap (λ l. is_blocked l x) (append_assoc core.base.blocked core.blocked (y ∷ [])) ∙ (λ i. is_blocked ((sym base i).blocked ++ sym blocked i) x) ∙ is)

answered-stopped : {A : Type 0} (told : Telling) → IsTrue (is_answered told) → told ≡ Stopped → A
answered-stopped Silent answered is = let none : ⊥ = cc in absurd none
answered-stopped (Says frame) answered is = let none : ⊥ = cc in absurd none
answered-stopped Stopped answered is = let none : ⊥ = cc in absurd none

module _ (base : Base) (walk : Walk) (session : SessionId) (now : ℕ) (core after : Core) (same : after.base ≡ core.base) (out : BlocksOut core walk) where
  told-out : (frame : Up) (told : Telling) → IsTrue (is_answered told) → BlocksAtMost core frame after told → BlocksOut after (walk_behind base walk (Served session now frame told))
  told-out frame told answered (AddsNone blocked) x is = out-behind base walk (Served session now frame told) x (out x (none-more core after x same blocked is))
  told-out frame told answered (AddsOne y asked blocked (inr stopped)) x is = answered-stopped told answered stopped
  told-out frame told answered (AddsOne y asked blocked (inl says)) x is = by (one-more core after y x same blocked is)
    where
      by : (is_blocked (all_blocked core) x ≡ true) ⊎ (same_ltxid y x ≡ true) → IsOut (walk_behind base walk (Served session now frame told)) x
      by (inl before) = out-behind base walk (Served session now frame told) x (out x before)
      by (inr own) = subst (λ f. IsOut (walk_behind base walk (Served session now f told)) x) (sym asked) (subst (λ t. IsOut (walk_behind base walk (Served session now (up.Outcome y) t)) x) (sym says) (inl (or-left (same_ltxid y x) _ own)))

  stopped-out : (frame : Up) (told : Telling) → BlocksAtMost core frame after told → BlocksOut after (walk_behind base walk (Served session now frame Stopped))
  stopped-out frame told (AddsNone blocked) x is = out-behind base walk (Served session now frame Stopped) x (out x (none-more core after x same blocked is))
  stopped-out frame told (AddsOne y asked blocked says) x is = by (one-more core after y x same blocked is)
    where
      by : (is_blocked (all_blocked core) x ≡ true) ⊎ (same_ltxid y x ≡ true) → IsOut (walk_behind base walk (Served session now frame Stopped)) x
      by (inl before) = out-behind base walk (Served session now frame Stopped) x (out x before)
      by (inr own) = subst (λ f. IsOut (walk_behind base walk (Served session now f Stopped)) x) (sym asked) (inr (or-left (same_ltxid y x) _ own))

asked-out : (base : Base) (walk : Walk) (core : Core) (y : Ltxid) (judged : Verdict) → BlocksOut core walk → BlocksOut (if_blocks judged core y) (walk_behind base walk (Asked y (Says (down_of judged))))
asked-out base walk core y verdict.BlockIt out x is = by (one-more core (with_block core y) y x refl refl is)
  where
    by : (is_blocked (all_blocked core) x ≡ true) ⊎ (same_ltxid y x ≡ true) → IsOut (walk_behind base walk (Asked y (Says (down.OutcomeIs false false)))) x
    by (inl before) = out-told walk y Uncommitted x (out x before)
    by (inr own) = inl (or-left (same_ltxid y x) (is_blocked walk.blocked x) own)
asked-out base walk core y verdict.AlreadyBlocked out x is = out-told walk y Uncommitted x (out x is)
asked-out base walk core y (verdict.Committed completed) out x is = out x is
asked-out base walk core y (verdict.ServerAhead next) out x is = out x is
asked-out base walk core y (verdict.ClientAhead next) out x is = out x is
asked-out base walk core y (verdict.Forgotten horizon) out x is = out x is

ask-stopped-out : (base : Base) (walk : Walk) (core after : Core) (y : Ltxid) (told : Telling) → after.base ≡ core.base → BlocksAtMost core (up.Outcome y) after told → BlocksOut core walk → BlocksOut after (walk_behind base walk (Asked y Stopped))
ask-stopped-out base walk core after y told same (AddsNone blocked) out x is = out-perhaps walk y x (out x (none-more core after x same blocked is))
ask-stopped-out base walk core after y told same (AddsOne z asked blocked says) out x is = by (one-more core after z x same blocked is)
  where
    by : (is_blocked (all_blocked core) x ≡ true) ⊎ (same_ltxid z x ≡ true) → IsOut (walk_behind base walk (Asked y Stopped)) x
    by (inl before) = out-perhaps walk y x (out x before)
    by (inr own) = inr (or-left (same_ltxid y x) (is_blocked walk.perhaps x) (ap (λ u. same_ltxid u x) (outcomes-same y z asked) ∙ own))

step-out : (base : Base) (walk : Walk) (server after : Server) (more : List Happened) → Moves server more after → BlocksOut server.core walk → BlocksOut after.core (walked base walk more)
unfolding walked
step-out base walk server _ _ (Makes on) out = out
step-out base walk server _ _ (Answers old new now frame core told after on serve answered turns) out =
    subst (λ (c : Core). BlocksOut c (walk_behind base walk (Served (session_of old.ltxid) now frame told))) (sym (ap (λ (s : Server). s.core) turns.turned))
    (told-out base walk (session_of old.ltxid) now server.core core (serve_stays server.core old now frame core new told serve).base out frame told answered (frame_blocks server.core old now frame core new told serve))
step-out base walk server _ _ (Halts old new now frame core told after running serve turns) out =
    subst (λ (c : Core). BlocksOut c (walk_behind base walk (Served (session_of old.ltxid) now frame Stopped))) (sym (ap (λ (s : Server). s.core) turns.turned))
    (stopped-out base walk (session_of old.ltxid) now server.core core (serve_stays server.core old now frame core new told serve).base out frame told (frame_blocks server.core old now frame core new told serve))
step-out base walk server _ _ (Loses old now frame after halt turns) out =
    subst (λ (c : Core). BlocksOut c (walk_behind base walk (Served (session_of old.ltxid) now frame Stopped))) (sym (ap (λ (s : Server). s.core) turns.turned))
    (λ x is. out-behind base walk (Served (session_of old.ltxid) now frame Stopped) x (out x is))
step-out base walk server _ _ (AnswersAsk x core _ on (IsTold judged by)) out = asked-out base walk server.core x judged out
step-out base walk server _ _ (HaltsInAsk x core told running asked) out = ask-stopped-out base walk server.core core x told (outcomes_stay server.core x core told asked).0 (outcomes-add server.core x core told asked) out
step-out base walk server _ _ (Reaps front back sess split) out = out
step-out base walk server _ _ Falls out = out
step-out base walk server _ _ (Opens below off may) out = out
step-out base walk server _ _ (StopsOpening below core off may (inl same)) out = λ x is. out x (none-more server.core core x (ap (λ (c : Core). c.base) same) (ap (λ (c : Core). c.blocked) same) is)
step-out base walk server _ _ (StopsOpening below core off may (inr (inl same))) out = λ x is. out x (none-more server.core core x (ap (λ (c : Core). c.base) same) (ap (λ (c : Core). c.blocked) same) is)
step-out base walk server _ _ (StopsOpening below core off may (inr (inr same))) out = λ x is. out x (none-more server.core core x (ap (λ (c : Core). c.base) same) (ap (λ (c : Core). c.blocked) same) is)

-- What is blocked in the store of a run the walk over it knows of.
pub runs-out : (base : Base) (history : List Happened) (server : Server) → Runs base history server → (final : List Entry) → BlocksOut server.core (walked base (walk_of base final) history)
unfolding walked
runs-out base _ _ Start final = λ x is. inl (ap (λ l. is_blocked l x) (sym (append-nil base.blocked)) ∙ is)
runs-out base _ _ (Then history more server after runs moves) final =
    subst (BlocksOut after.core) (sym (walked-more base (walk_of base final) history more)) (step-out base (walked base (walk_of base final) history) server after more moves (runs-out base history server runs final))
