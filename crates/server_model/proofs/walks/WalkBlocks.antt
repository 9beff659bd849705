-- What a walk has as blocked is blocked in the store.
use Rattle.std.specs.Prelude.{◌≡◌, ◌⊎◌, ◌||◌, nat_lt, ℕ, Bool, true, false, List, [], ◌∷◌, if◌then◌else◌}
use Rattle.std.proofs.Common.{refl, inl, inr, sym, ◌∙◌, ap, arith}
use Rattle.std.proofs.lemmas.Bool.Decides.{nat_tests}
use Rattle.svc_values.specs.declared.entry.Ltxid.{Ltxid}
use Rattle.svc_values.specs.declared.draw.Draw.{Draw}
use Rattle.svc_values.specs.declared.call.Call.{Call}
use Rattle.svc_values.specs.declared.frame.Up.{Up}
use Rattle.svc_values.specs.declared.frame.Up.TheVariants as up
use Rattle.svc_values.specs.declared.frame.Down.{Down}
use Rattle.svc_values.specs.declared.frame.Down.TheVariants as down
use Rattle.svc_values.specs.meaning.Endings.{ends_committed}
use Rattle.svc_values.specs.declared.frame.Ahead.TheVariants as ahead
use Rattle.svc_values.specs.declared.entry.Write.{Write}
use Rattle.svc_values.specs.declared.entry.Entry.{Entry}
use Rattle.svc_values.specs.meaning.Identifiers.{same_ltxid}
use Rattle.ltxid_book.specs.meaning.Journal.{is_blocked}
use Rattle.server_model.specs.meaning.Base.{Base}
use Rattle.server_model.specs.Core.{Core, all_blocked}
use Rattle.svc_values.specs.declared.entry.SessionId.{SessionId}
use Rattle.server_model.specs.meaning.Outcomes.{Telling, Silent, Says, Stopped}
use Rattle.server_model.specs.Runs.{Happened, Served, Asked, Server, Runs}
use Rattle.server_model.specs.meaning.Items.{Outcome, Uncommitted, Committed, ServerAhead, ClientAhead, Forgotten, Thing, Connected, Began, Called, MetBlock, TellsOutcome, EndedRequest, Closed, Refused, CallStopped, OutcomeStopped, thing_of, Did}
use Rattle.server_model.specs.meaning.NewValues.{opened}
use Rattle.server_model.specs.meaning.Walk.{Walk, walk_of, Deed, Nothing, Meaningless, Ran, Performed, after_deed, after_thing, if_nothing, if_uncommitted, if_commits, with_numbers, with_call, entered, deed_of}
use Rattle.server_model.specs.Laws.{TellsUncommitted}
use Rattle.server_model.proofs.walks.Following.{walk_behind, walked}
use Rattle.server_model.proofs.ToldBlocked.{blocked-more, AllAsked, runs_asked, tells-blocked}

pub same-is : (x y : Ltxid) → same_ltxid x y ≡ true → y ≡ x
same-is x y is = λ i. record { incarnation = one i; session = two i; number = three i }
  where
    one : y.incarnation ≡ x.incarnation
    one = grind (arith, nat_tests)

    two : y.session ≡ x.session
    two = grind (arith, nat_tests)

    three : y.number ≡ x.number
    three = grind (arith, nat_tests)

pub or-cases : (a b : Bool) → (a || b) ≡ true → (a ≡ true) ⊎ (b ≡ true)
or-cases true b is = inl refl
or-cases false b is = inr is

-- ---- one thing

commits-blocked : (b : Bool) (base : Base) (walk : Walk) (performed : Performed) (writes : List Write) → (if_commits b (with_numbers base walk performed) writes).blocked ≡ walk.blocked
commits-blocked true base walk performed writes = refl
commits-blocked false base walk performed writes = refl

pub deed-blocked : (base : Base) (walk : Walk) (did : Deed) → (after_deed base walk did).blocked ≡ walk.blocked
deed-blocked base walk Nothing = refl
deed-blocked base walk Meaningless = refl
deed-blocked base walk (Ran performed meant) = commits-blocked (ends_committed performed.answers) base walk performed (with_call walk performed meant).writes

pub nothing-blocked : (did : Deed) (walk : Walk) (called : Call) → (if_nothing did walk called).blocked ≡ walk.blocked
nothing-blocked Nothing walk called = refl
nothing-blocked Meaningless walk called = refl
nothing-blocked (Ran performed meant) walk called = refl

told-blocked : (walk : Walk) (y : Ltxid) (outcome : Outcome) (x : Ltxid) → is_blocked (if_uncommitted walk y outcome).blocked x ≡ true → (is_blocked walk.blocked x ≡ true) ⊎ ((x ≡ y) × (outcome ≡ Uncommitted))
told-blocked walk y Uncommitted x is = by (or-cases (same_ltxid y x) (is_blocked walk.blocked x) is)
  where
    by : (same_ltxid y x ≡ true) ⊎ (is_blocked walk.blocked x ≡ true) → (is_blocked walk.blocked x ≡ true) ⊎ ((x ≡ y) × (Uncommitted ≡ Uncommitted))
    by (inl same) = inr (same-is y x same, refl)
    by (inr before) = inl before
told-blocked walk y (Committed completed) x is = inl is
told-blocked walk y (ServerAhead next) x is = inl is
told-blocked walk y (ClientAhead next) x is = inl is
told-blocked walk y (Forgotten horizon) x is = inl is

-- the thing tells the identifier uncommitted
abbrev pub Tells : Ltxid → Thing → Type 0
Tells x (TellsOutcome y outcome) = (x ≡ y) × (outcome ≡ Uncommitted)
Tells x _ = ⊥

thing-blocked : (walk : Walk) (session : SessionId) (did : Deed) (thing : Thing) (x : Ltxid) → is_blocked (after_thing walk session did thing).blocked x ≡ true → (is_blocked walk.blocked x ≡ true) ⊎ Tells x thing
thing-blocked walk session did Connected x is = inl is
thing-blocked walk session did (Began settings) x is = inl is
thing-blocked walk session did (Called replay kept called answers draws) x is = inl is
thing-blocked walk session did (MetBlock replay called) x is = inl is
thing-blocked walk session did (TellsOutcome y outcome) x is = told-blocked walk y outcome x is
thing-blocked walk session did EndedRequest x is = inl is
thing-blocked walk session did Closed x is = inl is
thing-blocked walk session did Refused x is = inl is
thing-blocked walk session did (CallStopped replay called) x is = inl (ap (λ b. is_blocked b x) (sym (nothing-blocked did walk called)) ∙ is)
thing-blocked walk session did (OutcomeStopped y) x is = inl is

not-uncommitted : {A : Type 0} (completed : Bool) → Committed completed ≡ Uncommitted → A
not-uncommitted completed e = let none : ⊥ = cc in absurd none

told-tells : (x y : Ltxid) (session : SessionId) (now : ℕ) (told : Down) → Tells x (thing_of (up.Outcome y) (Says told)) → TellsUncommitted x (Served session now (up.Outcome y) (Says told))
told-tells x y session now (down.OutcomeIs true completed) tells = not-uncommitted completed tells.1
told-tells x y session now (down.OutcomeIs false completed) tells = tells.0
told-tells x y session now (down.OutcomeRefused ahead.Server next) tells = let none : ⊥ = (let e = tells.1 in cc) in absurd none
told-tells x y session now (down.OutcomeRefused ahead.Client next) tells = let none : ⊥ = (let e = tells.1 in cc) in absurd none
told-tells x y session now (down.OutcomeRefused ahead.Forgotten horizon) tells = let none : ⊥ = (let e = tells.1 in cc) in absurd none
told-tells x y session now (down.Hello z) tells = absurd tells
told-tells x y session now (down.Reply answers draws z) tells = absurd tells
told-tells x y session now down.Blocked tells = absurd tells
told-tells x y session now (down.Refused cause) tells = absurd tells

connect-tells : {A : Type 0} (x : Ltxid) (told : Down) → Tells x (thing_of up.Connect (Says told)) → A
connect-tells x (down.Hello z) tells = absurd tells
connect-tells x (down.Reply answers draws z) tells = absurd tells
connect-tells x (down.OutcomeIs committed completed) tells = absurd tells
connect-tells x (down.OutcomeRefused ahead next) tells = absurd tells
connect-tells x down.Blocked tells = absurd tells
connect-tells x (down.Refused cause) tells = absurd tells

call-tells : {A : Type 0} (x : Ltxid) (replay : Bool) (kept : List Draw) (called : Call) (told : Down) → Tells x (thing_of (up.Call replay kept called) (Says told)) → A
call-tells x replay kept called (down.Hello z) tells = absurd tells
call-tells x replay kept called (down.Reply answers draws z) tells = absurd tells
call-tells x replay kept called (down.OutcomeIs committed completed) tells = absurd tells
call-tells x replay kept called (down.OutcomeRefused ahead next) tells = absurd tells
call-tells x replay kept called down.Blocked tells = absurd tells
call-tells x replay kept called (down.Refused cause) tells = absurd tells

silent-tells : {A : Type 0} (x : Ltxid) (frame : Up) → Tells x (thing_of frame Stopped) → A
silent-tells x up.Connect tells = absurd tells
silent-tells x (up.Begin settings) tells = absurd tells
silent-tells x (up.Call replay kept called) tells = absurd tells
silent-tells x (up.Outcome y) tells = absurd tells
silent-tells x up.End tells = absurd tells
silent-tells x up.Close tells = absurd tells

served-tells : (x : Ltxid) (session : SessionId) (now : ℕ) (frame : Up) (told : Telling) → Tells x (thing_of frame told) → TellsUncommitted x (Served session now frame told)
served-tells x session now frame Silent tells = silent-tells x frame tells
served-tells x session now frame Stopped tells = silent-tells x frame tells
served-tells x session now up.Connect (Says told) tells = connect-tells x told tells
served-tells x session now (up.Begin settings) (Says told) tells = absurd tells
served-tells x session now (up.Call replay kept called) (Says told) tells = call-tells x replay kept called told tells
served-tells x session now (up.Outcome y) (Says told) tells = told-tells x y session now told tells
served-tells x session now up.End (Says told) tells = absurd tells
served-tells x session now up.Close (Says told) tells = absurd tells

pub enter-blocked : (walk : Walk) (session : SessionId) (now : ℕ) (thing : Thing) → (entered walk (Did 0 now session thing)).blocked ≡ walk.blocked
enter-blocked walk session now thing = by (nat_lt walk.numbers.incarnation session.incarnation)
  where
    by : (b : Bool) → (if b then record walk { numbers = opened walk.numbers session.incarnation; is_over = false } else walk).blocked ≡ walk.blocked
    by true = refl
    by false = refl

served-by : (base : Base) (walk : Walk) (session : SessionId) (now : ℕ) (frame : Up) (told : Telling) (x : Ltxid)
    → (is_blocked (after_deed base (entered walk (Did 0 now session (thing_of frame told))) (deed_of base (entered walk (Did 0 now session (thing_of frame told))) (Did 0 now session (thing_of frame told)))).blocked x ≡ true) ⊎ Tells x (thing_of frame told)
    → (is_blocked walk.blocked x ≡ true) ⊎ TellsUncommitted x (Served session now frame told)
served-by base walk session now frame told x (inl before) =
    inl (ap (λ b. is_blocked b x) (sym (deed-blocked base (entered walk (Did 0 now session (thing_of frame told))) (deed_of base (entered walk (Did 0 now session (thing_of frame told))) (Did 0 now session (thing_of frame told))) ∙ enter-blocked walk session now (thing_of frame told))) ∙ before)
served-by base walk session now frame told x (inr tells) = inr (served-tells x session now frame told tells)

served-blocked : (base : Base) (walk : Walk) (session : SessionId) (now : ℕ) (frame : Up) (told : Telling) (x : Ltxid) → is_blocked (walk_behind base walk (Served session now frame told)).blocked x ≡ true
    → (is_blocked walk.blocked x ≡ true) ⊎ TellsUncommitted x (Served session now frame told)
served-blocked base walk session now frame told x is = served-by base walk session now frame told x (let here : Walk = entered walk (Did 0 now session (thing_of frame told)) in let did : Deed = deed_of base here (Did 0 now session (thing_of frame told)) in thing-blocked (after_deed base here did) session did (thing_of frame told) x is)

asked-blocked : (base : Base) (walk : Walk) (y : Ltxid) (told : Telling) (x : Ltxid) → is_blocked (walk_behind base walk (Asked y told)).blocked x ≡ true → (is_blocked walk.blocked x ≡ true) ⊎ TellsUncommitted x (Asked y told)
asked-blocked base walk y Silent x is = inl is
asked-blocked base walk y Stopped x is = inl is
asked-blocked base walk y (Says (down.Hello z)) x is = inl is
asked-blocked base walk y (Says (down.Reply answers draws z)) x is = inl is
asked-blocked base walk y (Says (down.OutcomeIs true completed)) x is = inl is
asked-blocked base walk y (Says (down.OutcomeIs false completed)) x is = by (told-blocked walk y Uncommitted x is)
  where
    by : (is_blocked walk.blocked x ≡ true) ⊎ ((x ≡ y) × (Uncommitted ≡ Uncommitted)) → (is_blocked walk.blocked x ≡ true) ⊎ (x ≡ y)
    by (inl before) = inl before
    by (inr same) = inr same.0
asked-blocked base walk y (Says (down.OutcomeRefused ahead.Server next)) x is = inl is
asked-blocked base walk y (Says (down.OutcomeRefused ahead.Client next)) x is = inl is
asked-blocked base walk y (Says (down.OutcomeRefused ahead.Forgotten next)) x is = inl is
asked-blocked base walk y (Says down.Blocked) x is = inl is
asked-blocked base walk y (Says (down.Refused cause)) x is = inl is

-- ---- a history

-- something in the history tells the identifier uncommitted
abbrev pub SomeTells : Ltxid → List Happened → Type 0
SomeTells x [] = ⊥
SomeTells x (happened ∷ more) = TellsUncommitted x happened ⊎ SomeTells x more

one-blocked : (base : Base) (walk : Walk) (happened : Happened) (x : Ltxid) → is_blocked (walk_behind base walk happened).blocked x ≡ true → (is_blocked walk.blocked x ≡ true) ⊎ TellsUncommitted x happened
one-blocked base walk (Served session now frame told) x is = served-blocked base walk session now frame told x is
one-blocked base walk (Asked y told) x is = asked-blocked base walk y told x is

and-then : (base : Base) (walk : Walk) (happened : Happened) (more : List Happened) (x : Ltxid) → (is_blocked (walk_behind base walk happened).blocked x ≡ true) ⊎ SomeTells x more → (is_blocked walk.blocked x ≡ true) ⊎ SomeTells x (happened ∷ more)
and-then base walk happened more x (inr later) = inr (inr later)
and-then base walk happened more x (inl is) = by (one-blocked base walk happened x is)
  where
    by : (is_blocked walk.blocked x ≡ true) ⊎ TellsUncommitted x happened → (is_blocked walk.blocked x ≡ true) ⊎ SomeTells x (happened ∷ more)
    by (inl before) = inl before
    by (inr tells) = inr (inl tells)

-- What a walk has as blocked it had before, or something told it uncommitted.
pub walked-blocked : (base : Base) (walk : Walk) (history : List Happened) (x : Ltxid) → is_blocked (walked base walk history).blocked x ≡ true → (is_blocked walk.blocked x ≡ true) ⊎ SomeTells x history
unfolding walked
walked-blocked base walk [] x is = inl is
walked-blocked base walk (happened ∷ history) x is = and-then base walk happened history x (walked-blocked base (walk_behind base walk happened) history x is)

some-blocked : (x : Ltxid) (history : List Happened) (core : Core) → AllAsked history core → SomeTells x history → is_blocked (all_blocked core) x ≡ true
some-blocked x [] core asked none = absurd none
some-blocked x (happened ∷ more) core asked (inl tells) = tells-blocked happened core x asked.0 tells
some-blocked x (happened ∷ more) core asked (inr later) = some-blocked x more core asked.1 later

-- What the walk over a run's history has as blocked is blocked in its store.
pub blocks-in : (base : Base) (history : List Happened) (server : Server) → Runs base history server → server.core.base ≡ base → (final : List Entry) (x : Ltxid) → is_blocked (walked base (walk_of base final) history).blocked x ≡ true → is_blocked (all_blocked server.core) x ≡ true
blocks-in base history server runs same final x is = by (walked-blocked base (walk_of base final) history x is)
  where
    by : (is_blocked base.blocked x ≡ true) ⊎ SomeTells x history → is_blocked (all_blocked server.core) x ≡ true
    by (inl before) = blocked-more server.core.base.blocked server.core.blocked x (ap (λ (b : Base). is_blocked b.blocked x) same ∙ before)
    by (inr tells) = some-blocked x history server.core (runs_asked base history server runs) tells
