-- An identifier that was told uncommitted is blocked.
use Rattle.std.specs.Prelude.{◌≡◌, ◌+◌, ◌==◌, ◌&&◌, ◌||◌, nat_lt, ℕ, Bool, true, false, not, List, [], ◌∷◌, ◌++◌, All, map, if◌then◌else◌}
use Rattle.std.proofs.Common.{refl, inl, inr, sym, ◌∙◌, ap, subst, arith, append_assoc}
use Rattle.std.proofs.lemmas.Bool.Decides.{nat_tests}
use Rattle.std.proofs.lemmas.List.Folds.{list_any-append}
use Rattle.std.proofs.lemmas.List.Elements.{All-nil, All-cons, All-contains}
use Rattle.svc_values.specs.declared.entry.Ltxid.{Ltxid}
use Rattle.svc_values.specs.declared.frame.Up.{Up}
use Rattle.svc_values.specs.declared.frame.Up.TheVariants as up
use Rattle.svc_values.specs.declared.frame.Down.TheVariants as down
use Rattle.ltxid_book.specs.declared.State.{State}
use Rattle.svc_values.specs.meaning.Identifiers.{same_ltxid, session_of}
use Rattle.ltxid_book.specs.meaning.Journal.{is_blocked, next_ltxid, state_of, committed_of}
use Rattle.ltxid_book.specs.declared.verdict.Verdict.{Verdict}
use Rattle.ltxid_book.specs.declared.verdict.Verdict.TheVariants as verdict
use Rattle.ltxid_book.specs.meaning.Sessions.{untouched}
use Rattle.ltxid_book.specs.meaning.Outcomes.{outcome_in}
use Rattle.server_model.specs.meaning.Base.{Base}
use Rattle.server_model.specs.Core.{Core, all_entries, all_blocked}
use Rattle.svc_values.specs.declared.entry.SessionId.{SessionId}
use Rattle.server_model.specs.Sessions.{Sess}
use Rattle.server_model.specs.meaning.Outcomes.{Telling, Silent, Says, Stopped}
use Rattle.server_model.specs.Outcomes.{Outcomes, IsTold, BlockStops, down_of, if_blocks, with_block, verdict_on}
use Rattle.server_model.specs.Serve.{Serve, Connects, Begins, Ends, Closes, Asks, Runs as Serves, Refuses}
use Rattle.server_model.specs.Runs.{Happened, Served, Asked, Server, Turns, Moves, Makes, Answers, Halts, Loses, AnswersAsk, HaltsInAsk, Reaps, Falls, Opens, StopsOpening, Runs, Start, Then, Power}
use Rattle.server_model.specs.Laws.{TellsUncommitted, BlocksAreStored}
use Rattle.server_model.proofs.Stays.{serve_stays, outcomes_stay}
use Rattle.server_model.proofs.Fronts.{moves_front}

abbrev pub IsBlocked : Core → Ltxid → Type 0
IsBlocked core x = is_blocked (all_blocked core) x ≡ true

same-self : (x : Ltxid) → same_ltxid x x ≡ true
same-self x = grind (arith, nat_tests)

or-right : (a b : Bool) → b ≡ true → (a || b) ≡ true
or-right true b is = refl
or-right false b is = is

or-left : (a b : Bool) → a ≡ true → (a || b) ≡ true
or-left true b is = refl
or-left false b is = let none : ⊥ = cc in absurd none

pub blocked-more : (blocks more : List Ltxid) (x : Ltxid) → is_blocked blocks x ≡ true → is_blocked (blocks ++ more) x ≡ true
blocked-more blocks more x is = list_any-append (λ block. same_ltxid block x) blocks more ∙ or-left _ _ is

blocked-last : (blocks : List Ltxid) (x : Ltxid) → is_blocked (blocks ++ x ∷ []) x ≡ true
blocked-last blocks x = list_any-append (λ block. same_ltxid block x) blocks (x ∷ []) ∙ or-right _ _ (or-left _ _ (same-self x))

-- ---- the table

else_if : (b c : Bool) (x y z : Verdict) (w : Verdict) → (x ≡ w → ⊥) → (z ≡ w → ⊥) → (if b then x else (if c then y else z)) ≡ w → c ≡ true
else_if true c x y z w first last is = absurd (first is)
else_if false true x y z w first last is = refl
else_if false false x y z w first last is = absurd (last is)

never_if : (b : Bool) (x y w : Verdict) → (x ≡ w → ⊥) → (y ≡ w → ⊥) → (if b then x else y) ≡ w → ⊥
never_if true x y w one other is = one is
never_if false x y w one other is = other is

already : (state : State) (number : ℕ) → outcome_in state number ≡ verdict.AlreadyBlocked → ((number == state.next) && state.blocked) ≡ true
already state number is =
    else_if ((number == state.next) && not state.blocked) ((number == state.next) && state.blocked) verdict.BlockIt verdict.AlreadyBlocked _ verdict.AlreadyBlocked (λ e. let none : ⊥ = cc in none)
    (never_if (number + 1 == state.next) (verdict.Committed state.completed) _ verdict.AlreadyBlocked (λ e. let none : ⊥ = cc in none)
    (never_if (nat_lt (number + 1) state.next) (verdict.ServerAhead state.next) (verdict.ClientAhead state.next) verdict.AlreadyBlocked (λ e. let none : ⊥ = cc in none) (λ e. let none : ⊥ = cc in none))) is

parts : (n m : ℕ) (b : Bool) → ((n == m) && b) ≡ true → (n ≡ m) × (b ≡ true)
parts n m b is = (grind (arith, nat_tests), grind (arith, nat_tests))

pub already-blocked : (core : Core) (x : Ltxid) → verdict_on core x ≡ verdict.AlreadyBlocked → IsBlocked core x
already-blocked core x = by (nat_lt x.incarnation core.horizon)
  where
    by : (lost : Bool) → (let state = if lost then untouched else state_of (map committed_of (all_entries core)) (all_blocked core) x.incarnation x.session in if lost then verdict.Forgotten core.horizon else outcome_in state x.number) ≡ verdict.AlreadyBlocked → IsBlocked core x
    by true is = let none : ⊥ = cc in absurd none
    by false is =
        let both = parts x.number _ _ (already (state_of (map committed_of (all_entries core)) (all_blocked core) x.incarnation x.session) x.number is) in
        let same : x ≡ next_ltxid (map committed_of (all_entries core)) x.incarnation x.session = (λ i. record { incarnation = x.incarnation; session = x.session; number = both.0 i }) in
        ap (is_blocked (all_blocked core)) same ∙ both.1

new-blocked : (core : Core) (x : Ltxid) → IsBlocked (with_block core x) x
new-blocked core x = ap (λ b. is_blocked b x) (sym (append_assoc core.base.blocked core.blocked (x ∷ []))) ∙ blocked-last (all_blocked core) x

-- ---- what is told

abbrev pub IfTold : Telling → Ltxid → Core → Type 0
IfTold (Says (down.OutcomeIs false completed)) x core = IsBlocked core x
IfTold _ x core = Unit {0}

judged_told : (judged : Verdict) (core : Core) (x : Ltxid) → verdict_on core x ≡ judged → IfTold (Says (down_of judged)) x (if_blocks judged core x)
judged_told verdict.BlockIt core x is = new-blocked core x
judged_told verdict.AlreadyBlocked core x is = already-blocked core x is
judged_told (verdict.Committed completed) core x is = tt
judged_told (verdict.ServerAhead next) core x is = tt
judged_told (verdict.ClientAhead next) core x is = tt
judged_told (verdict.Forgotten horizon) core x is = tt

outcomes_told : (core : Core) (x : Ltxid) (after : Core) (told : Telling) → Outcomes core x after told → IfTold told x after
outcomes_told core x _ _ (IsTold judged by) = judged_told judged core x by
outcomes_told core x _ _ (BlockStops after by same) = tt

abbrev pub IfAsked : Happened → Core → Type 0
IfAsked (Served session now (up.Outcome x) told) core = IfTold told x core
IfAsked (Served session now frame told) core = Unit {0}
IfAsked (Asked x told) core = IfTold told x core

serve_told : (core : Core) (sess : Sess) (session : SessionId) (now : ℕ) (frame : Up) (after : Core) (t : Sess) (told : Telling) → Serve core sess now frame after t told → IfAsked (Served session now frame told) after
serve_told core sess session now _ _ _ _ (Connects life) = tt
serve_told core sess session now _ _ _ _ (Begins settings serving) = tt
serve_told core sess session now _ _ _ _ (Ends serving) = tt
serve_told core sess session now _ _ _ _ (Closes serving) = tt
serve_told core sess session now _ _ _ _ (Asks x after told serving asked) = outcomes_told core x after told asked
serve_told core sess session now _ _ _ _ (Serves replay kept called after t told begun calls) = tt
serve_told core sess session now _ _ _ _ (Refuses frame out) = refused frame
  where
    refused : (frame : Up) → IfAsked (Served session now frame (Says (down.Refused 2))) core
    refused up.Connect = tt
    refused (up.Begin settings) = tt
    refused (up.Call replay kept called) = tt
    refused (up.Outcome x) = tt
    refused up.End = tt
    refused up.Close = tt

-- a stop tells nothing
stopped_told : (session : SessionId) (now : ℕ) (frame : Up) (core : Core) → IfAsked (Served session now frame Stopped) core
stopped_told session now up.Connect core = tt
stopped_told session now (up.Begin settings) core = tt
stopped_told session now (up.Call replay kept called) core = tt
stopped_told session now (up.Outcome x) core = tt
stopped_told session now up.End core = tt
stopped_told session now up.Close core = tt

-- ---- over runs

told_on : (told : Telling) (x : Ltxid) (core after : Core) → ((y : Ltxid) → IsBlocked core y → IsBlocked after y) → IfTold told x core → IfTold told x after
told_on Silent x core after on is = tt
told_on (Says (down.Hello y)) x core after on is = tt
told_on (Says (down.Reply answers draws y)) x core after on is = tt
told_on (Says (down.OutcomeIs false completed)) x core after on is = on x is
told_on (Says (down.OutcomeIs true completed)) x core after on is = tt
told_on (Says (down.OutcomeRefused ahead next)) x core after on is = tt
told_on (Says down.Blocked) x core after on is = tt
told_on (Says (down.Refused cause)) x core after on is = tt
told_on Stopped x core after on is = tt

asked_on : (happened : Happened) (core after : Core) → ((y : Ltxid) → IsBlocked core y → IsBlocked after y) → IfAsked happened core → IfAsked happened after
asked_on (Served session now up.Connect told) core after on is = tt
asked_on (Served session now (up.Begin settings) told) core after on is = tt
asked_on (Served session now (up.Call replay kept called) told) core after on is = tt
asked_on (Served session now (up.Outcome x) told) core after on is = told_on told x core after on is
asked_on (Served session now up.End told) core after on is = tt
asked_on (Served session now up.Close told) core after on is = tt
asked_on (Asked x told) core after on is = told_on told x core after on is

abbrev pub AllAsked : List Happened → Core → Type 0
AllAsked [] core = Unit {0}
AllAsked (happened ∷ more) core = IfAsked happened core × AllAsked more core

all-on : (history : List Happened) (core after : Core) → ((y : Ltxid) → IsBlocked core y → IsBlocked after y) → AllAsked history core → AllAsked history after
all-on [] core after on asked = tt
all-on (happened ∷ more) core after on asked = (asked_on happened core after on asked.0, all-on more core after on asked.1)

all-more : (history more : List Happened) (core : Core) → AllAsked history core → AllAsked more core → AllAsked (history ++ more) core
all-more [] more core asked here = here
all-more (happened ∷ history) more core asked here = (asked.0, all-more history more core asked.1 here)

turned_core : (server after : Server) (old new : Sess) (core : Core) (power : Power) → Turns server after old new core power → core ≡ after.core
turned_core server after old new core power turns = sym (ap (λ (s : Server). s.core) turns.turned)

moves_asked : (server after : Server) (more : List Happened) → Moves server more after → AllAsked more after.core
moves_asked server _ _ (Makes on) = tt
moves_asked server _ _ (Answers old new now frame core told after on serve answered turns) =
    (subst (IfAsked (Served (session_of old.ltxid) now frame told)) (turned_core server after old new core _ turns) (serve_told server.core old (session_of old.ltxid) now frame core new told serve), tt)
moves_asked server _ _ (Halts old new now frame core told after running serve turns) = (stopped_told (session_of old.ltxid) now frame after.core, tt)
moves_asked server _ _ (Loses old now frame after halted turns) = (stopped_told (session_of old.ltxid) now frame after.core, tt)
moves_asked server _ _ (AnswersAsk x core frame on asks) = (outcomes_told server.core x core (Says frame) asks, tt)
moves_asked server _ _ (HaltsInAsk x core told running asks) = (tt, tt)
moves_asked server _ _ (Reaps front back sess split) = tt
moves_asked server _ _ Falls = tt
moves_asked server _ _ (Opens below off may) = tt
moves_asked server _ _ (StopsOpening below core off may same) = tt

-- a move leaves the base
pub moves_base : (server after : Server) (more : List Happened) → Moves server more after → after.core.base ≡ server.core.base
moves_base server _ _ (Makes on) = refl
moves_base server _ _ (Answers old new now frame core told after on serve answered turns) = ap (λ (c : Core). c.base) (sym (turned_core server after old new core _ turns)) ∙ (serve_stays server.core old now frame core new told serve).base
moves_base server _ _ (Halts old new now frame core told after running serve turns) = ap (λ (c : Core). c.base) (sym (turned_core server after old new core _ turns)) ∙ (serve_stays server.core old now frame core new told serve).base
moves_base server _ _ (Loses old now frame after halted turns) = ap (λ (c : Core). c.base) (sym (turned_core server after old _ server.core _ turns))
moves_base server _ _ (AnswersAsk x core frame on asks) = (outcomes_stay server.core x core _ asks).0
moves_base server _ _ (HaltsInAsk x core told running asks) = (outcomes_stay server.core x core told asks).0
moves_base server _ _ (Reaps front back sess split) = refl
moves_base server _ _ Falls = refl
moves_base server _ _ (Opens below off may) = refl
moves_base server _ _ (StopsOpening below core off may (inl same)) = ap (λ (c : Core). c.base) same
moves_base server _ _ (StopsOpening below core off may (inr (inl same))) = ap (λ (c : Core). c.base) same
moves_base server _ _ (StopsOpening below core off may (inr (inr same))) = ap (λ (c : Core). c.base) same

moves_block : (server after : Server) (more : List Happened) → Moves server more after → (y : Ltxid) → IsBlocked server.core y → IsBlocked after.core y
moves_block server after more moves y is =
    let front = moves_front server after more moves in
    let base = moves_base server after more moves in
    let all : all_blocked after.core ≡ all_blocked server.core ++ front.more_blocked = (λ i. (base i).blocked ++ front.blocked i) ∙ sym (append_assoc server.core.base.blocked server.core.blocked front.more_blocked) in
    ap (λ b. is_blocked b y) all ∙ blocked-more (all_blocked server.core) front.more_blocked y is

pub runs_asked : (base : Base) (history : List Happened) (server : Server) → Runs base history server → AllAsked history server.core
runs_asked base _ _ Start = tt
runs_asked base _ _ (Then history more server after runs moves) =
    all-more history more after.core (all-on history server.core after.core (λ y is. moves_block server after more moves y is) (runs_asked base history server runs)) (moves_asked server after more moves)

all-listed : (history : List Happened) (core : Core) → AllAsked history core → All (λ happened. IfAsked happened core) history
all-listed [] core asked = All-nil (λ happened. IfAsked happened core)
all-listed (happened ∷ more) core asked = All-cons (λ (h : Happened). IfAsked h core) happened more asked.0 (all-listed more core asked.1)

pub tells-blocked : (happened : Happened) (core : Core) (x : Ltxid) → IfAsked happened core → TellsUncommitted x happened → is_blocked (all_blocked core) x ≡ true
tells-blocked (Served session now (up.Outcome y) (Says (down.OutcomeIs false completed))) core x is same = ap (λ z. is_blocked (all_blocked core) z) same ∙ is
tells-blocked (Asked y (Says (down.OutcomeIs false completed))) core x is same = ap (λ z. is_blocked (all_blocked core) z) same ∙ is
tells-blocked happened core x is same = absurd same

pub blocks_are_stored : BlocksAreStored
blocks_are_stored base history server runs x happened contains tells =
    tells-blocked happened server.core x (All-contains (λ (h : Happened). IfAsked h server.core) history happened (all-listed history server.core (runs_asked base history server runs)) contains) tells
