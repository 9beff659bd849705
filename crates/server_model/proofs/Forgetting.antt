-- The horizon of a run.
use Rattle.std.specs.Prelude.{◌≡◌, ◌≤◌, ◌+◌, ℕ, IsTrue, true, false, List, []}
use Rattle.std.proofs.Common.{refl, inl, inr, ◌∙◌, ap, subst, sym, arith}
use Rattle.mutable_values.specs.Sources.{Opening}
use Rattle.server_model.specs.meaning.Base.{Base}
use Rattle.server_model.specs.Core.{Core}
use Rattle.server_model.specs.Sessions.{Sess}
use Rattle.server_model.specs.Runs.{Happened, Server, Power, Off, is_running, reopened_core, forgetting, Turns, Moves, Makes, Answers, Halts, Loses, AnswersAsk, HaltsInAsk, Reaps, Falls, Opens, StopsOpening, Start, Then}
use Rattle.server_model.specs.Laws.{Forgets, RunsForget}
use Rattle.server_model.proofs.Stays.{serve_stays, outcomes_stay}

-- another server with the same horizon and incarnation, running only where this one does
same : (base : Base) (server after : Server) → after.core.horizon ≡ server.core.horizon → after.core.opening.incarnation ≡ server.core.opening.incarnation
    → (IsTrue (is_running after.power) → IsTrue (is_running server.power)) → Forgets base server → Forgets base after
same base server after horizon incarnation runs forgets = record {
  rises = omega (arith, forgets.rises, horizon);
  within = omega (arith, forgets.within, horizon, incarnation);
  living = λ on. let here = forgets.living (runs on) in omega (arith, here, horizon, incarnation);
}

turned : (base : Base) (server after : Server) (old new : Sess) (core : Core) (power : Power) → IsTrue (is_running server.power) → Turns server after old new core power
    → core.horizon ≡ server.core.horizon → core.opening.incarnation ≡ server.core.opening.incarnation → Forgets base server → Forgets base after
turned base server after old new core power running turns horizon incarnation forgets =
    same base server after (ap (λ (s : Server). s.core.horizon) turns.turned ∙ horizon) (ap (λ (s : Server). s.core.opening.incarnation) turns.turned ∙ incarnation) (λ on. running) forgets

-- one that is down
down : (base : Base) (core : Core) (power : Power) → base.horizon ≤ core.horizon → core.horizon ≤ core.opening.incarnation + 1 → is_running power ≡ false → (sessions : List Sess) (count : ℕ)
    → Forgets base (record { power = power; core = core; sessions = sessions; count = count })
down base core power rises within off sessions count = record { rises = rises; within = within; living = λ on. absurd (let none : true ≡ false = sym on ∙ off in let never : ⊥ = cc in never) }

moves_forget : (base : Base) (server after : Server) (more : List Happened) → Moves server more after → Forgets base server → Forgets base after
moves_forget base server _ _ (Makes on) forgets = same base server _ refl refl (λ running. running) forgets
moves_forget base server _ _ (Answers old new now frame core told after on serve answered turns) forgets =
    let stays = serve_stays server.core old now frame core new told serve in
    turned base server after old new core _ (ap is_running on) turns stays.horizon stays.incarnation forgets
moves_forget base server _ _ (Halts old new now frame core told after running serve turns) forgets =
    let stays = serve_stays server.core old now frame core new told serve in
    turned base server after old new core _ running turns stays.horizon stays.incarnation forgets
moves_forget base server _ _ (Loses old now frame after halted turns) forgets = turned base server after old _ server.core _ (ap is_running halted) turns refl refl forgets
moves_forget base server _ _ (AnswersAsk x core frame on asks) forgets =
    let stay = outcomes_stay server.core x core _ asks in
    same base server _ stay.2 (ap (λ (o : Opening). o.incarnation) stay.1) (λ running. running) forgets
moves_forget base server _ _ (HaltsInAsk x core told running asks) forgets =
    let stay = outcomes_stay server.core x core told asks in
    same base server _ stay.2 (ap (λ (o : Opening). o.incarnation) stay.1) (λ on. running) forgets
moves_forget base server _ _ (Reaps front back sess split) forgets = same base server _ refl refl (λ running. running) forgets
moves_forget base server _ _ Falls forgets = down base server.core _ forgets.rises forgets.within refl _ _
moves_forget base server _ _ (Opens below off may) forgets = record {
  rises = omega (arith, forgets.rises);
  within = omega (arith, forgets.within, may.forgets);
  living = λ on. omega (arith, forgets.within, may.forgets);
}
moves_forget base server _ _ (StopsOpening below core off may (inl is)) forgets =
    subst (λ (c : Core). Forgets base (record { power = Off; core = c; sessions = []; count = 0 })) (sym is) (down base server.core _ forgets.rises forgets.within refl _ _)
moves_forget base server _ _ (StopsOpening below core off may (inr (inl is))) forgets =
    subst (λ (c : Core). Forgets base (record { power = Off; core = c; sessions = []; count = 0 })) (sym is) (down base (forgetting server.core below) _ (omega (arith, forgets.rises)) (omega (arith, forgets.within, may.forgets)) refl _ _)
moves_forget base server _ _ (StopsOpening below core off may (inr (inr is))) forgets =
    subst (λ (c : Core). Forgets base (record { power = Off; core = c; sessions = []; count = 0 })) (sym is) (down base (reopened_core (forgetting server.core below)) _ (omega (arith, forgets.rises)) (omega (arith, forgets.within, may.forgets)) refl _ _)

pub runs_forget : RunsForget
runs_forget base _ _ sound Start = record { rises = omega arith; within = sound.forgotten; living = λ on. absurd (let none : ⊥ = cc in none) }
runs_forget base _ _ sound (Then history more server after runs moves) = moves_forget base server after more moves (runs_forget base history server sound runs)
