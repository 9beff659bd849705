-- Where a server runs on, each frame that was stopped is of an earlier opening.
use Rattle.std.specs.Prelude.{◌≡◌, ◌+◌, ◌<◌, ◌≤◌, ℕ, IsTrue, List, [], ◌∷◌, ◌++◌}
use Rattle.std.proofs.Common.{arith, refl, inl, inr, sym, ap, subst, append-nil}
use Rattle.svc_values.specs.declared.entry.SessionId.{SessionId}
use Rattle.svc_values.specs.declared.frame.Up.{Up}
use Rattle.svc_values.specs.meaning.Identifiers.{session_of}
use Rattle.mutable_values.specs.Sources.{Opening}
use Rattle.server_model.specs.meaning.Base.{Base}
use Rattle.server_model.specs.Base.{IsSound}
use Rattle.server_model.specs.Core.{Core}
use Rattle.server_model.specs.Sessions.{Sess}
use Rattle.server_model.specs.meaning.Outcomes.{Telling, Silent, Says, Stopped}
use Rattle.server_model.specs.Runs.{Happened, Served, Asked, Power, Off, On, Halted, Server, is_answered, Turns, Moves, Makes, Answers, Halts, Loses, AnswersAsk, HaltsInAsk, Reaps, Falls, Opens, StopsOpening, Runs, Start, Then}
use Rattle.server_model.specs.Laws.{AreStoppedBefore, RunsStopped}
use Rattle.server_model.proofs.Stays.{serve_stays, outcomes_stay}
use Rattle.server_model.proofs.Numbers.{Numbered, mine-at, AllMine}
use Rattle.server_model.proofs.NumberRuns.{runs_number}

-- what stopped frames are below
bound : Power → ℕ → ℕ
bound On incarnation = incarnation
bound Off incarnation = incarnation + 1
bound Halted incarnation = incarnation + 1

bound-most : (power : Power) (incarnation : ℕ) → bound power incarnation ≤ incarnation + 1
unfolding bound
bound-most On incarnation = omega arith
bound-most Off incarnation = omega arith
bound-most Halted incarnation = omega arith

still-below : (k m n : ℕ) → k < m → m ≤ n → k < n
still-below k m n below most = omega arith

wider : (m n : ℕ) (history : List Happened) → m ≤ n → AreStoppedBefore m history → AreStoppedBefore n history
wider m n [] most before = tt
wider m n (Served session now frame Stopped ∷ more) most before = (still-below session.incarnation m n before.0 most, wider m n more most before.1)
wider m n (Served session now frame Silent ∷ more) most before = wider m n more most before
wider m n (Served session now frame (Says told) ∷ more) most before = wider m n more most before
wider m n (Asked x told ∷ more) most before = wider m n more most before

joined : (n : ℕ) (history more : List Happened) → AreStoppedBefore n history → AreStoppedBefore n more → AreStoppedBefore n (history ++ more)
joined n [] more before behind = behind
joined n (Served session now frame Stopped ∷ history) more before behind = (before.0, joined n history more before.1 behind)
joined n (Served session now frame Silent ∷ history) more before behind = joined n history more before behind
joined n (Served session now frame (Says told) ∷ history) more before behind = joined n history more before behind
joined n (Asked x told ∷ history) more before behind = joined n history more before behind

none-stopped : (n : ℕ) (session : SessionId) (now : ℕ) (frame : Up) (told : Telling) → IsTrue (is_answered told) → AreStoppedBefore n (Served session now frame told ∷ [])
none-stopped n session now frame Silent is = tt
none-stopped n session now frame (Says told) is = tt
none-stopped n session now frame Stopped is = absurd (let none : ⊥ = cc in none)

itself : (n : ℕ) → n ≤ n
itself n = omega arith

below-next : (a b : ℕ) → a ≡ b → a < b + 1
below-next a b same = omega arith

Moved : List Happened → Server → Type 0
Moved history server = AreStoppedBefore (bound server.power server.core.opening.incarnation) history

-- nothing happened, and the bound is no lower
quietly : (server : Server) (history : List Happened) (power : Power) (incarnation : ℕ) → bound server.power server.core.opening.incarnation ≤ bound power incarnation → Moved history server → AreStoppedBefore (bound power incarnation) (history ++ [])
unfolding Moved
quietly server history power incarnation most before = subst (AreStoppedBefore (bound power incarnation)) (sym (append-nil history)) (wider _ _ history most before)

module _ (base : Base) (server : Server) (history : List Happened) (numbered : Numbered base server) (before : Moved history server) where
  mine : (after : Server) (old new : Sess) (core : Core) (power : Power) → Turns server after old new core power → old.ltxid.incarnation ≡ server.core.opening.incarnation
  mine after old new core power turns = (mine-at server.core server.count turns.front turns.back old (subst (AllMine server.core server.count) turns.split numbered.mine)).incarnation

  -- behind a stop
  halted : (core : Core) (more : List Happened) → core.opening.incarnation ≡ server.core.opening.incarnation → AreStoppedBefore (server.core.opening.incarnation + 1) more → AreStoppedBefore (core.opening.incarnation + 1) (history ++ more)
  unfolding Moved
  halted core more same behind =
      subst (λ n. AreStoppedBefore (n + 1) (history ++ more)) (sym same)
      (joined (server.core.opening.incarnation + 1) history more (wider _ _ history (bound-most server.power server.core.opening.incarnation) before) behind)

  answered : (core : Core) (more : List Happened) → server.power ≡ On → core.opening.incarnation ≡ server.core.opening.incarnation → AreStoppedBefore server.core.opening.incarnation more → AreStoppedBefore core.opening.incarnation (history ++ more)
  unfolding Moved bound
  answered core more on same behind =
      subst (λ n. AreStoppedBefore n (history ++ more)) (sym same)
      (joined server.core.opening.incarnation history more (subst (λ (p : Power). AreStoppedBefore (bound p server.core.opening.incarnation) history) on before) behind)

  turned : (after : Server) (old new : Sess) (core : Core) (power : Power) (more : List Happened) → Turns server after old new core power → AreStoppedBefore (bound power core.opening.incarnation) (history ++ more) → Moved (history ++ more) after
  unfolding Moved
  turned after old new core power more turns is = subst (λ (s : Server). AreStoppedBefore (bound s.power s.core.opening.incarnation) (history ++ more)) (sym turns.turned) is

  moved : (after : Server) (more : List Happened) → Moves server more after → Moved (history ++ more) after
  unfolding Moved bound
  moved _ _ (Makes on) = quietly server history server.power server.core.opening.incarnation (itself (bound server.power server.core.opening.incarnation)) before
  moved _ _ (Answers old new now frame core told after on serve is turns) =
      turned after old new core On _ turns (answered core (Served (session_of old.ltxid) now frame told ∷ []) on (serve_stays server.core old now frame core new told serve).incarnation (none-stopped server.core.opening.incarnation (session_of old.ltxid) now frame told is))
  moved _ _ (Halts old new now frame core told after running serve turns) =
      turned after old new core Halted _ turns (halted core (Served (session_of old.ltxid) now frame Stopped ∷ []) (serve_stays server.core old now frame core new told serve).incarnation (below-next old.ltxid.incarnation server.core.opening.incarnation (mine after old new core Halted turns), tt))
  moved _ _ (Loses old now frame after stopped turns) =
      turned after old _ server.core Halted _ turns (halted server.core (Served (session_of old.ltxid) now frame Stopped ∷ []) refl (below-next old.ltxid.incarnation server.core.opening.incarnation (mine after old _ server.core Halted turns), tt))
  moved _ _ (AnswersAsk x core frame on asks) =
      subst (λ (p : Power). AreStoppedBefore (bound p core.opening.incarnation) (history ++ Asked x (Says frame) ∷ [])) (sym on) (answered core (Asked x (Says frame) ∷ []) on (ap (λ (o : Opening). o.incarnation) (outcomes_stay server.core x core _ asks).1) tt)
  moved _ _ (HaltsInAsk x core told running asks) = halted core (Asked x Stopped ∷ []) (ap (λ (o : Opening). o.incarnation) (outcomes_stay server.core x core told asks).1) tt
  moved _ _ (Reaps front back sess split) = quietly server history server.power server.core.opening.incarnation (itself (bound server.power server.core.opening.incarnation)) before
  moved _ _ Falls = quietly server history Off server.core.opening.incarnation (bound-most server.power server.core.opening.incarnation) before
  moved _ _ (Opens below off may) = quietly server history On (server.core.opening.incarnation + 1) (bound-most server.power server.core.opening.incarnation) before
  moved _ _ (StopsOpening below core off may (inl same)) = quietly server history Off core.opening.incarnation (subst (λ (c : Core). bound server.power server.core.opening.incarnation ≤ c.opening.incarnation + 1) (sym same) (bound-most server.power server.core.opening.incarnation)) before
  moved _ _ (StopsOpening below core off may (inr (inl same))) = quietly server history Off core.opening.incarnation (subst (λ (c : Core). bound server.power server.core.opening.incarnation ≤ c.opening.incarnation + 1) (sym same) (bound-most server.power server.core.opening.incarnation)) before
  moved _ _ (StopsOpening below core off may (inr (inr same))) =
      quietly server history Off core.opening.incarnation (subst (λ (c : Core). bound server.power server.core.opening.incarnation ≤ c.opening.incarnation + 1) (sym same) (let most = bound-most server.power server.core.opening.incarnation in let more : bound server.power server.core.opening.incarnation ≤ server.core.opening.incarnation + 1 + 1 = omega (arith, most) in more)) before

all-moved : (base : Base) (history : List Happened) (server : Server) → IsSound base → Runs base history server → Moved history server
unfolding Moved
all-moved base _ _ sound Start = tt
all-moved base _ _ sound (Then history more server after runs moves) = moved base server history (runs_number base history server sound runs) (all-moved base history server sound runs) after more moves

pub runs_stopped : RunsStopped
unfolding Moved bound
runs_stopped base history server sound runs on =
    subst (λ (p : Power). AreStoppedBefore (bound p server.core.opening.incarnation) history) on (all-moved base history server sound runs)
