-- The entries of a run are serial.
use Rattle.std.specs.Prelude.{◌≡◌, List, [], ◌∷◌, ◌++◌}
use Rattle.std.proofs.Common.{refl, inl, inr, sym, ◌∙◌, subst}
use Rattle.svc_values.specs.declared.schema.Shape.{Shape}
use Rattle.svc_values.specs.Tables.{AreTables}
use Rattle.stmt_meaning.specs.meaning.Serial.{Serial}
use Rattle.server_model.specs.meaning.Base.{Base}
use Rattle.server_model.specs.Base.{IsSound}
use Rattle.server_model.specs.Core.{Core, committed}
use Rattle.server_model.specs.Sessions.{Sess, ended}
use Rattle.server_model.specs.Runs.{Happened, Server, Turns, Moves, Makes, Answers, Halts, Loses, AnswersAsk, HaltsInAsk, Reaps, Falls, Opens, StopsOpening, Runs, Start, Then, Off, On, Halted, Power}
use Rattle.server_model.proofs.Ran.{Ran, Ran-none}
use Rattle.server_model.proofs.SerialFrames.{IsSerial, serial_as, SameStore, outcomes_keep, serve_keeps}

-- each session's transaction ran on what was committed
abbrev pub AllRan : Shape → List Sess → Type 0
AllRan shape [] = Unit {0}
AllRan shape (sess ∷ sessions) = Ran shape sess × AllRan shape sessions

pub AllRan-at : (shape : Shape) (front back : List Sess) (sess : Sess) → AllRan shape (front ++ sess ∷ back) → Ran shape sess
AllRan-at shape [] back sess ran = ran.0
AllRan-at shape (first ∷ front) back sess ran = AllRan-at shape front back sess ran.1

pub AllRan-turned : (shape : Shape) (front back : List Sess) (old new : Sess) → AllRan shape (front ++ old ∷ back) → Ran shape new → AllRan shape (front ++ new ∷ back)
AllRan-turned shape [] back old new ran here = (here, ran.1)
AllRan-turned shape (first ∷ front) back old new ran here = (ran.0, AllRan-turned shape front back old new ran.1 here)

pub AllRan-without : (shape : Shape) (front back : List Sess) (old : Sess) → AllRan shape (front ++ old ∷ back) → AllRan shape (front ++ back)
AllRan-without shape [] back old ran = ran.1
AllRan-without shape (first ∷ front) back old ran = (ran.0, AllRan-without shape front back old ran.1)

pub AllRan-more : (shape : Shape) (sessions : List Sess) (new : Sess) → AllRan shape sessions → Ran shape new → AllRan shape (sessions ++ new ∷ [])
AllRan-more shape [] new ran here = (here, tt)
AllRan-more shape (first ∷ sessions) new ran here = (ran.0, AllRan-more shape sessions new ran.1 here)

-- what holds of the server at each moment
pub record Holds (base : Base) (server : Server) : Type 0 where
  pub is : server.core.base ≡ base
  pub serial : IsSerial server.core
  pub ran : AllRan server.core.base.shape server.sessions

-- a session turns, and the core with it
turned : (base : Base) (server after : Server) (old new : Sess) (core : Core) (power : Power) → Holds base server → Turns server after old new core power
    → core.base ≡ server.core.base → IsSerial core → (Ran server.core.base.shape old → Ran server.core.base.shape new) → Holds base after
turned base server after old new core power holds turns same serial goes_on =
    let all : AllRan server.core.base.shape (turns.front ++ old ∷ turns.back) = subst (AllRan server.core.base.shape) turns.split holds.ran in
    let here : Ran server.core.base.shape new = goes_on (AllRan-at server.core.base.shape turns.front turns.back old all) in
    let ran : AllRan server.core.base.shape (turns.front ++ new ∷ turns.back) = AllRan-turned server.core.base.shape turns.front turns.back old new all here in
    let made : Server = record { power = power; core = core; sessions = turns.front ++ new ∷ turns.back; count = server.count } in
    let holds_made : Holds base made = record { is = same ∙ holds.is; serial = serial; ran = subst (λ (b : Base). AllRan b.shape (turns.front ++ new ∷ turns.back)) (sym same) ran } in
    subst (Holds base) (sym turns.turned) holds_made

ordered_in : (base : Base) (server : Server) → AreTables base.tables → Holds base server → AreTables server.core.base.tables
ordered_in base server ordered holds = subst (λ (b : Base). AreTables b.tables) (sym holds.is) ordered

old_ran : (base : Base) (server after : Server) (old new : Sess) (core : Core) (power : Power) → Holds base server → Turns server after old new core power → Ran server.core.base.shape old
old_ran base server after old new core power holds turns = AllRan-at server.core.base.shape turns.front turns.back old (subst (AllRan server.core.base.shape) turns.split holds.ran)

asked : (base : Base) (server : Server) (core : Core) (power : Power) → Holds base server → SameStore server.core core → Holds base (record server { power = power; core = core })
asked base server core power holds same = record {
  is = same.base ∙ holds.is;
  serial = serial_as server.core core same.base same.entries holds.serial;
  ran = subst (λ (b : Base). AllRan b.shape server.sessions) (sym same.base) holds.ran;
}

pub moves_keep : (base : Base) (server after : Server) (more : List Happened) → AreTables base.tables → Holds base server → Moves server more after → Holds base after
moves_keep base server _ _ ordered holds (Makes on) = record { is = holds.is; serial = holds.serial; ran = AllRan-more server.core.base.shape server.sessions _ holds.ran (Ran-none server.core.base.shape _ refl refl refl refl) }
moves_keep base server _ _ ordered holds (Answers old new now frame core told after on serve answered turns) =
    let kept = serve_keeps server.core old now frame core new told (ordered_in base server ordered holds) holds.serial (old_ran base server after old new core On holds turns) serve in
    turned base server after old new core On holds turns kept.base kept.serial (λ ran. kept.ran)
moves_keep base server _ _ ordered holds (Halts old new now frame core told after running serve turns) =
    let kept = serve_keeps server.core old now frame core new told (ordered_in base server ordered holds) holds.serial (old_ran base server after old new core Halted holds turns) serve in
    turned base server after old new core Halted holds turns kept.base kept.serial (λ ran. kept.ran)
moves_keep base server _ _ ordered holds (Loses old now frame after halted turns) = turned base server after old (ended old) server.core Halted holds turns refl holds.serial (λ ran. Ran-none server.core.base.shape _ refl refl refl refl)
moves_keep base server _ _ ordered holds (AnswersAsk x core frame on asks) = asked base server core server.power holds (outcomes_keep server.core x core _ asks)
moves_keep base server _ _ ordered holds (HaltsInAsk x core told running asks) = asked base server core Halted holds (outcomes_keep server.core x core told asks)
moves_keep base server _ _ ordered holds (Reaps front back sess split) = record { is = holds.is; serial = holds.serial; ran = AllRan-without server.core.base.shape front back sess (subst (AllRan server.core.base.shape) split holds.ran) }
moves_keep base server _ _ ordered holds Falls = record { is = holds.is; serial = holds.serial; ran = tt }
moves_keep base server _ _ ordered holds (Opens below off may) = record { is = holds.is; serial = holds.serial; ran = tt }
moves_keep base server _ _ ordered holds (StopsOpening below core off may (inl same)) = subst (λ (c : Core). Holds base (record { power = Off; core = c; sessions = []; count = 0 })) (sym same) (record { is = holds.is; serial = holds.serial; ran = tt })
moves_keep base server _ _ ordered holds (StopsOpening below core off may (inr (inl same))) = subst (λ (c : Core). Holds base (record { power = Off; core = c; sessions = []; count = 0 })) (sym same) (record { is = holds.is; serial = holds.serial; ran = tt })
moves_keep base server _ _ ordered holds (StopsOpening below core off may (inr (inr same))) = subst (λ (c : Core). Holds base (record { power = Off; core = c; sessions = []; count = 0 })) (sym same) (record { is = holds.is; serial = holds.serial; ran = tt })

pub runs_hold : (base : Base) (history : List Happened) (server : Server) → AreTables base.tables → Runs base history server → Holds base server
runs_hold base _ _ ordered Start = record { is = refl; serial = refl; ran = tt }
runs_hold base _ _ ordered (Then history more server after runs moves) = moves_keep base server after more ordered (runs_hold base history server ordered runs) moves

pub runs_serial : (base : Base) (history : List Happened) (server : Server) → IsSound base → Runs base history server → Serial base.shape base.tables server.core.entries (committed server.core)
runs_serial base history server sound runs =
    let holds = runs_hold base history server sound.fitting.ordered runs in
    subst (λ (b : Base). Serial b.shape b.tables server.core.entries (committed server.core)) holds.is holds.serial
