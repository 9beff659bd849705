-- What running the statements of a call comes to.
use Rattle.std.specs.Prelude.{ℕ, IsTrue, List, ◌∷◌, ◌++◌, Option, Result, Ok, Err}
use Rattle.std.specs.Option.{option_map}
use Rattle.svc_values.specs.declared.draw.Draw.{Draw}
use Rattle.svc_values.specs.declared.statement.Statement.{Statement}
use Rattle.svc_values.specs.meaning.Fitting.{writes_fit}
use Rattle.svc_values.specs.meaning.SettingsList.{NamedValues}
use Rattle.mutable_values.specs.Sources.{names_of}
use Rattle.stmt_meaning.specs.Asked.{kind_drawn}
use Rattle.stmt_meaning.specs.Drawing.{AreAsked}
use Rattle.stmt_meaning.specs.declared.fault.TxnFault.{TxnFault}
use Rattle.stmt_meaning.specs.declared.fault.TxnFault.TheVariants as txn_fault
use Rattle.table_store.specs.Stored.{Stored}
use Rattle.table_txn.specs.declared.txn.Ran.{Ran}
use Rattle.table_txn.specs.Readings.{StayUnchanged}
use Rattle.table_txn.specs.Transactions.{Transaction, HasRun, meaning}
use Rattle.server_model.specs.declared.fault.ServeFault.{ServeFault}
use Rattle.server_model.specs.declared.fault.ServeFault.TheVariants as fault
use Rattle.server_session.specs.Dealing.{AtDesk, HasDealt, HasHaltedAt}
use Rattle.server_session.specs.Serving.{HasLacked}

-- What a run is over: the committed tables, the session's settings and transaction, and the
-- statements.
pub record Ground : Type 0 where
  pub tables : Stored
  pub settings : NamedValues
  pub txn : Transaction
  pub statements : List Statement

-- which draws are left of given ones, where these begin as the statements ask
abbrev pub left_on : Ground → List (List ℕ) → List Draw → Option (List Draw)
left_on ground names draws = option_map (λ meant. meant.rest)
    (meaning ground.tables names ground.settings ground.txn ground.statements draws)

-- The statements ran: the draws were dealt, and the transaction has what they did. Where each place
-- that it had read had what was read there, each that it has read now has.
pub record HasRunOver (now : ℕ) (ground : Ground) (before : AtDesk) (ran : Ran) (txn : Transaction)
    (after : AtDesk) : Type 0 where
  pub dealt : HasDealt now before ran.draws after
  pub run : HasRun ground.tables (names_of before.opening.sequences) ground.settings ground.txn
      ground.statements ran.answers ran.draws txn
  pub fits : IsTrue (writes_fit ground.tables.schemas txn.writes)
  pub unchanged : StayUnchanged ground.tables.rows ground.txn.readings txn.readings

-- Some of the draws were dealt, and the store was stopped in the next one.
pub record HasHaltedOver (now : ℕ) (ground : Ground) (before after : AtDesk) : Type 0 where
  pub given : List Draw
  pub next : Draw
  pub more : List Draw
  pub between : AtDesk
  pub dealt : HasDealt now before given between
  pub halted : HasHaltedAt now between (kind_drawn next) after
  pub asks : AreAsked (left_on ground (names_of before.opening.sequences)) (given ++ next ∷ more)

-- How many records a run adds: at most one for each value of a sequence, and the one in which it
-- ends.
abbrev pub RunsOver : ℕ → Ground → ℕ → AtDesk → Result Ran ServeFault → Transaction → AtDesk
    → Type 0
RunsOver now ground most before (Ok ran) txn after = HasRunOver now ground before ran txn after
RunsOver now ground most before (Err fault.NoMemory) txn after =
    HasLacked most before.disk after.disk
RunsOver now ground most before (Err fault.Stopped) txn after =
    HasHaltedOver now ground before after

-- a run, with a fault as the session tells it
abbrev pub ended_as : Result Ran TxnFault → Result Ran ServeFault
ended_as (Ok ran) = Ok ran
ended_as (Err txn_fault.NoMemory) = Err fault.NoMemory
ended_as (Err txn_fault.Stopped) = Err fault.Stopped
