-- What is told of a record that was to be stored.
use Rattle.std.specs.Prelude.{Result, Ok, Err}
use Rattle.redo_store.specs.declared.fault.RedoFault.{RedoFault}
use Rattle.redo_store.specs.declared.fault.RedoFault.TheVariants.{NoMemory, Stopped, Damaged}
use Rattle.server_model.specs.declared.fault.ServeFault.{ServeFault}
use Rattle.server_model.specs.declared.fault.ServeFault.TheVariants as fault

-- a log tells no damage where a record is added
abbrev pub stored_as : Result (Unit {0}) RedoFault → Result (Unit {0}) ServeFault
stored_as (Ok done) = Ok done
stored_as (Err NoMemory) = Err fault.NoMemory
stored_as (Err Stopped) = Err fault.Stopped
stored_as (Err (Damaged place)) = Err fault.NoMemory
