use Rattle.pool_core.proofs.Runs.{takes_fairly, closes_draining, holds_what_is_told}
use Rattle.pool_core.proofs.pool.lends_in_order.Goals as goal

pub returns : goal.returns
returns c = record { takes = takes_fairly; closes = closes_draining; told = holds_what_is_told }
