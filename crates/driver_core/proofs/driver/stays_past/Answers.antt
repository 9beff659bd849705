use Rattle.std.proofs.Common.{◌≤◌, ℕ, Option, Some, None, arith}
use Rattle.request_bounds.specs.Limits.{IsPast}
use Rattle.driver_core.proofs.driver.stays_past.Goals as goal

past_later : (tick : Option ℕ) (now later : ℕ) → IsPast tick now → now ≤ later → IsPast tick later
past_later None now later past le = tt
past_later (Some tick) now later past le = omega arith

pub returns : goal.returns
returns c talk now later past le = record {
  tried = past_later _ now later past.tried le;
  queued = past_later _ now later past.queued le;
  submitted = past_later _ now later past.submitted le;
}
