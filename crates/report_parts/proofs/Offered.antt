-- What the crates above use of the proofs on parts.

-- the steps of a client, seen
pub use Rattle.report_parts.proofs.Searches.{steps_mapped}
-- parts, the steps of a client, and the first step of no submission are those of steps without
-- ticks and lost connections
pub use Rattle.report_parts.proofs.KeptPlain.{parts_plain, steps_of_plain, left_plain}
