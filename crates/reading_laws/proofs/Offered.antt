-- Lemmas on this crate's words that the crates above cite.

-- a reading that gives only what keeps to something: of what it reads first and then, of members
-- and items, and of lists
pub use Rattle.reading_laws.proofs.IfRead.{IfRead, all_fit, any_kept, array_kept, by_reading, if_kept, list_kept, optional_then_kept, part_then_kept, read_is, read_or_kept, then_kept, weaker, within_kept}
-- a call that was read keeps to the limits of calls, with digits in lower case or in either
pub use Rattle.reading_laws.proofs.CallsKept.{CallKept, call_kept}
