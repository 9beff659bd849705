-- Lemmas on this crate's words that the crates above cite.

-- a row that stands at a place has its table and key
pub use Rattle.table_store.proofs.Places.{at_place}
-- a write leaves what stands elsewhere, and has its row at its own place
pub use Rattle.table_store.proofs.Writes.{own_place, filter_with_write}
-- a write behind others
pub use Rattle.table_store.proofs.Keeps.{with_writes-last}
-- names and keys that compare as equal are the same
pub use Rattle.table_store.proofs.Maps.{same_if_equal, equal_if_same, keys_equal, keys_equal_if}
-- tables that fit what is declared fit it after a write that does
pub use Rattle.table_store.proofs.Keeps.{fits_one, fits_if_any}
pub use Rattle.table_store.proofs.Changes.{all_with_write}
-- between which keys the rows stand that may meet a test
pub use Rattle.table_store.proofs.Sought.{first_at, firsts_of_fit, in_sought, sought_forward, sought_skips}
-- rows that are picked by a test and by keys: their order, what is found at a key, and how many
-- they are
pub use Rattle.table_store.proofs.Picked.{apart_at, meeting_at, no_longer, rise_filter, same_keyed, values_meeting}
-- the rows between two ends, of rows in two parts
pub use Rattle.table_store.proofs.Placed.{between_both}
pub use Rattle.table_store.proofs.Rising.{values_keyed}
-- what is found at a key after a change of a map
pub use Rattle.table_store.proofs.ValueCmp.{keyed_changed}
