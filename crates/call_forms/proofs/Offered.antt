-- Lemmas on this crate's words, and on readings, that the crates above cite.
-- a call that was read can be made
pub use Rattle.call_forms.proofs.ReadCalls.{call_read}
-- what holds of each thing that may be there, and what begins with a value that is read alike
pub use Rattle.call_forms.proofs.ListsAhead.{of_each, begins_alike, any_number}
-- an array that begins with a word
pub use Rattle.call_forms.proofs.ItemsAhead.{head_is}
-- a text and a number are each read from one token
pub use Rattle.call_forms.proofs.ValuesAhead.{text_plain, integer_plain}
