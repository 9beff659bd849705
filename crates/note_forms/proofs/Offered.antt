-- Lemmas on this crate's words that the crates above cite.
-- served items that were read stand where they may, and keep to what items do
pub use Rattle.note_forms.proofs.ReadItems.{Good, served_read}
