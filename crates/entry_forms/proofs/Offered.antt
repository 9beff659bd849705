-- Lemmas on this crate's words that the crates above cite.
-- entries that were read keep to what entries do
pub use Rattle.entry_forms.proofs.ReadEntries.{entries_read}
