pub mod ShownEntries
pub mod SerialShown
pub mod OnceShown
pub mod SameShown
pub mod EventsShown
pub mod StoredShown
pub mod WalksShown
pub mod LegalShown
