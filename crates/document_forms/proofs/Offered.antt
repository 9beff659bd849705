-- Lemmas on this crate's words, and on readings, that the crates above cite.
-- a reading by steps: a fault of the first one or behind others, and what it gives
pub use Rattle.document_forms.proofs.Steps.{fails_first, fails_after, gives_after}
-- a member that was taken out changes nothing for the others
pub use Rattle.document_forms.proofs.Steps.{optional_apart, at_apart}
-- members that are read one after the other: what stands at a name once one was put there
pub use Rattle.document_forms.proofs.OneByOne.{at_this, at_other}
-- what is not there, and what may be there
pub use Rattle.call_forms.proofs.Offered.{of_each}
pub use Rattle.document_forms.proofs.OneByOne.{none_there, none_left, one_there, may_be_there}
-- the object whose members were passed
pub use Rattle.document_forms.proofs.OneByOne.{members_there, required_there}
-- tables, sequences, the service, clients and events that were read keep to what each of them does
pub use Rattle.document_forms.proofs.ReadSequences.{AreTables, tables_read, no_tables, AreSequences, sequences_read, no_sequences}
pub use Rattle.document_forms.proofs.ReadService.{service_read, usual_is}
pub use Rattle.document_forms.proofs.ReadScripts.{AreClients, clients_read}
pub use Rattle.document_forms.proofs.ReadEvents.{AreEvents, schedule_read, no_events}
-- events that were read before it was known how many clients there are and whether there is a
-- second store
pub use Rattle.document_forms.proofs.Fitting.{as_they_fit}
