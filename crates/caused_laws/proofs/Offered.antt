-- Lemmas on this crate's words that the crates above cite.

-- the judge finds each conversation right, each client whose steps are conversations, and a report
-- of such clients
pub use Rattle.caused_laws.proofs.Judging.{judges_conversation, judges_client, judges_report}
-- a conversation grows by a step
pub use Rattle.caused_laws.proofs.Growing.{tells_more, behind_inputs, behind_steps}
