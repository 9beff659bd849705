-- Lemmas on this crate's words that the crates above cite.

-- each draw is one of these cases, with what it tells and what it leaves
pub use Rattle.mutable_values.proofs.Cases.{DrawsBy, absent, first, ticked, named, valued, reserves, draws_by}
-- the first kept draw of a kind is of the kind
pub use Rattle.mutable_values.proofs.Cases.{first_is_of_kind}
-- what a draw asks for may be reserved after it, as `reserved` needs
pub use Rattle.mutable_values.proofs.Draws.{may_reserve_next}
-- the sequence that is found has the name, and passes each test that all pass
pub use Rattle.mutable_values.proofs.Histories.{found_name}
pub use Rattle.mutable_values.proofs.Given.{found_passes}
-- a value that is given is of the kind and name that is asked for
pub use Rattle.mutable_values.proofs.Given.{gives_as_asked}
-- a draw that asked for a reservation gives a value once it is made
pub use Rattle.mutable_values.proofs.Given.{gives_once_reserved}
-- sequences stay such over draws, and over reservations that may be made
pub use Rattle.mutable_values.proofs.Staying.{sequences_stay}
-- a change of one sequence: what is found afterwards, and that names and keeps stay
pub use Rattle.mutable_values.proofs.Places.{change_of}
pub use Rattle.mutable_values.proofs.Histories.{sequence_changed}
pub use Rattle.mutable_values.proofs.Staying.{tags_changed}
-- the value of a new identifier tells its incarnation and its counter
pub use Rattle.mutable_values.proofs.Identifiers.{same_incarnation, same_counter}
