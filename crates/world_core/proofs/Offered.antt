-- Laws of this crate that the crates above cite.

-- a service that is ready stops in no call but under a stop
pub use Rattle.world_core.proofs.Readiness.{stops_only}
-- an event that is no cut
pub use Rattle.world_core.proofs.frames.FirstBytes.{is_cut, never_cuts}
-- one base over several calls of a service
pub use Rattle.world_core.proofs.Bases.{one_base_kept, one_base_on}
