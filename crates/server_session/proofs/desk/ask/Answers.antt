use Rattle.std.proofs.Common.{ap}
use Rattle.std.specs.Prelude.{Err}
use Rattle.server_session.proofs.Reserving.{draws_there}
use Rattle.server_session.proofs.desk.ask.Goals as goal

pub unreachable-requires : goal.unreachable-requires
unreachable-requires c = draws_there c.args.source.now c.args.kept.now c.args.kind.now c.args.now c.requires (c.in-Err-NoSequence.ensures.none.0 (ap Err c.in-Err-NoSequence.field-0-is))
