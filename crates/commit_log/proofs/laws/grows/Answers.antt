use Rattle.commit_log.proofs.Growing.{grows_by_none, grows_by_more, grows_on, adds_on}
use Rattle.commit_log.proofs.Between.{fronts_are_grown}
use Rattle.commit_log.proofs.laws.grows.Goals as goal

pub returns : goal.returns
returns c = record { none = grows_by_none; more = grows_by_more; on = grows_on; adds = adds_on; fronts = fronts_are_grown }
