use Rattle.printed_laws.proofs.SerialShown.{serial_shown, fresh_shown}
use Rattle.printed_laws.proofs.LegalShown.{legal_shown}
use Rattle.printed_laws.proofs.OnceShown.{once_shown}
use Rattle.printed_laws.proofs.SameShown.{same_shown}
use Rattle.printed_laws.proofs.StoredShown.{stored_shown}
use Rattle.printed_laws.proofs.EventsShown.{whole_shown}
use Rattle.printed_laws.proofs.laws.clauses_see_no_writes.Goals as goal

pub returns-clause-serial : goal.returns-clause-serial
returns-clause-serial c = serial_shown

pub returns-clause-fresh : goal.returns-clause-fresh
returns-clause-fresh c = fresh_shown

pub returns-clause-legal : goal.returns-clause-legal
returns-clause-legal c = legal_shown

pub returns-clause-once : goal.returns-clause-once
returns-clause-once c = once_shown

pub returns-clause-same : goal.returns-clause-same
returns-clause-same c = same_shown

pub returns-clause-stored : goal.returns-clause-stored
returns-clause-stored c = stored_shown

pub returns-clause-whole : goal.returns-clause-whole
returns-clause-whole c = whole_shown
