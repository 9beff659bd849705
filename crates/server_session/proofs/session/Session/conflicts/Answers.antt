use Rattle.std.proofs.Common.{◌≡◌, true, sym, ◌∙◌, subst}
use Rattle.table_txn.specs.Changes.{is_unwritten}
use Rattle.table_txn.specs.Readings.{IsUnchangedAt, table_in}
use Rattle.table_txn.proofs.Offered.{stands_since}
use Rattle.server_session.specs.SeenSession.{SeenSession}
use Rattle.server_session.proofs.session.Session.conflicts.Goals as goal

pub conflicts-requires : goal.conflicts-requires
conflicts-requires c at known =
    let core = c.args.core.now in
    let seen = c.args.self.now in
    let unwritten = subst (λ (s : SeenSession). is_unwritten core.changes s.since (table_in at) ≡ true) c.self.view_is (sym (c.since.ensures (table_in at)) ∙ known) in
    subst (λ (s : SeenSession). IsUnchangedAt core.tables.rows s.txn.readings at) (sym c.self.view_is)
    (stands_since core.changes core.tables.rows seen.since seen.txn.readings c.requires.holds at unwritten)
