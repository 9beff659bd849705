use Rattle.std.proofs.Common.{sym, ◌∙◌, ap}
use Rattle.std.proofs.lemmas.Result.{err_from_is_err_and}
use Rattle.ltxid_book.specs.meaning.Sessions.{can_commit}
use Rattle.ltxid_book.specs.Sessions.{sessions_in}
use Rattle.server_session.specs.SeenSession.{SeenSession}
use Rattle.server_session.proofs.Lifting.{lacked_nothing}
use Rattle.server_session.proofs.Reaching.{marked_told, blocked_told, conflict_told, stored_so}
use Rattle.server_session.proofs.session.Session.commit.Goals as goal

pub returns-in_err-told : goal.returns-in_err-told
returns-in_err-told g c =
    let p = err_from_is_err_and c.from_residual.result c.from_residual.ensures.1 in
    rw (p.1, p.2) (lacked_nothing 1 (g.D.Disk.state c.args.disk.now))

pub returns-then-replay : goal.returns-then-replay
returns-then-replay g c =
    marked_told c.args.replay c.args.call.now c.args.answers c.args.draws c.args.core.now (g.D.Disk.state c.args.disk.now) c.args.self.now c.requires.fits c.requires.belongs c.in_ok-told.told c.give_up.new.self c.if-replay.true
    c.in_ok-told.ensures.told c.in_ok-told.ensures.seen

pub returns-then-not-can_commit : goal.returns-then-not-can_commit
returns-then-not-can_commit g c =
    let book = sessions_in c.args.core.now.book in
    blocked_told c.args.replay c.args.call.now c.args.answers c.args.draws c.args.core.now (g.D.Disk.state c.args.disk.now) c.args.self.now c.requires.fits c.requires.belongs c.close.new.self c.if-replay.false c.close.ensures
    (ap (λ (s : SeenSession). can_commit book s.ltxid) (sym c.self.view_is) ∙ sym c.if-not-can_commit.ensures)

pub returns-then-is_some : goal.returns-then-is_some
returns-then-is_some g c =
    let core = c.args.core.now in
    let at = c.conflicts.result in
    conflict_told c.args.replay c.args.call.now c.args.answers c.args.draws core (g.D.Disk.state c.args.disk.now) c.args.self.now c.requires.fits c.requires.belongs c.in_ok-told-2.told c.give_up-then-is_some.new.self at c.if-replay.false
    (ap (λ (s : SeenSession). can_commit (sessions_in core.book) s.ltxid) (sym c.self.view_is) ∙ sym c.if-not-can_commit.ensures)
    c.conflicts.ensures
    (sym c.if-is_some.ensures) c.in_ok-told-2.ensures.told c.in_ok-told-2.ensures.seen

pub returns : goal.returns
returns g c =
    let core = c.args.core.now in
    let state = g.D.Disk.state in
    let at = c.conflicts.result in
    stored_so c.args.replay c.args.call.now c.args.answers c.args.draws core (state c.args.disk.now) c.args.self.now c.requires.fits c.requires.belongs at c.store.result c.store.new.self c.store.new.core (state c.store.new.disk) c.if-replay.false
    (ap (λ (s : SeenSession). can_commit (sessions_in core.book) s.ltxid) (sym c.self.view_is) ∙ sym c.if-not-can_commit.ensures)
    c.conflicts.ensures
    (sym c.if-is_some.ensures) c.store.ensures
