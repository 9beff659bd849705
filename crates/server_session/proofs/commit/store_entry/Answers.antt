use Rattle.std.proofs.Common.{◌∙◌, sym}
use Rattle.std.proofs.lemmas.Result.{err_from_is_err_and}
use Rattle.commit_log.specs.declared.records.Record.TheVariants as kept
use Rattle.server_session.proofs.Cores.{commit_stores, fault_stores, lacks_with, may_be_stored, was_added}
use Rattle.server_session.proofs.commit.store_entry.Goals as goal

pub commit-requires-clause-may : goal.commit-requires-clause-may
commit-requires-clause-may g c = may_be_stored c.args.core.now (g.D.Disk.state c.args.disk.now) c.args.entry.now c.requires.fits c.requires.here c.requires.may c.requires.writes

pub returns-in_err-stored : goal.returns-in_err-stored
returns-in_err-stored g c =
    let state = g.D.Disk.state in
    let p = err_from_is_err_and c.from_residual.result c.from_residual.ensures.1 in
    rw (p.1, p.2) (fault_stores c.args.core.now (state c.args.disk.now) (kept.Commit c.args.entry.now) c.commit.new.self (state c.commit.new.disk) c.commit.result _ c.requires.fits (sym c.in_err-stored.was ∙ c.stored.ensures) c.commit.ensures)

pub returns-in_err-apply : goal.returns-in_err-apply
returns-in_err-apply g c =
    let state = g.D.Disk.state in
    let one = kept.Commit c.args.entry.now in
    let adds = was_added c.commit.new.self (state c.args.disk.now) (state c.commit.new.disk) one c.commit.result (sym c.in_ok-stored.was ∙ c.stored.ensures) c.commit.ensures in
    let p = err_from_is_err_and c.from_residual-in_err-apply.result c.from_residual-in_err-apply.ensures.1 in
    rw (p.1, p.2) (lacks_with c.commit.new.self (state c.args.disk.now) (state c.commit.new.disk) one adds)

pub returns-in_err-commit : goal.returns-in_err-commit
returns-in_err-commit g c =
    let state = g.D.Disk.state in
    let one = kept.Commit c.args.entry.now in
    let adds = was_added c.commit.new.self (state c.args.disk.now) (state c.commit.new.disk) one c.commit.result (sym c.in_ok-stored.was ∙ c.stored.ensures) c.commit.ensures in
    let p = err_from_is_err_and c.from_residual-in_err-commit.result c.from_residual-in_err-commit.ensures.1 in
    rw (p.1, p.2) (lacks_with c.commit.new.self (state c.args.disk.now) (state c.commit.new.disk) one adds)

pub returns-in_err-note : goal.returns-in_err-note
returns-in_err-note g c =
    let state = g.D.Disk.state in
    let one = kept.Commit c.args.entry.now in
    let adds = was_added c.commit.new.self (state c.args.disk.now) (state c.commit.new.disk) one c.commit.result (sym c.in_ok-stored.was ∙ c.stored.ensures) c.commit.ensures in
    let p = err_from_is_err_and c.from_residual-in_err-note.result c.from_residual-in_err-note.ensures.1 in
    rw (p.1, p.2) (lacks_with c.commit.new.self (state c.args.disk.now) (state c.commit.new.disk) one adds)

pub returns : goal.returns
returns g c =
    let state = g.D.Disk.state in
    let one = kept.Commit c.args.entry.now in
    let adds = was_added c.commit.new.self (state c.args.disk.now) (state c.commit.new.disk) one c.commit.result (sym c.in_ok-stored.was ∙ c.stored.ensures) c.commit.ensures in
    commit_stores c.args.core.now (state c.args.disk.now) c.args.entry.now c.apply.new.self c.note.new.self c.commit-2.new.self c.commit.new.self (state c.commit.new.disk) c.requires.fits c.requires.may c.in_ok-commit.ensures.ok c.in_ok-apply.ensures.ok c.schemas.ensures.kept.ordered c.in_ok-note.ensures adds
