use Rattle.std.proofs.Common.{◌∙◌, sym}
use Rattle.std.proofs.lemmas.Result.{err_from_is_err_and}
use Rattle.commit_log.specs.declared.records.Record.TheVariants as kept
use Rattle.server_session.proofs.Cores.{block_stores, fault_stores, lacks_with, may_be_blocked, was_added}
use Rattle.server_session.proofs.outcome.block.Goals as goal

pub block-requires-clause-may : goal.block-requires-clause-may
block-requires-clause-may g c = may_be_blocked c.args.core.now (g.D.Disk.state c.args.disk.now) c.args.x.now c.requires.fits c.requires.may

pub returns-in_err-stored : goal.returns-in_err-stored
returns-in_err-stored g c =
    let state = g.D.Disk.state in
    let p = err_from_is_err_and c.from_residual.result c.from_residual.ensures.1 in
    rw (p.1, p.2) (fault_stores c.args.core.now (state c.args.disk.now) (kept.Blocked c.args.x.now) c.block.new.self (state c.block.new.disk) c.block.result _ c.requires.fits (sym c.in_err-stored.was ∙ c.stored.ensures) c.block.ensures)

pub returns-in_err-block : goal.returns-in_err-block
returns-in_err-block g c =
    let state = g.D.Disk.state in
    let one = kept.Blocked c.args.x.now in
    let adds = was_added c.block.new.self (state c.args.disk.now) (state c.block.new.disk) one c.block.result (sym c.in_ok-stored.was ∙ c.stored.ensures) c.block.ensures in
    let p = err_from_is_err_and c.from_residual-in_err-block.result c.from_residual-in_err-block.ensures.1 in
    rw (p.1, p.2) (lacks_with c.block.new.self (state c.args.disk.now) (state c.block.new.disk) one adds)

pub returns : goal.returns
returns g c =
    let state = g.D.Disk.state in
    let one = kept.Blocked c.args.x.now in
    let adds = was_added c.block.new.self (state c.args.disk.now) (state c.block.new.disk) one c.block.result (sym c.in_ok-stored.was ∙ c.stored.ensures) c.block.ensures in
    block_stores c.args.core.now (state c.args.disk.now) c.args.x.now c.block-2.new.self c.block.new.self (state c.block.new.disk) c.requires.fits c.requires.may c.in_ok-block.ensures.ok adds
