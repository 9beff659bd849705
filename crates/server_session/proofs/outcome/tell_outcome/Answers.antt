use Rattle.std.proofs.Common.{sym, ◌∙◌}
use Rattle.ltxid_book.specs.Sessions.{sessions_in}
use Rattle.std.proofs.lemmas.Result.{err_from_is_err_and}
use Rattle.server_session.proofs.Telling.{may_block, tells_as_it_is, tells_blocked, tells_fault}
use Rattle.server_session.proofs.outcome.tell_outcome.Goals as goal

pub block-requires-clause-may : goal.block-requires-clause-may
block-requires-clause-may g c = may_block (sessions_in c.args.core.now.book) c.args.x.now (sym c.decide.ensures ∙ c.in-BlockIt.is)

pub returns-in_err-block-in-BlockIt : goal.returns-in_err-block-in-BlockIt
returns-in_err-block-in-BlockIt g c =
    let state = g.D.Disk.state in
    let p = err_from_is_err_and c.from_residual.result c.from_residual.ensures.1 in
    rw (p.1, p.2) (tells_fault c.args.x.now _ c.args.core.now (state c.args.disk.now) c.block.new.core (state c.block.new.disk) c.requires.fits (sym c.in-BlockIt.is ∙ c.decide.ensures) c.in_err-block-in-BlockIt.ensures)

pub returns-in_ok-block-in-BlockIt : goal.returns-in_ok-block-in-BlockIt
returns-in_ok-block-in-BlockIt g c =
    let state = g.D.Disk.state in
    tells_blocked c.args.x.now c.args.core.now (state c.args.disk.now) c.block.new.core (state c.block.new.disk) c.requires.fits (sym c.in-BlockIt.is ∙ c.decide.ensures) c.in_ok-block-in-BlockIt.ensures

pub returns-in_default : goal.returns-in_default
returns-in_default g c = tells_as_it_is c.args.x.now c.decide.result c.args.core.now (g.D.Disk.state c.args.disk.now) c.requires.fits c.decide.ensures c.in_default.not-BlockIt
