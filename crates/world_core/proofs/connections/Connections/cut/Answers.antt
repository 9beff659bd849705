use Rattle.std.proofs.Common.{refl, sym, ap, ◌∙◌}
use Rattle.std.specs.Prelude.{is_some}
use Rattle.world_core.specs.declared.connection.Connection.{Connection}
use Rattle.world_core.proofs.frames.FirstBytes.{cut_at, none_cut, ended_cut}
use Rattle.world_core.proofs.Standing.{cut_at_given, closed_at, not_some, no_link, same_there}
use Rattle.world_core.proofs.connections.Connections.cut.Goals as goal

pub returns-in_err-at-clause-links : goal.returns-in_err-at-clause-links
returns-in_err-at-clause-links c = λ links stands. rw (c.from_residual.ensures, no_link c.args.self.now.all.items links c.args.number c.in_err-at.ensures stands.are) (refl, stands)

pub returns-then-is_some-clause-links : goal.returns-then-is_some-clause-links
returns-then-is_some-clause-links c = λ links stands. rw (closed_at c.args.self.now.all.items c.args.number c.in_ok-at.at c.index.result.now c.in_ok-at.ensures c.index.ensures (sym c.if-is_some.ensures) links stands.are) (refl, stands)

pub returns-clause-links : goal.returns-clause-links
returns-clause-links c = cut_at_given c.args.self.now c.args.number c.in_ok-at.at c.index_mut.result.now c.cut.new.self c.in_ok-at.ensures c.index_mut.ensures.value c.args.event c.args.up c.args.down c.cut.result
    (not_some c.index_mut.result.now.ended (ap (λ (one : Connection). is_some one.ended) (same_there c.args.self.now.all.items c.args.number c.in_ok-at.at c.index_mut.result.now c.index.result.now c.in_ok-at.ensures c.index_mut.ensures.value c.index.ensures) ∙ sym c.if-is_some.ensures))
    c.cut.ensures.link

pub returns-in_err-at-clause-bytes : goal.returns-in_err-at-clause-bytes
returns-in_err-at-clause-bytes c = none_cut c.args.self.now.all.items c.args.self.now.all.items c.args.number c.args.up c.args.down c.in_err-at.ensures

pub returns-then-is_some-clause-bytes : goal.returns-then-is_some-clause-bytes
returns-then-is_some-clause-bytes c = ended_cut c.args.self.now.all.items c.args.self.now.all.items c.args.number c.in_ok-at.at c.index.result.now c.args.up c.args.down c.in_ok-at.ensures c.index.ensures (sym c.if-is_some.ensures)

pub returns-clause-bytes : goal.returns-clause-bytes
returns-clause-bytes c = cut_at c.args.self.now.all.items c.args.number c.in_ok-at.at c.index_mut.result.now c.cut.new.self c.args.up c.args.down c.in_ok-at.ensures c.index_mut.ensures.value c.cut.ensures.bytes
